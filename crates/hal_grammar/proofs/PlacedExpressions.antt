-- A tree's place is that of the first word that spells it.
use Rattle.std.proofs.Common.{refl}
use Rattle.hal_base.specs.declared.refusal.Place.{Place}
use Rattle.hal_grammar.specs.Leaves.{Sign, LiteralValue}
use Rattle.hal_grammar.specs.Expressions.{place_of, place_of_reference, Expression, Reference}
use Rattle.hal_grammar.specs.Words.{Words, At}
use Rattle.hal_grammar.specs.SpellsExpressions.{SpellsSign, plus, minus, SpellsLiteral, integer, text, bits, true_bit, false_bit, on_bit, off_bit, SpellsExpression, both, ors, SpellsBoth, comparison, ands, SpellsComparison, cat, compared, SpellsCat, sum, joined, SpellsSum, term, summed, signed, SpellsTerm, factor, multiplied, SpellsFactor, primary, powered, SpellsPrimary, negated, literal, thousandths, referred, called, to_integer, to_bits, to_text, enclosed, SpellsReference, refers}

sign_placed : {s : Sign} {p : Place} {b a : Words} → SpellsSign s p b a → At p b
sign_placed plus = refl
sign_placed minus = refl

literal_placed : {l : LiteralValue} {p : Place} {b a : Words} → SpellsLiteral l p b a → At p b
literal_placed integer = refl
literal_placed text = refl
literal_placed bits = refl
literal_placed true_bit = refl
literal_placed false_bit = refl
literal_placed on_bit = refl
literal_placed off_bit = refl

pub reference_placed : {r : Reference} {b a : Words} → SpellsReference r b a → At (place_of_reference r) b
reference_placed (refers d s) = refl

primary_placed : {t : Expression} {b a : Words} → SpellsPrimary t b a → At (place_of t) b
primary_placed (negated d) = refl
primary_placed (literal l) = literal_placed l
primary_placed thousandths = refl
primary_placed (referred d h) = reference_placed d
primary_placed (called d) = refl
primary_placed (to_integer d) = refl
primary_placed (to_bits d) = refl
primary_placed (to_text d) = refl
primary_placed (enclosed d) = refl

factor_placed : {t : Expression} {b a : Words} → SpellsFactor t b a → At (place_of t) b
factor_placed (primary d) = primary_placed d
factor_placed (powered h d e) = h

term_placed : {t : Expression} {b a : Words} → SpellsTerm t b a → At (place_of t) b
term_placed (factor d) = factor_placed d
term_placed (multiplied h d ds) = h

sum_placed : {t : Expression} {b a : Words} → SpellsSum t b a → At (place_of t) b
sum_placed (term d) = term_placed d
sum_placed (summed h d ds) = h
sum_placed (signed s d ds) = sign_placed s

cat_placed : {t : Expression} {b a : Words} → SpellsCat t b a → At (place_of t) b
cat_placed (sum d) = sum_placed d
cat_placed (joined h d ds) = h

comparison_placed : {t : Expression} {b a : Words} → SpellsComparison t b a → At (place_of t) b
comparison_placed (cat d) = cat_placed d
comparison_placed (compared h d r e) = h

both_placed : {t : Expression} {b a : Words} → SpellsBoth t b a → At (place_of t) b
both_placed (comparison d) = comparison_placed d
both_placed (ands h d ds) = h

pub expression_placed : {t : Expression} {b a : Words} → SpellsExpression t b a → At (place_of t) b
expression_placed (both d) = both_placed d
expression_placed (ors h d ds) = h
