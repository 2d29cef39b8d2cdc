-- With which words phrases begin.
use Rattle.std.proofs.Common.{◌≡◌, ◌<◌, ◌≤◌, length, refl, arith}
use Rattle.hal_base.specs.declared.refusal.Place.{Place}
use Rattle.hal_words.specs.declared.reserved.Reserved.TheVariants as reserved
use Rattle.hal_words.specs.declared.word.Symbol.TheVariants as symbol
use Rattle.hal_grammar.specs.Leaves.{Sign, Relation, LiteralValue}
use Rattle.hal_grammar.specs.Expressions.{Expression, Expressions, MoreExpressions, Terms, MoreTerms, Subscript, Subscripts, Sub, Position}
use Rattle.hal_grammar.specs.Words.{Words, reserved_then, symbol_then, begins, BeginsReserved}
use Rattle.hal_grammar.specs.SpellsExpressions.{SpellsSign, plus, minus, SpellsRelation, equal, less, greater, at_most, at_least, not_equal, not_less, not_greater, SpellsLiteral, integer, text, bits, true_bit, false_bit, on_bit, off_bit, SpellsExpression, both, ors, SpellsOrs, no_or, or_more, SpellsBoth, comparison, ands, SpellsAnds, no_and, and_more, SpellsComparison, cat, compared, SpellsCat, sum, joined, SpellsCats, no_cat, cat_more, SpellsSum, term, summed, signed, SpellsTerms, no_terms, more_terms, SpellsTerm, factor, multiplied, SpellsFactors, no_factors, more_factors, SpellsFactor, primary, powered, SpellsPrimary, negated, literal, thousandths, referred, called, to_integer, to_bits, to_text, enclosed, SpellsExpressions, last_expression, more_expressions, SpellsSubscript, unsubscripted, by_name, by_integer, by_parts, SpellsSubscripts, last_subscript, more_subscripts, SpellsSub, one_place, range, portion, SpellsPosition, from_beginning}
use Rattle.hal_grammar.specs.GoesOn.{strength}
use Rattle.hal_grammar.proofs.Outcomes.{Ends, ends_here, ends_later}
use Rattle.hal_grammar.proofs.Shorter.{ors_shorter, ands_shorter, cats_shorter, terms_shorter, factors_shorter, both_shorter, comparison_shorter, sum_shorter, term_shorter, factor_shorter, sign_shorter, copies_shorter}

-- what begins a factor: NOT, or a word of this strength
pub data Opening : Words → Type 0 where
  by_not : {p : Place} {words : Words} → Opening (reserved_then reserved.Not p words)
  by_strength : {words : Words} → strength words ≡ 8 → Opening words

pub Opening-strong : {b : Words} → Opening b → 5 ≤ strength b
Opening-strong by_not = omega arith
Opening-strong (by_strength h) = omega arith

pub Opening-unsigned : {b : Words} → Opening b → strength b ≡ 7 → ⊥
Opening-unsigned by_not h = absurd (omega arith)
Opening-unsigned (by_strength h) k = absurd (omega arith)

pub Opening-later : {b : Words} → Opening b → ¬ BeginsReserved reserved.Not b → strength b ≡ 8
Opening-later by_not n = absurd (n begins)
Opening-later (by_strength h) n = h

pub literal_strength : {l : LiteralValue} {p : Place} {b a : Words} → SpellsLiteral l p b a → strength b ≡ 8
literal_strength integer = refl
literal_strength text = refl
literal_strength bits = refl
literal_strength true_bit = refl
literal_strength false_bit = refl
literal_strength on_bit = refl
literal_strength off_bit = refl

pub sign_strength : {s : Sign} {p : Place} {b a : Words} → SpellsSign s p b a → strength b ≡ 7
sign_strength plus = refl
sign_strength minus = refl

pub relation_strength : {r : Relation} {b a : Words} → SpellsRelation r b a → strength b ≡ 5
relation_strength equal = refl
relation_strength less = refl
relation_strength greater = refl
relation_strength at_most = refl
relation_strength at_least = refl
relation_strength not_equal = refl
relation_strength not_less = refl
relation_strength not_greater = refl

pub primary_opens : {t : Expression} {b a : Words} → SpellsPrimary t b a → Opening b
primary_opens (negated d) = by_not
primary_opens (literal l) = by_strength (literal_strength l)
primary_opens thousandths = by_strength refl
primary_opens (referred d h) = by_strength refl
primary_opens (called d) = by_strength refl
primary_opens (to_integer d) = by_strength refl
primary_opens (to_bits d) = by_strength refl
primary_opens (to_text d) = by_strength refl
primary_opens (enclosed d) = by_strength refl

pub factor_opens : {t : Expression} {b a : Words} → SpellsFactor t b a → Opening b
factor_opens (primary d) = primary_opens d
factor_opens (powered h d e) = primary_opens d

pub term_opens : {t : Expression} {b a : Words} → SpellsTerm t b a → Opening b
term_opens (factor d) = factor_opens d
term_opens (multiplied h d ds) = factor_opens d

pub sum_strong : {t : Expression} {b a : Words} → SpellsSum t b a → 5 ≤ strength b
sum_strong (term d) = Opening-strong (term_opens d)
sum_strong (summed h d ds) = Opening-strong (term_opens d)
sum_strong (signed s d ds) = omega (arith, sign_strength s)

pub cat_strong : {t : Expression} {b a : Words} → SpellsCat t b a → 5 ≤ strength b
cat_strong (sum d) = sum_strong d
cat_strong (joined h d ds) = sum_strong d

pub comparison_strong : {t : Expression} {b a : Words} → SpellsComparison t b a → 5 ≤ strength b
comparison_strong (cat d) = cat_strong d
comparison_strong (compared h d r e) = cat_strong d

pub both_strong : {t : Expression} {b a : Words} → SpellsBoth t b a → 5 ≤ strength b
both_strong (comparison d) = comparison_strong d
both_strong (ands h d ds) = comparison_strong d

-- an expression begins with a sign, or with NOT or another word that begins a factor
pub expression_strong : {t : Expression} {b a : Words} → SpellsExpression t b a → 5 ≤ strength b
expression_strong (both d) = both_strong d
expression_strong (ors h d ds) = both_strong d

pub expressions_strong : {ts : Expressions} {b a : Words} → SpellsExpressions ts b a → 5 ≤ strength b
expressions_strong (last_expression d) = expression_strong d
expressions_strong (more_expressions d ds) = expression_strong d

pub position_not_star : {x : Position} {p : Place} {b a : Words} → SpellsPosition x (symbol_then symbol.Star p b) a → ⊥
position_not_star (from_beginning d) = absurd (omega (arith, sum_strong d))

pub ors_ends : {ts : Expressions} {m a : Words} → SpellsOrs ts m a → Ends 3 m a
ors_ends no_or = ends_here
ors_ends (or_more d ds) = ends_later (omega arith) (omega (arith, both_shorter d, ors_shorter ds))

pub ands_ends : {ts : Expressions} {m a : Words} → SpellsAnds ts m a → Ends 4 m a
ands_ends no_and = ends_here
ands_ends (and_more d ds) = ends_later (omega arith) (omega (arith, comparison_shorter d, ands_shorter ds))

pub cats_ends : {ts : Expressions} {m a : Words} → SpellsCats ts m a → Ends 6 m a
cats_ends no_cat = ends_here
cats_ends (cat_more d ds) = ends_later (omega arith) (omega (arith, sum_shorter d, cats_shorter ds))

pub terms_ends : {ts : Terms} {m a : Words} → SpellsTerms ts m a → Ends 7 m a
terms_ends no_terms = ends_here
terms_ends (more_terms s d ds) = ends_later (omega (arith, sign_strength s)) (omega (arith, sign_shorter s, term_shorter d, terms_shorter ds))

pub factors_ends : {ts : Expressions} {m a : Words} → SpellsFactors ts m a → Ends 8 m a
factors_ends no_factors = ends_here
factors_ends (more_factors n d ds) = ends_later (omega (arith, Opening-later (factor_opens d) n)) (omega (arith, factor_shorter d, factors_shorter ds))

pub subscript_ends : {s : Subscript} {m a : Words} → SpellsSubscript s m a → Ends 10 m a
subscript_ends unsubscripted = ends_here
subscript_ends by_name = ends_later (omega arith) (omega arith)
subscript_ends by_integer = ends_later (omega arith) (omega arith)
subscript_ends (by_parts h d) = ends_later (omega arith) (omega (arith, copies_shorter d))

-- a list that isn't empty begins with its word
pub ors_strength : {u : Expression} {us : Expressions} {m a : Words} → SpellsOrs (MoreExpressions u us) m a → (strength m ≡ 3) × (length a < length m)
ors_strength (or_more d ds) = (refl, omega (arith, both_shorter d, ors_shorter ds))

pub ands_strength : {u : Expression} {us : Expressions} {m a : Words} → SpellsAnds (MoreExpressions u us) m a → (strength m ≡ 4) × (length a < length m)
ands_strength (and_more d ds) = (refl, omega (arith, comparison_shorter d, ands_shorter ds))

pub cats_strength : {u : Expression} {us : Expressions} {m a : Words} → SpellsCats (MoreExpressions u us) m a → (strength m ≡ 6) × (length a < length m)
cats_strength (cat_more d ds) = (refl, omega (arith, sum_shorter d, cats_shorter ds))

pub terms_strength : {q : Place} {s : Sign} {u : Expression} {us : Terms} {m a : Words} → SpellsTerms (MoreTerms q s u us) m a → (strength m ≡ 7) × (length a < length m)
terms_strength (more_terms s d ds) = (sign_strength s, omega (arith, sign_shorter s, term_shorter d, terms_shorter ds))

pub factors_strength : {u : Expression} {us : Expressions} {m a : Words} → SpellsFactors (MoreExpressions u us) m a → (strength m ≡ 8) × (length a < length m)
factors_strength (more_factors n d ds) = (Opening-later (factor_opens d) n, omega (arith, factor_shorter d, factors_shorter ds))

pub position_not_right : {x : Position} {p : Place} {b a : Words} → SpellsPosition x (symbol_then symbol.RightParenthesis p b) a → ⊥
position_not_right (from_beginning d) = absurd (omega (arith, sum_strong d))

pub sub_not_right : {x : Sub} {p : Place} {b a : Words} → SpellsSub x (symbol_then symbol.RightParenthesis p b) a → ⊥
sub_not_right (one_place d) = position_not_right d
sub_not_right (range d e) = position_not_right d
sub_not_right (portion d e) = absurd (omega (arith, sum_strong d))

pub subscripts_not_right : {xs : Subscripts} {p : Place} {b a : Words} → SpellsSubscripts xs (symbol_then symbol.RightParenthesis p b) a → ⊥
subscripts_not_right (last_subscript d) = sub_not_right d
subscripts_not_right (more_subscripts d ds) = sub_not_right d
