-- Each phrase takes a word at least, and each list none at least.
use Rattle.std.proofs.Common.{◌<◌, ◌≤◌, List, length, arith}
use Rattle.hal_base.specs.declared.refusal.Place.{Place}
use Rattle.hal_grammar.specs.Leaves.{Naming, Sign, Relation, LiteralValue}
use Rattle.hal_grammar.specs.Expressions.{Expression, Expressions, Terms, Reference, Subscript, Subscripts, Sub, Position}
use Rattle.hal_grammar.specs.Words.{Words}
use Rattle.hal_grammar.specs.SpellsExpressions.{SpellsSign, plus, minus, SpellsRelation, equal, less, greater, at_most, at_least, not_equal, not_less, not_greater, SpellsLiteral, integer, text, bits, true_bit, false_bit, on_bit, off_bit, SpellsFurther, no_further, further, SpellsExpression, both, ors, SpellsOrs, no_or, or_more, SpellsBoth, comparison, ands, SpellsAnds, no_and, and_more, SpellsComparison, cat, compared, SpellsCat, sum, joined, SpellsCats, no_cat, cat_more, SpellsSum, term, summed, signed, SpellsTerms, no_terms, more_terms, SpellsTerm, factor, multiplied, SpellsFactors, no_factors, more_factors, SpellsFactor, primary, powered, SpellsPrimary, negated, literal, thousandths, referred, called, to_integer, to_bits, to_text, enclosed, SpellsExpressions, last_expression, more_expressions, SpellsReference, refers, SpellsSubscript, unsubscripted, by_name, by_integer, by_parts, SpellsCopies, copies_then, no_copies, SpellsArrays, arrays_then, no_arrays, SpellsComponents, components_then, no_components, SpellsSubscripts, last_subscript, more_subscripts, SpellsSub, every_place, one_place, range, portion, SpellsPosition, from_beginning, from_end}

pub sign_shorter : {s : Sign} {p : Place} {b a : Words} → SpellsSign s p b a → length a < length b
sign_shorter plus = omega arith
sign_shorter minus = omega arith

pub relation_shorter : {r : Relation} {b a : Words} → SpellsRelation r b a → length a < length b
relation_shorter equal = omega arith
relation_shorter less = omega arith
relation_shorter greater = omega arith
relation_shorter at_most = omega arith
relation_shorter at_least = omega arith
relation_shorter not_equal = omega arith
relation_shorter not_less = omega arith
relation_shorter not_greater = omega arith

pub literal_shorter : {l : LiteralValue} {p : Place} {b a : Words} → SpellsLiteral l p b a → length a < length b
literal_shorter integer = omega arith
literal_shorter text = omega arith
literal_shorter bits = omega arith
literal_shorter true_bit = omega arith
literal_shorter false_bit = omega arith
literal_shorter on_bit = omega arith
literal_shorter off_bit = omega arith

pub further_shorter : {ns : List Naming} {b a : Words} → SpellsFurther ns b a → length a ≤ length b
further_shorter no_further = omega arith
further_shorter (further d) = omega (arith, further_shorter d)

mutual
  pub expression_shorter : {t : Expression} {b a : Words} → SpellsExpression t b a → length a < length b
  expression_shorter (both d) = omega (arith, both_shorter d)
  expression_shorter (ors h d ds) = omega (arith, both_shorter d, ors_shorter ds)

  pub ors_shorter : {ts : Expressions} {b a : Words} → SpellsOrs ts b a → length a ≤ length b
  ors_shorter no_or = omega arith
  ors_shorter (or_more d ds) = omega (arith, both_shorter d, ors_shorter ds)

  pub both_shorter : {t : Expression} {b a : Words} → SpellsBoth t b a → length a < length b
  both_shorter (comparison d) = omega (arith, comparison_shorter d)
  both_shorter (ands h d ds) = omega (arith, comparison_shorter d, ands_shorter ds)

  pub ands_shorter : {ts : Expressions} {b a : Words} → SpellsAnds ts b a → length a ≤ length b
  ands_shorter no_and = omega arith
  ands_shorter (and_more d ds) = omega (arith, comparison_shorter d, ands_shorter ds)

  pub comparison_shorter : {t : Expression} {b a : Words} → SpellsComparison t b a → length a < length b
  comparison_shorter (cat d) = omega (arith, cat_shorter d)
  comparison_shorter (compared h d r e) = omega (arith, cat_shorter d, relation_shorter r, cat_shorter e)

  pub cat_shorter : {t : Expression} {b a : Words} → SpellsCat t b a → length a < length b
  cat_shorter (sum d) = omega (arith, sum_shorter d)
  cat_shorter (joined h d ds) = omega (arith, sum_shorter d, cats_shorter ds)

  pub cats_shorter : {ts : Expressions} {b a : Words} → SpellsCats ts b a → length a ≤ length b
  cats_shorter no_cat = omega arith
  cats_shorter (cat_more d ds) = omega (arith, sum_shorter d, cats_shorter ds)

  pub sum_shorter : {t : Expression} {b a : Words} → SpellsSum t b a → length a < length b
  sum_shorter (term d) = omega (arith, term_shorter d)
  sum_shorter (summed h d ds) = omega (arith, term_shorter d, terms_shorter ds)
  sum_shorter (signed s d ds) = omega (arith, sign_shorter s, term_shorter d, terms_shorter ds)

  pub terms_shorter : {ts : Terms} {b a : Words} → SpellsTerms ts b a → length a ≤ length b
  terms_shorter no_terms = omega arith
  terms_shorter (more_terms s d ds) = omega (arith, sign_shorter s, term_shorter d, terms_shorter ds)

  pub term_shorter : {t : Expression} {b a : Words} → SpellsTerm t b a → length a < length b
  term_shorter (factor d) = omega (arith, factor_shorter d)
  term_shorter (multiplied h d ds) = omega (arith, factor_shorter d, factors_shorter ds)

  pub factors_shorter : {ts : Expressions} {b a : Words} → SpellsFactors ts b a → length a ≤ length b
  factors_shorter no_factors = omega arith
  factors_shorter (more_factors n d ds) = omega (arith, factor_shorter d, factors_shorter ds)

  pub factor_shorter : {t : Expression} {b a : Words} → SpellsFactor t b a → length a < length b
  factor_shorter (primary d) = omega (arith, primary_shorter d)
  factor_shorter (powered h d e) = omega (arith, primary_shorter d, primary_shorter e)

  pub primary_shorter : {t : Expression} {b a : Words} → SpellsPrimary t b a → length a < length b
  primary_shorter (negated d) = omega (arith, primary_shorter d)
  primary_shorter (literal l) = omega (arith, literal_shorter l)
  primary_shorter thousandths = omega arith
  primary_shorter (referred d h) = omega (arith, reference_shorter d)
  primary_shorter (called d) = omega (arith, expressions_shorter d)
  primary_shorter (to_integer d) = omega (arith, expression_shorter d)
  primary_shorter (to_bits d) = omega (arith, expression_shorter d)
  primary_shorter (to_text d) = omega (arith, expression_shorter d)
  primary_shorter (enclosed d) = omega (arith, expression_shorter d)

  pub expressions_shorter : {ts : Expressions} {b a : Words} → SpellsExpressions ts b a → length a < length b
  expressions_shorter (last_expression d) = omega (arith, expression_shorter d)
  expressions_shorter (more_expressions d ds) = omega (arith, expression_shorter d, expressions_shorter ds)

  pub reference_shorter : {r : Reference} {b a : Words} → SpellsReference r b a → length a < length b
  reference_shorter (refers d s) = omega (arith, further_shorter d, subscript_shorter s)

  pub subscript_shorter : {s : Subscript} {b a : Words} → SpellsSubscript s b a → length a ≤ length b
  subscript_shorter unsubscripted = omega arith
  subscript_shorter by_name = omega arith
  subscript_shorter by_integer = omega arith
  subscript_shorter (by_parts h d) = omega (arith, copies_shorter d)

  pub copies_shorter : {cs ys xs : Subscripts} {b a : Words} → SpellsCopies cs ys xs b a → length a ≤ length b
  copies_shorter (copies_then d e) = omega (arith, subscripts_shorter d, arrays_shorter e)
  copies_shorter (no_copies e) = omega (arith, arrays_shorter e)

  pub arrays_shorter : {ys xs : Subscripts} {b a : Words} → SpellsArrays ys xs b a → length a ≤ length b
  arrays_shorter (arrays_then d e) = omega (arith, subscripts_shorter d, components_shorter e)
  arrays_shorter (no_arrays e) = omega (arith, components_shorter e)

  pub components_shorter : {xs : Subscripts} {b a : Words} → SpellsComponents xs b a → length a ≤ length b
  components_shorter (components_then d) = omega (arith, subscripts_shorter d)
  components_shorter no_components = omega arith

  pub subscripts_shorter : {xs : Subscripts} {b a : Words} → SpellsSubscripts xs b a → length a < length b
  subscripts_shorter (last_subscript d) = omega (arith, sub_shorter d)
  subscripts_shorter (more_subscripts d ds) = omega (arith, sub_shorter d, subscripts_shorter ds)

  pub sub_shorter : {x : Sub} {b a : Words} → SpellsSub x b a → length a < length b
  sub_shorter every_place = omega arith
  sub_shorter (one_place d) = omega (arith, position_shorter d)
  sub_shorter (range d e) = omega (arith, position_shorter d, position_shorter e)
  sub_shorter (portion d e) = omega (arith, sum_shorter d, position_shorter e)

  pub position_shorter : {x : Position} {b a : Words} → SpellsPosition x b a → length a < length b
  position_shorter (from_beginning d) = omega (arith, sum_shorter d)
  position_shorter (from_end d) = omega (arith, terms_shorter d)
