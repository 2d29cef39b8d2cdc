-- The phrases of an expression that right words spell.
use Rattle.std.proofs.Common.{ℕ, List, Some, None}
use Rattle.hal_grammar.specs.Leaves.{Naming, naming, Sign, Relation, LiteralValue, ToInteger, ToBits, ToText}
use Rattle.hal_base.specs.declared.refusal.Place.{Place}
use Rattle.hal_grammar.specs.Expressions.{Expression, Or, And, Compare, Cat, Sum, Product, Power, Not, Literal, Decimal, Referred, Called, Convert, Parenthesis, Expressions, MoreExpressions, Terms, MoreTerms, Reference, Refers, Subscript, Subscripts, Sub, Position}
use Rattle.hal_grammar.specs.Words.{Words, begins}
use Rattle.hal_grammar.specs.SpellsExpressions.{SpellsSign, plus, minus, SpellsRelation, equal, less, greater, at_most, at_least, not_equal, not_less, not_greater, SpellsLiteral, integer, text, bits, true_bit, false_bit, on_bit, off_bit, SpellsFurther, no_further, further, SpellsExpression, both, ors, SpellsOrs, no_or, or_more, SpellsBoth, comparison, ands, SpellsAnds, no_and, and_more, SpellsComparison, cat, compared, SpellsCat, sum, joined, SpellsCats, no_cat, cat_more, SpellsSum, term, summed, signed, SpellsTerms, no_terms, more_terms, SpellsTerm, factor, multiplied, SpellsFactors, no_factors, more_factors, SpellsFactor, primary, powered, SpellsPrimary, negated, literal, thousandths, referred, called, to_integer, to_bits, to_text, enclosed, SpellsExpressions, last_expression, more_expressions, SpellsReference, refers, SpellsSubscript, unsubscripted, by_name, by_integer, by_parts, SpellsCopies, copies_then, no_copies, SpellsArrays, arrays_then, no_arrays, SpellsComponents, components_then, no_components, SpellsSubscripts, last_subscript, more_subscripts, SpellsSub, every_place, one_place, range, portion, SpellsPosition, from_beginning, from_end}
use Rattle.hal_phrases.specs.declared.around.Around.{Around}
use Rattle.hal_phrases.specs.declared.role.Role.{Role}
use Rattle.hal_phrases.specs.declared.role.Role.TheVariants as role
use Rattle.hal_phrases.specs.Phrases.{Phrase, OfExpression, OfDecimal, OfCallForm, OfReference, OfSubscriptName}
use Rattle.hal_phrases.specs.Roles as roles
use Rattle.hal_phrases.specs.GatheredExpressions.{below, gathered, gathered_all, gathered_terms, gathered_reference, gathered_subscript, gathered_subs, gathered_sub, gathered_position}
use Rattle.hal_fit_names.specs.Spelled.{IsRightLiteral}
use Rattle.hal_right_images.specs.spelled.Words.{AreRightWords}
use Rattle.hal_right_images.proofs.spelled.Adding as adding
use Rattle.hal_right_images.proofs.spelled.Adding.{Gives, NodeSpelled, behind_one, gives, no_step, one, past}

pub sign_right : {s : Sign} {p : Place} {b a : Words} → SpellsSign s p b a → AreRightWords b → AreRightWords a
sign_right plus right = right.1
sign_right minus right = right.1

relation_right : {r : Relation} {b a : Words} → SpellsRelation r b a → AreRightWords b → AreRightWords a
relation_right equal right = right.1
relation_right less right = right.1
relation_right greater right = right.1
relation_right at_most right = right.1
relation_right at_least right = right.1
relation_right not_equal right = right.1.1
relation_right not_less right = right.1.1
relation_right not_greater right = right.1.1

pub literal_right : {l : LiteralValue} {p : Place} {b a : Words} → SpellsLiteral l p b a → AreRightWords b → IsRightLiteral l × AreRightWords a
literal_right integer right = (right.0, right.1)
literal_right text right = (right.0, right.1)
literal_right bits right = (right.0, right.1)
literal_right true_bit right = (tt, right.1)
literal_right false_bit right = (tt, right.1)
literal_right on_bit right = (tt, right.1)
literal_right off_bit right = (tt, right.1)

further_right : {ns : List Naming} {b a : Words} → SpellsFurther ns b a → AreRightWords b → AreRightWords a
further_right no_further right = right
further_right (further d) right = further_right d right.1.1

-- a list of subscripts isn't empty
reference_spelled : {s : Subscript} {b a : Words} (r : Role) (p : Place) (n : List ℕ) (ns : List Naming) → SpellsSubscript s b a → NodeSpelled (OfReference r (Refers p n ns s))
reference_spelled r p n ns unsubscripted = tt
reference_spelled r p n ns by_name = tt
reference_spelled r p n ns by_integer = tt
reference_spelled r p n ns (by_parts h (copies_then (last_subscript d) e)) = tt
reference_spelled r p n ns (by_parts h (copies_then (more_subscripts d ds) e)) = tt
reference_spelled r p n ns (by_parts h (no_copies (arrays_then (last_subscript d) e))) = tt
reference_spelled r p n ns (by_parts h (no_copies (arrays_then (more_subscripts d ds) e))) = tt
reference_spelled r p n ns (by_parts h (no_copies (no_arrays (components_then (last_subscript d))))) = tt
reference_spelled r p n ns (by_parts h (no_copies (no_arrays (components_then (more_subscripts d ds))))) = tt
reference_spelled r p n ns (by_parts h (no_copies (no_arrays no_components))) = absurd (h begins)

mutual
  unfolding gathered gathered_all gathered_terms gathered_reference gathered_subscript gathered_subs gathered_sub gathered_position

  pub expression_fit : {t : Expression} {b a : Words} → SpellsExpression t b a → AreRightWords b → (d : List Phrase) (o : Around) (r : Role) → Gives d (gathered d o r t) a
  expression_fit (both x) right d o r = both_fit x right d o r
  expression_fit (ors {p = p} {t = t} {u = u} {us = us} h x xs) right d o r =
      behind_one d o (OfExpression r (Or p t (MoreExpressions u us))) tt (adding.and_more (both_fit x right _ (below d o) (roles.under r role.Disjunct)) (λ next. ors_fit xs next _ (below d o) (roles.under r role.Disjunct)))

  ors_fit : {ts : Expressions} {b a : Words} → SpellsOrs ts b a → AreRightWords b → (d : List Phrase) (o : Around) (r : Role) → Gives d (gathered_all d o r ts) a
  ors_fit no_or right d o r = gives _ (no_step d) right
  ors_fit (or_more x xs) right d o r = adding.and_more (both_fit x right.1 d o r) (λ next. ors_fit xs next _ o r)

  both_fit : {t : Expression} {b a : Words} → SpellsBoth t b a → AreRightWords b → (d : List Phrase) (o : Around) (r : Role) → Gives d (gathered d o r t) a
  both_fit (comparison x) right d o r = comparison_fit x right d o r
  both_fit (ands {p = p} {t = t} {u = u} {us = us} h x xs) right d o r =
      behind_one d o (OfExpression r (And p t (MoreExpressions u us))) tt (adding.and_more (comparison_fit x right _ (below d o) (roles.under r role.Conjunct)) (λ next. ands_fit xs next _ (below d o) (roles.under r role.Conjunct)))

  ands_fit : {ts : Expressions} {b a : Words} → SpellsAnds ts b a → AreRightWords b → (d : List Phrase) (o : Around) (r : Role) → Gives d (gathered_all d o r ts) a
  ands_fit no_and right d o r = gives _ (no_step d) right
  ands_fit (and_more x xs) right d o r = adding.and_more (comparison_fit x right.1 d o r) (λ next. ands_fit xs next _ o r)

  comparison_fit : {t : Expression} {b a : Words} → SpellsComparison t b a → AreRightWords b → (d : List Phrase) (o : Around) (r : Role) → Gives d (gathered d o r t) a
  comparison_fit (cat x) right d o r = cat_fit x right d o r
  comparison_fit (compared {p = p} {t = t} {u = u} {r = relation} h x s y) right d o r =
      behind_one d o (OfExpression r (Compare p t relation u)) tt (adding.and_more (cat_fit x right _ (below d o) role.Compared) (λ next. cat_fit y (relation_right s next) _ (below d o) role.Compared))

  cat_fit : {t : Expression} {b a : Words} → SpellsCat t b a → AreRightWords b → (d : List Phrase) (o : Around) (r : Role) → Gives d (gathered d o r t) a
  cat_fit (sum x) right d o r = sum_fit x right d o r
  cat_fit (joined {p = p} {t = t} {u = u} {us = us} h x xs) right d o r =
      behind_one d o (OfExpression r (Cat p t (MoreExpressions u us))) tt (adding.and_more (sum_fit x right _ (below d o) role.Joined) (λ next. cats_fit xs next _ (below d o) role.Joined))

  cats_fit : {ts : Expressions} {b a : Words} → SpellsCats ts b a → AreRightWords b → (d : List Phrase) (o : Around) (r : Role) → Gives d (gathered_all d o r ts) a
  cats_fit no_cat right d o r = gives _ (no_step d) right
  cats_fit (cat_more x xs) right d o r = adding.and_more (sum_fit x right.1 d o r) (λ next. cats_fit xs next _ o r)

  sum_fit : {t : Expression} {b a : Words} → SpellsSum t b a → AreRightWords b → (d : List Phrase) (o : Around) (r : Role) → Gives d (gathered d o r t) a
  sum_fit (term x) right d o r = term_fit x right d o r
  sum_fit (summed {p = p} {q = q} {s = s} {t = t} {u = u} {us = us} h x xs) right d o r =
      behind_one d o (OfExpression r (Sum p None t (MoreTerms q s u us))) tt (adding.and_more (term_fit x right _ (below d o) role.Summand) (λ next. terms_fit xs next _ (below d o)))
  sum_fit (signed {p = p} {s = s} {t = t} {us = us} g x xs) right d o r =
      behind_one d o (OfExpression r (Sum p (Some s) t us)) tt (adding.and_more (term_fit x (sign_right g right) _ (below d o) role.Summand) (λ next. terms_fit xs next _ (below d o)))

  terms_fit : {ts : Terms} {b a : Words} → SpellsTerms ts b a → AreRightWords b → (d : List Phrase) (o : Around) → Gives d (gathered_terms d o ts) a
  terms_fit no_terms right d o = gives _ (no_step d) right
  terms_fit (more_terms g x xs) right d o = adding.and_more (term_fit x (sign_right g right) d o role.Summand) (λ next. terms_fit xs next _ o)

  term_fit : {t : Expression} {b a : Words} → SpellsTerm t b a → AreRightWords b → (d : List Phrase) (o : Around) (r : Role) → Gives d (gathered d o r t) a
  term_fit (factor x) right d o r = factor_fit x right d o r
  term_fit (multiplied {p = p} {t = t} {u = u} {us = us} h x xs) right d o r =
      behind_one d o (OfExpression r (Product p t (MoreExpressions u us))) tt (adding.and_more (factor_fit x right _ (below d o) role.Factor) (λ next. factors_fit xs next _ (below d o) role.Factor))

  factors_fit : {ts : Expressions} {b a : Words} → SpellsFactors ts b a → AreRightWords b → (d : List Phrase) (o : Around) (r : Role) → Gives d (gathered_all d o r ts) a
  factors_fit no_factors right d o r = gives _ (no_step d) right
  factors_fit (more_factors h x xs) right d o r = adding.and_more (factor_fit x right d o r) (λ next. factors_fit xs next _ o r)

  factor_fit : {t : Expression} {b a : Words} → SpellsFactor t b a → AreRightWords b → (d : List Phrase) (o : Around) (r : Role) → Gives d (gathered d o r t) a
  factor_fit (primary x) right d o r = primary_fit x right d o r
  factor_fit (powered {p = p} {t = t} {u = u} h x y) right d o r =
      behind_one d o (OfExpression r (Power p t u)) tt (adding.and_more (primary_fit x right _ (below d o) role.Base) (λ next. primary_fit y next.1 _ (below d o) role.Exponent))

  primary_fit : {t : Expression} {b a : Words} → SpellsPrimary t b a → AreRightWords b → (d : List Phrase) (o : Around) (r : Role) → Gives d (gathered d o r t) a
  primary_fit (negated {p = p} {t = t} x) right d o r = behind_one d o (OfExpression r (Not p t)) tt (primary_fit x right.1 _ (below d o) (roles.under r role.Negated))
  primary_fit (literal {p = p} {l = l} x) right d o r = let found = literal_right x right in gives _ (one d o (OfExpression r (Literal p l)) found.0) found.1
  primary_fit (thousandths {p = p} {n = n}) right d o r = behind_one d o (OfExpression r (Decimal p n)) right.0 (gives _ (one _ (below d o) (OfDecimal r p) tt) right.1)
  primary_fit (referred {r = reference} x h) right d o r = behind_one d o (OfExpression r (Referred reference)) tt (reference_fit x right _ (below d o) r)
  primary_fit (called {p = p} {n = n} {ts = ts} x) right d o r =
      behind_one d o (OfExpression r (Called p n ts)) tt (behind_one _ (below d o) (OfCallForm p n ts) tt (past (expressions_fit x right.1.1 _ (below d o) role.Argument)))
  primary_fit (to_integer {p = p} {t = t} x) right d o r =
      behind_one d o (OfExpression r (Convert p ToInteger t)) tt (past (expression_fit x right.1.1 _ (below d o) (roles.of_conversion ToInteger)))
  primary_fit (to_bits {p = p} {t = t} x) right d o r =
      behind_one d o (OfExpression r (Convert p ToBits t)) tt (past (expression_fit x right.1.1 _ (below d o) (roles.of_conversion ToBits)))
  primary_fit (to_text {p = p} {t = t} x) right d o r =
      behind_one d o (OfExpression r (Convert p ToText t)) tt (past (expression_fit x right.1.1 _ (below d o) (roles.of_conversion ToText)))
  primary_fit (enclosed {p = p} {t = t} x) right d o r =
      behind_one d o (OfExpression r (Parenthesis p t)) tt (past (expression_fit x right.1 _ (below d o) (roles.under r role.Enclosed)))

  pub expressions_fit : {ts : Expressions} {b a : Words} → SpellsExpressions ts b a → AreRightWords b → (d : List Phrase) (o : Around) (r : Role) → Gives d (gathered_all d o r ts) a
  expressions_fit (last_expression x) right d o r = expression_fit x right d o r
  expressions_fit (more_expressions x xs) right d o r = adding.and_more (expression_fit x right d o r) (λ next. expressions_fit xs next.1 _ o r)

  pub reference_fit : {x : Reference} {b a : Words} → SpellsReference x b a → AreRightWords b → (d : List Phrase) (o : Around) (r : Role) → Gives d (gathered_reference d o r x) a
  reference_fit (refers {p = p} {n = n} {ns = ns} {s = s} x y) right d o r =
      behind_one d o (OfReference r (Refers p n ns s)) (reference_spelled r p n ns y) (subscript_fit y (further_right x right.1) _ (below d o))

  subscript_fit : {s : Subscript} {b a : Words} → SpellsSubscript s b a → AreRightWords b → (d : List Phrase) (o : Around) → Gives d (gathered_subscript d o s) a
  subscript_fit unsubscripted right d o = gives _ (no_step d) right
  subscript_fit (by_name {q = q} {n = n}) right d o = gives _ (one d o (OfSubscriptName (naming q n)) tt) right.1.1
  subscript_fit by_integer right d o = gives _ (no_step d) right.1.1
  subscript_fit (by_parts h x) right d o = past (copies_fit x right.1.1 d o)

  copies_fit : {cs ys xs : Subscripts} {b a : Words} → SpellsCopies cs ys xs b a → AreRightWords b → (d : List Phrase) (o : Around)
      → Gives d (gathered_subs (gathered_subs (gathered_subs d o role.CopySubscript cs) o role.ArraySubscript ys) o role.ComponentSubscript xs) a
  copies_fit (copies_then x y) right d o = adding.and_more (subscripts_fit x right d o role.CopySubscript) (λ next. arrays_fit y next.1 _ o)
  copies_fit (no_copies y) right d o = arrays_fit y right d o

  arrays_fit : {ys xs : Subscripts} {b a : Words} → SpellsArrays ys xs b a → AreRightWords b → (d : List Phrase) (o : Around) → Gives d (gathered_subs (gathered_subs d o role.ArraySubscript ys) o role.ComponentSubscript xs) a
  arrays_fit (arrays_then x y) right d o = adding.and_more (subscripts_fit x right d o role.ArraySubscript) (λ next. components_fit y next.1 _ o)
  arrays_fit (no_arrays y) right d o = components_fit y right d o

  components_fit : {xs : Subscripts} {b a : Words} → SpellsComponents xs b a → AreRightWords b → (d : List Phrase) (o : Around) → Gives d (gathered_subs d o role.ComponentSubscript xs) a
  components_fit (components_then x) right d o = subscripts_fit x right d o role.ComponentSubscript
  components_fit no_components right d o = gives _ (no_step d) right

  subscripts_fit : {xs : Subscripts} {b a : Words} → SpellsSubscripts xs b a → AreRightWords b → (d : List Phrase) (o : Around) (r : Role) → Gives d (gathered_subs d o r xs) a
  subscripts_fit (last_subscript x) right d o r = sub_fit x right d o r
  subscripts_fit (more_subscripts x xs) right d o r = adding.and_more (sub_fit x right d o r) (λ next. subscripts_fit xs next.1 _ o r)

  sub_fit : {x : Sub} {b a : Words} → SpellsSub x b a → AreRightWords b → (d : List Phrase) (o : Around) (r : Role) → Gives d (gathered_sub d o r x) a
  sub_fit every_place right d o r = gives _ (no_step d) right.1
  sub_fit (one_place x) right d o r = position_fit x right d o r
  sub_fit (range x y) right d o r = adding.and_more (position_fit x right d o r) (λ next. position_fit y next.1 _ o r)
  sub_fit (portion x y) right d o r = adding.and_more (sum_fit x right d o r) (λ next. position_fit y next.1 _ o r)

  position_fit : {x : Position} {b a : Words} → SpellsPosition x b a → AreRightWords b → (d : List Phrase) (o : Around) (r : Role) → Gives d (gathered_position d o r x) a
  position_fit (from_beginning x) right d o r = sum_fit x right d o r
  position_fit (from_end x) right d o r = terms_fit x right.1 d o
