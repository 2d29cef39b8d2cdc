-- The same words spell one expression, or one of two expressions ends sooner, at a word with which it goes on.
use Rattle.std.proofs.Common.{◌≡◌, refl, ap, ap₂, sym, arith, Option, Some}
use Rattle.hal_base.specs.declared.refusal.Place.{Place}
use Rattle.hal_grammar.specs.Leaves.{Sign, Relation, LiteralValue, ToInteger, ToBits, ToText}
use Rattle.hal_grammar.specs.Expressions.{Expression, Or, And, Compare, Cat, Sum, Product, Power, Not, Literal, Referred, Called, Convert, Parenthesis, Expressions, NoExpressions, MoreExpressions, Terms, MoreTerms, Reference, Refers, Subscript, ByParts, Subscripts, NoSubscripts, MoreSubscripts, Sub, One, Range, Portion, Position, FromBeginning, FromEnd}
use Rattle.hal_grammar.specs.Words.{Words, begins}
use Rattle.hal_grammar.specs.SpellsExpressions.{SpellsRelation, no_further, name_alone, SpellsExpression, both, ors, SpellsOrs, no_or, or_more, SpellsBoth, comparison, ands, SpellsAnds, no_and, and_more, SpellsComparison, cat, compared, SpellsCat, sum, joined, SpellsCats, no_cat, cat_more, SpellsSum, term, summed, signed, SpellsTerms, no_terms, more_terms, SpellsTerm, factor, multiplied, SpellsFactors, no_factors, more_factors, SpellsFactor, primary, powered, SpellsPrimary, negated, literal, thousandths, referred, called, to_integer, to_bits, to_text, enclosed, SpellsExpressions, last_expression, more_expressions, SpellsReference, refers, SpellsSubscript, unsubscripted, by_name, by_integer, by_parts, SpellsCopies, copies_then, no_copies, SpellsArrays, arrays_then, no_arrays, SpellsComponents, components_then, no_components, SpellsSubscripts, last_subscript, more_subscripts, SpellsSub, every_place, one_place, range, portion, SpellsPosition, from_beginning, from_end}
use Rattle.hal_grammar.specs.GoesOn.{Outcome, same, sooner, later}
use Rattle.hal_grammar.proofs.Outcomes.{same_place, back, back₂, weaken, made, until, longer_left, longer_right, item_then, tail_same}
use Rattle.hal_grammar.proofs.Shorter.{both_shorter, ors_shorter, comparison_shorter, ands_shorter, cat_shorter, sum_shorter, cats_shorter, term_shorter, terms_shorter, factor_shorter, factors_shorter, primary_shorter, expressions_shorter, sign_shorter, relation_shorter, copies_shorter, position_shorter, subscripts_shorter}
use Rattle.hal_grammar.proofs.Beginnings.{Opening-unsigned, Opening-later, sign_strength, relation_strength, term_opens, factor_opens, sum_strong, ors_ends, ands_ends, cats_ends, terms_ends, factors_ends, subscript_ends, ors_strength, ands_strength, cats_strength, terms_strength, factors_strength, position_not_star, subscripts_not_right}
use Rattle.hal_grammar.proofs.Leaves.{one_sign, one_relation, one_literal, one_further, literal_begins, semicolon_colon, semicolon_right, colon_right, to_at}

ors_same : {p q : Place} {t u : Expression} {ts us : Expressions} → p ≡ q → t ≡ u → ts ≡ us → Or p t ts ≡ Or q u us
ors_same e f g = cc

ands_same : {p q : Place} {t u : Expression} {ts us : Expressions} → p ≡ q → t ≡ u → ts ≡ us → And p t ts ≡ And q u us
ands_same e f g = cc

cats_same : {p q : Place} {t u : Expression} {ts us : Expressions} → p ≡ q → t ≡ u → ts ≡ us → Cat p t ts ≡ Cat q u us
cats_same e f g = cc

factors_same : {p q : Place} {t u : Expression} {ts us : Expressions} → p ≡ q → t ≡ u → ts ≡ us → Product p t ts ≡ Product q u us
factors_same e f g = cc

summed_same : {p q : Place} {s z : Option Sign} {t u : Expression} {ts us : Terms} → p ≡ q → s ≡ z → t ≡ u → ts ≡ us → Sum p s t ts ≡ Sum q z u us
summed_same e f g h = cc

terms_same : {p q : Place} {s z : Sign} {t u : Expression} {ts us : Terms} → p ≡ q → s ≡ z → t ≡ u → ts ≡ us → MoreTerms p s t ts ≡ MoreTerms q z u us
terms_same e f g h = cc

compared_same : {p q : Place} {r s : Relation} {t u v w : Expression} → p ≡ q → t ≡ u → r ≡ s → v ≡ w → Compare p t r v ≡ Compare q u s w
compared_same e f g h = cc

powered_same : {p q : Place} {t u v w : Expression} → p ≡ q → t ≡ u → v ≡ w → Power p t v ≡ Power q u w
powered_same e f g = cc

literally_same : {p q : Place} {l m : LiteralValue} → p ≡ q → l ≡ m → Literal p l ≡ Literal q m
literally_same e f = cc

parts_same : {p : Place} {xs ys us vs ss ts : Subscripts} → xs ≡ ys → us ≡ vs → ss ≡ ts → ByParts p xs us ss ≡ ByParts p ys vs ts
parts_same e f g = cc

mutual
  pub one_expression : {t u : Expression} {b a c : Words} → SpellsExpression t b a → SpellsExpression u b c → Outcome 2 t a u c
  one_expression (both d) (both e) = weaken (omega arith) (one_both d e)
  one_expression (both d) (ors i e es) = let (s, l) = ors_strength es in longer_right (one_both d e) (omega arith) (omega arith) l
  one_expression (ors h d ds) (both e) = let (s, l) = ors_strength ds in longer_left (one_both d e) (omega arith) (omega arith) l
  one_expression {b = b} (ors {t = t} h d ds) (ors i e es) =
      item_then (omega arith) (one_both d e) (ors_ends ds) (ors_ends es)
      (λ p q. made (omega arith) (λ r. ors_same (same_place b h i) p r) (one_ors ds (back SpellsOrs q es)))

  pub one_ors : {ts us : Expressions} {b a c : Words} → SpellsOrs ts b a → SpellsOrs us b c → Outcome 2 ts a us c
  one_ors no_or no_or = same refl refl
  one_ors no_or (or_more e es) = sooner (omega arith) (omega (arith, both_shorter e, ors_shorter es))
  one_ors (or_more d ds) no_or = later (omega arith) (omega (arith, both_shorter d, ors_shorter ds))
  one_ors (or_more d ds) (or_more e es) =
      item_then (omega arith) (one_both d e) (ors_ends ds) (ors_ends es)
      (λ p q. made (omega arith) (λ r. ap₂ MoreExpressions p r) (one_ors ds (back SpellsOrs q es)))

  pub one_both : {t u : Expression} {b a c : Words} → SpellsBoth t b a → SpellsBoth u b c → Outcome 3 t a u c
  one_both (comparison d) (comparison e) = weaken (omega arith) (one_comparison d e)
  one_both (comparison d) (ands i e es) = let (s, l) = ands_strength es in longer_right (one_comparison d e) (omega arith) (omega arith) l
  one_both (ands h d ds) (comparison e) = let (s, l) = ands_strength ds in longer_left (one_comparison d e) (omega arith) (omega arith) l
  one_both {b = b} (ands {t = t} h d ds) (ands i e es) =
      item_then (omega arith) (one_comparison d e) (ands_ends ds) (ands_ends es)
      (λ p q. made (omega arith) (λ r. ands_same (same_place b h i) p r) (one_ands ds (back SpellsAnds q es)))

  pub one_ands : {ts us : Expressions} {b a c : Words} → SpellsAnds ts b a → SpellsAnds us b c → Outcome 3 ts a us c
  one_ands no_and no_and = same refl refl
  one_ands no_and (and_more e es) = sooner (omega arith) (omega (arith, comparison_shorter e, ands_shorter es))
  one_ands (and_more d ds) no_and = later (omega arith) (omega (arith, comparison_shorter d, ands_shorter ds))
  one_ands (and_more d ds) (and_more e es) =
      item_then (omega arith) (one_comparison d e) (ands_ends ds) (ands_ends es)
      (λ p q. made (omega arith) (λ r. ap₂ MoreExpressions p r) (one_ands ds (back SpellsAnds q es)))

  pub one_comparison : {t u : Expression} {b a c : Words} → SpellsComparison t b a → SpellsComparison u b c → Outcome 4 t a u c
  one_comparison (cat d) (cat e) = weaken (omega arith) (one_cat d e)
  one_comparison (cat d) (compared i e s f) = longer_right (one_cat d e) (omega (arith, relation_strength s)) (omega (arith, relation_strength s)) (omega (arith, relation_shorter s, cat_shorter f))
  one_comparison (compared h d r f) (cat e) = longer_left (one_cat d e) (omega (arith, relation_strength r)) (omega (arith, relation_strength r)) (omega (arith, relation_shorter r, cat_shorter f))
  one_comparison {b = b} (compared h d r f) (compared i e s g) =
      let (p, q) = until (one_cat d e) (omega (arith, relation_strength r)) (omega (arith, relation_strength s)) in
      let (v, w) = one_relation r (back SpellsRelation q s) in
      made (omega arith) (λ x. compared_same (same_place b h i) p v x) (one_cat f (back SpellsCat w g))

  pub one_cat : {t u : Expression} {b a c : Words} → SpellsCat t b a → SpellsCat u b c → Outcome 5 t a u c
  one_cat (sum d) (sum e) = weaken (omega arith) (one_sum d e)
  one_cat (sum d) (joined i e es) = let (s, l) = cats_strength es in longer_right (one_sum d e) (omega arith) (omega arith) l
  one_cat (joined h d ds) (sum e) = let (s, l) = cats_strength ds in longer_left (one_sum d e) (omega arith) (omega arith) l
  one_cat {b = b} (joined {t = t} h d ds) (joined i e es) =
      item_then (omega arith) (one_sum d e) (cats_ends ds) (cats_ends es)
      (λ p q. made (omega arith) (λ r. cats_same (same_place b h i) p r) (one_cats ds (back SpellsCats q es)))

  pub one_cats : {ts us : Expressions} {b a c : Words} → SpellsCats ts b a → SpellsCats us b c → Outcome 5 ts a us c
  one_cats no_cat no_cat = same refl refl
  one_cats no_cat (cat_more e es) = sooner (omega arith) (omega (arith, sum_shorter e, cats_shorter es))
  one_cats (cat_more d ds) no_cat = later (omega arith) (omega (arith, sum_shorter d, cats_shorter ds))
  one_cats (cat_more d ds) (cat_more e es) =
      item_then (omega arith) (one_sum d e) (cats_ends ds) (cats_ends es)
      (λ p q. made (omega arith) (λ r. ap₂ MoreExpressions p r) (one_cats ds (back SpellsCats q es)))

  pub one_sum : {t u : Expression} {b a c : Words} → SpellsSum t b a → SpellsSum u b c → Outcome 6 t a u c
  one_sum (term d) (term e) = weaken (omega arith) (one_term d e)
  one_sum (term d) (summed i e es) = let (s, l) = terms_strength es in longer_right (one_term d e) (omega arith) (omega arith) l
  one_sum (term d) (signed s e es) = absurd (Opening-unsigned (term_opens d) (sign_strength s))
  one_sum (summed h d ds) (term e) = let (s, l) = terms_strength ds in longer_left (one_term d e) (omega arith) (omega arith) l
  one_sum {b = b} (summed h d ds) (summed i e es) =
      item_then (omega arith) (one_term d e) (terms_ends ds) (terms_ends es)
      (λ p q. made (omega arith) (λ r. summed_same (same_place b h i) refl p r) (one_terms ds (back SpellsTerms q es)))
  one_sum (summed h d ds) (signed s e es) = absurd (Opening-unsigned (term_opens d) (sign_strength s))
  one_sum (signed s d ds) (term e) = absurd (Opening-unsigned (term_opens e) (sign_strength s))
  one_sum (signed s d ds) (summed i e es) = absurd (Opening-unsigned (term_opens e) (sign_strength s))
  one_sum (signed s d ds) (signed z e es) =
      let (v, w, x) = one_sign s z in
      item_then (omega arith) (one_term d (back SpellsTerm x e)) (terms_ends ds) (terms_ends es)
      (λ p q. made (omega arith) (λ r. summed_same w (ap Some v) p r) (one_terms ds (back SpellsTerms q es)))

  pub one_terms : {ts us : Terms} {b a c : Words} → SpellsTerms ts b a → SpellsTerms us b c → Outcome 6 ts a us c
  one_terms no_terms no_terms = same refl refl
  one_terms no_terms (more_terms s e es) = sooner (omega (arith, sign_strength s)) (omega (arith, sign_shorter s, term_shorter e, terms_shorter es))
  one_terms (more_terms s d ds) no_terms = later (omega (arith, sign_strength s)) (omega (arith, sign_shorter s, term_shorter d, terms_shorter ds))
  one_terms (more_terms s d ds) (more_terms z e es) =
      let (v, w, x) = one_sign s z in
      item_then (omega arith) (one_term d (back SpellsTerm x e)) (terms_ends ds) (terms_ends es)
      (λ p q. made (omega arith) (λ r. terms_same w v p r) (one_terms ds (back SpellsTerms q es)))

  pub one_term : {t u : Expression} {b a c : Words} → SpellsTerm t b a → SpellsTerm u b c → Outcome 7 t a u c
  one_term (factor d) (factor e) = weaken (omega arith) (one_factor d e)
  one_term (factor d) (multiplied i e es) = let (s, l) = factors_strength es in longer_right (one_factor d e) (omega arith) (omega arith) l
  one_term (multiplied h d ds) (factor e) = let (s, l) = factors_strength ds in longer_left (one_factor d e) (omega arith) (omega arith) l
  one_term {b = b} (multiplied {t = t} h d ds) (multiplied i e es) =
      item_then (omega arith) (one_factor d e) (factors_ends ds) (factors_ends es)
      (λ p q. made (omega arith) (λ r. factors_same (same_place b h i) p r) (one_factors ds (back SpellsFactors q es)))

  pub one_factors : {ts us : Expressions} {b a c : Words} → SpellsFactors ts b a → SpellsFactors us b c → Outcome 7 ts a us c
  one_factors no_factors no_factors = same refl refl
  one_factors no_factors (more_factors n e es) = sooner (omega (arith, Opening-later (factor_opens e) n)) (omega (arith, factor_shorter e, factors_shorter es))
  one_factors (more_factors n d ds) no_factors = later (omega (arith, Opening-later (factor_opens d) n)) (omega (arith, factor_shorter d, factors_shorter ds))
  one_factors (more_factors n d ds) (more_factors m e es) =
      item_then (omega arith) (one_factor d e) (factors_ends ds) (factors_ends es)
      (λ p q. made (omega arith) (λ r. ap₂ MoreExpressions p r) (one_factors ds (back SpellsFactors q es)))

  pub one_factor : {t u : Expression} {b a c : Words} → SpellsFactor t b a → SpellsFactor u b c → Outcome 8 t a u c
  one_factor (primary d) (primary e) = weaken (omega arith) (one_primary d e)
  one_factor (primary d) (powered i e f) = longer_right (one_primary d e) (omega arith) (omega arith) (omega (arith, primary_shorter f))
  one_factor (powered h d f) (primary e) = longer_left (one_primary d e) (omega arith) (omega arith) (omega (arith, primary_shorter f))
  one_factor {b = b} (powered h d f) (powered i e g) =
      let (p, q) = until (one_primary d e) (omega arith) (omega arith) in
      made (omega arith) (λ r. powered_same (same_place b h i) p r) (one_primary f (back SpellsPrimary (tail_same q) g))

  pub one_primary : {t u : Expression} {b a c : Words} → SpellsPrimary t b a → SpellsPrimary u b c → Outcome 9 t a u c
  one_primary (negated {p = p} d) (negated e) = made (omega arith) (λ r. ap (λ t. Not p t) r) (one_primary d e)
  one_primary (literal l) (literal m) = let (p, q, r) = one_literal l m in same (literally_same q p) r
  one_primary (literal l) e = absurd (literal_begins l)
  one_primary thousandths thousandths = same refl refl
  one_primary (referred d h) (referred e i) = made (omega arith) (λ r. ap Referred r) (one_reference d e)
  one_primary (referred (refers no_further unsubscripted) h) (called e) = absurd (h name_alone begins)
  one_primary (called d) (referred (refers no_further unsubscripted) h) = absurd (h name_alone begins)
  one_primary (called {p = p} {n = n} d) (called e) =
      let (r, s) = until (one_expressions d e) (omega arith) (omega arith) in same (ap (λ t. Called p n t) r) (tail_same s)
  one_primary (to_integer {p = p} d) (to_integer e) = let (r, s) = until (one_expression d e) (omega arith) (omega arith) in same (ap (λ t. Convert p ToInteger t) r) (tail_same s)
  one_primary (to_bits {p = p} d) (to_bits e) = let (r, s) = until (one_expression d e) (omega arith) (omega arith) in same (ap (λ t. Convert p ToBits t) r) (tail_same s)
  one_primary (to_text {p = p} d) (to_text e) = let (r, s) = until (one_expression d e) (omega arith) (omega arith) in same (ap (λ t. Convert p ToText t) r) (tail_same s)
  one_primary (enclosed {p = p} d) (enclosed e) = let (r, s) = until (one_expression d e) (omega arith) (omega arith) in same (ap (λ t. Parenthesis p t) r) (tail_same s)
  one_primary d (literal m) = absurd (literal_begins m)

  pub one_expressions : {ts us : Expressions} {b a c : Words} → SpellsExpressions ts b a → SpellsExpressions us b c → Outcome 0 ts a us c
  one_expressions (last_expression d) (last_expression e) = made (omega arith) (λ r. ap (λ t. MoreExpressions t NoExpressions) r) (one_expression d e)
  one_expressions (last_expression d) (more_expressions e es) = longer_right (one_expression d e) (omega arith) (omega arith) (omega (arith, expressions_shorter es))
  one_expressions (more_expressions d ds) (last_expression e) = longer_left (one_expression d e) (omega arith) (omega arith) (omega (arith, expressions_shorter ds))
  one_expressions (more_expressions d ds) (more_expressions e es) =
      let (p, q) = until (one_expression d e) (omega arith) (omega arith) in
      made (omega arith) (λ r. ap₂ MoreExpressions p r) (one_expressions ds (back SpellsExpressions (tail_same q) es))

  pub one_reference : {r s : Reference} {b a c : Words} → SpellsReference r b a → SpellsReference s b c → Outcome 9 r a s c
  one_reference (refers {p = p} {n = n} d x) (refers e y) =
      item_then (omega arith) (one_further d e) (subscript_ends x) (subscript_ends y)
      (λ f q. made (omega arith) (λ r. ap₂ (λ ns s. Refers p n ns s) f r) (one_subscript x (back SpellsSubscript q y)))

  pub one_subscript : {x y : Subscript} {b a c : Words} → SpellsSubscript x b a → SpellsSubscript y b c → Outcome 9 x a y c
  one_subscript unsubscripted unsubscripted = same refl refl
  one_subscript unsubscripted by_name = sooner (omega arith) (omega arith)
  one_subscript unsubscripted by_integer = sooner (omega arith) (omega arith)
  one_subscript unsubscripted (by_parts h e) = sooner (omega arith) (omega (arith, copies_shorter e))
  one_subscript by_name unsubscripted = later (omega arith) (omega arith)
  one_subscript by_integer unsubscripted = later (omega arith) (omega arith)
  one_subscript (by_parts h d) unsubscripted = later (omega arith) (omega (arith, copies_shorter d))
  one_subscript by_name by_name = same refl refl
  one_subscript by_integer by_integer = same refl refl
  one_subscript (by_parts h d) (by_parts i e) = let (x, y, z, s) = one_copies d e in same (parts_same x y z) (tail_same s)

  pub one_copies : {xs ys : Subscripts} {us vs : Subscripts} {ss ts : Subscripts} {b a c : Words} → SpellsCopies xs us ss b a → SpellsCopies ys vs ts b c →
      (xs ≡ ys) × (us ≡ vs) × (ss ≡ ts) × (a ≡ c)
  one_copies (copies_then d ds) (copies_then e es) =
      let (p, q) = until (one_subscripts d e) (omega arith) (omega arith) in
      let (r, s, t) = one_arrays ds (back₂ SpellsArrays (tail_same q) es) in (p, r, s, t)
  one_copies (copies_then d ds) (no_copies (arrays_then e es)) = let (p, q) = until (one_subscripts d e) (omega arith) (omega arith) in absurd (semicolon_colon q)
  one_copies (copies_then d ds) (no_copies (no_arrays (components_then e))) = let (p, q) = until (one_subscripts d e) (omega arith) (omega arith) in absurd (semicolon_right q)
  one_copies (copies_then d ds) (no_copies (no_arrays no_components)) = absurd (subscripts_not_right d)
  one_copies (no_copies (arrays_then d ds)) (copies_then e es) = let (p, q) = until (one_subscripts d e) (omega arith) (omega arith) in absurd (semicolon_colon (sym q))
  one_copies (no_copies (no_arrays (components_then d))) (copies_then e es) = let (p, q) = until (one_subscripts d e) (omega arith) (omega arith) in absurd (semicolon_right (sym q))
  one_copies (no_copies (no_arrays no_components)) (copies_then e es) = absurd (subscripts_not_right e)
  one_copies (no_copies d) (no_copies e) = let (r, s, t) = one_arrays d e in (refl, r, s, t)

  pub one_arrays : {us vs : Subscripts} {ss ts : Subscripts} {b a c : Words} → SpellsArrays us ss b a → SpellsArrays vs ts b c → (us ≡ vs) × (ss ≡ ts) × (a ≡ c)
  one_arrays (arrays_then d ds) (arrays_then e es) =
      let (p, q) = until (one_subscripts d e) (omega arith) (omega arith) in
      let (r, s) = one_components ds (back SpellsComponents (tail_same q) es) in (p, r, s)
  one_arrays (arrays_then d ds) (no_arrays (components_then e)) = let (p, q) = until (one_subscripts d e) (omega arith) (omega arith) in absurd (colon_right q)
  one_arrays (arrays_then d ds) (no_arrays no_components) = absurd (subscripts_not_right d)
  one_arrays (no_arrays (components_then d)) (arrays_then e es) = let (p, q) = until (one_subscripts d e) (omega arith) (omega arith) in absurd (colon_right (sym q))
  one_arrays (no_arrays no_components) (arrays_then e es) = absurd (subscripts_not_right e)
  one_arrays (no_arrays d) (no_arrays e) = let (r, s) = one_components d e in (refl, r, s)

  pub one_components : {ss ts : Subscripts} {b a c : Words} → SpellsComponents ss b a → SpellsComponents ts b c → (ss ≡ ts) × (a ≡ c)
  one_components (components_then d) (components_then e) = until (one_subscripts d e) (omega arith) (omega arith)
  one_components (components_then d) no_components = absurd (subscripts_not_right d)
  one_components no_components (components_then e) = absurd (subscripts_not_right e)
  one_components no_components no_components = (refl, refl)

  pub one_subscripts : {xs ys : Subscripts} {b a c : Words} → SpellsSubscripts xs b a → SpellsSubscripts ys b c → Outcome 0 xs a ys c
  one_subscripts (last_subscript d) (last_subscript e) = made (omega arith) (λ r. ap (λ t. MoreSubscripts t NoSubscripts) r) (one_sub d e)
  one_subscripts (last_subscript d) (more_subscripts e es) = longer_right (one_sub d e) (omega arith) (omega arith) (omega (arith, subscripts_shorter es))
  one_subscripts (more_subscripts d ds) (last_subscript e) = longer_left (one_sub d e) (omega arith) (omega arith) (omega (arith, subscripts_shorter ds))
  one_subscripts (more_subscripts d ds) (more_subscripts e es) =
      let (p, q) = until (one_sub d e) (omega arith) (omega arith) in
      made (omega arith) (λ r. ap₂ MoreSubscripts p r) (one_subscripts ds (back SpellsSubscripts (tail_same q) es))

  pub one_sub : {x y : Sub} {b a c : Words} → SpellsSub x b a → SpellsSub y b c → Outcome 1 x a y c
  one_sub every_place every_place = same refl refl
  one_sub every_place (one_place e) = absurd (position_not_star e)
  one_sub every_place (range e f) = absurd (position_not_star e)
  one_sub every_place (portion e f) = absurd (omega (arith, sum_strong e))
  one_sub (one_place d) every_place = absurd (position_not_star d)
  one_sub (one_place d) (one_place e) = made (omega arith) (λ r. ap One r) (one_position d e)
  one_sub (one_place d) (range e f) = longer_right (one_position d e) (omega arith) (omega arith) (omega (arith, position_shorter f))
  one_sub (one_place (from_beginning d)) (portion e f) = longer_right (one_sum d e) (omega arith) (omega arith) (omega (arith, position_shorter f))
  one_sub (one_place (from_end d)) (portion e f) = absurd (omega (arith, sum_strong e))
  one_sub (range d f) every_place = absurd (position_not_star d)
  one_sub (range d f) (one_place e) = longer_left (one_position d e) (omega arith) (omega arith) (omega (arith, position_shorter f))
  one_sub (range d f) (range e g) =
      let (p, q) = until (one_position d e) (omega arith) (omega arith) in
      made (omega arith) (λ r. ap₂ Range p r) (one_position f (back SpellsPosition (tail_same q) g))
  one_sub (range (from_beginning d) f) (portion e g) = let (p, q) = until (one_sum d e) (omega arith) (omega arith) in absurd (to_at q)
  one_sub (range (from_end d) f) (portion e g) = absurd (omega (arith, sum_strong e))
  one_sub (portion d f) every_place = absurd (omega (arith, sum_strong d))
  one_sub (portion d f) (one_place (from_beginning e)) = longer_left (one_sum d e) (omega arith) (omega arith) (omega (arith, position_shorter f))
  one_sub (portion d f) (one_place (from_end e)) = absurd (omega (arith, sum_strong d))
  one_sub (portion d f) (range (from_beginning e) g) = let (p, q) = until (one_sum d e) (omega arith) (omega arith) in absurd (to_at (sym q))
  one_sub (portion d f) (range (from_end e) g) = absurd (omega (arith, sum_strong d))
  one_sub (portion d f) (portion e g) =
      let (p, q) = until (one_sum d e) (omega arith) (omega arith) in
      made (omega arith) (λ r. ap₂ Portion p r) (one_position f (back SpellsPosition (tail_same q) g))

  pub one_position : {x y : Position} {b a c : Words} → SpellsPosition x b a → SpellsPosition y b c → Outcome 6 x a y c
  one_position (from_beginning d) (from_beginning e) = made (omega arith) (λ r. ap FromBeginning r) (one_sum d e)
  one_position (from_beginning d) (from_end e) = absurd (omega (arith, sum_strong d))
  one_position (from_end d) (from_beginning e) = absurd (omega (arith, sum_strong e))
  one_position (from_end {p = p} d) (from_end e) = made (omega arith) (λ r. ap (λ t. FromEnd p t) r) (one_terms d e)
