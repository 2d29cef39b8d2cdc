-- Subscripts with TO and AT reach places inside a dimension, so many behind those that code skips, where no rule is broken.
use Rattle.std.specs.Prelude.{◌≡◌, ◌≤◌, ◌<◌, ◌⊎◌, ◌+◌, ◌==◌, ◌&&◌, ◌||◌, not, ℕ, nat_le, nat_lt, ℤ, pos, ◌+ℤ◌, ◌-ℤ◌, Bool, true, false, List, [], ◌∷◌, length, Option, Some, None, slice_get, unwrap_or, if◌then◌else◌}
use Rattle.std.specs.Option.{option_and_then, option_or}
use Rattle.std.proofs.Common.{refl, sym, ap, subst, ◌∙◌, inl, inr, arith}
use Rattle.std.proofs.lemmas.Bool.{eqb-true, le-leb, leb-true, lt-ltb, ltb-true}
use Rattle.hal_base.specs.declared.refusal.Place.{Place}
use Rattle.hal_grammar.specs.Leaves.{Naming, Integer}
use Rattle.hal_grammar.specs.Expressions.{Expression, Sum, Literal, Expressions, NoExpressions, MoreExpressions, Terms, NoTerms, MoreTerms, Refers, Subscript, Unsubscripted, ByName, ByInteger, ByParts, Subscripts, NoSubscripts, MoreSubscripts, Every, One, Range, Portion, Position, FromBeginning, FromEnd}
use Rattle.hal_grammar.specs.Declarations.{Attribute, Declared}
use Rattle.hal_phrases.specs.declared.around.Around.{Around}
use Rattle.hal_phrases.specs.declared.role.Role.{Role}
use Rattle.hal_phrases.specs.declared.role.Role.TheVariants as role
use Rattle.hal_phrases.specs.Phrases.{Phrase, add, OfItem, OfReference}
use Rattle.hal_phrases.specs.GatheredExpressions.{below, gathered, gathered_position, gathered_reference, gathered_sub, gathered_subs, gathered_subscript, gathered_terms}
use Rattle.hal_names.specs.Laws.{IsCounted}
use Rattle.hal_names.specs.Means.{means}
use Rattle.hal_scope.specs.Rules.{IsSound, rows}
use Rattle.hal_scope.specs.Uses.{is_nil}
use Rattle.hal_kinds.specs.Attributes.{sizes_of}
use Rattle.hal_operands.specs.declared.want.Want.TheVariants as want
use Rattle.hal_operands.specs.Wants.{wanted}
use Rattle.hal_values.specs.declared.value.Value.{Value}
use Rattle.hal_values.specs.declared.value.Value.TheVariants as value
use Rattle.hal_constants.specs.declared.constant.Constant.{Constant}
use Rattle.hal_constants.specs.declared.constant.Constant.TheVariants as constant
use Rattle.hal_constants.specs.Constants as constants
use Rattle.hal_constants.specs.Constants.{constant_of, signed, summed}
use Rattle.hal_constants.specs.Known.{Known, known, size_of, size_of_integer, size_of_value}
use Rattle.hal_constants.specs.Naming.{is_before, is_compool_at, literal_constant}
use Rattle.hal_constants.specs.Results.{whole}
use Rattle.hal_sizes.specs.Sizes.{extent_of}
use Rattle.hal_shapes.specs.Ranges.{array_fault, array_ranges, copy_fault, first_range, is_outside, misranged, reference_ranges, selection_fault}
use Rattle.hal_shapes.specs.Reaches.{between_values, place_of_sub, position_in, reach_from, reach_of, reach_to, starting_values}
use Rattle.hal_shapes.specs.Selections.{copies_at, copy_subs, declared_for, extent_at}
use Rattle.hal_shapes.specs.Spans.{array_subs, later_subs}
use Rattle.hal_types.specs.Rules.{size_rows, type_rows}
use Rattle.hal_meaning.specs.Elements.{all_sizes}
use Rattle.hal_agreement.specs.Sites.{Site}
use Rattle.hal_gen_expr.specs.Constants as code
use Rattle.hal_gen_expr.specs.Led.{array_list}
use Rattle.hal_gen_expr.specs.Spans.{a_span, from_to, places_before_span, places_skipped, so_many_at}
use Rattle.hal_fit_calls.specs.Each.{Each}
use Rattle.hal_fit_rules.specs.Begun.{AreFirst}
use Rattle.hal_fit_rules.specs.Leaves.{is_value_role}
use Rattle.hal_fit_rules.proofs.Beginning.{then_}
use Rattle.hal_fit_rules.proofs.BegunExpressions.{position_first, subs_first, subscript_first, terms_first}
use Rattle.hal_fit_rules.proofs.Unbroken.{unbroken, of_sizes}
use Rattle.hal_fit_names.specs.Suited.{HasFitLiterals, AreDeclared}
use Rattle.hal_fit_names.proofs.Folding.{TermsFit, sum_holds}
use Rattle.hal_fit_names.proofs.Holding.{Holds}
use Rattle.hal_fit_names.proofs.Keeping.{Keeps, Precedes, constant_keeps}
use Rattle.hal_fit_names.proofs.Placing.{longer, number_among, number_low, one_longer}
use Rattle.hal_fit_names.proofs.Suiting.{suits, holds, whole_holds}
use Rattle.hal_right_images.proofs.rows.Filled.{IsSome}
use Rattle.hal_right_images.specs.areas.Reached.{ChoiceReached, IsReached, AreReached}
use Rattle.hal_right_images.specs.areas.Said.{SaysReference}
use Rattle.hal_right_images.specs.areas.Sized.{extent_with}
use Rattle.hal_right_images.proofs.areas.Arrays.{list_same}
use Rattle.hal_right_images.proofs.areas.Bounds.{between_range, from_integers, skips_low, starting_range, to_integers}
use Rattle.hal_right_images.proofs.areas.Reaching.{all_reached}
use Rattle.hal_right_images.proofs.areas.Spans.{IsShort}

-- no greater than the greatest size
abbrev pub IsLow : ℕ → Type 0
IsLow n = nat_le n 2147483647 ≡ true

integer_low : (z : ℤ) (o : Option ℕ) → size_of_integer 32767 z ≡ o → IsLow (unwrap_or o 1)
unfolding size_of_integer
integer_low z None is = refl
integer_low (pos k) (Some n) is = by (nat_le 1 k) (nat_le k 32767) refl is where
  by : (b c : Bool) → nat_le k 32767 ≡ c → (if b && c then Some k else None) ≡ Some n → IsLow n
  by true true high same = let one : k ≡ n = cc in let low = leb-true k 32767 high in le-leb n 2147483647 (subst (λ x. x ≤ 2147483647) one (omega (arith, low)))
  by true false high same = absurd (cc)
  by false c high same = absurd (cc)
integer_low other (Some n) is = absurd (cc)

pub size_low : (c : Constant) → IsLow (unwrap_or (size_of 32767 c) 1)
unfolding size_of size_of_value
size_low (constant.Worth (value.Int z)) = integer_low z (size_of_integer 32767 z) refl
size_low (constant.Worth (value.Bits len word)) = refl
size_low (constant.Worth (value.Text text)) = refl
size_low constant.Failed = refl
size_low constant.Open = refl
size_low constant.Unfit = refl

sizes_low : (ps : List Phrase) (vs : Known) (p : Phrase) (sizes : Expressions) → Each IsLow (all_sizes ps vs p sizes)
sizes_low ps vs p NoExpressions = tt
sizes_low ps vs p (MoreExpressions first others) = (size_low (constant_of ps vs p first), sizes_low ps vs p others)

summand : (wanted role.Summand ≡ want.Integer) × (is_value_role role.Summand ≡ true)
unfolding wanted
summand = (refl, refl)

array_wanted : wanted role.ArraySubscript ≡ want.Integer
unfolding wanted
array_wanted = refl

component_wanted : wanted role.ComponentSubscript ≡ want.Integer
unfolding wanted
component_wanted = refl

copy_wanted : wanted role.CopySubscript ≡ want.Integer
unfolding wanted
copy_wanted = refl

none_first : {X : Type 0} (o q : Option X) → option_or o q ≡ None → (o ≡ None) × (q ≡ None)
none_first None q is = (refl, is)
none_first (Some x) q is = absurd (cc)

-- a range inside breaks no rule
inside_by : (n : ℕ) (b outside : Bool) (fault : ℕ × Place) → 0 < n → (n == 0) ≡ b → if◌then◌else◌ {A = Option (ℕ × Place)} b None (if outside then Some fault else None) ≡ None → outside ≡ false
inside_by n true outside fault some zero_ is = absurd (let none = eqb-true n 0 zero_ in omega (arith, none, some))
inside_by n false true fault some other is = absurd (cc)
inside_by n false false fault some other is = refl

-- subscripts of dimensions that choose places inside
abbrev AreInside : List Phrase → Known → Phrase → List ℕ → Subscripts → Type 0
AreInside ps vs w [] xs = Unit {0}
AreInside ps vs w (n ∷ ns) NoSubscripts = Unit {0}
AreInside ps vs w (n ∷ ns) (MoreSubscripts x xs) = (is_outside (reach_of ps vs w n x) ≡ false) × AreInside ps vs w ns xs

inside_more : (ps : List Phrase) (vs : Known) (w : Phrase) (n : ℕ) (ns : List ℕ) (xs : Subscripts) → 0 < n → first_range ps vs w n xs ≡ None → AreInside ps vs w ns (later_subs xs) → AreInside ps vs w (n ∷ ns) xs
unfolding first_range later_subs
inside_more ps vs w n ns NoSubscripts some none rest = tt
inside_more ps vs w n ns (MoreSubscripts x xs) some none rest = (inside_by n (n == 0) (is_outside (reach_of ps vs w n x)) (704, place_of_sub x) some refl none, rest)

-- rule 704 of ranges
all_inside : (ps : List Phrase) (vs : Known) (w : Phrase) (ns : List ℕ) (xs : Subscripts) → Each IsSome ns → IsShort ns → array_ranges ps vs w (extent_with ns) xs ≡ None → AreInside ps vs w ns xs
all_inside ps vs w [] xs some short none = tt
all_inside ps vs w (a ∷ []) xs some short none = inside_more ps vs w a [] xs some.0 (none_first (first_range ps vs w a xs) _ none).0 tt
all_inside ps vs w (a ∷ b ∷ []) xs some short none =
    let first = none_first (first_range ps vs w a xs) _ none in
    inside_more ps vs w a (b ∷ []) xs some.0 first.0 (inside_more ps vs w b [] (later_subs xs) some.1.0 (none_first (first_range ps vs w b (later_subs xs)) _ first.1).0 tt)
all_inside ps vs w (a ∷ b ∷ c ∷ []) xs some short none =
    let first = none_first (first_range ps vs w a xs) _ none in
    let second = none_first (first_range ps vs w b (later_subs xs)) _ first.1 in
    inside_more ps vs w a (b ∷ c ∷ []) xs some.0 first.0
    (inside_more ps vs w b (c ∷ []) (later_subs xs) some.1.0 second.0 (inside_more ps vs w c [] (later_subs (later_subs xs)) some.1.1.0 second.1 tt))
all_inside ps vs w (a ∷ b ∷ c ∷ d ∷ ns) xs some short none = absurd short

module _ (ps : List Phrase) (named : IsSound rows ps) (typed : IsSound type_rows ps) (counted : IsCounted ps) (declared : AreDeclared ps) (literals : HasFitLiterals ps) (w q : Phrase) (site : Site) (same : w.around.block ≡ q.around.block)
    (precedes : Precedes ps (known ps) (known ps) w q) (worth : (t : Expression) (v : Value) → constant_of ps (known ps) q t ≡ constant.Worth v → code.value_of site t ≡ Some v) where
  abbrev vs : Known
  vs = known ps

  -- expressions of subscripts are integers
  expression_held : (d : List Phrase) (a : Around) (r : Role) (t : Expression) → a.block ≡ w.around.block → wanted r ≡ want.Integer → is_value_role r ≡ true → AreFirst (gathered d a r t) ps → Holds want.Integer (constant_of ps vs w t)
  expression_held d a r t here wants valued begun =
      holds ps named typed counted declared literals w d a r want.Integer t wants begun (suits ps named typed counted declared literals w d a r t valued here begun)

  terms_held : (d : List Phrase) (a : Around) (ts : Terms) → a.block ≡ w.around.block → AreFirst (gathered_terms d a ts) ps → TermsFit ps vs w a.block ts
  unfolding gathered_terms
  terms_held d a NoTerms here begun = tt
  terms_held d a (MoreTerms place sign term others) here begun =
      let e : List Phrase = gathered d a role.Summand term in
      (expression_held d a role.Summand term here summand.0 summand.1 (then_ (terms_first e a others) begun), terms_held e a others here begun)

  -- so are places
  position_held : (n : ℕ) (d : List Phrase) (a : Around) (r : Role) (x : Position) → a.block ≡ w.around.block → wanted r ≡ want.Integer → is_value_role r ≡ true → AreFirst (gathered_position d a r x) ps
      → Holds want.Integer (position_in ps vs w n x)
  unfolding gathered_position position_in
  position_held n d a r (FromBeginning t) here wants valued begun = expression_held d a r t here wants valued begun
  position_held n d a r (FromEnd place terms) here wants valued begun = sum_holds ps vs w a.block (whole n) terms (whole_holds n) (terms_held d a terms here begun)

  -- a constant that is known where the reference stands is known where the call does, and for code
  expression_known : (t : Expression) (v : Value) → constant_of ps vs w t ≡ constant.Worth v → (constant_of ps vs q t ≡ constant.Worth v) × (code.value_of site t ≡ Some v)
  expression_known t v is =
      let kept : constant_of ps vs q t ≡ constant.Worth v = subst (λ c. Keeps c (constant_of ps vs q t)) is (constant_keeps ps vs vs w q same precedes t) in
      (kept, worth t v kept)

  -- `#` is the number of places
  from_end : (n : ℕ) → IsLow n → (place : Place) (terms : Terms) → code.value_of site (Sum place None (Literal place (Integer n)) terms) ≡ code.summed site (Some (value.Int (pos n))) terms
  from_end n low place terms = ap (λ b. code.summed site (if b then Some (value.Int (pos n)) else None) terms) low

  end_sum : (p : Phrase) (n : ℕ) (place : Place) (terms : Terms) → constant_of ps vs p (Sum place None (Literal place (Integer n)) terms) ≡ summed ps vs p (whole n) terms
  unfolding constant_of signed literal_constant
  end_sum p n place terms = refl

  position_known : (n : ℕ) → IsLow n → (x : Position) (i : ℤ) → position_in ps vs w n x ≡ constant.Worth (value.Int i) → (position_in ps vs q n x ≡ constant.Worth (value.Int i)) × (code.place_of site n x ≡ Some i)
  unfolding position_in
  position_known n low (FromBeginning t) i is = let both = expression_known t (value.Int i) is in (both.0, ap code.integer_in both.1)
  position_known n low (FromEnd place terms) i is =
      let t : Expression = Sum place None (Literal place (Integer n)) terms in
      let both = expression_known t (value.Int i) (end_sum w n place terms ∙ is) in
      (sym (end_sum q n place terms) ∙ both.0, ap code.integer_in (sym (from_end n low place terms) ∙ both.1))

  -- from one place to another
  range_reached : (n : ℕ) → IsLow n → (d : List Phrase) (a : Around) (r : Role) (first last : Position) → a.block ≡ w.around.block → wanted r ≡ want.Integer → is_value_role r ≡ true → AreFirst (gathered_sub d a r (Range first last)) ps
      → is_outside (reach_of ps vs w n (Range first last)) ≡ false → IsReached ps vs q site n (Range first last)
  unfolding gathered_sub reach_of reach_to between_values
  range_reached n low d a r first last here wants valued begun inside =
      let e : List Phrase = gathered_position d a r first in
      let c : Constant = position_in ps vs w n first in
      let d_ : Constant = position_in ps vs w n last in
      let are = to_integers n c d_ (position_held n d a r first here wants valued (then_ (position_first e a r last) begun)) (position_held n e a r last here wants valued begun) inside in
      let one = position_known n low first are.first are.is in
      let two = position_known n low last are.second are.also in
      let range = between_range n are.first are.second (sym (ap (λ x. is_outside (reach_to n x d_)) are.is ∙ ap (λ x. is_outside (reach_to n (constant.Worth (value.Int are.first)) x)) are.also) ∙ inside) in
      let skipped : places_skipped site n (Range first last) ≡ places_before_span n (a_span (pos range.at) are.second) =
      ap (λ o. option_and_then (places_before_span n) (from_to o (code.place_of site n last))) one.1
      ∙ (ap (λ o. option_and_then (places_before_span n) (from_to (Some are.first) o)) two.1 ∙ ap (λ i. places_before_span n (a_span i are.second)) range.is) in
      record {
        left = range.left;
        reach = ap (λ x. reach_to n x (position_in ps vs q n last)) one.0 ∙ (ap (λ x. reach_to n (constant.Worth (value.Int are.first)) x) two.0 ∙ range.reach);
        some = range.some;
        low = subst (λ o. unwrap_or o 0 + range.left ≤ n) (sym skipped) (skips_low n range.left range.at are.second range.begins range.ends);
      }

  -- so many places from one on
  portion_reached : (n : ℕ) → IsLow n → (d : List Phrase) (a : Around) (r : Role) (count : Expression) (first : Position) → a.block ≡ w.around.block → wanted r ≡ want.Integer → is_value_role r ≡ true
      → AreFirst (gathered_sub d a r (Portion count first)) ps → is_outside (reach_of ps vs w n (Portion count first)) ≡ false → IsReached ps vs q site n (Portion count first)
  unfolding gathered_sub reach_of reach_from starting_values
  portion_reached n low d a r count first here wants valued begun inside =
      let e : List Phrase = gathered d a r count in
      let c : Constant = constant_of ps vs w count in
      let d_ : Constant = position_in ps vs w n first in
      let are = from_integers n c d_ (expression_held d a r count here wants valued (then_ (position_first e a r first) begun)) (position_held n e a r first here wants valued begun) inside in
      let one = expression_known count (value.Int are.first) are.is in
      let two = position_known n low first are.second are.also in
      let range = starting_range n are.first are.second (sym (ap (λ x. is_outside (reach_from n x d_)) are.is ∙ ap (λ x. is_outside (reach_from n (constant.Worth (value.Int are.first)) x)) are.also) ∙ inside) in
      let last : ℤ = (are.second +ℤ are.first) -ℤ pos 1 in
      let skipped : places_skipped site n (Portion count first) ≡ places_before_span n (a_span (pos range.at) last) =
      ap (λ o. option_and_then (places_before_span n) (so_many_at o (code.place_of site n first))) (ap code.integer_in one.1)
      ∙ (ap (λ o. option_and_then (places_before_span n) (so_many_at (Some are.first) o)) two.1 ∙ ap (λ i. places_before_span n (a_span i last)) range.is) in
      record {
        left = range.left;
        reach = ap (λ x. reach_from n x (position_in ps vs q n first)) one.0 ∙ (ap (λ x. reach_from n (constant.Worth (value.Int are.first)) x) two.0 ∙ range.reach);
        some = range.some;
        low = subst (λ o. unwrap_or o 0 + range.left ≤ n) (sym skipped) (skips_low n range.left range.at last range.begins range.ends);
      }

  -- subscripts of dimensions
  subs_reached : (ns : List ℕ) → Each IsSome ns → Each IsLow ns → (d : List Phrase) (a : Around) (r : Role) (xs : Subscripts) → a.block ≡ w.around.block → wanted r ≡ want.Integer → is_value_role r ≡ true → AreFirst (gathered_subs d a r xs) ps
      → AreInside ps vs w ns xs → AreReached ps vs q site ns xs
  unfolding gathered_subs
  subs_reached [] some low d a r xs here wants valued begun inside = tt
  subs_reached (n ∷ ns) some low d a r NoSubscripts here wants valued begun inside = tt
  subs_reached (n ∷ ns) some low d a r (MoreSubscripts (One position) xs) here wants valued begun inside =
      (tt, subs_reached ns some.1 low.1 (gathered_sub d a r (One position)) a r xs here wants valued begun inside.1)
  subs_reached (n ∷ ns) some low d a r (MoreSubscripts (Every there) xs) here wants valued begun inside =
      (all_reached ps vs q site n there some.0, subs_reached ns some.1 low.1 (gathered_sub d a r (Every there)) a r xs here wants valued begun inside.1)
  subs_reached (n ∷ ns) some low d a r (MoreSubscripts (Range first last) xs) here wants valued begun inside =
      let e : List Phrase = gathered_sub d a r (Range first last) in
      (range_reached n low.0 d a r first last here wants valued (then_ (subs_first e a r xs) begun) inside.0, subs_reached ns some.1 low.1 e a r xs here wants valued begun inside.1)
  subs_reached (n ∷ ns) some low d a r (MoreSubscripts (Portion count first) xs) here wants valued begun inside =
      let e : List Phrase = gathered_sub d a r (Portion count first) in
      (portion_reached n low.0 d a r count first here wants valued (then_ (subs_first e a r xs) begun) inside.0, subs_reached ns some.1 low.1 e a r xs here wants valued begun inside.1)

  -- those of an array are the ones with its mark, or all where no others are
  list_reached : (ns : List ℕ) → Each IsSome ns → Each IsLow ns → (d : List Phrase) (a : Around) (there : Place) (copies arrays components : Subscripts) → a.block ≡ w.around.block → AreFirst (gathered_subscript d a (ByParts there copies arrays components)) ps
      → AreInside ps vs w ns (array_list arrays components) → AreReached ps vs q site ns (array_list arrays components)
  unfolding gathered_subscript constants.is_none
  list_reached ns some low d a there copies NoSubscripts components here begun inside =
      subs_reached ns some low (gathered_subs (gathered_subs d a role.CopySubscript copies) a role.ArraySubscript NoSubscripts) a role.ComponentSubscript components here component_wanted refl begun inside
  list_reached ns some low d a there copies (MoreSubscripts x xs) components here begun inside =
      let e : List Phrase = gathered_subs d a role.CopySubscript copies in
      subs_reached ns some low e a role.ArraySubscript (MoreSubscripts x xs) here array_wanted refl
      (then_ (subs_first (gathered_subs e a role.ArraySubscript (MoreSubscripts x xs)) a role.ComponentSubscript components) begun) inside

-- the dimensions of an item's array, without names of parts
pub item_extent_at : (ps : List Phrase) (vs : Known) (p : Phrase) (common : List Attribute) (item : Declared) → p.node ≡ OfItem common item → (given : Expressions) → extent_of ps vs p (sizes_of common item) ≡ Some (extent_with (all_sizes ps vs p given))
    → extent_at ps vs p [] p.node ≡ Some (extent_with (all_sizes ps vs p given))
unfolding extent_at is_nil
item_extent_at ps vs p common item node given extent = ap (extent_at ps vs p []) node ∙ extent

-- the phrase of a reference is the first one of those that it adds
reference_own : (d : List Phrase) (a : Around) (r : Role) (place : Place) (name : List ℕ) (path : List Naming) (x : Subscript) → AreFirst (add d a (OfReference r (Refers place name path x))) (gathered_reference d a r (Refers place name path x))
unfolding gathered_reference
reference_own d a r place name path x = subscript_first (add d a (OfReference r (Refers place name path x))) (below d a) x

first_true : (a b : Bool) → a ≡ true → (a || b) ≡ true
first_true true b is = refl
first_true false b is = absurd (cc)

second_true : (a b : Bool) → b ≡ true → (a || b) ≡ true
second_true true b is = refl
second_true false b is = is

one_true : (a b : Bool) → (a || b) ≡ true → (a ≡ true) ⊎ (b ≡ true)
one_true true b is = inl refl
one_true false b is = inr is

module _ (ps : List Phrase) (named : IsSound rows ps) (typed : IsSound type_rows ps) (counted : IsCounted ps) (declared : AreDeclared ps) (literals : HasFitLiterals ps) (q : Phrase) (role_ : Role) (place : Place) (name : List ℕ) (path : List Naming) (subscript : Subscript)
    (says : SaysReference ps q role_ (Refers place name path subscript)) where
  -- items before the end of the reference stand before the call
  item_before : (k : ℕ) (r : Phrase) (common : List Attribute) (item : Declared) → slice_get ps k ≡ Some r → r.node ≡ OfItem common item → r.number < says.phrase.number → r.number < q.number
  item_before k r common item there is low =
      let until = says.until in
      let d : List Phrase = gathered_reference says.before says.around role_ (Refers place name path subscript) in
      let longer_ : length says.before < length d = omega (arith, longer (reference_own says.before says.around role_ place name path subscript), one_longer says.before says.around (OfReference role_ (Refers place name path subscript))) in
      let number = says.number in
      let among_all = number_among ps counted d k r says.begun there (omega (arith, low, longer_, number)) in
      let called = says.called in
      let first = number_low ps counted until r (then_ says.beside.starts says.begun) (says.beside.items r common item among_all is) in
      omega (arith, first, called)

  precedes : Precedes ps (known ps) (known ps) says.phrase q
  precedes k r common item there is valued before v has =
      (by (one_true (nat_lt r.number says.phrase.number) (is_compool_at ps r.around.home && not (r.around.home == says.phrase.around.home)) before), has)
    where
      by : (nat_lt r.number says.phrase.number ≡ true) ⊎ ((is_compool_at ps r.around.home && not (r.around.home == says.phrase.around.home)) ≡ true) → is_before ps q r ≡ true
      by (inl first) =
          first_true (nat_lt r.number q.number) (is_compool_at ps r.around.home && not (r.around.home == q.around.home))
          (lt-ltb r.number q.number (item_before k r common item there is (ltb-true r.number says.phrase.number first)))
      by (inr pooled) =
          second_true (nat_lt r.number q.number) (is_compool_at ps r.around.home && not (r.around.home == q.around.home))
          (ap (λ h. is_compool_at ps r.around.home && not (r.around.home == h)) (sym says.home) ∙ pooled)

  -- rule 704
  ranges_right : reference_ranges ps (known ps) says.phrase (Refers place name path subscript) ≡ None
  unfolding size_rows misranged
  ranges_right =
      ap (misranged ps (known ps) says.phrase) (sym says.is)
      ∙ unbroken type_rows ps typed says.phrase says.among (λ qs o. misranged qs (known qs) o o.node) (of_sizes (λ qs o. misranged qs (known qs) o o.node) (inr (inr (inl refl))))

  -- of what is selected
  selected_right : (k : ℕ) → means ps q.around.block name ≡ Some k → (p : Phrase) → slice_get ps k ≡ Some p → selection_fault ps (known ps) says.phrase path subscript p ≡ None
  unfolding reference_ranges declared_for
  selected_right k meant p there =
      let found : declared_for ps says.phrase name ≡ Some p = ap (option_and_then (λ n. slice_get ps n)) (ap (λ b. means ps b name) says.block ∙ meant) ∙ there in
      ap (option_and_then (λ (s : Phrase). selection_fault ps (known ps) says.phrase path subscript s)) (sym found) ∙ ranges_right

  -- of an array
  array_right : (k : ℕ) → means ps q.around.block name ≡ Some k → (p : Phrase) → slice_get ps k ≡ Some p → (ns : List ℕ) → extent_at ps (known ps) p path p.node ≡ Some (extent_with ns) → array_ranges ps (known ps) says.phrase (extent_with ns) (array_subs subscript) ≡ None
  array_right k meant p there ns extent =
      ap (array_fault ps (known ps) says.phrase subscript) (sym extent)
      ∙ (none_first (copy_fault ps (known ps) says.phrase subscript (copies_at ps (known ps) p p.node)) (array_fault ps (known ps) says.phrase subscript (extent_at ps (known ps) p path p.node)) (selected_right k meant p there)).1

  -- of copies
  copies_right : (k : ℕ) → means ps q.around.block name ≡ Some k → (p : Phrase) → slice_get ps k ≡ Some p → (n : ℕ) → copies_at ps (known ps) p p.node ≡ Some n → first_range ps (known ps) says.phrase n (copy_subs subscript) ≡ None
  copies_right k meant p there n copies =
      ap (copy_fault ps (known ps) says.phrase subscript) (sym copies)
      ∙ (none_first (copy_fault ps (known ps) says.phrase subscript (copies_at ps (known ps) p p.node)) (array_fault ps (known ps) says.phrase subscript (extent_at ps (known ps) p path p.node)) (selected_right k meant p there)).0

  -- so what a subscript chooses of copies is reached
  pub copies_reached : (site : Site) → ((t : Expression) (v : Value) → constant_of ps (known ps) q t ≡ constant.Worth v → code.value_of site t ≡ Some v) → (k : ℕ) → means ps q.around.block name ≡ Some k → (p : Phrase) → slice_get ps k ≡ Some p
      → (n : ℕ) → copies_at ps (known ps) p p.node ≡ Some n → 0 < n → nat_le n 2147483647 ≡ true → AreReached ps (known ps) q site (n ∷ []) (copy_subs subscript)
  unfolding gathered_reference gathered_subscript copy_subs
  copies_reached site worth k meant p there n copies_so some low = by subscript (copies_right k meant p there n copies_so) says.begun where
    by : (x : Subscript) → first_range ps (known ps) says.phrase n (copy_subs x) ≡ None → AreFirst (gathered_reference says.before says.around role_ (Refers place name path x)) ps → AreReached ps (known ps) q site (n ∷ []) (copy_subs x)
    by Unsubscripted right begun = tt
    by (ByName at other) right begun = tt
    by (ByInteger at mark number) right begun = tt
    by (ByParts at copies arrays components) right begun =
        let d : List Phrase = add says.before says.around (OfReference role_ (Refers place name path (ByParts at copies arrays components))) in
        let a : Around = below says.before says.around in
        let e : List Phrase = gathered_subs d a role.CopySubscript copies in
        let f : List Phrase = gathered_subs e a role.ArraySubscript arrays in
        subs_reached ps named typed counted declared literals says.phrase q site says.block precedes worth (n ∷ []) (some, tt) (low, tt) d a role.CopySubscript copies (says.inside ∙ sym says.block) copy_wanted refl
        (then_ (subs_first e a role.ArraySubscript arrays) (then_ (subs_first f a role.ComponentSubscript components) begun))
        (inside_more ps (known ps) says.phrase n [] copies some right tt)

  -- so what a subscript chooses of an array is reached
  pub choice_reached : (site : Site) → ((t : Expression) (v : Value) → constant_of ps (known ps) q t ≡ constant.Worth v → code.value_of site t ≡ Some v) → (k : ℕ) → means ps q.around.block name ≡ Some k → (p : Phrase) → slice_get ps k ≡ Some p
      → (t : Phrase) (given : Expressions) → extent_at ps (known ps) p path p.node ≡ Some (extent_with (all_sizes ps (known ps) t given)) → Each IsSome (all_sizes ps (known ps) t given) → IsShort (all_sizes ps (known ps) t given)
      → ChoiceReached ps (known ps) q site (all_sizes ps (known ps) t given) subscript
  unfolding gathered_reference array_subs
  choice_reached site worth k meant p there t given extent some short =
      by subscript (array_right k meant p there (all_sizes ps (known ps) t given) extent) says.begun where
        by : (x : Subscript) → array_ranges ps (known ps) says.phrase (extent_with (all_sizes ps (known ps) t given)) (array_subs x) ≡ None → AreFirst (gathered_reference says.before says.around role_ (Refers place name path x)) ps
            → ChoiceReached ps (known ps) q site (all_sizes ps (known ps) t given) x
        by Unsubscripted right begun = tt
        by (ByName at other) right begun = tt
        by (ByInteger at mark number) right begun = tt
        by (ByParts at copies arrays components) right begun =
            let ns : List ℕ = all_sizes ps (known ps) t given in
            list_reached ps named typed counted declared literals says.phrase q site says.block precedes worth ns some (sizes_low ps (known ps) t given)
            (add says.before says.around (OfReference role_ (Refers place name path (ByParts at copies arrays components)))) (below says.before says.around) at copies arrays components (says.inside ∙ sym says.block) begun
            (all_inside ps (known ps) says.phrase ns (array_list arrays components) some short
            (subst (λ xs. array_ranges ps (known ps) says.phrase (extent_with ns) xs ≡ None) (list_same arrays components) right))
