-- Where the tests of rule 501 say that attributes are the same, they are.
use Rattle.std.proofs.Common.{◌≡◌, ◌∙◌, ◌<◌, ◌⊎◌, inl, inr, ⊎_elim, ℕ, zero, suc, ◌==◌, max, Bool, true, false, not, ◌&&◌, List, [], ◌∷◌, length, Option, Some, None, ℤ, int_lt, if◌then◌else◌, refl, sym, ap, ap₂, subst, arith, eqb-true, bytes_eq}
use Rattle.std.proofs.lemmas.Bool.{and_parts, cases_lt, or_cases, false≢true}
use Rattle.std.proofs.lemmas.Int.{ints}
use Rattle.std.proofs.lemmas.Slice.Eq.{bytes_eq-Decides}
use Rattle.hal_grammar.specs.Expressions.{Expression, Expressions, NoExpressions, MoreExpressions}
use Rattle.hal_grammar.specs.Declarations.{Attribute, Part, Initial, Initials}
use Rattle.hal_phrases.specs.Phrases.{Phrase}
use Rattle.hal_values.specs.declared.value.Kind.{Kind}
use Rattle.hal_values.specs.declared.value.Kind.TheVariants as kind
use Rattle.hal_values.specs.declared.value.Value.{Value}
use Rattle.hal_values.specs.declared.value.Value.TheVariants as value
use Rattle.hal_constants.specs.Known.{Known}
use Rattle.hal_templates.specs.declared.traits.Traits.{Traits}
use Rattle.hal_templates.specs.Alike.{both_or_neither, may_be_kind, may_be_number, same_kind, same_lock, same_storage, same_template, same_traits, same_type}
use Rattle.hal_templates.specs.Counts.{is_few}
use Rattle.hal_templates.specs.Kinds.{kinds_of}
use Rattle.hal_templates.specs.Leaves.{all_leaves, count_of_all}
use Rattle.hal_templates.specs.Meanings.{same_meaning}
use Rattle.hal_templates.specs.Own.{template_of}
use Rattle.hal_templates.specs.Sizes.{copies_in, same_copies, same_dimensions, same_shape, same_size, same_sizes, size_in}
use Rattle.hal_templates.specs.Structures.{declare_same, is_one, means_same, names_same, parts_of, same_lists, same_part, same_parts, same_structure, structure_named}
use Rattle.hal_templates.specs.Traits.{constants_given, sizes_given, traits, type_given}
use Rattle.hal_templates.specs.Values.{held_at, may_be_value, same_at, same_below, same_constants, same_given, same_in, same_leaves, same_value}
use Rattle.hal_templates.specs.Items.{same_item}
use Rattle.hal_templates.specs.Agreeing.{Agree, AgreeInSizes, AgreeInTraits, BothOrNeither, HaveSameParts, IsSameData, IsSamePart, MeanTheSame, NamesTheSame}

pub bytes_same : (xs ys : List ℕ) → bytes_eq xs ys ≡ true → xs ≡ ys
bytes_same xs ys is = (bytes_eq-Decides xs ys).0 is

pub test_same : (a b : Bool) → both_or_neither a b ≡ true → a ≡ b
test_same true true is = refl
test_same true false is = absurd (false≢true is)
test_same false true is = absurd (false≢true is)
test_same false false is = refl

kind_same : (k l : Kind) → same_kind k l ≡ true → k ≡ l
unfolding same_kind
kind_same kind.Single kind.Single is = refl
kind_same kind.Single kind.Double is = absurd (false≢true is)
kind_same kind.Single (kind.Bits n) is = absurd (false≢true is)
kind_same kind.Single (kind.Text n) is = absurd (false≢true is)
kind_same kind.Double kind.Single is = absurd (false≢true is)
kind_same kind.Double kind.Double is = refl
kind_same kind.Double (kind.Bits n) is = absurd (false≢true is)
kind_same kind.Double (kind.Text n) is = absurd (false≢true is)
kind_same (kind.Bits m) kind.Single is = absurd (false≢true is)
kind_same (kind.Bits m) kind.Double is = absurd (false≢true is)
kind_same (kind.Bits m) (kind.Bits n) is = ap kind.Bits (eqb-true m n is)
kind_same (kind.Bits m) (kind.Text n) is = absurd (false≢true is)
kind_same (kind.Text m) kind.Single is = absurd (false≢true is)
kind_same (kind.Text m) kind.Double is = absurd (false≢true is)
kind_same (kind.Text m) (kind.Bits n) is = absurd (false≢true is)
kind_same (kind.Text m) (kind.Text n) is = ap kind.Text (eqb-true m n is)

pub kinds_agree : (k l : Option Kind) → may_be_kind k l ≡ true → Agree k l
unfolding may_be_kind
kinds_agree (Some k) (Some l) is = kind_same k l is
kinds_agree (Some k) None is = tt
kinds_agree None (Some l) is = tt
kinds_agree None None is = tt

pub numbers_agree : (m n : Option ℕ) → may_be_number m n ≡ true → Agree m n
unfolding may_be_number
numbers_agree (Some m) (Some n) is = eqb-true m n is
numbers_agree (Some m) None is = tt
numbers_agree None (Some n) is = tt
numbers_agree None None is = tt

pub template_same : (one other : Option (List ℕ)) → same_template one other ≡ true → one ≡ other
unfolding same_template
template_same (Some name) (Some other) is = ap Some (bytes_same name other is)
template_same (Some name) None is = absurd (false≢true is)
template_same None (Some other) is = absurd (false≢true is)
template_same None None is = refl

traits_agree : (t s : Traits) → same_traits t s ≡ true → AgreeInTraits t s
traits_agree t s is =
    let parts = and_parts (same_type t s) (same_lock t s && same_storage t s) is in
    let rest = and_parts (same_lock t s) (same_storage t s) parts.1 in
    let typed = and_parts (both_or_neither t.typed s.typed) (both_or_neither t.event s.event && may_be_kind t.kind s.kind) parts.0 in
    let kinds = and_parts (both_or_neither t.event s.event) (may_be_kind t.kind s.kind) typed.1 in
    let starred = and_parts (both_or_neither t.starred s.starred) (both_or_neither t.locked s.locked && may_be_number t.group s.group) rest.0 in
    let locked = and_parts (both_or_neither t.locked s.locked) (may_be_number t.group s.group) starred.1 in
    let latched = and_parts (both_or_neither t.latched s.latched) (both_or_neither t.automatic s.automatic && both_or_neither t.constant s.constant) rest.1 in
    let stored = and_parts (both_or_neither t.automatic s.automatic) (both_or_neither t.constant s.constant) latched.1 in
    record {
      typed = test_same t.typed s.typed typed.0;
      event = test_same t.event s.event kinds.0;
      kind = kinds_agree t.kind s.kind kinds.1;
      starred = test_same t.starred s.starred starred.0;
      locked = test_same t.locked s.locked locked.0;
      group = numbers_agree t.group s.group locked.1;
      latched = test_same t.latched s.latched latched.0;
      automatic = test_same t.automatic s.automatic stored.0;
      constant = test_same t.constant s.constant stored.1;
    }

module _ (ps : List Phrase) (vs : Known) where
  size_same : (p : Phrase) (x : Expression) (q : Phrase) (y : Expression) → same_size ps vs p x q y ≡ true → Agree (size_in ps vs p x) (size_in ps vs q y)
  size_same p x q y is = numbers_agree (size_in ps vs p x) (size_in ps vs q y) is

  sizes_agree : (p : Phrase) (xs : Expressions) (q : Phrase) (ys : Expressions) → same_sizes ps vs p xs q ys ≡ true → AgreeInSizes ps vs p xs q ys
  unfolding same_sizes
  sizes_agree p NoExpressions q NoExpressions is = tt
  sizes_agree p NoExpressions q (MoreExpressions y ys) is = absurd (false≢true is)
  sizes_agree p (MoreExpressions x xs) q NoExpressions is = absurd (false≢true is)
  sizes_agree p (MoreExpressions x xs) q (MoreExpressions y ys) is =
      let parts = and_parts (same_size ps vs p x q y) (same_sizes ps vs p xs q ys) is in (size_same p x q y parts.0, sizes_agree p xs q ys parts.1)

  dimensions_agree : (p : Phrase) (xs : Option Expressions) (q : Phrase) (ys : Option Expressions) → same_dimensions ps vs p xs q ys ≡ true
      → BothOrNeither (λ us ws. AgreeInSizes ps vs p us q ws) xs ys
  unfolding same_dimensions
  dimensions_agree p (Some xs) q (Some ys) is = sizes_agree p xs q ys is
  dimensions_agree p (Some xs) q None is = absurd (false≢true is)
  dimensions_agree p None q (Some ys) is = absurd (false≢true is)
  dimensions_agree p None q None is = tt

  copies_agree : (p : Phrase) (x : Option Expression) (q : Phrase) (y : Option Expression) → same_copies ps vs p x q y ≡ true
      → BothOrNeither (λ a b. Agree (size_in ps vs p a) (size_in ps vs q b)) x y
  unfolding same_copies
  copies_agree p (Some x) q (Some y) is = size_same p x q y is
  copies_agree p (Some x) q None is = absurd (false≢true is)
  copies_agree p None q (Some y) is = absurd (false≢true is)
  copies_agree p None q None is = tt

  mean_same : (p : Phrase) (common own : List Attribute) (q : Phrase) (other_common other_own : List Attribute) → same_meaning ps vs p common own q other_common other_own ≡ true
      → MeanTheSame ps vs p common own q other_common other_own
  mean_same p common own q other_common other_own is =
      let template = template_of (type_given common own) in
      let other = template_of (type_given other_common other_own) in
      let words = same_traits (traits ps vs p common own) (traits ps vs q other_common other_own) in
      let parts = and_parts (same_template template other) (words && same_shape ps vs p common own q other_common other_own) is in
      let rest = and_parts words (same_shape ps vs p common own q other_common other_own) parts.1 in
      let shape = and_parts (same_dimensions ps vs p (sizes_given common own) q (sizes_given other_common other_own))
      (same_copies ps vs p (copies_in (type_given common own)) q (copies_in (type_given other_common other_own))) rest.1 in
      record {
        template = template_same template other parts.0;
        words = traits_agree (traits ps vs p common own) (traits ps vs q other_common other_own) rest.0;
        dimensions = dimensions_agree p (sizes_given common own) q (sizes_given other_common other_own) shape.0;
        copies = copies_agree p (copies_in (type_given common own)) q (copies_in (type_given other_common other_own)) shape.1;
      }

  part_same : (q : Phrase) (x : Part) (r : Phrase) (y : Part) → same_part ps vs q x r y ≡ true → IsSamePart ps vs q x r y
  part_same q x r y is =
      let parts = and_parts (x.level == y.level) (bytes_eq x.name.name y.name.name && same_meaning ps vs q [] x.attributes r [] y.attributes) is in
      let rest = and_parts (bytes_eq x.name.name y.name.name) (same_meaning ps vs q [] x.attributes r [] y.attributes) parts.1 in
      record { level = eqb-true x.level y.level parts.0; name = bytes_same x.name.name y.name.name rest.0; attributes = mean_same q [] x.attributes r [] y.attributes rest.1 }

  pub parts_same : (q : Phrase) (xs : List Part) (r : Phrase) (ys : List Part) → same_parts ps vs q xs r ys ≡ true → HaveSameParts ps vs q xs r ys
  unfolding same_parts
  parts_same q [] r [] is = tt
  parts_same q [] r (y ∷ ys) is = absurd (false≢true is)
  parts_same q (x ∷ xs) r [] is = absurd (false≢true is)
  parts_same q (x ∷ xs) r (y ∷ ys) is =
      let both = and_parts (same_part ps vs q x r y) (same_parts ps vs q xs r ys) is in (part_same q x r y both.0, parts_same q xs r ys both.1)

  -- structure templates with these parts
  lists_same : (r : Phrase) (xs : List Part) (s : Phrase) (ys : List Part) (o t : Option (List Part)) → o ≡ Some xs → t ≡ Some ys → same_lists ps vs r o s t ≡ true → HaveSameParts ps vs r xs s ys
  unfolding same_lists
  lists_same r xs s ys o t one other is = parts_same r xs s ys (sym (ap₂ (λ (x y : Option (List Part)). same_lists ps vs r x s y) one other) ∙ is)

  names_agree : (p q : Phrase) (name : List ℕ) (o t : Option Phrase) → means_same ps vs q o t ≡ true → (r s : Phrase) (xs ys : List Part) → o ≡ Some r → t ≡ Some s
      → parts_of r.node ≡ Some xs → parts_of s.node ≡ Some ys → (s.around.home ≡ q.around.home) ⊎ ((r.number ≡ s.number) ⊎ HaveSameParts ps vs r xs s ys)
  unfolding means_same
  names_agree p q name o t is r s xs ys one other mine theirs =
      let same : means_same ps vs q (Some r) (Some s) ≡ true = sym (ap₂ (λ (x y : Option Phrase). means_same ps vs q x y) one other) ∙ is in
      ⊎_elim (λ here. inl (eqb-true s.around.home q.around.home here))
      (λ there. inr (⊎_elim (λ itself. inl (eqb-true r.number s.number itself)) (λ parts. inr (lists_same r xs s ys (parts_of r.node) (parts_of s.node) mine theirs parts)) (or_cases (is_one r s) (declare_same ps vs r s) there)))
      (or_cases (s.around.home == q.around.home) (same_structure ps vs r s) same)

  structures_agree : (p q : Phrase) (o : Option (List ℕ)) → names_same ps vs p q o ≡ true → (name : List ℕ) → o ≡ Some name → NamesTheSame ps vs p q name
  unfolding names_same
  structures_agree p q o is name named =
      let same : names_same ps vs p q (Some name) ≡ true = subst (λ (x : Option (List ℕ)). names_same ps vs p q x ≡ true) named is in
      names_agree p q name (structure_named ps p.around.block name) (structure_named ps q.around.block name) same

-- values
integer_same : (a b : ℤ) → int_lt a b ≡ false → int_lt b a ≡ false → a ≡ b
integer_same a b least most = omega (arith, ints)

not_above : (b : Bool) → not b ≡ true → b ≡ false
not_above true is = absurd (false≢true is)
not_above false is = refl

value_same : (v w : Value) → same_value v w ≡ true → v ≡ w
unfolding same_value
value_same (value.Int a) (value.Int b) is =
    let parts = and_parts (not (int_lt a b)) (not (int_lt b a)) is in ap value.Int (integer_same a b (not_above (int_lt a b) parts.0) (not_above (int_lt b a) parts.1))
value_same (value.Int a) (value.Bits n y) is = absurd (false≢true is)
value_same (value.Int a) (value.Text t) is = absurd (false≢true is)
value_same (value.Bits m x) (value.Int b) is = absurd (false≢true is)
value_same (value.Bits m x) (value.Bits n y) is = let parts = and_parts (m == n) (x == y) is in ap₂ value.Bits (eqb-true m n parts.0) (eqb-true x y parts.1)
value_same (value.Bits m x) (value.Text t) is = absurd (false≢true is)
value_same (value.Text s) (value.Int b) is = absurd (false≢true is)
value_same (value.Text s) (value.Bits n y) is = absurd (false≢true is)
value_same (value.Text s) (value.Text t) is = ap value.Text (bytes_same s t is)

values_agree : (v w : Option Value) → may_be_value v w ≡ true → Agree v w
unfolding may_be_value
values_agree (Some v) (Some w) is = value_same v w is
values_agree (Some v) None is = tt
values_agree None (Some w) is = tt
values_agree None None is = tt

module _ (ps : List Phrase) (vs : Known) where
  cell_agrees : (kinds : List (Option Kind)) (p : Phrase) (xs : List Initial) (q : Phrase) (ys : List Initial) (n k : ℕ) → k < n → same_below ps vs kinds p xs q ys n ≡ true
      → Agree (held_at ps vs p kinds xs k) (held_at ps vs q kinds ys k)
  unfolding same_below
  cell_agrees kinds p xs q ys zero k below is = absurd (omega (arith, below))
  cell_agrees kinds p xs q ys (suc n) k below is =
      let parts = and_parts (same_at ps vs kinds p xs q ys n) (same_below ps vs kinds p xs q ys n) is in
      ⊎_elim (λ before. cell_agrees kinds p xs q ys n k before parts.1)
      (λ last. subst (λ j. Agree (held_at ps vs p kinds xs j) (held_at ps vs q kinds ys j)) (let same : n ≡ k = omega (arith, below, last) in same) (values_agree (held_at ps vs p kinds xs n) (held_at ps vs q kinds ys n) parts.0))
      (cases_lt k n)

  -- where both are few
  lists_agree : (kinds : List (Option Kind)) (p : Phrase) (xs : Initials) (q : Phrase) (ys : Initials) (few less : Bool) → few ≡ true → less ≡ true
      → (if few && less then same_leaves ps vs kinds p (all_leaves xs) q (all_leaves ys) else true) ≡ true → same_leaves ps vs kinds p (all_leaves xs) q (all_leaves ys) ≡ true
  lists_agree kinds p xs q ys true true one other is = is
  lists_agree kinds p xs q ys true false one other is = absurd (false≢true other)
  lists_agree kinds p xs q ys false less one other is = absurd (false≢true one)

  given_agree : (kinds : Option (List (Option Kind))) (p : Phrase) (o : Option Initials) (q : Phrase) (t : Option Initials) → same_given ps vs kinds p o q t ≡ true
      → (ks : List (Option Kind)) (xs ys : Initials) → kinds ≡ Some ks → o ≡ Some xs → t ≡ Some ys → is_few (count_of_all xs) ≡ true → is_few (count_of_all ys) ≡ true
      → (k : ℕ) → k < max (length ks) (max (length (all_leaves xs)) (length (all_leaves ys))) → Agree (held_at ps vs p ks (all_leaves xs) k) (held_at ps vs q ks (all_leaves ys) k)
  unfolding same_given same_in
  given_agree kinds p o q t is ks xs ys known one other few less k below =
      let same : same_given ps vs (Some ks) p (Some xs) q (Some ys) ≡ true =
      sym (ap (λ (x : Option (List (Option Kind))). same_given ps vs x p o q t) known ∙ ap₂ (λ (x y : Option Initials). same_given ps vs (Some ks) p x q y) one other) ∙ is in
      cell_agrees ks p (all_leaves xs) q (all_leaves ys) (max (length ks) (max (length (all_leaves xs)) (length (all_leaves ys)))) k below
      (lists_agree ks p xs q ys (is_few (count_of_all xs)) (is_few (count_of_all ys)) few less same)

  pub data_same : (p : Phrase) (common own : List Attribute) (q : Phrase) (other_common other_own : List Attribute) → same_item ps vs p common own q other_common other_own ≡ true
      → IsSameData ps vs p common own q other_common other_own
  data_same p common own q other_common other_own is =
      let name = template_of (type_given common own) in
      let meaning = same_meaning ps vs p common own q other_common other_own in
      let parts = and_parts (meaning && names_same ps vs p q name) (same_constants ps vs p common own q other_common other_own) is in
      let first = and_parts meaning (names_same ps vs p q name) parts.0 in
      record {
        attributes = mean_same ps vs p common own q other_common other_own first.0;
        structures = structures_agree ps vs p q name first.1;
        constants = given_agree (kinds_of ps vs q other_common other_own) p (constants_given common own) q (constants_given other_common other_own) parts.1;
      }
