-- A constant that a written template of a COMPOOL declares has the value of the COMPOOL's own.
use Rattle.std.proofs.Common.{◌≡◌, ℕ, Bool, true, false, not, ◌&&◌, List, [], ◌∷◌, Option, Some, None, if◌then◌else◌, refl, sym, ap, ◌∙◌, arith}
use Rattle.std.specs.Prelude.{slice_get}
use Rattle.std.specs.Option.{option_and_then, is_some}
use Rattle.std.proofs.lemmas.Bool.{and_parts}
use Rattle.hal_grammar.specs.Declarations.{Attribute, Declared, Initial, Initials}
use Rattle.hal_phrases.specs.Phrases.{Phrase, OfItem}
use Rattle.hal_scope.specs.Sorts.{type_of}
use Rattle.hal_kinds.specs.Attributes as attributes
use Rattle.hal_kinds.specs.Attributes.{sizes_of}
use Rattle.hal_kinds.specs.Data.{is_structure_type}
use Rattle.hal_values.specs.declared.value.Kind.{Kind}
use Rattle.hal_values.specs.declared.value.Value.{Value}
use Rattle.hal_constants.specs.declared.constant.Constant.{Constant}
use Rattle.hal_constants.specs.declared.constant.Constant.TheVariants as constant
use Rattle.hal_constants.specs.Known.{Known, declared_value, fitted, kind_of_item, only_among, only_in}
use Rattle.hal_constants.specs.Naming.{is_value_item}
use Rattle.hal_initials.specs.Repetition as repetition
use Rattle.hal_templates.specs.Agreeing.{IsSameData}
use Rattle.hal_templates.specs.Counts.{is_few}
use Rattle.hal_templates.specs.Kinds.{kinds_by, kinds_of}
use Rattle.hal_templates.specs.Leaves.{all_leaves, leaf_value}
use Rattle.hal_templates.specs.Own.{template_of}
use Rattle.hal_templates.specs.Traits.{kind_given, type_given}
use Rattle.hal_templates.specs.Values.{held_at}
use Rattle.hal_fit_names.proofs.FirstValues.{all_first, counts_same}
use Rattle.hal_fit_names.proofs.Pooled.{agree_some, sizes_same, structure_by_template}

-- what fits a kind is a value
record IsFitted (o : Option Kind) (c : Constant) : Type 0 where
  kind : Kind
  known_ : o ≡ Some kind
  value : Value
  worth : c ≡ constant.Worth value

fitted_parts : (o : Option Kind) (c : Constant) (v : Value) → fitted o c ≡ Some v → IsFitted o c
unfolding fitted
fitted_parts (Some k) (constant.Worth w) v is = record { kind = k; known_ = refl; value = w; worth = refl }
fitted_parts (Some k) constant.Open v is = absurd (cc)
fitted_parts (Some k) constant.Failed v is = absurd (cc)
fitted_parts (Some k) constant.Unfit v is = absurd (cc)
fitted_parts None c v is = absurd (cc)

no_template : (o : Option (List ℕ)) → is_some o ≡ false → o ≡ None
no_template None is = refl
no_template (Some name) is = absurd (cc)

not_true : (b : Bool) → not b ≡ true → b ≡ false
not_true false is = refl
not_true true is = absurd (cc)

either_zero : (b : Bool) → ◌≡◌ {A = ℕ} (if b then 0 else 0) 0
either_zero true = refl
either_zero false = refl

module _ (ps : List Phrase) (vs : Known) (p q : Phrase) (common other_common : List Attribute) (item other : Declared) (same : IsSameData ps vs p common item.attributes q other_common other.attributes) where
  -- both are their values, or neither is
  pub valued_same : is_value_item common item ≡ is_value_item other_common other
  valued_same =
      let sizes = sizes_same ps vs p q (sizes_of common item) (sizes_of other_common other) same.attributes.dimensions in
      let structured : is_structure_type (type_of common item) ≡ is_structure_type (type_of other_common other) =
      structure_by_template (type_of common item) ∙ (ap (λ (o : Option (List ℕ)). is_some o) same.attributes.template ∙ sym (structure_by_template (type_of other_common other))) in
      ap (λ b. b && (not (is_some (sizes_of common item)) && not (is_structure_type (type_of common item)))) same.attributes.words.constant
      ∙ (ap (λ b. is_some (attributes.constant_of other_common other) && (not b && not (is_structure_type (type_of common item)))) sizes.0
      ∙ ap (λ b. is_some (attributes.constant_of other_common other) && (not (is_some (sizes_of other_common other)) && not b)) structured)

  module _ (valued : is_value_item common item ≡ true) (v w : Value) (mine : declared_value ps vs p (OfItem common item) ≡ Some v) (theirs : declared_value ps vs q (OfItem other_common other) ≡ Some w)
      (xs ys : Initials) (given : attributes.constant_of common item ≡ Some xs) (given_too : attributes.constant_of other_common other ≡ Some ys) (one : repetition.count_with 0 xs ≡ 1)
      (one_too : repetition.count_with 0 ys ≡ 1) where
    valued_too : is_value_item other_common other ≡ true
    valued_too = sym valued_same ∙ valued

    -- what each cell is given
    told : (r : Phrase) (c : List Attribute) (d : Declared) (list : Initials) (x : Value) → is_value_item c d ≡ true → attributes.constant_of c d ≡ Some list → declared_value ps vs r (OfItem c d) ≡ Some x
        → fitted (kind_of_item ps vs r c d) (only_among ps vs r list) ≡ Some x
    unfolding declared_value only_in
    told r c d list x is of_list value =
        sym (ap (λ b. if b then fitted (kind_of_item ps vs r c d) (only_in ps vs r (attributes.constant_of c d)) else None) is ∙ ap (λ o. fitted (kind_of_item ps vs r c d) (only_in ps vs r o)) of_list) ∙ value

    -- the one cell holds it
    held : (r : Phrase) (list : Initials) (o : Option Kind) (x : Value) → fitted o (only_among ps vs r list) ≡ Some x → o ≡ kind_given ps vs q other_common other.attributes
        → held_at ps vs r (kind_given ps vs q other_common other.attributes ∷ []) (all_leaves list) 0 ≡ Some x
    held r list o x value kind_same =
        let parts = fitted_parts o (only_among ps vs r list) x value in
        let first = all_first ps vs r list parts.value parts.worth in
        ap (λ n. option_and_then (λ (leaf : Initial). fitted (kind_given ps vs q other_common other.attributes) (leaf_value ps vs r leaf)) (slice_get (all_leaves list) n)) (either_zero _)
        ∙ (ap (option_and_then (λ (leaf : Initial). fitted (kind_given ps vs q other_common other.attributes) (leaf_value ps vs r leaf))) first.there
        ∙ (ap (fitted (kind_given ps vs q other_common other.attributes)) first.worth
        ∙ (ap (λ k. fitted k (constant.Worth parts.value)) (sym kind_same) ∙ (ap (fitted o) (sym parts.worth) ∙ value))))

    one_kind : kinds_of ps vs q other_common other.attributes ≡ Some (kind_given ps vs q other_common other.attributes ∷ [])
    unfolding kinds_by
    one_kind =
        let rest = and_parts (is_some (attributes.constant_of other_common other)) (not (is_some (sizes_of other_common other)) && not (is_structure_type (type_of other_common other))) valued_too in
        let plain = not_true (is_structure_type (type_of other_common other)) (and_parts (not (is_some (sizes_of other_common other))) (not (is_structure_type (type_of other_common other))) rest.1).1 in
        ap (kinds_by ps vs q other_common other.attributes) (no_template (template_of (type_given other_common other.attributes)) (sym (structure_by_template (type_of other_common other)) ∙ plain))

    pub values_same : v ≡ w
    values_same =
        let first = told p common item xs v valued given mine in
        let second = told q other_common other ys w valued_too given_too theirs in
        let kind_p = fitted_parts (kind_of_item ps vs p common item) (only_among ps vs p xs) v first in
        let kind_q = fitted_parts (kind_of_item ps vs q other_common other) (only_among ps vs q ys) w second in
        let kind_same : kind_p.kind ≡ kind_q.kind =
        agree_some (kind_of_item ps vs p common item) (kind_of_item ps vs q other_common other) kind_p.kind kind_q.kind same.attributes.words.kind kind_p.known_ kind_q.known_ in
        agree_some (held_at ps vs p (kind_given ps vs q other_common other.attributes ∷ []) (all_leaves xs) 0) (held_at ps vs q (kind_given ps vs q other_common other.attributes ∷ []) (all_leaves ys) 0) v w
        (same.constants (kind_given ps vs q other_common other.attributes ∷ []) xs ys one_kind given given_too (ap is_few (counts_same 0 xs ∙ one)) (ap is_few (counts_same 0 ys ∙ one_too)) 0 (omega (arith)))
        (held p xs (kind_of_item ps vs p common item) v first (kind_p.known_ ∙ (ap Some kind_same ∙ sym kind_q.known_))) (held q ys (kind_of_item ps vs q other_common other) w second refl)
