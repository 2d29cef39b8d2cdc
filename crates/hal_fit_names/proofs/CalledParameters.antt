-- The parameters of a written template of a unit that is called are for the unit what they are for the checks.
use Rattle.std.proofs.Common.{◌≡◌, ℕ, false, ◌||◌, List, [], ◌∷◌, Option, Some, slice_get, refl, sym, ap, ◌∙◌, inl, inr}
use Rattle.std.specs.Option.{option_and_then, is_some}
use Rattle.hal_grammar.specs.Leaves.{Naming}
use Rattle.hal_grammar.specs.Declarations.{Kind, IntegerKind, BooleanKind, EventKind, BitKind, CharacterKind, StructureKind, Double, Attribute, Declared}
use Rattle.hal_phrases.specs.Phrases.{Phrase, OfItem}
use Rattle.hal_names.specs.Laws.{IsCounted}
use Rattle.hal_scope.specs.Rules.{IsAmong, IsSound, rows}
use Rattle.hal_scope.specs.Sorts.{type_of}
use Rattle.hal_kinds.specs.Attributes.{sizes_of}
use Rattle.hal_kinds.specs.Data.{class_of_type, is_structure_type}
use Rattle.hal_types.specs.Rules.{type_rows}
use Rattle.hal_shapes.specs.Arguments.{parameter_of}
use Rattle.hal_constants.specs.Known.{Known, kind_of_type, known}
use Rattle.hal_constants.specs.Naming.{is_value_item}
use Rattle.hal_templates.specs.Giving.{IsOwn}
use Rattle.hal_templates.specs.Traits.{is_given}
use Rattle.hal_meaning.specs.Calls.{parameter_named}
use Rattle.hal_meaning.specs.Variables.{is_whole, kind_of_first}
use Rattle.hal_code.specs.Sorts.{B, I, Sort, T, sort_of}
use Rattle.hal_agreement.specs.Sites.{Site}
use Rattle.hal_fit_classes.specs.Kinded.{sort_of_class}
use Rattle.hal_fit_rules.specs.Parameters.{ParameterAgrees, ParametersAgree, spelled}
use Rattle.hal_fit_rules.specs.Valued.{HasConstants}
use Rattle.hal_fit_rules.proofs.Declaring.{cells_of_type}
use Rattle.hal_fit_names.specs.Suited.{AreDeclared, HasFitLiterals}
use Rattle.hal_fit_names.specs.Used.{AreDeclaredParameters, IsDeclaredParameter}
use Rattle.hal_fit_names.proofs.Declaring.{cells_known}
use Rattle.hal_fit_names.proofs.Placing.{NodePlaced, at_among}
use Rattle.hal_fit_names.proofs.Pooled.{agree_some, sizes_same, structure_by_template, typed_same}
use Rattle.hal_fit_names.proofs.SameValues.{valued_same}
use Rattle.hal_fit_names.proofs.Twins.{IsTwin}

-- a type whose class has a sort is no structure, and such a type has one
unstructured : (t : Kind) (s : Sort) → sort_of_class (class_of_type t) ≡ Some s → is_structure_type (Some t) ≡ false
unfolding class_of_type is_structure_type
unstructured (IntegerKind place) s is = refl
unstructured (BooleanKind place) s is = refl
unstructured (EventKind place) s is = refl
unstructured (BitKind place size) s is = refl
unstructured (CharacterKind place size) s is = refl
unstructured (StructureKind place template copies) s is = absurd (cc)

sorted_type : (t : Kind) → is_structure_type (Some t) ≡ false → (s : Sort) × (sort_of_class (class_of_type t) ≡ Some s)
unfolding class_of_type is_structure_type
sorted_type (IntegerKind place) plain = (I, refl)
sorted_type (BooleanKind place) plain = (B, refl)
sorted_type (EventKind place) plain = (B, refl)
sorted_type (BitKind place size) plain = (B, refl)
sorted_type (CharacterKind place size) plain = (T, refl)
sorted_type (StructureKind place template copies) plain = absurd (cc)

found_own : (ps : List Phrase) (h : ℕ) (name : Naming) (q : Phrase) → IsOwn ps h name.name q → parameter_of ps h name ≡ Some q
unfolding parameter_of
found_own ps h name q owned = ap (option_and_then (λ i. slice_get ps i)) owned.found ∙ owned.there

-- two phrases of one parameter declare the same
record AreOne (common other_common : List Attribute) (item other : Declared) : Type 0 where
  commons : common ≡ other_common
  items : item ≡ other

one_item : (p q : Phrase) (common other_common : List Attribute) (item other : Declared) → Some p ≡ Some q → p.node ≡ OfItem common item → q.node ≡ OfItem other_common other → AreOne common other_common item other
one_item p q common other_common item other same is that =
    let phrases : p ≡ q = cc in
    let nodes : OfItem common item ≡ OfItem other_common other = sym is ∙ (ap (λ (r : Phrase). r.node) phrases ∙ that) in
    record { commons = cc; items = cc }

module _ (site : Site) (named : IsSound rows site.set.phrases) (sound : IsSound type_rows site.set.phrases) (counted : IsCounted site.set.phrases) (declared : AreDeclared site.set.phrases) (literals : HasFitLiterals site.set.phrases)
    (has : HasConstants site) (placed : (p : Phrase) → IsAmong p site.set.phrases → NodePlaced site.set.phrases p p.node) (k u : ℕ) where
  module _ (n m : Naming) (names : n.name ≡ m.name) (twin : IsTwin site.set.phrases k u m.name) (is : IsDeclaredParameter site.set.phrases u m) (par : ParameterAgrees site site.set.phrases u u m) where
    other_found : parameter_of site.set.phrases u m ≡ Some twin.other
    other_found = found_own site.set.phrases u m twin.other twin.theirs

    stored_other : is_value_item twin.other_common twin.other_item ≡ false
    stored_other =
        let one = one_item twin.other is.phrase twin.other_common is.common twin.other_item is.item (sym other_found ∙ is.found) twin.declares_other is.declares in
        ap (λ c. is_value_item c twin.other_item) one.commons ∙ (ap (is_value_item is.common) one.items ∙ is.stored)

    one_with : AreOne twin.other_common par.common twin.other_item par.item
    one_with = one_item twin.other par.phrase twin.other_common par.common twin.other_item par.item (sym other_found ∙ par.found) twin.declares_other par.declares

    typed_other : type_of twin.other_common twin.other_item ≡ Some par.kind
    typed_other = ap (λ c. type_of c twin.other_item) one_with.commons ∙ (ap (type_of par.common) one_with.items ∙ par.typed)

    type_there : (t : Kind) × (type_of twin.common twin.item ≡ Some t)
    type_there = typed_same (type_of twin.common twin.item) (ap (λ (o : Option Kind). is_some o) (sym typed_other) ∙ sym twin.same.attributes.words.typed)

    structured : is_structure_type (Some type_there.0) ≡ is_structure_type (Some par.kind)
    structured =
        ap is_structure_type (sym type_there.1)
        ∙ (structure_by_template (type_of twin.common twin.item)
        ∙ (ap (λ (o : Option (List ℕ)). is_some o) twin.same.attributes.template ∙ (sym (structure_by_template (type_of twin.other_common twin.other_item)) ∙ ap is_structure_type typed_other)))

    sized : is_some (sizes_of par.common par.item) ≡ is_some (sizes_of twin.common twin.item)
    sized =
        ap (λ c. is_some (sizes_of c par.item)) (sym one_with.commons)
        ∙ (ap (λ d. is_some (sizes_of twin.other_common d)) (sym one_with.items)
        ∙ sym (sizes_same site.set.phrases (known site.set.phrases) twin.phrase twin.other (sizes_of twin.common twin.item) (sizes_of twin.other_common twin.other_item) twin.same.attributes.dimensions).0)

    -- the classes of their types have one sort
    class_sort : (s : Sort) → sort_of_class (class_of_type type_there.0) ≡ Some s → sort_of_class (class_of_type par.kind) ≡ Some s
    class_sort s worth =
        let p : Phrase = twin.phrase in
        let q : Phrase = twin.other in
        let plain = unstructured type_there.0 s worth in
        let plain_other : is_structure_type (Some par.kind) ≡ false = sym structured ∙ plain in
        let stored : is_value_item twin.common twin.item ≡ false =
        valued_same site.set.phrases (known site.set.phrases) p q twin.common twin.other_common twin.item twin.other_item twin.same ∙ stored_other in
        let mine = cells_known site.set.phrases named sound counted declared literals site refl has p (placed p (at_among site.set.phrases p.number p twin.mine.there)) twin.common twin.item type_there.0 twin.declares_it type_there.1 stored plain
        (is_given Double twin.common twin.item.attributes) in
        let theirs = cells_known site.set.phrases named sound counted declared literals site refl has q (placed q (at_among site.set.phrases q.number q twin.theirs.there)) twin.other_common twin.other_item par.kind twin.declares_other typed_other
        stored_other plain_other (is_given Double twin.other_common twin.other_item.attributes) in
        let kinds : mine.0 ≡ theirs.0 =
        agree_some (kind_of_type site.set.phrases (known site.set.phrases) p (is_given Double twin.common twin.item.attributes) (type_of twin.common twin.item))
        (kind_of_type site.set.phrases (known site.set.phrases) q (is_given Double twin.other_common twin.other_item.attributes) (type_of twin.other_common twin.other_item)) mine.0 theirs.0 twin.same.attributes.words.kind
        (ap (kind_of_type site.set.phrases (known site.set.phrases) p (is_given Double twin.common twin.item.attributes)) type_there.1
        ∙ (ap (λ (vs : Known). kind_of_type site.set.phrases vs p (is_given Double twin.common twin.item.attributes) (Some type_there.0)) (sym has) ∙ mine.1))
        (ap (kind_of_type site.set.phrases (known site.set.phrases) q (is_given Double twin.other_common twin.other_item.attributes)) typed_other
        ∙ (ap (λ (vs : Known). kind_of_type site.set.phrases vs q (is_given Double twin.other_common twin.other_item.attributes) (Some par.kind)) (sym has) ∙ theirs.1)) in
        let first = cells_of_type site.set.phrases site.set.constants p (is_given Double twin.common twin.item.attributes) type_there.0 mine.0 s mine.1 worth in
        let sort = sorted_type par.kind plain_other in
        let second = cells_of_type site.set.phrases site.set.constants q (is_given Double twin.other_common twin.other_item.attributes) par.kind theirs.0 sort.0 theirs.1 sort.1 in
        sort.1 ∙ ap (λ (x : Sort). Some x) (sym second ∙ (ap sort_of (sym kinds) ∙ first))

    parameter_agrees : ParameterAgrees site site.set.phrases k u n
    unfolding parameter_of
    parameter_agrees = record {
      phrase = twin.phrase;
      found = found_as;
      common = twin.common;
      item = twin.item;
      declares = twin.declares_it;
      kind = type_there.0;
      typed = type_there.1;
      whole = ap (λ (a : List ℕ). is_whole (parameter_named site.set u (record { place = n.place; name = a })).shape) names
          ∙ (par.whole ∙ (ap (λ b. b || is_some (sizes_of par.common par.item)) (sym structured) ∙ ap (λ b. is_structure_type (Some type_there.0) || b) sized));
      sorted = λ s worth. ap (λ (a : List ℕ). sort_of (kind_of_first (parameter_named site.set u (record { place = n.place; name = a })).shape.components)) names ∙ par.sorted s (class_sort s worth);
    } where
      found_as : parameter_of site.set.phrases k n ≡ Some twin.phrase
      found_as = ap (λ (a : List ℕ). parameter_of site.set.phrases k (record { place = n.place; name = a })) names ∙ found_own site.set.phrases k m twin.phrase twin.mine

  -- those of these names, as the unit has them
  pub parameters_agree_too : (ns ms : List Naming) → spelled ns ≡ spelled ms → ((m : Naming) → IsDeclaredParameter site.set.phrases u m → IsAmong m ms → IsTwin site.set.phrases k u m.name) → AreDeclaredParameters site.set.phrases u ms
      → ParametersAgree site site.set.phrases u u ms → ParametersAgree site site.set.phrases k u ns
  parameters_agree_too [] [] same twins are agree = tt
  parameters_agree_too [] (m ∷ ms) same twins are agree = absurd (cc)
  parameters_agree_too (n ∷ ns) [] same twins are agree = absurd (cc)
  parameters_agree_too (n ∷ ns) (m ∷ ms) same twins are agree =
      let first : n.name ≡ m.name = cc in
      let rest : spelled ns ≡ spelled ms = cc in
      (parameter_agrees n m first (twins m are.0 (inl refl)) are.0 agree.0, parameters_agree_too ns ms rest (λ x is within. twins x is (inr within)) are.1 agree.1)
