-- Data of a written template of a COMPOOL, for the checks, agree with the COMPOOL's own, for the meaning.
use Rattle.std.proofs.Common.{◌≡◌, ℕ, suc, Bool, true, false, not, ◌&&◌, List, [], ◌++◌, Option, Some, None, slice_get, refl, sym, ap, ◌∙◌}
use Rattle.std.specs.Option.{is_some}
use Rattle.std.proofs.lemmas.List.Folds.{list_any-append}
use Rattle.hal_grammar.specs.Expressions.{Expressions, NoExpressions, MoreExpressions}
use Rattle.hal_grammar.specs.Declarations.{Kind, IntegerKind, BooleanKind, EventKind, BitKind, CharacterKind, StructureKind, Double, Attribute, Declared}
use Rattle.hal_phrases.specs.Phrases.{Phrase, OfItem}
use Rattle.hal_names.specs.Laws.{IsCounted}
use Rattle.hal_names.specs.Means.{means}
use Rattle.hal_scope.specs.Rules.{IsAmong, IsSound, rows}
use Rattle.hal_scope.specs.Sorts.{type_of}
use Rattle.hal_types.specs.Rules.{type_rows}
use Rattle.hal_kinds.specs.declared.class.Class.TheVariants as class
use Rattle.hal_scope.specs.Uses.{is_nil}
use Rattle.hal_kinds.specs.Attributes as attributes
use Rattle.hal_kinds.specs.Attributes.{count_of, has_mark, is_mark, sizes_of}
use Rattle.hal_kinds.specs.Data.{class_of_type, data_at, data_of, data_with, dimensions_of, has_copies, is_event_type, is_structure_type}
use Rattle.hal_constants.specs.Known.{Known, kind_of_type, known}
use Rattle.hal_constants.specs.Naming.{is_value_item}
use Rattle.hal_templates.specs.Agreeing.{Agree, AgreeInSizes, BothOrNeither}
use Rattle.hal_templates.specs.Own.{template_of}
use Rattle.hal_templates.specs.Traits.{is_given}
use Rattle.hal_meaning.specs.Elements.{shape_of}
use Rattle.hal_meaning.specs.Places.{storing}
use Rattle.hal_meaning.specs.Variables.{meant_by, name_meant, spot_of}
use Rattle.hal_agreement.specs.Sites.{Site, here_at}
use Rattle.hal_fit_expr.specs.Uses.{Uses}
use Rattle.hal_fit_rules.specs.Agreeing.{AreAlike, FormAgrees, NameAgrees}
use Rattle.hal_fit_rules.specs.Received.{CellsAgree}
use Rattle.hal_fit_rules.specs.Valued.{HasConstants}
use Rattle.hal_fit_rules.proofs.Calling as calling
use Rattle.hal_fit_rules.proofs.Declaring.{agrees_as, cells_as, item_meant_so, items_alike, lying, meant_standing}
use Rattle.hal_fit_rules.proofs.Structuring.{structure_alike}
use Rattle.hal_fit_names.specs.Standing.{StandsForData}
use Rattle.hal_fit_names.specs.Suited.{AreDeclared, HasFitLiterals}
use Rattle.hal_fit_names.proofs.Declaring.{cells_known}
use Rattle.hal_fit_names.proofs.Placing.{NodePlaced, at_among}

pub typed_same : (o : Option Kind) → true ≡ is_some o → (t : Kind) × (o ≡ Some t)
typed_same None is = absurd (cc)
typed_same (Some t) is = (t, refl)

pub structure_by_template : (o : Option Kind) → is_structure_type o ≡ is_some (template_of o)
unfolding is_structure_type template_of
structure_by_template None = refl
structure_by_template (Some (StructureKind place template copies)) = refl
structure_by_template (Some (IntegerKind place)) = refl
structure_by_template (Some (BooleanKind place)) = refl
structure_by_template (Some (EventKind place)) = refl
structure_by_template (Some (BitKind place size)) = refl
structure_by_template (Some (CharacterKind place size)) = refl

-- as many sizes
counted_same : (ps : List Phrase) (vs : Known) (p q : Phrase) (xs ys : Expressions) → AgreeInSizes ps vs p xs q ys → count_of xs ≡ count_of ys
unfolding count_of
counted_same ps vs p q NoExpressions NoExpressions same = refl
counted_same ps vs p q NoExpressions (MoreExpressions y ys) same = absurd same
counted_same ps vs p q (MoreExpressions x xs) NoExpressions same = absurd same
counted_same ps vs p q (MoreExpressions x xs) (MoreExpressions y ys) same = ap (λ n. suc n) (counted_same ps vs p q xs ys same.1)

pub sizes_same : (ps : List Phrase) (vs : Known) (p q : Phrase) (a b : Option Expressions) → BothOrNeither (λ xs ys. AgreeInSizes ps vs p xs q ys) a b → (is_some a ≡ is_some b) × (dimensions_of a ≡ dimensions_of b)
unfolding dimensions_of
sizes_same ps vs p q (Some xs) (Some ys) same = (refl, counted_same ps vs p q xs ys same)
sizes_same ps vs p q None None same = (refl, refl)
sizes_same ps vs p q (Some xs) None same = absurd same
sizes_same ps vs p q None (Some ys) same = absurd same

pub agree_some : {X : Type 0} (a b : Option X) (x y : X) → Agree a b → a ≡ Some x → b ≡ Some y → x ≡ y
agree_some (Some v) (Some w) x y same is other = let first : x ≡ v = cc in let second : w ≡ y = cc in first ∙ (same ∙ second)
agree_some None b x y same is other = absurd (cc)
agree_some (Some v) None x y same is other = absurd (cc)

pub all_false : (a b : Bool) → not a && not b ≡ true → (a ≡ false) × (b ≡ false)
all_false false false is = (refl, refl)
all_false true b is = absurd (cc)
all_false false true is = absurd (cc)

pub structure_class : (t : Kind) → is_structure_type (Some t) ≡ true → class_of_type t ≡ class.Structure
unfolding is_structure_type class_of_type
structure_class (StructureKind place template copies) is = refl
structure_class other is = absurd (cc)

module _ (u : Uses) (site : Site) (named : IsSound rows site.set.phrases) (sound : IsSound type_rows site.set.phrases) (counted : IsCounted site.set.phrases) (declared : AreDeclared site.set.phrases) (literals : HasFitLiterals site.set.phrases)
    (has : HasConstants site) (placed : (p : Phrase) → IsAmong p site.set.phrases → NodePlaced site.set.phrases p p.node) (k : ℕ) (p : Phrase) (name : List ℕ) (common : List Attribute) (item : Declared) (kind : Kind)
    (meant : means site.set.phrases site.block name ≡ Some k) (there : slice_get site.set.phrases k ≡ Some p) (is : p.node ≡ OfItem common item) (typed : type_of common item ≡ Some kind) (eventless : is_event_type (Some kind) ≡ false)
    (stored : is_value_item common item ≡ false) (stands : StandsForData site.set.phrases k p common item) where
  -- the data that it stands for are such too
  record AreSuch : Type 0 where
    type_ : Kind
    typed_too : type_of stands.other_common stands.other ≡ Some type_
    eventless_too : is_event_type (Some type_) ≡ false
    shaped_too : is_structure_type (Some type_) ≡ is_structure_type (Some kind)
    stored_too : is_value_item stands.other_common stands.other ≡ false
    dimensioned : dimensions_of (sizes_of common item) ≡ dimensions_of (sizes_of stands.other_common stands.other)

  are_such : AreSuch
  are_such =
      let ps : List Phrase = site.set.phrases in
      let same = stands.same.attributes in
      let type_too = typed_same (type_of stands.other_common stands.other) (ap (λ (o : Option Kind). is_some o) (sym typed) ∙ same.words.typed) in
      let sizes = sizes_same ps (known ps) p stands.phrase (sizes_of common item) (sizes_of stands.other_common stands.other) same.dimensions in
      let structured : is_structure_type (type_of common item) ≡ is_structure_type (type_of stands.other_common stands.other) =
      structure_by_template (type_of common item) ∙ (ap (λ (o : Option (List ℕ)). is_some o) same.template ∙ sym (structure_by_template (type_of stands.other_common stands.other))) in
      record {
        type_ = type_too.0;
        typed_too = type_too.1;
        eventless_too = ap is_event_type (sym type_too.1) ∙ (sym same.words.event ∙ (ap is_event_type typed ∙ eventless));
        shaped_too = ap is_structure_type (sym type_too.1) ∙ (sym structured ∙ ap is_structure_type typed);
        stored_too =
            ap (λ b. b && (not (is_some (sizes_of stands.other_common stands.other)) && not (is_structure_type (type_of stands.other_common stands.other)))) (sym same.words.constant)
            ∙ (ap (λ b. is_some (attributes.constant_of common item) && (not b && not (is_structure_type (type_of stands.other_common stands.other)))) (sym sizes.0)
            ∙ (ap (λ b. is_some (attributes.constant_of common item) && (not (is_some (sizes_of common item)) && not b)) (sym structured) ∙ stored));
        dimensioned = sizes.1;
      }

  double_too : has_mark Double (stands.other.attributes ++ stands.other_common) ≡ is_given Double stands.other_common stands.other.attributes
  double_too = list_any-append (is_mark Double) stands.other.attributes stands.other_common

  alike_plain : is_structure_type (Some kind) ≡ false → AreAlike (data_at site.set.phrases p [] (OfItem common item)) [] (shape_of site.set.phrases site.set.constants stands.phrase stands.other_common stands.other)
  alike_plain plain =
      let ps : List Phrase = site.set.phrases in
      let such = are_such in
      let q : Phrase = stands.phrase in
      let mine = cells_known ps named sound counted declared literals site refl has p (placed p (at_among ps k p there)) common item kind is typed stored plain (is_given Double common item.attributes) in
      let theirs = cells_known ps named sound counted declared literals site refl has q (placed q (at_among ps q.number q stands.there)) stands.other_common stands.other such.type_ stands.declares such.typed_too such.stored_too (such.shaped_too ∙ plain)
      (has_mark Double (stands.other.attributes ++ stands.other_common)) in
      items_alike ps site.set.constants p q common stands.other_common item stands.other kind such.type_ (is_given Double common item.attributes) mine.0 theirs.0 typed such.typed_too (such.shaped_too ∙ plain) mine.1 theirs.1
      (agree_some (kind_of_type ps (known ps) p (is_given Double common item.attributes) (type_of common item)) (kind_of_type ps (known ps) q (is_given Double stands.other_common stands.other.attributes) (type_of stands.other_common stands.other)) mine.0 theirs.0 stands.same.attributes.words.kind
      (ap (kind_of_type ps (known ps) p (is_given Double common item.attributes)) typed ∙ (ap (λ vs. kind_of_type ps vs p (is_given Double common item.attributes) (Some kind)) (sym has) ∙ mine.1))
      (ap (kind_of_type ps (known ps) q (is_given Double stands.other_common stands.other.attributes)) such.typed_too
      ∙ (ap (λ b. kind_of_type ps (known ps) q b (Some such.type_)) (sym double_too) ∙ (ap (λ vs. kind_of_type ps vs q (has_mark Double (stands.other.attributes ++ stands.other_common)) (Some such.type_)) (sym has) ∙ theirs.1))))
      such.dimensioned

  alike : AreAlike (data_at site.set.phrases p [] (OfItem common item)) [] (shape_of site.set.phrases site.set.constants stands.phrase stands.other_common stands.other)
  unfolding data_at data_of is_nil
  alike = by (is_structure_type (Some kind)) refl where
    by : (b : Bool) → is_structure_type (Some kind) ≡ b → AreAlike (data_at site.set.phrases p [] (OfItem common item)) [] (shape_of site.set.phrases site.set.constants stands.phrase stands.other_common stands.other)
    by true structured =
        structure_alike (data_at site.set.phrases p [] (OfItem common item)) [] (shape_of site.set.phrases site.set.constants stands.phrase stands.other_common stands.other)
        (data_with (class_of_type kind) (dimensions_of (sizes_of common item)) (has_copies kind)) (ap (λ o. data_of o (sizes_of common item)) typed) (structure_class kind structured)
    by false plain = alike_plain plain

  means_data : name_meant (here_at site) name [] ≡ lying u site stands.phrase stands.other_common stands.other
  means_data =
      let such = are_such in
      meant_standing u site name k stands.phrase.number stands.phrase meant stands.stands stands.there
      ∙ (ap (meant_by (here_at site) [] stands.phrase) stands.declares ∙ item_meant_so u site stands.phrase stands.other_common stands.other such.type_ such.typed_too such.eventless_too such.stored_too)

  pub pooled_agree : NameAgrees u site site.set.phrases site.block name []
  pooled_agree = agrees_as u site [] name k p (OfItem common item) (lying u site stands.phrase stands.other_common stands.other) meant there is means_data alike

  pub pooled_cells : CellsAgree site.set.phrases [] (means site.set.phrases site.block name) (name_meant (here_at site) name [])
  pooled_cells =
      cells_as u site [] name k p (OfItem common item) (spot_of (here_at site) [] stands.phrase.number (storing site.set.phrases site.set.constants stands.phrase (OfItem stands.other_common stands.other)))
      (shape_of site.set.phrases site.set.constants stands.phrase stands.other_common stands.other) meant there is means_data alike

  pub pooled_formed : FormAgrees u site site.set.phrases site.block name
  pooled_formed = calling.formed_as u site name k p (OfItem common item) (lying u site stands.phrase stands.other_common stands.other) meant there is means_data alike
