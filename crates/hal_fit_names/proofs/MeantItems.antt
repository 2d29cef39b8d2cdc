-- What names mean that are declared: the type of each item, events, constants, structures and plain data.
use Rattle.std.proofs.Common.{◌≡◌, ◌⊎◌, ℕ, Bool, true, false, not, ◌&&◌, ◌||◌, List, [], ◌++◌, Option, Some, None, slice_get, refl, sym, ap, ◌∙◌, inl, inr}
use Rattle.std.specs.Option.{is_some}
use Rattle.hal_grammar.specs.Expressions.{Expressions}
use Rattle.hal_grammar.specs.Declarations.{Kind, Attribute, Declared}
use Rattle.hal_phrases.specs.Phrases.{Phrase, OfItem}
use Rattle.hal_names.specs.declared.key.Key.{Key}
use Rattle.hal_names.specs.declared.key.Space.{Space}
use Rattle.hal_names.specs.Laws.{IsCounted}
use Rattle.hal_names.specs.Means.{means}
use Rattle.hal_scope.specs.Rules.{Row, IsAmong, IsSound, rows, ruled}
use Rattle.hal_scope.specs.Sorts.{type_of}
use Rattle.hal_scope.specs.Uses.{is_nil}
use Rattle.hal_kinds.specs.Attributes.{sizes_of}
use Rattle.hal_kinds.specs.Data.{class_of_type, has_copies, dimensions_of, data_with, data_of, data_at, is_event_type, is_structure_type, is_parameter}
use Rattle.hal_operands.specs.Wants.{at}
use Rattle.hal_attributes.specs.Typed.{untyped, is_no_variable, misplaced_event}
use Rattle.hal_types.specs.Rules.{attribute_rows, operand_rows, use_rows, size_rows, type_rows}
use Rattle.hal_constants.specs.Known.{known}
use Rattle.hal_constants.specs.Naming.{is_value_item}
use Rattle.hal_meaning.specs.Bodies.{standing_for}
use Rattle.hal_agreement.specs.Sites.{Site}
use Rattle.hal_fit_rules.specs.Happening.{IsEvent}
use Rattle.hal_fit_rules.specs.Owned.{IsOwn, IsPlainData, IsStructureData}
use Rattle.hal_fit_rules.specs.Valued.{HasConstants, IsConstantItem}
use Rattle.hal_fit_rules.proofs.Unbroken.{among_first, unbroken, ruled_none}
use Rattle.hal_fit_names.specs.Named.{AreLeft}
use Rattle.hal_fit_names.specs.Standing.{StandsForData, StandsForItself}
use Rattle.hal_fit_names.specs.Suited.{HasFitLiterals, AreDeclared, is_plain}
use Rattle.hal_fit_names.proofs.Declaring.{plain_data}
use Rattle.hal_fit_names.proofs.Placing.{NodePlaced, at_among}
use Rattle.hal_fit_names.proofs.Pooled.{all_false, structure_class}
use Rattle.hal_fit_names.proofs.SameValues.{valued_same}
use Rattle.hal_fit_names.proofs.Suiting.{unless_true}

-- the space of a key
abbrev pub space_of : Option Key → Option Space
space_of None = None
space_of (Some k) = Some k.space

-- a rule of attributes is one of types
pub of_attributes : (row : Row) → IsAmong row attribute_rows → IsAmong row type_rows
unfolding type_rows
of_attributes row listed = among_first row attribute_rows (operand_rows ++ (use_rows ++ size_rows)) listed

-- an event is no array
no_sizes : (o : Option Expressions) (parameter : Bool) → not (true && (is_some o || parameter)) ≡ true → o ≡ None
no_sizes None parameter is = refl
no_sizes (Some sizes) parameter is = absurd (cc)

-- what is no template stands in a unit
pub in_unit : (b : Bool) → not b ≡ false → b ≡ true
in_unit true is = refl
in_unit false is = absurd (cc)

-- a type that is there is one
type_there : (o : Option Kind) → is_some o ≡ true → (t : Kind) × (o ≡ Some t)
type_there (Some t) is = (t, refl)
type_there None is = absurd (cc)

-- a name means plain data, which stand for those of a COMPOOL or for themselves
pub data IsPlainName (site : Site) (name : List ℕ) (k : ℕ) (p : Phrase) (common : List Attribute) (item : Declared) : Type 0 where
  ForData : (t : Kind) → type_of common item ≡ Some t → is_event_type (Some t) ≡ false → is_value_item common item ≡ false → StandsForData site.set.phrases k p common item → IsPlainName site name k p common item
  ForStructure : (t : Kind) (own : IsOwn site name) → own.phrase.node ≡ OfItem common item → type_of common item ≡ Some t → is_event_type (Some t) ≡ false → is_structure_type (Some t) ≡ true → is_value_item common item ≡ false → IsPlainName site name k p common item
  ForItself : (own : IsOwn site name) → IsPlainData site own.phrase → IsPlainName site name k p common item

-- a constant that a template of a COMPOOL declares has the value of the one that it stands for
pub record IsPair (site : Site) (k : ℕ) (p : Phrase) : Type 0 where
  pub mine : IsConstantItem site p
  pub other : Phrase
  pub stands : standing_for site.set.phrases k ≡ other.number
  pub at : slice_get site.set.phrases other.number ≡ Some other
  pub theirs : IsConstantItem site other
  pub same : theirs.value ≡ mine.value

module _ (site : Site) where
  -- data of a structure's type are structures
  pub structure_data : (p : Phrase) (common : List Attribute) (item : Declared) (t : Kind) → p.node ≡ OfItem common item → type_of common item ≡ Some t → is_structure_type (Some t) ≡ true → IsStructureData site p []
  unfolding data_at is_nil data_of
  structure_data p common item t is typed structured = record {
    common = common;
    item = item;
    declares = is;
    kind = t;
    typed = typed;
    structured = structured;
    declared = data_with (class_of_type t) (dimensions_of (sizes_of common item)) (has_copies t);
    known = ap (λ o. data_of o (sizes_of common item)) typed;
    whole = structure_class t structured;
  }

  -- the checks know what such data are
  pub structure_known : (p : Phrase) (common : List Attribute) (item : Declared) (t : Kind) → type_of common item ≡ Some t
      → data_at site.set.phrases p [] (OfItem common item) ≡ Some (data_with (class_of_type t) (dimensions_of (sizes_of common item)) (has_copies t))
  unfolding data_at is_nil data_of
  structure_known p common item t typed = ap (λ o. data_of o (sizes_of common item)) typed

module _ (site : Site) (sound : IsSound type_rows site.set.phrases) where
  -- each item has a type
  pub item_typed : (p : Phrase) (common : List Attribute) (item : Declared) → IsAmong p site.set.phrases → p.node ≡ OfItem common item → is_some (type_of common item) ≡ true
  unfolding attribute_rows untyped
  item_typed p common item within is =
      unless_true (is_some (type_of common item)) item.name.place
      (ruled_none 323 (untyped (OfItem common item)) (ap (λ n. ruled 323 (untyped n)) (sym is) ∙ unbroken type_rows site.set.phrases sound p within (λ qs q. ruled 323 (untyped q.node)) (of_attributes (λ qs q. ruled 323 (untyped q.node)) (inl refl))))

  -- an event is no array, as no rule of types is broken
  pub event_single : (p : Phrase) (common : List Attribute) (item : Declared) → IsAmong p site.set.phrases → p.node ≡ OfItem common item → is_event_type (type_of common item) ≡ true → sizes_of common item ≡ None
  unfolding attribute_rows misplaced_event
  event_single p common item within is eventful =
      let none = ruled_none 327 (misplaced_event site.set.phrases p (OfItem common item))
      (ap (λ n. ruled 327 (misplaced_event site.set.phrases p n)) (sym is) ∙ unbroken type_rows site.set.phrases sound p within (λ qs q. ruled 327 (misplaced_event qs q q.node)) (of_attributes (λ qs q. ruled 327 (misplaced_event qs q q.node)) (inr (inr (inr (inl refl)))))) in
      no_sizes (sizes_of common item) (is_parameter site.set.phrases p item.name.name)
      (ap (λ b. not (b && (is_some (sizes_of common item) || is_parameter site.set.phrases p item.name.name))) (sym eventful)
      ∙ unless_true (not (is_event_type (type_of common item) && is_no_variable site.set.phrases p common item)) item.name.place none)

  -- an event that a template of a COMPOOL declares stands for one
  unfoldable pub event_for : (k : ℕ) (p : Phrase) (common : List Attribute) (item : Declared) → is_event_type (type_of common item) ≡ true → (stands : StandsForData site.set.phrases k p common item) → IsEvent site stands.phrase
  event_for k p common item eventful stands =
      let eventful_too : is_event_type (type_of stands.other_common stands.other) ≡ true = sym stands.same.attributes.words.event ∙ eventful in
      record {
        common = stands.other_common;
        item = stands.other;
        declares = stands.declares;
        eventful = eventful_too;
        sized = event_single stands.phrase stands.other_common stands.other (at_among site.set.phrases stands.phrase.number stands.phrase stands.there) stands.declares eventful_too;
        within = stands.within;
      }

  -- a constant that a template of a COMPOOL declares and the one that it stands for have one value
  pub constant_pair : (name : List ℕ) (left : AreLeft site name) (k : ℕ) (p : Phrase) (common : List Attribute) (item : Declared) → means site.set.phrases site.block name ≡ Some k → slice_get site.set.phrases k ≡ Some p → p.node ≡ OfItem common item
      → is_event_type (type_of common item) ≡ false → is_value_item common item ≡ true → StandsForData site.set.phrases k p common item → IsPair site k p
  constant_pair name left k p common item meant there is eventless constant stands =
      let q : Phrase = stands.phrase in
      let worth = left.valued k p common item meant there is constant in
      let mine = type_there (type_of common item) (item_typed p common item (at_among site.set.phrases k p there) is) in
      let theirs = type_there (type_of stands.other_common stands.other) (item_typed q stands.other_common stands.other (at_among site.set.phrases q.number q stands.there) stands.declares) in
      record {
        mine = record { common = common; item = item; declares = is; kind = mine.0; typed = mine.1; eventless = ap is_event_type (sym mine.1) ∙ eventless; valued = constant; value = worth.0; worth = worth.1 };
        other = q;
        stands = stands.stands;
        at = stands.there;
        theirs = record {
          common = stands.other_common;
          item = stands.other;
          declares = stands.declares;
          kind = theirs.0;
          typed = theirs.1;
          eventless = ap is_event_type (sym theirs.1) ∙ (sym stands.same.attributes.words.event ∙ eventless);
          valued = sym (valued_same site.set.phrases (known site.set.phrases) p q common stands.other_common item stands.other stands.same) ∙ constant;
          value = worth.0;
          worth = left.same k p common item meant there is constant stands ∙ worth.1;
        };
        same = refl;
      }

module _ (site : Site) (named : IsSound rows site.set.phrases) (sound : IsSound type_rows site.set.phrases) (counted : IsCounted site.set.phrases) (declared : AreDeclared site.set.phrases) (literals : HasFitLiterals site.set.phrases)
    (has : HasConstants site) (placed : (p : Phrase) → IsAmong p site.set.phrases → NodePlaced site.set.phrases p p.node) where
  -- plain data that a name means stand for those of a COMPOOL, or for themselves
  pub plainly : (name : List ℕ) (left : AreLeft site name) (k : ℕ) (p : Phrase) (common : List Attribute) (item : Declared) → means site.set.phrases site.block name ≡ Some k → slice_get site.set.phrases k ≡ Some p → p.node ≡ OfItem common item
      → is_plain common item ≡ true → IsPlainName site name k p common item
  plainly name left k p common item meant there is plain = by (type_of common item) refl (item_typed site sound p common item (at_among site.set.phrases k p there) is) (left.pooled k p common item meant there is) where
    by : (o : Option Kind) → type_of common item ≡ o → is_some o ≡ true → StandsForData site.set.phrases k p common item ⊎ StandsForItself site.set.phrases k p common item → IsPlainName site name k p common item
    by None typed some stands = absurd (cc)
    by (Some t) typed some (inl stands) =
        let parts = all_false (is_event_type (type_of common item)) (is_value_item common item) plain in ForData t typed (ap is_event_type (sym typed) ∙ parts.0) parts.1 stands
    by (Some t) typed some (inr itself) = by_shape (is_structure_type (Some t)) refl where
      parts : (is_event_type (type_of common item) ≡ false) × (is_value_item common item ≡ false)
      parts = all_false (is_event_type (type_of common item)) (is_value_item common item) plain

      by_shape : (b : Bool) → is_structure_type (Some t) ≡ b → IsPlainName site name k p common item
      by_shape true structured = ForStructure t (record { number = k; meant = meant; phrase = p; there = there; own = itself.0 }) is typed (ap is_event_type (sym typed) ∙ parts.0) structured parts.1
      by_shape false shape =
          ForItself (record { number = k; meant = meant; phrase = p; there = there; own = itself.0 })
          (plain_data site.set.phrases named sound counted declared literals site refl has p (placed p (at_among site.set.phrases k p there)) common item t is typed parts.1 (ap is_event_type (sym typed) ∙ parts.0) shape)
