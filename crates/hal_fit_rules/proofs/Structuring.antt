-- Names of whole structures and of parts that are structures agree: neither has a value of its own.
use Rattle.std.proofs.Common.{◌≡◌, ℕ, Bool, true, false, ◌&&◌, not, List, [], Option, Some, refl, sym, ap, ◌∙◌}
use Rattle.std.specs.Option.{is_some}
use Rattle.hal_grammar.specs.Leaves.{Naming}
use Rattle.hal_grammar.specs.Declarations.{Kind, IntegerKind, BooleanKind, EventKind, BitKind, CharacterKind, StructureKind}
use Rattle.hal_phrases.specs.Phrases.{Phrase, OfItem}
use Rattle.hal_names.specs.Means.{means}
use Rattle.hal_scope.specs.Sorts.{type_of}
use Rattle.hal_kinds.specs.declared.class.Class.TheVariants as class
use Rattle.hal_kinds.specs.declared.data.Data.{Data}
use Rattle.hal_kinds.specs.Attributes as attributes
use Rattle.hal_kinds.specs.Attributes.{sizes_of}
use Rattle.hal_kinds.specs.Data.{data_at, is_event_type, is_structure_type}
use Rattle.hal_kinds.specs.Subscripts.{is_structure_class}
use Rattle.hal_constants.specs.Naming.{is_value_item}
use Rattle.hal_meaning.specs.Elements.{Shape, shape_of}
use Rattle.hal_meaning.specs.Variables.{name_meant}
use Rattle.hal_agreement.specs.Sites.{Site, here_at}
use Rattle.hal_fit_expr.specs.Uses.{Uses}
use Rattle.hal_fit_classes.specs.Kinded.{sort_of_class}
use Rattle.hal_fit_rules.specs.Agreeing.{AreAlike, NameAgrees}
use Rattle.hal_fit_rules.specs.Owned.{IsOwn, IsStructureData}
use Rattle.hal_fit_rules.specs.Received.{CellsAgree}
use Rattle.hal_fit_rules.proofs.Declaring.{agrees_at, cells_at, item_meant_so}

structure_class : is_structure_class class.Structure ≡ true
unfolding is_structure_class
structure_class = refl

-- what is a structure for the checks has no sort
pub structure_alike : (found : Option Data) (path : List Naming) (shape : Shape) (d : Data) → found ≡ Some d → d.class ≡ class.Structure → AreAlike found path shape
structure_alike found path shape d is structure = record {
  declared = d;
  known = is;
  sorted = λ s worth. absurd (let none = sym worth ∙ ap sort_of_class structure in cc);
  arrayed = λ plain. absurd (let not_ = sym plain ∙ (ap is_structure_class structure ∙ structure_class) in cc);
}

structure_events : (type_ : Kind) → is_structure_type (Some type_) ≡ true → is_event_type (Some type_) ≡ false
unfolding is_structure_type is_event_type
structure_events (StructureKind place template copies) is = refl
structure_events (IntegerKind place) is = absurd (cc)
structure_events (BooleanKind place) is = absurd (cc)
structure_events (EventKind place) is = absurd (cc)
structure_events (BitKind place size) is = absurd (cc)
structure_events (CharacterKind place size) is = absurd (cc)

neither_value : (constant sized structure : Bool) → structure ≡ true → (constant && (not sized && not structure)) ≡ false
neither_value true true true is = refl
neither_value true false true is = refl
neither_value false sized true is = refl
neither_value constant sized false is = absurd (cc)

module _ (u : Uses) (site : Site) where
  structure_stored : (p : Phrase) (path : List Naming) (is : IsStructureData site p path) → is_value_item is.common is.item ≡ false
  structure_stored p path is =
      neither_value (is_some (attributes.constant_of is.common is.item)) (is_some (sizes_of is.common is.item)) (is_structure_type (type_of is.common is.item)) (ap is_structure_type is.typed ∙ is.structured)

  pub structure_agrees : (name : List ℕ) (path : List Naming) (own : IsOwn site name) → IsStructureData site own.phrase path → NameAgrees u site site.set.phrases site.block name path
  structure_agrees name path own is =
      agrees_at u site path name own (OfItem is.common is.item) _ is.declares (item_meant_so u site own.phrase is.common is.item is.kind is.typed (structure_events is.kind is.structured) (structure_stored own.phrase path is))
      (structure_alike (data_at site.set.phrases own.phrase path (OfItem is.common is.item)) path (shape_of site.set.phrases site.set.constants own.phrase is.common is.item) is.declared is.known is.whole)

  pub structure_cells : (name : List ℕ) (path : List Naming) (own : IsOwn site name) → IsStructureData site own.phrase path
      → CellsAgree site.set.phrases path (means site.set.phrases site.block name) (name_meant (here_at site) name [])
  structure_cells name path own is =
      cells_at u site path name own (OfItem is.common is.item) _ (shape_of site.set.phrases site.set.constants own.phrase is.common is.item) is.declares
      (item_meant_so u site own.phrase is.common is.item is.kind is.typed (structure_events is.kind is.structured) (structure_stored own.phrase path is))
      (structure_alike (data_at site.set.phrases own.phrase path (OfItem is.common is.item)) path (shape_of site.set.phrases site.set.constants own.phrase is.common is.item) is.declared is.known is.whole)
