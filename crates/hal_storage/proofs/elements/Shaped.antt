-- The shape of what is declared, by its own attributes and those before the comma.
use Rattle.std.proofs.Common.{◌≡◌, ◌∙◌, Bool, List, [], ◌∷◌, ◌++◌, Option, Some, None, unwrap_or, refl, ap}
use Rattle.hal_grammar.specs.Expressions.{Expressions}
use Rattle.hal_grammar.specs.Declarations.{Double, Attribute, Declared, IntegerKind, BooleanKind, EventKind, BitKind, CharacterKind, StructureKind}
use Rattle.hal_grammar.specs.Declarations as declarations
use Rattle.hal_phrases.specs.Phrases.{Phrase}
use Rattle.hal_scope.specs.Sorts.{type_among, type_of}
use Rattle.hal_kinds.specs.Attributes.{is_marked, sizes_among}
use Rattle.hal_values.specs.declared.value.Kind.TheVariants as kind
use Rattle.hal_constants.specs.Known.{Known, kind_of_type}
use Rattle.hal_meaning.specs.Elements.{Component, Shape, component, sizes_given, shape_of_type, shape_of}
use Rattle.hal_storage.specs.elements.Components.{component_of_item, shape_of_item, shape_by}
use Rattle.hal_storage.proofs.elements.Attributes.{mark_behind, type_behind, sizes_behind}

component_with : List Phrase → Known → Phrase → Bool → Option declarations.Kind → Option Expressions → Component
component_with ps vs p double type sizes = record { path = []; kind = unwrap_or (kind_of_type ps vs p double type) kind.Single; sizes = sizes_given ps vs p sizes }

component_seen : (ps : List Phrase) (vs : Known) (p : Phrase) (common : List Attribute) (item : Declared) → component ps vs p [] (item.attributes ++ common) ≡ component_of_item ps vs p common item
unfolding component_with
component_seen ps vs p common item =
    ap (λ b. component_with ps vs p b (type_among (item.attributes ++ common)) (sizes_among (item.attributes ++ common))) (mark_behind Double common item)
    ∙ ap (λ t. component_with ps vs p (is_marked Double common item) t (sizes_among (item.attributes ++ common))) (type_behind common item)
    ∙ ap (component_with ps vs p (is_marked Double common item) (type_of common item)) (sizes_behind common item)

shape_with : Component → Shape
shape_with c = record { copies = None; components = c ∷ [] }

plain_seen : (ps : List Phrase) (vs : Known) (p : Phrase) (common : List Attribute) (item : Declared)
    → shape_with (component ps vs p [] (item.attributes ++ common)) ≡ shape_of_item ps vs p common item
unfolding shape_with
plain_seen ps vs p common item = ap shape_with (component_seen ps vs p common item)

by_type : (ps : List Phrase) (vs : Known) (p : Phrase) (common : List Attribute) (item : Declared) (type : Option declarations.Kind)
    → shape_of_type ps vs p (item.attributes ++ common) type ≡ shape_by ps vs p common item type
unfolding shape_with
by_type ps vs p common item None = plain_seen ps vs p common item
by_type ps vs p common item (Some (IntegerKind place)) = plain_seen ps vs p common item
by_type ps vs p common item (Some (BooleanKind place)) = plain_seen ps vs p common item
by_type ps vs p common item (Some (EventKind place)) = plain_seen ps vs p common item
by_type ps vs p common item (Some (BitKind place size)) = plain_seen ps vs p common item
by_type ps vs p common item (Some (CharacterKind place size)) = plain_seen ps vs p common item
by_type ps vs p common item (Some (StructureKind place template copies)) = refl

pub shape_seen : (ps : List Phrase) (vs : Known) (p : Phrase) (common : List Attribute) (item : Declared) → shape_of ps vs p common item ≡ shape_by ps vs p common item (type_of common item)
shape_seen ps vs p common item = by_type ps vs p common item (type_among (item.attributes ++ common)) ∙ ap (shape_by ps vs p common item) (type_behind common item)
