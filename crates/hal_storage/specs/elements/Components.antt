-- The components of parts and of data, case by case.
use Rattle.std.specs.Prelude.{ℕ, Bool, List, [], ◌∷◌, ◌++◌, map, Option, Some, None, unwrap_or, if◌then◌else◌}
use Rattle.std.specs.Option.{option_map}
use Rattle.hal_grammar.specs.Expressions.{Expression}
use Rattle.hal_grammar.specs.Declarations.{StructureKind, Attribute, Declared, Part}
use Rattle.hal_grammar.specs.Declarations as declarations
use Rattle.hal_phrases.specs.Phrases.{Phrase}
use Rattle.hal_kinds.specs.Attributes.{sizes_of}
use Rattle.hal_values.specs.declared.value.Kind.TheVariants as kind
use Rattle.hal_constants.specs.Known.{Known, kind_of_item}
use Rattle.hal_meaning.specs.Elements.{Above, Component, Shape, component, lower, path_to, sizes_given, size_given, components_named}

-- the component that a part is, behind those that have it
abbrev pub component_of_part : List Phrase → Known → Phrase → List Above → Part → Component
component_of_part ps vs p above part = component ps vs p (path_to above part) part.attributes

-- the names of parts
abbrev pub names_of : List Above → List (List ℕ)
names_of above = map (λ (one : Above). one.1) above

-- those of a lower level than a part, and the part itself unless it is at the bottom
unfoldable pub opened : Bool → List Above → Part → List Above
opened bottom above part = if bottom then lower part.level above else lower part.level above ++ ((part.level, part.name.name) ∷ [])

-- the component that a part is, unless it has parts of its own
unfoldable pub bottom_component : List Phrase → Known → Phrase → Bool → List Above → Part → List Component
bottom_component ps vs p bottom above part = if bottom then component_of_part ps vs p above part ∷ [] else []

-- the one component of data that are no structure
abbrev pub component_of_item : List Phrase → Known → Phrase → List Attribute → Declared → Component
component_of_item ps vs p common item =
    record { path = []; kind = unwrap_or (kind_of_item ps vs p common item) kind.Single; sizes = sizes_given ps vs p (sizes_of common item) }

-- their shape
abbrev pub shape_of_item : List Phrase → Known → Phrase → List Attribute → Declared → Shape
shape_of_item ps vs p common item = record { copies = None; components = component_of_item ps vs p common item ∷ [] }

-- the shape of structures of this template
abbrev pub shape_of_structure : List Phrase → Known → Phrase → List ℕ → Option Expression → Shape
shape_of_structure ps vs p template copies = record { copies = option_map (size_given ps vs p) copies; components = components_named ps vs p.around.block template }

-- the shape of data of this type
abbrev pub shape_by : List Phrase → Known → Phrase → List Attribute → Declared → Option declarations.Kind → Shape
shape_by ps vs p common item (Some (StructureKind place template copies)) = shape_of_structure ps vs p template copies
shape_by ps vs p common item other = shape_of_item ps vs p common item
