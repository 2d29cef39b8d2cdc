-- What kind of data a name is, before subscripts.
use Rattle.std.specs.Prelude.{ℕ, zero, Bool, true, false, List, [], ◌∷◌, Option, Some, None, slice_get, if◌then◌else◌}
use Rattle.std.specs.Option.{option_and_then, is_some}
use Rattle.hal_grammar.specs.Leaves.{Naming}
use Rattle.hal_grammar.specs.Expressions.{Expressions}
use Rattle.hal_grammar.specs.Declarations.{Kind, IntegerKind, BooleanKind, EventKind, BitKind, CharacterKind, StructureKind, Attribute, Declared, Part}
use Rattle.hal_phrases.specs.Phrases.{Node, Phrase, OfItem, OfPart, OfTemporaryGroup}
use Rattle.hal_names.specs.declared.key.Space.TheVariants as space
use Rattle.hal_names.specs.Keys.{key, own}
use Rattle.hal_names.specs.Means.{means}
use Rattle.hal_scope.specs.Sorts.{type_among, type_of}
use Rattle.hal_scope.specs.Uses.{is_nil}
use Rattle.hal_kinds.specs.declared.class.Class.{Class}
use Rattle.hal_kinds.specs.declared.class.Class.TheVariants as class
use Rattle.hal_kinds.specs.declared.data.Data.{Data}
use Rattle.hal_kinds.specs.Attributes.{count_of, sizes_among, sizes_of}

-- the class of a type's elements; an event is read as one bit
unfoldable pub class_of_type : Kind → Class
class_of_type (IntegerKind place) = class.Integer
class_of_type (BooleanKind place) = class.Bits
class_of_type (EventKind place) = class.Bits
class_of_type (BitKind place size) = class.Bits
class_of_type (CharacterKind place size) = class.Text
class_of_type (StructureKind place template copies) = class.Structure

-- whether a type has copies
unfoldable pub has_copies : Kind → Bool
has_copies (StructureKind place template copies) = is_some copies
has_copies other = false

-- how many dimensions there are
unfoldable pub dimensions_of : Option Expressions → ℕ
dimensions_of None = zero
dimensions_of (Some sizes) = count_of sizes

-- data of this class, with so many dimensions
abbrev pub data_with : Class → ℕ → Bool → Data
data_with c dimensions copies = record { class = c; dimensions = dimensions; copies = copies }

-- data of this type, with these sizes
unfoldable pub data_of : Option Kind → Option Expressions → Option Data
data_of None sizes = None
data_of (Some kind) sizes = Some (data_with (class_of_type kind) (dimensions_of sizes) (has_copies kind))

-- a part of a structure; it is a structure itself unless it is at the bottom
unfoldable pub part_data : Bool → Part → Option Data
part_data true part = data_of (type_among part.attributes) (sizes_among part.attributes)
part_data false part = Some (data_with class.Structure zero false)

-- the same in a structure that has copies
abbrev pub copied : Bool → Data → Data
copied copies d = data_with d.class d.dimensions copies

-- the part to which a path leads from a structure or a part
unfoldable pub part_under : List Phrase → ℕ → List Naming → Option ℕ
part_under ps k [] = Some k
part_under ps k (n ∷ ns) = option_and_then (λ part. part_under ps part ns) (own ps (key space.Part k n.name))

-- what a phrase is, where it is a part
unfoldable pub data_at_part : Bool → Node → Option Data
data_at_part copies (OfPart bottom part) = option_and_then (λ (d : Data). Some (copied copies d)) (part_data bottom part)
data_at_part copies other = None

-- the part at the end of a path of the structure that this name means in a block
unfoldable pub component_of : List Phrase → ℕ → List ℕ → List Naming → Option ℕ
component_of ps block template path = option_and_then (λ k. part_under ps k path) (means ps block template)

-- what the part with this number is
abbrev pub data_of_part : List Phrase → Bool → Option ℕ → Option Data
data_of_part ps copies part = option_and_then (λ k. option_and_then (λ (p : Phrase). data_at_part copies p.node) (slice_get ps k)) part

-- what stands at the end of a path of data of this type, declared in this block
unfoldable pub component_data : List Phrase → ℕ → Option Kind → List Naming → Option Data
component_data ps block (Some (StructureKind place template copies)) path = data_of_part ps (is_some copies) (component_of ps block template path)
component_data ps block other path = None

-- what a phrase declares, or the end of a path in it
unfoldable pub data_at : List Phrase → Phrase → List Naming → Node → Option Data
data_at ps p path (OfItem common item) =
    if is_nil path then data_of (type_of common item) (sizes_of common item) else component_data ps p.around.block (type_of common item) path
data_at ps p path (OfTemporaryGroup labels variable) = if is_nil path then Some (data_with class.Integer zero false) else None
data_at ps p path other = None

-- what a name with a path means in a block, where it is data
abbrev pub data_named : List Phrase → ℕ → List ℕ → List Naming → Option Data
data_named ps block name path = option_and_then (λ k. option_and_then (λ (p : Phrase). data_at ps p path p.node) (slice_get ps k)) (means ps block name)

-- whether a type is that of events
unfoldable pub is_event_type : Option Kind → Bool
is_event_type (Some (EventKind place)) = true
is_event_type other = false

-- whether a type is that of a structure
unfoldable pub is_structure_type : Option Kind → Bool
is_structure_type (Some (StructureKind place template copies)) = true
is_structure_type other = false

-- whether a name is that of a parameter of the block to which a phrase's names belong
abbrev pub is_parameter : List Phrase → Phrase → List ℕ → Bool
is_parameter ps p name = is_some (own ps (key space.Parameter p.around.home name))
