-- What a reference to data means, part by part: its copies, its kind, its dimensions, its parts.
use Rattle.std.specs.Prelude.{ℕ, Bool, true, false, ◌&&◌, List, [], Option, Some, None, slice_get, if◌then◌else◌}
use Rattle.std.specs.Option.{option_and_then}
use Rattle.hal_grammar.specs.Leaves.{Naming}
use Rattle.hal_grammar.specs.Expressions.{Expression, Referred, Reference, Refers, Subscript, Unsubscripted, ByName, ByInteger, ByParts, Subscripts, NoSubscripts, MoreSubscripts, Sub}
use Rattle.hal_grammar.specs.Declarations.{Kind, StructureKind, Attribute, Declared, Part}
use Rattle.hal_phrases.specs.Phrases.{Node, Phrase, OfItem, OfTemporaryGroup}
use Rattle.hal_names.specs.Means.{means}
use Rattle.hal_scope.specs.Sorts.{type_of}
use Rattle.hal_scope.specs.Uses.{is_nil}
use Rattle.hal_kinds.specs.Attributes.{sizes_of}
use Rattle.hal_values.specs.declared.value.Kind as values
use Rattle.hal_values.specs.declared.value.Kind.TheVariants as value
use Rattle.hal_constants.specs.Known.{Known, kind_of_item}
use Rattle.hal_sizes.specs.declared.extent.Extent.{Extent}
use Rattle.hal_sizes.specs.Sizes.{copies_of, extent, extent_of}
use Rattle.hal_sizes.specs.Parts.{extent_of_part, kind_of_part, parts_of, structure_named}
use Rattle.hal_shapes.specs.declared.reach.Reach.{Reach}
use Rattle.hal_shapes.specs.declared.reach.Reach.TheVariants as reach
use Rattle.hal_shapes.specs.Reaches.{reach_of}
use Rattle.hal_shapes.specs.Paths.{reached}

-- the phrase that declares what a name means in a phrase
unfoldable pub declared_for : List Phrase → Phrase → List ℕ → Option Phrase
declared_for ps p name = option_and_then (λ k. slice_get ps k) (means ps p.around.block name)

-- the structure template of a type, as it is declared in this block
unfoldable pub structure_in : List Phrase → ℕ → Kind → Option Phrase
structure_in ps block (StructureKind place template copies) = structure_named ps block template
structure_in ps block other = None

abbrev pub structure_of : List Phrase → ℕ → Option Kind → Option Phrase
structure_of ps block kind = option_and_then (structure_in ps block) kind

-- the part to which a path leads in the structure template of this phrase, and the parts behind it
abbrev pub part_reached : Phrase → List Naming → Option (Part × List Part)
part_reached q path = option_and_then (λ (parts : List Part). reached 1 parts path) (parts_of q.node)

-- the kind of the cells at the end of a path
abbrev pub kind_reached : List Phrase → Known → Phrase → List Naming → Option values.Kind
kind_reached ps vs q path = option_and_then (λ (f : Part × List Part). kind_of_part ps vs q f.0) (part_reached q path)

-- its dimensions
abbrev pub extent_reached : List Phrase → Known → Phrase → List Naming → Option Extent
extent_reached ps vs q path = option_and_then (λ (f : Part × List Part). extent_of_part ps vs q f.0) (part_reached q path)

-- the kind of what is declared by this phrase, or of the end of a path in it
unfoldable pub kind_at : List Phrase → Known → Phrase → List Naming → Node → Option values.Kind
kind_at ps vs s path (OfItem common item) =
    if is_nil path then kind_of_item ps vs s common item else option_and_then (λ (q : Phrase). kind_reached ps vs q path) (structure_of ps s.around.block (type_of common item))
kind_at ps vs s path (OfTemporaryGroup labels variable) = Some value.Double
kind_at ps vs s path other = None

-- its dimensions
unfoldable pub extent_at : List Phrase → Known → Phrase → List Naming → Node → Option Extent
extent_at ps vs s path (OfItem common item) =
    if is_nil path then extent_of ps vs s (sizes_of common item) else option_and_then (λ (q : Phrase). extent_reached ps vs q path) (structure_of ps s.around.block (type_of common item))
extent_at ps vs s path (OfTemporaryGroup labels variable) = Some (extent 0 0 0)
extent_at ps vs s path other = None

-- the copies of what is declared by this phrase, 0 where there are none
unfoldable pub copies_at : List Phrase → Known → Phrase → Node → Option ℕ
copies_at ps vs s (OfItem common item) = copies_of ps vs s (type_of common item)
copies_at ps vs s (OfTemporaryGroup labels variable) = Some 0
copies_at ps vs s other = None

-- the subscripts of copies
unfoldable pub copy_subs : Subscript → Subscripts
copy_subs (ByParts place copies arrays components) = copies
copy_subs other = NoSubscripts

-- how many copies are left of so many where one is chosen or several are; 0 where one copy is left alone. None where the choice isn't inside
unfoldable pub copies_by : Reach → Option ℕ
copies_by reach.One = Some 0
copies_by (reach.Many n) = Some n
copies_by other = None

-- the same of the first of these subscripts
unfoldable pub copies_left : List Phrase → Known → Phrase → ℕ → Subscripts → Option ℕ
copies_left ps vs p size NoSubscripts = Some size
copies_left ps vs p size (MoreSubscripts first others) = copies_by (reach_of ps vs p size first)

-- the copies that a reference to what a phrase declares leaves
abbrev pub copies_chosen : List Phrase → Known → Phrase → Subscript → Phrase → Option ℕ
copies_chosen ps vs p subscript s = option_and_then (λ size. copies_left ps vs p size (copy_subs subscript)) (copies_at ps vs s s.node)

-- a reference that an expression is
unfoldable pub reference_in : Expression → Option Reference
reference_in (Referred reference) = Some reference
reference_in other = None
