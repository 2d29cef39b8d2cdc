-- How many cells data have.
use Rattle.std.specs.Prelude.{ℕ, max, List, [], ◌∷◌, Option, Some, None, if◌then◌else◌}
use Rattle.std.specs.Option.{option_and_then}
use Rattle.hal_grammar.specs.Expressions.{Expressions}
use Rattle.hal_grammar.specs.Declarations.{Kind, StructureKind, Attribute, Declared, Part}
use Rattle.hal_phrases.specs.Phrases.{Phrase}
use Rattle.hal_scope.specs.Sorts.{type_of}
use Rattle.hal_kinds.specs.Attributes.{sizes_of}
use Rattle.hal_constants.specs.Known.{Known}
use Rattle.hal_sizes.specs.declared.extent.Extent.{Extent}
use Rattle.hal_sizes.specs.Counts.{add, times}
use Rattle.hal_sizes.specs.Sizes.{copies_of, extent_of, places_in}
use Rattle.hal_sizes.specs.Parts.{bottoms, extent_of_part, parts_of, structure_named}

-- so many cells, and those of bottom parts
unfoldable pub cells_with : List Phrase → Known → Phrase → ℕ → List Part → Option ℕ
cells_with ps vs q total [] = Some total
cells_with ps vs q total (x ∷ xs) = option_and_then (λ (e : Extent). cells_with ps vs q (add total (places_in e)) xs) (extent_of_part ps vs q x)

-- the cells of those of these parts that belong to a part of this level, in the structure template of this phrase
abbrev pub cells_of_parts : List Phrase → Known → Phrase → ℕ → List Part → Option ℕ
cells_of_parts ps vs q level parts = cells_with ps vs q 0 (bottoms level parts)

-- the cells of one copy of a structure whose template is this phrase
abbrev pub cells_of_structure : List Phrase → Known → Phrase → Option ℕ
cells_of_structure ps vs q = option_and_then (λ (parts : List Part). cells_of_parts ps vs q 0 parts) (parts_of q.node)

-- so many copies of so many cells; data without copies have the cells once
unfoldable pub cells_of_copies : Option ℕ → Option ℕ → Option ℕ
cells_of_copies (Some copies) (Some cells) = Some (times (max 1 copies) cells)
cells_of_copies copies cells = None

-- the cells of an array
abbrev pub cells_of_array : List Phrase → Known → Phrase → Option Expressions → Option ℕ
cells_of_array ps vs p sizes = option_and_then (λ (e : Extent). Some (places_in e)) (extent_of ps vs p sizes)

-- the same of the structure template that a name means in a block
abbrev pub cells_named : List Phrase → Known → ℕ → List ℕ → Option ℕ
cells_named ps vs block template = option_and_then (λ (q : Phrase). cells_of_structure ps vs q) (structure_named ps block template)

-- the cells of data of this type, declared in this phrase with these sizes
unfoldable pub cells_of_kind : List Phrase → Known → Phrase → Kind → Option Expressions → Option ℕ
cells_of_kind ps vs p (StructureKind place template copies) sizes = cells_of_copies (copies_of ps vs p (Some (StructureKind place template copies))) (cells_named ps vs p.around.block template)
cells_of_kind ps vs p other sizes = cells_of_array ps vs p sizes

-- the cells of what is declared, where their number is known
abbrev pub cells_of_item : List Phrase → Known → Phrase → List Attribute → Declared → Option ℕ
cells_of_item ps vs p common item = option_and_then (λ kind. cells_of_kind ps vs p kind (sizes_of common item)) (type_of common item)
