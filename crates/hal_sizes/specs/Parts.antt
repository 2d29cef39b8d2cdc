-- The parts of a structure: its bottom parts, which hold the cells, and the part to which a path leads.
use Rattle.std.specs.Prelude.{ℕ, zero, suc, ◌==◌, nat_le, Bool, true, false, ◌&&◌, List, [], ◌∷◌, Option, Some, None, slice_get, bytes_eq, if◌then◌else◌}
use Rattle.std.specs.Option.{option_and_then}
use Rattle.hal_grammar.specs.Leaves.{Naming}
use Rattle.hal_grammar.specs.Declarations.{Double, Kind, StructureKind, Part}
use Rattle.hal_phrases.specs.Phrases.{Node, Phrase, OfStructure}
use Rattle.hal_phrases.specs.GatheredDeclarations.{is_bottom}
use Rattle.hal_names.specs.Means.{means}
use Rattle.hal_scope.specs.Sorts.{type_among}
use Rattle.hal_kinds.specs.Attributes.{has_mark, sizes_among}
use Rattle.hal_values.specs.declared.value.Kind as values
use Rattle.hal_constants.specs.Known.{Known, kind_of_type}
use Rattle.hal_sizes.specs.declared.extent.Extent.{Extent}
use Rattle.hal_sizes.specs.Sizes.{extent_of}

-- the phrase of the structure template that a name means in a block
abbrev pub structure_named : List Phrase → ℕ → List ℕ → Option Phrase
structure_named ps block template = option_and_then (λ k. slice_get ps k) (means ps block template)

-- the parts that a structure template has
unfoldable pub parts_of : Node → Option (List Part)
parts_of (OfStructure name parts) = Some parts
parts_of other = None

-- the bottom parts, which have no parts of their own, among those that belong to a part of this level: they stand before one that isn't deeper, and hold its cells in
-- order. The parts of a whole structure belong to level 0
unfoldable pub bottoms : ℕ → List Part → List Part
bottoms level [] = []
bottoms level (x ∷ xs) = if nat_le x.level level then [] else if is_bottom x.level xs then x ∷ bottoms level xs else bottoms level xs

-- the kind of the cells of a bottom part, in the structure template of this phrase
abbrev pub kind_of_part : List Phrase → Known → Phrase → Part → Option values.Kind
kind_of_part ps vs q part = kind_of_type ps vs q (has_mark Double part.attributes) (type_among part.attributes)

-- its dimensions
abbrev pub extent_of_part : List Phrase → Known → Phrase → Part → Option Extent
extent_of_part ps vs q part = extent_of ps vs q (sizes_among part.attributes)
