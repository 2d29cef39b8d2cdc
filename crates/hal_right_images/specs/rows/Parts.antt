-- Structures of a set.
use Rattle.std.specs.Prelude.{◌≡◌, ◌<◌, ℕ, List, length, Some, slice_get}
use Rattle.hal_grammar.specs.Leaves.{Naming}
use Rattle.hal_grammar.specs.Declarations.{Part}
use Rattle.hal_phrases.specs.Phrases.{Phrase, OfStructure}

-- each STRUCTURE has a part, as the grammar wants
abbrev pub HaveParts : List Phrase → Type 0
HaveParts ps = (k : ℕ) (p : Phrase) (name : Naming) (parts : List Part) → slice_get ps k ≡ Some p → p.node ≡ OfStructure name parts → 0 < length parts
