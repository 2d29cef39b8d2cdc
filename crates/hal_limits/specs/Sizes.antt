-- How many cells and places phrases and units have.
use Rattle.std.specs.Prelude.{ℕ, ◌*◌, ◌==◌, List, length, if◌then◌else◌}
use Rattle.hal_grammar.specs.Declarations.{Attribute, Declared}
use Rattle.hal_phrases.specs.Phrases.{Phrase}
use Rattle.hal_constants.specs.Known.{Known}
use Rattle.hal_meaning.specs.Elements.{Shape, kinds_of, shape_of}
use Rattle.hal_storage.specs.declared.own_places.groups.PlacedGroups.{PlacedGroups}
use Rattle.hal_storage.specs.own_places.PlacedGroups.{has_in}
use Rattle.hal_meaning.specs.Places.{cells_at, is_reentrant_at, places_at, places_in}

-- how many elements data of a shape have
abbrev pub size_of_shape : Shape → ℕ
size_of_shape shape = length (kinds_of shape)

-- how many what is declared has
abbrev pub size_of_item : List Phrase → Known → Phrase → List Attribute → Declared → ℕ
size_of_item ps vs p common item = size_of_shape (shape_of ps vs p common item)

-- how many shared cells a phrase declares
abbrev pub cells_of_phrase : List Phrase → Known → Phrase → ℕ
cells_of_phrase ps vs p = length (cells_at ps vs p p.node)

-- how many places a group without a TEMPORARY variable has, by the groups that are DO FOR or DO CASE
abbrev pub places_by : PlacedGroups → ℕ → ℕ
places_by g k = if has_in g k then 4 else 0

-- how many own places a phrase has in the block with this number
abbrev pub places_of_phrase : List Phrase → Known → ℕ → Phrase → ℕ
places_of_phrase ps vs q p = if p.around.home == q then length (places_at ps vs p p.node) else 0

-- how many cells the own places of a unit are, where a set has so many processes
abbrev pub cells_of_unit : List Phrase → Known → ℕ → ℕ → ℕ
cells_of_unit ps vs processes q = if is_reentrant_at ps q then processes * length (places_in ps vs q) else length (places_in ps vs q)
