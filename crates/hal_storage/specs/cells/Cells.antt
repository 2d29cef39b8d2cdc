-- The shared cells of what a phrase declares, where it stands in cells of a group.
use Rattle.std.specs.Prelude.{ℕ, List, ◌++◌}
use Rattle.hal_grammar.specs.Declarations.{Attribute, Declared}
use Rattle.hal_phrases.specs.Phrases.{Phrase}
use Rattle.hal_values.specs.declared.tables.Cell.{Cell}
use Rattle.hal_constants.specs.Known.{Known}
use Rattle.hal_meaning.specs.Elements.{kinds_of, shape_of}
use Rattle.hal_meaning.specs.InitialValues.{first_values}
use Rattle.hal_meaning.specs.Places.{cells_from}

abbrev pub cells_of_group : List Phrase → Known → Phrase → List Attribute → Declared → ℕ → List Cell
cells_of_group ps vs p common item group =
    cells_from group (kinds_of (shape_of ps vs p common item)) (first_values ps vs p (item.attributes ++ common) (kinds_of (shape_of ps vs p common item)))
