-- How many shared cells lie before those of each phrase.
use Rattle.std.specs.Prelude.{◌≡◌, ℕ, List, [], ◌∷◌, ◌++◌, length, slice_get, unwrap_or}
use Rattle.hal_values.specs.declared.tables.Cell.{Cell}
use Rattle.hal_phrases.specs.Phrases.{Phrase}
use Rattle.hal_constants.specs.Known.{Known}
use Rattle.hal_meaning.specs.Places.{cells_at}
use Rattle.hal_meaning.specs.ReportNames.{first_cell}
use Rattle.hal_storage.specs.declared.referents.cells.FirstCells as rust-cells

-- what is told of the phrase with this number
abbrev pub first_in : rust-cells.FirstCells → ℕ → ℕ
first_in f k = unwrap_or (slice_get f.numbers.items k) f.all

-- it is so of each phrase
abbrev pub AreFirstCells : List Phrase → Known → rust-cells.FirstCells → Type 0
AreFirstCells ps vs f = (k : ℕ) → first_in f k ≡ first_cell ps vs k

-- the cells of a phrase behind cells so far, and how many lie before them
unfoldable pub with_own : List Phrase → Known → List Cell → Phrase → List Cell
with_own ps vs cells p = cells ++ cells_at ps vs p p.node

unfoldable pub with_number : List Cell → List ℕ → List ℕ
with_number cells numbers = numbers ++ (length cells ∷ [])

-- the same of phrases
unfoldable pub with_cells : List Phrase → Known → List Cell → List Phrase → List Cell
with_cells ps vs cells [] = cells
with_cells ps vs cells (p ∷ rest) = with_cells ps vs (with_own ps vs cells p) rest

unfoldable pub with_numbers : List Phrase → Known → List Cell → List ℕ → List Phrase → List ℕ
with_numbers ps vs cells numbers [] = numbers
with_numbers ps vs cells numbers (p ∷ rest) = with_numbers ps vs (with_own ps vs cells p) (with_number cells numbers) rest
