-- The cells before each phrase are counted.
use Rattle.std.specs.Prelude.{ℕ, zero, suc, List, [], ◌∷◌, ◌++◌, length, take, flat_map, slice_get, unwrap_or}
use Rattle.std.proofs.Common.{◌≡◌, refl, sym, ap, ◌∙◌, append-nil, append_assoc}
use Rattle.hal_values.specs.declared.tables.Cell.{Cell}
use Rattle.hal_phrases.specs.Phrases.{Phrase}
use Rattle.hal_constants.specs.Known.{Known}
use Rattle.hal_meaning.specs.Places.{cells_at}
use Rattle.hal_meaning.specs.ReportNames.{first_cell}
use Rattle.hal_storage.specs.referents.FirstCells.{with_own, with_number, with_cells, with_numbers}

module _ (ps : List Phrase) (vs : Known) where
  abbrev given : Phrase → List Cell
  given p = cells_at ps vs p p.node

  cells_listed : (cells : List Cell) (rest : List Phrase) → with_cells ps vs cells rest ≡ cells ++ flat_map given rest
  unfolding with_own with_cells
  cells_listed cells [] = sym (append-nil cells)
  cells_listed cells (p ∷ rest) = cells_listed (cells ++ given p) rest ∙ append_assoc cells (given p) (flat_map given rest)

  -- the numbers of further phrases, behind those so far
  abbrev numbers : List Cell → List Phrase → List ℕ
  numbers cells [] = []
  numbers cells (p ∷ rest) = length cells ∷ numbers (cells ++ given p) rest

  numbers_listed : (cells : List Cell) (so_far : List ℕ) (rest : List Phrase) → with_numbers ps vs cells so_far rest ≡ so_far ++ numbers cells rest
  unfolding with_own with_number with_numbers
  numbers_listed cells so_far [] = sym (append-nil so_far)
  numbers_listed cells so_far (p ∷ rest) = numbers_listed (cells ++ given p) (so_far ++ (length cells ∷ [])) rest ∙ append_assoc so_far (length cells ∷ []) (numbers (cells ++ given p) rest)

  -- each is how many cells lie before
  each_before : (cells : List Cell) (rest : List Phrase) (k : ℕ) → unwrap_or (slice_get (numbers cells rest) k) (length (cells ++ flat_map given rest)) ≡ length (cells ++ flat_map given (take k rest))
  each_before cells [] zero = refl
  each_before cells [] (suc k) = refl
  each_before cells (p ∷ rest) zero = sym (ap length (append-nil cells))
  each_before cells (p ∷ rest) (suc k) =
      ap (λ l. unwrap_or (slice_get (numbers (cells ++ given p) rest) k) (length l)) (sym (append_assoc cells (given p) (flat_map given rest)))
      ∙ each_before (cells ++ given p) rest k ∙ ap length (append_assoc cells (given p) (flat_map given (take k rest)))

  pub all_counted : (k : ℕ) → unwrap_or (slice_get (with_numbers ps vs [] [] ps) k) (length (with_cells ps vs [] ps)) ≡ first_cell ps vs k
  all_counted k =
      ap (λ l. unwrap_or (slice_get l k) (length (with_cells ps vs [] ps))) (numbers_listed [] [] ps)
      ∙ ap (λ l. unwrap_or (slice_get (numbers [] ps) k) (length l)) (cells_listed [] ps) ∙ each_before [] ps k
