-- Settling by the letter: as long as a row can change, the lowest one makes its first change.
use Rattle.std.specs.Prelude.{◌≡◌, ℕ, Some, None}
use Rattle.hal_values.specs.declared.tables.Tables.{Tables}
use Rattle.exec_model.specs.declared.change.Change.{Change}
use Rattle.exec_model.specs.Moments.{Moment, row_of}
use Rattle.exec_model.specs.Settling.{next_change, change_made}

-- a moment settles to another: to itself where no row can change, and else to what it settles to after the next change
pub data Settles (tables : Tables) : Moment → Moment → Type 0 where
  rests : (m : Moment) → next_change tables m ≡ None → Settles tables m m
  goes : (m new : Moment) (next : ℕ × Change) → next_change tables m ≡ Some next → Settles tables (change_made next.0 (row_of m next.0) next.1 m) new → Settles tables m new
