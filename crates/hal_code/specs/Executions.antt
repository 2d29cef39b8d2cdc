-- What comes of a step and of the answers after it, within so many moves.
use Rattle.std.specs.Prelude.{◌≡◌, ℕ, zero, suc, List, [], ◌∷◌, Option, Some, None}
use Rattle.hal_values.specs.Answers.{Answered}
use Rattle.hal_code.specs.Cores.{Setting, Step, Waits, Moves, Counts}
use Rattle.hal_code.specs.Machine.{stepped, after_answer}
use Rattle.hal_code.specs.Courses.{Asked, asked}

abbrev pub execution : Setting → Step → List Answered → ℕ → Option Asked
execution s (Waits r w c) [] moves = Some (asked r w c)
execution s (Waits r w c) (a ∷ left) zero = None
execution s (Waits r w c) (a ∷ left) (suc moves) = execution s (after_answer s w a c) left moves
execution s (Moves c) left zero = None
execution s (Moves c) left (suc moves) = execution s (stepped s c) left moves
execution s (Counts c) left zero = None
execution s (Counts c) left (suc moves) = execution s (stepped s c) left moves

-- this is asked in the end
pub record Comes (s : Setting) (step : Step) (left : List Answered) (one : Asked) : Type 0 where
  pub moves : ℕ
  pub is : execution s step left moves ≡ Some one
