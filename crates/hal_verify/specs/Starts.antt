-- Where runs begin.
use Rattle.std.specs.Prelude.{ℕ, ◌+◌, min, List, [], ◌∷◌}
use Rattle.hal_code.specs.declared.row.Run.{Run}
use Rattle.hal_verify.specs.declared.room.Room.{Room}

-- the number of the first place of each run, where so many stand before them
abbrev pub starts_of : ℕ → List (Run Room) → List ℕ
starts_of n [] = []
starts_of n (run ∷ runs) = n ∷ starts_of (min (n + run.repeat) 18446744073709551615) runs
