-- Rows in runs, where equal neighbours are one run.
use Rattle.std.specs.Prelude.{ℕ, ◌+◌, ◌==◌, nat_le, Bool, ◌&&◌, List, [], ◌∷◌, if◌then◌else◌}
use Rattle.hal_code.specs.declared.row.Run.{Run}

-- a run of one row
abbrev pub alone : {T : Type 0} → T → Run T
alone row = record { repeat = 1; row = row }

-- the run counts these rows too: they are the same, and together not too many
abbrev pub joins : {T : Type 0} → (T → T → Bool) → Run T → Run T → Bool
joins same one other = same one.row other.row && nat_le (one.repeat + other.repeat) 4294967295

abbrev pub longer : {T : Type 0} → Run T → ℕ → Run T
longer one more = record { repeat = one.repeat + more; row = one.row }

-- some rows behind runs
unfoldable pub with_some : {T : Type 0} → (T → T → Bool) → List (Run T) → Run T → List (Run T)
with_some same [] run = run ∷ []
with_some same (one ∷ []) run = if joins same one run then longer one run.repeat ∷ [] else one ∷ run ∷ []
with_some same (one ∷ next ∷ runs) run = one ∷ with_some same (next ∷ runs) run

-- so many rows behind runs, or none
abbrev pub with_run : {T : Type 0} → (T → T → Bool) → List (Run T) → Run T → List (Run T)
with_run same runs run = if run.repeat == 0 then runs else with_some same runs run

unfoldable pub with_runs : {T : Type 0} → (T → T → Bool) → List (Run T) → List (Run T) → List (Run T)
with_runs same runs [] = runs
with_runs same runs (run ∷ more) = with_runs same (with_run same runs run) more

-- the runs of these rows
unfoldable pub with_rows : {T : Type 0} → (T → T → Bool) → List (Run T) → List T → List (Run T)
with_rows same runs [] = runs
with_rows same runs (row ∷ more) = with_rows same (with_run same runs (alone row)) more

abbrev pub rows_joined : {T : Type 0} → (T → T → Bool) → List T → List (Run T)
rows_joined same rows = with_rows same [] rows

abbrev pub runs_joined : {T : Type 0} → (T → T → Bool) → List (Run T) → List (Run T)
runs_joined same runs = with_runs same [] runs
