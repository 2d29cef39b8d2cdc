-- How processes are ended by others.
use Rattle.std.specs.Prelude.{ℕ, zero, suc, ◌==◌, Bool, true, false, ◌||◌, List, [], ◌∷◌, length, filter, Option, Some, None, if◌then◌else◌}
use Rattle.std.specs.List.{range_with_len}
use Rattle.hal_values.specs.Answers.{Killed}
use Rattle.exec_model.specs.declared.row.Row.{Row}
use Rattle.exec_model.specs.declared.status.How.TheVariants.{Terminated}
use Rattle.exec_model.specs.declared.status.Status.{Status}
use Rattle.exec_model.specs.declared.status.Status.TheVariants as status
use Rattle.exec_model.specs.Moments.{Moment, row_of, with_row, answered}
use Rattle.exec_model.specs.Rows.{row_in}

-- the father of a process that exists
abbrev pub father_in : List Row → Option ℕ → Option ℕ
father_in rows None = None
father_in rows (Some p) = (row_in rows p).father

abbrev pub is_process : ℕ → Option ℕ → Bool
is_process to None = false
is_process to (Some p) = p == to

-- a process is another, or fathers lead from it to the other in at most so many steps
abbrev pub leads : ℕ → List Row → Option ℕ → ℕ → Bool
leads zero rows from to = is_process to from
leads (suc steps) rows from to = is_process to from || leads steps rows (father_in rows from) to

-- the process is the other, or its fathers lead to it: in at most as many steps as there are rows, since no row is needed twice
abbrev pub is_of_family : List Row → ℕ → ℕ → Bool
is_of_family rows head p = leads (length rows) rows (Some p) head

-- a process and its descendants
abbrev pub family : List Row → ℕ → List ℕ
family rows head = filter (is_of_family rows head) (range_with_len 0 (length rows))

-- what becomes of the row of a process that is not inside an UPDATE block: Ending stays, Idle too; any other is answered Killed and ends terminated
abbrev pub killed_outside : ℕ → Row → Status → Moment → Moment
killed_outside p row status.Idle m = m
killed_outside p row (status.Ending how) m = m
killed_outside p row other m = answered p Killed (with_row p (record row { status = status.Ending Terminated }) m)

-- a process is killed: where it is inside an UPDATE block it is doomed
abbrev pub killed : ℕ → Moment → Moment
killed p m =
    if (row_of m p).inside then with_row p (record (row_of m p) { doomed = true }) m
    else killed_outside p (row_of m p) (row_of m p).status m

-- these processes are killed, one after another
abbrev pub all_killed : List ℕ → Moment → Moment
all_killed [] m = m
all_killed (p ∷ processes) m = all_killed processes (killed p m)

-- the process and its descendants are killed
abbrev pub family_killed : ℕ → Moment → Moment
family_killed head m = all_killed (family m.rows head) m
