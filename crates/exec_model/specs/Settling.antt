-- What becomes of the rows by themselves, after each event.
use Rattle.std.specs.Prelude.{ℕ, zero, suc, ◌+◌, ◌*◌, nat_le, Bool, true, false, not, ◌&&◌, List, [], ◌∷◌, length, Option, Some, None, if◌then◌else◌}
use Rattle.hal_values.specs.declared.plan.Guard.{Guard}
use Rattle.hal_values.specs.declared.plan.Guard.TheVariants as guard
use Rattle.hal_values.specs.declared.tables.Tables.{Tables}
use Rattle.hal_values.specs.Answers.{Done}
use Rattle.exec_model.specs.declared.change.Change.{Change}
use Rattle.exec_model.specs.declared.change.Change.TheVariants.{Cancels, Drops, Leaves, Readies}
use Rattle.exec_model.specs.declared.row.Row.{Row}
use Rattle.exec_model.specs.declared.status.How.TheVariants.{Cancelled}
use Rattle.exec_model.specs.declared.status.Status.{Status}
use Rattle.exec_model.specs.declared.status.Status.TheVariants as status
use Rattle.exec_model.specs.Expressions.{truth}
use Rattle.exec_model.specs.Moments.{Moment, row_of, with_row, made_ready, answered, ended}
use Rattle.exec_model.specs.Rows.{is_active, is_before_cycle, is_ending, has_dependents}
use Rattle.exec_model.specs.Times.{from_zero}

-- the guard asks for a cancel: WHILE x where x is FALSE; UNTIL x where the process has started and x is TRUE; UNTIL t where it has started and the
-- clock has come to t
abbrev pub guard_asks : Tables → Moment → Bool → Guard → Bool
guard_asks tables m started guard.Free = false
guard_asks tables m started (guard.While x) = not (truth tables m x)
guard_asks tables m started (guard.Until x) = started && truth tables m x
guard_asks tables m started (guard.UntilTime t) = started && nat_le (from_zero t) m.clock

-- what the process waits for is true
abbrev pub wait_over : Tables → Moment → ℕ → Status → Bool
wait_over tables m p status.Idle = false
wait_over tables m p (status.Start t) = nat_le t m.clock
wait_over tables m p (status.StartOn x) = truth tables m x
wait_over tables m p status.Ready = false
wait_over tables m p (status.Time t) = nat_le t m.clock
wait_over tables m p (status.Event x) = truth tables m x
wait_over tables m p status.Dependents = not (has_dependents m.rows p)
wait_over tables m p (status.Gap t) = nat_le t m.clock
wait_over tables m p (status.Ending how) = false

-- the change can be made
abbrev pub can_make : Tables → Moment → ℕ → Row → Change → Bool
can_make tables m p row Cancels = guard_asks tables m row.started row.guard && not row.cancelled
can_make tables m p row Drops = row.cancelled && (not row.begun && is_before_cycle row.status)
can_make tables m p row Leaves = is_ending row.status && not (has_dependents m.rows p)
can_make tables m p row Readies = wait_over tables m p row.status

-- the first change that a row can make; an Idle row makes none
abbrev pub first_change : Tables → Moment → ℕ → Row → Option Change
first_change tables m p row =
    if is_active row then
    (if can_make tables m p row Cancels then Some Cancels else
    (if can_make tables m p row Drops then Some Drops else
    (if can_make tables m p row Leaves then Some Leaves else
    (if can_make tables m p row Readies then Some Readies else None))))
    else None

-- a row that has ended becomes Idle, and an end line is added
abbrev pub left_row : ℕ → Row → Status → Moment → Moment
left_row p row (status.Ending how) m = ended p how row.cycles (with_row p (record row { status = status.Idle }) m)
left_row p row other m = m

-- a row whose wait is over becomes Ready. Start and Gap set the start time to their time, StartOn to now; Time, Event and Dependents are answered Done
abbrev pub wait_done : ℕ → Row → Status → Moment → Moment
wait_done p row status.Idle m = m
wait_done p row (status.Start t) m = made_ready p (record row { start = t }) m
wait_done p row (status.StartOn x) m = made_ready p (record row { start = m.clock }) m
wait_done p row status.Ready m = m
wait_done p row (status.Time t) m = answered p Done (made_ready p row m)
wait_done p row (status.Event x) m = answered p Done (made_ready p row m)
wait_done p row status.Dependents m = answered p Done (made_ready p row m)
wait_done p row (status.Gap t) m = made_ready p (record row { start = t }) m
wait_done p row (status.Ending how) m = m

-- the change is made
abbrev pub change_made : ℕ → Row → Change → Moment → Moment
change_made p row Cancels m = with_row p (record row { cancelled = true }) m
change_made p row Drops m = with_row p (record row { status = status.Ending Cancelled }) m
change_made p row Leaves m = left_row p row row.status m
change_made p row Readies m = wait_done p row row.status m

-- the lowest of these rows that can change, counted from this process on, and its first change
abbrev pub lowest_change : Tables → Moment → ℕ → List Row → Option (ℕ × Change)
lowest_change tables m p [] = None
lowest_change tables m p (row ∷ rows) = elim (first_change tables m p row) [ None ↦ lowest_change tables m (p + 1) rows | Some change ↦ Some (p, change) ]

-- the change that is made next, and its row
abbrev pub next_change : Tables → Moment → Option (ℕ × Change)
next_change tables m = lowest_change tables m 0 m.rows

-- changes are made, one after another, until none can be made, or so many were made
abbrev pub settled_in : ℕ → Tables → Moment → Moment
settled_in zero tables m = m
settled_in (suc count) tables m = elim (next_change tables m) [
  | None ↦ m
  | Some next ↦ settled_in count tables (change_made next.0 (row_of m next.0) next.1 m)
]

-- a row makes at most four changes: it is cancelled, becomes Ready, ends, and leaves
abbrev pub changes_of_row : ℕ
changes_of_row = 4

-- the lowest row that can change makes its first change, until none can
abbrev pub settle : Tables → Moment → Moment
settle tables m = settled_in (changes_of_row * length m.rows) tables m
