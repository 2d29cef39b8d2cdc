-- Rows: what the executive keeps of a process.
use Rattle.std.specs.Prelude.{ℕ, ◌==◌, Bool, true, false, ◌&&◌, List, Option, Some, None, slice_index_or}
use Rattle.std.specs.List.{list_any}
use Rattle.hal_values.specs.declared.plan.Cycle.TheVariants.{Once}
use Rattle.hal_values.specs.declared.plan.Guard.TheVariants.{Free}
use Rattle.exec_model.specs.declared.row.Row.{Row}
use Rattle.exec_model.specs.declared.status.Status.{Status}
use Rattle.exec_model.specs.declared.status.Status.TheVariants as status

-- the row of a process that was never scheduled
abbrev pub idle_row : Row
idle_row = record {
  status = status.Idle;
  priority = 0;
  stamp = 0;
  father = None;
  cycle = Once;
  guard = Free;
  begun = false;
  started = false;
  cancelled = false;
  doomed = false;
  inside = false;
  start = 0;
  cycles = 0;
}

-- the row of a process; where there is no such process it is as of one that was never scheduled
abbrev pub row_in : List Row → ℕ → Row
row_in rows p = slice_index_or rows p idle_row

-- a row is active where it isn't Idle
abbrev pub is_active_status : Status → Bool
is_active_status status.Idle = false
is_active_status (status.Start t) = true
is_active_status (status.StartOn x) = true
is_active_status status.Ready = true
is_active_status (status.Time t) = true
is_active_status (status.Event x) = true
is_active_status status.Dependents = true
is_active_status (status.Gap t) = true
is_active_status (status.Ending how) = true

abbrev pub is_active : Row → Bool
is_active row = is_active_status row.status

abbrev pub is_ready_status : Status → Bool
is_ready_status status.Idle = false
is_ready_status (status.Start t) = false
is_ready_status (status.StartOn x) = false
is_ready_status status.Ready = true
is_ready_status (status.Time t) = false
is_ready_status (status.Event x) = false
is_ready_status status.Dependents = false
is_ready_status (status.Gap t) = false
is_ready_status (status.Ending how) = false

-- the row is Ready
abbrev pub is_ready : Row → Bool
is_ready row = is_ready_status row.status

-- no cycle has begun yet, or the next one hasn't, and the row may be dropped for it
abbrev pub is_before_cycle : Status → Bool
is_before_cycle status.Idle = false
is_before_cycle (status.Start t) = true
is_before_cycle (status.StartOn x) = true
is_before_cycle status.Ready = true
is_before_cycle (status.Time t) = false
is_before_cycle (status.Event x) = false
is_before_cycle status.Dependents = false
is_before_cycle (status.Gap t) = true
is_before_cycle (status.Ending how) = false

abbrev pub is_ending : Status → Bool
is_ending status.Idle = false
is_ending (status.Start t) = false
is_ending (status.StartOn x) = false
is_ending status.Ready = false
is_ending (status.Time t) = false
is_ending (status.Event x) = false
is_ending status.Dependents = false
is_ending (status.Gap t) = false
is_ending (status.Ending how) = true

-- the process is in a WAIT, which ends with the answer Done
abbrev pub is_waiting : Status → Bool
is_waiting status.Idle = false
is_waiting (status.Start t) = false
is_waiting (status.StartOn x) = false
is_waiting status.Ready = false
is_waiting (status.Time t) = true
is_waiting (status.Event x) = true
is_waiting status.Dependents = true
is_waiting (status.Gap t) = false
is_waiting (status.Ending how) = false

-- the father is this process
abbrev pub is_father : ℕ → Option ℕ → Bool
is_father p None = false
is_father p (Some father) = father == p

-- the row is a dependent of the process: it is active, and the process is its father
abbrev pub is_dependent : ℕ → Row → Bool
is_dependent p row = is_active row && is_father p row.father

-- a dependent of the process is active
abbrev pub has_dependents : List Row → ℕ → Bool
has_dependents rows p = list_any (is_dependent p) rows
