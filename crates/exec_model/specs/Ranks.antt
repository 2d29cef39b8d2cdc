-- How many changes rows may still make.
use Rattle.std.specs.Prelude.{ℕ, ◌+◌, List, sum_by, if◌then◌else◌}
use Rattle.exec_model.specs.declared.row.Row.{Row}
use Rattle.exec_model.specs.declared.status.Status.{Status}
use Rattle.exec_model.specs.declared.status.Status.TheVariants as status

-- how many changes of status may still come: a row becomes Ready, ends, and leaves
abbrev pub status_changes_left : Status → ℕ
status_changes_left status.Idle = 0
status_changes_left (status.Start t) = 3
status_changes_left (status.StartOn x) = 3
status_changes_left status.Ready = 2
status_changes_left (status.Time t) = 3
status_changes_left (status.Event x) = 3
status_changes_left status.Dependents = 3
status_changes_left (status.Gap t) = 3
status_changes_left (status.Ending how) = 1

-- how many changes a row may still make: it may be cancelled too
abbrev pub changes_left : Row → ℕ
changes_left row = (if row.cancelled then 0 else 1) + status_changes_left row.status

-- how many changes the rows may still make
abbrev pub rank : List Row → ℕ
rank rows = sum_by changes_left rows
