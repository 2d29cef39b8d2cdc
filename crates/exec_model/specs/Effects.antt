-- What a request does, and what it is answered.
use Rattle.std.specs.Prelude.{ℕ, ◌+◌, ◌/◌, nat_le, Bool, true, false, List, [], ◌∷◌, ◌++◌, codes, Option, Some, None, pos, slice_index_or, if◌then◌else◌}
use Rattle.std.specs.Fmt.{decimal}
use Rattle.hal_values.specs.declared.environment.ErrNo.{ErrNo}
use Rattle.hal_values.specs.declared.plan.Cycle.{Cycle}
use Rattle.hal_values.specs.declared.plan.Cycle.TheVariants as cycle
use Rattle.hal_values.specs.declared.plan.Pause.{Pause}
use Rattle.hal_values.specs.declared.plan.Pause.TheVariants as pause
use Rattle.hal_values.specs.declared.plan.Plan.{Plan}
use Rattle.hal_values.specs.declared.plan.When.{When}
use Rattle.hal_values.specs.declared.plan.When.TheVariants as when
use Rattle.hal_values.specs.declared.request.Request.{Request}
use Rattle.hal_values.specs.declared.request.Request.TheVariants as request
use Rattle.hal_values.specs.declared.request.Spot.{Spot}
use Rattle.hal_values.specs.declared.request.Spot.TheVariants as spot
use Rattle.hal_values.specs.declared.tables.Tables.{Tables}
use Rattle.hal_values.specs.declared.value.Kind.{Kind}
use Rattle.hal_values.specs.declared.value.Value.{Value}
use Rattle.hal_values.specs.declared.value.Value.TheVariants as value
use Rattle.hal_values.specs.Answers.{Answered, Begun, Told, Done, Wrong, error}
use Rattle.exec_model.specs.declared.row.Row.{Row}
use Rattle.exec_model.specs.declared.status.How.TheVariants.{Closed, Cancelled, Error}
use Rattle.exec_model.specs.declared.status.Status.{Status}
use Rattle.exec_model.specs.declared.status.Status.TheVariants as status
use Rattle.exec_model.specs.Data.{datum_value}
use Rattle.exec_model.specs.Expressions.{truth}
use Rattle.exec_model.specs.Killing.{family_killed, is_of_family}
use Rattle.exec_model.specs.Moments.{Moment, row_of, with_row, answered, event_of, with_event, stored, printed, taken_from}
use Rattle.exec_model.specs.Rows.{is_active, has_dependents}
use Rattle.exec_model.specs.Settling.{settle}
use Rattle.exec_model.specs.Times.{not_before, later}

-- a value of no use, read where there is no cell
abbrev pub no_value : Value
no_value = value.Int (pos 0)

-- one bit
abbrev pub bit_value : Bool → Value
bit_value b = value.Bits 1 (if b then 1 else 0)

-- what is read
abbrev pub value_at : Tables → Moment → Spot → Value
value_at tables m (spot.Cell cell) = slice_index_or m.store cell no_value
value_at tables m (spot.Event e) = bit_value (event_of tables m e)

-- the status with which a plan begins: AT and IN give a time that isn't before now
abbrev pub start_status : ℕ → When → Status
start_status now when.Now = status.Start now
start_status now (when.At t) = status.Start (not_before now t)
start_status now (when.After t) = status.Start (later now t)
start_status now (when.On x) = status.StartOn x

-- the row of a process that p schedules: all marks are cleared, no cycle is finished, and p is the father of a DEPENDENT
abbrev pub scheduled : ℕ → ℕ → Plan → Row → Row
scheduled p now plan row = record row {
  status = start_status now plan.when;
  priority = plan.priority;
  father = if plan.dependent then Some p else None;
  cycle = plan.cycle;
  guard = plan.guard;
  begun = false;
  started = false;
  cancelled = false;
  doomed = false;
  inside = false;
  cycles = 0;
}

-- p asks for a SCHEDULE of a process with this row
abbrev pub schedule_done : ℕ → Plan → Row → Moment → Moment
schedule_done p plan row m =
    if is_active row then answered p (Wrong (error 2 1)) m
    else answered p Done (with_row plan.process (scheduled p m.clock plan row) m)

-- p asks for a cancel of q, which has this row
abbrev pub cancel_done : ℕ → ℕ → Row → Moment → Moment
cancel_done p q row m =
    if is_active row then answered p Done (with_row q (record row { cancelled = true }) m)
    else answered p (Wrong (error 2 2)) m

-- p asks for the end of q, which is p or a descendant of it. Where q is p, p is answered Killed with the others
abbrev pub terminate_done : ℕ → ℕ → Row → Moment → Moment
terminate_done p q row m =
    if is_active row then
    (if is_of_family m.rows p q then
    (if is_of_family m.rows q p then family_killed q m else answered p Done (family_killed q m))
    else answered p (Wrong (error 2 3)) m)
    else answered p (Wrong (error 2 2)) m

-- what a WAIT begins: the status in which the process waits; None where what it waits for is true now
abbrev pub wait_status : Tables → Moment → ℕ → Pause → Option Status
wait_status tables m p (pause.For t) = if nat_le (later m.clock t) m.clock then None else Some (status.Time (later m.clock t))
wait_status tables m p (pause.Till t) = if nat_le (not_before m.clock t) m.clock then None else Some (status.Time (not_before m.clock t))
wait_status tables m p (pause.Event x) = if truth tables m x then None else Some (status.Event x)
wait_status tables m p pause.Dependents = if has_dependents m.rows p then Some status.Dependents else None

-- p waits so, and is answered as the wait ends; where nothing is to be waited for it is answered now
abbrev pub wait_begun : ℕ → Row → Option Status → Moment → Moment
wait_begun p row None m = answered p Done m
wait_begun p row (Some waits) m = with_row p (record row { status = waits }) m

-- the event is TRUE while the rows settle, and then as before
abbrev pub signal_done : Tables → ℕ → ℕ → Moment → Moment
signal_done tables p e m = answered p Done (with_event tables e (event_of tables m e) (settle tables (with_event tables e true m)))

-- p asks for a priority of q, which has this row
abbrev pub priority_done : ℕ → ℕ → ℕ → Row → Moment → Moment
priority_done p q priority row m =
    if is_active row then answered p Done (with_row q (record row { priority = priority }) m)
    else answered p (Wrong (error 2 2)) m

-- `CHANNEL:`, the items of a WRITE with the blank before each, and a newline byte
abbrev pub channel_line : ℕ → List ℕ → List ℕ
channel_line channel line = decimal channel ++ (codes ":" ++ (line ++ codes "\n"))

-- the answer to the datum that was taken
abbrev pub datum_answer : Option Value → Answered
datum_answer None = Wrong (error 3 2)
datum_answer (Some v) = Told v

-- p asks for the next of the data that are left of the channel
abbrev pub input_done : ℕ → ℕ → Kind → List (List ℕ) → Moment → Moment
input_done p channel kind [] m = answered p (Wrong (error 3 1)) m
input_done p channel kind (datum ∷ rest) m = answered p (datum_answer (datum_value kind datum)) (taken_from channel m)

-- how a process goes on whose cycle is done: it ends where it is cancelled or has one cycle alone
abbrev pub next_status : ℕ → Row → Cycle → Status
next_status now row cycle.Once = status.Ending Closed
next_status now row cycle.Again = status.Gap now
next_status now row (cycle.Every t) = status.Gap (row.start + t)
next_status now row (cycle.After t) = status.Gap (now + t)

abbrev pub finished : ℕ → Row → Row
finished now row = record row {
  cycles = row.cycles + 1;
  begun = false;
  status = if row.cancelled then status.Ending Cancelled else next_status now row row.cycle;
}

-- p and its descendants are killed, and p ends by the error
abbrev pub stop_done : ℕ → ErrNo → Moment → Moment
stop_done p e m = let m' = family_killed p m in with_row p (record (row_of m' p) { status = status.Ending (Error e) }) m'

-- p's cycle is done
abbrev pub finish_done : ℕ → Row → Moment → Moment
finish_done p row m = answered p Done (with_row p (finished m.clock row) m)

-- p's cycle begins
abbrev pub begin_done : ℕ → Row → Moment → Moment
begin_done p row m = answered p Begun (with_row p (record row { begun = true; started = true }) m)

-- what p's request does, where p has this row. An UPDATE block is opened and done by events of its own; Look and Close are asked inside one alone
abbrev pub effect : Tables → ℕ → Row → Request → Moment → Moment
effect tables p row request.Begin m = begin_done p row m
effect tables p row (request.Read spot) m = answered p (Told (value_at tables m spot)) m
effect tables p row (request.Write cell v) m = answered p Done (stored cell v m)
effect tables p row request.Pass m = answered p Done m
effect tables p row (request.Update groups) m = m
effect tables p row (request.Schedule plan) m = schedule_done p plan (row_of m plan.process) m
effect tables p row (request.Cancel q) m = cancel_done p q (row_of m q) m
effect tables p row (request.Terminate q) m = terminate_done p q (row_of m q) m
effect tables p row (request.Wait pause) m = wait_begun p row (wait_status tables m p pause) m
effect tables p row (request.Signal e) m = signal_done tables p e m
effect tables p row (request.Set e) m = answered p Done (with_event tables e true m)
effect tables p row (request.Reset e) m = answered p Done (with_event tables e false m)
effect tables p row (request.Priority q priority) m = priority_done p q priority (row_of m q) m
effect tables p row (request.Print channel line) m = answered p Done (printed (channel_line channel line) m)
effect tables p row (request.Input channel kind) m = input_done p channel kind (slice_index_or m.input channel []) m
effect tables p row request.Now m = answered p (Told (value.Int (pos (m.clock / 1000)))) m
effect tables p row (request.Stop e) m = stop_done p e m
effect tables p row request.Finish m = finish_done p row m
effect tables p row (request.Look cell) m = m
effect tables p row (request.Close turns) m = m
