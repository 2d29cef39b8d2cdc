-- What holds of every moment of a run.
use Rattle.std.specs.Prelude.{◌≡◌, ℕ, ◌+◌, ◌<◌, ◌≤◌, Bool, false, true, length}
use Rattle.hal_base.specs.declared.limits.TheConstants.{TICK_SUM_LIMIT}
use Rattle.hal_values.specs.declared.request.Request.{Request}
use Rattle.hal_values.specs.declared.request.Request.TheVariants.{Begin, Wait}
use Rattle.hal_values.specs.Loads.{Meaning, FitAll, IsUpdate}
use Rattle.hal_values.specs.Requests.{HasProcess}
use Rattle.hal_values.specs.Tables.{process_count, IsSnapshot}
use Rattle.exec_model.specs.declared.event.Event.{Event}
use Rattle.exec_model.specs.declared.event.Event.TheVariants as event
use Rattle.exec_model.specs.declared.status.Status.{Status}
use Rattle.exec_model.specs.declared.status.Status.TheVariants as status
use Rattle.exec_model.specs.Moments.{Moment, row_of, answers_of}
use Rattle.exec_model.specs.Rows.{is_ready, is_waiting}
use Rattle.exec_model.specs.Steps.{request_of}

-- a WAIT is asked for
abbrev pub IsWait : Request → Type 0
IsWait (Wait pause) = Unit {0}
IsWait asked = ⊥

-- the process has ended or waits for its first or next cycle: it is neither Ready nor in a WAIT
abbrev pub is_between : Status → Bool
is_between status.Idle = true
is_between (status.Start t) = true
is_between (status.StartOn x) = true
is_between status.Ready = false
is_between (status.Time t) = false
is_between (status.Event x) = false
is_between status.Dependents = false
is_between (status.Gap t) = true
is_between (status.Ending how) = true

-- a Tick keeps the clock within the sum that scripts may have
abbrev pub KeepsClock : Moment → Event → Type 0
KeepsClock m (event.Act p) = Unit {0}
KeepsClock m (event.Open p) = Unit {0}
KeepsClock m (event.Block p turns) = Unit {0}
KeepsClock m (event.Tick time) = m.clock + time ≤ TICK_SUM_LIMIT
KeepsClock m (event.Preempt p) = Unit {0}

-- there is a row and a list of fitting answers for each process, and a value of its kind for each cell; a process whose answer comes as a wait ends
-- asks for that wait; a process inside an UPDATE block is Ready and asks for the block; a process of which no cycle has begun asks Begin, and so does
-- one between its cycles
pub record IsSound (q : Meaning) (m : Moment) : Type 0 where
  pub rows : length m.rows ≡ process_count q.tables
  pub answers : length m.answers ≡ process_count q.tables
  pub events : length m.events ≡ length q.tables.events
  pub store : IsSnapshot q.tables.cells m.store
  pub clock : m.clock ≤ TICK_SUM_LIMIT
  pub fit : (p : ℕ) → HasProcess q.tables p → FitAll q p (answers_of m p)
  pub waits : (p : ℕ) → HasProcess q.tables p → is_waiting (row_of m p).status ≡ true → IsWait (request_of q m p)
  pub blocks : (p : ℕ) → HasProcess q.tables p → (row_of m p).inside ≡ true → (is_ready (row_of m p) ≡ true) × IsUpdate (request_of q m p)
  pub begins : (p : ℕ) → HasProcess q.tables p → (row_of m p).begun ≡ false → request_of q m p ≡ Begin
  pub between : (p : ℕ) → HasProcess q.tables p → is_between (row_of m p).status ≡ true → request_of q m p ≡ Begin

-- each Ready row has a stamp of its own, below the next one
pub record IsStamped (m : Moment) : Type 0 where
  pub below : (p : ℕ) → is_ready (row_of m p) ≡ true → (row_of m p).stamp < m.stamp
  pub apart : (p o : ℕ) → is_ready (row_of m p) ≡ true → is_ready (row_of m o) ≡ true → (row_of m p).stamp ≡ (row_of m o).stamp → p ≡ o
