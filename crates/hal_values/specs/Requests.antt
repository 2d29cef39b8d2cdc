-- When a request is in order.
use Rattle.std.specs.Prelude.{ℕ, ◌<◌, ◌≤◌, length, Option, Some, None, slice_get, ℤ, pos, negsuc, ◌≤ℤ◌}
use Rattle.hal_values.specs.declared.plan.When.{When}
use Rattle.hal_values.specs.declared.plan.When.TheVariants as when
use Rattle.hal_values.specs.declared.plan.Cycle.{Cycle}
use Rattle.hal_values.specs.declared.plan.Cycle.TheVariants as cycle
use Rattle.hal_values.specs.declared.plan.Guard.{Guard}
use Rattle.hal_values.specs.declared.plan.Guard.TheVariants as guard
use Rattle.hal_values.specs.declared.plan.Plan.{Plan}
use Rattle.hal_values.specs.declared.plan.Pause.{Pause}
use Rattle.hal_values.specs.declared.plan.Pause.TheVariants as pause
use Rattle.hal_values.specs.declared.request.Spot.{Spot}
use Rattle.hal_values.specs.declared.request.Spot.TheVariants as spot
use Rattle.hal_values.specs.declared.request.Request.{Request}
use Rattle.hal_values.specs.declared.request.Request.TheVariants as request
use Rattle.hal_values.specs.declared.tables.Cell.{Cell}
use Rattle.hal_values.specs.declared.tables.Tables.{Tables}
use Rattle.hal_values.specs.declared.value.Value.{Value}
use Rattle.hal_values.specs.Kinds.{IsOfKind, IsBits}
use Rattle.hal_values.specs.Tables.{process_count, event_count}

-- a time is at most so many milliseconds, either way
abbrev pub time_limit : ℕ
time_limit = 2147483648000

-- the time lies within the limit either way
abbrev pub IsTime : ℤ → Type 0
IsTime t = (negsuc 2147483647999 ≤ℤ t) × (t ≤ℤ pos time_limit)

-- the event expression exists
abbrev pub HasExpression : Tables → ℕ → Type 0
HasExpression tables x = x < length tables.expressions

-- the process exists
abbrev pub HasProcess : Tables → ℕ → Type 0
HasProcess tables p = p < process_count tables

-- the event exists
abbrev pub HasEvent : Tables → ℕ → Type 0
HasEvent tables e = e < event_count tables

-- there is a cell, and the value is of its kind
abbrev pub IsForCell : Option Cell → Value → Type 0
IsForCell None v = ⊥
IsForCell (Some cell) v = IsOfKind cell.kind v

-- the cell of this number exists, and the value is of its kind
abbrev pub IsWrite : Tables → ℕ → Value → Type 0
IsWrite tables cell v = IsForCell (slice_get tables.cells cell) v

-- what is read exists
abbrev pub HasSpot : Tables → Spot → Type 0
HasSpot tables (spot.Cell cell) = cell < length tables.cells
HasSpot tables (spot.Event e) = HasEvent tables e

-- the value is one that can be read there: of the cell's kind, or one bit for an event
abbrev pub IsOfSpot : Tables → Spot → Value → Type 0
IsOfSpot tables (spot.Cell cell) v = IsWrite tables cell v
IsOfSpot tables (spot.Event e) v = IsBits 1 v

-- what the start names exists, and its time is within the limit
abbrev pub IsWhenInOrder : Tables → When → Type 0
IsWhenInOrder tables when.Now = Unit {0}
IsWhenInOrder tables (when.At t) = IsTime t
IsWhenInOrder tables (when.After t) = IsTime t
IsWhenInOrder tables (when.On x) = HasExpression tables x

-- the time between cycles is within the limit
abbrev pub IsCycleInOrder : Cycle → Type 0
IsCycleInOrder cycle.Once = Unit {0}
IsCycleInOrder cycle.Again = Unit {0}
IsCycleInOrder (cycle.Every t) = t ≤ time_limit
IsCycleInOrder (cycle.After t) = t ≤ time_limit

-- what the guard names exists, and its time is within the limit
abbrev pub IsGuardInOrder : Tables → Guard → Type 0
IsGuardInOrder tables guard.Free = Unit {0}
IsGuardInOrder tables (guard.While x) = HasExpression tables x
IsGuardInOrder tables (guard.Until x) = HasExpression tables x
IsGuardInOrder tables (guard.UntilTime t) = IsTime t

-- what the plan names exists, and its times are within the limit
pub record IsPlanInOrder (tables : Tables) (plan : Plan) : Type 0 where
  pub process : HasProcess tables plan.process
  pub starts : IsWhenInOrder tables plan.when
  pub cycle : IsCycleInOrder plan.cycle
  pub guard : IsGuardInOrder tables plan.guard

-- what the wait names exists, and its time is within the limit
abbrev pub IsPauseInOrder : Tables → Pause → Type 0
IsPauseInOrder tables (pause.For t) = IsTime t
IsPauseInOrder tables (pause.Till t) = IsTime t
IsPauseInOrder tables (pause.Event x) = HasExpression tables x
IsPauseInOrder tables pause.Dependents = Unit {0}

-- what the request names exists, a written value is of its cell's kind, and times are within the limit; Look and Close are asked inside an UPDATE block alone
abbrev pub IsInOrder : Tables → Request → Type 0
IsInOrder tables request.Begin = Unit {0}
IsInOrder tables (request.Read spot) = HasSpot tables spot
IsInOrder tables (request.Write cell v) = IsWrite tables cell v
IsInOrder tables request.Pass = Unit {0}
IsInOrder tables (request.Update groups) = Unit {0}
IsInOrder tables (request.Schedule plan) = IsPlanInOrder tables plan
IsInOrder tables (request.Cancel process) = HasProcess tables process
IsInOrder tables (request.Terminate process) = HasProcess tables process
IsInOrder tables (request.Wait pause) = IsPauseInOrder tables pause
IsInOrder tables (request.Signal e) = HasEvent tables e
IsInOrder tables (request.Set e) = HasEvent tables e
IsInOrder tables (request.Reset e) = HasEvent tables e
IsInOrder tables (request.Priority process priority) = HasProcess tables process
IsInOrder tables (request.Print channel line) = Unit {0}
IsInOrder tables (request.Input channel kind) = Unit {0}
IsInOrder tables request.Now = Unit {0}
IsInOrder tables (request.Stop error) = Unit {0}
IsInOrder tables request.Finish = Unit {0}
IsInOrder tables (request.Look cell) = ⊥
IsInOrder tables (request.Close turns) = ⊥
