-- Whether a scripted load is right, as far as definitions can check it.
use Rattle.std.specs.Prelude.{ℕ, ◌+◌, ◌-◌, ◌^◌, ◌==◌, nat_le, nat_lt, Bool, true, false, ◌&&◌, List, [], ◌∷◌, length, Option, Some, None, slice_get, ℤ, pos, negsuc}
use Rattle.std.specs.Int.Signed.{le_z}
use Rattle.std.specs.List.{list_all}
use Rattle.hal_base.specs.declared.limits.TheConstants.{CELL_LIMIT, EVENT_LIMIT, PROCESS_LIMIT}
use Rattle.hal_values.specs.declared.plan.Cycle.{Cycle}
use Rattle.hal_values.specs.declared.plan.Cycle.TheVariants as cycle
use Rattle.hal_values.specs.declared.plan.Guard.{Guard}
use Rattle.hal_values.specs.declared.plan.Guard.TheVariants as guard
use Rattle.hal_values.specs.declared.plan.Pause.{Pause}
use Rattle.hal_values.specs.declared.plan.Pause.TheVariants as pause
use Rattle.hal_values.specs.declared.plan.Plan.{Plan}
use Rattle.hal_values.specs.declared.plan.When.{When}
use Rattle.hal_values.specs.declared.plan.When.TheVariants as when
use Rattle.hal_values.specs.declared.request.Request.{Request}
use Rattle.hal_values.specs.declared.request.Request.TheVariants as request
use Rattle.hal_values.specs.declared.request.Spot.{Spot}
use Rattle.hal_values.specs.declared.request.Spot.TheVariants as spot
use Rattle.hal_values.specs.declared.tables.Cell.{Cell}
use Rattle.hal_values.specs.declared.tables.Item.{Item}
use Rattle.hal_values.specs.declared.tables.Item.TheVariants as item
use Rattle.hal_values.specs.declared.tables.Tables.{Tables}
use Rattle.hal_values.specs.declared.value.Kind.{Kind}
use Rattle.hal_values.specs.declared.value.Kind.TheVariants as kind
use Rattle.hal_values.specs.declared.value.Value.{Value}
use Rattle.hal_values.specs.declared.value.Value.TheVariants as value
use Rattle.hal_values.specs.Loads.{Meaning, turn_limit}
use Rattle.hal_values.specs.Requests.{time_limit}
use Rattle.hal_values.specs.Smallest.{smallest}
use Rattle.hal_values.specs.Tables.{process_count, event_count}
use Rattle.exec_rows.specs.declared.scripted.Ask.{Ask}
use Rattle.exec_rows.specs.declared.scripted.Ask.TheVariants.{Plain, Update}
use Rattle.exec_rows.specs.declared.scripted.Scripted.{Scripted}
use Rattle.exec_rows.specs.Scripting.{as_scripted}

-- the number lies between two others
abbrev pub is_between : ℤ → ℤ → ℤ → Bool
is_between low n high = le_z low n && le_z n high

-- the kind's number of bits or bytes is one that a declaration can have
abbrev pub is_kind : Kind → Bool
is_kind kind.Single = true
is_kind kind.Double = true
is_kind (kind.Bits n) = nat_le 1 n && nat_le n 32
is_kind (kind.Text n) = nat_le 1 n && nat_le n 255

-- the value is of the kind
abbrev pub is_of_kind : Kind → Value → Bool
is_of_kind kind.Single (value.Int n) = is_between (negsuc 32767) n (pos 32767)
is_of_kind kind.Double (value.Int n) = is_between (negsuc 2147483647) n (pos 2147483647)
is_of_kind (kind.Bits n) (value.Bits len word) = len == n && nat_lt word (2 ^ n)
is_of_kind (kind.Text n) (value.Text bytes) = nat_le (length bytes) n
is_of_kind k v = false

-- the cell's kind is in its range, and the initial value is of it
abbrev pub is_cell : Cell → Bool
is_cell cell = is_kind cell.kind && is_of_kind cell.kind cell.initial

-- the items leave one value where so many operands stand before them, and name events below the count
abbrev pub is_postfix : ℕ → ℕ → List Item → Bool
is_postfix events operands [] = operands == 1
is_postfix events operands (item.Event e ∷ items) = nat_lt e events && is_postfix events (operands + 1) items
is_postfix events operands (item.Not ∷ items) = nat_le 1 operands && is_postfix events operands items
is_postfix events operands (item.And ∷ items) = nat_le 2 operands && is_postfix events (operands - 1) items
is_postfix events operands (item.Or ∷ items) = nat_le 2 operands && is_postfix events (operands - 1) items

-- the tables keep their limits
abbrev pub are_few : Tables → Bool
are_few tables = nat_le (length tables.cells) CELL_LIMIT && (nat_le (process_count tables) PROCESS_LIMIT && nat_le (length tables.events) EVENT_LIMIT)

-- the tables are right
abbrev pub are_tables : Tables → Bool
are_tables tables =
    are_few tables && (list_all is_cell tables.cells && (list_all (is_postfix (event_count tables) 0) tables.expressions && nat_lt tables.first (process_count tables)))

-- the time is within its limit either way
abbrev pub is_time : ℤ → Bool
is_time t = is_between (negsuc 2147483647999) t (pos time_limit)

-- the event expression exists
abbrev pub has_expression : Tables → ℕ → Bool
has_expression tables x = nat_lt x (length tables.expressions)

-- the process exists
abbrev pub has_process : Tables → ℕ → Bool
has_process tables p = nat_lt p (process_count tables)

-- the event exists
abbrev pub has_event : Tables → ℕ → Bool
has_event tables e = nat_lt e (event_count tables)

-- there is a cell, and the value is of its kind
abbrev pub is_for_cell : Option Cell → Value → Bool
is_for_cell None v = false
is_for_cell (Some cell) v = is_of_kind cell.kind v

-- the cell of this number exists, and the value is of its kind
abbrev pub is_write : Tables → ℕ → Value → Bool
is_write tables cell v = is_for_cell (slice_get tables.cells cell) v

-- what is read exists
abbrev pub has_spot : Tables → Spot → Bool
has_spot tables (spot.Cell cell) = nat_lt cell (length tables.cells)
has_spot tables (spot.Event e) = has_event tables e

-- what the start names exists, and its time is within the limit
abbrev pub is_when : Tables → When → Bool
is_when tables when.Now = true
is_when tables (when.At t) = is_time t
is_when tables (when.After t) = is_time t
is_when tables (when.On x) = has_expression tables x

-- the time between cycles is within the limit
abbrev pub is_cycle : Cycle → Bool
is_cycle cycle.Once = true
is_cycle cycle.Again = true
is_cycle (cycle.Every t) = nat_le t time_limit
is_cycle (cycle.After t) = nat_le t time_limit

-- what the guard names exists, and its time is within the limit
abbrev pub is_guard : Tables → Guard → Bool
is_guard tables guard.Free = true
is_guard tables (guard.While x) = has_expression tables x
is_guard tables (guard.Until x) = has_expression tables x
is_guard tables (guard.UntilTime t) = is_time t

-- what the plan names exists, and its times are within the limit
abbrev pub is_plan : Tables → Plan → Bool
is_plan tables plan = (has_process tables plan.process && is_when tables plan.when) && (is_cycle plan.cycle && is_guard tables plan.guard)

-- what the wait names exists, and its time is within the limit
abbrev pub is_pause : Tables → Pause → Bool
is_pause tables (pause.For t) = is_time t
is_pause tables (pause.Till t) = is_time t
is_pause tables (pause.Event x) = has_expression tables x
is_pause tables pause.Dependents = true

-- the request may stand in a body as it is: it is in order, and none of those that the definitions add
abbrev pub is_plain : Tables → Request → Bool
is_plain tables request.Begin = false
is_plain tables (request.Read spot) = has_spot tables spot
is_plain tables (request.Write cell v) = is_write tables cell v
is_plain tables request.Pass = true
is_plain tables (request.Update groups) = false
is_plain tables (request.Schedule plan) = is_plan tables plan
is_plain tables (request.Cancel process) = has_process tables process
is_plain tables (request.Terminate process) = has_process tables process
is_plain tables (request.Wait pause) = is_pause tables pause
is_plain tables (request.Signal e) = has_event tables e
is_plain tables (request.Set e) = has_event tables e
is_plain tables (request.Reset e) = has_event tables e
is_plain tables (request.Priority process priority) = has_process tables process
is_plain tables (request.Print channel line) = true
is_plain tables (request.Input channel kind) = true
is_plain tables request.Now = true
is_plain tables (request.Stop error) = true
is_plain tables request.Finish = false
is_plain tables (request.Look cell) = false
is_plain tables (request.Close turns) = false

-- a cell that exists gets a value of its kind
abbrev pub is_written : Tables → (ℕ × Value) → Bool
is_written tables written = is_write tables written.0 written.1

-- what stands in a body is in order; a block writes cells that exist, with values of their kinds, and keeps the limit of turns
abbrev pub is_ask : Tables → Ask → Bool
is_ask tables (Plain asked) = is_plain tables asked
is_ask tables (Update groups writes turns) = list_all (is_written tables) writes && nat_le turns turn_limit

-- each of these cycles asks what is in order
abbrev pub are_cycles : Tables → List (List Ask) → Bool
are_cycles tables cycles = list_all (list_all (is_ask tables)) cycles

-- the tables are right, and all that is asked is in order
abbrev pub checks : Scripted → Bool
checks load = are_tables load.tables && list_all (are_cycles load.tables) load.bodies

-- what a scripted load says where it checks, and else what the smallest load says
abbrev pub meaning_if : Bool → Scripted → Meaning
meaning_if true load = as_scripted load
meaning_if false load = smallest

-- what a scripted load says, as a load
abbrev pub scripted : Scripted → Meaning
scripted load = meaning_if (checks load) load
