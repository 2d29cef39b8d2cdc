-- How a run begins.
use Rattle.std.specs.Prelude.{ℕ, ◌+◌, ◌==◌, Bool, false, List, [], ◌∷◌, ◌++◌, map, replicate, if◌then◌else◌}
use Rattle.std.specs.List.{range_with_len}
use Rattle.hal_values.specs.declared.tables.Cell.{Cell}
use Rattle.hal_values.specs.declared.tables.EventStart.{EventStart}
use Rattle.hal_values.specs.declared.tables.EventStart.TheVariants.{Unlatched, Latched}
use Rattle.hal_values.specs.declared.tables.Tables.{Tables}
use Rattle.hal_values.specs.Tables.{process_count}
use Rattle.exec_model.specs.declared.row.Row.{Row}
use Rattle.exec_model.specs.declared.script.ScriptLine.{ScriptLine}
use Rattle.exec_model.specs.declared.script.ScriptLine.TheVariants.{Run, Tick, Preempt, Input}
use Rattle.exec_model.specs.declared.status.Status.TheVariants as status
use Rattle.exec_model.specs.Moments.{Moment}
use Rattle.exec_model.specs.Rows.{idle_row}
use Rattle.exec_model.specs.Scripts.{last_channel}
use Rattle.exec_model.specs.Settling.{settle}

-- the priority of the first PROGRAM, and of a SCHEDULE without one
abbrev pub usual_priority : ℕ
usual_priority = 50

-- the first PROGRAM starts at time 0; all other rows are Idle
abbrev pub opening_row : ℕ → ℕ → Row
opening_row first p = if p == first then record idle_row { status = status.Start 0; priority = usual_priority } else idle_row

abbrev pub opening_rows : Tables → List Row
opening_rows tables = map (opening_row tables.first) (range_with_len 0 (process_count tables))

-- the first value of a declared event
abbrev pub event_start : EventStart → Bool
event_start Unlatched = false
event_start (Latched value) = value

-- the data that a script line gives to this channel
abbrev pub line_data : ℕ → ScriptLine → List (List ℕ)
line_data channel (Run count) = []
line_data channel (Tick time) = []
line_data channel (Preempt name) = []
line_data channel (Input to given) = if to == channel then given else []

-- the data that the script gives to this channel
abbrev pub channel_data : List ScriptLine → ℕ → List (List ℕ)
channel_data [] channel = []
channel_data (line ∷ lines) channel = line_data channel line ++ channel_data lines channel

-- for each channel, what is to be read from it
abbrev pub script_data : List ScriptLine → List (List (List ℕ))
script_data lines = map (channel_data lines) (range_with_len 0 (last_channel + 1))

-- the executive before the first row settles
abbrev pub unsettled : Tables → List ScriptLine → Moment
unsettled tables script = record {
  store = map (λ (cell : Cell). cell.initial) tables.cells;
  clock = 0;
  rows = opening_rows tables;
  answers = replicate (process_count tables) [];
  events = map event_start tables.events;
  output = [];
  ends = [];
  input = script_data script;
  stamp = 0;
}

-- the executive as a run begins
abbrev pub opening : Tables → List ScriptLine → Moment
opening tables script = settle tables (unsettled tables script)
