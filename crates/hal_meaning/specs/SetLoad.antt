-- A set as a load.
use Rattle.std.specs.Prelude.{ℕ, ◌≤◌, ◌<◌, length, List}
use Rattle.hal_values.specs.declared.value.Value.{Value}
use Rattle.hal_values.specs.Answers.{Answered}
use Rattle.hal_values.specs.Loads as loads
use Rattle.hal_values.specs.Loads.{turn_limit}
use Rattle.hal_base.specs.declared.limits.TheConstants.{CELL_LIMIT, EVENT_LIMIT, PROCESS_LIMIT}
use Rattle.hal_grammar.specs.Units.{File}
use Rattle.hal_phrases.specs.GatheredUnits.{phrases_of}
use Rattle.hal_constants.specs.Known.{known}
use Rattle.hal_states.specs.Telling.{own_values}
use Rattle.hal_meaning.specs.Bodies.{processes_of}
use Rattle.hal_meaning.specs.Events.{declared_events}
use Rattle.hal_meaning.specs.Sets.{Set, cells_of}
use Rattle.hal_meaning.specs.Runs.{course, asked_kept, next, block}

-- the values of the own elements that the report names of a process give
abbrev pub own : Set → ℕ → List Answered → List Value
own s p answers = own_values s.tables p (asked_kept (course s p answers)).places

-- a set as a load
abbrev pub load_of : Set → loads.Meaning
load_of s = record { tables = s.tables; next = next s; block = block s; own = own s }

-- what the rules of limits say of files: few cells, processes and events; and there is a process
pub record IsSmall (turns : ℕ) (files : List File) : Type 0 where
  pub cells : length (cells_of (phrases_of files) (known (phrases_of files))) ≤ CELL_LIMIT
  pub processes : length (processes_of (phrases_of files)) ≤ PROCESS_LIMIT
  pub events : length (declared_events (phrases_of files)) ≤ EVENT_LIMIT
  pub some : 0 < length (processes_of (phrases_of files))
  pub few_turns : turns ≤ turn_limit
