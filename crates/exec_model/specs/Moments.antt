-- The executive at a moment.
use Rattle.std.specs.Prelude.{ℕ, ◌+◌, ◌-◌, nat_lt, Bool, false, List, [], ◌∷◌, ◌++◌, drop, slice_index_or, slice_set, if◌then◌else◌}
use Rattle.hal_values.specs.declared.tables.Tables.{Tables}
use Rattle.hal_values.specs.declared.value.Value.{Value}
use Rattle.hal_values.specs.Answers.{Answered}
use Rattle.hal_values.specs.Tables.{process_count}
use Rattle.exec_model.specs.declared.row.Row.{Row}
use Rattle.exec_model.specs.declared.state.State.{State}
use Rattle.exec_model.specs.declared.status.End.{End}
use Rattle.exec_model.specs.declared.status.How.{How}
use Rattle.exec_model.specs.declared.status.Status.TheVariants as status
use Rattle.exec_model.specs.Rows.{row_in, is_active}

-- the store, the clock, a row for each process and the answers that it got, the values of the declared events, the channel lines, the ends,
-- what is left to be read for each channel, and the next stamp
pub record Moment : Type 0 where
  pub store : List Value
  pub clock : ℕ
  pub rows : List Row
  pub answers : List (List Answered)
  pub events : List Bool
  pub output : List ℕ
  pub ends : List End
  pub input : List (List (List ℕ))
  pub stamp : ℕ

-- a state, with the answers of the processes
abbrev pub moment_of : State → List (List Answered) → Moment
moment_of state answers = record {
  store = state.store;
  clock = state.clock;
  rows = state.rows;
  answers = answers;
  events = state.events;
  output = state.output;
  ends = state.ends;
  input = state.input;
  stamp = state.stamp;
}

-- the row of a process
abbrev pub row_of : Moment → ℕ → Row
row_of m p = row_in m.rows p

-- the answers of a process, among those of all
abbrev pub answers_in : List (List Answered) → ℕ → List Answered
answers_in answers p = slice_index_or answers p []

-- the answers of a process
abbrev pub answers_of : Moment → ℕ → List Answered
answers_of m p = answers_in m.answers p

-- the process has this row
abbrev pub with_row : ℕ → Row → Moment → Moment
with_row p row m = record m { rows = slice_set m.rows p row }

-- one more answer, at the end of the list of its process
abbrev pub pushed_answer : List (List Answered) → ℕ → Answered → List (List Answered)
pushed_answer answers p given = slice_set answers p (answers_in answers p ++ given ∷ [])

-- the process is answered
abbrev pub answered : ℕ → Answered → Moment → Moment
answered p given m = record m { answers = pushed_answer m.answers p given }

-- the process has this row, but that it is Ready, with the next stamp
abbrev pub made_ready : ℕ → Row → Moment → Moment
made_ready p row m = record m { rows = slice_set m.rows p (record row { status = status.Ready; stamp = m.stamp }); stamp = m.stamp + 1 }

-- the value of an event: event p is the name of process p, which is TRUE while its row is active, and the declared events follow
abbrev pub event_in : Tables → List Row → List Bool → ℕ → Bool
event_in tables rows events e = if nat_lt e (process_count tables) then is_active (row_in rows e) else slice_index_or events (e - process_count tables) false

abbrev pub event_of : Tables → Moment → ℕ → Bool
event_of tables m e = event_in tables m.rows m.events e

-- the declared event has this value
abbrev pub event_set : Tables → ℕ → Bool → List Bool → List Bool
event_set tables e to events = if nat_lt e (process_count tables) then events else slice_set events (e - process_count tables) to

abbrev pub with_event : Tables → ℕ → Bool → Moment → Moment
with_event tables e to m = record m { events = event_set tables e to m.events }

-- an end is added
abbrev pub ended : ℕ → How → ℕ → Moment → Moment
ended p how cycles m = record m { ends = m.ends ++ record { process = p; clock = m.clock; how = how; cycles = cycles } ∷ [] }

-- the shared cell holds the value
abbrev pub stored : ℕ → Value → Moment → Moment
stored cell v m = record m { store = slice_set m.store cell v }

-- the first datum that is left of a channel is used up
abbrev pub datum_taken : List (List (List ℕ)) → ℕ → List (List (List ℕ))
datum_taken input channel = slice_set input channel (drop 1 (slice_index_or input channel []))

abbrev pub taken_from : ℕ → Moment → Moment
taken_from channel m = record m { input = datum_taken m.input channel }

-- bytes are added to the output
abbrev pub printed : List ℕ → Moment → Moment
printed bytes m = record m { output = m.output ++ bytes }

-- the clock goes on
abbrev pub ticked : ℕ → Moment → Moment
ticked time m = record m { clock = m.clock + time }
