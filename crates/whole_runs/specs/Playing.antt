-- Whole runs of a load with one lane: at each moment one event is possible, or no row is Ready.
use Rattle.std.specs.Prelude.{ℕ, zero, suc, List, [], ◌∷◌, Some, None, position, bytes_eq, if◌then◌else◌}
use Rattle.hal_values.specs.declared.value.Value.{Value}
use Rattle.hal_values.specs.Answers.{Answered}
use Rattle.hal_values.specs.Loads.{Meaning}
use Rattle.hal_states.specs.Telling.{is_update}
use Rattle.exec_model.specs.declared.event.Event.{Event}
use Rattle.exec_model.specs.declared.event.Event.TheVariants as event
use Rattle.exec_model.specs.declared.script.ScriptLine.{ScriptLine}
use Rattle.exec_model.specs.declared.script.ScriptLine.TheVariants as line
use Rattle.exec_model.specs.Moments.{Moment, row_of, answers_of}
use Rattle.exec_model.specs.Opening.{opening}
use Rattle.exec_model.specs.Order.{first}
use Rattle.exec_model.specs.Report.{report}
use Rattle.exec_model.specs.Runs.{open_blocks}
use Rattle.exec_model.specs.Steps.{stepped}

-- how many turns the UPDATE block makes that a process asks for after its answers, over these shared values
abbrev pub Turns : Type 0
Turns = ℕ → List Answered → List Value → ℕ

abbrev pub block_event : Turns → Moment → ℕ → Event
block_event turns m p = event.Block p (turns p (answers_of m p) m.store)

-- the event of a process that is the first one
abbrev pub event_of : Meaning → Turns → Moment → ℕ → Event
event_of q turns m p = if (row_of m p).inside then block_event turns m p else if is_update (q.next p (answers_of m p)) then event.Open p else event.Act p

-- so many events, or fewer where no row is Ready
abbrev pub run : Meaning → Turns → ℕ → Moment → Moment
run q turns zero m = m
run q turns (suc n) m = elim (first 1 m.rows) [ [] ↦ m | p ∷ ps ↦ run q turns n (stepped q m (event_of q turns m p)) ]

abbrev pub played_line : Meaning → Turns → ScriptLine → Moment → Moment
played_line q turns (line.Run n) m = run q turns n m
played_line q turns (line.Tick t) m = stepped q m (event.Tick t)
played_line q turns (line.Preempt name) m = elim (position (λ one. bytes_eq one name) q.tables.processes) [ None ↦ m | Some p ↦ stepped q m (event.Preempt p) ]
played_line q turns (line.Input channel given) m = m

abbrev pub played_lines : Meaning → Turns → List ScriptLine → Moment → Moment
played_lines q turns [] m = m
played_lines q turns (l ∷ ls) m = played_lines q turns ls (played_line q turns l m)

-- the open blocks of these processes are done
abbrev pub completed : Meaning → Turns → List ℕ → Moment → Moment
completed q turns [] m = m
completed q turns (p ∷ ps) m = completed q turns ps (stepped q m (block_event turns m p))

-- the moment to which a script leads
abbrev pub played : Meaning → Turns → List ScriptLine → Moment
played q turns script = let m = played_lines q turns script (opening q.tables script) in completed q turns (open_blocks m.rows) m

-- the report of it
abbrev pub report_of : Meaning → Turns → List ScriptLine → List ℕ
report_of q turns script = report q (played q turns script)
