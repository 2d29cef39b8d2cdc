-- The loads, scripts and journals of the rows.
use Rattle.std.specs.Prelude.{ℕ, ◌*◌, List, [], ◌∷◌, ◌++◌, codes, pos, replicate, true, false}
use Rattle.hal_values.specs.declared.plan.Cycle.TheVariants as cycle
use Rattle.hal_values.specs.declared.plan.Guard.TheVariants as guard
use Rattle.hal_values.specs.declared.plan.Plan.{Plan}
use Rattle.hal_values.specs.declared.plan.When.{When}
use Rattle.hal_values.specs.declared.plan.When.TheVariants as when
use Rattle.hal_values.specs.declared.plan.Pause.TheVariants as pause
use Rattle.hal_values.specs.declared.request.Request.{Request}
use Rattle.hal_values.specs.declared.request.Request.TheVariants as request
use Rattle.hal_values.specs.declared.request.Spot.TheVariants as spot
use Rattle.hal_values.specs.declared.tables.Cell.{Cell}
use Rattle.hal_values.specs.declared.tables.EventStart.TheVariants.{Unlatched, Latched}
use Rattle.hal_values.specs.declared.tables.Item.TheVariants as item
use Rattle.hal_values.specs.declared.tables.ReportBase.TheVariants as base
use Rattle.hal_values.specs.declared.tables.ReportName.{ReportName}
use Rattle.hal_values.specs.declared.tables.Tables.{Tables}
use Rattle.hal_values.specs.declared.value.Kind.TheVariants as kind
use Rattle.hal_values.specs.declared.value.Value.{Value}
use Rattle.hal_values.specs.declared.value.Value.TheVariants as value
use Rattle.hal_values.specs.Answers.{error}
use Rattle.exec_model.specs.declared.event.Event.{Event}
use Rattle.exec_model.specs.declared.event.Event.TheVariants.{Act, Open, Block, Tick, Preempt}
use Rattle.exec_model.specs.declared.script.ScriptLine.{ScriptLine}
use Rattle.exec_model.specs.declared.script.ScriptLine.TheVariants as line
use Rattle.exec_rows.specs.declared.scripted.Ask.{Ask}
use Rattle.exec_rows.specs.declared.scripted.Ask.TheVariants as ask
use Rattle.exec_rows.specs.declared.scripted.Scripted.{Scripted}

-- so many requests of a process are answered
abbrev pub acts : ℕ → ℕ → List Event
acts p count = replicate count (Act p)

-- a process starts now, with this priority, for one cycle
abbrev pub soon : ℕ → ℕ → Plan
soon p priority = record { process = p; when = when.Now; priority = priority; dependent = false; cycle = cycle.Once; guard = guard.Free }

-- a request that stands for itself
abbrev pub asks : Request → Ask
asks asked = ask.Plain asked

-- a line to channel 6
abbrev pub says : List ℕ → Ask
says text = ask.Plain (request.Print 6 text)

-- tables with these processes and nothing else
abbrev pub bare : List (List ℕ) → Tables
bare processes = record { cells = []; processes = processes; first = 0; events = []; expressions = []; names = [] }

-- so a shared cell is called
abbrev pub cell_name : List ℕ → ℕ → ReportName
cell_name name cell = record { name = name; base = base.Shared; first = cell; copies = 0; stride = 0; dimensions = [] }

-- so an event is called
abbrev pub event_name : List ℕ → ℕ → ReportName
event_name name e = record { name = name; base = base.Event; first = e; copies = 0; stride = 0; dimensions = [] }

-- an integer of a cell
abbrev pub number : ℕ → Value
number n = value.Int (pos n)

-- an integer of 16 bits, at first 0, in this lock group
abbrev pub integer_cell : ℕ → Cell
integer_cell group = record { kind = kind.Single; group = group; initial = number 0 }

-- P, T
abbrev pub two_names : List (List ℕ)
two_names = codes "P" ∷ codes "P.T" ∷ []

-- P schedules T twice, which fails at the second time, waits until T isn't active, writes, and schedules it once more
abbrev pub twice : Scripted
twice = record {
  tables = record (bare two_names) { expressions = (item.Event 1 ∷ item.Not ∷ []) ∷ [] };
  bodies =
      ((asks (request.Schedule (soon 1 40)) ∷ asks (request.Schedule (soon 1 40)) ∷ asks (request.Wait (pause.Event 0)) ∷ says (codes " AGAIN") ∷ asks (request.Schedule (soon 1 40)) ∷ []) ∷ [])
      ∷ ((says (codes " T") ∷ []) ∷ (says (codes " T") ∷ []) ∷ [])
      ∷ [];
}

-- `RUN 50`
abbrev pub twice_script : List ScriptLine
twice_script = line.Run 50 ∷ []

-- P up to its wait, T, P to its end, and T once more
abbrev pub twice_journal : List Event
twice_journal = acts 0 4 ++ acts 1 3 ++ acts 0 3 ++ acts 1 3

-- P schedules T twice, and stops at the error of the second time
abbrev pub stopped : Scripted
stopped = record {
  tables = record (bare two_names) { expressions = (item.Event 1 ∷ item.Not ∷ []) ∷ [] };
  bodies =
      ((asks (request.Schedule (soon 1 40)) ∷ asks (request.Schedule (soon 1 40)) ∷ asks (request.Stop (error 2 1)) ∷ []) ∷ [])
      ∷ ((says (codes " T") ∷ []) ∷ [])
      ∷ [];
}

-- P up to its stop, and T
abbrev pub stopped_journal : List Event
stopped_journal = acts 0 4 ++ acts 1 3

-- a cycle of T that adds 1 to N, which comes to this, and writes N and the time
abbrev pub counting_cycle : ℕ → List ℕ → List Ask
counting_cycle n text = asks (request.Read (spot.Cell 0)) ∷ asks (request.Write 0 (number n)) ∷ asks (request.Read (spot.Cell 0)) ∷ asks request.Now ∷ says text ∷ []

-- P schedules T for a cycle every 40 ms, and each cycle adds 1 to N
abbrev pub counting : Scripted
counting = record {
  tables = record (bare two_names) { cells = integer_cell 0 ∷ []; names = cell_name (codes "P.N") 0 ∷ [] };
  bodies =
      ((asks (request.Schedule (record (soon 1 40) { cycle = cycle.Every 40 })) ∷ []) ∷ [])
      ∷ (counting_cycle 1 (codes " 1 0") ∷ counting_cycle 2 (codes " 2 0") ∷ counting_cycle 3 (codes " 3 0") ∷ counting_cycle 4 (codes " 4 0") ∷ counting_cycle 5 (codes " 5 0") ∷ counting_cycle 6 (codes " 6 0") ∷ [])
      ∷ [];
}

-- the clock goes on by this between two runs
abbrev pub counting_script : ℕ → List ScriptLine
counting_script time = line.Run 100 ∷ line.Tick time ∷ line.Run 100 ∷ []

-- P and a cycle of T, and after the tick so many cycles of T
abbrev pub counting_journal : ℕ → ℕ → List Event
counting_journal time cycles = acts 0 3 ++ acts 1 7 ++ Tick time ∷ acts 1 (7 * cycles)

-- P schedules A and B, of which A waits for E, and B for E AND NOT F; it signals E, and writes E and F
abbrev pub signalled : Scripted
signalled = record {
  tables = record (bare (codes "P" ∷ codes "P.A" ∷ codes "P.B" ∷ [])) {
    events = Unlatched ∷ Latched true ∷ [];
    expressions = (item.Event 3 ∷ []) ∷ (item.Event 3 ∷ item.Event 4 ∷ item.Not ∷ item.And ∷ []) ∷ [];
    names = event_name (codes "P.F") 4 ∷ [];
  };
  bodies =
      ((asks (request.Schedule (soon 1 60)) ∷ asks (request.Schedule (soon 2 60)) ∷ asks (request.Signal 3) ∷ asks (request.Read (spot.Event 3)) ∷ asks (request.Read (spot.Event 4)) ∷ says (codes " 0 1") ∷ []) ∷ [])
      ∷ ((asks (request.Wait (pause.Event 0)) ∷ says (codes " A") ∷ []) ∷ [])
      ∷ ((asks (request.Wait (pause.Event 1)) ∷ says (codes " B") ∷ []) ∷ [])
      ∷ [];
}

-- `RUN 50`
abbrev pub signalled_script : List ScriptLine
signalled_script = line.Run 50 ∷ []

-- A and B begin as they are scheduled and wait, and the signal lets A go on before P
abbrev pub signalled_journal : List Event
signalled_journal = acts 0 2 ++ acts 1 2 ++ acts 0 1 ++ acts 2 2 ++ acts 0 1 ++ acts 1 2 ++ acts 0 4

-- a process starts at such a time with priority 60, and has a cycle every second
abbrev pub each_second : ℕ → When → Plan
each_second p starts = record { process = p; when = starts; priority = 60; dependent = false; cycle = cycle.Every 1000; guard = guard.Free }

-- P schedules A now, B in 5 s and C now, each with a cycle every second, and cancels them; C waits half a second
abbrev pub cancelled : Scripted
cancelled = record {
  tables = bare (codes "P" ∷ codes "P.A" ∷ codes "P.B" ∷ codes "P.C" ∷ []);
  bodies =
      ((asks (request.Schedule (each_second 1 when.Now)) ∷ asks (request.Schedule (each_second 2 (when.After (pos 5000)))) ∷ asks (request.Schedule (each_second 3 when.Now))
      ∷ asks (request.Cancel 1) ∷ asks (request.Cancel 2) ∷ asks (request.Cancel 3) ∷ []) ∷ [])
      ∷ []
      ∷ []
      ∷ ((asks (request.Wait (pause.For (pos 500))) ∷ says (codes " C") ∷ []) ∷ [])
      ∷ [];
}

-- `RUN 100`, `TICK 500`, `RUN 100`
abbrev pub cancelled_script : List ScriptLine
cancelled_script = line.Run 100 ∷ line.Tick 500 ∷ line.Run 100 ∷ []

-- A has its cycle and C begins as they are scheduled; P cancels all and closes; after the tick C goes on
abbrev pub cancelled_journal : List Event
cancelled_journal = acts 0 2 ++ acts 1 2 ++ acts 0 2 ++ acts 3 2 ++ acts 0 4 ++ Tick 500 ∷ acts 3 2

-- P schedules D as its dependent and terminates itself; D adds 1 to K twice in an UPDATE block, and then would write
abbrev pub terminated : Scripted
terminated = record {
  tables = record (bare (codes "P" ∷ codes "P.D" ∷ [])) { cells = integer_cell 1 ∷ []; names = cell_name (codes "P.K") 0 ∷ [] };
  bodies =
      ((asks (request.Schedule (record (soon 1 50) { dependent = true })) ∷ asks (request.Terminate 0) ∷ []) ∷ [])
      ∷ ((ask.Update 2 ((0, number 1) ∷ (0, number 2) ∷ []) 0 ∷ says (codes " NO") ∷ []) ∷ [])
      ∷ [];
}

-- `RUN` with this count
abbrev pub terminated_script : ℕ → List ScriptLine
terminated_script count = line.Run count ∷ []

-- on two lanes D opens its block before P terminates itself, and so the block is done
abbrev pub terminated_journal : List Event
terminated_journal = Act 0 ∷ Act 0 ∷ Act 1 ∷ Open 1 ∷ Act 0 ∷ Block 1 0 ∷ []

-- P schedules A and B, of its own priority; A writes twice and B once
abbrev pub preempted : Scripted
preempted = record {
  tables = bare (codes "P" ∷ codes "P.A" ∷ codes "P.B" ∷ []);
  bodies =
      ((asks (request.Schedule (soon 1 50)) ∷ asks (request.Schedule (soon 2 50)) ∷ []) ∷ [])
      ∷ ((says (codes " A1") ∷ says (codes " A2") ∷ []) ∷ [])
      ∷ ((says (codes " B1") ∷ []) ∷ [])
      ∷ [];
}

-- `RUN 6`, `PREEMPT P.A`, `RUN 100`
abbrev pub preempted_script : List ScriptLine
preempted_script = line.Run 6 ∷ line.Preempt (codes "P.A") ∷ line.Run 100 ∷ []

-- P, and A up to its first line; B, and the rest of A
abbrev pub preempted_journal : List Event
preempted_journal = acts 0 4 ++ acts 1 2 ++ Preempt 1 ∷ acts 2 3 ++ acts 1 2

-- P schedules T for a cycle every second until 2 s, and each cycle writes the time
abbrev pub guarded : Scripted
guarded = record {
  tables = bare two_names;
  bodies =
      ((asks (request.Schedule (record (soon 1 60) { cycle = cycle.Every 1000; guard = guard.UntilTime (pos 2000) })) ∷ []) ∷ [])
      ∷ ((asks request.Now ∷ says (codes " 0") ∷ []) ∷ (asks request.Now ∷ says (codes " 1") ∷ []) ∷ [])
      ∷ [];
}

-- `RUN 20`, with `TICK 1000` twice between
abbrev pub guarded_script : List ScriptLine
guarded_script = line.Run 20 ∷ line.Tick 1000 ∷ line.Run 20 ∷ line.Tick 1000 ∷ line.Run 20 ∷ []

-- T has its cycles at 0 s and at 1 s, and none at 2 s
abbrev pub guarded_journal : List Event
guarded_journal = acts 0 2 ++ acts 1 4 ++ acts 0 1 ++ Tick 1000 ∷ acts 1 4 ++ Tick 1000 ∷ []
