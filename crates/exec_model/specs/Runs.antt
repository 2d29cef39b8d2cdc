-- Which journals are runs of a load under a script.
use Rattle.std.specs.Prelude.{◌≡◌, ◌≢◌, ℕ, ◌<◌, ◌⊎◌, false, List, [], ◌∷◌, ◌++◌, length, filter, take, slice_get, Some}
use Rattle.std.specs.List.{list_any}
use Rattle.hal_values.specs.declared.tables.Tables.{Tables}
use Rattle.hal_values.specs.Loads.{Meaning}
use Rattle.exec_model.specs.declared.event.Event.{Event}
use Rattle.exec_model.specs.declared.event.Event.TheVariants as event
use Rattle.exec_model.specs.declared.row.Row.{Row}
use Rattle.exec_model.specs.declared.script.ScriptLine.{ScriptLine}
use Rattle.exec_model.specs.declared.script.ScriptLine.TheVariants as line
use Rattle.exec_model.specs.Moments.{Moment}
use Rattle.exec_model.specs.Opening.{opening}
use Rattle.exec_model.specs.Order.{first}
use Rattle.exec_model.specs.Rows.{row_in, is_ready}
use Rattle.exec_model.specs.Steps.{IsStep, Steps, stepped}

-- the event is one of a process: Act, Open or Block
abbrev pub IsOfProcess : Event → Type 0
IsOfProcess (event.Act p) = Unit {0}
IsOfProcess (event.Open p) = Unit {0}
IsOfProcess (event.Block p turns) = Unit {0}
IsOfProcess (event.Tick time) = ⊥
IsOfProcess (event.Preempt p) = ⊥

abbrev pub AreOfProcesses : List Event → Type 0
AreOfProcesses [] = Unit {0}
AreOfProcesses (happens ∷ events) = IsOfProcess happens × AreOfProcesses events

-- no row is Ready
abbrev pub IsQuiet : Moment → Type 0
IsQuiet m = list_any is_ready m.rows ≡ false

-- so many events of processes, or fewer, and then no row is Ready
pub record MakesEvents (q : Meaning) (lanes : ℕ) (old : Moment) (count : ℕ) (events : List Event) (new : Moment) : Type 0 where
  pub steps : Steps q lanes old events new
  pub kind : AreOfProcesses events
  pub used_up : (length events ≡ count) ⊎ ((length events < count) × IsQuiet new)

-- p is the lowest process of this name
pub record IsLowestNamed (tables : Tables) (name : List ℕ) (p : ℕ) : Type 0 where
  pub named : slice_get tables.processes p ≡ Some name
  pub lowest : (o : ℕ) → o < p → slice_get tables.processes o ≢ Some name

-- no process has this name
abbrev pub IsUnknown : Tables → List ℕ → Type 0
IsUnknown tables name = (o : ℕ) → slice_get tables.processes o ≢ Some name

-- the events of one script line
abbrev pub MakesLine : Meaning → ℕ → Moment → ScriptLine → List Event → Moment → Type 0
MakesLine q lanes old (line.Run count) events new = MakesEvents q lanes old count events new
MakesLine q lanes old (line.Tick time) events new = (events ≡ event.Tick time ∷ []) × Steps q lanes old events new
MakesLine q lanes old (line.Preempt name) events new =
    ((p : ℕ) × IsLowestNamed q.tables name p × (events ≡ event.Preempt p ∷ []) × Steps q lanes old events new) ⊎ (IsUnknown q.tables name × (events ≡ []) × (new ≡ old))
MakesLine q lanes old (line.Input channel given) events new = (events ≡ []) × (new ≡ old)

-- the events of script lines, in order
abbrev pub MakesLines : Meaning → ℕ → Moment → List ScriptLine → List Event → Moment → Type 0
MakesLines q lanes old [] events new = (events ≡ []) × (new ≡ old)
MakesLines q lanes old (line ∷ lines) events new =
    (front others : List Event) × (middle : Moment) × (events ≡ front ++ others) × MakesLine q lanes old line front middle × MakesLines q lanes middle lines others new

-- the journal has the events of the first so many script lines, and leads to this moment
abbrev pub Reaches : Meaning → List ScriptLine → ℕ → ℕ → List Event → Moment → Type 0
Reaches q script lanes lines journal new = MakesLines q lanes (opening q.tables script) (take lines script) journal new

-- the open blocks of these processes are done, each by one event Block, in this order
abbrev pub Completes : Meaning → ℕ → Moment → List ℕ → List Event → Moment → Type 0
Completes q lanes old [] events new = (events ≡ []) × (new ≡ old)
Completes q lanes old (p ∷ processes) events new =
    (turns : ℕ) × (others : List Event) × (middle : Moment) × (events ≡ event.Block p turns ∷ others) × IsStep q lanes old (event.Block p turns) middle × Completes q lanes middle processes others new

-- the processes that are inside an UPDATE block, in the order of the Ready rows
abbrev pub open_blocks : List Row → List ℕ
open_blocks rows = filter (λ p. (row_in rows p).inside) (first (length rows) rows)

-- the journal has the events of all script lines, and then each open block is done; so it leads to this moment
pub record IsRunTo (q : Meaning) (script : List ScriptLine) (lanes : ℕ) (journal : List Event) (end_ : Moment) : Type 0 where
  pub front : List Event
  pub rest : List Event
  pub middle : Moment
  pub whole : journal ≡ front ++ rest
  pub lines : MakesLines q lanes (opening q.tables script) script front middle
  pub blocks : Completes q lanes middle (open_blocks middle.rows) rest end_

-- the journal is a run of the load under the script
abbrev pub IsRun : Meaning → List ScriptLine → ℕ → List Event → Type 0
IsRun q script lanes journal = (end_ : Moment) × IsRunTo q script lanes journal end_

-- the moment to which events lead
abbrev pub moment_after : Meaning → Moment → List Event → Moment
moment_after q m [] = m
moment_after q m (happens ∷ events) = moment_after q (stepped q m happens) events

-- the moment to which a journal leads
abbrev pub after : Meaning → List ScriptLine → List Event → Moment
after q script journal = moment_after q (opening q.tables script) journal
