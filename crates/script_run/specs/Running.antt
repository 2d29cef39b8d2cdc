-- How a journal goes on.
use Rattle.std.specs.Prelude.{◌≡◌, ℕ, false, List, ◌++◌}
use Rattle.hal_values.specs.Loads.{Meaning}
use Rattle.exec_model.specs.declared.event.Event.{Event}
use Rattle.exec_model.specs.declared.script.ScriptLine.{ScriptLine}
use Rattle.exec_model.specs.declared.row.Row.{Row}
use Rattle.exec_model.specs.Moments.{Moment}
use Rattle.exec_model.specs.Rows.{row_in}
use Rattle.exec_model.specs.Runs.{MakesEvents, MakesLine, MakesLines, Completes, open_blocks}

-- the events are put after the old ones, at most so many
abbrev pub Continues : Meaning → ℕ → Moment → ℕ → List Event → List Event → Moment → Type 0
Continues q lanes old count before now new = (events : List Event) × (now ≡ before ++ events) × MakesEvents q lanes old count events new

-- the events of a script line are put after the old ones
abbrev pub RunsLine : Meaning → ℕ → Moment → ScriptLine → List Event → List Event → Moment → Type 0
RunsLine q lanes old line before now new = (events : List Event) × (now ≡ before ++ events) × MakesLine q lanes old line events new

-- the events of script lines are put after the old ones
abbrev pub RunsLines : Meaning → ℕ → Moment → List ScriptLine → List Event → List Event → Moment → Type 0
RunsLines q lanes old script before now new = (events : List Event) × (now ≡ before ++ events) × MakesLines q lanes old script events new

-- no process is inside an UPDATE block
abbrev pub IsClosed : List Row → Type 0
IsClosed rows = (p : ℕ) → (row_in rows p).inside ≡ false

-- the events by which the open blocks are done, with one lane, are put after the old ones
abbrev pub RunsBlocks : Meaning → Moment → List Event → List Event → Moment → Type 0
RunsBlocks q old before now new = (events : List Event) × (now ≡ before ++ events) × Completes q 1 old (open_blocks old.rows) events new
