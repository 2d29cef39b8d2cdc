-- What the processes of a scripted load ask.
use Rattle.std.specs.Prelude.{ℕ, ◌==◌, Bool, true, false, List, [], ◌∷◌, Option, Some, None, slice_index_or}
use Rattle.hal_values.specs.declared.request.Request.{Request}
use Rattle.hal_values.specs.declared.request.Request.TheVariants as request
use Rattle.hal_values.specs.declared.value.Value.{Value}
use Rattle.hal_values.specs.Answers.{Answered, Killed}
use Rattle.hal_values.specs.Loads.{Meaning}
use Rattle.exec_rows.specs.declared.scripted.Ask.{Ask}
use Rattle.exec_rows.specs.declared.scripted.Ask.TheVariants.{Plain, Update}
use Rattle.exec_rows.specs.declared.scripted.Scripted.{Scripted}

-- where a process is: before a cycle, with this and all later cycles; or within one, with what it still asks and the later cycles
pub data Point : Type 0 where
  Before : List (List Ask) → Point
  Within : List Ask → List (List Ask) → Point

-- what is asked in the first of these cycles
abbrev pub first_cycle : List (List Ask) → List Ask
first_cycle [] = []
first_cycle (asks ∷ cycles) = asks

-- the cycles after the first
abbrev pub later_cycles : List (List Ask) → List (List Ask)
later_cycles [] = []
later_cycles (asks ∷ cycles) = cycles

-- the cycles after the one that begins or has begun
abbrev pub cycles_left : Point → List (List Ask)
cycles_left (Before cycles) = later_cycles cycles
cycles_left (Within asks cycles) = cycles

-- where a process goes on that isn't killed
abbrev pub following : Point → Point
following (Before cycles) = Within (first_cycle cycles) (later_cycles cycles)
following (Within [] cycles) = Before cycles
following (Within (ask ∷ asks) cycles) = Within asks cycles

-- where it goes on after this answer
abbrev pub point_then : Answered → Point → Point
point_then Killed point = Before (cycles_left point)
point_then given point = following point

-- where it goes on after these answers
abbrev pub point_after : List Answered → Point → Point
point_after [] point = point
point_after (given ∷ later) point = point_after later (point_then given point)

-- the request for what stands in a body
abbrev pub ask_request : Ask → Request
ask_request (Plain asked) = asked
ask_request (Update groups writes turns) = request.Update groups

-- what a process asks at a point
abbrev pub asked_at : Point → Request
asked_at (Before cycles) = request.Begin
asked_at (Within [] cycles) = request.Finish
asked_at (Within (ask ∷ asks) cycles) = ask_request ask

-- the writes where the turns are those of the block
abbrev pub writes_if : Bool → List (ℕ × Value) → Option (List (ℕ × Value))
writes_if true writes = Some writes
writes_if false writes = None

-- the writes of what stands in a body, if it is an UPDATE block that ends after so many turns
abbrev pub ask_block : Ask → ℕ → Option (List (ℕ × Value))
ask_block (Plain asked) turns = None
ask_block (Update groups writes last) turns = writes_if (turns == last) writes

-- the writes of the UPDATE block at a point, where it ends after so many turns
abbrev pub block_at : Point → ℕ → Option (List (ℕ × Value))
block_at (Before cycles) turns = None
block_at (Within [] cycles) turns = None
block_at (Within (ask ∷ asks) cycles) turns = ask_block ask turns

-- where a process is after these answers
abbrev pub point_of : List (List (List Ask)) → ℕ → List Answered → Point
point_of bodies p answers = point_after answers (Before (slice_index_or bodies p []))

-- what a scripted load says
abbrev pub as_scripted : Scripted → Meaning
as_scripted load = record {
  tables = load.tables;
  next = λ p answers. asked_at (point_of load.bodies p answers);
  block = λ p answers snapshot turns. block_at (point_of load.bodies p answers) turns;
  own = λ p answers. [];
}
