-- What one event does, and when it may come.
use Rattle.std.specs.Prelude.{◌≡◌, ◌≢◌, ℕ, ◌^◌, true, false, List, [], ◌∷◌, Option, Some, None, IsSome, slice_get, slice_set, bit_and, if◌then◌else◌}
use Rattle.hal_values.specs.declared.request.Request.{Request}
use Rattle.hal_values.specs.declared.request.Request.TheVariants as request
use Rattle.hal_values.specs.declared.request.Spot.TheVariants as spot
use Rattle.hal_values.specs.declared.tables.Cell.{Cell}
use Rattle.hal_values.specs.declared.tables.Tables.{Tables}
use Rattle.hal_values.specs.declared.value.Value.{Value}
use Rattle.hal_values.specs.Answers.{Block, Killed}
use Rattle.hal_values.specs.Loads.{Meaning, IsUpdate}
use Rattle.hal_values.specs.Requests.{HasProcess}
use Rattle.exec_model.specs.declared.event.Event.{Event}
use Rattle.exec_model.specs.declared.event.Event.TheVariants as event
use Rattle.exec_model.specs.declared.row.Row.{Row}
use Rattle.exec_model.specs.declared.status.How.TheVariants.{Terminated}
use Rattle.exec_model.specs.declared.status.Status.TheVariants as status
use Rattle.exec_model.specs.Effects.{effect}
use Rattle.exec_model.specs.Moments.{Moment, row_of, answers_of, with_row, answered, made_ready, ticked}
use Rattle.exec_model.specs.Order.{IsInFirst}
use Rattle.exec_model.specs.Rows.{is_ready}
use Rattle.exec_model.specs.Settling.{settle}

-- what the process asks now
abbrev pub request_of : Meaning → Moment → ℕ → Request
request_of q m p = q.next p (answers_of m p)

-- the lock groups of an UPDATE block, a bit for each
abbrev pub block_groups : Request → ℕ
block_groups (request.Update groups) = groups
block_groups asked = 0

-- the bit of the cell's lock group
abbrev pub cell_group : Option Cell → ℕ
cell_group None = 0
cell_group (Some cell) = 2 ^ cell.group

-- the lock groups that a request touches: those of an UPDATE block, or that of the shared cell that is read or written
abbrev pub touched_groups : Tables → Request → ℕ
touched_groups tables (request.Read (spot.Cell cell)) = cell_group (slice_get tables.cells cell)
touched_groups tables (request.Write cell v) = cell_group (slice_get tables.cells cell)
touched_groups tables (request.Update groups) = groups
touched_groups tables asked = 0

-- process o is another than p, and is inside an UPDATE block that has one of these lock groups
pub record IsHolder (q : Meaning) (m : Moment) (p groups o : ℕ) : Type 0 where
  pub other : o ≢ p
  pub inside : (row_of m o).inside ≡ true
  pub shares : bit_and (block_groups (request_of q m o)) groups ≢ 0

-- no other process that is inside an UPDATE block has one of the lock groups that p's request touches
abbrev pub IsFree : Meaning → Moment → ℕ → Type 0
IsFree q m p = (o : ℕ) → IsHolder q m p (touched_groups q.tables (request_of q m p)) o → ⊥

-- the request is answered by an event Act: it isn't Update. Look and Close are asked inside an UPDATE block alone, and never here
abbrev pub IsActed : Request → Type 0
IsActed (request.Update groups) = ⊥
IsActed (request.Look cell) = ⊥
IsActed (request.Close turns) = ⊥
IsActed asked = Unit {0}

-- p's request may be answered
pub record CanAct (q : Meaning) (lanes : ℕ) (m : Moment) (p : ℕ) : Type 0 where
  pub early : IsInFirst lanes m.rows p
  pub outside : (row_of m p).inside ≡ false
  pub asks : IsActed (request_of q m p)
  pub free : IsFree q m p

-- p's UPDATE block may begin
pub record CanOpen (q : Meaning) (lanes : ℕ) (m : Moment) (p : ℕ) : Type 0 where
  pub early : IsInFirst lanes m.rows p
  pub outside : (row_of m p).inside ≡ false
  pub asks : IsUpdate (request_of q m p)
  pub free : IsFree q m p

-- the writes of p's UPDATE block over the store as it is, where it ends after so many turns
abbrev pub block_of : Meaning → Moment → ℕ → ℕ → Option (List (ℕ × Value))
block_of q m p turns = q.block p (answers_of m p) m.store turns

-- p's UPDATE block may be done, after so many turns
pub record CanBlock (q : Meaning) (lanes : ℕ) (m : Moment) (p turns : ℕ) : Type 0 where
  pub early : IsInFirst lanes m.rows p
  pub inside : (row_of m p).inside ≡ true
  pub ends : IsSome (block_of q m p turns)

-- the event may come
abbrev pub IsAllowed : Meaning → ℕ → Moment → Event → Type 0
IsAllowed q lanes m (event.Act p) = CanAct q lanes m p
IsAllowed q lanes m (event.Open p) = CanOpen q lanes m p
IsAllowed q lanes m (event.Block p turns) = CanBlock q lanes m p turns
IsAllowed q lanes m (event.Tick time) = Unit {0}
IsAllowed q lanes m (event.Preempt p) = HasProcess q.tables p

-- the writes are made in the store, in their order
abbrev pub written : List Value → List (ℕ × Value) → List Value
written store [] = store
written store (write ∷ writes) = written (slice_set store write.0 write.1) writes

-- the row leaves its UPDATE block; where it is doomed it is then answered Killed, and ends terminated
abbrev pub block_left : ℕ → Row → Moment → Moment
block_left p row m =
    if row.doomed then answered p Killed (with_row p (record row { inside = false; status = status.Ending Terminated }) m)
    else with_row p (record row { inside = false }) m

-- the block's writes are made, and p is answered Block with the store before
abbrev pub block_done : ℕ → ℕ → Option (List (ℕ × Value)) → Moment → Moment
block_done p turns None m = m
block_done p turns (Some writes) m = block_left p (row_of m p) (answered p (Block m.store turns) (record m { store = written m.store writes }))

-- a Ready row gets the next stamp
abbrev pub preempted : ℕ → Row → Moment → Moment
preempted p row m = if is_ready row then made_ready p row m else m

-- what the event does, before the rows settle
abbrev pub event_done : Meaning → Moment → Event → Moment
event_done q m (event.Act p) = effect q.tables p (row_of m p) (request_of q m p) m
event_done q m (event.Open p) = with_row p (record (row_of m p) { inside = true }) m
event_done q m (event.Block p turns) = block_done p turns (block_of q m p turns) m
event_done q m (event.Tick time) = ticked time m
event_done q m (event.Preempt p) = preempted p (row_of m p) m

-- the moment after the event
abbrev pub stepped : Meaning → Moment → Event → Moment
stepped q m happens = settle q.tables (event_done q m happens)

-- the event is a step from the old moment to the new one
pub record IsStep (q : Meaning) (lanes : ℕ) (old : Moment) (happens : Event) (new : Moment) : Type 0 where
  pub allowed : IsAllowed q lanes old happens
  pub done : new ≡ stepped q old happens

-- the events are steps, one after another
abbrev pub Steps : Meaning → ℕ → Moment → List Event → Moment → Type 0
Steps q lanes old [] new = new ≡ old
Steps q lanes old (happens ∷ events) new = (middle : Moment) × IsStep q lanes old happens middle × Steps q lanes middle events new
