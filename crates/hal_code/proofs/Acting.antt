-- Each instruction asks in order, and so does what is done with an answer.
use Rattle.std.specs.Prelude.{ℕ, suc, ◌+◌, ◌<◌, ◌≡◌, nat_lt, length, take, List, [], ◌∷◌, Bool, true, false, Option, Some, None, ℤ, pos, ◌+ℤ◌, ◌*ℤ◌, slice_get, Result, Ok, Err, if◌then◌else◌}
use Rattle.std.proofs.Common.{refl}
use Rattle.std.proofs.lemmas.Bool.{ltb-true}
use Rattle.std.proofs.lemmas.Option.{slice_get_within}
use Rattle.std.proofs.lemmas.List.Elements.{All-nil}
use Rattle.hal_base.specs.declared.limits.TheConstants.{LINE_LIMIT}
use Rattle.hal_values.specs.declared.environment.ErrNo.{ErrNo}
use Rattle.hal_values.specs.declared.plan.Guard.{Guard}
use Rattle.hal_values.specs.declared.plan.Guard.TheVariants as guard
use Rattle.hal_values.specs.declared.plan.Pause.{Pause}
use Rattle.hal_values.specs.declared.plan.Pause.TheVariants as pause
use Rattle.hal_values.specs.declared.plan.When.{When}
use Rattle.hal_values.specs.declared.plan.When.TheVariants as when
use Rattle.hal_values.specs.declared.request.Request.{Request}
use Rattle.hal_values.specs.declared.request.Request.TheVariants as request
use Rattle.hal_values.specs.declared.request.Spot.TheVariants as asked
use Rattle.hal_values.specs.declared.tables.Cell.{Cell}
use Rattle.hal_values.specs.declared.tables.Tables.{Tables}
use Rattle.hal_values.specs.declared.value.Kind.{Kind}
use Rattle.hal_values.specs.declared.value.Kind.TheVariants as kind
use Rattle.hal_values.specs.declared.value.Value.{Value}
use Rattle.hal_values.specs.declared.value.Value.TheVariants as value
use Rattle.hal_values.specs.Answers.{Answered, error}
use Rattle.hal_values.specs.Answers as answered
use Rattle.hal_values.specs.Loads.{IsWritten}
use Rattle.hal_values.specs.Requests.{IsInOrder, IsTime, IsPlanInOrder, IsWhenInOrder, IsGuardInOrder, IsPauseInOrder, HasProcess, HasExpression}
use Rattle.hal_values.specs.Tables.{process_count, event_count}
use Rattle.hal_operations.specs.declared.operation.Op1.{Op1}
use Rattle.hal_operations.specs.declared.operation.Op2.{Op2}
use Rattle.hal_operations.specs.declared.part.Part.{Part}
use Rattle.hal_operations.specs.Values.{value_of_one, value_of_two}
use Rattle.hal_operations.specs.Mended.{mended_of_one, mended_of_two}
use Rattle.hal_operations.specs.Parts.{picked, mended_pick, patched, mended_patch}
use Rattle.hal_operations.specs.Stores.{stored, mended_store}
use Rattle.hal_states.specs.Spots.{Spot, Shared, Own, Nowhere, Kept, further}
use Rattle.hal_states.specs.OfKinds.{told}
use Rattle.hal_states.specs.Modes.{closed}
use Rattle.hal_states.specs.Numbers.{integer_of, holds, is_past}
use Rattle.hal_states.specs.Times.{nearest_priority, is_priority, Again, Every, After, cycle_of, plan_of}
use Rattle.hal_states.proofs.Timing.{limited_is, IsAgain, cycle_is}
use Rattle.hal_code.specs.declared.choice.Choice.{Choice}
use Rattle.hal_code.specs.declared.choice.Choice.TheVariants as choice
use Rattle.hal_code.specs.declared.instr.Instr.{Instr}
use Rattle.hal_code.specs.declared.instr.Instr.TheVariants as instr
use Rattle.hal_code.specs.declared.operand.Delay.{Delay}
use Rattle.hal_code.specs.declared.operand.Delay.TheVariants as delay
use Rattle.hal_code.specs.declared.operand.EventChange.{EventChange}
use Rattle.hal_code.specs.declared.operand.Limit.{Limit}
use Rattle.hal_code.specs.declared.operand.Limit.TheVariants as limit
use Rattle.hal_code.specs.declared.operand.Places.{Places}
use Rattle.hal_code.specs.declared.operand.Response.{Response}
use Rattle.hal_code.specs.declared.operand.Round.{Round}
use Rattle.hal_code.specs.declared.operand.Round.TheVariants as round
use Rattle.hal_code.specs.declared.operand.Start.{Start}
use Rattle.hal_code.specs.declared.operand.Start.TheVariants as start
use Rattle.hal_code.specs.declared.operand.Time.{Time}
use Rattle.hal_code.specs.declared.operand.Time.TheVariants as time
use Rattle.hal_code.specs.declared.row.Block.{Block}
use Rattle.hal_code.specs.declared.row.View.{View}
use Rattle.hal_code.specs.Images.{kinds_of}
use Rattle.hal_code.specs.Cores.{Operand, Val, At, Area, Setting, Core, core, Frame, Return, going, with_line, Goes, Puts, Asks, Tries, Plans, Wait, Then, Pushes, Tried, Takes, Copies, Opens, Renews, Halts, Step, Moves}
use Rattle.hal_code.specs.Raising.{stuck, made_if, raised}
use Rattle.hal_code.specs.Addressing.{popped, all_inside, cells_before, spot_of, operand_of, addressed, viewed, is_of_cell, cell_viewed, area_viewed, pushed, fetched_cell, fetched, stored_at, placed, copied_cell, copied, act_fetch, act_peek, act_keep, act_bind, act_copy}
use Rattle.hal_code.specs.Computing.{tested, act_dup, act_drop, act_one, act_two, counted_places, part_taken, part_picked, act_pick, replaced, part_patched, act_patch, counted_on, act_next}
use Rattle.hal_code.specs.Controlling.{act_jump_not, act_turn, zero_of, with_result, called, returned, act_return, act_on}
use Rattle.hal_code.specs.Asking.{Taken, taken_as, expression_taken, time_taken, start_taken, priority_taken, round_taken, limit_taken, delay_taken, scheduled, with_start, with_priority, with_round, with_limit, act_schedule, named, prioritized, act_priority, waited, act_event_change, act_event, act_item, act_print, act_close}
use Rattle.hal_code.specs.Machine.{act, stepped, begun, tried_by, taken_by, given, after_answer}
use Rattle.hal_code.proofs.Orderly.{Writes, Landing, IsWait, Sound, moves, waits, sticks, either, found, IsChange, signals, sets, resets, Sound-changed, Sound-turned, Sound-raised, Sound-put, Sound-planned, Sound-rested, Sound-raised_before}

-- what is taken from the stack is of this
abbrev IsTaken : {A : Type 0} → (A → Type 0) → Taken A → Type 0
IsTaken Is None = Unit {0}
IsTaken Is (Some got) = Is got.0

taken_as_is : {A B : Type 0} (Is : A → Type 0) (IsMade : B → Type 0) (f : A → B) (taken : Taken A) → ((a : A) → Is a → IsMade (f a)) → IsTaken Is taken → IsTaken IsMade (taken_as f taken)
taken_as_is Is IsMade f None each is = tt
taken_as_is Is IsMade f (Some got) each is = each got.0 is

time_is : (t : Time) (stack : List Operand) → IsTaken IsTime (time_taken t stack)
time_is time.Absent stack = tt
time_is (time.Milliseconds n) stack = limited_is (pos n)
time_is time.Seconds [] = tt
time_is time.Seconds (Val v ∷ stack) = limited_is (integer_of v *ℤ pos 1000)
time_is time.Seconds (At at k ∷ stack) = tt
time_is time.Seconds (Area at shape ∷ stack) = tt

there : {A : Type 0} (tables : Tables) (Is : A → Type 0) (of : ℕ → A) (x : ℕ) (stack : List Operand) (b : Bool) → nat_lt x (length tables.expressions) ≡ b → (HasExpression tables x → Is (of x))
    → IsTaken Is (if b then Some (of x, stack) else None)
there tables Is of x stack true has each = each (ltb-true x (length tables.expressions) has)
there tables Is of x stack false has each = tt

expression_is : {A : Type 0} (tables : Tables) (Is : A → Type 0) (of : ℕ → A) (x : ℕ) (stack : List Operand) → (HasExpression tables x → Is (of x)) → IsTaken Is (expression_taken tables of x stack)
expression_is tables Is of x stack each = there tables Is of x stack (nat_lt x (length tables.expressions)) refl each

start_is : (tables : Tables) (one : Start) (stack : List Operand) → IsTaken (IsWhenInOrder tables) (start_taken tables one stack)
start_is tables start.Now stack = tt
start_is tables (start.At t) stack = taken_as_is IsTime (IsWhenInOrder tables) when.At (time_taken t stack) (λ a is. is) (time_is t stack)
start_is tables (start.In t) stack = taken_as_is IsTime (IsWhenInOrder tables) when.After (time_taken t stack) (λ a is. is) (time_is t stack)
start_is tables (start.On x) stack = expression_is tables (IsWhenInOrder tables) when.On x stack (λ has. has)

round_is : (one : Round) (stack : List Operand) → IsTaken IsAgain (round_taken one stack)
round_is round.Once stack = tt
round_is round.Repeat stack = tt
round_is (round.Every t) stack = taken_as_is IsTime IsAgain Every (time_taken t stack) (λ a is. is) (time_is t stack)
round_is (round.After t) stack = taken_as_is IsTime IsAgain After (time_taken t stack) (λ a is. is) (time_is t stack)

limit_is : (tables : Tables) (one : Limit) (stack : List Operand) → IsTaken (IsGuardInOrder tables) (limit_taken tables one stack)
limit_is tables limit.Free stack = tt
limit_is tables (limit.While x) stack = expression_is tables (IsGuardInOrder tables) guard.While x stack (λ has. has)
limit_is tables (limit.Until x) stack = expression_is tables (IsGuardInOrder tables) guard.Until x stack (λ has. has)
limit_is tables (limit.UntilTime t) stack = taken_as_is IsTime (IsGuardInOrder tables) guard.UntilTime (time_taken t stack) (λ a is. is) (time_is t stack)

delay_is : (tables : Tables) (one : Delay) (stack : List Operand) → IsTaken (IsPauseInOrder tables) (delay_taken tables one stack)
delay_is tables (delay.For t) stack = taken_as_is IsTime (IsPauseInOrder tables) pause.For (time_taken t stack) (λ a is. is) (time_is t stack)
delay_is tables (delay.Until t) stack = taken_as_is IsTime (IsPauseInOrder tables) pause.Till (time_taken t stack) (λ a is. is) (time_is t stack)
delay_is tables (delay.Event x) stack = expression_is tables (IsPauseInOrder tables) pause.Event x stack (λ has. has)
delay_is tables delay.Dependents stack = tt

-- where control may go on behind an instruction: at the next one, at its target, at either, behind the call that entered the block, or at the next one with a frame less
pub data Way : Type 0 where
  Onward : Way
  Jumps Either Spends : (target : ℕ) → Way
  Back Out : Way

abbrev pub way_of : Instr → Way
way_of (instr.Jump target) = Jumps target
way_of (instr.JumpNot target) = Either target
way_of (instr.Turn target) = Spends target
way_of instr.Return = Back
way_of instr.Close = Out
way_of other = Onward

-- something is said of the place to which a call goes back
abbrev pub Returns : Landing → List Frame → Type 0
Returns P [] = Unit {0}
Returns P (f ∷ fs) = (back : Return) → f.back ≡ Some back → P back.at fs

-- and of the next instruction once an UPDATE block is closed
abbrev pub Closes : Landing → ℕ → List Frame → Type 0
Closes P at [] = Unit {0}
Closes P at (f ∷ fs) = P at fs

-- it is said of each place where control may go on
abbrev pub Lands : Landing → Core → Way → Type 0
Lands P c Onward = P (suc c.at) c.frames
Lands P c (Jumps target) = P target c.frames
Lands P c (Either target) = P (suc c.at) c.frames × P target c.frames
Lands P c (Spends target) = P target c.frames
Lands P c Back = Returns P c.frames
Lands P c Out = Closes P (suc c.at) c.frames

module _ (P : Landing) (s : Setting) (own : s.process < process_count s.tables) where
  Sound-pushed : (v : Value) (stack : List Operand) (c : Core) → Writes s.tables c.mode → P (suc c.at) c.frames → Sound s.tables P (pushed v stack c)
  Sound-pushed v stack c writes lands = moves P s.tables _ writes lands

  Sound-addressed : (view : View) (is : List ℤ) (c : Core) → Writes s.tables c.mode → P c.at c.frames → Sound s.tables P (addressed s view is c)
  Sound-addressed view is c writes lands = either P s.tables (all_inside view.dimensions is) (Moves c) (raised s (error 1 3) c) (λ e. moves P s.tables c writes lands) (λ e. Sound-raised P s (error 1 3) c writes lands)

  Sound-viewed : (view : View) (c : Core) → Writes s.tables c.mode → P (suc c.at) c.frames → Sound s.tables P (viewed s view c)
  Sound-viewed view c writes lands =
      found P {A = List ℤ × List Operand} s.tables (popped (length view.dimensions) c.stack) (stuck c)
      (λ got. addressed s view got.0 (going (suc c.at) (operand_of view.target (further (cells_before view.dimensions got.0) (spot_of view.base c.kept.places)) ∷ got.1) c)) (sticks P s.tables c writes)
      (λ got e. Sound-addressed view got.0 _ writes lands)

  Sound-cell_viewed : (view : View) (c : Core) → Writes s.tables c.mode → P (suc c.at) c.frames → Sound s.tables P (cell_viewed s view c)
  Sound-cell_viewed view c writes lands = either P s.tables (is_of_cell view) (viewed s view c) (stuck c) (λ e. Sound-viewed view c writes lands) (λ e. sticks P s.tables c writes)

  Sound-area_viewed : (view : View) (c : Core) → Writes s.tables c.mode → P (suc c.at) c.frames → Sound s.tables P (area_viewed s view c)
  Sound-area_viewed view c writes lands = either P s.tables (is_of_cell view) (stuck c) (viewed s view c) (λ e. sticks P s.tables c writes) (λ e. Sound-viewed view c writes lands)

  Sound-fetched_cell : (number : ℕ) (cell : Cell) (groups : Option ℕ) (stack : List Operand) (c : Core) → slice_get s.tables.cells number ≡ Some cell → Writes s.tables c.mode → P (suc c.at) c.frames → Sound s.tables P (fetched_cell number cell groups stack c)
  Sound-fetched_cell number cell None stack c has writes lands =
      waits P s.tables (request.Read (asked.Cell number)) (Pushes cell.kind) (going (suc c.at) stack c) (slice_get_within s.tables.cells number cell has) tt (λ is. cc) writes
  Sound-fetched_cell number cell (Some groups) stack c has writes lands = moves P s.tables _ writes lands

  Sound-fetched : (k : Kind) (at : Spot) (stack : List Operand) (c : Core) → Writes s.tables c.mode → P (suc c.at) c.frames → Sound s.tables P (fetched s k at stack c)
  Sound-fetched k (Shared number) stack c writes lands =
      found P {A = Cell} s.tables (slice_get s.tables.cells number) (pushed (value.Int (pos 0)) stack c) (λ cell. fetched_cell number cell c.mode.groups stack c) (moves P s.tables _ writes lands)
      (λ cell has. Sound-fetched_cell number cell c.mode.groups stack c has writes lands)
  Sound-fetched k (Own number) stack c writes lands = moves P s.tables _ writes lands
  Sound-fetched k Nowhere stack c writes lands = moves P s.tables _ writes lands

  Sound-stored : (k : Kind) (v : Value) (at : Spot) (r : Result Value ErrNo) (c : Core) → Writes s.tables c.mode → P c.at c.frames → Sound s.tables P (stored_at s k v at r c)
  Sound-stored k v at (Ok fitting) c writes lands = Sound-put P s at fitting c writes lands
  Sound-stored k v at (Err e) c writes lands = Sound-raised_before P s e (Puts at (mended_store k v)) c tt writes lands

  Sound-copied_cell : (number : ℕ) (cell : Cell) (groups : Option ℕ) (ks : List Kind) (place : ℕ) (next : Value → Step) (c : Core) → slice_get s.tables.cells number ≡ Some cell → ((v : Value) → Sound s.tables P (next v))
      → Writes s.tables c.mode → Sound s.tables P (copied_cell number cell groups ks place next c)
  Sound-copied_cell number cell None ks place next c has each writes =
      waits P s.tables (request.Read (asked.Cell number)) (Copies cell.kind ks (Shared (number + 1)) place) c (slice_get_within s.tables.cells number cell has) tt (λ is. cc) writes
  Sound-copied_cell number cell (Some groups) ks place next c has each writes = each _

  Sound-copied : (ks : List Kind) (from : Spot) (place : ℕ) (c : Core) → Writes s.tables c.mode → P c.at c.frames → Sound s.tables P (copied s ks from place c)
  Sound-copied [] from place c writes lands = moves P s.tables c writes lands
  Sound-copied (k ∷ ks) (Shared number) place c writes lands =
      found P {A = Cell} s.tables (slice_get s.tables.cells number) (copied s ks (Shared (number + 1)) (suc place) (placed place (value.Int (pos 0)) c))
      (λ cell. copied_cell number cell c.mode.groups ks place (λ v. copied s ks (Shared (number + 1)) (suc place) (placed place v c)) c)
      (Sound-copied ks (Shared (number + 1)) (suc place) _ writes lands)
      (λ cell has. Sound-copied_cell number cell c.mode.groups ks place _ c has (λ v. Sound-copied ks (Shared (number + 1)) (suc place) (placed place v c) writes lands) writes)
  Sound-copied (k ∷ ks) (Own number) place c writes lands = Sound-copied ks (Own (number + 1)) (suc place) _ writes lands
  Sound-copied (k ∷ ks) Nowhere place c writes lands = Sound-copied ks Nowhere (suc place) _ writes lands

  Sound-fetch : (stack : List Operand) (c : Core) → Writes s.tables c.mode → P (suc c.at) c.frames → Sound s.tables P (act_fetch s stack c)
  Sound-fetch [] c writes lands = sticks P s.tables c writes
  Sound-fetch (Val v ∷ stack) c writes lands = sticks P s.tables c writes
  Sound-fetch (At at k ∷ stack) c writes lands = Sound-fetched k at stack c writes lands
  Sound-fetch (Area at shape ∷ stack) c writes lands = sticks P s.tables c writes

  Sound-peek : (stack : List Operand) (c : Core) → Writes s.tables c.mode → P (suc c.at) c.frames → Sound s.tables P (act_peek s stack c)
  Sound-peek [] c writes lands = sticks P s.tables c writes
  Sound-peek (Val v ∷ stack) c writes lands = sticks P s.tables c writes
  Sound-peek (At at k ∷ stack) c writes lands = Sound-fetched k at (At at k ∷ stack) c writes lands
  Sound-peek (Area at shape ∷ stack) c writes lands = sticks P s.tables c writes

  Sound-keep : (stack : List Operand) (c : Core) → Writes s.tables c.mode → P (suc c.at) c.frames → Sound s.tables P (act_keep s stack c)
  Sound-keep [] c writes lands = sticks P s.tables c writes
  Sound-keep (Val v ∷ stack) c writes lands = sticks P s.tables c writes
  Sound-keep (At at k ∷ []) c writes lands = sticks P s.tables c writes
  Sound-keep (At at k ∷ Val v ∷ stack) c writes lands = Sound-stored k v at (stored k v) _ writes lands
  Sound-keep (At at k ∷ At other l ∷ stack) c writes lands = sticks P s.tables c writes
  Sound-keep (At at k ∷ Area other shape ∷ stack) c writes lands = sticks P s.tables c writes
  Sound-keep (Area at shape ∷ stack) c writes lands = sticks P s.tables c writes

  Sound-bind : (place : ℕ) (stack : List Operand) (c : Core) → Writes s.tables c.mode → P (suc c.at) c.frames → Sound s.tables P (act_bind place stack c)
  Sound-bind place [] c writes lands = sticks P s.tables c writes
  Sound-bind place (Val v ∷ stack) c writes lands = sticks P s.tables c writes
  Sound-bind place (At at k ∷ stack) c writes lands = sticks P s.tables c writes
  Sound-bind place (Area at shape ∷ stack) c writes lands = moves P s.tables _ writes lands

  Sound-copy : (place : ℕ) (stack : List Operand) (c : Core) → Writes s.tables c.mode → P (suc c.at) c.frames → Sound s.tables P (act_copy s place stack c)
  Sound-copy place [] c writes lands = sticks P s.tables c writes
  Sound-copy place (Val v ∷ stack) c writes lands = sticks P s.tables c writes
  Sound-copy place (At at k ∷ stack) c writes lands = sticks P s.tables c writes
  Sound-copy place (Area at shape ∷ stack) c writes lands = Sound-copied (kinds_of s.image shape) at place _ writes lands

  Sound-tested : (r : Result Value ErrNo) (mended : Value) (stack : List Operand) (c : Core) → Writes s.tables c.mode → P (suc c.at) c.frames → Sound s.tables P (tested s r mended stack c)
  Sound-tested (Ok v) mended stack c writes lands = moves P s.tables _ writes lands
  Sound-tested (Err e) mended stack c writes lands = Sound-raised P s e (going (suc c.at) (Val mended ∷ stack) c) writes lands

  Sound-dup : (stack : List Operand) (c : Core) → Writes s.tables c.mode → P (suc c.at) c.frames → Sound s.tables P (act_dup stack c)
  Sound-dup [] c writes lands = sticks P s.tables c writes
  Sound-dup (Val v ∷ stack) c writes lands = moves P s.tables _ writes lands
  Sound-dup (At at k ∷ stack) c writes lands = sticks P s.tables c writes
  Sound-dup (Area at shape ∷ stack) c writes lands = sticks P s.tables c writes

  Sound-drop : (stack : List Operand) (c : Core) → Writes s.tables c.mode → P (suc c.at) c.frames → Sound s.tables P (act_drop stack c)
  Sound-drop [] c writes lands = sticks P s.tables c writes
  Sound-drop (Val v ∷ stack) c writes lands = moves P s.tables _ writes lands
  Sound-drop (At at k ∷ stack) c writes lands = sticks P s.tables c writes
  Sound-drop (Area at shape ∷ stack) c writes lands = sticks P s.tables c writes

  Sound-one : (op : Choice Op1) (stack : List Operand) (c : Core) → Writes s.tables c.mode → P (suc c.at) c.frames → Sound s.tables P (act_one s op stack c)
  Sound-one (choice.Known op) [] c writes lands = sticks P s.tables c writes
  Sound-one (choice.Known op) (Val v ∷ stack) c writes lands = Sound-tested (value_of_one op v) (mended_of_one op v) stack c writes lands
  Sound-one (choice.Known op) (At at k ∷ stack) c writes lands = sticks P s.tables c writes
  Sound-one (choice.Known op) (Area at shape ∷ stack) c writes lands = sticks P s.tables c writes
  Sound-one (choice.Other byte) stack c writes lands = sticks P s.tables c writes

  Sound-two : (op : Choice Op2) (stack : List Operand) (c : Core) → Writes s.tables c.mode → P (suc c.at) c.frames → Sound s.tables P (act_two s op stack c)
  Sound-two (choice.Known op) [] c writes lands = sticks P s.tables c writes
  Sound-two (choice.Known op) (Val w ∷ []) c writes lands = sticks P s.tables c writes
  Sound-two (choice.Known op) (Val w ∷ Val v ∷ stack) c writes lands = Sound-tested (value_of_two op v w) (mended_of_two op v w) stack c writes lands
  Sound-two (choice.Known op) (Val w ∷ At at k ∷ stack) c writes lands = sticks P s.tables c writes
  Sound-two (choice.Known op) (Val w ∷ Area at shape ∷ stack) c writes lands = sticks P s.tables c writes
  Sound-two (choice.Known op) (At at k ∷ stack) c writes lands = sticks P s.tables c writes
  Sound-two (choice.Known op) (Area at shape ∷ stack) c writes lands = sticks P s.tables c writes
  Sound-two (choice.Other byte) stack c writes lands = sticks P s.tables c writes

  Sound-counted : (one : Option Operand) (c : Core) → Writes s.tables c.mode → P (suc c.at) c.frames → Sound s.tables P (counted_places one c)
  Sound-counted None c writes lands = sticks P s.tables c writes
  Sound-counted (Some (Val v)) c writes lands = moves P s.tables _ writes lands
  Sound-counted (Some (At at k)) c writes lands = sticks P s.tables c writes
  Sound-counted (Some (Area at shape)) c writes lands = sticks P s.tables c writes

  Sound-picked : (p : Part) (stack : List Operand) (c : Core) → Writes s.tables c.mode → P (suc c.at) c.frames → Sound s.tables P (part_picked s p stack c)
  Sound-picked p [] c writes lands = sticks P s.tables c writes
  Sound-picked p (Val v ∷ stack) c writes lands = Sound-tested (picked v p) (mended_pick v p) stack c writes lands
  Sound-picked p (At at k ∷ stack) c writes lands = sticks P s.tables c writes
  Sound-picked p (Area at shape ∷ stack) c writes lands = sticks P s.tables c writes

  Sound-pick : (chosen : Choice Places) (c : Core) → Writes s.tables c.mode → P (suc c.at) c.frames → Sound s.tables P (act_pick s chosen c)
  Sound-pick (choice.Known chosen) c writes lands =
      found P {A = Part × List Operand} s.tables (part_taken chosen c.stack) (stuck c) (λ got. part_picked s got.0 got.1 c) (sticks P s.tables c writes) (λ got e. Sound-picked got.0 got.1 c writes lands)
  Sound-pick (choice.Other byte) c writes lands = sticks P s.tables c writes

  Sound-replaced : (r : Result Value ErrNo) (mended : Value) (address : Operand) (stack : List Operand) (c : Core) → Writes s.tables c.mode → P (suc c.at) c.frames → Sound s.tables P (replaced s r mended address stack c)
  Sound-replaced (Ok v) mended address stack c writes lands = moves P s.tables _ writes lands
  Sound-replaced (Err e) mended address stack c writes lands = Sound-raised P s e (going (suc c.at) (address ∷ Val mended ∷ stack) c) writes lands

  Sound-patched : (p : Part) (stack : List Operand) (c : Core) → Writes s.tables c.mode → P (suc c.at) c.frames → Sound s.tables P (part_patched s p stack c)
  Sound-patched p [] c writes lands = sticks P s.tables c writes
  Sound-patched p (Val old ∷ []) c writes lands = sticks P s.tables c writes
  Sound-patched p (Val old ∷ Val v ∷ stack) c writes lands = sticks P s.tables c writes
  Sound-patched p (Val old ∷ At at k ∷ []) c writes lands = sticks P s.tables c writes
  Sound-patched p (Val old ∷ At at k ∷ Val new ∷ stack) c writes lands = Sound-replaced (patched old p new) (mended_patch old p new) (At at k) stack c writes lands
  Sound-patched p (Val old ∷ At at k ∷ At other l ∷ stack) c writes lands = sticks P s.tables c writes
  Sound-patched p (Val old ∷ At at k ∷ Area other shape ∷ stack) c writes lands = sticks P s.tables c writes
  Sound-patched p (Val old ∷ Area at shape ∷ stack) c writes lands = sticks P s.tables c writes
  Sound-patched p (At at k ∷ stack) c writes lands = sticks P s.tables c writes
  Sound-patched p (Area at shape ∷ stack) c writes lands = sticks P s.tables c writes

  Sound-patch : (chosen : Choice Places) (c : Core) → Writes s.tables c.mode → P (suc c.at) c.frames → Sound s.tables P (act_patch s chosen c)
  Sound-patch (choice.Known chosen) c writes lands =
      found P {A = Part × List Operand} s.tables (part_taken chosen c.stack) (stuck c) (λ got. part_patched s got.0 got.1 c) (sticks P s.tables c writes) (λ got e. Sound-patched got.0 got.1 c writes lands)
  Sound-patch (choice.Other byte) c writes lands = sticks P s.tables c writes

  Sound-counted_on : (b : Bool) (before next : ℤ) (stack : List Operand) (c : Core) → Writes s.tables c.mode → P (suc c.at) c.frames → Sound s.tables P (counted_on b before next stack c)
  Sound-counted_on true before next stack c writes lands = moves P s.tables _ writes lands
  Sound-counted_on false before next stack c writes lands = moves P s.tables _ writes lands

  Sound-next : (stack : List Operand) (c : Core) → Writes s.tables c.mode → P (suc c.at) c.frames → Sound s.tables P (act_next stack c)
  Sound-next (Val last ∷ Val step ∷ Val before ∷ stack) c writes lands =
      Sound-counted_on (is_past (integer_of step) (integer_of last) (integer_of before +ℤ integer_of step)) (integer_of before) (integer_of before +ℤ integer_of step) stack c writes lands
  Sound-next (Val last ∷ Val step ∷ At at k ∷ stack) c writes lands = sticks P s.tables c writes
  Sound-next (Val last ∷ Val step ∷ Area at shape ∷ stack) c writes lands = sticks P s.tables c writes
  Sound-next (Val last ∷ Val step ∷ []) c writes lands = sticks P s.tables c writes
  Sound-next (Val last ∷ At at k ∷ stack) c writes lands = sticks P s.tables c writes
  Sound-next (Val last ∷ Area at shape ∷ stack) c writes lands = sticks P s.tables c writes
  Sound-next (Val last ∷ []) c writes lands = sticks P s.tables c writes
  Sound-next (At at k ∷ stack) c writes lands = sticks P s.tables c writes
  Sound-next (Area at shape ∷ stack) c writes lands = sticks P s.tables c writes
  Sound-next [] c writes lands = sticks P s.tables c writes

  Sound-jump_not : (target : ℕ) (stack : List Operand) (c : Core) → Writes s.tables c.mode → P (suc c.at) c.frames → P target c.frames → Sound s.tables P (act_jump_not target stack c)
  Sound-jump_not target [] c writes lands jumps = sticks P s.tables c writes
  Sound-jump_not target (Val v ∷ stack) c writes lands jumps = moves P s.tables _ writes (one_of (holds v))
    where
      one_of : (b : Bool) → P (if b then suc c.at else target) c.frames
      one_of true = lands
      one_of false = jumps
  Sound-jump_not target (At at k ∷ stack) c writes lands jumps = sticks P s.tables c writes
  Sound-jump_not target (Area at shape ∷ stack) c writes lands jumps = sticks P s.tables c writes

  Sound-turn : (target : ℕ) (c : Core) → Writes s.tables c.mode → P target c.frames → Sound s.tables P (act_turn s target c)
  Sound-turn target c writes lands = Sound-turned P s.tables _ _ (Sound-raised P s (error 1 8) (going target c.stack c) writes lands) writes

  Sound-called : (block : Block) (c : Core) → Writes s.tables c.mode → P (suc c.at) c.frames → Sound s.tables P (called s block c)
  Sound-called block c writes lands = Sound-turned P s.tables _ _ (Sound-raised P s (error 1 8) (going (suc c.at) (with_result (zero_of block.result) c.stack) c) writes lands) writes

  Sound-returned : (result : Option Value) (stack : List Operand) (back : Return) (f : Frame) (fs : List Frame) (c : Core) → Writes s.tables c.mode → P back.at fs → Sound s.tables P (returned result stack back f.entries fs c)
  Sound-returned None stack back f fs c writes lands = moves P s.tables _ writes lands
  Sound-returned (Some wanted) [] back f fs c writes lands = sticks P s.tables c writes
  Sound-returned (Some wanted) (Val v ∷ stack) back f fs c writes lands = moves P s.tables _ writes lands
  Sound-returned (Some wanted) (At at k ∷ stack) back f fs c writes lands = sticks P s.tables c writes
  Sound-returned (Some wanted) (Area at shape ∷ stack) back f fs c writes lands = sticks P s.tables c writes

  Sound-return : (frames : List Frame) (c : Core) → Writes s.tables c.mode → Returns P frames → Sound s.tables P (act_return frames c)
  Sound-return [] c writes lands = sticks P s.tables c writes
  Sound-return (f ∷ fs) c writes lands =
      found P {A = Return} s.tables f.back (stuck c) (λ back. returned back.result c.stack back f.entries fs c) (sticks P s.tables c writes) (λ back e. Sound-returned back.result c.stack back f fs c writes (lands back e))

  Sound-on : (group number : ℕ) (r : Choice Response) (e : Choice EventChange) (event target : ℕ) (c : Core) → Writes s.tables c.mode → P (suc c.at) c.frames → Sound s.tables P (act_on group number r e event target c)
  Sound-on group number (choice.Known r) (choice.Known e) event target c writes lands = moves P s.tables _ writes lands
  Sound-on group number (choice.Known r) (choice.Other byte) event target c writes lands = sticks P s.tables c writes
  Sound-on group number (choice.Other byte) e event target c writes lands = sticks P s.tables c writes

  Sound-scheduled : (p : ℕ) (starts : When) (n : ℤ) (dependent : Bool) (again : Again) (until : Guard) (c : Core) → HasProcess s.tables p → IsWhenInOrder s.tables starts → IsAgain again → IsGuardInOrder s.tables until
      → Writes s.tables c.mode → P c.at c.frames → Sound s.tables P (scheduled s p starts n dependent again until c)
  Sound-scheduled p starts n dependent again until c has starts_is again_is until_is writes lands =
      either P s.tables (is_priority n) _ _ (λ e. Sound-planned P s _ again c plan_is writes) (λ e. Sound-raised_before P s (error 2 4) (Plans (plan_of p starts (nearest_priority n) dependent (cycle_of again) until) again) c plan_is writes lands)
    where
      plan_is : IsPlanInOrder s.tables (plan_of p starts (nearest_priority n) dependent (cycle_of again) until)
      plan_is = record { process = has; starts = starts_is; cycle = cycle_is again again_is; guard = until_is }

  Sound-start : (p : ℕ) (n : ℤ) (dependent : Bool) (again : Again) (until : Guard) (taken : Taken When) (c : Core) → HasProcess s.tables p → IsTaken (IsWhenInOrder s.tables) taken → IsAgain again → IsGuardInOrder s.tables until
      → Writes s.tables c.mode → P (suc c.at) c.frames → Sound s.tables P (with_start s p n dependent again until taken c)
  Sound-start p n dependent again until None c has is again_is until_is writes lands = sticks P s.tables c writes
  Sound-start p n dependent again until (Some got) c has is again_is until_is writes lands = Sound-scheduled p got.0 n dependent again until _ has is again_is until_is writes lands

  Sound-priority_taken : (p : ℕ) (begins : Start) (dependent : Bool) (again : Again) (until : Guard) (taken : Taken ℤ) (c : Core) → HasProcess s.tables p → IsAgain again → IsGuardInOrder s.tables until
      → Writes s.tables c.mode → P (suc c.at) c.frames → Sound s.tables P (with_priority s p begins dependent again until taken c)
  Sound-priority_taken p begins dependent again until None c has again_is until_is writes lands = sticks P s.tables c writes
  Sound-priority_taken p begins dependent again until (Some got) c has again_is until_is writes lands =
      Sound-start p got.0 dependent again until (start_taken s.tables begins got.1) c has (start_is s.tables begins got.1) again_is until_is writes lands

  Sound-round : (p : ℕ) (begins : Start) (prio : Choice Bool) (dependent : Bool) (until : Guard) (taken : Taken Again) (c : Core) → HasProcess s.tables p → IsTaken IsAgain taken → IsGuardInOrder s.tables until
      → Writes s.tables c.mode → P (suc c.at) c.frames → Sound s.tables P (with_round s p begins prio dependent until taken c)
  Sound-round p begins prio dependent until None c has is until_is writes lands = sticks P s.tables c writes
  Sound-round p begins prio dependent until (Some got) c has is until_is writes lands = Sound-priority_taken p begins dependent got.0 until (priority_taken prio got.1) c has is until_is writes lands

  Sound-limit : (p : ℕ) (begins : Start) (prio dependent : Choice Bool) (again : Round) (taken : Taken Guard) (c : Core) → HasProcess s.tables p → IsTaken (IsGuardInOrder s.tables) taken
      → Writes s.tables c.mode → P (suc c.at) c.frames → Sound s.tables P (with_limit s p begins prio dependent again taken c)
  Sound-limit p begins prio (choice.Known dependent) again None c has is writes lands = sticks P s.tables c writes
  Sound-limit p begins prio (choice.Known dependent) again (Some got) c has is writes lands = Sound-round p begins prio dependent got.0 (round_taken again got.1) c has (round_is again got.1) is writes lands
  Sound-limit p begins prio (choice.Other byte) again taken c has is writes lands = sticks P s.tables c writes

  Sound-schedule : (p : ℕ) (begins : Start) (prio dependent : Choice Bool) (again : Round) (until : Limit) (c : Core) → Writes s.tables c.mode → P (suc c.at) c.frames → Sound s.tables P (act_schedule s p begins prio dependent again until c)
  Sound-schedule p begins prio dependent again until c writes lands =
      either P s.tables (nat_lt p (process_count s.tables)) _ _ (λ has. Sound-limit p begins prio dependent again (limit_taken s.tables until c.stack) c (ltb-true p (process_count s.tables) has) (limit_is s.tables until c.stack) writes lands)
      (λ has. sticks P s.tables c writes)

  Sound-made : (p : ℕ) (asks : ℕ → Request) (b : Bool) (c : Core) → nat_lt p (process_count s.tables) ≡ b → (HasProcess s.tables p → IsInOrder s.tables (asks p)) → ((asks p ≡ request.Finish) → ⊥) → Writes s.tables c.mode
      → Sound s.tables P (made_if b (asks p) Tried c)
  Sound-made p asks true c has order other writes = waits P s.tables (asks p) Tried c (order (ltb-true p (process_count s.tables) has)) tt other writes
  Sound-made p asks false c has order other writes = sticks P s.tables c writes

  Sound-prioritized : (p : ℕ) (n : ℤ) (c : Core) → HasProcess s.tables p → Writes s.tables c.mode → P c.at c.frames → Sound s.tables P (prioritized s p n c)
  Sound-prioritized p n c has writes lands =
      either P s.tables (is_priority n) _ _ (λ e. waits P s.tables (request.Priority p (nearest_priority n)) Tried c has tt (λ is. cc) writes)
      (λ e. Sound-raised_before P s (error 2 4) (Tries (request.Priority p (nearest_priority n))) c (has, λ is. cc) writes lands)

  Sound-priority : (p : ℕ) (stack : List Operand) (c : Core) → Writes s.tables c.mode → P (suc c.at) c.frames → Sound s.tables P (act_priority s p stack c)
  Sound-priority p [] c writes lands = sticks P s.tables c writes
  Sound-priority p (Val v ∷ stack) c writes lands =
      either P s.tables (nat_lt (named s p) (process_count s.tables)) _ _ (λ has. Sound-prioritized (named s p) (integer_of v) _ (ltb-true (named s p) (process_count s.tables) has) writes lands) (λ has. sticks P s.tables c writes)
  Sound-priority p (At at k ∷ stack) c writes lands = sticks P s.tables c writes
  Sound-priority p (Area at shape ∷ stack) c writes lands = sticks P s.tables c writes

  Sound-waited : (taken : Taken Pause) (c : Core) → IsTaken (IsPauseInOrder s.tables) taken → Writes s.tables c.mode → Sound s.tables P (waited taken c)
  Sound-waited None c is writes = sticks P s.tables c writes
  Sound-waited (Some got) c is writes = waits P s.tables (request.Wait got.0) (Then Goes) _ is tt (λ same. cc) writes

  Sound-event_change : (change : ℕ → Request) (e : ℕ) (c : Core) → IsChange s.tables change → Writes s.tables c.mode → P (suc c.at) c.frames → Sound s.tables P (act_event_change s change e c)
  Sound-event_change change e c changes writes lands = Sound-changed P s change e (Then Goes) _ _ changes tt (moves P s.tables _ writes lands) writes

  Sound-event : (e : ℕ) (c : Core) → Writes s.tables c.mode → P (suc c.at) c.frames → Sound s.tables P (act_event s e c)
  Sound-event e c writes lands =
      either P s.tables (nat_lt e (event_count s.tables)) _ _ (λ has. waits P s.tables (request.Read (asked.Event e)) (Pushes (kind.Bits 1)) _ (ltb-true e (event_count s.tables) has) tt (λ is. cc) writes) (λ has. moves P s.tables _ writes lands)

  Sound-item : (stack : List Operand) (c : Core) → Writes s.tables c.mode → P (suc c.at) c.frames → Sound s.tables P (act_item stack c)
  Sound-item [] c writes lands = sticks P s.tables c writes
  Sound-item (Val v ∷ stack) c writes lands = moves P s.tables _ writes lands
  Sound-item (At at k ∷ stack) c writes lands = sticks P s.tables c writes
  Sound-item (Area at shape ∷ stack) c writes lands = sticks P s.tables c writes

  Sound-print : (channel : ℕ) (c : Core) → Writes s.tables c.mode → P (suc c.at) c.frames → Sound s.tables P (act_print s channel c)
  Sound-print channel c writes lands =
      either P s.tables (nat_lt LINE_LIMIT (length c.line)) _ _ (λ long. Sound-raised_before P s (error 3 3) (Asks (request.Print channel (take LINE_LIMIT c.line))) (with_line [] (going (suc c.at) c.stack c)) (tt, λ is. cc) writes lands)
      (λ fits. waits P s.tables (request.Print channel c.line) (Then Goes) _ tt tt (λ is. cc) writes)

  Sound-close : (frames : List Frame) (c : Core) → Writes s.tables c.mode → Closes P (suc c.at) frames → Sound s.tables P (act_close frames c)
  Sound-close [] c writes lands = sticks P s.tables c writes
  Sound-close (f ∷ fs) c writes lands = shut f.back
    where
      shut : (back : Option Return) → Sound s.tables P (elim back [ None ↦ Moves (core (suc c.at) c.stack c.line f.entries fs c.kept (closed c.mode)) | Some one ↦ stuck c ])
      shut None = moves P s.tables _ writes lands
      shut (Some one) = sticks P s.tables c writes

  -- an instruction
  pub Sound-act : (i : Instr) (c : Core) → Writes s.tables c.mode → Lands P c (way_of i) → Sound s.tables P (act s i c)
  Sound-act (instr.Int n) c writes lands = moves P s.tables _ writes lands
  Sound-act (instr.Bits len word) c writes lands = moves P s.tables _ writes lands
  Sound-act (instr.Text text) c writes lands = moves P s.tables _ writes lands
  Sound-act (instr.Cell view) c writes lands = found P {A = View} s.tables (slice_get s.image.views view) (stuck c) (λ one. cell_viewed s one c) (sticks P s.tables c writes) (λ one e. Sound-cell_viewed one c writes lands)
  Sound-act (instr.Whole view) c writes lands = found P {A = View} s.tables (slice_get s.image.views view) (stuck c) (λ one. area_viewed s one c) (sticks P s.tables c writes) (λ one e. Sound-area_viewed one c writes lands)
  Sound-act instr.Fetch c writes lands = Sound-fetch c.stack c writes lands
  Sound-act instr.Peek c writes lands = Sound-peek c.stack c writes lands
  Sound-act instr.Keep c writes lands = Sound-keep c.stack c writes lands
  Sound-act instr.Dup c writes lands = Sound-dup c.stack c writes lands
  Sound-act instr.Drop c writes lands = Sound-drop c.stack c writes lands
  Sound-act (instr.Event e) c writes lands = Sound-event e c writes lands
  Sound-act (instr.Op1 op) c writes lands = Sound-one op c.stack c writes lands
  Sound-act (instr.Op2 op) c writes lands = Sound-two op c.stack c writes lands
  Sound-act (instr.Len depth) c writes lands = Sound-counted (slice_get c.stack depth) c writes lands
  Sound-act (instr.Pick chosen) c writes lands = Sound-pick chosen c writes lands
  Sound-act (instr.Patch chosen) c writes lands = Sound-patch chosen c writes lands
  Sound-act (instr.Jump target) c writes lands = moves P s.tables _ writes lands
  Sound-act (instr.JumpNot target) c writes lands = Sound-jump_not target c.stack c writes lands.0 lands.1
  Sound-act (instr.Turn target) c writes lands = Sound-turn target c writes lands
  Sound-act (instr.Call block) c writes lands = found P {A = Block} s.tables (slice_get s.image.blocks block) (stuck c) (λ one. called s one c) (sticks P s.tables c writes) (λ one e. Sound-called one c writes lands)
  Sound-act instr.Return c writes lands = Sound-return c.frames c writes lands
  Sound-act (instr.On group number r e event target) c writes lands = Sound-on group number r e event target c writes lands
  Sound-act (instr.Off group number) c writes lands = moves P s.tables _ writes lands
  Sound-act (instr.Raise group number) c writes lands = Sound-raised P s (error group number) (going (suc c.at) c.stack c) writes lands
  Sound-act instr.ErrGrp c writes lands = moves P s.tables _ writes lands
  Sound-act instr.ErrNum c writes lands = moves P s.tables _ writes lands
  Sound-act (instr.Bind place) c writes lands = Sound-bind place c.stack c writes lands
  Sound-act (instr.Copy place) c writes lands = Sound-copy place c.stack c writes lands
  Sound-act (instr.Clear place count) c writes lands = moves P s.tables _ writes lands
  Sound-act instr.Next c writes lands = Sound-next c.stack c writes lands
  Sound-act instr.Begin c writes lands = waits P s.tables request.Begin (Then Goes) _ tt tt (λ is. cc) writes
  Sound-act instr.Finish c writes lands = record { is = record { order = tt; wait = tt; renews = λ is. refl; writes = writes } }
  Sound-act (instr.Schedule process begins prio dependent again until) c writes lands = Sound-schedule process begins prio dependent again until c writes lands
  Sound-act (instr.Cancel process) c writes lands = Sound-made (named s process) request.Cancel (nat_lt (named s process) (process_count s.tables)) _ refl (λ has. has) (λ is. cc) writes
  Sound-act (instr.Terminate process) c writes lands = Sound-made (named s process) request.Terminate (nat_lt (named s process) (process_count s.tables)) _ refl (λ has. has) (λ is. cc) writes
  Sound-act (instr.Wait one) c writes lands = Sound-waited (delay_taken s.tables one c.stack) c (delay_is s.tables one c.stack) writes
  Sound-act (instr.Signal e) c writes lands = Sound-event_change request.Signal e c (signals s.tables) writes lands
  Sound-act (instr.Set e) c writes lands = Sound-event_change request.Set e c (sets s.tables) writes lands
  Sound-act (instr.Reset e) c writes lands = Sound-event_change request.Reset e c (resets s.tables) writes lands
  Sound-act (instr.Priority process) c writes lands = Sound-priority process c.stack c writes lands
  Sound-act instr.Item c writes lands = Sound-item c.stack c writes lands
  Sound-act (instr.Print channel) c writes lands = Sound-print channel c writes lands
  Sound-act (instr.Input channel k target) c writes lands = waits P s.tables (request.Input channel k) (Takes target) _ tt tt (λ is. cc) writes
  Sound-act instr.Now c writes lands = waits P s.tables request.Now (Pushes kind.Double) _ tt tt (λ is. cc) writes
  Sound-act (instr.Open groups) c writes lands = waits P s.tables (request.Update groups) (Opens groups) _ tt tt (λ is. cc) writes
  Sound-act instr.Close c writes lands = Sound-close c.frames c writes lands

-- nothing is said of where control goes on
abbrev pub Anywhere : Landing
Anywhere at frames = Unit {0}

anywhere_back : (frames : List Frame) → Returns Anywhere frames
anywhere_back [] = tt
anywhere_back (f ∷ fs) = λ back e. tt

anywhere_out : (at : ℕ) (frames : List Frame) → Closes Anywhere at frames
anywhere_out at [] = tt
anywhere_out at (f ∷ fs) = tt

anywhere : (c : Core) (way : Way) → Lands Anywhere c way
anywhere c Onward = tt
anywhere c (Jumps target) = tt
anywhere c (Either target) = (tt, tt)
anywhere c (Spends target) = tt
anywhere c Back = anywhere_back c.frames
anywhere c Out = anywhere_out (suc c.at) c.frames

module _ (s : Setting) (own : s.process < process_count s.tables) where
  -- the instruction that is next
  pub Sound-stepped : (c : Core) → Writes s.tables c.mode → Sound s.tables Anywhere (stepped s c)
  Sound-stepped c writes = found Anywhere {A = Instr} s.tables (slice_get s.image.code c.at) (stuck c) (λ i. act s i c) (sticks Anywhere s.tables c writes) (λ i e. Sound-act Anywhere s own i c writes (anywhere c (way_of i)))

  pub Sound-begun : (kept : Kept) → Sound s.tables Anywhere (begun s kept)
  Sound-begun kept = waits Anywhere s.tables request.Begin (Then Goes) _ tt tt (λ is. cc) (All-nil (IsWritten s.tables))

  Sound-tried : (a : Answered) (c : Core) → Writes s.tables c.mode → Sound s.tables Anywhere (tried_by s a c)
  Sound-tried answered.Begun c writes = moves Anywhere s.tables c writes tt
  Sound-tried (answered.Told v) c writes = moves Anywhere s.tables c writes tt
  Sound-tried answered.Done c writes = moves Anywhere s.tables c writes tt
  Sound-tried (answered.Wrong e) c writes = Sound-raised Anywhere s e c writes tt
  Sound-tried (answered.Block snapshot turns) c writes = moves Anywhere s.tables c writes tt
  Sound-tried answered.Killed c writes = moves Anywhere s.tables c writes tt

  Sound-taken : (target : ℕ) (a : Answered) (c : Core) → Writes s.tables c.mode → Sound s.tables Anywhere (taken_by s target a c)
  Sound-taken target answered.Begun c writes = moves Anywhere s.tables _ writes tt
  Sound-taken target (answered.Told v) c writes = moves Anywhere s.tables _ writes tt
  Sound-taken target answered.Done c writes = moves Anywhere s.tables _ writes tt
  Sound-taken target (answered.Wrong e) c writes = Sound-raised Anywhere s e (going target c.stack c) writes tt
  Sound-taken target (answered.Block snapshot turns) c writes = moves Anywhere s.tables _ writes tt
  Sound-taken target answered.Killed c writes = moves Anywhere s.tables _ writes tt

  Sound-given : (w : Wait) (a : Answered) (c : Core) → IsWait s.tables w → Writes s.tables c.mode → Sound s.tables Anywhere (given s w a c)
  Sound-given (Then rest) a c is writes = Sound-rested Anywhere s rest c is writes tt
  Sound-given (Pushes k) a c is writes = moves Anywhere s.tables _ writes tt
  Sound-given Tried a c is writes = Sound-tried a c writes
  Sound-given (Takes target) a c is writes = Sound-taken target a c writes
  Sound-given (Copies k ks from place) a c is writes = Sound-copied Anywhere s own ks from (suc place) (placed place (told k a) c) writes tt
  Sound-given (Opens groups) a c is writes = moves Anywhere s.tables _ (All-nil (IsWritten s.tables)) tt
  Sound-given Renews a c is writes = Sound-begun c.kept
  Sound-given (Halts e) a c is writes = waits Anywhere s.tables (request.Stop e) (Halts e) c tt tt (λ same. cc) writes

  -- an answer
  pub Sound-answer : (w : Wait) (a : Answered) (c : Core) → IsWait s.tables w → Writes s.tables c.mode → Sound s.tables Anywhere (after_answer s w a c)
  Sound-answer w answered.Killed c is writes = Sound-begun c.kept
  Sound-answer w answered.Begun c is writes = Sound-given w answered.Begun c is writes
  Sound-answer w (answered.Told v) c is writes = Sound-given w (answered.Told v) c is writes
  Sound-answer w answered.Done c is writes = Sound-given w answered.Done c is writes
  Sound-answer w (answered.Wrong e) c is writes = Sound-given w (answered.Wrong e) c is writes
  Sound-answer w (answered.Block snapshot turns) c is writes = Sound-given w (answered.Block snapshot turns) c is writes
