-- When an instruction's own operands are right.
use Rattle.std.specs.Prelude.{ℕ, zero, suc, ◌+◌, ◌==◌, nat_le, nat_lt, ◌^◌, length, Bool, true, false, not, ◌&&◌, ◌||◌, List, Option, Some, None, slice_get, if◌then◌else◌}
use Rattle.hal_base.specs.declared.limits.TheConstants.{CHANNEL_COUNT}
use Rattle.hal_values.specs.declared.tables.EventStart.{EventStart}
use Rattle.hal_values.specs.declared.tables.EventStart.TheVariants as begins
use Rattle.hal_code.specs.declared.choice.Choice.{Choice}
use Rattle.hal_code.specs.declared.choice.Choice.TheVariants as choice
use Rattle.hal_code.specs.declared.image.ImageParts.{ImageParts}
use Rattle.hal_code.specs.declared.instr.Instr.{Instr}
use Rattle.hal_code.specs.declared.instr.Instr.TheVariants as instr
use Rattle.hal_code.specs.declared.operand.Delay.{Delay}
use Rattle.hal_code.specs.declared.operand.Delay.TheVariants as delay
use Rattle.hal_code.specs.declared.operand.EventChange.{EventChange}
use Rattle.hal_code.specs.declared.operand.EventChange.TheVariants as change
use Rattle.hal_code.specs.declared.operand.Limit.{Limit}
use Rattle.hal_code.specs.declared.operand.Limit.TheVariants as limit
use Rattle.hal_code.specs.declared.operand.Response.{Response}
use Rattle.hal_code.specs.declared.operand.Response.TheVariants as response
use Rattle.hal_code.specs.declared.operand.Round.{Round}
use Rattle.hal_code.specs.declared.operand.Round.TheVariants as round
use Rattle.hal_code.specs.declared.operand.Start.{Start}
use Rattle.hal_code.specs.declared.operand.Start.TheVariants as start
use Rattle.hal_code.specs.declared.operand.Time.{Time}
use Rattle.hal_code.specs.declared.operand.Time.TheVariants as time
use Rattle.hal_code.specs.declared.row.Block.{Block}
use Rattle.hal_code.specs.declared.row.View.{View}
use Rattle.hal_code.specs.Images.{start_of}
use Rattle.hal_code.specs.Addressing.{is_of_cell}
use Rattle.hal_code.specs.Sorts.{is_kind}
use Rattle.hal_code.specs.Memory.{fits_places, is_own, are_data, referred_shape}
use Rattle.hal_code.specs.Blocks.{is_common, block_places}

-- a byte chooses something
abbrev pub is_known : {T : Type 0} → Choice T → Bool
is_known (choice.Known one) = true
is_known (choice.Other byte) = false

-- an option holds something of which this is true
abbrev pub holds_of : {T : Type 0} → (T → Bool) → Option T → Bool
holds_of test None = false
holds_of test (Some one) = test one

-- how many events there are: one for each process, and the declared ones
abbrev pub events_of : ImageParts → ℕ
events_of image = length image.processes + length image.events

-- the declared event with this number, where it is one
abbrev pub declared_in : ℕ → List (Choice EventStart) → ℕ → Option EventStart
declared_in zero events e = elim (slice_get events e) [ None ↦ None | Some one ↦ Some (start_of one) ]
declared_in (suc processes) events zero = None
declared_in (suc processes) events (suc e) = declared_in processes events e

abbrev pub declared_event : ImageParts → ℕ → Option EventStart
declared_event image e = declared_in (length image.processes) image.events e

abbrev pub is_latched : EventStart → Bool
is_latched begins.Unlatched = false
is_latched (begins.Latched value) = true

-- SIGNAL takes a declared event, SET and RESET a latched one
abbrev pub is_declared : ImageParts → ℕ → Bool
is_declared image e = holds_of (λ (one : EventStart). true) (declared_event image e)

abbrev pub is_latched_event : ImageParts → ℕ → Bool
is_latched_event image e = holds_of is_latched (declared_event image e)

-- what ON ERROR changes is an event that can be changed so
abbrev pub is_change : ImageParts → EventChange → ℕ → Bool
is_change image change.Nothing e = true
is_change image change.Signal e = is_declared image e
is_change image change.Set e = is_latched_event image e
is_change image change.Reset e = is_latched_event image e

abbrev pub is_nothing : EventChange → Bool
is_nothing change.Nothing = true
is_nothing other = false

-- a statement comes without a change of an event
abbrev pub is_response : Response → EventChange → Bool
is_response response.System e = true
is_response response.Ignore e = true
is_response response.Statement e = is_nothing e

-- a number of an error stands behind a group alone
abbrev pub is_selector : ℕ → ℕ → Bool
is_selector group number = not (group == 0) || (number == 0)

abbrev pub on_is_right : ImageParts → ℕ → ℕ → Choice Response → Choice EventChange → ℕ → Bool
on_is_right image group number (choice.Known r) (choice.Known e) event = is_selector group number && (is_response r e && is_change image e event)
on_is_right image group number r e event = false

-- a process that is there, or 255 for oneself
abbrev pub is_process : ImageParts → ℕ → Bool
is_process image p = nat_lt p (length image.processes)

abbrev pub is_named : ImageParts → ℕ → Bool
is_named image p = is_process image p || (p == 255)

-- a time is there, and its milliseconds are within the limit
abbrev pub is_time : Time → Bool
is_time time.Absent = false
is_time time.Seconds = true
is_time (time.Milliseconds n) = nat_lt n 2147483648000

abbrev pub is_expression : ImageParts → ℕ → Bool
is_expression image x = nat_lt x (length image.expressions)

abbrev pub is_start : ImageParts → Start → Bool
is_start image start.Now = true
is_start image (start.At t) = is_time t
is_start image (start.In t) = is_time t
is_start image (start.On x) = is_expression image x

abbrev pub is_round : Round → Bool
is_round round.Once = true
is_round round.Repeat = true
is_round (round.Every t) = is_time t
is_round (round.After t) = is_time t

abbrev pub is_limit : ImageParts → Limit → Bool
is_limit image limit.Free = true
is_limit image (limit.While x) = is_expression image x
is_limit image (limit.Until x) = is_expression image x
is_limit image (limit.UntilTime t) = is_time t

abbrev pub is_delay : ImageParts → Delay → Bool
is_delay image (delay.For t) = is_time t
is_delay image (delay.Until t) = is_time t
is_delay image (delay.Event x) = is_expression image x
is_delay image delay.Dependents = true

-- a view that a block may name: that of a common block uses common places alone
abbrev pub is_view_for : ImageParts → Block → View → Bool
is_view_for image block view = if is_common block then (if is_own view then fits_places image view (block_places image block) else true) else true

abbrev pub names_cell : ImageParts → Block → ℕ → Bool
names_cell image block v = holds_of (λ (view : View). is_of_cell view && is_view_for image block view) (slice_get image.views v)

abbrev pub names_shape : ImageParts → Block → ℕ → Bool
names_shape image block v = holds_of (λ (view : View). not (is_of_cell view) && is_view_for image block view) (slice_get image.views v)

-- a block with a smaller number, common or of the same process
abbrev pub may_call : ImageParts → Block → ℕ → ℕ → Bool
may_call image block b callee = nat_lt callee b && holds_of (λ (one : Block). is_common one || (one.process == block.process)) (slice_get image.blocks callee)

-- the instruction's own operands, in this block with this number
abbrev pub operands_right : ImageParts → Block → ℕ → Instr → Bool
operands_right image block b (instr.Bits len word) = (nat_le 1 len && nat_le len 32) && nat_lt word (2 ^ len)
operands_right image block b (instr.Cell view) = names_cell image block view
operands_right image block b (instr.Whole view) = names_shape image block view
operands_right image block b (instr.Event e) = nat_lt e (events_of image)
operands_right image block b (instr.Op1 op) = is_known op
operands_right image block b (instr.Op2 op) = is_known op
operands_right image block b (instr.Pick chosen) = is_known chosen
operands_right image block b (instr.Patch chosen) = is_known chosen
operands_right image block b (instr.Call callee) = may_call image block b callee
operands_right image block b (instr.On group number r e event target) = on_is_right image group number r e event
operands_right image block b (instr.Off group number) = is_selector group number
operands_right image block b (instr.Raise group number) = nat_le 1 group && nat_le 1 number
operands_right image block b (instr.Bind place) = holds_of (λ (shape : ℕ). true) (referred_shape (block_places image block) place)
operands_right image block b (instr.Copy place) = nat_lt place (length (block_places image block))
operands_right image block b (instr.Clear place count) = are_data (block_places image block) place count
operands_right image block b (instr.Schedule p begins prio dependent again until) =
    (is_process image p && (is_start image begins && is_known prio)) && (is_known dependent && (is_round again && is_limit image until))
operands_right image block b (instr.Cancel p) = is_named image p
operands_right image block b (instr.Terminate p) = is_named image p
operands_right image block b (instr.Wait one) = is_delay image one
operands_right image block b (instr.Signal e) = is_declared image e
operands_right image block b (instr.Set e) = is_latched_event image e
operands_right image block b (instr.Reset e) = is_latched_event image e
operands_right image block b (instr.Priority p) = is_named image p
operands_right image block b (instr.Print channel) = nat_lt channel CHANNEL_COUNT
operands_right image block b (instr.Input channel k target) = nat_lt channel CHANNEL_COUNT && is_kind k
operands_right image block b i = true
