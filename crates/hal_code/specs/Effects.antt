-- What an instruction takes from the stack and leaves there, by the sorts of the operands, the top one first. None where the stack doesn't fit.
use Rattle.std.specs.Prelude.{ℕ, zero, suc, ◌==◌, length, Bool, true, false, List, [], ◌∷◌, Option, Some, None, slice_get, if◌then◌else◌}
use Rattle.std.specs.Option.{option_and_then}
use Rattle.hal_operations.specs.declared.operation.Op1.{Op1}
use Rattle.hal_operations.specs.declared.operation.Op2.{Op2}
use Rattle.hal_code.specs.declared.choice.Choice.{Choice}
use Rattle.hal_code.specs.declared.choice.Choice.TheVariants as choice
use Rattle.hal_code.specs.declared.image.ImageParts.{ImageParts}
use Rattle.hal_code.specs.declared.instr.Instr.{Instr}
use Rattle.hal_code.specs.declared.instr.Instr.TheVariants as instr
use Rattle.hal_code.specs.declared.operand.Delay.{Delay}
use Rattle.hal_code.specs.declared.operand.Delay.TheVariants as delay
use Rattle.hal_code.specs.declared.operand.Limit.{Limit}
use Rattle.hal_code.specs.declared.operand.Limit.TheVariants as limit
use Rattle.hal_code.specs.declared.operand.Places.{Places}
use Rattle.hal_code.specs.declared.operand.Places.TheVariants as places
use Rattle.hal_code.specs.declared.operand.Round.{Round}
use Rattle.hal_code.specs.declared.operand.Round.TheVariants as round
use Rattle.hal_code.specs.declared.operand.Start.{Start}
use Rattle.hal_code.specs.declared.operand.Start.TheVariants as start
use Rattle.hal_code.specs.declared.operand.Time.{Time}
use Rattle.hal_code.specs.declared.operand.Time.TheVariants as time
use Rattle.hal_code.specs.declared.row.Block.{Block}
use Rattle.hal_code.specs.declared.row.ResultKind.{ResultKind}
use Rattle.hal_code.specs.declared.row.Target.{Target}
use Rattle.hal_code.specs.declared.row.Target.TheVariants as target
use Rattle.hal_code.specs.declared.row.View.{View}
use Rattle.hal_code.specs.Images.{kinds_of}
use Rattle.hal_code.specs.Sorts.{Sort, I, B, T, A, R, sort_of, one_gives, two_give, takes, takes_part, sort_of_result}
use Rattle.hal_code.specs.Memory.{own_memory, referred_shape, lies_from}
use Rattle.hal_code.specs.Blocks.{block_places}

-- the sorts on the stack, the top one first
abbrev pub Sorts : Type 0
Sorts = List Sort

-- one of them more, where it is there
abbrev pub giving : Option Sort → Sorts → Option Sorts
giving None stack = None
giving (Some one) stack = Some (one ∷ stack)

-- so many integers are taken
abbrev pub integers_taken : ℕ → Sorts → Option Sorts
integers_taken zero stack = Some stack
integers_taken (suc n) (I ∷ stack) = integers_taken n stack
integers_taken (suc n) stack = None

-- whether a sort is that of a value
abbrev pub is_value : Sort → Bool
is_value I = true
is_value B = true
is_value T = true
is_value (A kind) = false
is_value (R shape) = false

-- whether it is one that has places: bits or a text
abbrev pub has_places : Sort → Bool
has_places B = true
has_places T = true
has_places other = false

-- a value is taken
abbrev pub value_taken : Sorts → Option Sorts
value_taken [] = None
value_taken (one ∷ stack) = if is_value one then Some stack else None

abbrev pub sort_of_target : Target → Sort
sort_of_target (target.Cell kind) = A kind
sort_of_target (target.Shape shape) = R shape

-- integers for the dimensions of a view give its address
abbrev pub viewed_sorts : Option View → Sorts → Option Sorts
viewed_sorts None stack = None
viewed_sorts (Some view) stack = option_and_then (λ left. Some (sort_of_target view.target ∷ left)) (integers_taken (length view.dimensions) stack)

abbrev pub fetched_sorts : Sorts → Option Sorts
fetched_sorts (A kind ∷ stack) = Some (sort_of kind ∷ stack)
fetched_sorts stack = None

abbrev pub peeked_sorts : Sorts → Option Sorts
peeked_sorts (A kind ∷ stack) = Some (sort_of kind ∷ A kind ∷ stack)
peeked_sorts stack = None

abbrev pub kept_sorts : Sorts → Option Sorts
kept_sorts (A kind ∷ v ∷ stack) = if takes kind v then Some stack else None
kept_sorts stack = None

abbrev pub doubled_sorts : Sorts → Option Sorts
doubled_sorts [] = None
doubled_sorts (one ∷ stack) = if is_value one then Some (one ∷ one ∷ stack) else None

abbrev pub one_sorts : Choice Op1 → Sorts → Option Sorts
one_sorts (choice.Known op) (one ∷ stack) = giving (one_gives op one) stack
one_sorts op stack = None

abbrev pub two_sorts : Choice Op2 → Sorts → Option Sorts
two_sorts (choice.Known op) (right ∷ left ∷ stack) = giving (two_give op left right) stack
two_sorts op stack = None

abbrev pub length_sorts : Option Sort → Sorts → Option Sorts
length_sorts None stack = None
length_sorts (Some one) stack = if has_places one then Some (I ∷ stack) else None

-- the integers that choose places are taken
abbrev pub places_taken : Choice Places → Sorts → Option Sorts
places_taken (choice.Known places.One) stack = integers_taken 1 stack
places_taken (choice.Known places.To) stack = integers_taken 2 stack
places_taken (choice.Known places.At) stack = integers_taken 2 stack
places_taken (choice.Other byte) stack = None

abbrev pub picked_sorts : Sorts → Option Sorts
picked_sorts [] = None
picked_sorts (one ∷ stack) = if has_places one then Some (one ∷ stack) else None

abbrev pub patched_sorts : Sorts → Option Sorts
patched_sorts (old ∷ A kind ∷ new ∷ stack) = if takes_part kind old new then Some (A kind ∷ sort_of kind ∷ stack) else None
patched_sorts stack = None

abbrev pub bits_taken : Sorts → Option Sorts
bits_taken (B ∷ stack) = Some stack
bits_taken stack = None

-- what a block that is called gives
abbrev pub called_sorts : Option Block → Sorts → Option Sorts
called_sorts None stack = None
called_sorts (Some block) stack = elim block.result [
  | choice.Known kind ↦ elim (sort_of_result kind) [ None ↦ Some stack | Some one ↦ Some (one ∷ stack) ]
  | choice.Other byte ↦ None
]

-- whether two sorts of values are the same
abbrev pub same_value : Sort → Sort → Bool
same_value I I = true
same_value B B = true
same_value T T = true
same_value one other = false

-- a block's result lies on top
abbrev pub result_taken : Option Sort → Sorts → Option Sorts
result_taken None stack = Some stack
result_taken (Some wanted) [] = None
result_taken (Some wanted) (one ∷ stack) = if same_value wanted one then Some stack else None

abbrev pub returned_sorts : Choice ResultKind → Sorts → Option Sorts
returned_sorts (choice.Known kind) stack = result_taken (sort_of_result kind) stack
returned_sorts (choice.Other byte) stack = None

-- the shape that a place refers to is that of the cells
abbrev pub bound_sorts : ImageParts → Block → ℕ → Sorts → Option Sorts
bound_sorts image block place (R shape ∷ stack) =
    elim (referred_shape (block_places image block) place) [ None ↦ None | Some wanted ↦ if wanted == shape then Some stack else None ]
bound_sorts image block place stack = None

-- own places from one on have the kinds of the shape, in order
abbrev pub copied_sorts : ImageParts → Block → ℕ → Sorts → Option Sorts
copied_sorts image block place (R shape ∷ stack) = if lies_from (own_memory (block_places image block)) place (kinds_of image shape) then Some stack else None
copied_sorts image block place stack = None

abbrev pub next_sorts : Sorts → Option Sorts
next_sorts (I ∷ I ∷ I ∷ stack) = Some (B ∷ I ∷ stack)
next_sorts stack = None

-- the seconds of a time are taken
abbrev pub seconds_taken : Time → Sorts → Option Sorts
seconds_taken time.Seconds stack = integers_taken 1 stack
seconds_taken other stack = Some stack

abbrev pub start_sorts : Start → Sorts → Option Sorts
start_sorts (start.At t) stack = seconds_taken t stack
start_sorts (start.In t) stack = seconds_taken t stack
start_sorts other stack = Some stack

abbrev pub priority_sorts : Choice Bool → Sorts → Option Sorts
priority_sorts (choice.Known true) stack = integers_taken 1 stack
priority_sorts other stack = Some stack

abbrev pub round_sorts : Round → Sorts → Option Sorts
round_sorts (round.Every t) stack = seconds_taken t stack
round_sorts (round.After t) stack = seconds_taken t stack
round_sorts other stack = Some stack

abbrev pub limit_sorts : Limit → Sorts → Option Sorts
limit_sorts (limit.UntilTime t) stack = seconds_taken t stack
limit_sorts other stack = Some stack

-- the operands of SCHEDULE, the last one first
abbrev pub scheduled_sorts : Start → Choice Bool → Round → Limit → Sorts → Option Sorts
scheduled_sorts begins prio again until stack =
    option_and_then (start_sorts begins) (option_and_then (priority_sorts prio) (option_and_then (round_sorts again) (limit_sorts until stack)))

abbrev pub delay_sorts : Delay → Sorts → Option Sorts
delay_sorts (delay.For t) stack = seconds_taken t stack
delay_sorts (delay.Until t) stack = seconds_taken t stack
delay_sorts other stack = Some stack

-- the stack after an instruction of a block
abbrev pub sorts_after : ImageParts → Block → Instr → Sorts → Option Sorts
sorts_after image block (instr.Int n) stack = Some (I ∷ stack)
sorts_after image block (instr.Bits len word) stack = Some (B ∷ stack)
sorts_after image block (instr.Text text) stack = Some (T ∷ stack)
sorts_after image block (instr.Cell view) stack = viewed_sorts (slice_get image.views view) stack
sorts_after image block (instr.Whole view) stack = viewed_sorts (slice_get image.views view) stack
sorts_after image block instr.Fetch stack = fetched_sorts stack
sorts_after image block instr.Peek stack = peeked_sorts stack
sorts_after image block instr.Keep stack = kept_sorts stack
sorts_after image block instr.Dup stack = doubled_sorts stack
sorts_after image block instr.Drop stack = value_taken stack
sorts_after image block (instr.Event e) stack = Some (B ∷ stack)
sorts_after image block (instr.Op1 op) stack = one_sorts op stack
sorts_after image block (instr.Op2 op) stack = two_sorts op stack
sorts_after image block (instr.Len depth) stack = length_sorts (slice_get stack depth) stack
sorts_after image block (instr.Pick chosen) stack = option_and_then picked_sorts (places_taken chosen stack)
sorts_after image block (instr.Patch chosen) stack = option_and_then patched_sorts (places_taken chosen stack)
sorts_after image block (instr.JumpNot target) stack = bits_taken stack
sorts_after image block (instr.Call callee) stack = called_sorts (slice_get image.blocks callee) stack
sorts_after image block instr.Return stack = returned_sorts block.result stack
sorts_after image block instr.ErrGrp stack = Some (I ∷ stack)
sorts_after image block instr.ErrNum stack = Some (I ∷ stack)
sorts_after image block (instr.Bind place) stack = bound_sorts image block place stack
sorts_after image block (instr.Copy place) stack = copied_sorts image block place stack
sorts_after image block instr.Next stack = next_sorts stack
sorts_after image block (instr.Schedule p begins prio dependent again until) stack = scheduled_sorts begins prio again until stack
sorts_after image block (instr.Wait one) stack = delay_sorts one stack
sorts_after image block (instr.Priority p) stack = integers_taken 1 stack
sorts_after image block instr.Item stack = value_taken stack
sorts_after image block (instr.Input channel kind target) stack = Some (sort_of kind ∷ stack)
sorts_after image block instr.Now stack = Some (I ∷ stack)
sorts_after image block other stack = Some stack
