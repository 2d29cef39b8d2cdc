-- How control goes through a block: the stack before each instruction, UPDATE blocks, and jumps.
use Rattle.std.specs.Prelude.{ℕ, suc, ◌+◌, ◌-◌, ◌==◌, nat_le, nat_lt, Bool, true, false, ◌&&◌, ◌||◌, List, [], ◌∷◌, Option, Some, None, slice_get, if◌then◌else◌}
use Rattle.hal_code.specs.declared.choice.Choice.TheVariants as choice
use Rattle.hal_code.specs.declared.image.ImageParts.{ImageParts}
use Rattle.hal_code.specs.declared.instr.Instr.{Instr}
use Rattle.hal_code.specs.declared.instr.Instr.TheVariants as instr
use Rattle.hal_code.specs.declared.operand.Response.TheVariants as response
use Rattle.hal_code.specs.declared.row.Block.{Block}
use Rattle.hal_code.specs.Operands.{operands_right, holds_of}
use Rattle.hal_code.specs.Effects.{Sorts, sorts_after}

-- behind these no instruction goes on with their operands
abbrev pub goes_away : Instr → Bool
goes_away (instr.Jump target) = true
goes_away instr.Return = true
goes_away instr.Finish = true
goes_away other = false

-- the stack before the next instruction: empty behind one that goes away, or that doesn't fit
abbrev pub sorts_next : ImageParts → Block → ℕ → Instr → Sorts → Sorts
sorts_next image block b i stack =
    if goes_away i then [] else (if operands_right image block b i then elim (sorts_after image block i stack) [ None ↦ [] | Some after ↦ after ] else [])

-- the stack before each instruction
abbrev pub stacks : ImageParts → Block → ℕ → List Instr → Sorts → List Sorts
stacks image block b [] stack = []
stacks image block b (i ∷ is) stack = stack ∷ stacks image block b is (sorts_next image block b i stack)

-- the UPDATE block in which the next instruction stands, by the number of its OPEN in the block
abbrev pub part_next : ℕ → Instr → Option ℕ → Option ℕ
part_next n (instr.Open groups) part = Some n
part_next n instr.Close part = None
part_next n other part = part

-- the same of each instruction, from the n-th one on, and behind the last one
abbrev pub parts : ℕ → List Instr → Option ℕ → List (Option ℕ)
parts n [] part = part ∷ []
parts n (i ∷ is) part = part ∷ parts (suc n) is (part_next n i part)

-- what is known of a block: its row and number, its instructions, the stack before each, the UPDATE block in which each stands
pub record Flow : Type 0 where
  pub block : Block
  pub number : ℕ
  pub code : List Instr
  pub stacks : List Sorts
  pub parts : List (Option ℕ)

abbrev pub flow_of : ImageParts → Block → ℕ → List Instr → Flow
flow_of image block b code = record { block = block; number = b; code = code; stacks = stacks image block b code []; parts = parts 0 code None }

-- whether two instructions stand in the same UPDATE block, or outside of all
abbrev pub same_part : Option ℕ → Option ℕ → Bool
same_part None None = true
same_part (Some m) (Some n) = m == n
same_part one other = false

abbrev pub part_at : Flow → ℕ → Option ℕ
part_at f n = elim (slice_get f.parts n) [ None ↦ None | Some part ↦ part ]

-- whether an instruction stands inside an UPDATE block
abbrev pub is_inside : Option ℕ → Bool
is_inside None = false
is_inside (Some n) = true

abbrev pub is_empty : Sorts → Bool
is_empty [] = true
is_empty (one ∷ others) = false

-- an address of the block whose stack is empty and that stands in the same UPDATE block as the n-th instruction
abbrev pub is_entry : Flow → ℕ → ℕ → Bool
is_entry f n target =
    (nat_le f.block.first target && nat_lt target f.block.end)
    && (holds_of is_empty (slice_get f.stacks (target - f.block.first)) && same_part (part_at f n) (part_at f (target - f.block.first)))

-- a TURN whose own target is behind an address
abbrev pub is_turn_over : ℕ → Instr → Bool
is_turn_over at (instr.Turn target) = nat_lt at target
is_turn_over at other = false

-- a jump goes on, or back to a TURN that leads on
abbrev pub leads_on : Flow → ℕ → ℕ → Bool
leads_on f at target = nat_lt at target || holds_of (is_turn_over at) (slice_get f.code (target - f.block.first))

-- the n-th instruction jumps there with this stack
abbrev pub jumps_right : Flow → ℕ → Sorts → ℕ → Bool
jumps_right f n stack target = is_empty stack && (is_entry f n target && leads_on f (f.block.first + n) target)

-- what is left of a stack behind a bit string
abbrev pub behind_bits : Sorts → Sorts
behind_bits [] = []
behind_bits (one ∷ stack) = stack

-- where an instruction jumps to, if it does: with an empty stack to the beginning of a statement
abbrev pub jumps : Flow → ℕ → Sorts → Instr → Bool
jumps f n stack (instr.Jump target) = jumps_right f n stack target
jumps f n stack (instr.JumpNot target) = jumps_right f n (behind_bits stack) target
jumps f n stack (instr.Turn target) = is_empty stack && (is_entry f n target && nat_lt (f.block.first + n) target)
jumps f n stack (instr.Input channel kind target) = jumps_right f n stack target
jumps f n stack (instr.On group number (choice.Known response.Statement) change event target) = is_entry f n target
jumps f n stack other = true
