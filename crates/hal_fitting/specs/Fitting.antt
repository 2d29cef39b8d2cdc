-- Code that fits: from one instruction to another, control goes through, and each instruction takes its operands from the stack.
use Rattle.std.specs.Prelude.{◌≡◌, ◌≤◌, ◌<◌, ℕ, suc, Bool, true, false, not, ◌&&◌, List, [], ◌∷◌, Some, slice_get}
use Rattle.hal_code.specs.declared.image.ImageParts.{ImageParts}
use Rattle.hal_code.specs.declared.instr.Instr.{Instr}
use Rattle.hal_code.specs.declared.instr.Instr.TheVariants as instr
use Rattle.hal_code.specs.declared.row.Block.{Block}
use Rattle.hal_code.specs.Blocks.{code_of}
use Rattle.hal_code.specs.Effects.{Sorts, sorts_after}
use Rattle.hal_code.specs.Flow.{Flow, flow_of, part_at}
use Rattle.hal_code.specs.Operands.{operands_right}
use Rattle.hal_code.specs.Right.{stands_right, instr_right}

-- where code stands: of each block whether it asks, the block and its number, and whether an UPDATE block is open
pub record Ground : Type 0 where
  pub out : List Bool
  pub block : Block
  pub number : ℕ
  pub inside : Bool

-- behind these control goes on with the next instruction alone, in the same UPDATE block, and they stand anywhere in a block but at its ends
abbrev pub goes_on : Instr → Bool
goes_on (instr.Jump target) = false
goes_on (instr.JumpNot target) = false
goes_on (instr.Turn target) = false
goes_on instr.Return = false
goes_on (instr.On group number response change event target) = false
goes_on instr.Begin = false
goes_on instr.Finish = false
goes_on (instr.Input channel kind target) = false
goes_on (instr.Open groups) = false
goes_on instr.Close = false
goes_on other = true

abbrev pub adds_item : Instr → Bool
adds_item instr.Item = true
adds_item other = false

-- an instruction may stand inside of UPDATE blocks or outside, as it does; ITEM stands outside alone, as WRITE does, and so no instruction that stands inside asks
abbrev pub stands_there : List Bool → Bool → Instr → Bool
stands_there out inside i = not (adds_item i && inside) && stands_right out inside i

-- an instruction with operands of its own that are right, which may stand there
abbrev pub suits : ImageParts → Ground → Instr → Bool
suits image g i = (operands_right image g.block g.number i && stands_there g.out g.inside i) && goes_on i

-- these instructions lead from one with this stack to another one with that
abbrev pub FitsBy : ImageParts → Ground → List Instr → ℕ → Sorts → ℕ → Sorts → Type 0
FitsBy image g [] from stack to after = (from ≡ to) × (stack ≡ after)
FitsBy image g (i ∷ is) from stack to after =
    (slice_get image.code from ≡ Some i) × (suits image g i ≡ true) × ((next : Sorts) × (sorts_after image g.block i stack ≡ Some next) × FitsBy image g is (suc from) next to after)

-- the code from one instruction to another fits
pub record Fits (image : ImageParts) (g : Ground) (from : ℕ) (stack : Sorts) (to : ℕ) (after : Sorts) : Type 0 where
  pub is : List Instr
  pub each : FitsBy image g is from stack to after

-- what is known of the block
abbrev pub ground_flow : ImageParts → Ground → Flow
ground_flow image g = flow_of image g.block g.number (code_of image g.block)

-- the n-th instruction of a block is right
abbrev pub IsRightAt : ImageParts → List Bool → Flow → ℕ → Type 0
IsRightAt image out f n = (i : Instr) (stack : Sorts) → slice_get f.code n ≡ Some i → slice_get f.stacks n ≡ Some stack → instr_right image out f n i stack ≡ true

-- those of a block from the m-th one to the one before the n-th are, and the n-th one is reached with this stack in the same UPDATE block
pub record Passes (image : ImageParts) (out : List Bool) (f : Flow) (m n : ℕ) (after : Sorts) : Type 0 where
  pub rights : (k : ℕ) → m ≤ k → k < n → IsRightAt image out f k
  pub stack : slice_get f.stacks n ≡ Some after
  pub part : part_at f n ≡ part_at f m
