-- Where control comes in a block: with which stack, and in which UPDATE block.
use Rattle.std.specs.Prelude.{◌≡◌, ℕ, Option, Some, slice_get}
use Rattle.hal_code.specs.Effects.{Sorts}
use Rattle.hal_code.specs.Flow.{Flow, part_at}

-- the n-th instruction of a block is reached with this stack, in this UPDATE block or outside of all
pub record IsReached (f : Flow) (n : ℕ) (stack : Sorts) (part : Option ℕ) : Type 0 where
  pub sorts : slice_get f.stacks n ≡ Some stack
  pub stands : part_at f n ≡ part
