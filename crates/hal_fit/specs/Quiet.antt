-- Code that asks nothing.
use Rattle.std.specs.Prelude.{◌≡◌, ◌≤◌, ◌<◌, ℕ, Bool, false, List, Some, slice_get}
use Rattle.hal_code.specs.declared.image.ImageParts.{ImageParts}
use Rattle.hal_code.specs.declared.instr.Instr.{Instr}
use Rattle.hal_code.specs.Blocks.{leads_out}

-- none of the instructions from one address to another asks, nor calls a block that does, by these flags of blocks
pub record IsQuiet (image : ImageParts) (out : List Bool) (from to : ℕ) : Type 0 where
  pub onward : from ≤ to
  pub each : (n : ℕ) (i : Instr) → from ≤ n → n < to → slice_get image.code n ≡ Some i → leads_out out i ≡ false
