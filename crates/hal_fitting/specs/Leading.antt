-- Code that leads from one address of a block to another, and what its jumps ask for.
use Rattle.std.specs.Prelude.{◌≡◌, ◌≤◌, ◌<◌, ℕ, ◌+◌, true, List, [], Option, length}
use Rattle.hal_code.specs.declared.image.ImageParts.{ImageParts}
use Rattle.hal_code.specs.Blocks.{is_of_process}
use Rattle.hal_code.specs.Effects.{Sorts}
use Rattle.hal_code.specs.Flow.{is_inside}
use Rattle.hal_fitting.specs.Fitting.{Ground, ground_flow, IsRightAt}
use Rattle.hal_fitting.specs.Reaching.{IsReached}

-- control comes to this address of a block, which isn't the first one of a process, with this stack, in this UPDATE block or outside of all
pub record Comes (image : ImageParts) (g : Ground) (at : ℕ) (stack : Sorts) (part : Option ℕ) : Type 0 where
  pub place : ℕ
  pub there : at ≡ g.block.first + place
  pub late : is_of_process image g.number ≡ true → 0 < place
  pub within : place < length (ground_flow image g).code
  pub reached : IsReached (ground_flow image g) place stack part

-- the address behind the block
abbrev pub end_of : ImageParts → Ground → ℕ
end_of image g = g.block.first + length (ground_flow image g).code

-- the instructions from one address to another are right
abbrev pub AreRight : ImageParts → Ground → ℕ → ℕ → Type 0
AreRight image g from to = (n : ℕ) → from ≤ g.block.first + n → g.block.first + n < to → IsRightAt image g.out (ground_flow image g) n

-- the same ground inside this UPDATE block or outside of all
abbrev pub standing : Option ℕ → Ground → Ground
standing part g = record { out = g.out; block = g.block; number = g.number; inside = is_inside part }

-- code leads from an address with a stack to another one with another, where the block goes on behind it; and its instructions are right where what is asked holds
pub record Leads (image : ImageParts) (g : Ground) (Asked : Type 0) (part : Option ℕ) (from : ℕ) (stack : Sorts) (to : ℕ) (after : Sorts) : Type 0 where
  pub onward : from ≤ to
  pub comes : Comes image g from stack part → to < end_of image g → Comes image g to after part
  pub right : Comes image g from stack part → to < end_of image g → Asked → AreRight image g from to

-- what a jump forward from before an address asks for: its target lies there or behind it, and a statement begins there in the same UPDATE block
pub record IsAhead (image : ImageParts) (g : Ground) (part : Option ℕ) (behind target : ℕ) : Type 0 where
  pub ahead : behind ≤ target
  pub comes : Comes image g target [] part
