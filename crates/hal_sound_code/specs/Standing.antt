-- Where control stands in a right image, and the runs of blocks below.
use Rattle.std.specs.Prelude.{◌≡◌, ℕ, suc, ◌+◌, ◌<◌, ◌==◌, ◌||◌, Bool, true, false, List, [], ◌∷◌, Some, None, slice_get}
use Rattle.hal_values.specs.declared.environment.Act.{Act}
use Rattle.hal_values.specs.declared.environment.Act.TheVariants as act
use Rattle.hal_values.specs.declared.environment.Entry.{Entry}
use Rattle.hal_code.specs.declared.row.Block.{Block}
use Rattle.hal_code.specs.Cores.{Setting, Return, Frame}
use Rattle.hal_code.specs.Controlling.{zero_of, with_result}
use Rattle.hal_code.specs.Blocks.{is_common, code_of, is_of_process}
use Rattle.hal_code.specs.Effects.{Sorts}
use Rattle.hal_code.specs.Flow.{flow_of, part_at, is_inside}
use Rattle.hal_values.specs.Searching.{entry_for}
use Rattle.hal_sound_code.specs.Entries.{selectors_of, is_among}
use Rattle.hal_sound_code.specs.Lying.{sorts_of, AllLead}

-- control stands at an instruction of the block with this number, inside an UPDATE block or outside, where the stack before it has these sorts
pub record Stands (s : Setting) (number : ℕ) (inside : Bool) (at : ℕ) (sorts : Sorts) : Type 0 where
  -- the row of the block, and which of its instructions this is
  pub block : Block
  pub place : ℕ
  pub row : slice_get s.image.blocks number ≡ Some block
  pub there : at ≡ block.first + place
  -- the block is common or the process's own
  pub own : (is_common block || (block.process == s.process)) ≡ true
  pub stack : slice_get (flow_of s.image block number (code_of s.image block)).stacks place ≡ Some sorts
  pub part : is_inside (part_at (flow_of s.image block number (code_of s.image block)) place) ≡ inside

-- the statement of an entry for errors stands in the block that has the entry, with an empty stack
abbrev pub Enters : Setting → ℕ → Bool → Act → Type 0
Enters s number inside (act.System side) = Unit {0}
Enters s number inside (act.Ignore side) = Unit {0}
Enters s number inside (act.Statement at) = Stands s number inside at []

-- so it is with all entries, each of which comes of an ON instruction of the block, and no two of which have the same selector
abbrev pub AllEnter : Setting → ℕ → Bool → List Entry → Type 0
AllEnter s number inside [] = Unit {0}
AllEnter s number inside (one ∷ entries) =
    Enters s number inside one.act × AllEnter s number inside entries × (is_among one.selector (selectors_of s.image number) ≡ true) × (entry_for one.selector entries ≡ None)

-- a block that called the block with this number; what is said of the blocks below is said of its number and of whether the call stands inside an UPDATE block
pub record Calls (s : Setting) (callee : ℕ) (entries : List Entry) (back : Return) (Below : ℕ → Bool → Type 0) : Type 0 where
  pub caller : ℕ
  pub within : Bool
  pub smaller : callee < caller
  -- control goes on there with the result that is wanted
  pub stands : Stands s caller within back.at (sorts_of (with_result back.result back.stack))
  pub lead : AllLead s back.stack
  pub result : (block : Block) → slice_get s.image.blocks callee ≡ Some block → back.result ≡ zero_of block.result
  pub enter : AllEnter s caller within entries
  pub below : Below caller within

-- the frames below a block: none is below the block of a process; a frame that isn't called is that of an UPDATE block in the same block
abbrev pub AreBelow : Setting → ℕ → Bool → List Frame → Type 0
AreBelow s number inside [] = (inside ≡ false) × (is_of_process s.image number ≡ true)
AreBelow s number inside (f ∷ fs) = elim f.back [
  | None ↦ (inside ≡ true) × AllEnter s number false f.entries × AreBelow s number false fs
  | Some back ↦ (inside ≡ false) × Calls s number f.entries back (λ caller within. AreBelow s caller within fs)
]

-- how many frames are of blocks that called
abbrev pub call_count : List Frame → ℕ
call_count [] = 0
call_count (f ∷ fs) = elim f.back [ None ↦ call_count fs | Some back ↦ suc (call_count fs) ]
