-- How many operands there are, and how many there can be.
use Rattle.std.specs.Prelude.{ℕ, zero, suc, ◌+◌, max, length, List, [], ◌∷◌, Some, None, slice_get}
use Rattle.hal_code.specs.declared.image.ImageParts.{ImageParts}
use Rattle.hal_code.specs.Blocks.{code_of}
use Rattle.hal_code.specs.Cores.{Core, Frame}
use Rattle.hal_code.specs.Effects.{Sorts}
use Rattle.hal_code.specs.Flow.{flow_of}

-- how many operands lie on the deepest of some stacks
abbrev pub deepest : List Sorts → ℕ
deepest [] = 0
deepest (stack ∷ stacks) = max (length stack) (deepest stacks)

-- how many the block with this number has at most
abbrev pub depth_of : ImageParts → ℕ → ℕ
depth_of image number = elim (slice_get image.blocks number) [ None ↦ 0 | Some block ↦ deepest (flow_of image block number (code_of image block)).stacks ]

-- how many the blocks with smaller numbers than this have together
abbrev pub room_below : ImageParts → ℕ → ℕ
room_below image zero = 0
room_below image (suc number) = room_below image number + depth_of image number

-- those of the blocks that called
abbrev pub saved_count : List Frame → ℕ
saved_count [] = 0
saved_count (f ∷ fs) = elim f.back [ None ↦ saved_count fs | Some back ↦ length back.stack + saved_count fs ]

-- all operands of a core
abbrev pub operand_count : Core → ℕ
operand_count c = length c.stack + saved_count c.frames
