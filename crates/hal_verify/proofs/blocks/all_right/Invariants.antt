use Rattle.std.proofs.Common.{◌≡◌, drop}
use Rattle.std.specs.List.{list_all}
use Rattle.hal_code.specs.Right.{block_right}
use Rattle.hal_verify.proofs.blocks.all_right.Given as goal

abbrev pub invariant-loop-block : goal.invariant-loop-block
invariant-loop-block l = list_all (block_right l.image) (drop l.block-index l.blocks) ≡ list_all (block_right l.image) l.blocks
