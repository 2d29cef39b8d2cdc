use Rattle.std.proofs.Common.{◌≡◌, drop}
use Rattle.hal_verify.specs.Marking.{mark_blocks}
use Rattle.hal_verify.proofs.marking.mark_blocks.Given as goal

abbrev pub invariant-loop-block : goal.invariant-loop-block
invariant-loop-block l = mark_blocks l.image l.process l.marks.items (drop l.block-index l.blocks) ≡ mark_blocks l.image l.process l.fn.marks.items l.blocks
