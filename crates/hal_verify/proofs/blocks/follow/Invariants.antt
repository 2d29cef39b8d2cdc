use Rattle.std.proofs.Common.{◌≡◌, drop}
use Rattle.hal_code.specs.Right.{follow}
use Rattle.hal_verify.proofs.blocks.follow.Given as goal

abbrev pub invariant-loop-block : goal.invariant-loop-block
invariant-loop-block l = follow l.size l.from (drop l.block-index l.blocks) ≡ follow l.size 0 l.blocks
