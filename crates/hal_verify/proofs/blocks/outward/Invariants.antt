use Rattle.std.proofs.Common.{◌≡◌, drop}
use Rattle.hal_code.specs.Blocks.{outward_from, outward}
use Rattle.hal_verify.proofs.blocks.outward.Given as goal

abbrev pub invariant-loop-block : goal.invariant-loop-block
invariant-loop-block l = outward_from l.image l.known.items (drop l.block-index l.blocks) ≡ outward l.image
