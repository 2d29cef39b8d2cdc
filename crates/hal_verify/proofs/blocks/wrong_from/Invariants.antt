use Rattle.std.proofs.Common.{◌≡◌, drop}
use Rattle.hal_code.specs.Right.{wrong_instr}
use Rattle.hal_verify.specs.Holding.{IsHeld}
use Rattle.hal_verify.proofs.blocks.wrong_from.Given as goal

abbrev pub invariant-loop-number : goal.invariant-loop-number
invariant-loop-number l = (wrong_instr l.image l.outward l.number (drop l.number l.blocks) ≡ wrong_instr l.image l.outward 0 l.blocks) × IsHeld l.image l.held
