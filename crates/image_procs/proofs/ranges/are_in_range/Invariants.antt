use Rattle.std.proofs.Common.{ℕ, ◌<◌}
use Rattle.hal_right_values.specs.Ranges.{IsInRangeAt}
use Rattle.image_procs.proofs.ranges.are_in_range.Given as goal

abbrev pub invariant-loop-instr : goal.invariant-loop-instr
invariant-loop-instr l = (at : ℕ) → at < l.instr-index → IsInRangeAt l.image at
