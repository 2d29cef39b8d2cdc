use Rattle.std.proofs.Common.{◌≡◌, drop}
use Rattle.hal_code.specs.Right.{shape_right}
use Rattle.hal_verify.proofs.tables.shape_right.Given as goal

abbrev pub invariant-loop-run : goal.invariant-loop-run
invariant-loop-run l = shape_right (drop l.run-index l.runs) ≡ shape_right l.runs
