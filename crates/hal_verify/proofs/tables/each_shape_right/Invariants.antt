use Rattle.std.proofs.Common.{◌≡◌, drop}
use Rattle.std.specs.List.{list_all}
use Rattle.hal_code.specs.Right.{shape_right}
use Rattle.hal_verify.proofs.tables.each_shape_right.Given as goal

abbrev pub invariant-loop-runs : goal.invariant-loop-runs
invariant-loop-runs l = list_all shape_right (drop l.runs-index l.shapes) ≡ list_all shape_right l.shapes
