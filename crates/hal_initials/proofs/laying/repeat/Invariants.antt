use Rattle.std.proofs.Common.{◌≡◌, ◌++◌, []}
use Rattle.hal_tree.specs.SeenDeclarations.{seen_part}
use Rattle.hal_initials.specs.SeenCells.{seen_cells}
use Rattle.hal_initials.specs.Falling.{repeated}
use Rattle.hal_initials.proofs.laying.repeat.Given as goal

abbrev pub invariant-loop-fewer : goal.invariant-loop-fewer
invariant-loop-fewer l = seen_cells l.into.items ++ repeated l.left (seen_part l.part) [] ≡ seen_cells l.fn.into.items ++ repeated l.times (seen_part l.part) []

abbrev pub decreases-loop-fewer : goal.decreases-loop-fewer
decreases-loop-fewer l = l.left
