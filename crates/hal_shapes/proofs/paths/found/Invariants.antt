use Rattle.std.proofs.Common.{◌≡◌, map, length}
use Rattle.hal_tree.specs.SeenDeclarations.{seen_part}
use Rattle.hal_shapes.specs.Paths.{found}
use Rattle.hal_shapes.proofs.paths.found.Given as goal

abbrev pub invariant-loop-part : goal.invariant-loop-part
invariant-loop-part l = found l.level l.name (map seen_part l.rest) ≡ found l.level l.name (map seen_part l.parts)

abbrev pub decreases-loop-part : goal.decreases-loop-part
decreases-loop-part l = length l.rest
