use Rattle.std.proofs.Common.{◌≡◌, map, length}
use Rattle.hal_tree.specs.SeenDeclarations.{seen_part}
use Rattle.hal_tree.specs.SeenLeaves.{seen_name}
use Rattle.hal_shapes.specs.Paths.{reached}
use Rattle.hal_shapes.proofs.paths.reached.Given as goal

abbrev pub invariant-loop-next : goal.invariant-loop-next
invariant-loop-next l = reached l.level (map seen_part l.here) (map seen_name l.rest) ≡ reached 1 (map seen_part l.parts) (map seen_name l.path)

abbrev pub decreases-loop-next : goal.decreases-loop-next
decreases-loop-next l = length l.rest
