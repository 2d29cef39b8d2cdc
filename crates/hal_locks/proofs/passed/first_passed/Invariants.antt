use Rattle.std.proofs.Common.{◌≡◌, map, length}
use Rattle.hal_tree.specs.SeenExpressions.{seen_reference}
use Rattle.hal_tree.specs.SeenLeaves.{seen_name}
use Rattle.hal_names.specs.SeenNames.{seen_names}
use Rattle.hal_locks.specs.Passed.{first_passed}
use Rattle.hal_locks.proofs.passed.first_passed.Given as goal

abbrev pub invariant-loop-parameter : goal.invariant-loop-parameter
invariant-loop-parameter l =
    first_passed (seen_names l.names) l.block l.called (map seen_name l.left) (map seen_reference l.right)
    ≡ first_passed (seen_names l.names) l.block l.called (map seen_name l.outputs) (map seen_reference l.references)

abbrev pub decreases-loop-parameter : goal.decreases-loop-parameter
decreases-loop-parameter l = length l.left
