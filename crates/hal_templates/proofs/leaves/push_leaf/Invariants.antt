use Rattle.std.proofs.Common.{◌≡◌, ◌++◌, replicate}
use Rattle.hal_tree.specs.SeenDeclarations.{seen_initial}
use Rattle.hal_templates.specs.Leaves.{seen_leaves}
use Rattle.hal_templates.proofs.leaves.push_leaf.Given as goal

abbrev pub invariant-loop-fewer : goal.invariant-loop-fewer
invariant-loop-fewer l = seen_leaves l.into.items ++ replicate l.left (seen_initial l.leaf) ≡ seen_leaves l.fn.into.items ++ replicate l.count (seen_initial l.leaf)

abbrev pub decreases-loop-fewer : goal.decreases-loop-fewer
decreases-loop-fewer l = l.left
