use Rattle.std.proofs.Common.{◌≡◌, ◌++◌, map, drop}
use Rattle.hal_tree.specs.Rows.{initials}
use Rattle.hal_tree.specs.SeenDeclarations.{seen_initial}
use Rattle.hal_templates.specs.Leaves.{all_leaves, seen_leaves, times}
use Rattle.hal_templates.proofs.leaves.+leaves.Given as goal

abbrev pub invariant-push_lists-loop-fewer : goal.invariant-push_lists-loop-fewer
invariant-push_lists-loop-fewer l =
    seen_leaves l.into.items ++ times l.left (all_leaves (initials (map seen_initial l.values))) ≡ seen_leaves l.fn.into.items ++ times l.count (all_leaves (initials (map seen_initial l.values)))

abbrev pub decreases-push_lists-loop-fewer : goal.decreases-push_lists-loop-fewer
decreases-push_lists-loop-fewer l = l.left

abbrev pub invariant-push_all-loop-initial : goal.invariant-push_all-loop-initial
invariant-push_all-loop-initial l =
    seen_leaves l.into.items ++ all_leaves (initials (map seen_initial (drop l.initial-index l.values))) ≡ seen_leaves l.fn.into.items ++ all_leaves (initials (map seen_initial l.values))
