use Rattle.std.proofs.Common.{◌≡◌, map, length}
use Rattle.hal_tree.specs.SeenLeaves.{seen_name}
use Rattle.hal_templates.specs.Heads.{same_names}
use Rattle.hal_templates.proofs.heads.same_names.Given as goal

abbrev pub invariant-loop-name : goal.invariant-loop-name
invariant-loop-name l = same_names (map seen_name l.left) (map seen_name l.right) ≡ same_names (map seen_name l.one) (map seen_name l.other)

abbrev pub decreases-loop-name : goal.decreases-loop-name
decreases-loop-name l = length l.left
