use Rattle.std.proofs.Common.{◌≡◌, map, drop}
use Rattle.hal_tree.specs.SeenUnits.{seen_element}
use Rattle.hal_storage.specs.sets.SeenBodies.{lent_unit}
use Rattle.hal_storage.specs.sets.Units.{with_members}
use Rattle.hal_storage.proofs.sets.units.+units.Given as goal

abbrev pub invariant-push_elements-loop-tree : goal.invariant-push_elements-loop-tree
invariant-push_elements-loop-tree l =
    with_members (map lent_unit l.into.items) (map seen_element (drop l.tree-index l.trees)) ≡ with_members (map lent_unit l.fn.into.items) (map seen_element l.trees)
