use Rattle.std.proofs.Common.{◌≡◌, map, take}
use Rattle.hal_tree.specs.SeenUnits.{seen_element}
use Rattle.hal_copies.proofs.units.+copying_units.Given as goal

abbrev pub invariant-copy_elements-loop-tree : goal.invariant-copy_elements-loop-tree
invariant-copy_elements-loop-tree l = map seen_element l.copied.items ≡ map seen_element (take l.tree-index l.trees)
