use Rattle.std.proofs.Common.{◌≡◌, map, take}
use Rattle.hal_tree.specs.SeenDeclarations.{seen_attribute}
use Rattle.hal_copies.proofs.declarations.copy_attributes.Given as goal

abbrev pub invariant-loop-tree : goal.invariant-loop-tree
invariant-loop-tree l = map seen_attribute l.copied.items ≡ map seen_attribute (take l.tree-index l.trees)
