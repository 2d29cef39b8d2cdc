use Rattle.std.proofs.Common.{◌≡◌, map, take}
use Rattle.hal_tree.specs.SeenExpressions.{seen_reference}
use Rattle.hal_copies.proofs.expressions.copy_references.Given as goal

abbrev pub invariant-loop-tree : goal.invariant-loop-tree
invariant-loop-tree l = map seen_reference l.copied.items ≡ map seen_reference (take l.tree-index l.trees)
