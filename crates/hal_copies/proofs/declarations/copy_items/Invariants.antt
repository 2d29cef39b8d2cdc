use Rattle.std.proofs.Common.{◌≡◌, map, take}
use Rattle.hal_tree.specs.SeenDeclarations.{seen_declared}
use Rattle.hal_copies.proofs.declarations.copy_items.Given as goal

abbrev pub invariant-loop-tree : goal.invariant-loop-tree
invariant-loop-tree l = map seen_declared l.copied.items ≡ map seen_declared (take l.tree-index l.trees)
