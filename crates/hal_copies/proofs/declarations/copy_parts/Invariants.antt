use Rattle.std.proofs.Common.{◌≡◌, map, take}
use Rattle.hal_tree.specs.SeenDeclarations.{seen_part}
use Rattle.hal_copies.proofs.declarations.copy_parts.Given as goal

abbrev pub invariant-loop-tree : goal.invariant-loop-tree
invariant-loop-tree l = map seen_part l.copied.items ≡ map seen_part (take l.tree-index l.trees)
