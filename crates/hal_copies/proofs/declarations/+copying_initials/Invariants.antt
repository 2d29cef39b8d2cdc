use Rattle.std.proofs.Common.{◌≡◌, map, take}
use Rattle.hal_tree.specs.SeenDeclarations.{seen_initial}
use Rattle.hal_copies.proofs.declarations.+copying_initials.Given as goal

abbrev pub invariant-copy_initials-loop-tree : goal.invariant-copy_initials-loop-tree
invariant-copy_initials-loop-tree l = map seen_initial l.copied.items ≡ map seen_initial (take l.tree-index l.trees)
