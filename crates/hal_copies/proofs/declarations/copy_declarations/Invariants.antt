use Rattle.std.proofs.Common.{◌≡◌, map, take}
use Rattle.hal_tree.specs.SeenDeclarations.{seen_declaration}
use Rattle.hal_copies.proofs.declarations.copy_declarations.Given as goal

abbrev pub invariant-loop-tree : goal.invariant-loop-tree
invariant-loop-tree l = map seen_declaration l.copied.items ≡ map seen_declaration (take l.tree-index l.trees)
