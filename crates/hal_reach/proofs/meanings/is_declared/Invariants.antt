use Rattle.std.proofs.Common.{◌≡◌, map, drop}
use Rattle.std.specs.List.{list_any}
use Rattle.hal_tree.specs.SeenDeclarations.{seen_declaration}
use Rattle.hal_meaning.specs.Bodies.{declares}
use Rattle.hal_reach.proofs.meanings.is_declared.Given as goal

abbrev pub invariant-loop-tree : goal.invariant-loop-tree
invariant-loop-tree l =
    list_any (declares l.name) (map seen_declaration (drop l.tree-index l.trees)) ≡ list_any (declares l.name) (map seen_declaration l.trees)
