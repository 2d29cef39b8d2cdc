use Rattle.std.proofs.Common.{◌≡◌, map, drop}
use Rattle.hal_tree.specs.Rows.{expressions}
use Rattle.hal_tree.specs.SeenExpressions.{seen_expression}
use Rattle.hal_names.specs.SeenNames.{seen_names}
use Rattle.hal_operands.specs.Pairs.{mixed_behind}
use Rattle.hal_operands.proofs.pairs.mixed_behind.Given as goal

abbrev pub invariant-loop-tree : goal.invariant-loop-tree
invariant-loop-tree l =
    mixed_behind (seen_names l.names) l.block l.place l.before (expressions (map seen_expression (drop l.tree-index l.trees))) ≡ mixed_behind (seen_names l.names) l.block l.place l.fn.first (expressions (map seen_expression l.trees))
