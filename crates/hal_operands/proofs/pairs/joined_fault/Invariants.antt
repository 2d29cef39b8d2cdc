use Rattle.std.proofs.Common.{◌≡◌, map, drop}
use Rattle.hal_tree.specs.Rows.{expressions}
use Rattle.hal_tree.specs.SeenExpressions.{seen_expression}
use Rattle.hal_names.specs.SeenNames.{seen_names}
use Rattle.hal_operands.specs.Pairs.{joined_fault}
use Rattle.hal_operands.proofs.pairs.joined_fault.Given as goal

abbrev pub invariant-loop-tree : goal.invariant-loop-tree
invariant-loop-tree l =
    joined_fault (seen_names l.names) l.block l.before (expressions (map seen_expression (drop l.tree-index l.trees))) ≡ joined_fault (seen_names l.names) l.block l.fn.first (expressions (map seen_expression l.trees))
