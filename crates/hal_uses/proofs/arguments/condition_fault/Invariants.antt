use Rattle.std.proofs.Common.{◌≡◌, map, drop}
use Rattle.hal_tree.specs.Rows.{expressions}
use Rattle.hal_tree.specs.SeenExpressions.{seen_expression}
use Rattle.hal_names.specs.SeenNames.{seen_names}
use Rattle.hal_uses.specs.Calls.{condition_fault}
use Rattle.hal_uses.proofs.arguments.condition_fault.Given as goal

abbrev pub invariant-loop-tree : goal.invariant-loop-tree
invariant-loop-tree l =
    condition_fault (seen_names l.names) l.block (expressions (map seen_expression (drop l.tree-index l.arguments))) ≡ condition_fault (seen_names l.names) l.block (expressions (map seen_expression l.arguments))
