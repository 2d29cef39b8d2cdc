use Rattle.std.proofs.Common.{◌≡◌, map, drop}
use Rattle.hal_tree.specs.Rows.{expressions}
use Rattle.hal_tree.specs.SeenExpressions.{seen_expression}
use Rattle.hal_meaning.specs.Expressions.{are_conditions}
use Rattle.hal_gen_expr.proofs.conditions.+conditions.Given as goal

abbrev pub invariant-are_conditions-loop-tree : goal.invariant-are_conditions-loop-tree
invariant-are_conditions-loop-tree l = are_conditions (expressions (map seen_expression (drop l.tree-index l.trees))) ≡ are_conditions (expressions (map seen_expression l.trees))
