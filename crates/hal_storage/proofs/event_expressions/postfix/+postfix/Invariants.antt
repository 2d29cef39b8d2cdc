use Rattle.std.proofs.Common.{◌≡◌, map, drop}
use Rattle.hal_tree.specs.Rows.{expressions}
use Rattle.hal_tree.specs.SeenExpressions.{seen_expression}
use Rattle.hal_names.specs.SeenNames.{seen_names}
use Rattle.hal_meaning.specs.Events.{postfix_joined}
use Rattle.hal_storage.proofs.event_expressions.postfix.+postfix.Given as goal

abbrev pub invariant-push_joined-loop-tree : goal.invariant-push_joined-loop-tree
invariant-push_joined-loop-tree l =
    postfix_joined (seen_names l.names) l.block l.joint l.into.items (expressions (map seen_expression (drop l.tree-index l.others)))
    ≡ postfix_joined (seen_names l.names) l.block l.joint l.fn.into.items (expressions (map seen_expression l.others))
