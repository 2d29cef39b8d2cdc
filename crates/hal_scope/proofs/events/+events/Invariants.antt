use Rattle.std.proofs.Common.{◌≡◌, map, drop}
use Rattle.hal_tree.specs.Rows.{expressions}
use Rattle.hal_tree.specs.SeenExpressions.{seen_expression}
use Rattle.hal_names.specs.SeenNames.{seen_names}
use Rattle.hal_scope.specs.Uses.{hold_event}
use Rattle.hal_scope.proofs.events.+events.Given as goal

abbrev pub invariant-hold_event-loop-tree : goal.invariant-hold_event-loop-tree
invariant-hold_event-loop-tree l =
    hold_event (seen_names l.names) l.block (expressions (map seen_expression (drop l.tree-index l.trees))) ≡ hold_event (seen_names l.names) l.block (expressions (map seen_expression l.trees))
