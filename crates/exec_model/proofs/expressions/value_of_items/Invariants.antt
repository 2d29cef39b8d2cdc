use Rattle.std.proofs.Common.{◌≡◌, drop, reverse, []}
use Rattle.exec_model.specs.Expressions.{items_applied}
use Rattle.exec_model.specs.Moments.{event_in}
use Rattle.exec_model.proofs.expressions.value_of_items.Given as goal

abbrev pub invariant-loop-item : goal.invariant-loop-item
invariant-loop-item l =
    items_applied (event_in l.tables l.rows l.events) (drop l.item-index l.items) (reverse l.operands.items) ≡ items_applied (event_in l.tables l.rows l.events) l.items []
