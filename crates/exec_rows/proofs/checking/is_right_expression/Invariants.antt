use Rattle.std.proofs.Common.{◌≡◌, ◌≤◌, drop}
use Rattle.hal_values.specs.Tables.{event_count}
use Rattle.exec_rows.specs.Checks.{is_postfix}
use Rattle.exec_rows.proofs.checking.is_right_expression.Given as goal

abbrev pub invariant-loop-item : goal.invariant-loop-item
invariant-loop-item l = (is_postfix (event_count l.tables) 0 l.items ≡ is_postfix (event_count l.tables) l.operands (drop l.item-index l.items)) × (l.operands ≤ l.item-index)
