use Rattle.std.proofs.Common.{◌≡◌, ◌≤◌, drop}
use Rattle.hal_code.specs.Operands.{events_of}
use Rattle.hal_code.specs.Right.{postfix_right}
use Rattle.hal_verify.proofs.tables.postfix_right.Given as goal

abbrev pub invariant-loop-item : goal.invariant-loop-item
invariant-loop-item l = (postfix_right (events_of l.image) l.operands (drop l.item-index l.items) ≡ postfix_right (events_of l.image) 0 l.items) × (l.operands ≤ l.item-index)
