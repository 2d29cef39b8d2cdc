use Rattle.std.proofs.Common.{◌≡◌, drop}
use Rattle.std.specs.List.{list_all}
use Rattle.hal_code.specs.Right.{postfix_right}
use Rattle.hal_code.specs.Operands.{events_of}
use Rattle.hal_verify.proofs.tables.expressions_right.Given as goal

abbrev pub invariant-loop-items : goal.invariant-loop-items
invariant-loop-items l = list_all (postfix_right (events_of l.image) 0) (drop l.items-index l.expressions) ≡ list_all (postfix_right (events_of l.image) 0) l.expressions
