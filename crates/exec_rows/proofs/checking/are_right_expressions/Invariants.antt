use Rattle.std.specs.List.{list_all}
use Rattle.std.proofs.Common.{◌≡◌, drop}
use Rattle.hal_values.specs.Tables.{event_count}
use Rattle.exec_rows.specs.Checks.{is_postfix}
use Rattle.exec_rows.proofs.checking.are_right_expressions.Given as goal

abbrev pub invariant-loop-expression : goal.invariant-loop-expression
invariant-loop-expression l = list_all (is_postfix (event_count l.tables) 0) l.expressions ≡ list_all (is_postfix (event_count l.tables) 0) (drop l.expression-index l.expressions)
