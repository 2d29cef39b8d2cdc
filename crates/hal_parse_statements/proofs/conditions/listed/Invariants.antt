use Rattle.std.proofs.Common.{◌≡◌, length, map}
use Rattle.hal_tree.specs.SeenExpressions.{seen_expression}
use Rattle.hal_parse_expr.specs.Reading.{all, after_comma}
use Rattle.hal_parse_expr.specs.ReadingExpressions.{expression_at}
use Rattle.hal_parse_expr.proofs.Loops.{with_front}
use Rattle.hal_parse_statements.proofs.conditions.listed.Given as goal

abbrev pub invariant-values : goal.invariant-values
invariant-values l = with_front (map seen_expression l.values.items) (all (after_comma (expression_at l.depth)) l.rest) ≡ with_front (map seen_expression l.initial.values.items) (all (after_comma (expression_at l.depth)) l.initial.rest)

abbrev pub decreases-values : goal.decreases-values
decreases-values l = length l.rest
