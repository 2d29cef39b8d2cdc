use Rattle.hal_tree.specs.SeenExpressions.{seen_expression}
use Rattle.hal_tree.specs.SeenStatements.{seen_span}
use Rattle.hal_parse_expr.specs.Reading.{after_comma}
use Rattle.hal_parse_expr.specs.ReadingExpressions.{expression_at}
use Rattle.hal_parse_expr.specs.Seen.{seen_as}
use Rattle.hal_parse_expr.proofs.Loops.{loop_smaller, loop_step, loop_end}
use Rattle.hal_parse_expr.proofs.ShorteningExpressions.{comma_shortens}
use Rattle.hal_parse_statements.proofs.CodeLists.{expression_at_shortens, listed_read}
use Rattle.hal_parse_statements.proofs.conditions.listed.Goals as goal

pub values-smaller : goal.values-smaller
unfolding seen_as
values-smaller c = loop_smaller (after_comma (expression_at c.args.depth)) (comma_shortens (expression_at c.args.depth) (expression_at_shortens c.args.depth)) (rw c.in-Some.is at c.in_ok-next.ensures)

pub values-preserved : goal.values-preserved
unfolding seen_as
values-preserved c = rw c.in_ok-push-2.ensures.items (loop_step seen_expression (after_comma (expression_at c.args.depth)) (comma_shortens (expression_at c.args.depth) (expression_at_shortens c.args.depth)) c.values.values.items c.in-Some.next (rw c.in-Some.is at c.in_ok-next.ensures) c.values.invariant)

pub returns : goal.returns
unfolding seen_as seen_span
returns c = listed_read c.args.depth c.args.words.now
    (loop_end seen_expression (after_comma (expression_at c.args.depth)) c.values.values.items (rw c.in_default.is at c.in_ok-next.ensures) (rw c.new-values.ensures.items at (rw c.in_ok-push.ensures.items at c.values.invariant)))
