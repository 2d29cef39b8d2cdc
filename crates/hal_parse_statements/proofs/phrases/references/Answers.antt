use Rattle.hal_tree.specs.SeenExpressions.{seen_reference}
use Rattle.hal_parse_expr.specs.Reading.{after_comma}
use Rattle.hal_parse_expr.specs.ReadingExpressions.{reference_at}
use Rattle.hal_parse_expr.specs.Seen.{seen_as, seen_as_list}
use Rattle.hal_parse_expr.proofs.Loops.{loop_smaller, loop_step, loop_end}
use Rattle.hal_parse_expr.proofs.ShorteningExpressions.{comma_shortens}
use Rattle.hal_parse_expr.proofs.ShorteningPrimaries.{reference_shortens}
use Rattle.hal_parse_statements.specs.ReadingStatements.{references_at}
use Rattle.hal_parse_declarations.proofs.CodeLists.{list_read}
use Rattle.hal_parse_statements.proofs.phrases.references.Goals as goal

pub list-smaller : goal.list-smaller
unfolding seen_as
list-smaller c = loop_smaller (after_comma (reference_at c.args.depth)) (comma_shortens (reference_at c.args.depth) (reference_shortens c.args.depth)) (rw c.in-Some-2.is at c.in_ok-next.ensures)

pub list-preserved : goal.list-preserved
unfolding seen_as
list-preserved c = rw c.in_ok-push-2.ensures.items (loop_step seen_reference (after_comma (reference_at c.args.depth)) (comma_shortens (reference_at c.args.depth) (reference_shortens c.args.depth)) c.list.list.items c.in-Some-2.next (rw c.in-Some-2.is at c.in_ok-next.ensures) c.list.invariant)

pub returns : goal.returns
unfolding seen_as seen_as_list references_at
returns c = list_read (reference_at c.args.depth) (rw c.in-Some.is at c.in_ok-first.ensures)
    (loop_end seen_reference (after_comma (reference_at c.args.depth)) c.list.list.items (rw c.in_default-2.is at c.in_ok-next.ensures) (rw c.new-list.ensures.items at (rw c.in_ok-push.ensures.items at c.list.invariant)))
