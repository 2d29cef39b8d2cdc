use Rattle.hal_tree.specs.SeenDeclarations.{seen_declared}
use Rattle.hal_parse_expr.specs.Reading.{after_comma}
use Rattle.hal_parse_expr.specs.Seen.{seen_as, seen_as_list}
use Rattle.hal_parse_expr.proofs.Loops.{loop_smaller, loop_step, loop_end}
use Rattle.hal_parse_expr.proofs.ShorteningExpressions.{comma_shortens}
use Rattle.hal_parse_declarations.specs.ReadingDeclarations.{declared_at}
use Rattle.hal_parse_declarations.proofs.CodeLists.{list_read}
use Rattle.hal_parse_declarations.proofs.ItemsRead.{declared_shortens}
use Rattle.hal_parse_declarations.proofs.items.item_list.Goals as goal

pub list-smaller : goal.list-smaller
unfolding seen_as
list-smaller c = loop_smaller (after_comma (declared_at c.args.depth)) (comma_shortens (declared_at c.args.depth) (declared_shortens c.args.depth)) (rw c.in-Some-2.is at c.in_ok-next.ensures)

pub list-preserved : goal.list-preserved
unfolding seen_as
list-preserved c = rw c.in_ok-push-2.ensures.items (loop_step seen_declared (after_comma (declared_at c.args.depth)) (comma_shortens (declared_at c.args.depth) (declared_shortens c.args.depth)) c.list.list.items c.in-Some-2.next (rw c.in-Some-2.is at c.in_ok-next.ensures) c.list.invariant)

pub returns : goal.returns
unfolding seen_as seen_as_list
returns c = list_read (declared_at c.args.depth) (rw c.in-Some.is at c.in_ok-first.ensures)
    (loop_end seen_declared (after_comma (declared_at c.args.depth)) c.list.list.items (rw c.in_default-2.is at c.in_ok-next.ensures) (rw c.new-list.ensures.items at (rw c.in_ok-push.ensures.items at c.list.invariant)))
