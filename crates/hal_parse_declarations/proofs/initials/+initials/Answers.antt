use Rattle.hal_tree.specs.SeenDeclarations.{seen_initial}
use Rattle.hal_parse_expr.specs.Reading.{after_comma}
use Rattle.hal_parse_expr.specs.Seen.{seen_as, seen_as_list}
use Rattle.hal_parse_expr.proofs.Loops.{loop_smaller, loop_step, loop_end}
use Rattle.hal_parse_expr.proofs.ShorteningExpressions.{comma_shortens}
use Rattle.hal_parse_declarations.specs.ReadingDeclarations.{initial_of, initials_below}
use Rattle.hal_parse_declarations.proofs.CodeInitials.{initials_read}
use Rattle.hal_parse_declarations.proofs.ReadersShorten.{initial_below_shortens}
use Rattle.hal_parse_declarations.proofs.initials.+initials.Goals as goal

pub initials-list-smaller : goal.initials-list-smaller
unfolding seen_as
initials-list-smaller t c =
    loop_smaller (after_comma (initial_of c.args.depth (initials_below c.args.depth))) (comma_shortens (initial_of c.args.depth (initials_below c.args.depth)) (initial_below_shortens c.args.depth)) (rw c.in-Some-2.is at c.in_ok-next.ensures)

pub initials-list-preserved : goal.initials-list-preserved
unfolding seen_as
initials-list-preserved t c =
    rw c.in_ok-push-2.ensures.items (loop_step seen_initial (after_comma (initial_of c.args.depth (initials_below c.args.depth))) (comma_shortens (initial_of c.args.depth (initials_below c.args.depth)) (initial_below_shortens c.args.depth)) c.list.list.items c.in-Some-2.next (rw c.in-Some-2.is at c.in_ok-next.ensures) c.list.invariant)

pub initials-returns : goal.initials-returns
unfolding seen_as seen_as_list
initials-returns t c = initials_read c.args.depth c.args.words.now (rw c.in-Some.is at c.in_ok-first.ensures)
    (loop_end seen_initial (after_comma (initial_of c.args.depth (initials_below c.args.depth))) c.list.list.items (rw c.in_default-2.is at c.in_ok-next.ensures) (rw c.new-list.ensures.items at (rw c.in_ok-push.ensures.items at c.list.invariant)))
