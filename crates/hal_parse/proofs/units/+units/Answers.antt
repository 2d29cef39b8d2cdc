use Rattle.hal_tree.specs.SeenUnits.{seen_element}
use Rattle.hal_parse_expr.specs.Seen.{seen_as, seen_list}
use Rattle.hal_parse_expr.proofs.Loops.{loop_smaller, loop_step, loop_end}
use Rattle.hal_parse.specs.ReadingFiles.{element_of, block_at}
use Rattle.hal_parse.proofs.ReadersShorten.{element_below_shortens}
use Rattle.hal_parse.proofs.units.+units.Goals as goal

pub all_elements-elements-smaller : goal.all_elements-elements-smaller
unfolding seen_as
all_elements-elements-smaller t c =
    loop_smaller (element_of c.args.depth (block_at c.args.depth)) (element_below_shortens c.args.depth) (rw c.in-Some.is at c.in_ok-next.ensures)

pub all_elements-elements-preserved : goal.all_elements-elements-preserved
unfolding seen_as
all_elements-elements-preserved t c =
    rw c.in_ok-push.ensures.items (loop_step seen_element (element_of c.args.depth (block_at c.args.depth)) (element_below_shortens c.args.depth) c.elements.elements.items c.in-Some.next (rw c.in-Some.is at c.in_ok-next.ensures) c.elements.invariant)

pub all_elements-returns : goal.all_elements-returns
unfolding seen_as seen_list
all_elements-returns t c =
    loop_end seen_element (element_of c.args.depth (block_at c.args.depth)) c.elements.elements.items (rw c.in_default.is at c.in_ok-next.ensures) c.elements.invariant
