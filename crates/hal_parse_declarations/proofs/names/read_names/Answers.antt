use Rattle.hal_tree.specs.SeenLeaves.{seen_name}
use Rattle.hal_parse_expr.specs.Reading.{after_comma, name_at}
use Rattle.hal_parse_expr.specs.Seen.{seen_as, seen_as_list}
use Rattle.hal_parse_expr.proofs.Loops.{loop_smaller, loop_step, loop_end}
use Rattle.hal_parse_expr.proofs.Shortening.{name_shortens}
use Rattle.hal_parse_expr.proofs.ShorteningExpressions.{comma_shortens}
use Rattle.hal_parse_declarations.specs.ReadingDeclarations.{names_at}
use Rattle.hal_parse_declarations.proofs.CodeLists.{list_read}
use Rattle.hal_parse_declarations.proofs.names.read_names.Goals as goal

pub list-smaller : goal.list-smaller
unfolding seen_as
list-smaller c = loop_smaller (after_comma name_at) (comma_shortens name_at name_shortens) c.in-Some-further_name.ensures

pub list-preserved : goal.list-preserved
unfolding seen_as
list-preserved c = rw c.in_ok-push-2.ensures.items (loop_step seen_name (after_comma name_at) (comma_shortens name_at name_shortens) c.list.list.items c.in-Some-further_name.next c.in-Some-further_name.ensures c.list.invariant)

pub returns : goal.returns
unfolding seen_as seen_as_list names_at
returns c = list_read name_at c.in-Some.ensures
    (loop_end seen_name (after_comma name_at) c.list.list.items c.in_default-further_name.ensures (rw c.new-list.ensures.items at (rw c.in_ok-push.ensures.items at c.list.invariant)))
