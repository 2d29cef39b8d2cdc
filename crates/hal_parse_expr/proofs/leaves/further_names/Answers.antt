use Rattle.hal_tree.specs.SeenLeaves.{seen_name}
use Rattle.hal_parse_expr.specs.ReadingExpressions.{further_at}
use Rattle.hal_parse_expr.specs.Seen.{seen_as, seen_list}
use Rattle.hal_parse_expr.proofs.Loops.{loop_smaller, loop_step, loop_end}
use Rattle.hal_parse_expr.proofs.ShorteningExpressions.{further_shortens}
use Rattle.hal_parse_expr.proofs.leaves.further_names.Goals as goal

-- src/leaves.rt:200:5
pub names-smaller : goal.names-smaller
unfolding seen_as
names-smaller c = loop_smaller further_at further_shortens c.in-Some.ensures

-- src/leaves.rt:200:5
pub names-preserved : goal.names-preserved
unfolding seen_as
names-preserved c = rw c.in_ok-push.ensures.items (loop_step seen_name further_at further_shortens c.names.names.items c.in-Some.name c.in-Some.ensures c.names.invariant)

-- src/leaves.rt:191:1
pub returns : goal.returns
unfolding seen_as seen_list
returns c = loop_end seen_name further_at c.names.names.items c.in_default.ensures c.names.invariant
