use Rattle.hal_tree.specs.SeenLeaves.{seen_name}
use Rattle.hal_parse_expr.specs.Seen.{seen_as, seen_list}
use Rattle.hal_parse_expr.proofs.Loops.{loop_smaller, loop_step, loop_end}
use Rattle.hal_parse_declarations.specs.ReadingDeclarations.{label_at}
use Rattle.hal_parse_declarations.specs.ReadingNames.{labels_at}
use Rattle.hal_parse_declarations.proofs.DeclarationsRead.{label_shortens}
use Rattle.hal_parse_declarations.proofs.names.labels.Goals as goal

pub labels-smaller : goal.labels-smaller
unfolding seen_as
labels-smaller c = loop_smaller label_at label_shortens c.in-Some.ensures

pub labels-preserved : goal.labels-preserved
unfolding seen_as
labels-preserved c = rw c.in_ok-push.ensures.items (loop_step seen_name label_at label_shortens c.labels.labels.items c.in-Some.next c.in-Some.ensures c.labels.invariant)

pub returns : goal.returns
unfolding seen_as seen_list labels_at
returns c = loop_end seen_name label_at c.labels.labels.items c.in_default.ensures c.labels.invariant
