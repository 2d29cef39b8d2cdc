use Rattle.hal_tree.specs.SeenDeclarations.{seen_attribute}
use Rattle.hal_parse_expr.specs.Seen.{seen_as, seen_list}
use Rattle.hal_parse_expr.proofs.Loops.{loop_smaller, loop_step, loop_end}
use Rattle.hal_parse_declarations.specs.ReadingDeclarations.{attribute_at, attributes_at}
use Rattle.hal_parse_declarations.proofs.AttributesRead.{attribute_shortens}
use Rattle.hal_parse_declarations.proofs.attributes.attributes.Goals as goal

pub attributes-smaller : goal.attributes-smaller
unfolding seen_as
attributes-smaller c = loop_smaller (attribute_at c.args.depth) (attribute_shortens c.args.depth) (rw c.in-Some.is at c.in_ok-next.ensures)

pub attributes-preserved : goal.attributes-preserved
unfolding seen_as
attributes-preserved c = rw c.in_ok-push.ensures.items (loop_step seen_attribute (attribute_at c.args.depth) (attribute_shortens c.args.depth) c.attributes.attributes.items c.in-Some.next (rw c.in-Some.is at c.in_ok-next.ensures) c.attributes.invariant)

pub returns : goal.returns
unfolding seen_as seen_list attributes_at
returns c = loop_end seen_attribute (attribute_at c.args.depth) c.attributes.attributes.items (rw c.in_default.is at c.in_ok-next.ensures) c.attributes.invariant
