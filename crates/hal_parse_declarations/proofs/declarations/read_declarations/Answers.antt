use Rattle.hal_tree.specs.SeenDeclarations.{seen_declaration}
use Rattle.hal_parse_expr.specs.Seen.{seen_as, seen_list}
use Rattle.hal_parse_expr.proofs.Loops.{loop_smaller, loop_step, loop_end}
use Rattle.hal_parse_declarations.specs.ReadingDeclarations.{declaration_at, declarations_at}
use Rattle.hal_parse_declarations.proofs.DeclarationsRead.{declaration_shortens}
use Rattle.hal_parse_declarations.proofs.declarations.read_declarations.Goals as goal

pub declarations-smaller : goal.declarations-smaller
unfolding seen_as
declarations-smaller c = loop_smaller (declaration_at c.args.depth) (declaration_shortens c.args.depth) (rw c.in-Some.is at c.in_ok-next.ensures)

pub declarations-preserved : goal.declarations-preserved
unfolding seen_as
declarations-preserved c = rw c.in_ok-push.ensures.items (loop_step seen_declaration (declaration_at c.args.depth) (declaration_shortens c.args.depth) c.declarations.declarations.items c.in-Some.next (rw c.in-Some.is at c.in_ok-next.ensures) c.declarations.invariant)

pub returns : goal.returns
unfolding seen_as seen_list declarations_at
returns c = loop_end seen_declaration (declaration_at c.args.depth) c.declarations.declarations.items (rw c.in_default.is at c.in_ok-next.ensures) c.declarations.invariant
