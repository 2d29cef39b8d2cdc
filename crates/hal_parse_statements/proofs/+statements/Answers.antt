use Rattle.hal_tree.specs.SeenStatements.{seen_statement}
use Rattle.hal_parse_expr.specs.Seen.{seen_as, seen_list}
use Rattle.hal_parse_expr.proofs.Loops.{loop_smaller, loop_step, loop_end}
use Rattle.hal_parse_declarations.specs.ReadingDeclarations.{where_left}
use Rattle.hal_parse_statements.specs.ReadingStatements.{statement_below, statements_of}
use Rattle.hal_parse_statements.proofs.CodeWords.{nothing_begun, nothing_grouped}
use Rattle.hal_parse_statements.proofs.ReadersShorten.{statement_below_shortens}
use Rattle.hal_parse_statements.proofs.+statements.Goals as goal

pub inside::all_inside-statements-smaller : goal.inside::all_inside-statements-smaller
unfolding seen_as
inside::all_inside-statements-smaller t c = loop_smaller (where_left (statement_below c.args.depth)) (statement_below_shortens c.args.depth) (rw c.in-Some.is at c.in_ok-next.ensures)

pub inside::all_inside-statements-preserved : goal.inside::all_inside-statements-preserved
unfolding seen_as
inside::all_inside-statements-preserved t c =
    rw c.in_ok-push.ensures.items (loop_step seen_statement (where_left (statement_below c.args.depth)) (statement_below_shortens c.args.depth) c.statements.statements.items c.in-Some.next (rw c.in-Some.is at c.in_ok-next.ensures) c.statements.invariant)

pub inside::all_inside-returns : goal.inside::all_inside-returns
unfolding seen_as seen_list statements_of
inside::all_inside-returns t c = loop_end seen_statement (where_left (statement_below c.args.depth)) c.statements.statements.items (rw c.in_default.is at c.in_ok-next.ensures) c.statements.invariant

pub statements::basic-returns-in_default-begun_by : goal.statements::basic-returns-in_default-begun_by
unfolding seen_as
statements::basic-returns-in_default-begun_by t c = nothing_begun c.args.depth (statement_below c.args.depth) c.in-Some.ensures.cases.0 c.in_default-begun_by.ensures

pub groups::group_behind-returns-in_default-grouped_by : goal.groups::group_behind-returns-in_default-grouped_by
unfolding seen_as
groups::group_behind-returns-in_default-grouped_by t c = nothing_grouped c.args.depth (statement_below c.args.depth) c.args.place c.in-Some.ensures.cases.0 c.in_default-grouped_by.ensures
