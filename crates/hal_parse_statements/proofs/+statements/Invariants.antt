use Rattle.std.proofs.Common.{◌≡◌, ◌+◌, ◌*◌, length, map}
use Rattle.hal_tree.specs.SeenStatements.{seen_statement}
use Rattle.hal_parse_expr.specs.Reading.{all}
use Rattle.hal_parse_expr.proofs.Loops.{with_front}
use Rattle.hal_parse_declarations.specs.ReadingDeclarations.{where_left}
use Rattle.hal_parse_statements.specs.ReadingStatements.{statement_below}
use Rattle.hal_parse_statements.proofs.+statements.Given as goal

abbrev pub decreases-branches::alternative : goal.decreases-branches::alternative
decreases-branches::alternative l = 64 * l.depth + 1

abbrev pub decreases-branches::case : goal.decreases-branches::case
decreases-branches::case l = 64 * l.depth + 3

abbrev pub decreases-branches::chosen : goal.decreases-branches::chosen
decreases-branches::chosen l = 64 * l.depth + 2

abbrev pub decreases-branches::conditional : goal.decreases-branches::conditional
decreases-branches::conditional l = 64 * l.depth + 3

abbrev pub decreases-groups::for_loop : goal.decreases-groups::for_loop
decreases-groups::for_loop l = 64 * l.depth + 4

abbrev pub decreases-groups::group_behind : goal.decreases-groups::group_behind
decreases-groups::group_behind l = 64 * l.depth + 6

abbrev pub decreases-groups::grouped : goal.decreases-groups::grouped
decreases-groups::grouped l = 64 * l.depth + 5

abbrev pub decreases-groups::plain_group : goal.decreases-groups::plain_group
decreases-groups::plain_group l = 64 * l.depth + 3

abbrev pub decreases-groups::range : goal.decreases-groups::range
decreases-groups::range l = 64 * l.depth + 3

abbrev pub decreases-groups::until_loop : goal.decreases-groups::until_loop
decreases-groups::until_loop l = 64 * l.depth + 3

abbrev pub decreases-groups::while_loop : goal.decreases-groups::while_loop
decreases-groups::while_loop l = 64 * l.depth + 3

abbrev pub decreases-handlers::handled : goal.decreases-handlers::handled
decreases-handlers::handled l = 64 * l.depth + 1

abbrev pub decreases-handlers::on_error : goal.decreases-handlers::on_error
decreases-handlers::on_error l = 64 * l.depth + 2

abbrev pub decreases-inside::all_inside : goal.decreases-inside::all_inside
decreases-inside::all_inside l = 64 * l.depth + 1

abbrev pub decreases-inside::group : goal.decreases-inside::group
decreases-inside::group l = 64 * l.depth + 2

abbrev pub decreases-inside::inside : goal.decreases-inside::inside
decreases-inside::inside l = 64 * l.depth + 0

abbrev pub decreases-statements::basic : goal.decreases-statements::basic
decreases-statements::basic l = 64 * l.depth + 8

abbrev pub decreases-statements::begun : goal.decreases-statements::begun
decreases-statements::begun l = 64 * l.depth + 7

abbrev pub decreases-statements::read_statement : goal.decreases-statements::read_statement
decreases-statements::read_statement l = 64 * l.depth + 9

abbrev pub decreases-updates::update : goal.decreases-updates::update
decreases-updates::update l = 64 * l.depth + 3

abbrev pub decreases-updates::update_block : goal.decreases-updates::update_block
decreases-updates::update_block l = 64 * l.depth + 2

abbrev pub invariant-inside::all_inside-statements : goal.invariant-inside::all_inside-statements
invariant-inside::all_inside-statements l = with_front (map seen_statement l.statements.items) (all (where_left (statement_below l.depth)) l.rest) ≡ all (where_left (statement_below l.depth)) l.words

abbrev pub decreases-inside::all_inside-statements : goal.decreases-inside::all_inside-statements
decreases-inside::all_inside-statements l = length l.rest
