use Rattle.std.proofs.Common.{◌≡◌, ◌+◌, ◌*◌, length, map}
use Rattle.hal_tree.specs.SeenDeclarations.{seen_initial}
use Rattle.hal_parse_expr.specs.Reading.{all, after_comma}
use Rattle.hal_parse_expr.proofs.Loops.{with_front}
use Rattle.hal_parse_declarations.specs.ReadingDeclarations.{initial_of, initials_below}
use Rattle.hal_parse_declarations.proofs.initials.+initials.Given as goal

abbrev pub decreases-counted : goal.decreases-counted
decreases-counted l = 64 * l.depth + 1

abbrev pub decreases-counted_list : goal.decreases-counted_list
decreases-counted_list l = 64 * l.depth + 0

abbrev pub decreases-further_initial : goal.decreases-further_initial
decreases-further_initial l = 64 * l.depth + 3

abbrev pub decreases-initial : goal.decreases-initial
decreases-initial l = 64 * l.depth + 2

abbrev pub decreases-initials : goal.decreases-initials
decreases-initials l = 64 * l.depth + 4

abbrev pub invariant-initials-list : goal.invariant-initials-list
invariant-initials-list l =
    with_front (map seen_initial l.list.items) (all (after_comma (initial_of l.depth (initials_below l.depth))) l.rest)
    ≡ with_front (map seen_initial l.initial.list.items) (all (after_comma (initial_of l.depth (initials_below l.depth))) l.initial.rest)

abbrev pub decreases-initials-list : goal.decreases-initials-list
decreases-initials-list l = length l.rest
