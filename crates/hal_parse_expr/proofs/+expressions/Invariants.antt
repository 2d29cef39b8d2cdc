use Rattle.std.proofs.Common.{◌≡◌, ◌+◌, ◌*◌, length, map}
use Rattle.hal_tree.specs.SeenExpressions.{seen_expression, seen_signed, seen_sub}
use Rattle.hal_parse_expr.specs.Reading.{all, after_comma}
use Rattle.hal_parse_expr.specs.ReadingExpressions.{expression_of, primary_at, signed_term, sub_of}
use Rattle.hal_parse_expr.specs.Joints.{more_of}
use Rattle.hal_parse_expr.proofs.Loops.{with_front}
use Rattle.hal_parse_expr.proofs.Ranks.{rank_of}
use Rattle.hal_parse_expr.proofs.+expressions.Given as goal

abbrev pub decreases-factors::exponent : goal.decreases-factors::exponent
decreases-factors::exponent l = 64 * l.depth + 8

abbrev pub decreases-factors::factor : goal.decreases-factors::factor
decreases-factors::factor l = 64 * l.depth + 9

abbrev pub decreases-factors::further_factor : goal.decreases-factors::further_factor
decreases-factors::further_factor l = 64 * l.depth + 10

abbrev pub decreases-levels::chain : goal.decreases-levels::chain
decreases-levels::chain l = 64 * l.depth + 21

abbrev pub decreases-levels::comparison : goal.decreases-levels::comparison
decreases-levels::comparison l = 64 * l.depth + 23

abbrev pub decreases-levels::conjunct : goal.decreases-levels::conjunct
decreases-levels::conjunct l = 64 * l.depth + 24

abbrev pub decreases-levels::conjunction : goal.decreases-levels::conjunction
decreases-levels::conjunction l = 64 * l.depth + 27

abbrev pub decreases-levels::disjunct : goal.decreases-levels::disjunct
decreases-levels::disjunct l = 64 * l.depth + 28

abbrev pub decreases-levels::expression : goal.decreases-levels::expression
decreases-levels::expression l = 64 * l.depth + 31

abbrev pub decreases-levels::joined : goal.decreases-levels::joined
decreases-levels::joined l = 64 * l.depth + 18

abbrev pub decreases-levels::related : goal.decreases-levels::related
decreases-levels::related l = 64 * l.depth + 22

abbrev pub decreases-levels::term : goal.decreases-levels::term
decreases-levels::term l = 64 * l.depth + 13

abbrev pub decreases-lists::expressions : goal.decreases-lists::expressions
decreases-lists::expressions l = 64 * l.depth + 33

abbrev pub decreases-lists::further_expression : goal.decreases-lists::further_expression
decreases-lists::further_expression l = 64 * l.depth + 32

abbrev pub decreases-positions::place_behind : goal.decreases-positions::place_behind
decreases-positions::place_behind l = 64 * l.depth + 35

abbrev pub decreases-positions::portion_from : goal.decreases-positions::portion_from
decreases-positions::portion_from l = 64 * l.depth + 38

abbrev pub decreases-positions::portion_of : goal.decreases-positions::portion_of
decreases-positions::portion_of l = 64 * l.depth + 37

abbrev pub decreases-positions::position : goal.decreases-positions::position
decreases-positions::position l = 64 * l.depth + 34

abbrev pub decreases-positions::range_from : goal.decreases-positions::range_from
decreases-positions::range_from l = 64 * l.depth + 36

abbrev pub decreases-positions::sub : goal.decreases-positions::sub
decreases-positions::sub l = 64 * l.depth + 39

abbrev pub decreases-primaries::opened : goal.decreases-primaries::opened
decreases-primaries::opened l = 64 * l.depth + 6

abbrev pub decreases-primaries::called : goal.decreases-primaries::called
decreases-primaries::called l = 64 * l.depth + 2

abbrev pub decreases-primaries::closed_expression : goal.decreases-primaries::closed_expression
decreases-primaries::closed_expression l = 64 * l.depth + 1

abbrev pub decreases-primaries::closed_expressions : goal.decreases-primaries::closed_expressions
decreases-primaries::closed_expressions l = 64 * l.depth + 1

abbrev pub decreases-primaries::converted : goal.decreases-primaries::converted
decreases-primaries::converted l = 64 * l.depth + 2

abbrev pub decreases-primaries::named : goal.decreases-primaries::named
decreases-primaries::named l = 64 * l.depth + 5

abbrev pub decreases-primaries::negation : goal.decreases-primaries::negation
decreases-primaries::negation l = 64 * l.depth + 2

abbrev pub decreases-primaries::parenthesis : goal.decreases-primaries::parenthesis
decreases-primaries::parenthesis l = 64 * l.depth + 2

abbrev pub decreases-primaries::primary : goal.decreases-primaries::primary
decreases-primaries::primary l = 64 * l.depth + 7

abbrev pub decreases-references::enclosed_parts : goal.decreases-references::enclosed_parts
decreases-references::enclosed_parts l = 64 * l.depth + 48

abbrev pub decreases-references::reference_behind : goal.decreases-references::reference_behind
decreases-references::reference_behind l = 64 * l.depth + 4

abbrev pub decreases-references::subscript : goal.decreases-references::subscript
decreases-references::subscript l = 64 * l.depth + 2

abbrev pub decreases-references::subscript_behind : goal.decreases-references::subscript_behind
decreases-references::subscript_behind l = 64 * l.depth + 49

abbrev pub decreases-references::subscript_or_none : goal.decreases-references::subscript_or_none
decreases-references::subscript_or_none l = 64 * l.depth + 3

abbrev pub decreases-subscripts::arrays : goal.decreases-subscripts::arrays
decreases-subscripts::arrays l = 64 * l.depth + 45

abbrev pub decreases-subscripts::arrays_then : goal.decreases-subscripts::arrays_then
decreases-subscripts::arrays_then l = 64 * l.depth + 44

abbrev pub decreases-subscripts::components : goal.decreases-subscripts::components
decreases-subscripts::components l = 64 * l.depth + 42

abbrev pub decreases-subscripts::copies_then : goal.decreases-subscripts::copies_then
decreases-subscripts::copies_then l = 64 * l.depth + 46

abbrev pub decreases-subscripts::further_sub : goal.decreases-subscripts::further_sub
decreases-subscripts::further_sub l = 64 * l.depth + 40

abbrev pub decreases-subscripts::subs : goal.decreases-subscripts::subs
decreases-subscripts::subs l = 64 * l.depth + 41

abbrev pub decreases-subscripts::three_parts : goal.decreases-subscripts::three_parts
decreases-subscripts::three_parts l = 64 * l.depth + 47

abbrev pub decreases-subscripts::with_components : goal.decreases-subscripts::with_components
decreases-subscripts::with_components l = 64 * l.depth + 43

abbrev pub decreases-sums::opened_sum : goal.decreases-sums::opened_sum
decreases-sums::opened_sum l = 64 * l.depth + 16

abbrev pub decreases-sums::signed_term : goal.decreases-sums::signed_term
decreases-sums::signed_term l = 64 * l.depth + 14

abbrev pub decreases-sums::sum : goal.decreases-sums::sum
decreases-sums::sum l = 64 * l.depth + 17

abbrev pub decreases-sums::terms : goal.decreases-sums::terms
decreases-sums::terms l = 64 * l.depth + 15

abbrev pub decreases-sums::unsigned_sum : goal.decreases-sums::unsigned_sum
decreases-sums::unsigned_sum l = 64 * l.depth + 16

abbrev pub decreases-levels::further : goal.decreases-levels::further
decreases-levels::further l = 64 * l.depth + (rank_of l.joint + 1)

abbrev pub decreases-levels::operand : goal.decreases-levels::operand
decreases-levels::operand l = 64 * l.depth + rank_of l.joint

abbrev pub invariant-levels::further-others : goal.invariant-levels::further-others
invariant-levels::further-others l =
    with_front (map seen_expression l.others.items) (all (more_of l.joint (primary_at l.depth)) l.rest) ≡ all (more_of l.joint (primary_at l.depth)) l.words

abbrev pub decreases-levels::further-others : goal.decreases-levels::further-others
decreases-levels::further-others l = length l.rest

abbrev pub invariant-lists::expressions-list : goal.invariant-lists::expressions-list
invariant-lists::expressions-list l =
    with_front (map seen_expression l.list.items) (all (after_comma (expression_of (primary_at l.depth))) l.rest)
    ≡ with_front (map seen_expression l.initial.list.items) (all (after_comma (expression_of (primary_at l.depth))) l.initial.rest)

abbrev pub decreases-lists::expressions-list : goal.decreases-lists::expressions-list
decreases-lists::expressions-list l = length l.rest

abbrev pub invariant-subscripts::subs-list : goal.invariant-subscripts::subs-list
invariant-subscripts::subs-list l =
    with_front (map seen_sub l.list.items) (all (after_comma (sub_of (primary_at l.depth))) l.rest)
    ≡ with_front (map seen_sub l.initial.list.items) (all (after_comma (sub_of (primary_at l.depth))) l.initial.rest)

abbrev pub decreases-subscripts::subs-list : goal.decreases-subscripts::subs-list
decreases-subscripts::subs-list l = length l.rest

abbrev pub invariant-sums::terms-terms : goal.invariant-sums::terms-terms
invariant-sums::terms-terms l = with_front (map seen_signed l.terms.items) (all (signed_term (primary_at l.depth)) l.rest) ≡ all (signed_term (primary_at l.depth)) l.words

abbrev pub decreases-sums::terms-terms : goal.decreases-sums::terms-terms
decreases-sums::terms-terms l = length l.rest
