use Rattle.std.proofs.Common.{◌≡◌, length, map}
use Rattle.hal_tree.specs.SeenExpressions.{seen_reference}
use Rattle.hal_parse_expr.specs.Reading.{all, after_comma}
use Rattle.hal_parse_expr.specs.ReadingExpressions.{reference_at}
use Rattle.hal_parse_expr.proofs.Loops.{with_front}
use Rattle.hal_parse_statements.proofs.phrases.references.Given as goal

abbrev pub invariant-list : goal.invariant-list
invariant-list l = with_front (map seen_reference l.list.items) (all (after_comma (reference_at l.depth)) l.rest) ≡ with_front (map seen_reference l.initial.list.items) (all (after_comma (reference_at l.depth)) l.initial.rest)

abbrev pub decreases-list : goal.decreases-list
decreases-list l = length l.rest
