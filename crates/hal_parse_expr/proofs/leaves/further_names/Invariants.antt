use Rattle.std.proofs.Common.{◌≡◌, length, map}
use Rattle.hal_tree.specs.SeenLeaves.{seen_name}
use Rattle.hal_parse_expr.specs.Reading.{all}
use Rattle.hal_parse_expr.specs.ReadingExpressions.{further_at}
use Rattle.hal_parse_expr.proofs.Loops.{with_front}
use Rattle.hal_parse_expr.proofs.leaves.further_names.Given as goal

abbrev pub invariant-names : goal.invariant-names
invariant-names l = with_front (map seen_name l.names.items) (all further_at l.rest) ≡ all further_at l.words

abbrev pub decreases-names : goal.decreases-names
decreases-names l = length l.rest
