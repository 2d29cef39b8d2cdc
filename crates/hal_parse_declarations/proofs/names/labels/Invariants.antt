use Rattle.std.proofs.Common.{◌≡◌, length, map}
use Rattle.hal_tree.specs.SeenLeaves.{seen_name}
use Rattle.hal_parse_expr.specs.Reading.{all}
use Rattle.hal_parse_expr.proofs.Loops.{with_front}
use Rattle.hal_parse_declarations.specs.ReadingDeclarations.{label_at}
use Rattle.hal_parse_declarations.proofs.names.labels.Given as goal

abbrev pub invariant-labels : goal.invariant-labels
invariant-labels l = with_front (map seen_name l.labels.items) (all label_at l.rest) ≡ all label_at l.words

abbrev pub decreases-labels : goal.decreases-labels
decreases-labels l = length l.rest
