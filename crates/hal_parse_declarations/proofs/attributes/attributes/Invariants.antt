use Rattle.std.proofs.Common.{◌≡◌, length, map}
use Rattle.hal_tree.specs.SeenDeclarations.{seen_attribute}
use Rattle.hal_parse_expr.specs.Reading.{all}
use Rattle.hal_parse_expr.proofs.Loops.{with_front}
use Rattle.hal_parse_declarations.specs.ReadingDeclarations.{attribute_at}
use Rattle.hal_parse_declarations.proofs.attributes.attributes.Given as goal

abbrev pub invariant-attributes : goal.invariant-attributes
invariant-attributes l = with_front (map seen_attribute l.attributes.items) (all (attribute_at l.depth) l.rest) ≡ all (attribute_at l.depth) l.words

abbrev pub decreases-attributes : goal.decreases-attributes
decreases-attributes l = length l.rest
