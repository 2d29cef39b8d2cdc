use Rattle.std.proofs.Common.{◌≡◌, length, map}
use Rattle.hal_tree.specs.SeenDeclarations.{seen_declaration}
use Rattle.hal_parse_expr.specs.Reading.{all}
use Rattle.hal_parse_expr.proofs.Loops.{with_front}
use Rattle.hal_parse_declarations.specs.ReadingDeclarations.{declaration_at}
use Rattle.hal_parse_declarations.proofs.declarations.read_declarations.Given as goal

abbrev pub invariant-declarations : goal.invariant-declarations
invariant-declarations l = with_front (map seen_declaration l.declarations.items) (all (declaration_at l.depth) l.rest) ≡ all (declaration_at l.depth) l.words

abbrev pub decreases-declarations : goal.decreases-declarations
decreases-declarations l = length l.rest
