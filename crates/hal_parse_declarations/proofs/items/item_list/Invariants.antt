use Rattle.std.proofs.Common.{◌≡◌, length, map}
use Rattle.hal_tree.specs.SeenDeclarations.{seen_declared}
use Rattle.hal_parse_expr.specs.Reading.{all, after_comma}
use Rattle.hal_parse_expr.proofs.Loops.{with_front}
use Rattle.hal_parse_declarations.specs.ReadingDeclarations.{declared_at}
use Rattle.hal_parse_declarations.proofs.items.item_list.Given as goal

abbrev pub invariant-list : goal.invariant-list
invariant-list l = with_front (map seen_declared l.list.items) (all (after_comma (declared_at l.depth)) l.rest) ≡ with_front (map seen_declared l.initial.list.items) (all (after_comma (declared_at l.depth)) l.initial.rest)

abbrev pub decreases-list : goal.decreases-list
decreases-list l = length l.rest
