use Rattle.std.proofs.Common.{◌≡◌, length, map}
use Rattle.hal_tree.specs.SeenLeaves.{seen_name}
use Rattle.hal_parse_expr.specs.Reading.{all, after_comma, name_at}
use Rattle.hal_parse_expr.proofs.Loops.{with_front}
use Rattle.hal_parse_declarations.proofs.names.read_names.Given as goal

abbrev pub invariant-list : goal.invariant-list
invariant-list l = with_front (map seen_name l.list.items) (all (after_comma name_at) l.rest) ≡ with_front (map seen_name l.initial.list.items) (all (after_comma name_at) l.initial.rest)

abbrev pub decreases-list : goal.decreases-list
decreases-list l = length l.rest
