use Rattle.std.proofs.Common.{◌≡◌, map, drop}
use Rattle.hal_gen_expr.specs.FirstPlaces.{with_places}
use Rattle.hal_gen_expr.specs.SeenSites.{lent_place}
use Rattle.hal_gen_expr.proofs.first_places.add_places.Given as goal

abbrev pub invariant-loop-number : goal.invariant-loop-number
invariant-loop-number l = with_places l.numbers.items l.number (map lent_place (drop l.number l.places)) ≡ with_places l.fn.numbers.items 0 (map lent_place l.places)
