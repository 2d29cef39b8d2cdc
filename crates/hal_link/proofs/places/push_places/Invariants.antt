use Rattle.std.proofs.Common.{◌≡◌, ◌++◌, map, drop}
use Rattle.hal_storage.specs.own_places.SeenPlaces.{seen_place}
use Rattle.hal_gen_expr.specs.SeenSites.{lent_place}
use Rattle.hal_link.proofs.places.push_places.Given as goal

abbrev pub invariant-loop-place : goal.invariant-loop-place
invariant-loop-place l = map lent_place l.into.items ++ map seen_place (drop l.place-index l.places) ≡ map lent_place l.fn.into.items ++ map seen_place l.places
