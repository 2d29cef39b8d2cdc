use Rattle.std.proofs.Common.{◌≡◌, ◌++◌, map, length}
use Rattle.hal_meaning.specs.Places.{places_from}
use Rattle.hal_storage.specs.own_places.SeenPlaces.{seen_place}
use Rattle.hal_storage.proofs.own_places.places.push_places.Given as goal

abbrev pub invariant-loop-kind : goal.invariant-loop-kind
invariant-loop-kind l =
    map seen_place l.into.items ++ places_from l.owner l.automatic l.rest l.left ≡ map seen_place l.fn.into.items ++ places_from l.owner l.automatic l.kinds l.values

abbrev pub decreases-loop-kind : goal.decreases-loop-kind
decreases-loop-kind l = length l.rest
