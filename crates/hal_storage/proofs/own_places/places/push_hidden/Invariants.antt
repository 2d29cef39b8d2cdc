use Rattle.std.proofs.Common.{◌≡◌, ◌++◌, map}
use Rattle.hal_meaning.specs.Places.{hidden}
use Rattle.hal_storage.specs.own_places.SeenPlaces.{seen_place}
use Rattle.hal_storage.proofs.own_places.places.push_hidden.Given as goal

abbrev pub invariant-loop-fewer : goal.invariant-loop-fewer
invariant-loop-fewer l =
    map seen_place l.into.items ++ hidden l.owner l.left ≡ map seen_place l.fn.into.items ++ hidden l.owner l.count

abbrev pub decreases-loop-fewer : goal.decreases-loop-fewer
decreases-loop-fewer l = l.left
