use Rattle.std.proofs.Common.{map, ◌++◌}
use Rattle.hal_storage.specs.own_places.SeenPlaces.{seen_place}
use Rattle.hal_gen_expr.specs.SeenSites.{lent_place}
use Rattle.hal_link.proofs.Lent.{place_more}
use Rattle.hal_link.proofs.places.push_places.Goals as goal

pub loop-place-preserved : goal.loop-place-preserved
loop-place-preserved c =
    place_more (map lent_place c.loop-place.into.items) (map lent_place c.push_place.new.into.items) (map lent_place c.args.into.now.items ++ map seen_place c.args.places.now) c.args.places.now c.loop-place.place-index c.place-item.result
    c.loop-place-test.true c.place-item.is c.in_ok-push_place.ensures c.loop-place.invariant
