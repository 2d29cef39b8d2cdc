use Rattle.std.proofs.Common.{◌≡◌, ◌++◌, map, drop}
use Rattle.hal_names.specs.SeenNames.{seen_names}
use Rattle.hal_constants.specs.SeenKnown.{seen_known}
use Rattle.hal_reach.specs.SeenUnits.{seen_reached}
use Rattle.hal_storage.specs.own_places.Owned.{sole_among}
use Rattle.hal_storage.specs.own_places.SeenPlaces.{seen_places}
use Rattle.hal_storage.proofs.own_places.owning.all_sole_places.Given as goal

abbrev pub invariant-loop-process : goal.invariant-loop-process
invariant-loop-process l =
    map seen_places l.lists.items ++ map (sole_among (seen_names l.names) (seen_known l.known) (map seen_reached l.units) l.all) (drop l.process-index l.all) ≡ map (sole_among (seen_names l.names) (seen_known l.known) (map seen_reached l.units) l.all) l.all
