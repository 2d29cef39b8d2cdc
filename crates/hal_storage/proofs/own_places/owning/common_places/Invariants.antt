use Rattle.std.proofs.Common.{◌≡◌, ◌++◌, map, drop}
use Rattle.hal_names.specs.SeenNames.{seen_names}
use Rattle.hal_constants.specs.SeenKnown.{seen_known}
use Rattle.hal_reach.specs.SeenUnits.{seen_reached}
use Rattle.hal_storage.specs.own_places.Owned.{common_among}
use Rattle.hal_storage.specs.own_places.SeenPlaces.{seen_place}
use Rattle.hal_storage.proofs.own_places.owning.common_places.Given as goal

abbrev pub invariant-loop-unit : goal.invariant-loop-unit
invariant-loop-unit l =
    map seen_place l.list.items ++ common_among (seen_names l.names) (seen_known l.known) (map seen_reached (drop l.unit-index l.units)) ≡ common_among (seen_names l.names) (seen_known l.known) (map seen_reached l.units)
