use Rattle.std.proofs.Common.{◌≡◌, map, drop}
use Rattle.hal_names.specs.SeenNames.{seen_names}
use Rattle.hal_storage.specs.sets.SeenBodies.{lent_unit, seen_body, with_bodies}
use Rattle.hal_storage.proofs.sets.bodies.push_bodies.Given as goal

abbrev pub invariant-loop-index : goal.invariant-loop-index
invariant-loop-index l =
    with_bodies (seen_names l.names) (map lent_unit l.units) l.index (map seen_body l.into.items) (drop l.index l.numbers)
    ≡ with_bodies (seen_names l.names) (map lent_unit l.units) 0 (map seen_body l.fn.into.items) l.numbers
