use Rattle.std.proofs.Common.{◌≡◌, map, drop}
use Rattle.hal_gen_expr.specs.SeenSites.{lent_place}
use Rattle.hal_storage.specs.sets.SeenSets.{seen_set}
use Rattle.hal_link.specs.UnitCode.{clears_behind}
use Rattle.hal_link.proofs.units.emit_clears.Given as goal

abbrev pub invariant-loop-number : goal.invariant-loop-number
invariant-loop-number l =
    clears_behind (seen_set l.set) l.unit l.number l.code.items (map lent_place (drop l.number l.places))
    ≡ clears_behind (seen_set l.set) l.unit 0 l.fn.code.items (map lent_place l.places)
