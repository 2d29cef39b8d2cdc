use Rattle.std.proofs.Common.{◌≡◌, ◌++◌, map, drop}
use Rattle.hal_reach.specs.Marks.{recursive, recursive_among}
use Rattle.hal_reach.specs.SeenUnits.{seen_unit}
use Rattle.hal_reach.proofs.recursive.recursive.Given as goal

abbrev pub invariant-loop-unit : goal.invariant-loop-unit
invariant-loop-unit l =
    l.found.items ++ recursive_among (map seen_unit l.units) (map seen_unit (drop l.unit-index l.units)) ≡ recursive (map seen_unit l.units)
