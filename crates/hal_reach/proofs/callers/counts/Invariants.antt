use Rattle.std.proofs.Common.{◌≡◌, ◌++◌, map, drop}
use Rattle.hal_reach.specs.Marks.{count_of, counts}
use Rattle.hal_reach.specs.SeenUnits.{seen_unit}
use Rattle.hal_reach.proofs.callers.counts.Given as goal

abbrev pub invariant-loop-unit : goal.invariant-loop-unit
invariant-loop-unit l = l.counts.items ++ map (count_of (map seen_unit l.units)) (map seen_unit (drop l.unit-index l.units)) ≡ counts (map seen_unit l.units)
