use Rattle.std.proofs.Common.{◌≡◌, ◌++◌, map, drop}
use Rattle.hal_reach.specs.Marks.{row, rows}
use Rattle.hal_reach.specs.SeenUnits.{seen_reached, seen_unit}
use Rattle.hal_reach.proofs.reached.rows.Given as goal

abbrev pub invariant-loop-unit : goal.invariant-loop-unit
invariant-loop-unit l = map seen_reached l.rows.items ++ map (row (map seen_unit l.units)) (map seen_unit (drop l.unit-index l.units)) ≡ rows (map seen_unit l.units)
