use Rattle.std.proofs.Common.{◌≡◌, ◌++◌, map, drop}
use Rattle.hal_reach.specs.Marks.{themselves}
use Rattle.hal_reach.specs.SeenUnits.{seen_unit}
use Rattle.hal_reach.proofs.marks.themselves.Given as goal

abbrev pub invariant-loop-unit : goal.invariant-loop-unit
invariant-loop-unit l = l.marked.items ++ themselves (map seen_unit (drop l.unit-index l.units)) l.blocks ≡ themselves (map seen_unit l.units) l.blocks
