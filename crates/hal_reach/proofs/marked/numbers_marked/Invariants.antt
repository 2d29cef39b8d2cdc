use Rattle.std.proofs.Common.{◌≡◌, ◌++◌, map, length}
use Rattle.hal_reach.specs.Marks.{numbers_marked}
use Rattle.hal_reach.specs.SeenUnits.{seen_unit}
use Rattle.hal_reach.proofs.marked.numbers_marked.Given as goal

abbrev pub invariant-loop-unit : goal.invariant-loop-unit
invariant-loop-unit l = l.found.items ++ numbers_marked (map seen_unit l.rest) l.marks ≡ numbers_marked (map seen_unit l.units) l.marked

abbrev pub decreases-loop-unit : goal.decreases-loop-unit
decreases-loop-unit l = length l.rest
