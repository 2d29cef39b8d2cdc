use Rattle.std.proofs.Common.{◌≡◌, ◌-◌, length, map}
use Rattle.hal_reach.specs.SeenUnits.{seen_unit}
use Rattle.hal_reach.specs.Sweeps.{AreFound, count}
use Rattle.hal_reach.proofs.marks.reaching.Given as goal

abbrev pub invariant-sweep : goal.invariant-sweep
invariant-sweep l = (length l.marked.items ≡ length l.units) × AreFound (map seen_unit l.units) l.blocks l.marked.items

abbrev pub decreases-sweep : goal.decreases-sweep
decreases-sweep l = length l.units - count l.marked.items
