use Rattle.std.proofs.Common.{◌≡◌, ℕ, List, length, map}
use Rattle.hal_reach.specs.SeenUnits.{seen_unit}
use Rattle.hal_reach.specs.Sweeps.{AreFound, AreSwept}
use Rattle.hal_reach.proofs.marks.sweep.Given as goal

abbrev pub invariant-loop-place : goal.invariant-loop-place
invariant-loop-place l =
    (length l.marked.items ≡ length l.units)
    × ((blocks : List ℕ) → AreFound (map seen_unit l.units) blocks l.fn.marked.items → AreFound (map seen_unit l.units) blocks l.marked.items)
    × AreSwept l.some (map seen_unit l.units) l.fn.marked.items l.marked.items l.place
