use Rattle.std.proofs.Common.{◌≡◌, ◌≤◌, ℕ, false, List, length, map}
use Rattle.hal_reach.specs.SeenUnits.{seen_unit}
use Rattle.hal_reach.specs.Sweeps.{AreFound, count}
use Rattle.hal_reach.proofs.marks.sweep_back.Given as goal

abbrev pub invariant-loop-place : goal.invariant-loop-place
invariant-loop-place l =
    (length l.marked.items ≡ length l.units)
    × ((blocks : List ℕ) → AreFound (map seen_unit l.units) blocks l.fn.marked.items → AreFound (map seen_unit l.units) blocks l.marked.items)
    × (count l.fn.marked.items ≤ count l.marked.items)
    × (l.some ≡ false → l.marked.items ≡ l.fn.marked.items)

abbrev pub decreases-loop-place : goal.decreases-loop-place
decreases-loop-place l = l.left
