use Rattle.std.proofs.Common.{◌≡◌, ◌≤◌, ◌++◌, drop, map, vec_capacity}
use Rattle.hal_machine.specs.Stacks.{back_seen}
use Rattle.hal_machine.proofs.back.backs_of.Given as goal

abbrev pub invariant-loop-back : goal.invariant-loop-back
invariant-loop-back l = (map back_seen l.copy.items ++ map back_seen (drop l.back-index l.backs) ≡ map back_seen l.backs) × (l.room ≤ vec_capacity l.copy)
