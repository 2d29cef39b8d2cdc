use Rattle.std.proofs.Common.{◌≡◌, ℕ}
use Rattle.hal_code.specs.Raising.{cut}
use Rattle.hal_machine.specs.Seen.{core_seen}
use Rattle.hal_machine.proofs.machine.Machine.leave_later.Given as goal

abbrev pub invariant-loop-left : goal.invariant-loop-left
invariant-loop-left l =
    ((place : ℕ) → cut l.level place (core_seen l.initial.self).frames (core_seen l.initial.self) ≡ cut l.left place (core_seen l.self).frames (core_seen l.self))
    × (l.self.blocks.room ≡ l.initial.self.blocks.room)

abbrev pub decreases-loop-left : goal.decreases-loop-left
decreases-loop-left l = l.left
