use Rattle.std.proofs.Common.{◌≡◌, ◌+◌, ◌-◌, ◌≤◌, length, map}
use Rattle.hal_code.specs.Addressing.{cleared}
use Rattle.hal_machine.specs.Seen.{held_seen}
use Rattle.hal_runner.proofs.clearing.clear_from.Given as goal

abbrev pub invariant-loop-number : goal.invariant-loop-number
invariant-loop-number l =
    (cleared (map held_seen l.firsts) l.number (l.place + l.count - l.number) (map held_seen l.places.items) ≡ cleared (map held_seen l.firsts) l.place l.count (map held_seen l.initial.places.items))
    × (length l.places.items ≡ length l.initial.places.items) × (l.number ≤ l.place + l.count)
