use Rattle.std.proofs.Common.{◌≡◌, ◌++◌, drop, map}
use Rattle.hal_machine.specs.Seen.{held_seen}
use Rattle.hal_runner.proofs.machines.places_of.Given as goal

abbrev pub invariant-loop-place : goal.invariant-loop-place
invariant-loop-place l = map held_seen l.copy.items ++ map held_seen (drop l.place-index l.places) ≡ map held_seen l.places
