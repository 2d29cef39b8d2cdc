use Rattle.std.proofs.Common.{◌≡◌, ◌≤◌, ◌+◌, drop}
use Rattle.hal_sound_code.specs.Entries.{on_count}
use Rattle.hal_runner.proofs.rooms.on_count.Given as goal

abbrev pub invariant-loop-instr : goal.invariant-loop-instr
invariant-loop-instr l = (l.count + on_count (drop l.instr-index l.code) ≡ on_count l.code) × (l.count ≤ l.instr-index)
