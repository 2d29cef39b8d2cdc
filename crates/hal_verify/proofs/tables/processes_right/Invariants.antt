use Rattle.std.proofs.Common.{◌≡◌, drop}
use Rattle.hal_code.specs.Right.{processes_right}
use Rattle.hal_verify.proofs.tables.processes_right.Given as goal

abbrev pub invariant-loop-number : goal.invariant-loop-number
invariant-loop-number l = processes_right l.image l.number (drop l.number l.processes) ≡ processes_right l.image 0 l.processes
