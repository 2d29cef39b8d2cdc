use Rattle.std.proofs.Common.{◌≡◌, replicate}
use Rattle.exec_rows.specs.Playing.{nothing_held}
use Rattle.exec_rows.proofs.scripted_procs.ScriptedProcs.start.Given as goal

abbrev pub invariant-loop-name : goal.invariant-loop-name
invariant-loop-name l = l.desks.items ≡ replicate l._name-index nothing_held
