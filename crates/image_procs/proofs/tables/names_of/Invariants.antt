use Rattle.std.proofs.Common.{◌≡◌, ◌++◌, drop, map}
use Rattle.hal_code.specs.declared.row.Process.{Process}
use Rattle.image_procs.proofs.tables.names_of.Given as goal

abbrev pub invariant-loop-process : goal.invariant-loop-process
invariant-loop-process l = l.names.items ++ map (λ (one : Process). one.name) (drop l.process-index l.processes) ≡ map (λ (one : Process). one.name) l.processes
