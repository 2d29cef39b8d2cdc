use Rattle.std.proofs.Common.{◌≡◌, ◌==◌, drop}
use Rattle.std.specs.List.{list_any}
use Rattle.hal_code.specs.declared.row.Process.{Process}
use Rattle.hal_code.specs.Blocks.{is_of_process}
use Rattle.hal_verify.proofs.blocks.is_of_process.Given as goal

abbrev pub invariant-loop-process : goal.invariant-loop-process
invariant-loop-process l = list_any (λ (p : Process). p.block == l.number) (drop l.process-index l.processes) ≡ is_of_process l.image l.number
