use Rattle.std.proofs.Common.{◌≡◌, ◌-◌, length}
use Rattle.hal_verify.specs.Marking.{no_marks, processes_fit}
use Rattle.hal_verify.proofs.marking.processes_fit.Given as goal

abbrev pub invariant-loop-process : goal.invariant-loop-process
invariant-loop-process l =
    processes_fit l.image l.process l.found.items (length l.image.processes - l.process) ≡ processes_fit l.image 0 (no_marks l.image.views) (length l.image.processes)
