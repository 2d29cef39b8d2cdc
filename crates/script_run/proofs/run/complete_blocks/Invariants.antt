use Rattle.std.proofs.Common.{◌≡◌}
use Rattle.exec_model.specs.Meanings.{meaning}
use Rattle.exec_model.specs.Running.{running_moment}
use Rattle.script_run.proofs.Completing.{IsCompleting}
use Rattle.script_run.proofs.run.complete_blocks.Given as goal

abbrev pub invariant-turns : goal.invariant-turns
invariant-turns g l =
    IsCompleting (meaning g.P.Of.Load (g.P.Procs.load l.initial.plain.procs)) (running_moment g.P.Procs.answers l.initial.plain)
    l.initial.plain.journal l.plain.journal l.counter (running_moment g.P.Procs.answers l.plain)
    × (g.P.Procs.load l.plain.procs ≡ g.P.Procs.load l.initial.plain.procs) × (l.plain.lanes ≡ l.initial.plain.lanes)
