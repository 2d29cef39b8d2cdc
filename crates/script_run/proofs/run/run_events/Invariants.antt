use Rattle.std.proofs.Common.{◌≡◌}
use Rattle.exec_model.specs.Meanings.{meaning}
use Rattle.exec_model.specs.Running.{running_moment}
use Rattle.script_run.proofs.Running.{IsMaking}
use Rattle.script_run.proofs.run.run_events.Given as goal

abbrev pub invariant-events : goal.invariant-events
invariant-events g l =
    IsMaking (meaning g.P.Of.Load (g.P.Procs.load l.initial.plain.procs)) l.initial.plain.lanes (running_moment g.P.Procs.answers l.initial.plain)
    l.initial.plain.journal l.plain.journal l.counter (running_moment g.P.Procs.answers l.plain)
    × (g.P.Procs.load l.plain.procs ≡ g.P.Procs.load l.initial.plain.procs) × (l.plain.lanes ≡ l.initial.plain.lanes)
