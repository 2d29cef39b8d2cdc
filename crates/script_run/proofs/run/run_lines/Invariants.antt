use Rattle.std.proofs.Common.{◌≡◌, take}
use Rattle.exec_model.specs.Meanings.{meaning}
use Rattle.exec_model.specs.Running.{running_moment}
use Rattle.script_run.specs.Running.{RunsLines}
use Rattle.script_run.proofs.run.run_lines.Given as goal

abbrev pub invariant-loop-line : goal.invariant-loop-line
invariant-loop-line g l =
    RunsLines (meaning g.P.Of.Load (g.P.Procs.load l.initial.plain.procs)) l.initial.plain.lanes (running_moment g.P.Procs.answers l.initial.plain)
    (take l.line-index l.lines) l.initial.plain.journal l.plain.journal (running_moment g.P.Procs.answers l.plain)
    × (g.P.Procs.load l.plain.procs ≡ g.P.Procs.load l.initial.plain.procs) × (l.plain.lanes ≡ l.initial.plain.lanes)
