use Rattle.exec_model.specs.Meanings.{meaning}
use Rattle.exec_model.specs.Running.{running_moment}
use Rattle.script_run.proofs.Running.{RunsLine-unknown}
use Rattle.script_run.proofs.run.preempt.Goals as goal

pub returns-in_default-clause-made : goal.returns-in_default-clause-made
returns-in_default-clause-made g c =
    RunsLine-unknown (meaning g.P.Of.Load (g.P.Procs.load c.args.plain.now.procs)) c.args.plain.now.lanes (running_moment g.P.Procs.answers c.args.plain.now)
    c.args.name.now c.args.plain.now.journal (rw (c.in_default.is, c.tables.ensures, c.procs.ensures) at c.named.ensures.none)
