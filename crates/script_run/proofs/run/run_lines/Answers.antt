use Rattle.std.proofs.Common.{◌≤◌, ◌+◌, ◌∙◌, subst, sym}
use Rattle.hal_base.specs.declared.limits.TheConstants.{TICK_SUM_LIMIT}
use Rattle.exec_model.specs.declared.script.ScriptLine.{ScriptLine}
use Rattle.exec_model.specs.Meanings.{meaning}
use Rattle.exec_model.specs.Running.{running_moment}
use Rattle.exec_model.specs.Scripts.{asked_time}
use Rattle.script_run.proofs.Running.{RunsLines-next, line_fits}
use Rattle.script_run.proofs.run.run_lines.Goals as goal

pub loop-line-preserved : goal.loop-line-preserved
loop-line-preserved g c = (
  RunsLines-next (meaning g.P.Of.Load) _ (g.P.Procs.load c.loop-line.plain.procs) _ c.loop-line.plain.lanes _ _ _ c.args.lines.now c.loop-line.line-index (c.line-item.result) _ c.loop-line.plain.journal _
      c.loop-line.invariant.1 c.loop-line.invariant.2 c.loop-line-test.true c.loop-line.invariant.0 (rw c.line-item.is at c.in_ok-run_line.ensures.made),
  c.in_ok-run_line.ensures.load ∙ c.loop-line.invariant.1,
  c.in_ok-run_line.ensures.lanes ∙ c.loop-line.invariant.2,
)

pub run_line-requires : goal.run_line-requires
run_line-requires g c =
    subst (λ (line : ScriptLine). c.loop-line.plain.state.clock + asked_time line ≤ TICK_SUM_LIMIT) (sym c.line-item.is)
    (line_fits (meaning g.P.Of.Load (g.P.Procs.load c.args.plain.now.procs)) c.args.plain.now.lanes (running_moment g.P.Procs.answers c.args.plain.now) (running_moment g.P.Procs.answers c.loop-line.plain)
    c.args.lines.now c.loop-line.line-index c.line-item.result c.args.plain.now.journal c.loop-line.plain.journal c.loop-line-test.true c.requires c.loop-line.invariant.0)
