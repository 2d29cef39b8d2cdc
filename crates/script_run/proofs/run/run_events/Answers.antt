use Rattle.std.proofs.Common.{◌∙◌}
use Rattle.exec_model.specs.Meanings.{meaning}
use Rattle.script_run.proofs.Running.{IsAllowed-seen, IsMaking-seen, same_moment}
use Rattle.script_run.proofs.run.run_events.Goals as goal

pub make-requires-clause-allowed : goal.make-requires-clause-allowed
make-requires-clause-allowed g c =
    let same = c.in_ok-event.ensures.same in
    IsAllowed-seen (meaning g.P.Of.Load) (g.P.Procs.load c.events.plain.procs) _ c.events.plain.lanes _ _ _ c.in-Some.event
    c.in_ok-event.ensures.load c.in_ok-event.ensures.lanes (same_moment _ _ _ _ same.same_state same.same_answers) (rw c.in-Some.is at c.in_ok-event.ensures.found)

pub events-preserved : goal.events-preserved
events-preserved g c =
    let same = c.in_ok-event.ensures.same in (
      IsMaking-seen (meaning g.P.Of.Load) _ (g.P.Procs.load c.events.plain.procs) _ _ c.events.plain.lanes _ _ _ _ _ c.events.plain.journal _ _ c.events.counter c.in-Some.event
          c.events.invariant.1 c.in_ok-event.ensures.load c.events.invariant.2 (same_moment _ _ _ _ same.same_state same.same_answers) same.same_journal
          c.events.invariant.0 (rw c.in-Some.is at c.in_ok-event.ensures.of_process) (rw c.in-Some.is at c.in_ok-event.ensures.found)
          c.in_ok-make.ensures.made c.in_ok-make.ensures.written,
      c.in_ok-make.ensures.load ∙ (c.in_ok-event.ensures.load ∙ c.events.invariant.1),
      c.in_ok-make.ensures.lanes ∙ (c.in_ok-event.ensures.lanes ∙ c.events.invariant.2),
    )
