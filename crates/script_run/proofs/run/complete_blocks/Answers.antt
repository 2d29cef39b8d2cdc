use Rattle.std.proofs.Common.{length, refl, sym, subst, ap, ◌∙◌, arith, true≢false}
use Rattle.exec_model.specs.declared.state.State.{State}
use Rattle.exec_model.specs.Meanings.{meaning}
use Rattle.exec_model.specs.Running.{running_moment}
use Rattle.script_run.specs.Running.{IsClosed}
use Rattle.script_run.proofs.Completing.{IsCompleting-seen, IsCompleting-start, RunsBlocks-all, RunsBlocks-closed}
use Rattle.script_run.proofs.Running.{same_moment}
use Rattle.script_run.proofs.run.complete_blocks.Goals as goal

pub turns-init : goal.turns-init
turns-init g c =
    (IsCompleting-start (meaning g.P.Of.Load (g.P.Procs.load c.args.plain.now.procs)) (running_moment g.P.Procs.answers c.args.plain.now) c.args.plain.now.journal c.requires.sound, refl, refl)

pub returns-then-has_no_open_block-clause-made : goal.returns-then-has_no_open_block-clause-made
returns-then-has_no_open_block-clause-made g c =
    RunsBlocks-closed (meaning g.P.Of.Load (g.P.Procs.load c.args.plain.now.procs)) (running_moment g.P.Procs.answers c.args.plain.now)
    c.args.plain.now.journal c.turns.plain.journal c.turns.counter (running_moment g.P.Procs.answers c.turns.plain) c.turns.invariant.0
    (subst IsClosed (c.as_slice.ensures ∙ ap (λ (s : State). s.rows) c.state-in-turns.ensures) (c.has_no_open_block.ensures.0 c.if-has_no_open_block.true))

pub turns-preserved : goal.turns-preserved
turns-preserved g c =
    let same = c.in_ok-event.ensures.same in (
      IsCompleting-seen (meaning g.P.Of.Load) (g.P.Procs.load c.args.plain.now.procs) (g.P.Procs.load c.turns.plain.procs) _ c.turns.plain.lanes
          (running_moment g.P.Procs.answers c.args.plain.now) (running_moment g.P.Procs.answers c.turns.plain) _ (running_moment g.P.Procs.answers c.make.new.plain) c.args.plain.now.journal c.turns.plain.journal _ c.make.new.plain.journal
          c.turns.counter c.in-Some.event
          c.turns.invariant.1 c.in_ok-event.ensures.load (c.turns.invariant.2 ∙ c.requires.one_lane) (same_moment _ _ _ _ same.same_state same.same_answers) same.same_journal
          (g.P.Of.Load.is_load (g.P.Procs.load c.args.plain.now.procs)) c.turns.invariant.0
          (λ closed. true≢false (sym (c.has_no_open_block.ensures.1 (subst IsClosed (sym (c.as_slice.ensures ∙ ap (λ (s : State). s.rows) c.state-in-turns.ensures)) closed)) ∙ c.if-has_no_open_block.false))
          (rw c.in-Some.is at c.in_ok-event.ensures.of_process) (rw c.in-Some.is at c.in_ok-event.ensures.found)
          c.in_ok-make.ensures.made c.in_ok-make.ensures.written,
      c.in_ok-make.ensures.load ∙ (c.in_ok-event.ensures.load ∙ c.turns.invariant.1),
      c.in_ok-make.ensures.lanes ∙ (c.in_ok-event.ensures.lanes ∙ c.turns.invariant.2),
    )

pub returns-clause-made : goal.returns-clause-made
returns-clause-made g c =
    RunsBlocks-all (meaning g.P.Of.Load (g.P.Procs.load c.args.plain.now.procs)) (running_moment g.P.Procs.answers c.args.plain.now)
    c.args.plain.now.journal c.turns.plain.journal c.turns.counter (running_moment g.P.Procs.answers c.turns.plain)
    (omega (arith, c.turns-test.false, ap length c.as_slice-most.ensures, ap (λ (s : State). length s.rows) c.state.ensures)) c.turns.invariant.0
