use Rattle.std.proofs.Common.{subst, sym}
use Rattle.hal_values.specs.Loads.{Meaning}
use Rattle.exec_model.specs.Events.{IsDrafted}
use Rattle.exec_model.specs.Meanings.{meaning}
use Rattle.exec_model.specs.Moments.{Moment, moment_of}
use Rattle.exec_model.specs.Sound.{IsSound}
use Rattle.exec_model.proofs.SoundEvents.{stepped-sound}
use Rattle.exec_model.proofs.plain.make_step.Goals as goal

pub take_step-requires-clause-sound : goal.take_step-requires-clause-sound
take_step-requires-clause-sound g c =
    let q : Meaning = meaning g.P.Of.Load (g.P.Procs.load c.args.procs.now) in
    let m : Moment = moment_of c.args.state.now (g.P.Procs.answers c.args.procs.now) in
    let drafted = subst (IsDrafted q c.args.lanes m c.args.event) c.in-Some.is c.in_ok-draft.ensures.drafted in
    let sound : IsSound q c.in-Some.draft.now = subst (IsSound q) (sym drafted.now) (stepped-sound q c.args.lanes m c.args.event (g.P.Of.Load.is_load (g.P.Procs.load c.args.procs.now)) c.requires.sound drafted.allowed c.requires.clock) in
    subst (λ l. IsSound (meaning g.P.Of.Load l) c.in-Some.draft.now) (sym c.drafted.ensures.same.0) sound
