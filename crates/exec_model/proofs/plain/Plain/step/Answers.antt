use Rattle.std.proofs.Common.{subst, sym}
use Rattle.hal_values.specs.Loads.{Meaning}
use Rattle.exec_model.specs.Meanings.{meaning}
use Rattle.exec_model.specs.Moments.{Moment, moment_of}
use Rattle.exec_model.specs.Running.{running_moment}
use Rattle.exec_model.specs.Sound.{IsSound, KeepsClock}
use Rattle.exec_model.proofs.Runnings.{step-sound, same_moment}
use Rattle.exec_model.proofs.plain.Plain.step.Goals as goal

pub invariant_of-self-2 : goal.invariant_of-self-2
invariant_of-self-2 g c =
    let q : Meaning = meaning g.P.Of.Load (g.P.Procs.load c.self.inside.procs) in
    let m : Moment = moment_of c.self.inside.state (g.P.Procs.answers c.self.inside.procs) in
    let new : Moment = moment_of c.make_step.new.state (g.P.Procs.answers c.make_step.new.procs) in
    let clock : KeepsClock m c.args.event = subst (λ r. KeepsClock (running_moment g.P.Procs.answers r) c.args.event) (sym c.self.view_is) c.requires in
    let sound : IsSound q new =
    step-sound q c.self.inside.lanes m new c.args.event c.in_ok-made.made (g.P.Of.Load.is_load (g.P.Procs.load c.self.inside.procs)) c.self.invariant.sound clock c.in_ok-made.ensures.allowed c.in_ok-made.ensures.made
    (same_moment _ _ _ _ _ _ c.in_ok-made.made c.in_ok-made.ensures.not_made) in
    record {
      sound = subst (λ l. IsSound (meaning g.P.Of.Load l) new) (sym c.make_step.ensures.load) sound;
      some = c.self.invariant.some;
    }
