use Rattle.std.proofs.Common.{◌≡◌, subst, sym, ◌∙◌}
use Rattle.hal_values.specs.Loads.{Meaning}
use Rattle.exec_model.specs.Meanings.{meaning}
use Rattle.exec_model.specs.Moments.{Moment, moment_of}
use Rattle.exec_model.specs.Opening.{opening}
use Rattle.exec_model.specs.Sound.{IsSound}
use Rattle.exec_model.proofs.Runnings.{opened}
use Rattle.exec_model.proofs.SoundRuns.{opening-sound}
use Rattle.exec_model.proofs.plain.Plain.start.Goals as goal

pub take_step-requires-clause-sound : goal.take_step-requires-clause-sound
take_step-requires-clause-sound g c =
    let q : Meaning = meaning g.P.Of.Load (g.P.Procs.load c.args.procs) in
    let begins : c.settle_rows.new.draft.now ≡ opening q.tables c.args.script.now =
    opened q.tables c.tables.result.now c.tables-2.result.now c.args.script.now c.as_slice.result.now c.in_ok-state.state (g.P.Procs.answers c.args.procs) c.in_ok-draft.draft c.settle_rows.new.draft
    c.in_ok-state.ensures c.tables.ensures c.tables-2.ensures c.as_slice.ensures.lines c.requires.fresh c.in_ok-draft.ensures c.in_ok-settle_rows.ensures in
    subst (IsSound q) (sym begins) (opening-sound q c.args.script.now (g.P.Of.Load.is_load (g.P.Procs.load c.args.procs)))

pub invariant_of-result : goal.invariant_of-result
invariant_of-result g c =
    let q : Meaning = meaning g.P.Of.Load (g.P.Procs.load c.args.procs) in
    let new : Moment = moment_of c.take_step.new.state (g.P.Procs.answers c.take_step.new.procs) in
    let begins : c.settle_rows.new.draft.now ≡ opening q.tables c.args.script.now =
    opened q.tables c.tables.result.now c.tables-2.result.now c.args.script.now c.as_slice.result.now c.in_ok-state.state (g.P.Procs.answers c.args.procs) c.in_ok-draft.draft c.settle_rows.new.draft
    c.in_ok-state.ensures c.tables.ensures c.tables-2.ensures c.as_slice.ensures.lines c.requires.fresh c.in_ok-draft.ensures c.in_ok-settle_rows.ensures in
    let sound : IsSound q new = subst (IsSound q) (sym (c.in_ok-take_step.ensures.made ∙ begins)) (opening-sound q c.args.script.now (g.P.Of.Load.is_load (g.P.Procs.load c.args.procs))) in
    record {
      sound = subst (λ l. IsSound (meaning g.P.Of.Load l) new) (sym c.take_step.ensures.load) sound;
      some = c.requires.lanes.0;
    }

pub returns-clause-opening : goal.returns-clause-opening
returns-clause-opening g c =
    c.in_ok-take_step.ensures.made
    ∙ opened (g.P.Of.Load.tables (g.P.Procs.load c.args.procs)) c.tables.result.now c.tables-2.result.now c.args.script.now c.as_slice.result.now c.in_ok-state.state (g.P.Procs.answers c.args.procs) c.in_ok-draft.draft c.settle_rows.new.draft
    c.in_ok-state.ensures c.tables.ensures c.tables-2.ensures c.as_slice.ensures.lines c.requires.fresh c.in_ok-draft.ensures c.in_ok-settle_rows.ensures
