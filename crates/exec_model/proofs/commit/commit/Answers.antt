use Rattle.std.proofs.Common.{◌≡◌, ◌≤◌, count_by, ap, subst, sym, ◌∙◌, arith}
use Rattle.hal_values.specs.Requests.{HasProcess}
use Rattle.exec_model.specs.Drafts.{closed_first}
use Rattle.exec_model.specs.Meanings.{meaning}
use Rattle.exec_model.specs.Telling.{is_for}
use Rattle.exec_model.proofs.Tellings.{FitClosed-from, FitTold-from, length-closed_first}
use Rattle.exec_model.proofs.commit.commit.Goals as goal

pub tell_closed-requires-clause-fits : goal.tell_closed-requires-clause-fits
tell_closed-requires-clause-fits g c =
    rw (c.reserve.ensures.same.0, c.reserve.ensures.same.1, c.as_slice-4.ensures)
    (FitClosed-from (meaning g.P.Of.Load (g.P.Procs.load c.args.procs.now)) c.args.state.now.store (g.P.Procs.answers c.args.procs.now) c.args.parts.closes c.args.parts.told.items
    c.requires.lists c.requires.sound.fit)

pub tell_all-requires-clause-fit : goal.tell_all-requires-clause-fit
tell_all-requires-clause-fit g c =
    rw (c.tell_closed.ensures.load, c.tell_closed.ensures.told, c.reserve.ensures.same.0, c.reserve.ensures.same.1, c.as_slice-4.ensures, c.as_slice-5.ensures.value)
    (FitTold-from (meaning g.P.Of.Load (g.P.Procs.load c.args.procs.now)) (closed_first c.args.state.now.store c.args.parts.closes (g.P.Procs.answers c.args.procs.now)) c.args.parts.told.items
    (length-closed_first c.args.state.now.store (g.P.Procs.answers c.args.procs.now) c.args.parts.closes ∙ c.requires.lists) c.requires.sound.fit)

pub tell_all-requires-clause-room : goal.tell_all-requires-clause-room
tell_all-requires-clause-room g c = λ p exists.
    let exists_then : HasProcess (g.P.Of.Load.tables (g.P.Procs.load c.args.procs.now)) p = subst (λ load. HasProcess (g.P.Of.Load.tables load) p) (c.tell_closed.ensures.load ∙ c.reserve.ensures.same.0) exists in
    let few : count_by (is_for p) c.as_slice.result.now ≤ 3 = c.are_few.ensures c.if-not-are_few.false p in
    let same : count_by (is_for p) c.as_slice-5.result.now ≡ count_by (is_for p) c.as_slice.result.now = ap (count_by (is_for p)) (c.as_slice-5.ensures.value ∙ sym c.as_slice.ensures.value) in
    omega (arith, c.in_ok-reserve.ensures.room p exists_then, c.tell_closed.ensures.room p, few, same)
