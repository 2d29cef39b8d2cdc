use Rattle.std.proofs.Common.{◌≡◌, false, List, IfSome, ap, sym, subst, ◌∙◌}
use Rattle.std.proofs.lemmas.Bool.{true≢false}
use Rattle.hal_values.specs.Loads.{Meaning, IsUpdate}
use Rattle.hal_values.specs.Requests.{HasProcess}
use Rattle.exec_model.specs.declared.row.Row.{Row}
use Rattle.exec_model.specs.Meanings.{meaning}
use Rattle.exec_model.specs.Moments.{Moment, moment_of, row_of}
use Rattle.exec_model.specs.Order.{IsInFirst}
use Rattle.exec_model.specs.Rows.{row_in}
use Rattle.exec_model.specs.Steps.{IsActed, request_of}
use Rattle.exec_model.proofs.OneLane.{first-acts, first-opens, IsActed-from, request-in_order, ready-has_process}
use Rattle.exec_model.proofs.events.first_event.Goals as goal

pub returns-then-is_update-clause-found : goal.returns-then-is_update-clause-found
returns-then-is_update-clause-found g c =
    let q : Meaning = meaning g.P.Of.Load (g.P.Procs.load c.args.procs.now) in
    let m : Moment = moment_of c.args.state.now (g.P.Procs.answers c.args.procs.now) in
    let found : IsInFirst 1 c.as_slice-rows.result.now c.in-Some.process = subst (λ o. IfSome o (IsInFirst 1 c.as_slice-rows.result.now)) c.in-Some.is c.in_ok-process.ensures.found in
    let early : IsInFirst 1 m.rows c.in-Some.process = subst (λ (rows : List Row). IsInFirst 1 rows c.in-Some.process) c.as_slice-rows.ensures found in
    let outside : (row_of m c.in-Some.process).inside ≡ false = ap (λ (rows : List Row). (row_in rows c.in-Some.process).inside) (sym c.as_slice-rows.ensures) ∙ ap (λ (row : Row). row.inside) (sym c.row_at.ensures) ∙ c.if-row_at.false in
    let asks : IsUpdate (request_of q m c.in-Some.process) = subst IsUpdate c.in_ok-request.ensures.asked (c.is_update.ensures.0 c.if-is_update.true) in
    first-opens q c.args.lanes m c.in-Some.process c.requires.sound c.requires.lanes early outside asks

pub returns-clause-found : goal.returns-clause-found
returns-clause-found g c =
    let q : Meaning = meaning g.P.Of.Load (g.P.Procs.load c.args.procs.now) in
    let m : Moment = moment_of c.args.state.now (g.P.Procs.answers c.args.procs.now) in
    let found : IsInFirst 1 c.as_slice-rows.result.now c.in-Some.process = subst (λ o. IfSome o (IsInFirst 1 c.as_slice-rows.result.now)) c.in-Some.is c.in_ok-process.ensures.found in
    let early : IsInFirst 1 m.rows c.in-Some.process = subst (λ (rows : List Row). IsInFirst 1 rows c.in-Some.process) c.as_slice-rows.ensures found in
    let outside : (row_of m c.in-Some.process).inside ≡ false = ap (λ (rows : List Row). (row_in rows c.in-Some.process).inside) (sym c.as_slice-rows.ensures) ∙ ap (λ (row : Row). row.inside) (sym c.row_at.ensures) ∙ c.if-row_at.false in
    let exists : HasProcess q.tables c.in-Some.process = ready-has_process q m c.in-Some.process c.requires.sound early.ready in
    let other : IsUpdate (request_of q m c.in-Some.process) → ⊥ = λ asks. true≢false (sym (c.is_update.ensures.1 (subst IsUpdate (sym c.in_ok-request.ensures.asked) asks)) ∙ c.if-is_update.false) in
    let asks : IsActed (request_of q m c.in-Some.process) = IsActed-from q.tables (request_of q m c.in-Some.process) (request-in_order q m c.in-Some.process (g.P.Of.Load.is_load (g.P.Procs.load c.args.procs.now)) c.requires.sound exists) other in
    first-acts q c.args.lanes m c.in-Some.process c.requires.sound c.requires.lanes early outside asks
