use Rattle.std.proofs.Common.{◌≡◌, ℕ, List, ap, sym, subst, ◌∙◌}
use Rattle.hal_values.specs.Answers.{Answered}
use Rattle.hal_values.specs.Loads.{Meaning}
use Rattle.exec_model.specs.declared.row.Row.{Row}
use Rattle.exec_model.specs.Drafts.{Drafted, on, unchanged}
use Rattle.exec_model.specs.Holding.{touch_groups}
use Rattle.exec_model.specs.Meanings.{meaning}
use Rattle.exec_model.specs.Moments.{Moment, moment_of}
use Rattle.exec_model.specs.Order.{IsInFirst}
use Rattle.exec_model.specs.Rows.{row_in}
use Rattle.exec_model.specs.Steps.{IsActed, IsHolder, request_of, touched_groups, event_done}
use Rattle.exec_model.specs.declared.event.Event.TheVariants as event
use Rattle.exec_model.proofs.Drafted.{LeadsTo, settled-leads, acted, not_held}
use Rattle.exec_model.proofs.events.drafted_act.Goals as goal

pub returns-clause-drafted : goal.returns-clause-drafted
returns-clause-drafted g c =
    let q : Meaning = meaning g.P.Of.Load (g.P.Procs.load c.args.procs.now) in
    let m : Moment = moment_of c.args.state.now (g.P.Procs.answers c.args.procs.now) in
    let p = c.args.process in
    let load = c.is_held.ensures.same.0 ∙ c.ask.ensures.same.0 in
    let answers = c.is_held.ensures.same.1 ∙ c.ask.ensures.same.1 in
    let touched : touch_groups c.touch_of-touch.result ≡ touched_groups q.tables (request_of q m p) =
    c.touch_of-touch.ensures
    ∙ ap (λ t. touched_groups t c.in_ok-request.request) (c.tables.ensures ∙ ap g.P.Of.Load.tables c.ask.ensures.same.0)
    ∙ ap (touched_groups q.tables) c.in_ok-request.ensures.asked in
    let held = not_held _ _ c.in_ok-is_held.field-0 c.in_ok-is_held.ensures.held c.if-branch.false in
    let free = subst (λ l. (o : ℕ) → IsHolder (meaning g.P.Of.Load l) (moment_of c.args.state.now (g.P.Procs.answers c.ask.new.self)) p (touch_groups c.touch_of-touch.result) o → ⊥) c.ask.ensures.same.0 held in
    let free_then = subst (λ (a : List (List Answered)). (o : ℕ) → IsHolder q (moment_of c.args.state.now a) p (touch_groups c.touch_of-touch.result) o → ⊥) c.ask.ensures.same.1 free in
    let fresh : c.in_ok-draft.draft ≡ unchanged m = c.in_ok-draft.ensures ∙ ap (λ (a : List (List Answered)). unchanged (moment_of c.args.state.now a)) answers in
    let made : c.act.new.draft ≡ on (λ n. event_done q m (event.Act p)) (unchanged m) =
    acted q m p c.in_ok-request.request c.in_ok-draft.draft c.act.new.draft c.tables-2.result.now fresh (c.tables-2.ensures ∙ ap g.P.Of.Load.tables load) c.in_ok-request.ensures.asked c.in_ok-act.ensures in
    let leads : LeadsTo q m (event.Act p) c.settle_rows.new.draft =
    settled-leads q m (event.Act p) c.act.new.draft c.settle_rows.new.draft c.tables-3.result.now (c.tables-3.ensures ∙ ap g.P.Of.Load.tables load)
    (ap (λ (d : Drafted). d.base) made) (ap (λ (d : Drafted). d.now) made) c.in_ok-settle_rows.ensures in
    record {
      allowed = record {
        early = subst (λ (rows : List Row). IsInFirst c.args.lanes rows p) c.as_slice-rows.ensures (c.in_ok-is_in_first.ensures.0 c.if-not-branch.false);
        outside = ap (λ (rows : List Row). (row_in rows p).inside) (sym c.as_slice-rows.ensures) ∙ ap (λ (row : Row). row.inside) (sym c.row_at.ensures) ∙ c.if-row_at.false;
        asks = subst IsActed c.in_ok-request.ensures.asked (c.is_acted.ensures.0 c.if-not-is_acted.false);
        free = subst (λ groups. (o : ℕ) → IsHolder q m p groups o → ⊥) touched free_then;
      };
      base = leads.base;
      now = leads.now;
    }
