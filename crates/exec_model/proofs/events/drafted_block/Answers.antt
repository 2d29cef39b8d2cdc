use Rattle.std.proofs.Common.{◌≡◌, List, Some, ap, sym, subst, ◌∙◌}
use Rattle.hal_values.specs.declared.value.Value.{Value}
use Rattle.hal_values.specs.Answers.{Answered}
use Rattle.hal_values.specs.Loads.{Meaning}
use Rattle.exec_model.specs.declared.event.Event.TheVariants as event
use Rattle.exec_model.specs.declared.row.Row.{Row}
use Rattle.exec_model.specs.Drafts.{Drafted, on, closing_of}
use Rattle.exec_model.specs.Meanings.{meaning}
use Rattle.exec_model.specs.Moments.{Moment, moment_of}
use Rattle.exec_model.specs.Order.{IsInFirst}
use Rattle.exec_model.specs.Rows.{row_in}
use Rattle.exec_model.specs.Steps.{event_done, block_of}
use Rattle.exec_model.proofs.Drafted.{LeadsTo, settled-leads, blocked, block_turns, is_some_of}
use Rattle.exec_model.proofs.events.drafted_block.Goals as goal

pub returns-then-branch-turns-clause-drafted : goal.returns-then-branch-turns-clause-drafted
returns-then-branch-turns-clause-drafted g c = λ can.
    let q : Meaning = meaning g.P.Of.Load (g.P.Procs.load c.args.procs.now) in
    let m : Moment = moment_of c.args.state.now (g.P.Procs.answers c.args.procs.now) in
    let found : block_of q m c.args.process c.in_ok-block.field-0 ≡ Some c.block.new.writes.items =
    ap (λ (store : List Value). q.block c.args.process (Rattle.exec_model.specs.Moments.answers_of m c.args.process) store c.in_ok-block.field-0) (sym c.as_slice.ensures) ∙ c.in_ok-block.ensures.found in
    c.if-branch-turns.true (block_turns q c.args.lanes m c.args.process c.args.turns c.in_ok-block.field-0 c.block.new.writes.items (g.P.Of.Load.is_load (g.P.Procs.load c.args.procs.now)) c.requires can found)

pub returns-clause-drafted : goal.returns-clause-drafted
returns-clause-drafted g c =
    let q : Meaning = meaning g.P.Of.Load (g.P.Procs.load c.args.procs.now) in
    let m : Moment = moment_of c.args.state.now (g.P.Procs.answers c.args.procs.now) in
    let p = c.args.process in
    let load = c.block.ensures.same.0 in
    let found : block_of q m p c.args.turns ≡ Some c.block.new.writes.items =
    ap (λ turns. block_of q m p turns) (sym c.if-branch-turns.false)
    ∙ ap (λ (store : List Value). q.block p (Rattle.exec_model.specs.Moments.answers_of m p) store c.in_ok-block.field-0) (sym c.as_slice.ensures)
    ∙ c.in_ok-block.ensures.found in
    let fresh : c.in_ok-draft.draft ≡ closing_of m p c.args.turns = c.in_ok-draft.ensures ∙ ap (λ (a : List (List Answered)). closing_of (moment_of c.args.state.now a) p c.args.turns) c.block.ensures.same.1 in
    let made : c.leave_block.new.draft ≡ on (λ n. event_done q m (event.Block p c.args.turns)) (closing_of m p c.args.turns) =
    blocked q m p c.args.turns c.block.new.writes.items c.as_slice-2.result.now c.row-row.result c.in_ok-draft.draft c.put_all.new.draft c.leave_block.new.draft
    found c.as_slice-2.ensures.value fresh c.in_ok-put_all.ensures c.row-row.ensures c.in_ok-leave_block.ensures in
    let leads : LeadsTo q m (event.Block p c.args.turns) c.settle_rows.new.draft =
    settled-leads q m (event.Block p c.args.turns) c.leave_block.new.draft c.settle_rows.new.draft c.tables.result.now (c.tables.ensures ∙ ap g.P.Of.Load.tables load)
    (ap (λ (d : Drafted). d.base) made) (ap (λ (d : Drafted). d.now) made) c.in_ok-settle_rows.ensures in
    record {
      allowed = record {
        early = subst (λ (rows : List Row). IsInFirst c.args.lanes rows p) c.as_slice-rows.ensures (c.in_ok-is_in_first.ensures.0 c.if-not-branch.false);
        inside = ap (λ (rows : List Row). (row_in rows p).inside) (sym c.as_slice-rows.ensures) ∙ ap (λ (row : Row). row.inside) (sym c.row_at.ensures) ∙ c.if-not-row_at.false;
        ends = is_some_of (block_of q m p c.args.turns) c.block.new.writes.items found;
      };
      base = leads.base;
      now = leads.now;
    }
