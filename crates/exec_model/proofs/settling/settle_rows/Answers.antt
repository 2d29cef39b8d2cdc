use Rattle.std.proofs.Common.{sym, ◌∙◌}
use Rattle.exec_model.proofs.SettleSteps.{rank-step, settle-step}
use Rattle.exec_model.proofs.settling.settle_rows.Goals as goal

pub changes-smaller : goal.changes-smaller
changes-smaller g c = rank-step c.args.tables.now c.changes.draft c.make_change.new.draft _ _ _ c.row-row.ensures (sym c.in_ok-process.ensures ∙ c.in-Some.is) c.in_ok-make_change.ensures

pub changes-preserved : goal.changes-preserved
changes-preserved g c =
    settle-step c.args.tables.now c.changes.draft c.make_change.new.draft c.args.draft.now _ _ _ c.row-row.ensures (sym c.in_ok-process.ensures ∙ c.in-Some.is) c.in_ok-make_change.ensures c.changes.invariant
