use Rattle.std.proofs.Common.{◌+◌, ◌-◌, length, ap, sym, ◌∙◌}
use Rattle.exec_model.specs.Killing.{leads}
use Rattle.exec_model.proofs.Families.{leads-step}
use Rattle.exec_model.proofs.killing.is_in_family.Goals as goal

pub steps-preserved : goal.steps-preserved
steps-preserved c =
    ap (λ at. leads (length c.args.rows.now - (c.steps._step + 1)) c.args.rows.now at c.args.head) c.father_of-at.ensures
    ∙ leads-step (length c.args.rows.now) c.steps._step c.args.rows.now c.steps.at c.args.head c.steps-test.true (sym c.is_at.ensures ∙ c.if-is_at.false)
    ∙ c.steps.invariant
