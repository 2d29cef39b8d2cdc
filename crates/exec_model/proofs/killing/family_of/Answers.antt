use Rattle.std.proofs.Common.{length, ap, sym, ◌∙◌}
use Rattle.exec_model.specs.Killing.{is_of_family}
use Rattle.exec_model.proofs.Families.{filter-taken, filter-left}
use Rattle.exec_model.proofs.killing.family_of.Goals as goal
use Rattle.exec_model.proofs.killing.family_of.Goals.{then-is_in_family+in_ok-push, else-is_in_family}

pub places-preserved : goal.places-preserved
places-preserved c = elim c.if-is_in_family.branch [
  | then-is_in_family+in_ok-push w ↦
      filter-taken (is_of_family c.args.rows.now c.args.head) (length c.args.rows.now) c.places.place c.in_ok-process.process _ _ _
      c.places-test.true c.in_ok-process.ensures (sym c.is_in_family.ensures ∙ w.if-is_in_family.true) (ap (λ v. v.items) w.members-is ∙ w.in_ok-push.ensures.items) c.places.invariant
  | else-is_in_family w ↦
      filter-left (is_of_family c.args.rows.now c.args.head) (length c.args.rows.now) c.places.place c.in_ok-process.process _ _ _
      c.places-test.true c.in_ok-process.ensures (sym c.is_in_family.ensures ∙ w.if-is_in_family.false) (ap (λ v. v.items) w.members-is) c.places.invariant
]
