use Rattle.std.proofs.Common.{◌≡◌, ◌+◌, true, false, cond, length, sym, ◌∙◌, arith}
use Rattle.exec_model.specs.Order.{is_ahead}
use Rattle.exec_model.proofs.Places.{count-step}
use Rattle.exec_model.proofs.order.place_among.Goals as goal
use Rattle.exec_model.proofs.order.place_among.Goals.{then-is_other_ahead, else-is_other_ahead}

pub places-preserved : goal.places-preserved
places-preserved c = elim c.if-is_other_ahead.branch [
  | then-is_other_ahead w ↦
      (let test = sym c.is_other_ahead.ensures ∙ w.if-is_other_ahead.true in
      let grown : c.if-is_other_ahead.count ≡ c.places.count + cond true 1 0 = omega arith in
      record {
        counted = count-step (is_ahead c.args.rows.now c.args.process) (length c.args.rows.now) c.places.place c.in_ok-process_at.field-0 c.places.count _ _ true c.places-test.true c.in_ok-process_at.ensures test grown c.places.invariant.counted;
        small = omega arith;
      })
  | else-is_other_ahead w ↦
      (let test = sym c.is_other_ahead.ensures ∙ w.if-is_other_ahead.false in
      let grown : c.if-is_other_ahead.count ≡ c.places.count + cond false 1 0 = omega arith in
      record {
        counted = count-step (is_ahead c.args.rows.now c.args.process) (length c.args.rows.now) c.places.place c.in_ok-process_at.field-0 c.places.count _ _ false c.places-test.true c.in_ok-process_at.ensures test grown c.places.invariant.counted;
        small = omega arith;
      })
]
