use Rattle.std.proofs.Common.{ℕ, ◌<◌}
use Rattle.exec_model.specs.Order.{IsInFirst}
use Rattle.exec_model.proofs.order.first_ready.Given as goal

abbrev pub invariant-places : goal.invariant-places
invariant-places l = (p : ℕ) → p < l.place → IsInFirst 1 l.rows p → ⊥
