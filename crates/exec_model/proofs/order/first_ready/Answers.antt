use Rattle.std.proofs.Common.{arith}
use Rattle.exec_model.proofs.Places.{none-ready}
use Rattle.exec_model.proofs.order.first_ready.Goals as goal

pub returns-clause-none : goal.returns-clause-none
returns-clause-none c = none-ready c.args.rows.now (λ p lt. c.places.invariant p (omega arith))
