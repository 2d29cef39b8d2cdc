use Rattle.hal_operations.proofs.Division.{shifts_back}
use Rattle.hal_operations.proofs.laws.shifts_come_back.Goals as goal

-- src/laws.rt:24:1
pub returns : goal.returns
returns c = λ s e. shifts_back c.args.a c.args.n s e
