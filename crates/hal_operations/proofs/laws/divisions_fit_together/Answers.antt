use Rattle.hal_operations.proofs.Division.{dividend, congruent}
use Rattle.hal_operations.proofs.laws.divisions_fit_together.Goals as goal

-- src/laws.rt:13:1
pub returns-clause-dividend : goal.returns-clause-dividend
returns-clause-dividend c = λ q r p e. dividend c.args.a c.args.b q r p e

-- src/laws.rt:13:1
pub returns-clause-congruent : goal.returns-clause-congruent
returns-clause-congruent c = λ r m p e. congruent c.args.a c.args.b r m p e
