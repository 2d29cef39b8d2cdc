use Rattle.hal_meaning.proofs.Conditions.{compared}
use Rattle.hal_meaning.proofs.laws.bits_become_a_condition.Goals as goal

pub returns : goal.returns
returns c = compared
