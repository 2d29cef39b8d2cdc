use Rattle.hal_compile.proofs.Meanings.{one_meaning}
use Rattle.hal_compile.proofs.laws.a_set_has_one_meaning.Goals as goal

pub returns : goal.returns
returns c = one_meaning
