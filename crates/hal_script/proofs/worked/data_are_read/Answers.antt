use Rattle.std.proofs.Common.{refl}
use Rattle.hal_script.proofs.worked.data_are_read.Goals as goal

pub returns-clause-some : goal.returns-clause-some
returns-clause-some c = refl

pub returns-clause-none : goal.returns-clause-none
returns-clause-none c = refl
