use Rattle.std.proofs.Common.{refl}
use Rattle.hal_storage.proofs.layout.laws.tables_are_those_of_the_set.Goals as goal

pub returns : goal.returns
returns c = λ turns files. refl
