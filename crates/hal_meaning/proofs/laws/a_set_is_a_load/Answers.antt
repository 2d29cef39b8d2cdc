use Rattle.hal_meaning.proofs.Accepted.{files_are_load}
use Rattle.hal_meaning.proofs.laws.a_set_is_a_load.Goals as goal

pub returns : goal.returns
returns c = files_are_load
