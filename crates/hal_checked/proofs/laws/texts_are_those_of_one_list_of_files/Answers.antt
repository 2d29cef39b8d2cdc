use Rattle.hal_checked.proofs.Once.{one_list}
use Rattle.hal_checked.proofs.laws.texts_are_those_of_one_list_of_files.Goals as goal

pub returns : goal.returns
returns c = one_list
