use Rattle.hal_fit_names.proofs.Owning.{own_name}
use Rattle.hal_fit_names.proofs.laws.names_of_no_template_are_own.Goals as goal

pub returns : goal.returns
returns c site name k p meant there plain = own_name site name k p meant there plain
