use Rattle.hal_right_images.proofs.rows.Lying.{parameter_lies}
use Rattle.hal_right_images.proofs.rows.laws.input_parameters_lie_in_own_places.Goals as goal

pub returns : goal.returns
returns c = parameter_lies
