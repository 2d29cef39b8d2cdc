use Rattle.hal_code.proofs.Forwards.{right_is_forward}
use Rattle.hal_code.proofs.laws.the_code_of_a_right_image_goes_on.Goals as goal

pub returns : goal.returns
returns c = right_is_forward
