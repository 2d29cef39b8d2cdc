use Rattle.hal_sound_code.proofs.Fitting.{right_awaits}
use Rattle.hal_sound_code.proofs.laws.the_stack_of_a_right_image_has_its_sorts.Goals as goal

pub returns : goal.returns
returns c = right_awaits
