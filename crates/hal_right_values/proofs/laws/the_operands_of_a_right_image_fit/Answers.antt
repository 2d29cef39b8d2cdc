use Rattle.hal_code.specs.Courses.{setting_of}
use Rattle.hal_sound_code.proofs.Rights.{whole}
use Rattle.hal_right_values.proofs.Fitting.{operands_fit}
use Rattle.hal_right_values.proofs.laws.the_operands_of_a_right_image_fit.Goals as goal

pub returns : goal.returns
returns c = λ turns image p one i right exists typed holding e. operands_fit (setting_of turns image p) (whole image right) exists one typed holding i e
