use Rattle.hal_agreement.proofs.Agreeing.{files_agree}
use Rattle.hal_link.proofs.Linked.{image_placed}
use Rattle.hal_link.proofs.laws.the_image_of_a_set_agrees_with_it.Goals as goal

pub returns-clause-stands : goal.returns-clause-stands
returns-clause-stands c = image_placed

pub returns-clause-agrees : goal.returns-clause-agrees
returns-clause-agrees c turns files views image is = files_agree turns files image (image_placed turns files views image is)
