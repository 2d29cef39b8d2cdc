use Rattle.hal_right_images.proofs.rows.Named.{names_are_right}
use Rattle.hal_right_images.proofs.rows.laws.the_names_of_an_image_are_right.Goals as goal

pub returns : goal.returns
returns c turns files views image is within program = names_are_right turns files (c.phrases_are_counted.ensures files) within program views image is
