use Rattle.hal_object.proofs.ImageLaws.{image_spelling}
use Rattle.hal_object.proofs.laws.images_have_one_spelling.Goals as goal

pub returns : goal.returns
returns c = image_spelling
