use Rattle.std.proofs.Common.{sym, ap}
use Rattle.hal_code.specs.declared.image.ImageParts.{ImageParts}
use Rattle.hal_right_images.proofs.rows.Made.{image_is}
use Rattle.hal_right_images.proofs.rows.Shaped.{shapes_are_right}
use Rattle.hal_right_images.proofs.rows.laws.the_shapes_of_an_image_are_right.Goals as goal

pub returns : goal.returns
returns c s views image is kept = shapes_are_right s image (ap (λ (x : ImageParts). x.shapes) (sym (image_is s views image is).1)) kept
