use Rattle.std.proofs.Common.{sym, ap}
use Rattle.hal_code.specs.declared.image.ImageParts.{ImageParts}
use Rattle.hal_link.specs.CalledViews.{views_of}
use Rattle.hal_meaning.specs.Sets.{Set, set_of}
use Rattle.hal_right_images.proofs.rows.Celled.{views_celled}
use Rattle.hal_right_images.proofs.rows.Made.{image_is}
use Rattle.hal_right_images.proofs.rows.laws.each_view_of_an_image_has_a_cell.Goals as goal

pub returns : goal.returns
returns c turns files image is =
    let s : Set = set_of turns files in
    views_celled s image (ap (λ (x : ImageParts). x.shapes) (sym (image_is s (views_of s) image is).1)) (c.views_of_an_image_are_formed.ensures turns files image is)
