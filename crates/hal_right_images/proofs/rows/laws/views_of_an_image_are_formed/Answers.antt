use Rattle.std.specs.Prelude.{◌≡◌, List, true}
use Rattle.std.specs.List.{list_all}
use Rattle.std.proofs.Common.{sym, ap, subst}
use Rattle.hal_code.specs.declared.image.ImageParts.{ImageParts}
use Rattle.hal_code.specs.declared.row.View.{View}
use Rattle.hal_code.specs.Right.{form_right}
use Rattle.hal_link.specs.CalledViews.{views_of}
use Rattle.hal_meaning.specs.Sets.{Set, set_of}
use Rattle.hal_right_images.proofs.rows.Formed.{views_formed}
use Rattle.hal_right_images.proofs.rows.HomingFiles.{all_home}
use Rattle.hal_right_images.proofs.rows.Made.{image_is}
use Rattle.hal_right_images.proofs.rows.Purposed.{all_purposed}
use Rattle.hal_right_images.proofs.rows.laws.views_of_an_image_are_formed.Goals as goal

pub returns : goal.returns
returns c turns files image is =
    let s : Set = set_of turns files in
    let made = image_is s (views_of s) image is in
    subst (λ (views : List View). list_all (form_right image) views ≡ true) (ap (λ (x : ImageParts). x.views) made.1)
    (views_formed s image (ap (λ (x : ImageParts). x.shapes) (sym made.1)) (views_of s) (all_purposed s (all_home files)))
