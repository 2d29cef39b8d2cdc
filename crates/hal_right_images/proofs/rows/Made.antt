-- An image of a set is made of what linking gives.
use Rattle.std.specs.Prelude.{◌≡◌, List, Ok, Err}
use Rattle.hal_code.specs.declared.image.ImageParts.{ImageParts}
use Rattle.hal_code.specs.declared.row.View.{View}
use Rattle.hal_meaning.specs.Sets.{Set}
use Rattle.hal_link.specs.Linking.{Linked, Linking, linking, image_with, image_by, image_of}

image_by_is : (s : Set) (views : List View) (image : ImageParts) (r : Linking) → image_by s views r ≡ Ok image → (one : Linked) × (image_with s views one ≡ image)
image_by_is s views image (Ok one) is = (one, cc)
image_by_is s views image (Err at) is = absurd (cc)

pub image_is : (s : Set) (views : List View) (image : ImageParts) → image_of s views ≡ Ok image → (one : Linked) × (image_with s views one ≡ image)
image_is s views image is = image_by_is s views image (linking s views) is
