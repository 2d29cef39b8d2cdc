use Rattle.hal_right_images.proofs.rows.Lying.{item_element}
use Rattle.hal_right_images.proofs.rows.laws.elements_of_items_lie_in_own_places.Goals as goal

pub returns : goal.returns
returns c = item_element
