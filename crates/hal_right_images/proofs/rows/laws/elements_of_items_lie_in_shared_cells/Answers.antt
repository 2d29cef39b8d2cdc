use Rattle.hal_right_images.proofs.rows.Sharing.{cell_element}
use Rattle.hal_right_images.proofs.rows.laws.elements_of_items_lie_in_shared_cells.Goals as goal

pub returns : goal.returns
returns c = cell_element
