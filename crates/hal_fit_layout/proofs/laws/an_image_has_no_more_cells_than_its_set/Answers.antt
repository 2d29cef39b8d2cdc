use Rattle.hal_fit_layout.proofs.Counting.{few_cells}
use Rattle.hal_fit_layout.proofs.laws.an_image_has_no_more_cells_than_its_set.Goals as goal

pub returns : goal.returns
returns c = few_cells
