use Rattle.hal_views.proofs.CellsCounted.{few}
use Rattle.hal_views.proofs.laws.a_set_with_room_has_few_cells.Goals as goal

pub returns : goal.returns
returns c = few
