use Rattle.hal_fit_layout.proofs.Owned.{lies_in_process}
use Rattle.hal_fit_layout.proofs.laws.own_places_of_a_declaration_lie_together.Goals as goal

pub returns : goal.returns
returns c = lies_in_process
