use Rattle.hal_fit_layout.proofs.Parameters.{process_places}
use Rattle.hal_fit_layout.proofs.laws.whole_parameters_have_their_places.Goals as goal

pub returns : goal.returns
returns c = process_places
