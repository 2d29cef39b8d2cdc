use Rattle.hal_states.proofs.OfKind.{of_kind_is}
use Rattle.hal_states.proofs.laws.a_made_value_is_of_its_kind.Goals as goal

pub returns : goal.returns
returns c = of_kind_is
