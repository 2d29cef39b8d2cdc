use Rattle.hal_sound_values.proofs.KindsKept.{stored_is, mended_store_is, stored_stays}
use Rattle.hal_sound_values.proofs.laws.cells_hold_values_of_their_kinds.Goals as goal

pub returns-clause-stored : goal.returns-clause-stored
returns-clause-stored c = stored_is

pub returns-clause-mended : goal.returns-clause-mended
returns-clause-mended c = mended_store_is

pub returns-clause-stays : goal.returns-clause-stays
returns-clause-stays c = stored_stays
