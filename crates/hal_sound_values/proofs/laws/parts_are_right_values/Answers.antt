use Rattle.hal_sound_values.proofs.KindsKept.{picked_is, mended_pick_also}
use Rattle.hal_sound_values.proofs.laws.parts_are_right_values.Goals as goal

pub returns-clause-chosen : goal.returns-clause-chosen
returns-clause-chosen c = picked_is

pub returns-clause-mended : goal.returns-clause-mended
returns-clause-mended c = mended_pick_also
