use Rattle.hal_sound_names.proofs.LookingUnits.{all_right}
use Rattle.hal_sound_names.proofs.laws.units_look_names_up_where_they_stand.Goals as goal

pub returns : goal.returns
returns c = all_right
