use Rattle.hal_right_images.proofs.rows.HomingFiles.{all_home}
use Rattle.hal_right_images.proofs.rows.laws.phrases_stand_in_blocks_of_their_units.Goals as goal

pub returns : goal.returns
returns c = all_home
