use Rattle.hal_meaning.specs.Sets.{set_of}
use Rattle.hal_right_images.proofs.rows.HomingFiles.{all_home}
use Rattle.hal_right_images.proofs.rows.Purposed.{all_purposed}
use Rattle.hal_right_images.proofs.rows.laws.each_view_of_a_set_has_a_purpose.Goals as goal

pub returns : goal.returns
returns c = λ turns files. all_purposed (set_of turns files) (all_home files)
