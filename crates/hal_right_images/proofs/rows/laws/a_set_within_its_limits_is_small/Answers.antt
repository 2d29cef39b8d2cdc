use Rattle.hal_right_images.proofs.rows.Small.{small}
use Rattle.hal_right_images.proofs.rows.laws.a_set_within_its_limits_is_small.Goals as goal

pub returns : goal.returns
returns c = small
