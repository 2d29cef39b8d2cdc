use Rattle.hal_code.proofs.Loading.{image_is_load}
use Rattle.hal_code.proofs.laws.an_image_with_right_tables_is_a_load.Goals as goal

pub returns : goal.returns
returns c = image_is_load
