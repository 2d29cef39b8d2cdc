use Rattle.hal_code.proofs.Loading.{image_is_load}
use Rattle.hal_code.proofs.RightTables.{right_tables}
use Rattle.hal_code.proofs.laws.a_right_image_is_a_load.Goals as goal

pub returns : goal.returns
returns c = λ turns image right few. image_is_load turns image (right_tables image right) few
