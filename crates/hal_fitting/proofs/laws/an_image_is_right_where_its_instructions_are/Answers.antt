use Rattle.hal_fitting.proofs.Whole.{right_whole}
use Rattle.hal_fitting.proofs.laws.an_image_is_right_where_its_instructions_are.Goals as goal

pub returns : goal.returns
returns c image blocks each rows = right_whole image blocks each rows
