use Rattle.hal_sound_values.proofs.RightResults.{one_right, mended_one_right, two_right, mended_two_right}
use Rattle.hal_sound_values.proofs.laws.operations_give_right_values.Goals as goal

pub returns-clause-one : goal.returns-clause-one
returns-clause-one c = one_right

pub returns-clause-mended_one : goal.returns-clause-mended_one
returns-clause-mended_one c = mended_one_right

pub returns-clause-two : goal.returns-clause-two
returns-clause-two c = two_right

pub returns-clause-mended_two : goal.returns-clause-mended_two
returns-clause-mended_two c = mended_two_right
