use Rattle.hal_sound_values.proofs.Giving.{one_given, mended_one_given, two_given, mended_two_given}
use Rattle.hal_sound_values.proofs.laws.operations_give_values_of_their_kinds.Goals as goal

pub returns-clause-one : goal.returns-clause-one
returns-clause-one c = one_given

pub returns-clause-two : goal.returns-clause-two
returns-clause-two c = two_given

pub returns-clause-mended_one : goal.returns-clause-mended_one
returns-clause-mended_one c = mended_one_given

pub returns-clause-mended_two : goal.returns-clause-mended_two
returns-clause-mended_two c = mended_two_given
