use Rattle.std.proofs.Common.{refl}
use Rattle.hal_object.specs.Numbers.{in_two, in_four, in_eight}
use Rattle.hal_object.proofs.worked.instructions_of_asking_are_written.Goals as goal

pub returns : goal.returns
unfolding in_two in_four in_eight
returns c = refl
