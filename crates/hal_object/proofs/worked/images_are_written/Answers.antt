use Rattle.std.proofs.Common.{refl}
use Rattle.hal_object.specs.Numbers.{in_two, in_four, in_eight}
use Rattle.hal_object.proofs.worked.images_are_written.Goals as goal

pub returns-clause-smallest : goal.returns-clause-smallest
unfolding in_two in_four in_eight
returns-clause-smallest c = refl

pub returns-clause-with_rows : goal.returns-clause-with_rows
unfolding in_two in_four in_eight
returns-clause-with_rows c = refl
