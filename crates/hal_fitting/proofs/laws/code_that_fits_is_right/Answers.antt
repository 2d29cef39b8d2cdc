use Rattle.hal_fitting.proofs.Passing.{passes}
use Rattle.hal_fitting.proofs.laws.code_that_fits_is_right.Goals as goal

pub returns : goal.returns
returns c image g m n stack after fits late early there inside = passes image g m n stack after fits late early there inside
