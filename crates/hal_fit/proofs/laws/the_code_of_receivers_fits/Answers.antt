use Rattle.hal_fit.proofs.Receiving.{receivers_there}
use Rattle.hal_fit.proofs.laws.the_code_of_receivers_fits.Goals as goal

pub returns : goal.returns
returns c code g site u receivers s from to stack serves fits at = receivers_there code g site u serves receivers s from to stack fits at
