use Rattle.hal_fit.proofs.Receiving.{items_there}
use Rattle.hal_fit.proofs.laws.the_code_of_items_fits.Goals as goal

pub returns : goal.returns
returns c code g site u items from to stack serves outside fits at = items_there code g site u serves items from to stack outside fits at
