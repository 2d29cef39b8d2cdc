use Rattle.hal_fit_expr.proofs.Expressed.{expression_fits}
use Rattle.hal_fit_expr.proofs.laws.the_code_of_an_expression_fits.Goals as goal

pub returns : goal.returns
returns c code g site u tree s from to stack serves sorted at = expression_fits code g site u serves tree s from to stack sorted at
