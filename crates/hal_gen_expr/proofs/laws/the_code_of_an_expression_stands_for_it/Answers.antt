use Rattle.hal_gen_expr.proofs.Expressed.{expression_at}
use Rattle.hal_gen_expr.proofs.laws.the_code_of_an_expression_stands_for_it.Goals as goal

pub returns : goal.returns
returns c code n site tree before after numbered is begins = expression_at code n site numbered tree before after is begins
