use Rattle.hal_grammar.proofs.OneExpression.{one_expression}
use Rattle.hal_grammar.proofs.laws.expression_goes_on.Goals as goal

pub returns : goal.returns
returns c t u words a b d e = one_expression d e
