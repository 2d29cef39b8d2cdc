use Rattle.hal_grammar.proofs.OneExpression.{one_expression}
use Rattle.hal_grammar.proofs.Outcomes.{same_end}
use Rattle.hal_grammar.proofs.laws.one_expression.Goals as goal

pub returns : goal.returns
returns c t u words after d e = same_end (one_expression d e)
