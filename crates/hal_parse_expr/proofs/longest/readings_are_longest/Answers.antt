use Rattle.hal_parse_expr.proofs.BestPhrases.{expression_best, expressions_best, reference_best}
use Rattle.hal_parse_expr.proofs.longest.readings_are_longest.Goals as goal

-- src/longest.rt:34:1
pub returns-clause-expression : goal.returns-clause-expression
returns-clause-expression c = expression_best

-- src/longest.rt:34:1
pub returns-clause-expressions : goal.returns-clause-expressions
returns-clause-expressions c = expressions_best

-- src/longest.rt:34:1
pub returns-clause-reference : goal.returns-clause-reference
returns-clause-reference c = reference_best
