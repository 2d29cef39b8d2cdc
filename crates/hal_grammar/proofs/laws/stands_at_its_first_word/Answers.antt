use Rattle.hal_grammar.proofs.PlacedExpressions.{expression_placed}
use Rattle.hal_grammar.proofs.PlacedStatements.{statement_placed}
use Rattle.hal_grammar.proofs.laws.stands_at_its_first_word.Goals as goal

pub returns-clause-expression : goal.returns-clause-expression
returns-clause-expression c t words after d = expression_placed d

pub returns-clause-statement : goal.returns-clause-statement
returns-clause-statement c s words after d = statement_placed d
