use Rattle.hal_grammar.proofs.OneStatement.{one_statement}
use Rattle.hal_grammar.proofs.laws.one_statement.Goals as goal

pub returns : goal.returns
returns c s t words a b d e = one_statement d e
