use Rattle.hal_grammar.proofs.OneFile.{one_file}
use Rattle.hal_grammar.proofs.laws.one_tree.Goals as goal

pub returns-clause-whole : goal.returns-clause-whole
returns-clause-whole c f g words d e = (one_file d e).0

pub returns-clause-front : goal.returns-clause-front
returns-clause-front c f g words a b d e = one_file d e
