use Rattle.hal_grammar.proofs.OneDeclaration.{one_declaration}
use Rattle.hal_grammar.proofs.laws.one_declaration.Goals as goal

pub returns : goal.returns
returns c d e words a b h i = one_declaration h i
