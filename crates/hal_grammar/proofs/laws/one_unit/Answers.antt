use Rattle.hal_grammar.proofs.OneFile.{one_block}
use Rattle.hal_grammar.proofs.laws.one_unit.Goals as goal

pub returns : goal.returns
returns c u v words a b d e = one_block d e
