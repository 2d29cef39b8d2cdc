use Rattle.hal_gen.proofs.Stated.{block_stands}
use Rattle.hal_gen.proofs.laws.the_code_of_statements_stands_for_them.Goals as goal

pub returns : goal.returns
returns c code n site list exits m before after numbered is begins = block_stands code n site numbered list exits m before after is begins
