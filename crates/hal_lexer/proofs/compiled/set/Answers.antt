use Rattle.std.proofs.Common.{rules}
use Rattle.hal_lexer.proofs.NumberIndex.{found_updates}
use Rattle.hal_lexer.proofs.compiled.set.Goals as goal

pub returns-in-Ok-clause-set : goal.returns-in-Ok-clause-set
returns-in-Ok-clause-set c = found_updates c.args.numbers.now.entries _ c.args.name c.args.number (search rules)
