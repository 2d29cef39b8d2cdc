use Rattle.std.proofs.Common.{drop}
use Rattle.hal_lexer.proofs.Summing.{Behind}
use Rattle.hal_lexer.proofs.summary.gather_words.Given as goal

abbrev pub invariant-word : goal.invariant-word
invariant-word l = Behind l.comes l.numbers (drop l.number-index l.numbers) l.parts.items
