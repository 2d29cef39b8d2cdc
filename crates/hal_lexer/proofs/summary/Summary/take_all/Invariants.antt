use Rattle.std.proofs.Common.{◌≡◌}
use Rattle.hal_words.specs.Replacing.{Definitions}
use Rattle.hal_lexer.specs.Sound.{IsSound}
use Rattle.hal_lexer.proofs.summary.Summary.take_all.Given as goal

abbrev pub invariant-name : goal.invariant-name
invariant-name l = record {
  sound : (definitions : Definitions) → IsSound definitions l.fn.self → IsSound definitions l.self;
  words : l.self.words.items ≡ l.fn.self.words.items;
}
