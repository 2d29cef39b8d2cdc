use Rattle.std.proofs.Common.{◌≡◌, length}
use Rattle.hal_words.specs.Replacing.{Definitions}
use Rattle.hal_lexer.specs.Sound.{IsSound}
use Rattle.hal_lexer.proofs.summary.Summary.forget.Given as goal

abbrev pub invariant-name : goal.invariant-name
invariant-name l = record {
  sound : (definitions : Definitions) → IsSound definitions l.fn.self → IsSound definitions l.self;
  words : l.self.words.items ≡ l.fn.self.words.items;
  cuts : l.self.cuts.items ≡ l.fn.self.cuts.items;
  numbers : l.self.numbers.entries ≡ l.fn.self.numbers.entries;
}

abbrev pub decreases-name : goal.decreases-name
decreases-name l = length l.self.done
