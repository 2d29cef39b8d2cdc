use Rattle.std.proofs.Common.{take}
use Rattle.hal_words.specs.Replacing.{Definitions}
use Rattle.hal_lexer.specs.Sound.{IsSound}
use Rattle.hal_lexer.specs.Summary.{Keeps, Numbered}
use Rattle.hal_lexer.proofs.cut.numbers_of.Given as goal

abbrev pub invariant-word : goal.invariant-word
invariant-word l = record {
  numbers : (definitions : Definitions) → IsSound definitions l.fn.summary → Numbered l.summary.words.items (take l.word-index l.words) l.numbers.items;
  sound : (definitions : Definitions) → IsSound definitions l.fn.summary → IsSound definitions l.summary;
  keeps : Keeps l.fn.summary.words.items l.summary.words.items;
}
