use Rattle.std.proofs.Common.{◌≡◌, ◌++◌, map}
use Rattle.hal_words.specs.Words.{word_item}
use Rattle.hal_lexer.specs.Compiled.{children_at, gives}
use Rattle.hal_lexer.specs.Walks.{left_words, length_left}
use Rattle.hal_lexer.proofs.replacing.write.Given as goal

abbrev pub invariant-child : goal.invariant-child
invariant-child l = record {
  whole : map word_item l.tokens ++ left_words l.compiled l.place l.walk ≡ map word_item l.fn.tokens ++ gives l.compiled l.place (children_at l.compiled l.number);
}

abbrev pub decreases-child : goal.decreases-child
decreases-child l = length_left l.compiled l.walk
