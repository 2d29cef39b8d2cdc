use Rattle.std.proofs.Common.{◌≡◌, ◌++◌, map}
use Rattle.hal_words.specs.Words.{word_item}
use Rattle.hal_lexer.specs.Compiled.{children_at, gives}
use Rattle.hal_lexer.specs.Summary.{children_of, table_of}
use Rattle.hal_lexer.specs.Walks.{left_words, length_left}
use Rattle.hal_lexer.proofs.writing.write_name.Given as goal

abbrev pub invariant-part : goal.invariant-part
invariant-part l = record {
  whole : map word_item l.tokens ++ left_words (table_of l.words l.entries) l.place (children_of l.words l.walk)
      ≡ map word_item l.fn.tokens ++ gives (table_of l.words l.entries) l.place (children_at (table_of l.words l.entries) l.number);
}

abbrev pub decreases-part : goal.decreases-part
decreases-part l = length_left (table_of l.words l.entries) (children_of l.words l.walk)
