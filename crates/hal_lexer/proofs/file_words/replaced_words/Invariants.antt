use Rattle.std.proofs.Common.{◌≡◌, ◌-◌, ◌≤◌, ◌++◌, [], length, drop, map}
use Rattle.hal_words.specs.Replacing.{replaced}
use Rattle.hal_words.specs.Words.{word_item}
use Rattle.hal_pieces.specs.Faults.{seen_item}
use Rattle.hal_lexer.specs.Sound.{IsSound}
use Rattle.hal_lexer.proofs.file_words.replaced_words.Given as goal

abbrev pub invariant-item : goal.invariant-item
invariant-item l = record {
  whole : replaced 0 [] (map seen_item l.items) ≡ map word_item l.tokens ++ replaced 0 l.replacements.definitions (map seen_item (drop l.«from» l.items));
  sound : IsSound l.replacements.definitions l.replacements.summary;
  within : l.«from» ≤ length l.items;
}

abbrev pub decreases-item : goal.decreases-item
decreases-item l = length l.items - l.«from»
