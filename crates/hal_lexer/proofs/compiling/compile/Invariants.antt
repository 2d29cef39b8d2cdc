use Rattle.std.proofs.Common.{◌≡◌, true}
use Rattle.hal_words.specs.declared.word.Word.TheVariants as word
use Rattle.hal_words.specs.Pieces.{Is}
use Rattle.hal_words.specs.Lines.{item}
use Rattle.hal_words.specs.Replacing.{replaced_word}
use Rattle.hal_lexer.specs.Compiled.{IsCompiled}
use Rattle.hal_lexer.specs.Opened.{AreOpened, Leads, is_seen, work}
use Rattle.hal_lexer.proofs.compiling.compile.Given as goal

abbrev pub invariant-word : goal.invariant-word
invariant-word l = record {
  compiled : IsCompiled l.definitions l.compiled;
  opened : AreOpened l.definitions l.compiled l.frames;
  seen : is_seen l.compiled l.frames l.fn.name ≡ true;
  leads : Leads l.definitions l.place (replaced_word l.definitions (item (Is (word.Name l.fn.name)) l.place)) l.frames;
}

abbrev pub decreases-word : goal.decreases-word
decreases-word l = work l.definitions l.compiled l.frames
