use Rattle.hal_right_images.proofs.images.texts.files_of_checked_texts_are_accepted.Goals as goal

pub returns : goal.returns
returns c texts files image read checked few = record {
  spelled = c.the_words_of_texts_spell_their_files.ensures 0 texts files read;
  given = checked.lawful.matched;
  named = checked.lawful.typed.named;
  typed = checked.lawful.typed.typed;
  locked = checked.lawful.locked;
  called = checked.called;
  program = checked.program;
  within = checked.within;
  few = few;
}
