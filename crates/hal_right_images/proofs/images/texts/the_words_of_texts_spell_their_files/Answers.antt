use Rattle.hal_right_images.proofs.images.Reading.{all_spelled}
use Rattle.hal_right_images.proofs.images.texts.the_words_of_texts_spell_their_files.Goals as goal

pub returns : goal.returns
returns c number texts files read = all_spelled c.the_words_of_a_text_are_right.ensures.file number texts files read
