use Rattle.hal_right_images.proofs.spelled.RightWords.{cut_right}
use Rattle.hal_right_images.proofs.spelled.laws.the_words_of_a_text_are_right.Goals as goal

pub returns-clause-file : goal.returns-clause-file
returns-clause-file c unit text tokens file cut spelled = record { words = tokens; spelled = spelled; right = cut_right unit text tokens cut }

pub returns-clause-words : goal.returns-clause-words
returns-clause-words c unit text tokens cut = cut_right unit text tokens cut
