-- Right words spell the files that texts are of.
use Rattle.std.specs.Prelude.{ℕ, ◌+◌, List, [], ◌∷◌}
use Rattle.hal_words.specs.declared.word.Token.{Token}
use Rattle.hal_words.specs.Words.{IsCut}
use Rattle.hal_grammar.specs.SpellsFiles.{SpellsFile}
use Rattle.hal_grammar.specs.Units.{File}
use Rattle.hal_checked.specs.Reading.{AreRead}
use Rattle.hal_right_images.specs.spelled.Words.{AreAllSpelled, IsSpelled}

-- text by text
pub all_spelled : ((unit : ℕ) (text : List ℕ) (tokens : List Token) (file : File) → IsCut unit text tokens → SpellsFile file tokens [] → IsSpelled file)
    → (number : ℕ) (texts : List (List ℕ)) (files : List File) → AreRead number texts files → AreAllSpelled files
all_spelled one number [] [] read = tt
all_spelled one number [] (file ∷ files) read = absurd read
all_spelled one number (text ∷ texts) [] read = absurd read
all_spelled one number (text ∷ texts) (file ∷ files) read =
    (one number text read.0.tokens file read.0.cut read.0.parsed.spelled, all_spelled one (number + 1) texts files read.1)
