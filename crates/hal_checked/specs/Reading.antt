-- Whose files the texts of a set's units are.
use Rattle.std.specs.Prelude.{ℕ, ◌+◌, List, [], ◌∷◌}
use Rattle.hal_words.specs.declared.word.Token.{Token}
use Rattle.hal_words.specs.Words as words
use Rattle.hal_grammar.specs.Units.{File}
use Rattle.hal_parse.specs.Parsed.{IsFileOf}

-- the text of the unit with this number has words, and they are those of the file
pub record IsRead (number : ℕ) (text : List ℕ) (file : File) : Type 0 where
  pub tokens : List Token
  pub cut : words.IsCut number text tokens
  pub parsed : IsFileOf tokens file

-- each text is that of its file; the first unit has this number
abbrev pub AreRead : ℕ → List (List ℕ) → List File → Type 0
AreRead number [] [] = Unit {0}
AreRead number [] (file ∷ files) = ⊥
AreRead number (text ∷ texts) [] = ⊥
AreRead number (text ∷ texts) (file ∷ files) = IsRead number text file × AreRead (number + 1) texts files
