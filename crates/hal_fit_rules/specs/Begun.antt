-- Phrases that are the first ones of a set.
use Rattle.std.specs.Prelude.{◌≡◌, ◌++◌, List}
use Rattle.hal_phrases.specs.Phrases.{Phrase}

-- these phrases are the first of those
pub record AreFirst (d ps : List Phrase) : Type 0 where
  pub later : List Phrase
  pub whole : ps ≡ d ++ later
