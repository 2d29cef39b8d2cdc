-- Parts of structures among the phrases of a set.
use Rattle.std.specs.Prelude.{◌≡◌, ℕ, Bool, List, Some, slice_get}
use Rattle.hal_grammar.specs.Declarations.{Part}
use Rattle.hal_phrases.specs.Phrases.{Phrase, OfPart}

-- the phrase with this number is a part
pub record IsPartAt (ps : List Phrase) (k : ℕ) : Type 0 where
  pub phrase : Phrase
  pub there : slice_get ps k ≡ Some phrase
  pub bottom : Bool
  pub part : Part
  pub is : phrase.node ≡ OfPart bottom part
