-- What is known of looking up names among the phrases of a set.
use Rattle.std.specs.Prelude.{◌≡◌, ℕ, List, Some, None}
use Rattle.hal_phrases.specs.Phrases.{Phrase}
use Rattle.hal_names.specs.declared.key.Key.{Key}
use Rattle.hal_names.specs.Keys.{own}
use Rattle.hal_names.specs.Laws.{IsCounted, IsDeclaration, IsFirst, IsUndeclared}
use Rattle.hal_names.specs.Means.{means}

-- phrases have their places as numbers, a key is found at the first phrase that declares it, and what a name means declares it
pub record LooksUp (ps : List Phrase) : Type 0 where
  pub counted : IsCounted ps
  pub found : (q : Key) (n : ℕ) → own ps q ≡ Some n → IsFirst ps q n
  pub lacking : (q : Key) → own ps q ≡ None → IsUndeclared ps q
  pub meant : (block : ℕ) (name : List ℕ) (n : ℕ) → means ps block name ≡ Some n → IsDeclaration ps name n
