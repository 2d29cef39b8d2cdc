-- The best reading of a phrase: the longest one that is nested at most so deep.
use Rattle.std.specs.Prelude.{◌≡◌, ◌⊎◌, ℕ, ◌<◌, ◌≤◌, length, Some, None}
use Rattle.hal_grammar.specs.Words.{Words}
use Rattle.hal_grammar.specs.GoesOn.{strength}
use Rattle.hal_parse_expr.specs.Reading.{Read}

-- these words spell it up to `after`, it is nested at most so deep, and any other such phrase ends sooner, at a word that is stronger than `c`
pub record Best {X : Type 0} (R : X → Words → Words → Type 0) (depth : X → ℕ) (n c : ℕ) (words : Words) (x : X) (after : Words) : Type 0 where
  pub reads : R x words after
  pub shallow : depth x ≤ n
  pub only : (y : X) (rest : Words) → R y words rest → depth y ≤ n → ((y ≡ x) × (rest ≡ after)) ⊎ ((c < strength rest) × (length after < length rest))

-- nothing is read where there is no such phrase, and else the best one
pub data BestOf {X : Type 0} (R : X → Words → Words → Type 0) (depth : X → ℕ) (n c : ℕ) (words : Words) : Read X → Type 0 where
  nothing : ((y : X) (rest : Words) → R y words rest → depth y ≤ n → ⊥) → BestOf R depth n c words None
  found : {f : X × Words} → Best R depth n c words f.0 f.1 → BestOf R depth n c words (Some f)
