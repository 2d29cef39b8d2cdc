-- What an index keeps of the names that phrases declare.
use Rattle.std.specs.Prelude.{◌≡◌, ℕ, List, Option, Some, None, if◌then◌else◌}
use Rattle.std.specs.Option.{option_or}
use Rattle.std.specs.Map.{lookup}
use Rattle.hal_phrases.specs.Phrases.{Phrase}
use Rattle.hal_names.specs.declared.key.Key.{Key}
use Rattle.hal_names.specs.Keys.{declared_by, is_key, same_key, own}

-- what the entries of a map have for a key
abbrev pub found : List (Key × ℕ) → Key → Option ℕ
found entries q = lookup (λ k. same_key k q) entries

-- the number of a phrase, where it declares the key
abbrev pub declares : Phrase → Key → Option ℕ
declares p q = if is_key q (declared_by p) then Some p.number else None

-- the entries are those of the phrases
pub record IsIndex (entries : List (Key × ℕ)) (ps : List Phrase) : Type 0 where
  pub finds : (q : Key) → found entries q ≡ own ps q

-- one more phrase is noted
pub record IsNoted (old new : List (Key × ℕ)) (p : Phrase) : Type 0 where
  pub finds : (q : Key) → found new q ≡ option_or (found old q) (declares p q)
