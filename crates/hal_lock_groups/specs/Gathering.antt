-- The lock groups of all UPDATE blocks of a set in one list, as bits that are gathered phrase by phrase.
use Rattle.std.specs.Prelude.{ℕ, suc, ◌-◌, bit_or, List, [], ◌∷◌, ◌++◌, length, replicate, Some, None, slice_get, slice_set, unwrap_or}
use Rattle.hal_phrases.specs.Phrases.{Phrase}
use Rattle.hal_lock_groups.specs.Groups.{bits_at}
use Rattle.hal_lock_groups.specs.Shared.{Shared}

-- what a list has for a number: 0 behind its end
abbrev pub bits_for : List ℕ → ℕ → ℕ
bits_for list u = unwrap_or (slice_get list u) 0

-- a list with a place for a number
abbrev pub held : List ℕ → ℕ → List ℕ
held list u = list ++ replicate (suc u - length list) 0

-- more bits for a number, where the list has a place for it
abbrev pub joined : List ℕ → ℕ → ℕ → List ℕ
joined list u more = slice_set list u (bit_or (bits_for list u) more)

-- those of a phrase for the UPDATE block around it
abbrev pub with_phrase : List Phrase → Shared → List ℕ → Phrase → List ℕ
with_phrase ps s list p = elim p.around.update [ None ↦ list | Some u ↦ joined (held list u) u (bits_at ps s p) ]

-- those of more phrases
unfoldable pub with_phrases : List Phrase → Shared → List ℕ → List Phrase → List ℕ
with_phrases ps s list [] = list
with_phrases ps s list (p ∷ qs) = with_phrases ps s (with_phrase ps s list p) qs

-- those of a set
abbrev pub gathered : List Phrase → Shared → List ℕ
gathered ps s = with_phrases ps s [] ps
