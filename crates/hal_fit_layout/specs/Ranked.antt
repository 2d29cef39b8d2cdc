-- Units that a process calls, by their ranks.
use Rattle.std.specs.Prelude.{◌≡◌, ℕ, true, false, List, Some, slice_get}
use Rattle.hal_phrases.specs.Phrases.{Phrase}
use Rattle.hal_meaning.specs.Bodies.{processes_reaching}
use Rattle.hal_meaning.specs.Places.{unit_numbers, are_several, is_reentrant_at}
use Rattle.hal_reach.specs.Calls.{calls_itself}
use Rattle.hal_reach.specs.Places.{is_among}
use Rattle.hal_link.specs.Outlines.{Rank, calls}

-- a unit is among those that the process with this unit calls; so many units reach it
pub record IsCalled (process : ℕ) (ranks : List Rank) (unit : ℕ) : Type 0 where
  pub rank : Rank
  pub place : ℕ
  pub there : slice_get ranks place ≡ Some rank
  pub its : rank.unit ≡ unit
  pub calls_it : calls process rank ≡ true

-- no unit calls itself, by itself or through others: rule 901 isn't broken
abbrev pub IsAcyclic : List Phrase → Type 0
IsAcyclic ps = (q : ℕ) → is_among (unit_numbers ps) q ≡ true → calls_itself ps q ≡ false

-- several processes reach REENTRANT units alone: rule 902 isn't broken
abbrev pub AreReentrant : List Phrase → Type 0
AreReentrant ps = (q : ℕ) → is_among (unit_numbers ps) q ≡ true → are_several (processes_reaching ps q) ≡ true → is_reentrant_at ps q ≡ true
