-- What the lock groups of UPDATE blocks are found by: how data are stored, and which units name plain shared data or reach one that does.
use Rattle.std.specs.Prelude.{ℕ, Bool, false, List, [], ◌∷◌, ◌++◌, Some, None, if◌then◌else◌}
use Rattle.hal_phrases.specs.Phrases.{Phrase}
use Rattle.hal_constants.specs.Known.{Known}
use Rattle.hal_reach.specs.Places.{is_among}
use Rattle.hal_reach.specs.Calls.{reaching}
use Rattle.hal_meaning.specs.Bodies.{callee}
use Rattle.hal_meaning.specs.Places.{Storing}
use Rattle.hal_meaning.specs.LockGroups.{is_plain}
use Rattle.hal_lock_groups.specs.Naming.{all_storings, storing_named}

pub record Shared : Type 0 where
  pub storings : List Storing
  pub plain : List ℕ

-- numbers and one more, unless it is among them
abbrev pub with_number : List ℕ → ℕ → List ℕ
with_number ks k = if is_among ks k then ks else ks ++ (k ∷ [])

-- the homes of phrases that name plain shared data, and that of one more phrase where it does
abbrev pub with_home : List Phrase → List Storing → List ℕ → Phrase → List ℕ
with_home ps list homes p = if is_plain (storing_named ps list p) then with_number homes p.around.home else homes

-- those of more phrases
unfoldable pub with_homes : List Phrase → List Storing → List ℕ → List Phrase → List ℕ
with_homes ps list homes [] = homes
with_homes ps list homes (p ∷ qs) = with_homes ps list (with_home ps list homes p) qs

-- the homes of all phrases that do
abbrev pub plain_homes : List Phrase → List Storing → List ℕ
plain_homes ps list = with_homes ps list [] ps

-- those of a set
unfoldable pub shared_of : List Phrase → Known → Shared
shared_of ps vs = record { storings = all_storings ps vs; plain = reaching ps (plain_homes ps (all_storings ps vs)) }

-- whether a phrase calls one of these units
abbrev pub calls_one : List Phrase → List ℕ → Phrase → Bool
calls_one ps units p = elim (callee ps p) [ None ↦ false | Some q ↦ is_among units q ]
