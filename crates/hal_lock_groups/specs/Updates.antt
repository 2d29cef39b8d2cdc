-- The lock groups of the UPDATE blocks of a set.
use Rattle.std.specs.Prelude.{◌≡◌, ℕ, Bool, List, slice_get, unwrap_or}
use Rattle.std.specs.Option.{is_some}
use Rattle.std.specs.List.{list_any}
use Rattle.hal_phrases.specs.Phrases.{Phrase}
use Rattle.hal_constants.specs.Known.{Known}
use Rattle.hal_meaning.specs.LockGroups.{groups_of}

-- a list has the groups of each UPDATE block of a set, at the number of its phrase; 0 at the numbers of other phrases, and behind its end
abbrev pub AreGroups : List Phrase → Known → List ℕ → Type 0
AreGroups ps vs list = (u : ℕ) → unwrap_or (slice_get list u) 0 ≡ groups_of ps vs u

-- whether a phrase stands in an UPDATE block
unfoldable pub is_updated : Phrase → Bool
is_updated p = is_some p.around.update

-- whether a set has phrases that stand in UPDATE blocks
abbrev pub has_updates : List Phrase → Bool
has_updates ps = list_any is_updated ps
