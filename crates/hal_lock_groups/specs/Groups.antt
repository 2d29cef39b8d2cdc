-- The bits of the lock groups that a phrase uses.
use Rattle.std.specs.Prelude.{ℕ, ◌^◌, nat_lt, bit_or, Bool, List, if◌then◌else◌}
use Rattle.hal_phrases.specs.Phrases.{Phrase}
use Rattle.hal_meaning.specs.Places.{Storing, InCells, InPlaces, ByReference, Unstored}
use Rattle.hal_lock_groups.specs.Naming.{storing_named}
use Rattle.hal_lock_groups.specs.Shared.{Shared, calls_one}

-- the bit of a group, where there is such a group
abbrev pub bit_of : ℕ → ℕ
bit_of group = if nat_lt group 16 then 2 ^ group else 0

-- the bit of the group of data that are stored so; that of group 0 for an ASSIGN parameter
abbrev pub bit_stored : Storing → ℕ
bit_stored (InCells group) = bit_of group
bit_stored ByReference = 1
bit_stored InPlaces = 0
bit_stored Unstored = 0

-- the bits of the groups that a phrase uses: that of the data that it names, and that of group 0 where it calls a unit that uses it
abbrev pub bits_with : Storing → Bool → ℕ
bits_with s calls = if calls then bit_or (bit_stored s) 1 else bit_stored s

abbrev pub bits_at : List Phrase → Shared → Phrase → ℕ
bits_at ps s p = bits_with (storing_named ps s.storings p) (calls_one ps s.plain p)
