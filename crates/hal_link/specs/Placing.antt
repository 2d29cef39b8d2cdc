-- The own places of a process, by its number.
use Rattle.std.specs.Prelude.{ℕ, List, [], ◌++◌, None, Some, slice_get}
use Rattle.hal_meaning.specs.Places.{Place}
use Rattle.hal_storage.specs.own_places.Owned.{OwnPlaces}

-- the common ones and then its others; none where there is no such process
abbrev pub places_in : OwnPlaces → ℕ → List Place
places_in own p = elim (slice_get own.processes p) [ None ↦ [] | Some others ↦ own.common ++ others ]
