-- What linking looks up.
use Rattle.std.specs.Prelude.{◌≡◌, ℕ, nat_le, List, [], ◌∷◌, ◌++◌, ◌+◌, length, Option, Some, None, map, if◌then◌else◌}
use Rattle.std.specs.declared.alloc.Global.{Global}
use Rattle.std.specs.declared.vec.Vec.{Vec}
use Rattle.hal_storage.specs.own_places.Owned.{own_places}
use Rattle.hal_storage.specs.own_places.SeenPlaces.{seen_own}
use Rattle.hal_storage.specs.declared.sets.set.Set as rust-set
use Rattle.hal_storage.specs.sets.SeenSets.{seen_set}
use Rattle.hal_code.specs.declared.row.Process.{Process}
use Rattle.hal_meaning.specs.Sets.{Set}
use Rattle.hal_meaning.specs.Runs.{places_of_process}
use Rattle.hal_runs.specs.Joined.{rows_joined}
use Rattle.hal_runs.specs.Same.{same_place}
use Rattle.hal_link.specs.Linking.{own_row}
use Rattle.hal_link.specs.Outlines.{Outline, block_of}
use Rattle.hal_link.specs.Shapes.{shapes_of}

-- the own places of the set's layout are those of the set
abbrev pub IsLaid : rust-set.Set → Type 0
IsLaid s = seen_own s.layout.now.own ≡ own_places (seen_set s).phrases (seen_set s).constants

-- the row of a process
abbrev pub process_row : Set → List Outline → ℕ → List ℕ → Process
process_row s os p name = record { name = name; block = block_of os p; places = rows_joined same_place (map (own_row s (shapes_of s)) (places_of_process s p)) }

-- the rows of processes from this one on
unfoldable pub rows_from : Set → List Outline → ℕ → List (List ℕ) → List Process
rows_from s os p [] = []
rows_from s os p (name ∷ names) = process_row s os p name ∷ rows_from s os (p + 1) names

-- the same behind rows so far; None where a name has more than 255 bytes
unfoldable pub rows_if : Set → List Outline → ℕ → List Process → List (List ℕ) → Option (List Process)
rows_if s os p rows [] = Some rows
rows_if s os p rows (name ∷ names) = if nat_le (length name) 255 then rows_if s os (p + 1) (rows ++ (process_row s os p name ∷ [])) names else None

abbrev pub seen_rows : Vec Process Global → List Process
seen_rows rows = rows.items
