-- The groups that are DO FOR or DO CASE, as marks of phrases.
use Rattle.std.specs.Prelude.{◌≡◌, ℕ, suc, ◌-◌, Bool, true, false, List, [], ◌∷◌, ◌++◌, length, replicate, slice_get, slice_set, unwrap_or, if◌then◌else◌}
use Rattle.hal_phrases.specs.Phrases.{Phrase}
use Rattle.hal_meaning.specs.Places.{Place, hidden, is_for_or_case, says_for_or_case}
use Rattle.hal_storage.specs.declared.own_places.groups.PlacedGroups as rust-groups

-- whether a number is marked: none behind the end is
abbrev pub is_marked_in : List Bool → ℕ → Bool
is_marked_in marks k = unwrap_or (slice_get marks k) false

abbrev pub has_in : rust-groups.PlacedGroups → ℕ → Bool
has_in g k = is_marked_in g.marks.items k

-- they are those of a set
abbrev pub ArePlaced : List Phrase → rust-groups.PlacedGroups → Type 0
ArePlaced ps g = (k : ℕ) → has_in g k ≡ is_for_or_case ps k

-- marks that reach a number
abbrev pub held : List Bool → ℕ → List Bool
held marks k = marks ++ replicate (suc k - length marks) false

-- the mark of the group that a phrase belongs to
abbrev pub with_parent : List Bool → Phrase → List Bool
with_parent marks p = if says_for_or_case p.node then slice_set (held marks p.around.parent) p.around.parent true else marks

-- those of more phrases
unfoldable pub with_parents : List Bool → List Phrase → List Bool
with_parents marks [] = marks
with_parents marks (p ∷ rest) = with_parents (with_parent marks p) rest

-- the places of a group, by the marks
abbrev pub places_by : rust-groups.PlacedGroups → ℕ → List Place
places_by g k = if has_in g k then hidden k 4 else []
