-- The own places of processes, as the program has them.
use Rattle.std.specs.Prelude.{ℕ, List, [], ◌++◌, Option, Some, None, map, slice_get}
use Rattle.std.specs.Option.{option_map}
use Rattle.std.proofs.Common.{◌≡◌, refl, ap, ◌∙◌}
use Rattle.std.proofs.lemmas.Option.{slice_get-map}
use Rattle.hal_storage.specs.declared.own_places.place.OwnPlaces as rust-own
use Rattle.hal_storage.specs.own_places.Owned.{own_places}
use Rattle.hal_storage.specs.own_places.SeenPlaces.{seen_places, seen_own}
use Rattle.hal_phrases.specs.Phrases.{Phrase}
use Rattle.hal_constants.specs.Known.{Known}
use Rattle.hal_meaning.specs.Bodies.{processes_of}
use Rattle.hal_meaning.specs.Places.{Place, common_places, sole_places, places_of}
use Rattle.hal_storage.specs.declared.sets.set.Set as rust-set
use Rattle.hal_storage.specs.sets.SeenSets.{seen_set}
use Rattle.hal_meaning.specs.Runs.{places_of_process}
use Rattle.hal_link.specs.Placing.{places_in}
use Rattle.hal_link.specs.SeenLinking.{IsLaid}

-- the others of a process
pub seen_others : (own : rust-own.OwnPlaces) (process : ℕ) → slice_get (map seen_places own.processes.items) process ≡ option_map seen_places (slice_get own.processes.items process)
seen_others own process = slice_get-map seen_places own.processes.items process

-- they are those that the meaning gives
given_by : (ps : List Phrase) (vs : Known) (o : Option ℕ)
    → ◌≡◌ {A = List Place} (elim (option_map (sole_places ps vs) o) [ None ↦ [] | Some others ↦ common_places ps vs ++ others ]) (elim o [ None ↦ [] | Some k ↦ places_of ps vs k ])
given_by ps vs None = refl
given_by ps vs (Some k) = refl

pub places_given : (ps : List Phrase) (vs : Known) (p : ℕ) → ◌≡◌ {A = List Place} (places_in (own_places ps vs) p) (elim (slice_get (processes_of ps) p) [ None ↦ [] | Some k ↦ places_of ps vs k ])
places_given ps vs p =
    ap {B = List Place} (λ (o : Option (List Place)). elim o [ None ↦ [] | Some others ↦ common_places ps vs ++ others ]) (slice_get-map (sole_places ps vs) (processes_of ps) p) ∙ given_by ps vs (slice_get (processes_of ps) p)

-- and those of the set, where its layout has them
pub places_laid : (s : rust-set.Set) (p : ℕ) → IsLaid s → places_in (seen_own s.layout.now.own) p ≡ places_of_process (seen_set s) p
places_laid s p laid = ap (λ own. places_in own p) laid ∙ places_given (seen_set s).phrases (seen_set s).constants p
