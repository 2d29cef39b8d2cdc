-- What rows are looked up in, as the program has it.
use Rattle.std.specs.Prelude.{ℕ, ◌==◌, List, Option, map, position}
use Rattle.hal_storage.specs.declared.own_places.place.Place as rust-place
use Rattle.hal_storage.specs.own_places.SeenPlaces.{seen_own}
use Rattle.hal_reach.specs.SeenUnits.{seen_reached}
use Rattle.hal_storage.specs.declared.report_names.lookups.Lookups as rust-lookups
use Rattle.hal_storage.specs.report_names.Rows.{Lookups}

abbrev pub seen_lookups : rust-lookups.Lookups → Lookups
seen_lookups l = record { units = map seen_reached l.units.items; processes = l.processes.items; events = l.events.items; own = seen_own l.own }

-- the number of the first of these places that the phrase with this number has
abbrev pub place_in : List rust-place.Place → ℕ → Option ℕ
place_in places owner = position (λ (one : rust-place.Place). one.owner == owner) places
