-- What each site of the program is.
use Rattle.std.specs.Prelude.{◌≡◌, ◌≤◌, ◌+◌, length, map}
use Rattle.std.specs.Borrow.{Bor}
use Rattle.hal_storage.specs.declared.own_places.place.Place as rust-place
use Rattle.hal_storage.specs.own_places.SeenPlaces.{seen_place}
use Rattle.hal_meaning.specs.Bodies.{processes_of}
use Rattle.hal_meaning.specs.Events.{declared_events}
use Rattle.hal_meaning.specs.Places.{Place}
use Rattle.hal_storage.specs.referents.FirstCells.{AreFirstCells}
use Rattle.hal_storage.specs.referents.Referents.{referents}
use Rattle.hal_storage.specs.referents.SeenReferents.{seen_referent}
use Rattle.hal_storage.specs.sets.SeenSets.{seen_set}
use Rattle.hal_agreement.specs.Sites.{Site}
use Rattle.hal_gen_expr.specs.FirstPlaces.{AreFirstPlaces}
use Rattle.hal_gen_expr.specs.Numbering.{Numbering, numbering_with}
use Rattle.hal_gen_expr.specs.declared.site.Site as rust-site

-- a place that is lent
abbrev pub lent_place : Bor rust-place.Place → Place
lent_place p = seen_place p.now

unfoldable pub seen_site : rust-site.Site → Site
seen_site s = record { set = seen_set s.set.now; places = map lent_place s.places.now; unit = s.unit; block = s.block; marks = s.marks.now }

unfoldable pub seen_numbering : rust-site.Site → Numbering
seen_numbering s = numbering_with s.shapes.now s.views.now.list.items s.calls.first s.calls.units.now

-- what is looked up is that of the set
pub data IsSite (s : rust-site.Site) : Type 0 where
  Sited : (listed : map seen_referent s.referents.now ≡ referents (seen_set s.set.now).phrases (seen_set s.set.now).constants)
      → (processes : s.events.processes.now ≡ processes_of (seen_set s.set.now).phrases)
      → (declared : s.events.declared.now ≡ declared_events (seen_set s.set.now).phrases)
      → (few : length s.events.processes.now + length s.events.declared.now ≤ 65535)
      → (counted : AreFirstCells (seen_set s.set.now).phrases (seen_set s.set.now).constants s.cells.now)
      → (placed : AreFirstPlaces (map lent_place s.places.now) s.first_places.now) → IsSite s
