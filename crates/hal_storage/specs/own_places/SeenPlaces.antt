-- What each own place of the program is.
use Rattle.std.specs.Prelude.{List, map, Vec}
use Rattle.std.specs.declared.alloc.Global.{Global}
use Rattle.hal_storage.specs.declared.own_places.place.Place as rust-place
use Rattle.hal_storage.specs.declared.own_places.place.OwnPlaces as rust-own
use Rattle.hal_meaning.specs.Places.{Place}
use Rattle.hal_storage.specs.own_places.Owned.{OwnPlaces}

abbrev pub seen_place : rust-place.Place → Place
seen_place p = record { owner = p.owner; kind = p.kind; initial = p.initial; automatic = p.automatic }

abbrev pub seen_places : Vec rust-place.Place Global → List Place
seen_places list = map seen_place list.items

abbrev pub seen_own : rust-own.OwnPlaces → OwnPlaces
seen_own own = record { common = map seen_place own.common.items; processes = map seen_places own.processes.items }
