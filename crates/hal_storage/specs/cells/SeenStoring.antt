-- Which way of storing each of the program is.
use Rattle.hal_storage.specs.declared.cells.storing.Storing as rust-storing
use Rattle.hal_storage.specs.declared.cells.storing.Storing.TheVariants as storing
use Rattle.hal_meaning.specs.Places.{Storing, InCells, InPlaces, ByReference, Unstored}

abbrev pub seen_storing : rust-storing.Storing → Storing
seen_storing (storing.InCells group) = InCells group
seen_storing storing.InPlaces = InPlaces
seen_storing storing.ByReference = ByReference
seen_storing storing.Unstored = Unstored
