-- Where the numbers of elements and processes have room in rows: 32 bits and 8 bits.
use Rattle.std.specs.Prelude.{◌≡◌, ℕ, ◌+◌, ◌≤◌, List, [], ◌∷◌, Option, Some, None, length}
use Rattle.hal_phrases.specs.Phrases.{Node, Phrase, OfItem}
use Rattle.hal_constants.specs.Known.{Known}
use Rattle.hal_meaning.specs.Elements.{Shape, copy_size, shape_of}
use Rattle.hal_meaning.specs.Places.{Storing, InCells, InPlaces, ByReference, Unstored, storing, cells_at}
use Rattle.hal_meaning.specs.ReportNames as reports
use Rattle.hal_storage.specs.report_names.Rows.{Lookups, place_of, showing_in, rows_at}

-- the elements of one copy that begin there
abbrev pub HasRoom : ℕ → Shape → Type 0
HasRoom first shape = first + copy_size shape.components ≤ 4294967295

-- those in own places that this process shows
abbrev pub HasRoomInPlaces : Lookups → Phrase → Shape → Option ℕ → Type 0
HasRoomInPlaces l p shape None = Unit {0}
HasRoomInPlaces l p shape (Some process) = (process ≤ 255) × HasRoom (place_of l.own process p.number) shape

-- those of data that are stored so
abbrev pub HasRoomStored : Lookups → ℕ → Phrase → Shape → Storing → Type 0
HasRoomStored l cell p shape (InCells group) = HasRoom cell shape
HasRoomStored l cell p shape InPlaces = HasRoomInPlaces l p shape (showing_in l p.around.home)
HasRoomStored l cell p shape ByReference = Unit {0}
HasRoomStored l cell p shape Unstored = Unit {0}

-- those of what a phrase declares
abbrev pub HasRoomAt : List Phrase → Known → Lookups → ℕ → Phrase → Node → Type 0
HasRoomAt ps vs l cell p (OfItem common item) = HasRoomStored l cell p (shape_of ps vs p common item) (storing ps vs p (OfItem common item))
HasRoomAt ps vs l cell p other = Unit {0}

-- the phrases from one on, before which there are so many shared cells, have their rows
abbrev pub HaveRows : List Phrase → Known → Lookups → ℕ → List Phrase → Type 0
HaveRows ps vs l cell [] = Unit {0}
HaveRows ps vs l cell (p ∷ rest) =
    HasRoomAt ps vs l cell p p.node × (rows_at ps vs l cell p p.node ≡ reports.rows_at ps vs p p.node) × HaveRows ps vs l (cell + length (cells_at ps vs p p.node)) rest

-- the numbers of events have 16 bits
abbrev pub AreFew : Lookups → Type 0
AreFew l = length l.processes + length l.events ≤ 65535
