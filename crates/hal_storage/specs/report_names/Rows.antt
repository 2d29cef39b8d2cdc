-- The rows of report names, by what they are looked up in.
use Rattle.std.specs.Prelude.{ℕ, ◌+◌, ◌==◌, List, [], ◌∷◌, ◌++◌, Option, Some, None, slice_get, length, position, unwrap_or, if◌then◌else◌}
use Rattle.hal_grammar.specs.Declarations.{Latched, Attribute, Declared}
use Rattle.hal_phrases.specs.Phrases.{Node, Phrase, OfItem}
use Rattle.hal_scope.specs.Sorts.{type_of}
use Rattle.hal_kinds.specs.Attributes.{has_mark}
use Rattle.hal_kinds.specs.Data.{is_event_type}
use Rattle.hal_constants.specs.Known.{Known}
use Rattle.hal_values.specs.declared.tables.ReportBase.TheVariants as base
use Rattle.hal_values.specs.declared.tables.ReportName.{ReportName}
use Rattle.hal_meaning.specs.Bodies.{processes_of}
use Rattle.hal_meaning.specs.Elements.{Shape, shape_of}
use Rattle.hal_meaning.specs.Events.{declared_events}
use Rattle.hal_meaning.specs.Places.{Storing, InCells, InPlaces, ByReference, Unstored, storing, Place, is_in_unit, is_sole}
use Rattle.hal_meaning.specs.ReportNames.{joined, path_of, rows_of_shape, is_shown}
use Rattle.hal_reach.specs.Calls.{reached_of}
use Rattle.hal_reach.specs.Marks.{Reached}
use Rattle.hal_storage.specs.own_places.Owned.{OwnPlaces, own_places}
use Rattle.hal_storage.specs.event_expressions.Numbered.{event_among}

-- what rows are looked up in: the units with the processes that reach them, the numbers of the processes and of the declared events, and the own places
pub record Lookups : Type 0 where
  pub units : List Reached
  pub processes : List ℕ
  pub events : List ℕ
  pub own : OwnPlaces

abbrev pub lookups_of : List Phrase → Known → Lookups
lookups_of ps vs = record { units = reached_of ps; processes = processes_of ps; events = declared_events ps; own = own_places ps vs }

-- the process whose places show data of a unit that these processes reach
abbrev pub showing_by : List ℕ → List ℕ → Option ℕ
showing_by all reaching = position (λ process. is_sole all process reaching) all

-- the same of the unit with this number among units
abbrev pub showing_among : List ℕ → List Reached → ℕ → Option ℕ
showing_among all [] number = None
showing_among all (u ∷ us) number = if u.unit == number then showing_by all u.processes else showing_among all us number

abbrev pub showing_in : Lookups → ℕ → Option ℕ
showing_in l number = showing_among l.processes l.units number

-- the number of the first of these places that the phrase with this number has
abbrev pub place_in : List Place → ℕ → Option ℕ
place_in places owner = position (λ (one : Place). one.owner == owner) places

-- the same of places with others behind them
abbrev pub place_by : ℕ → Option ℕ → Option ℕ → ℕ
place_by before (Some n) other = n
place_by before None (Some n) = before + n
place_by before None None = 0

abbrev pub place_among : List Place → List Place → ℕ → ℕ
place_among common others owner = place_by (length common) (place_in common owner) (place_in others owner)

-- the same of the places of a process
abbrev pub place_of : OwnPlaces → ℕ → ℕ → ℕ
place_of own process owner = place_among own.common (unwrap_or (slice_get own.processes process) []) owner

-- the rows of data in own places that this process shows
abbrev pub rows_in_places : Lookups → Phrase → List ℕ → Shape → Option ℕ → List ReportName
rows_in_places l p name shape None = []
rows_in_places l p name shape (Some process) = rows_of_shape name (base.Own process) (place_of l.own process p.number) shape

-- the rows of data that are stored so, whose first shared cell this one is
abbrev pub rows_stored : Lookups → ℕ → Phrase → List ℕ → Shape → Storing → List ReportName
rows_stored l cell p name shape (InCells group) = rows_of_shape name base.Shared cell shape
rows_stored l cell p name shape InPlaces = rows_in_places l p name shape (showing_in l p.around.home)
rows_stored l cell p name shape ByReference = []
rows_stored l cell p name shape Unstored = []

-- a latched event has one row
abbrev pub event_row : Lookups → Phrase → List ℕ → ReportName
event_row l p name = record { name = name; base = base.Event; first = unwrap_or (event_among l.processes l.events p.number) 0; copies = 0; stride = 0; dimensions = [] }

-- the name that the report shows of what a phrase declares
abbrev pub name_of : List Phrase → Phrase → Declared → List ℕ
name_of ps p item = joined (path_of ps p.around.home) item.name.name

abbrev pub rows_of_any_event : List Phrase → Lookups → Phrase → List Attribute → Declared → List ReportName
rows_of_any_event ps l p common item = if has_mark Latched (item.attributes ++ common) then event_row l p (name_of ps p item) ∷ [] else []

-- the rows of data
abbrev pub rows_of_data : List Phrase → Known → Lookups → ℕ → Phrase → List Attribute → Declared → Storing → List ReportName
rows_of_data ps vs l cell p common item stored =
    if is_shown ps p common item then rows_stored l cell p (name_of ps p item) (shape_of ps vs p common item) stored else []

-- the rows of data or of an event
abbrev pub rows_of_item : List Phrase → Known → Lookups → ℕ → Phrase → List Attribute → Declared → Storing → List ReportName
rows_of_item ps vs l cell p common item stored =
    if is_event_type (type_of common item)
    then rows_of_any_event ps l p common item
    else rows_of_data ps vs l cell p common item stored

-- the rows of what a phrase declares
abbrev pub rows_at : List Phrase → Known → Lookups → ℕ → Phrase → Node → List ReportName
rows_at ps vs l cell p (OfItem common item) = if is_in_unit ps p.around.home then rows_of_item ps vs l cell p common item (storing ps vs p (OfItem common item)) else []
rows_at ps vs l cell p other = []
