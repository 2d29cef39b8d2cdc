-- The layout of a set: its storage, processes, events and report names, as the meaning has them.
use Rattle.std.specs.Prelude.{ℕ, ◌≤◌, List, [], ◌∷◌, length, map}
use Rattle.hal_phrases.specs.Phrases.{Phrase}
use Rattle.hal_values.specs.declared.tables.Cell.{Cell}
use Rattle.hal_values.specs.declared.tables.EventStart.{EventStart}
use Rattle.hal_values.specs.declared.tables.Item.{Item}
use Rattle.hal_values.specs.declared.tables.ReportName.{ReportName}
use Rattle.hal_values.specs.declared.tables.Tables.{Tables}
use Rattle.hal_constants.specs.Known.{Known}
use Rattle.hal_meaning.specs.Bodies.{processes_of}
use Rattle.hal_meaning.specs.Events.{Stated, declared_events, start_of, stated}
use Rattle.hal_meaning.specs.ReportNames.{path_of, rows_of}
use Rattle.hal_meaning.specs.Sets.{cells_of, first_of}
use Rattle.hal_storage.specs.own_places.Owned.{OwnPlaces, own_places}

pub record Layout : Type 0 where
  pub cells : List Cell
  pub own : OwnPlaces
  pub processes : List (List ℕ)
  pub first : ℕ
  pub events : List EventStart
  pub expressions : List Stated
  pub names : List ReportName

abbrev pub layout_of : List Phrase → Known → Layout
layout_of ps vs = record {
  cells = cells_of ps vs;
  own = own_places ps vs;
  processes = map (path_of ps) (processes_of ps);
  first = first_of ps;
  events = map (start_of ps vs) (declared_events ps);
  expressions = stated ps;
  names = rows_of ps vs;
}

-- the items of event expressions
abbrev pub items_of : List Stated → List (List Item)
items_of expressions = map (λ (one : Stated). one.items) expressions

-- what the executive knows of a set with this layout
abbrev pub tables_of : Layout → Tables
tables_of l = record { cells = l.cells; processes = l.processes; first = l.first; events = l.events; expressions = items_of l.expressions; names = l.names }

-- names have at most 255 bytes
abbrev pub AreShort : List (List ℕ) → Type 0
AreShort [] = Unit {0}
AreShort (name ∷ names) = (length name ≤ 255) × AreShort names

-- the tables have room for it
abbrev pub IsNarrow : Layout → Type 0
IsNarrow l = AreShort l.processes × (l.first ≤ 255)
