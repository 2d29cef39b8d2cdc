-- When a load's tables are right.
use Rattle.std.specs.Prelude.{◌≡◌, ℕ, ◌+◌, ◌-◌, ◌<◌, ◌≤◌, List, [], ◌∷◌, length, All}
use Rattle.hal_base.specs.declared.limits.TheConstants.{CELL_LIMIT, EVENT_LIMIT, PROCESS_LIMIT}
use Rattle.hal_values.specs.declared.tables.Cell.{Cell}
use Rattle.hal_values.specs.declared.tables.Item.{Item}
use Rattle.hal_values.specs.declared.tables.Item.TheVariants as item
use Rattle.hal_values.specs.declared.tables.Tables.{Tables}
use Rattle.hal_values.specs.declared.value.Value.{Value}
use Rattle.hal_values.specs.Kinds.{IsKind, IsOfKind}

-- how many processes there are
abbrev pub process_count : Tables → ℕ
process_count tables = length tables.processes

-- how many events there are: one for each process, and the declared ones
abbrev pub event_count : Tables → ℕ
event_count tables = length tables.processes + length tables.events

-- the items leave one value where so many operands stand before them, and name events below the count
abbrev pub IsPostfix : ℕ → ℕ → List Item → Type 0
IsPostfix events operands [] = operands ≡ 1
IsPostfix events operands (item.Event e ∷ items) = (e < events) × IsPostfix events (operands + 1) items
IsPostfix events operands (item.Not ∷ items) = (1 ≤ operands) × IsPostfix events operands items
IsPostfix events operands (item.And ∷ items) = (2 ≤ operands) × IsPostfix events (operands - 1) items
IsPostfix events operands (item.Or ∷ items) = (2 ≤ operands) × IsPostfix events (operands - 1) items

-- the event expression is well formed over so many events
abbrev pub IsExpression : ℕ → List Item → Type 0
IsExpression events items = IsPostfix events 0 items

-- the cell's kind is in its range, and the initial value is of it
abbrev pub IsCell : Cell → Type 0
IsCell cell = IsKind cell.kind × IsOfKind cell.kind cell.initial

-- the tables keep their limits, initial values are of their kinds, event expressions are well formed, and the first process exists
pub record IsTables (tables : Tables) : Type 0 where
  pub few_cells : length tables.cells ≤ CELL_LIMIT
  pub few_processes : process_count tables ≤ PROCESS_LIMIT
  pub few_events : length tables.events ≤ EVENT_LIMIT
  pub cells : All IsCell tables.cells
  pub expressions : All (IsExpression (event_count tables)) tables.expressions
  pub first : tables.first < process_count tables

-- there is one value for each cell, of the cell's kind
abbrev pub IsSnapshot : List Cell → List Value → Type 0
IsSnapshot [] [] = Unit {0}
IsSnapshot [] (v ∷ values) = ⊥
IsSnapshot (cell ∷ cells) [] = ⊥
IsSnapshot (cell ∷ cells) (v ∷ values) = IsOfKind cell.kind v × IsSnapshot cells values
