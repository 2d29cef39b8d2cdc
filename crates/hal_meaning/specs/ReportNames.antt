-- The names of processes, and those that the report shows.
use Rattle.std.specs.Prelude.{ℕ, zero, suc, ◌+◌, ◌==◌, Bool, true, false, not, ◌&&◌, List, [], ◌∷◌, ◌++◌, Option, Some, None, slice_get, length, flat_map, position, unwrap_or, take, if◌then◌else◌}
use Rattle.std.specs.Option.{is_some}
use Rattle.hal_grammar.specs.Declarations.{Automatic, Latched, Attribute, Declared}
use Rattle.hal_phrases.specs.Phrases.{Node, Phrase, OfUnit, OfItem}
use Rattle.hal_scope.specs.Sorts.{type_of}
use Rattle.hal_kinds.specs.Attributes.{has_mark, constant_of}
use Rattle.hal_kinds.specs.Data.{is_event_type}
use Rattle.hal_constants.specs.Known.{Known}
use Rattle.hal_values.specs.declared.tables.ReportBase.{ReportBase}
use Rattle.hal_values.specs.declared.tables.ReportBase.TheVariants as base
use Rattle.hal_values.specs.declared.tables.ReportName.{ReportName}
use Rattle.hal_meaning.specs.Elements.{Component, Shape, shape_of, copy_size}
use Rattle.hal_meaning.specs.Bodies.{processes_of, processes_reaching}
use Rattle.hal_meaning.specs.Places.{Storing, InCells, InPlaces, ByReference, Unstored, storing, parameter, cells_at, Place, places_of, is_in_unit, is_sole}
use Rattle.hal_meaning.specs.Events.{event_of}

abbrev pub unit_name : Node → Option (List ℕ)
unit_name (OfUnit name head declarations) = Some name.name
unit_name other = None

-- names with points between them
abbrev pub joined : List ℕ → List ℕ → List ℕ
joined [] name = name
joined path name = path ++ (46 ∷ name)

-- the names of the units around the one with this number and its own; at most so many are looked at
abbrev pub path_within : ℕ → List Phrase → ℕ → List ℕ
path_within zero ps k = []
path_within (suc n) ps k =
    elim (slice_get ps k) [
      | None ↦ []
      | Some p ↦ elim (unit_name p.node) [ None ↦ [] | Some name ↦ joined (path_within n ps p.around.home) name ]
    ]

-- the path of a unit
abbrev pub path_of : List Phrase → ℕ → List ℕ
path_of ps k = path_within (length ps) ps k

-- the number of the first shared cell of what the phrase with this number declares
abbrev pub first_cell : List Phrase → Known → ℕ → ℕ
first_cell ps vs k = length (flat_map (λ (p : Phrase). cells_at ps vs p p.node) (take k ps))

-- the number of the first place that the phrase with this number has among these
abbrev pub first_place : List Place → ℕ → ℕ
first_place places k = unwrap_or (position (λ (one : Place). one.owner == k) places) 0

-- a row for each component: its own path is that of the data, and the names that lead to it
abbrev pub with_path : List ℕ → List (List ℕ) → List ℕ
with_path name [] = name
with_path name (part ∷ parts) = with_path (joined name part) parts

abbrev pub rows_from : List ℕ → ReportBase → ℕ → ℕ → ℕ → List Component → List ReportName
rows_from name from first copies stride [] = []
rows_from name from first copies stride (c ∷ cs) =
    record { name = with_path name c.path; base = from; first = first; copies = copies; stride = stride; dimensions = c.sizes }
    ∷ rows_from name from (copy_size (c ∷ []) + first) copies stride cs

abbrev pub rows_of_shape : List ℕ → ReportBase → ℕ → Shape → List ReportName
rows_of_shape name from first shape = rows_from name from first (unwrap_or shape.copies 0) (copy_size shape.components) shape.components

-- the process whose places show data of a unit: the one that reaches it
abbrev pub showing : List Phrase → ℕ → Option ℕ
showing ps unit = position (λ process. is_sole (processes_of ps) process (processes_reaching ps unit)) (processes_of ps)

abbrev pub rows_stored : List Phrase → Known → Phrase → List ℕ → Shape → Storing → List ReportName
rows_stored ps vs p name shape (InCells group) = rows_of_shape name base.Shared (first_cell ps vs p.number) shape
rows_stored ps vs p name shape InPlaces =
    elim (showing ps p.around.home) [
      | None ↦ []
      | Some process ↦ rows_of_shape name (base.Own process) (first_place (places_of ps vs (unwrap_or (slice_get (processes_of ps) process) 0)) p.number) shape
    ]
rows_stored ps vs p name shape ByReference = []
rows_stored ps vs p name shape Unstored = []

-- a latched event has one row
abbrev pub rows_of_event : List Phrase → Phrase → List ℕ → Bool → List ReportName
rows_of_event ps p name false = []
rows_of_event ps p name true = record { name = name; base = base.Event; first = unwrap_or (event_of ps p.number) 0; copies = 0; stride = 0; dimensions = [] } ∷ []

-- whether the report shows data: they are STATIC, and neither constant nor a parameter
abbrev pub is_shown : List Phrase → Phrase → List Attribute → Declared → Bool
is_shown ps p common item =
    not (has_mark Automatic (item.attributes ++ common)) && (not (is_some (constant_of common item)) && not (is_some (parameter ps p.around.home item.name.name)))

abbrev pub rows_of_item : List Phrase → Known → Phrase → List Attribute → Declared → List ReportName
rows_of_item ps vs p common item =
    if is_event_type (type_of common item)
    then rows_of_event ps p (joined (path_of ps p.around.home) item.name.name) (has_mark Latched (item.attributes ++ common))
    else if is_shown ps p common item
    then rows_stored ps vs p (joined (path_of ps p.around.home) item.name.name) (shape_of ps vs p common item) (storing ps vs p (OfItem common item))
    else []

-- the rows of what a phrase declares
abbrev pub rows_at : List Phrase → Known → Phrase → Node → List ReportName
rows_at ps vs p (OfItem common item) = if is_in_unit ps p.around.home then rows_of_item ps vs p common item else []
rows_at ps vs p other = []

-- all rows, in the order of the declarations
abbrev pub rows_of : List Phrase → Known → List ReportName
rows_of ps vs = flat_map (λ (p : Phrase). rows_at ps vs p p.node) ps
