-- The rows by what they are looked up in are those of the meaning.
use Rattle.std.proofs.Common.{◌≡◌, ◌∙◌, ◌<◌, ℕ, Bool, true, false, List, [], ◌∷◌, ◌++◌, Option, Some, None, length, slice_get, unwrap_or, if◌then◌else◌, refl, ap}
use Rattle.hal_grammar.specs.Declarations.{Latched, Attribute, Declared}
use Rattle.hal_phrases.specs.Phrases.{Node, Phrase, OfFile, OfInclude, OfTemplate, OfUnit, OfParameter, OfClose, OfDeclare, OfItem, OfStructure, OfPart, OfStructureType, OfInitial, OfInitialName, OfLabel, OfExpression, OfDecimal, OfCallForm, OfReference, OfSubscriptName, OfAssignment, OfGroup, OfTemporaryGroup, OfVariable, OfExit, OfRepeat, OfReturn, OfCall, OfRead, OfWrite, OfUpdate, OfRealTime, OfProcess, OfEvent, OfHandler, OfResponse, OfOffError, OfSendError}
use Rattle.hal_names.specs.Laws.{IsCounted}
use Rattle.hal_scope.specs.Sorts.{type_of}
use Rattle.hal_kinds.specs.Attributes.{has_mark}
use Rattle.hal_kinds.specs.Data.{is_event_type}
use Rattle.hal_constants.specs.Known.{Known}
use Rattle.hal_values.specs.declared.tables.ReportBase.TheVariants as base
use Rattle.hal_values.specs.declared.tables.ReportName.{ReportName}
use Rattle.hal_meaning.specs.Bodies.{processes_of}
use Rattle.hal_meaning.specs.Elements.{Shape, shape_of}
use Rattle.hal_meaning.specs.Events.{event_of}
use Rattle.hal_meaning.specs.Places.{Storing, InCells, InPlaces, ByReference, Unstored, storing, is_in_unit, places_of}
use Rattle.hal_meaning.specs.ReportNames.{first_cell, first_place, is_shown, rows_of_shape, showing}
use Rattle.hal_meaning.specs.ReportNames as reports
use Rattle.hal_storage.specs.report_names.Rows.{lookups_of, name_of, rows_in_places, rows_stored, rows_of_data, rows_of_item, rows_at}
use Rattle.hal_storage.proofs.report_names.Shown.{has_home, showing_is, showing_below, place_is}

-- the rows of data that this process shows
shown_by : List Phrase → Known → Phrase → List ℕ → Shape → Option ℕ → List ReportName
shown_by ps vs p name shape process =
    elim process [
      | None ↦ []
      | Some one ↦ rows_of_shape name (base.Own one) (first_place (places_of ps vs (unwrap_or (slice_get (processes_of ps) one) 0)) p.number) shape
    ]

in_places : (ps : List Phrase) (vs : Known) (p : Phrase) (name : List ℕ) (shape : Shape) (process : Option ℕ) → ((one : ℕ) → process ≡ Some one → one < length (processes_of ps))
    → rows_in_places (lookups_of ps vs) p name shape process ≡ shown_by ps vs p name shape process
unfolding shown_by
in_places ps vs p name shape None less = refl
in_places ps vs p name shape (Some one) less = ap (λ first. rows_of_shape name (base.Own one) first shape) (place_is ps vs one p.number (less one refl))

stored : (ps : List Phrase) (vs : Known) → IsCounted ps → (cell : ℕ) (p : Phrase) → cell ≡ first_cell ps vs p.number → is_in_unit ps p.around.home ≡ true → (name : List ℕ) (shape : Shape) (s : Storing)
    → rows_stored (lookups_of ps vs) cell p name shape s ≡ reports.rows_stored ps vs p name shape s
unfolding shown_by
stored ps vs counted cell p first inside name shape (InCells group) = ap (λ n. rows_of_shape name base.Shared n shape) first
stored ps vs counted cell p first inside name shape InPlaces =
    ap (rows_in_places (lookups_of ps vs) p name shape) (showing_is ps vs p.around.home (has_home ps counted p.around.home inside))
    ∙ in_places ps vs p name shape (showing ps p.around.home) (showing_below ps p.around.home)
stored ps vs counted cell p first inside name shape ByReference = refl
stored ps vs counted cell p first inside name shape Unstored = refl

by_mark : (ps : List Phrase) (vs : Known) (p : Phrase) (item : Declared) (b : Bool)
    → (if b then record { name = name_of ps p item; base = base.Event; first = unwrap_or (event_of ps p.number) 0; copies = 0; stride = 0; dimensions = [] } ∷ [] else []) ≡ reports.rows_of_event ps p (name_of ps p item) b
by_mark ps vs p item true = refl
by_mark ps vs p item false = refl

of_item : (ps : List Phrase) (vs : Known) → IsCounted ps → (cell : ℕ) (p : Phrase) → cell ≡ first_cell ps vs p.number → is_in_unit ps p.around.home ≡ true → (common : List Attribute) (item : Declared)
    → rows_of_item ps vs (lookups_of ps vs) cell p common item (storing ps vs p (OfItem common item)) ≡ reports.rows_of_item ps vs p common item
of_item ps vs counted cell p first inside common item =
    ap (λ rows. if is_event_type (type_of common item) then rows else rows_of_data ps vs (lookups_of ps vs) cell p common item (storing ps vs p (OfItem common item)))
    (by_mark ps vs p item (has_mark Latched (item.attributes ++ common)))
    ∙ ap (λ rows. if is_event_type (type_of common item) then reports.rows_of_event ps p (name_of ps p item) (has_mark Latched (item.attributes ++ common)) else if is_shown ps p common item then rows else [])
    (stored ps vs counted cell p first inside (name_of ps p item) (shape_of ps vs p common item) (storing ps vs p (OfItem common item)))

in_unit : (b : Bool) (one other : List ReportName) → (b ≡ true → one ≡ other) → (if b then one else []) ≡ (if b then other else [])
in_unit true one other same = same refl
in_unit false one other same = refl

-- the rows of what a phrase declares
pub rows_alike : (ps : List Phrase) (vs : Known) → IsCounted ps → (cell : ℕ) (p : Phrase) → cell ≡ first_cell ps vs p.number → (node : Node) → rows_at ps vs (lookups_of ps vs) cell p node ≡ reports.rows_at ps vs p node
rows_alike ps vs counted cell p first (OfItem common item) =
    in_unit (is_in_unit ps p.around.home) _ _ (λ inside. of_item ps vs counted cell p first inside common item)
rows_alike ps vs counted cell p first (OfFile prefaces name) = refl
rows_alike ps vs counted cell p first (OfInclude name) = refl
rows_alike ps vs counted cell p first (OfTemplate name head list) = refl
rows_alike ps vs counted cell p first (OfUnit name head list) = refl
rows_alike ps vs counted cell p first (OfParameter name output) = refl
rows_alike ps vs counted cell p first (OfClose name) = refl
rows_alike ps vs counted cell p first (OfDeclare common) = refl
rows_alike ps vs counted cell p first (OfStructure name parts) = refl
rows_alike ps vs counted cell p first (OfPart bottom part) = refl
rows_alike ps vs counted cell p first (OfStructureType place template) = refl
rows_alike ps vs counted cell p first (OfInitial initial) = refl
rows_alike ps vs counted cell p first (OfInitialName name) = refl
rows_alike ps vs counted cell p first (OfLabel name) = refl
rows_alike ps vs counted cell p first (OfExpression r tree) = refl
rows_alike ps vs counted cell p first (OfDecimal r place) = refl
rows_alike ps vs counted cell p first (OfCallForm place name arguments) = refl
rows_alike ps vs counted cell p first (OfReference r reference) = refl
rows_alike ps vs counted cell p first (OfSubscriptName name) = refl
rows_alike ps vs counted cell p first (OfAssignment receivers tree) = refl
rows_alike ps vs counted cell p first (OfGroup labels looping) = refl
rows_alike ps vs counted cell p first (OfTemporaryGroup labels variable) = refl
rows_alike ps vs counted cell p first (OfVariable name) = refl
rows_alike ps vs counted cell p first (OfExit place label) = refl
rows_alike ps vs counted cell p first (OfRepeat place label) = refl
rows_alike ps vs counted cell p first (OfReturn place tree) = refl
rows_alike ps vs counted cell p first (OfCall name arguments receivers) = refl
rows_alike ps vs counted cell p first (OfRead place) = refl
rows_alike ps vs counted cell p first (OfWrite place) = refl
rows_alike ps vs counted cell p first (OfUpdate place labels) = refl
rows_alike ps vs counted cell p first (OfRealTime place) = refl
rows_alike ps vs counted cell p first (OfProcess name) = refl
rows_alike ps vs counted cell p first (OfEvent event) = refl
rows_alike ps vs counted cell p first (OfHandler place selector) = refl
rows_alike ps vs counted cell p first (OfResponse place selector) = refl
rows_alike ps vs counted cell p first (OfOffError place selector) = refl
rows_alike ps vs counted cell p first (OfSendError group_at group number_at number) = refl
