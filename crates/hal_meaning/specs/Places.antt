-- Where data are stored: which cells are shared and in which lock group, and the own places of each process.
use Rattle.std.specs.Prelude.{ℕ, ◌+◌, ◌*◌, sum_by, ◌==◌, Bool, true, false, ◌&&◌, ◌||◌, List, [], ◌∷◌, ◌++◌, Option, Some, None, slice_get, filter_map, flat_map, length, replicate, unwrap_or, if◌then◌else◌}
use Rattle.std.specs.Option.{option_and_then, option_or}
use Rattle.std.specs.List.{list_any}
use Rattle.hal_grammar.specs.Declarations.{Automatic, Attribute, LockGroup, Declared}
use Rattle.hal_grammar.specs.Units.{Head, Program, Compool}
use Rattle.hal_phrases.specs.declared.role.Role.TheVariants as role
use Rattle.hal_phrases.specs.Phrases.{Node, Phrase, OfUnit, OfParameter, OfItem, OfExpression, OfVariable, OfGroup, OfTemporaryGroup}
use Rattle.hal_names.specs.declared.key.Space.TheVariants as space
use Rattle.hal_names.specs.Keys.{key, own}
use Rattle.hal_names.specs.Tasks.{is_task_in}
use Rattle.hal_scope.specs.Sorts.{type_of}
use Rattle.hal_kinds.specs.Attributes.{has_mark}
use Rattle.hal_kinds.specs.Data.{is_event_type}
use Rattle.hal_constants.specs.Naming.{is_value_item}
use Rattle.hal_constants.specs.Constants.{constant_of}
use Rattle.hal_constants.specs.Known.{Known, size_of}
use Rattle.hal_values.specs.declared.tables.Cell.{Cell}
use Rattle.hal_values.specs.declared.value.Kind.{Kind}
use Rattle.hal_values.specs.declared.value.Kind.TheVariants as kind
use Rattle.hal_values.specs.declared.value.Value.{Value}
use Rattle.hal_states.specs.OfKinds.{nothing}
use Rattle.hal_meaning.specs.Elements.{kinds_of, shape_of}
use Rattle.hal_meaning.specs.InitialValues.{first_values}
use Rattle.hal_meaning.specs.Bodies.{is_reentrant_head, processes_reaching, processes_of, is_unit}

-- the lock group that an attribute gives
abbrev pub group_in : List Phrase → Known → Phrase → Attribute → Option ℕ
group_in ps vs p (LockGroup place group) = Some (unwrap_or (size_of 15 (constant_of ps vs p group)) 0)
group_in ps vs p other = None

-- the first among attributes
abbrev pub group_among : List Phrase → Known → Phrase → List Attribute → Option ℕ
group_among ps vs p [] = None
group_among ps vs p (a ∷ others) = option_or (group_in ps vs p a) (group_among ps vs p others)

-- the parameter of this name of the block with this number, and whether it is an ASSIGN parameter
abbrev pub parameter_at : Node → Option Bool
parameter_at (OfParameter name output) = Some output
parameter_at other = None

abbrev pub parameter : List Phrase → ℕ → List ℕ → Option Bool
parameter ps home name = option_and_then (λ (p : Phrase). parameter_at p.node) (option_and_then (slice_get ps) (own ps (key space.Parameter home name)))

-- whether STATIC data directly in a unit with this number and head are shared
abbrev pub shares : List Phrase → ℕ → Head → Bool
shares ps unit (Compool place) = true
shares ps unit (Program place) = list_any (is_task_in unit) ps
shares ps unit head = is_reentrant_head head

abbrev pub shares_at : List Phrase → ℕ → Node → Bool
shares_at ps unit (OfUnit name head declarations) = shares ps unit head
shares_at ps unit other = false

abbrev pub home_shares : List Phrase → ℕ → Bool
home_shares ps unit = elim (slice_get ps unit) [ None ↦ false | Some p ↦ shares_at ps unit p.node ]

-- how a declaration is stored: in shared cells of a group, in own places, as a reference, or not at all
pub data Storing : Type 0 where
  InCells : (group : ℕ) → Storing
  InPlaces : Storing
  ByReference : Storing
  Unstored : Storing

-- data that are no parameter
abbrev pub storing_of_data : Bool → Bool → Option ℕ → Storing
storing_of_data home_shared automatic (Some group) = InCells group
storing_of_data home_shared true None = InPlaces
storing_of_data true false None = InCells 0
storing_of_data false false None = InPlaces

-- whether a phrase stands in a unit of the set, and not in a template
abbrev pub is_in_unit : List Phrase → ℕ → Bool
is_in_unit ps home = elim (slice_get ps home) [ None ↦ false | Some p ↦ is_unit p.node ]

abbrev pub storing_of_item : List Phrase → Known → Phrase → List Attribute → Declared → Option Bool → Storing
storing_of_item ps vs p common item (Some true) = ByReference
storing_of_item ps vs p common item (Some false) = InPlaces
storing_of_item ps vs p common item None =
    if is_event_type (type_of common item) || is_value_item common item then Unstored
    else storing_of_data (home_shares ps p.around.home) (has_mark Automatic (item.attributes ++ common)) (group_among ps vs p (item.attributes ++ common))

-- how the data are stored that a phrase declares
abbrev pub storing : List Phrase → Known → Phrase → Node → Storing
storing ps vs p (OfItem common item) =
    if is_in_unit ps p.around.home then storing_of_item ps vs p common item (parameter ps p.around.home item.name.name) else Unstored
storing ps vs p other = Unstored

-- shared cells of one group, with their kinds and first values
abbrev pub cells_from : ℕ → List Kind → List Value → List Cell
cells_from group (k ∷ ks) (v ∷ vs) = record { kind = k; group = group; initial = v } ∷ cells_from group ks vs
cells_from group ks vs = []

abbrev pub cells_of_item : List Phrase → Known → Phrase → List Attribute → Declared → Storing → List Cell
cells_of_item ps vs p common item (InCells group) =
    let ks = kinds_of (shape_of ps vs p common item) in
    cells_from group ks (first_values ps vs p (item.attributes ++ common) ks)
cells_of_item ps vs p common item other = []

-- the shared cells of what a phrase declares
abbrev pub cells_at : List Phrase → Known → Phrase → Node → List Cell
cells_at ps vs p (OfItem common item) = cells_of_item ps vs p common item (storing ps vs p (OfItem common item))
cells_at ps vs p other = []

-- an own place: the phrase that it belongs to, its kind, what it holds at first, and whether it does so again whenever its block is entered. A
-- reference has no kind
pub record Place : Type 0 where
  pub owner : ℕ
  pub kind : Option Kind
  pub initial : Value
  pub automatic : Bool

abbrev pub place_from : ℕ → Bool → Kind → Value → Place
place_from owner automatic k v = record { owner = owner; kind = Some k; initial = v; automatic = automatic }

abbrev pub places_from : ℕ → Bool → List Kind → List Value → List Place
places_from owner automatic (k ∷ ks) (v ∷ vs) = place_from owner automatic k v ∷ places_from owner automatic ks vs
places_from owner automatic ks vs = []

-- so many places of a loop's or a case's own
abbrev pub hidden : ℕ → ℕ → List Place
hidden owner n = replicate n (place_from owner false kind.Double (nothing kind.Double))

abbrev pub places_of_item : List Phrase → Known → Phrase → List Attribute → Declared → Storing → List Place
places_of_item ps vs p common item InPlaces =
    let ks = kinds_of (shape_of ps vs p common item) in
    places_from p.number (has_mark Automatic (item.attributes ++ common)) ks (first_values ps vs p (item.attributes ++ common) ks)
places_of_item ps vs p common item ByReference = record { owner = p.number; kind = None; initial = nothing kind.Double; automatic = false } ∷ []
places_of_item ps vs p common item (InCells group) = []
places_of_item ps vs p common item Unstored = []

-- whether a phrase says of the group that it belongs to that it is DO FOR or DO CASE
abbrev pub says_for_or_case : Node → Bool
says_for_or_case (OfVariable name) = true
says_for_or_case (OfExpression role.Case tree) = true
says_for_or_case other = false

abbrev pub is_for_or_case : List Phrase → ℕ → Bool
is_for_or_case ps k = list_any (λ (p : Phrase). says_for_or_case p.node && (p.around.parent == k)) ps

-- the own places of what a phrase declares: DO FOR and DO CASE have four, and a TEMPORARY is the first of five
abbrev pub places_at : List Phrase → Known → Phrase → Node → List Place
places_at ps vs p (OfItem common item) = places_of_item ps vs p common item (storing ps vs p (OfItem common item))
places_at ps vs p (OfTemporaryGroup labels variable) = hidden p.number 5
places_at ps vs p (OfGroup labels looping) = if is_for_or_case ps p.number then hidden p.number 4 else []
places_at ps vs p other = []

-- the own places of the block with this number
abbrev pub places_in : List Phrase → Known → ℕ → List Place
places_in ps vs q = flat_map (λ (p : Phrase). if p.around.home == q then places_at ps vs p p.node else []) ps

-- the units, in order
abbrev pub unit_numbers : List Phrase → List ℕ
unit_numbers ps = filter_map (λ (p : Phrase). if is_unit p.node then Some p.number else None) ps

-- whether several processes reach a block
abbrev pub are_several : List ℕ → Bool
are_several [] = false
are_several (p ∷ []) = false
are_several (p ∷ q ∷ more) = true

-- whether one process alone reaches a block; one that none reaches counts as the first one's
abbrev pub is_sole : List ℕ → ℕ → List ℕ → Bool
is_sole [] process [] = false
is_sole (first ∷ others) process [] = process == first
is_sole all process (one ∷ []) = process == one
is_sole all process (one ∷ other ∷ more) = false

-- the common places: those of the blocks that several processes reach
abbrev pub common_places : List Phrase → Known → List Place
common_places ps vs = flat_map (λ q. if are_several (processes_reaching ps q) then places_in ps vs q else []) (unit_numbers ps)

-- the other places of a process: those of the blocks that it alone reaches
abbrev pub sole_places : List Phrase → Known → ℕ → List Place
sole_places ps vs process = flat_map (λ q. if is_sole (processes_of ps) process (processes_reaching ps q) then places_in ps vs q else []) (unit_numbers ps)

-- the own places of a process, the common ones first
abbrev pub places_of : List Phrase → Known → ℕ → List Place
places_of ps vs process = common_places ps vs ++ sole_places ps vs process

-- whether the phrase with this number is the unit of a REENTRANT block
abbrev pub is_reentrant : Node → Bool
is_reentrant (OfUnit name head declarations) = is_reentrant_head head
is_reentrant other = false

abbrev pub is_reentrant_at : List Phrase → ℕ → Bool
is_reentrant_at ps q = elim (slice_get ps q) [ None ↦ false | Some p ↦ is_reentrant p.node ]

-- how many cells a set has, by which its limit goes: the shared ones, the own places of blocks that aren't REENTRANT, and for each process those of REENTRANT blocks
abbrev pub cell_count : List Phrase → Known → ℕ
cell_count ps vs =
    sum_by (λ (p : Phrase). length (cells_at ps vs p p.node)) ps
    + sum_by (λ q. if is_reentrant_at ps q then length (processes_of ps) * length (places_in ps vs q) else length (places_in ps vs q)) (unit_numbers ps)
