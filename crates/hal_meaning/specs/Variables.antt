-- What names mean where phrases are evaluated, and where their data lie.
use Rattle.std.specs.Prelude.{ℕ, ◌+◌, ◌*◌, Bool, true, false, ◌&&◌, ◌||◌, not, List, [], ◌∷◌, ℤ, pos, Some, None, slice_get, unwrap_or, if◌then◌else◌}
use Rattle.std.specs.Option.{is_some}
use Rattle.hal_grammar.specs.Declarations.{Attribute, Declared}
use Rattle.hal_grammar.specs.Units.{Head, Program, Compool, Task, Procedure, Function}
use Rattle.hal_phrases.specs.Phrases.{Node, Phrase, OfUnit, OfItem, OfTemporaryGroup}
use Rattle.hal_scope.specs.declared.builtin.Builtin.{Builtin}
use Rattle.hal_scope.specs.Builtins.{builtin_named}
use Rattle.hal_scope.specs.Sorts.{type_of}
use Rattle.hal_kinds.specs.Data.{is_event_type}
use Rattle.hal_constants.specs.Naming.{is_value_item, value_at}
use Rattle.hal_values.specs.declared.value.Kind.{Kind}
use Rattle.hal_values.specs.declared.value.Kind.TheVariants as kind
use Rattle.hal_values.specs.declared.value.Value.{Value}
use Rattle.hal_values.specs.declared.value.Value.TheVariants as value
use Rattle.hal_states.specs.Spots.{Spot, Shared, Own, Nowhere, Held, referred_to}
use Rattle.hal_states.specs.Numbers.{is_inside, before_nearest}
use Rattle.hal_meaning.specs.Elements.{Component, Shape, shape_of, product}
use Rattle.hal_meaning.specs.Bodies.{meant}
use Rattle.hal_meaning.specs.Places.{Storing, InCells, InPlaces, ByReference, Unstored, storing}
use Rattle.hal_meaning.specs.Events.{event_of}
use Rattle.hal_meaning.specs.ReportNames.{first_cell, first_place}
use Rattle.hal_meaning.specs.Access.{Here}

-- where data begin that are stored so
abbrev pub spot_of : Here → List Held → ℕ → Storing → Spot
spot_of h places k (InCells group) = Shared (first_cell h.set.phrases h.set.constants k)
spot_of h places k InPlaces = Own (first_place h.places k)
spot_of h places k ByReference = referred_to (slice_get places (first_place h.places k))
spot_of h places k Unstored = Nowhere

-- what a name means: data with their first spot and shape, a constant, an event or a process, a block that is called, a built-in function, or nothing
pub data Meant : Type 0 where
  MeantData : (at : Spot) (shape : Shape) → Meant
  MeantConstant : (value : Value) → Meant
  MeantEvent : (event : ℕ) → Meant
  MeantBlock : (unit : ℕ) → Meant
  MeantBuiltin : (builtin : Builtin) → Meant
  MeantNothing : Meant

-- an integer that a group declares
abbrev pub temporary_shape : Shape
temporary_shape = record { copies = None; components = record { path = []; kind = kind.Double; sizes = [] } ∷ [] }

abbrev pub event_meant : Here → ℕ → Meant
event_meant h k = elim (event_of h.set.phrases k) [ None ↦ MeantNothing | Some e ↦ MeantEvent e ]

abbrev pub item_meant : Here → List Held → Phrase → List Attribute → Declared → Meant
item_meant h places p common item =
    if is_event_type (type_of common item) then event_meant h p.number
    else if is_value_item common item then MeantConstant (unwrap_or (value_at h.set.constants p.number) (value.Int (pos 0)))
    else MeantData (spot_of h places p.number (storing h.set.phrases h.set.constants p (OfItem common item))) (shape_of h.set.phrases h.set.constants p common item)

abbrev pub head_meant : Here → ℕ → Head → Meant
head_meant h k (Program place) = event_meant h k
head_meant h k (Task place) = event_meant h k
head_meant h k (Compool place) = MeantNothing
head_meant h k (Procedure place inputs outputs mode) = MeantBlock k
head_meant h k (Function place inputs returns mode) = MeantBlock k

abbrev pub meant_by : Here → List Held → Phrase → Node → Meant
meant_by h places p (OfItem common item) = item_meant h places p common item
meant_by h places p (OfTemporaryGroup labels variable) = MeantData (Own (first_place h.places p.number)) temporary_shape
meant_by h places p (OfUnit name head declarations) = head_meant h p.number head
meant_by h places p other = MeantNothing

-- what the declaration with this number means
abbrev pub declaration_meant : Here → List Held → ℕ → Meant
declaration_meant h places k = elim (slice_get h.set.phrases k) [ None ↦ MeantNothing | Some p ↦ meant_by h places p p.node ]

abbrev pub builtin_meant : List ℕ → Meant
builtin_meant name = elim (builtin_named name) [ None ↦ MeantNothing | Some b ↦ MeantBuiltin b ]

-- what a name means here, while the own places hold this
abbrev pub name_meant : Here → List ℕ → List Held → Meant
name_meant h name places = elim (meant h.set.phrases h.block name) [ None ↦ builtin_meant name | Some k ↦ declaration_meant h places k ]

-- where data begin that a name means
abbrev pub spot_meant : Meant → Spot
spot_meant (MeantData at shape) = at
spot_meant other = Nowhere

-- the same while the own places hold this: those of an ASSIGN parameter begin where its reference leads
abbrev pub spot_named : Here → List ℕ → List Held → Spot
spot_named h name places = spot_meant (name_meant h name places)

-- a subscript of copies or of an array: one place, or places from one to another
pub data Index : Type 0 where
  Single : (place : ℤ) → Index
  Several : (first last : ℤ) → Index

abbrev pub index_is_inside : ℕ → Index → Bool
index_is_inside size (Single place) = is_inside size place
index_is_inside size (Several first last) = is_inside size first && is_inside size last

-- how many places lie before the first one that a subscript chooses
abbrev pub places_before : ℕ → Index → ℕ
places_before size (Single place) = before_nearest size place
places_before size (Several first last) = before_nearest size first

-- a dimension of data, or their copies: its size, and how far the next place is
pub record Dimension : Type 0 where
  pub size : ℕ
  pub stride : ℕ

abbrev pub dimension : ℕ → ℕ → Dimension
dimension size stride = record { size = size; stride = stride }

-- the dimensions of an array, the last one being the fastest
abbrev pub dimensions_of : List ℕ → List Dimension
dimensions_of [] = []
dimensions_of (n ∷ ns) = dimension n (product ns) ∷ dimensions_of ns

abbrev pub all_inside : List Dimension → List Index → Bool
all_inside (d ∷ ds) (i ∷ is) = index_is_inside d.size i && all_inside ds is
all_inside ds is = true

-- how many elements lie before those that subscripts choose
abbrev pub elements_before : List Dimension → List Index → ℕ
elements_before (d ∷ ds) (i ∷ is) = places_before d.size i * d.stride + elements_before ds is
elements_before ds is = 0

-- the sizes of the array of the component to which names lead
abbrev pub sizes_of_first : List Component → List ℕ
sizes_of_first [] = []
sizes_of_first (c ∷ cs) = c.sizes

-- its kind
abbrev pub kind_of_first : List Component → Kind
kind_of_first [] = kind.Double
kind_of_first (c ∷ cs) = c.kind

abbrev pub is_arrayed : List ℕ → Bool
is_arrayed [] = false
is_arrayed (n ∷ ns) = true

-- whether data are several elements or a structure
abbrev pub is_nil : {X : Type 0} → List X → Bool
is_nil [] = true
is_nil (x ∷ xs) = false

abbrev pub are_plain_components : List Component → Bool
are_plain_components (c ∷ []) = is_nil c.path && is_nil c.sizes
are_plain_components other = false

abbrev pub is_whole : Shape → Bool
is_whole shape = is_some shape.copies || not (are_plain_components shape.components)
