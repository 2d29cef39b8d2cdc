-- The views of a set: what references choose of stored data, each choice once, and how many cells they reach.
use Rattle.std.specs.Prelude.{ℕ, ◌+◌, ◌-◌, ◌*◌, ◌==◌, ◌≤◌, pos, Bool, true, false, ◌&&◌, List, [], ◌∷◌, ◌++◌, Option, Some, None, option_map, slice_get, flat_map, map, sum_by, bytes_eq, unwrap_or, if◌then◌else◌}
use Rattle.std.specs.Option.{option_and_then}
use Rattle.std.specs.List.{list_any}
use Rattle.hal_base.specs.declared.limits.TheConstants.{CELL_LIMIT}
use Rattle.hal_grammar.specs.Leaves.{Naming}
use Rattle.hal_grammar.specs.Expressions.{Reference, Refers, Subscript, Unsubscripted, ByName, ByInteger, ByParts, Subscripts, NoSubscripts, MoreSubscripts, Sub, Every, One, Range, Portion, Position, FromBeginning, FromEnd}
use Rattle.hal_grammar.specs.Units.{File}
use Rattle.hal_phrases.specs.Phrases.{Node, Phrase, OfItem, OfTemporaryGroup, OfReference, OfSubscriptName, OfCallForm, OfVariable}
use Rattle.hal_phrases.specs.GatheredUnits.{phrases_of}
use Rattle.hal_kinds.specs.Subscripts.{is_none}
use Rattle.hal_values.specs.declared.value.Kind.TheVariants as kind
use Rattle.hal_values.specs.declared.value.Value.TheVariants as value
use Rattle.hal_constants.specs.declared.constant.Constant.{Constant}
use Rattle.hal_constants.specs.declared.constant.Constant.TheVariants as constant
use Rattle.hal_constants.specs.Constants.{constant_of, summed}
use Rattle.hal_constants.specs.Known.{Known, known, size_of}
use Rattle.hal_meaning.specs.Elements.{Component, Shape, copy_size, shape_of, chosen}
use Rattle.hal_meaning.specs.Bodies.{meant}
use Rattle.hal_meaning.specs.Places.{Storing, InCells, InPlaces, ByReference, Unstored, storing, is_in_unit, cell_count}

-- what a subscript chooses of copies, or of a dimension of an array: one place, all places, or those from one to another, which are constant
pub data Choice : Type 0 where
  OnePlace : Choice
  AllPlaces : Choice
  Places : (first last : ℕ) → Choice

-- a view: the phrase that declares the data, the names that lead to a component, and what is chosen of the copies, where there are copies, and of
-- the dimensions of the component
pub record View : Type 0 where
  pub declared : ℕ
  pub path : List (List ℕ)
  pub copies : Option Choice
  pub places : List Choice

abbrev pub view : ℕ → List (List ℕ) → Option Choice → List Choice → View
view declared path copies places = record { declared = declared; path = path; copies = copies; places = places }

-- the place that a constant is, among so many; the first one where it is none, to which no accepted set comes
abbrev pub place_by : ℕ → Constant → ℕ
place_by size c = unwrap_or (size_of size c) 1

-- a constant place of so many; `#` is the last one
abbrev pub constant_place : List Phrase → Known → Phrase → ℕ → Position → ℕ
constant_place ps vs p size (FromBeginning position) = place_by size (constant_of ps vs p position)
constant_place ps vs p size (FromEnd place terms) = place_by size (summed ps vs p (constant.Worth (value.Int (pos size))) terms)

-- places from one to another; from the first to the last they are all
abbrev pub choice_from : ℕ → ℕ → ℕ → Choice
choice_from size first last = if (first == 1) && (last == size) then AllPlaces else Places first last

-- what a subscript chooses of so many places
abbrev pub choice : List Phrase → Known → Phrase → ℕ → Sub → Choice
choice ps vs p size (Every place) = AllPlaces
choice ps vs p size (One position) = OnePlace
choice ps vs p size (Range first last) = choice_from size (constant_place ps vs p size first) (constant_place ps vs p size last)
choice ps vs p size (Portion number first) =
    choice_from size (constant_place ps vs p size first) ((constant_place ps vs p size first + place_by size (constant_of ps vs p number)) - 1)

-- what subscripts choose of dimensions of these sizes: all places where there are none
abbrev pub choices : List Phrase → Known → Phrase → List ℕ → Subscripts → List Choice
choices ps vs p [] subs = []
choices ps vs p (n ∷ ns) NoSubscripts = AllPlaces ∷ choices ps vs p ns NoSubscripts
choices ps vs p (n ∷ ns) (MoreSubscripts first others) = choice ps vs p n first ∷ choices ps vs p ns others

-- one subscript without a mark
abbrev pub one_choice : List Phrase → Known → Phrase → List ℕ → List Choice
one_choice ps vs p [] = []
one_choice ps vs p (n ∷ ns) = OnePlace ∷ choices ps vs p ns NoSubscripts

-- what is chosen of the dimensions; subscripts without a mark are the array's where no others are
abbrev pub places_chosen : List Phrase → Known → Phrase → List ℕ → Subscript → List Choice
places_chosen ps vs p sizes Unsubscripted = choices ps vs p sizes NoSubscripts
places_chosen ps vs p sizes (ByName place name) = one_choice ps vs p sizes
places_chosen ps vs p sizes (ByInteger place at number) = one_choice ps vs p sizes
places_chosen ps vs p sizes (ByParts place copies arrays components) = choices ps vs p sizes (if is_none arrays then components else arrays)

-- what the first subscript chooses of copies
abbrev pub copies_by : List Phrase → Known → Phrase → ℕ → Subscripts → Choice
copies_by ps vs p size NoSubscripts = AllPlaces
copies_by ps vs p size (MoreSubscripts first others) = choice ps vs p size first

-- what is chosen of the copies
abbrev pub copies_chosen : List Phrase → Known → Phrase → ℕ → Subscript → Choice
copies_chosen ps vs p size (ByParts place copies arrays components) = copies_by ps vs p size copies
copies_chosen ps vs p size other = AllPlaces

-- the sizes of the dimensions of one component; several have none together
abbrev pub sizes_of : List Component → List ℕ
sizes_of (c ∷ []) = c.sizes
sizes_of other = []

-- the view of a phrase that names data of this shape, with these further names and this subscript
abbrev pub view_of : List Phrase → Known → Phrase → ℕ → Shape → List Naming → Subscript → View
view_of ps vs p declared shape path subscript =
    view declared (map (λ (n : Naming). n.name) path) (option_map (λ size. copies_chosen ps vs p size subscript) shape.copies)
    (places_chosen ps vs p (sizes_of (chosen path shape.components)) subscript)

-- whether data have cells or places
abbrev pub is_stored : Storing → Bool
is_stored (InCells group) = true
is_stored InPlaces = true
is_stored ByReference = true
is_stored Unstored = false

-- the shape of what a phrase declares: a TEMPORARY variable is one integer
abbrev pub shape_at : List Phrase → Known → Phrase → Node → Shape
shape_at ps vs d (OfItem common item) = shape_of ps vs d common item
shape_at ps vs d other = record { copies = None; components = record { path = []; kind = kind.Double; sizes = [] } ∷ [] }

-- whether a phrase declares stored data
abbrev pub declares_stored : List Phrase → Known → Phrase → Node → Bool
declares_stored ps vs d (OfItem common item) = is_stored (storing ps vs d (OfItem common item))
declares_stored ps vs d (OfTemporaryGroup labels variable) = true
declares_stored ps vs d other = false

-- the view of a name with further names and a subscript, where it means stored data
abbrev pub views_named : List Phrase → Known → Phrase → List ℕ → List Naming → Subscript → List View
views_named ps vs p name path subscript =
    elim (option_and_then (slice_get ps) (meant ps p.around.block name)) [
      | None ↦ []
      | Some d ↦ if declares_stored ps vs d d.node then view_of ps vs p d.number (shape_at ps vs d d.node) path subscript ∷ [] else []
    ]

abbrev pub views_of_reference : List Phrase → Known → Phrase → Reference → List View
views_of_reference ps vs p (Refers place name path subscript) = views_named ps vs p name path subscript

-- the view of a phrase: of a reference, of a name in a subscript or before a list, and of the variable of DO FOR
abbrev pub views_at : List Phrase → Known → Phrase → Node → List View
views_at ps vs p (OfReference role reference) = views_of_reference ps vs p reference
views_at ps vs p (OfSubscriptName name) = views_named ps vs p name.name [] Unsubscripted
views_at ps vs p (OfCallForm place name arguments) = views_named ps vs p name [] Unsubscripted
views_at ps vs p (OfVariable name) = views_named ps vs p name.name [] Unsubscripted
views_at ps vs p other = []

-- two choices are the same
abbrev pub same_choice : Choice → Choice → Bool
same_choice OnePlace OnePlace = true
same_choice AllPlaces AllPlaces = true
same_choice (Places a b) (Places c d) = (a == c) && (b == d)
same_choice one other = false

abbrev pub same_choices : List Choice → List Choice → Bool
same_choices [] [] = true
same_choices (c ∷ cs) (d ∷ ds) = same_choice c d && same_choices cs ds
same_choices cs ds = false

abbrev pub same_copies : Option Choice → Option Choice → Bool
same_copies None None = true
same_copies (Some c) (Some d) = same_choice c d
same_copies one other = false

abbrev pub same_path : List (List ℕ) → List (List ℕ) → Bool
same_path [] [] = true
same_path (n ∷ ns) (m ∷ ms) = bytes_eq n m && same_path ns ms
same_path ns ms = false

-- two views are the same
abbrev pub same_view : View → View → Bool
same_view v w = ((v.declared == w.declared) && same_path v.path w.path) && (same_copies v.copies w.copies && same_choices v.places w.places)

-- each view once, behind those that were found
abbrev pub distinct : List View → List View → List View
distinct found [] = found
distinct found (v ∷ others) = distinct (if list_any (same_view v) found then found else found ++ (v ∷ [])) others

-- the views of the phrases of units, in their order
abbrev pub named_views : List Phrase → Known → List View
named_views ps vs = flat_map (λ (p : Phrase). if is_in_unit ps p.around.home then views_at ps vs p p.node else []) ps

-- the views of a set: each of these once
abbrev pub views_of : List Phrase → Known → List View
views_of ps vs = distinct [] (named_views ps vs)

-- how many places of so many a view reaches in a dimension: where one is chosen, it may be each of them
abbrev pub places_reached : ℕ → Choice → ℕ
places_reached size OnePlace = size
places_reached size AllPlaces = size
places_reached size (Places first last) = (last + 1) - first

abbrev pub all_reached : List ℕ → List Choice → ℕ
all_reached [] cs = 1
all_reached (n ∷ ns) [] = n * all_reached ns []
all_reached (n ∷ ns) (c ∷ cs) = places_reached n c * all_reached ns cs

-- how many copies
abbrev pub copies_reached : Option ℕ → Option Choice → ℕ
copies_reached (Some size) (Some c) = places_reached size c
copies_reached size c = 1

-- how many elements of one copy
abbrev pub elements_reached : List Component → List Choice → ℕ
elements_reached (c ∷ []) cs = all_reached c.sizes cs
elements_reached components cs = copy_size components

-- whether a component lies behind these names
abbrev pub is_behind : List (List ℕ) → List (List ℕ) → Bool
is_behind [] path = true
is_behind (n ∷ ns) [] = false
is_behind (n ∷ ns) (name ∷ names) = bytes_eq n name && is_behind ns names

abbrev pub components_behind : List (List ℕ) → List Component → List Component
components_behind names [] = []
components_behind names (c ∷ cs) = if is_behind names c.path then c ∷ components_behind names cs else components_behind names cs

-- how many cells a view of data of this shape reaches
abbrev pub cells_in : Shape → View → ℕ
cells_in shape v = copies_reached shape.copies v.copies * elements_reached (components_behind v.path shape.components) v.places

-- how many cells a view reaches
abbrev pub cells_reached : List Phrase → Known → View → ℕ
cells_reached ps vs v = elim (slice_get ps v.declared) [ None ↦ 0 | Some d ↦ cells_in (shape_at ps vs d d.node) v ]

-- how many cells the views of a set reach, each view counted by itself
abbrev pub view_cells : List Phrase → Known → ℕ
view_cells ps vs = sum_by (cells_reached ps vs) (views_of ps vs)

-- the most that they may be
abbrev pub view_limit : ℕ
view_limit = 1048576

-- what the rule of cells says of files
pub record HasRoom (files : List File) : Type 0 where
  pub cells : cell_count (phrases_of files) (known (phrases_of files)) ≤ CELL_LIMIT
  pub views : view_cells (phrases_of files) (known (phrases_of files)) ≤ view_limit
