-- What the definitions say of the storage of a set, of its views and of its names, as text.
use Rattle.std.specs.Prelude.{ℕ, ◌-◌, List, [], ◌∷◌, ◌++◌, ◌||◌, Option, None, Some, slice_get, flat_map, length, drop, codes, if◌then◌else◌}
use Rattle.std.specs.Fmt.{decimal}
use Rattle.hal_grammar.specs.Units.{File}
use Rattle.hal_phrases.specs.Phrases.{Node, Phrase, OfItem, OfUnit, OfGroup, OfTemporaryGroup}
use Rattle.hal_constants.specs.Known.{Known}
use Rattle.hal_meaning.specs.Bodies.{Body, meant, is_unit, processes_of, processes_reaching}
use Rattle.hal_sound_names.specs.LookedUp.{Looked, looked_in_statements, unit_looked}
use Rattle.hal_meaning.specs.Places.{Place, Storing, InCells, InPlaces, ByReference, Unstored, storing, is_in_unit, places_at, places_of, cell_count}
use Rattle.hal_meaning.specs.ReportNames.{joined, path_of, first_cell, first_place}
use Rattle.hal_meaning.specs.Sets.{Set, set_of}
use Rattle.hal_views.specs.Views.{Choice, OnePlace, AllPlaces, Places, View, views_of, cells_reached, view_cells}

abbrev pub line : List ℕ → List ℕ
line text = text ++ (10 ∷ [])

-- the name of what a phrase declares, behind that of its unit
abbrev pub name_in : List Phrase → Phrase → Node → List ℕ
name_in ps p (OfItem common item) = joined (path_of ps p.around.home) item.name.name
name_in ps p (OfTemporaryGroup labels variable) = joined (path_of ps p.around.home) variable.name ++ codes " temporary"
name_in ps p (OfUnit name head declarations) = path_of ps p.number
name_in ps p other = path_of ps p.around.home ++ codes " group"

abbrev pub name_at : List Phrase → ℕ → List ℕ
name_at ps k = elim (slice_get ps k) [ None ↦ codes "nothing" | Some p ↦ name_in ps p p.node ]

-- a unit, and the processes that reach it
abbrev pub unit_line : List Phrase → Phrase → List ℕ
unit_line ps p = line (codes "unit " ++ (path_of ps p.number ++ (codes ":" ++ flat_map (λ q. 32 ∷ path_of ps q) (processes_reaching ps p.number))))

-- the places among which those of a unit are numbered: its process's, or any one's where it has several; the first process's where it has none
abbrev pub first_of : List ℕ → List ℕ → ℕ
first_of (q ∷ qs) all = q
first_of [] (q ∷ qs) = q
first_of [] [] = 0

abbrev pub places_seen : List Phrase → Known → ℕ → List Place
places_seen ps vs unit = places_of ps vs (first_of (processes_reaching ps unit) (processes_of ps))

abbrev pub numbered : List Phrase → Known → Phrase → List ℕ → List ℕ
numbered ps vs p what = line (name_in ps p p.node ++ (what ++ decimal (first_place (places_seen ps vs p.around.home) p.number)))

-- where the data of a phrase lie
abbrev pub stored_line : List Phrase → Known → Phrase → Storing → List ℕ
stored_line ps vs p (InCells group) = line (name_in ps p p.node ++ (codes " shared " ++ (decimal (first_cell ps vs p.number) ++ (codes " group " ++ decimal group))))
stored_line ps vs p InPlaces = numbered ps vs p (codes " own ")
stored_line ps vs p ByReference = numbered ps vs p (codes " reference ")
stored_line ps vs p Unstored = []

-- where a group's own places lie, where it has some
abbrev pub group_line : List Phrase → Known → Phrase → List Place → List ℕ
group_line ps vs p [] = []
group_line ps vs p (place ∷ places) = numbered ps vs p (codes " own ")

abbrev pub storage_line : List Phrase → Known → Phrase → Node → List ℕ
storage_line ps vs p (OfUnit name head declarations) = unit_line ps p
storage_line ps vs p (OfItem common item) = stored_line ps vs p (storing ps vs p (OfItem common item))
storage_line ps vs p (OfGroup labels looping) = group_line ps vs p (places_at ps vs p (OfGroup labels looping))
storage_line ps vs p (OfTemporaryGroup labels variable) = group_line ps vs p (places_at ps vs p (OfTemporaryGroup labels variable))
storage_line ps vs p other = []

-- what is chosen of copies or of a dimension
abbrev pub choice_text : Choice → List ℕ
choice_text OnePlace = codes "1"
choice_text AllPlaces = codes "*"
choice_text (Places first last) = decimal first ++ (codes " TO " ++ decimal last)

abbrev pub choices_text : List Choice → List ℕ
choices_text [] = []
choices_text (c ∷ []) = choice_text c
choices_text (c ∷ d ∷ cs) = choice_text c ++ (codes "," ++ choices_text (d ∷ cs))

abbrev pub copies_text : Option Choice → List ℕ
copies_text None = []
copies_text (Some c) = choice_text c ++ codes ";"

abbrev pub path_text : List (List ℕ) → List ℕ
path_text [] = []
path_text (name ∷ names) = codes "." ++ (name ++ path_text names)

abbrev pub view_line : List Phrase → Known → View → List ℕ
view_line ps vs v =
    line (codes "view " ++ (name_at ps v.declared ++ (path_text v.path ++ (codes "$(" ++ (copies_text v.copies ++ (choices_text v.places ++ (codes ") " ++ decimal (cells_reached ps vs v))))))))

-- the storage of the set of these files, and its views
abbrev pub storage_of : Set → List ℕ
storage_of s =
    flat_map (λ (p : Phrase). if is_in_unit s.phrases p.around.home || is_unit p.node then storage_line s.phrases s.constants p p.node else []) s.phrases
    ++ (line (codes "cells " ++ decimal (cell_count s.phrases s.constants))
    ++ (flat_map (view_line s.phrases s.constants) (views_of s.phrases s.constants) ++ line (codes "cells of views " ++ decimal (view_cells s.phrases s.constants))))

abbrev pub storage : List File → List ℕ
storage files = storage_of (set_of 0 files)

-- a name that is looked up, and what it means
abbrev pub looked_line : List Phrase → Looked → List ℕ
looked_line ps one = line (one.1 ++ (codes " = " ++ elim (meant ps one.0 one.1) [ None ↦ codes "built in" | Some k ↦ name_at ps k ]))

-- the names of a unit's statements, as the meaning looks them up
abbrev pub meaning_names : Set → Body → List Looked
meaning_names s b = looked_in_statements b.marks b.number 0 b.statements

-- so many names of a unit as its phrases say, the last ones: those of declarations stand before them
abbrev pub phrase_names : Set → Body → List Looked
phrase_names s b = let all = unit_looked b.number s.phrases in drop (length all - length (meaning_names s b)) all

abbrev pub names_of : (Set → Body → List Looked) → Set → List ℕ
names_of which s = flat_map (λ (b : Body). line (codes "unit " ++ path_of s.phrases b.number) ++ flat_map (looked_line s.phrases) (which s b)) s.bodies

-- what the names of a set's statements mean, by the meaning's way through the trees
abbrev pub names : List File → List ℕ
names files = names_of meaning_names (set_of 0 files)

-- the same by the phrases
abbrev pub names_by_phrases : List File → List ℕ
names_by_phrases files = names_of phrase_names (set_of 0 files)
