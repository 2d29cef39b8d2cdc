-- Which phrases declare something.
use Rattle.std.specs.Prelude.{ℕ, ◌+◌, Bool, true, false, List, [], ◌∷◌, ◌++◌, Option, Some, None, slice_get, if◌then◌else◌}
use Rattle.hal_phrases.specs.Phrases.{Node, Phrase, OfFile, OfInclude, OfTemplate, OfUnit, OfParameter, OfItem, OfStructure, OfTemporaryGroup}

-- whether a phrase opens a file, or declares a block, data, a structure or the variable of a group, itself or by a template that it includes
unfoldable pub is_declaring : Node → Bool
is_declaring (OfFile prefaces name) = true
is_declaring (OfInclude name) = true
is_declaring (OfTemplate name head declarations) = true
is_declaring (OfUnit name head declarations) = true
is_declaring (OfParameter name output) = true
is_declaring (OfItem common item) = true
is_declaring (OfStructure name parts) = true
is_declaring (OfTemporaryGroup labels variable) = true
is_declaring other = false

abbrev pub is_declaration : Phrase → Bool
is_declaration p = is_declaring p.node

-- places of declarations behind these: this place of a phrase, where it is one, and those of phrases from this place on
abbrev pub with_place : List ℕ → ℕ → Phrase → List ℕ
with_place places k p = if is_declaration p then places ++ (k ∷ []) else places

unfoldable pub with_places : List ℕ → ℕ → List Phrase → List ℕ
with_places places k [] = places
with_places places k (p ∷ ps) = with_places (with_place places k p) (k + 1) ps

-- phrases behind these: the one at a place, and those at places
abbrev pub with_chosen : List Phrase → List Phrase → ℕ → List Phrase
with_chosen ps chosen k = elim (slice_get ps k) [ None ↦ chosen | Some p ↦ chosen ++ (p ∷ []) ]

unfoldable pub with_all_chosen : List Phrase → List Phrase → List ℕ → List Phrase
with_all_chosen ps chosen [] = chosen
with_all_chosen ps chosen (k ∷ ks) = with_all_chosen ps (with_chosen ps chosen k) ks
