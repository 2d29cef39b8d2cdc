-- The first own places of phrases, as numbers that are given place by place.
use Rattle.std.specs.Prelude.{◌≡◌, ℕ, suc, ◌+◌, ◌-◌, List, [], ◌∷◌, ◌++◌, length, replicate, Option, Some, None, slice_get, slice_set, unwrap_or}
use Rattle.hal_meaning.specs.Places.{Place}
use Rattle.hal_meaning.specs.ReportNames.{first_place}
use Rattle.hal_gen_expr.specs.declared.first_places.FirstPlaces as rust-firsts

-- the number that a phrase has
abbrev pub number_at : List (Option ℕ) → ℕ → Option ℕ
number_at numbers k = unwrap_or (slice_get numbers k) None

-- what is told of the phrase with this number
abbrev pub first_in : rust-firsts.FirstPlaces → ℕ → ℕ
first_in f k = unwrap_or (number_at f.numbers.items k) 0

-- it is so of each phrase
abbrev pub AreFirstPlaces : List Place → rust-firsts.FirstPlaces → Type 0
AreFirstPlaces places f = (k : ℕ) → first_in f k ≡ first_place places k

-- numbers that reach a phrase
abbrev pub held : List (Option ℕ) → ℕ → List (Option ℕ)
held numbers k = numbers ++ replicate (suc k - length numbers) None

-- a phrase has this number, unless it has one
abbrev pub given : List (Option ℕ) → ℕ → ℕ → List (Option ℕ)
given numbers k n = slice_set numbers k (Some (unwrap_or (number_at numbers k) n))

-- the owner of a place with this number
abbrev pub with_place : List (Option ℕ) → ℕ → Place → List (Option ℕ)
with_place numbers n p = given (held numbers p.owner) p.owner n

-- those of places from this number on
unfoldable pub with_places : List (Option ℕ) → ℕ → List Place → List (Option ℕ)
with_places numbers n [] = numbers
with_places numbers n (p ∷ places) = with_places (with_place numbers n p) (n + 1) places
