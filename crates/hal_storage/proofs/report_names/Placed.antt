-- Where places are, as the program has them.
use Rattle.std.proofs.Common.{◌≡◌, ◌∙◌, ◌==◌, ◌+◌, ℕ, zero, suc, not, cond, nat_lt, List, [], ◌∷◌, ◌++◌, Option, Some, None, length, map, slice_get, unwrap_or, refl, ap, ap₂}
use Rattle.std.specs.List.{position_or_len}
use Rattle.std.specs.Option.{option_map}
use Rattle.hal_storage.specs.declared.own_places.place.Place as rust-place
use Rattle.std.specs.Prelude.{Vec}
use Rattle.std.specs.declared.alloc.Global.{Global}
use Rattle.hal_storage.specs.declared.own_places.place.OwnPlaces as rust-own
use Rattle.hal_storage.specs.own_places.SeenPlaces.{seen_place, seen_places}
use Rattle.hal_meaning.specs.Places.{Place}
use Rattle.hal_meaning.specs.ReportNames.{first_place}
use Rattle.hal_storage.specs.report_names.Rows.{place_in, place_by, place_among}
use Rattle.hal_storage.specs.report_names.SeenLookups as seen
use Rattle.hal_storage.proofs.report_names.Lists.{placed, placed_behind}

pub seen_length : (places : List rust-place.Place) → length (map seen_place places) ≡ length places
seen_length [] = refl
seen_length (p ∷ places) = ap suc (seen_length places)

before : (owner : ℕ) (places : List rust-place.Place) → position_or_len (λ one. one.owner == owner) (map seen_place places) ≡ position_or_len (λ (one : rust-place.Place). one.owner == owner) places
before owner [] = refl
before owner (p ∷ places) = ap (λ n. cond (not (p.owner == owner)) (1 + n) 0) (before owner places)

-- the others of a process
pub seen_others : (own : rust-own.OwnPlaces) (process : ℕ) → slice_get (map seen_places own.processes.items) process ≡ option_map seen_places (slice_get own.processes.items process)
seen_others own process = at_place own.processes.items process
  where
    at_place : (lists : List (Vec rust-place.Place Global)) (i : ℕ) → slice_get (map seen_places lists) i ≡ option_map seen_places (slice_get lists i)
    at_place [] i = refl
    at_place (list ∷ lists) zero = refl
    at_place (list ∷ lists) (suc i) = at_place lists i

within : ℕ → ℕ → Option ℕ
within n len = cond (nat_lt n len) (Some n) None

pub seen_place_in : (places : List rust-place.Place) (owner : ℕ) → place_in (map seen_place places) owner ≡ seen.place_in places owner
unfolding within
seen_place_in places owner = ap₂ within (before owner places) (seen_length places)

-- the first place among places with others behind them
by_parts : (before : ℕ) (one other : Option ℕ) → unwrap_or (placed before one other) 0 ≡ place_by before one other
unfolding placed
by_parts before (Some n) other = refl
by_parts before None (Some n) = refl
by_parts before None None = refl

pub place_behind : (common others : List Place) (owner : ℕ) → first_place (common ++ others) owner ≡ place_among common others owner
place_behind common others owner =
    ap (λ o. unwrap_or o 0) (placed_behind (λ (one : Place). one.owner == owner) common others) ∙ by_parts (length common) (place_in common owner) (place_in others owner)
