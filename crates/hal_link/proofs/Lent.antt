-- Places that are lent one by one, and their rows.
use Rattle.std.specs.Prelude.{ℕ, ◌+◌, List, [], ◌∷◌, ◌++◌, length, map, drop, get_or}
use Rattle.std.specs.Borrow.{Bor}
use Rattle.std.proofs.Common.{◌≡◌, ◌<◌, sym, ap, ◌∙◌, add-one}
use Rattle.std.proofs.Math.Seq.{drop-cons}
use Rattle.hal_storage.proofs.elements.Repeated.{behind}
use Rattle.hal_storage.specs.declared.own_places.place.Place as rust-place
use Rattle.hal_storage.specs.own_places.SeenPlaces.{seen_place}
use Rattle.hal_meaning.specs.Places.{Place}
use Rattle.hal_gen_expr.specs.SeenSites.{lent_place}

-- one, and those behind it
pub next_one : {X : Type 0} (xs : List X) (i : ℕ) (x : X) → i < length xs → x ≡ get_or xs i x → drop i xs ≡ x ∷ drop (i + 1) xs
next_one xs i x within is = drop-cons xs i x within ∙ ap (λ n. get_or xs i x ∷ drop n xs) (sym (add-one i)) ∙ ap (λ y. y ∷ drop (i + 1) xs) (sym is)

-- a place behind those so far
pub place_more : (before after all : List Place) (places : List rust-place.Place) (i : ℕ) (x : rust-place.Place) → i < length places → x ≡ get_or places i x → after ≡ before ++ (seen_place x ∷ [])
    → before ++ map seen_place (drop i places) ≡ all → after ++ map seen_place (drop (i + 1) places) ≡ all
place_more before after all places i x within is more so_far =
    ap (λ list. list ++ map seen_place (drop (i + 1) places)) more
    ∙ behind before (seen_place x ∷ []) (map seen_place (drop (i + 1) places))
    ∙ ap (λ list. before ++ map seen_place list) (sym (next_one places i x within is))
    ∙ so_far
