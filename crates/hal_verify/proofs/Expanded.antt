-- Rows of runs, one by one.
use Rattle.std.specs.Prelude.{◌≡◌, ℕ, zero, suc, List, [], ◌∷◌, ◌++◌, map, replicate}
use Rattle.std.proofs.Common.{refl, ap, sym, ◌∙◌}
use Rattle.hal_values.specs.declared.tables.Cell.{Cell}
use Rattle.hal_values.specs.declared.value.Kind.{Kind}
use Rattle.hal_code.specs.declared.row.OwnPlace.{OwnPlace}
use Rattle.hal_code.specs.declared.row.Run.{Run}
use Rattle.hal_code.specs.Images.{expanded}
use Rattle.hal_verify.specs.Rooms.{room_of_place, room_of_cell, room_of_kind, place_run, cell_run, kind_run}
use Rattle.hal_verify.specs.declared.room.Room.{Room}

pub none_behind : {X : Type 0} (xs : List X) → xs ++ [] ≡ xs
none_behind [] = refl
none_behind (x ∷ xs) = ap (λ ys. x ∷ ys) (none_behind xs)

pub behind : {X : Type 0} (xs ys zs : List X) → (xs ++ ys) ++ zs ≡ xs ++ (ys ++ zs)
behind [] ys zs = refl
behind (x ∷ xs) ys zs = ap (λ list. x ∷ list) (behind xs ys zs)

pub map_both : {X Y : Type 0} (f : X → Y) (xs ys : List X) → map f (xs ++ ys) ≡ map f xs ++ map f ys
map_both f [] ys = refl
map_both f (x ∷ xs) ys = ap (λ list. f x ∷ list) (map_both f xs ys)

pub repeated : {X Y : Type 0} (f : X → Y) (n : ℕ) (x : X) → map f (replicate n x) ≡ replicate n (f x)
repeated f zero x = refl
repeated f (suc n) x = ap (λ list. f x ∷ list) (repeated f n x)

-- of runs whose rows are changed alike
pub one_run : {X Y : Type 0} (f : X → Y) (n : ℕ) (x : X) (xs : List X) (ys : List Y) → ys ≡ map f xs → replicate n (f x) ++ ys ≡ map f (replicate n x ++ xs)
one_run f n x xs ys same = ap (λ list. replicate n (f x) ++ list) same ∙ ap (λ list. list ++ map f xs) (sym (repeated f n x)) ∙ sym (map_both f (replicate n x) xs)

pub both : (runs others : List (Run Room)) → expanded (runs ++ others) ≡ expanded runs ++ expanded others
both [] others = refl
both (run ∷ runs) others = ap (λ list. replicate run.repeat run.row ++ list) (both runs others) ∙ sym (behind (replicate run.repeat run.row) (expanded runs) (expanded others))

pub places_all : (runs : List (Run OwnPlace)) → expanded (map place_run runs) ≡ map room_of_place (expanded runs)
places_all [] = refl
places_all (run ∷ runs) = one_run room_of_place run.repeat run.row (expanded runs) (expanded (map place_run runs)) (places_all runs)

pub cells_all : (runs : List (Run Cell)) → expanded (map cell_run runs) ≡ map room_of_cell (expanded runs)
cells_all [] = refl
cells_all (run ∷ runs) = one_run room_of_cell run.repeat run.row (expanded runs) (expanded (map cell_run runs)) (cells_all runs)

pub kinds_all : (runs : List (Run Kind)) → expanded (map kind_run runs) ≡ map room_of_kind (expanded runs)
kinds_all [] = refl
kinds_all (run ∷ runs) = one_run room_of_kind run.repeat run.row (expanded runs) (expanded (map kind_run runs)) (kinds_all runs)

pub places_both : (runs others : List (Run OwnPlace)) → expanded (map place_run runs ++ map place_run others) ≡ map room_of_place (expanded runs ++ expanded others)
places_both runs others =
    both (map place_run runs) (map place_run others)
    ∙ ap (λ list. list ++ expanded (map place_run others)) (places_all runs)
    ∙ ap (λ list. map room_of_place (expanded runs) ++ list) (places_all others)
    ∙ sym (map_both room_of_place (expanded runs) (expanded others))
