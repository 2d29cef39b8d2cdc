-- Lists with another member at one place.
use Rattle.std.proofs.Common.{rules, ◌≡◌, ℕ, zero, suc, List, [], ◌∷◌, ◌++◌, map, Option, None, Some, slice_get, slice_set, refl, sym, ap}

pub map_set : {X Y : Type 0} (f : X → Y) (xs : List X) (k : ℕ) (y : X) → map f (slice_set xs k y) ≡ slice_set (map f xs) k (f y)
map_set f [] k y = search rules
map_set f (x ∷ xs) zero y = search rules
map_set f (x ∷ xs) (suc k) y = search (rules, map_set f xs k y)

pub one_more : {X Y : Type 0} (f : X → Y) (xs : List X) (y : X) (zs : List Y) → map f (xs ++ (y ∷ [])) ++ zs ≡ map f xs ++ (f y ∷ zs)
one_more f [] y zs = search rules
one_more f (x ∷ xs) y zs = search (rules, one_more f xs y zs)

pub none_behind : {X : Type 0} (xs : List X) → xs ++ [] ≡ xs
none_behind [] = search rules
none_behind (x ∷ xs) = search (rules, none_behind xs)

-- what stands at a place is put there
pub set_same : {X : Type 0} (xs : List X) (k : ℕ) (x : X) → slice_get xs k ≡ Some x → slice_set xs k x ≡ xs
set_same [] k x is = refl
set_same {X} (y ∷ xs) zero x is = let same : y ≡ x = cc in ap (λ (z : X). z ∷ xs) (sym same)
set_same {X} (y ∷ xs) (suc k) x is = ap (λ (zs : List X). y ∷ zs) (set_same xs k x is)

-- what stands at a place stands there in a list of its images
pub get_mapped : {X Y : Type 0} (f : X → Y) (xs : List X) (k : ℕ) (x : X) → slice_get xs k ≡ Some x → slice_get (map f xs) k ≡ Some (f x)
get_mapped f [] k x is = absurd (cc)
get_mapped {X} {Y} f (y ∷ xs) zero x is = let same : y ≡ x = cc in ap (λ (z : X). Some (f z)) same
get_mapped f (y ∷ xs) (suc k) x is = get_mapped f xs k x is
