-- Lists one after another.
use Rattle.std.proofs.Common.{rules, ◌≡◌, ◌∙◌, ℕ, zero, suc, List, [], ◌∷◌, ◌++◌, map, replicate, Option, Some, None, slice_get, refl, ap}
use Rattle.std.specs.Option.{option_map}

pub none_behind : {X : Type 0} (xs : List X) → xs ++ [] ≡ xs
none_behind [] = refl
none_behind (x ∷ xs) = ap (λ ys. x ∷ ys) (none_behind xs)

pub behind : {X : Type 0} (xs ys zs : List X) → (xs ++ ys) ++ zs ≡ xs ++ (ys ++ zs)
behind [] ys zs = refl
behind (x ∷ xs) ys zs = ap (λ list. x ∷ list) (behind xs ys zs)

pub one_more : {X Y : Type 0} (f : X → Y) (xs : List X) (y : X) (zs : List Y) → map f (xs ++ (y ∷ [])) ++ zs ≡ map f xs ++ (f y ∷ zs)
one_more f [] y zs = search rules
one_more f (x ∷ xs) y zs = search (rules, one_more f xs y zs)

pub one : {X : Type 0} (x : X) → replicate 1 x ≡ x ∷ []
one x = refl

pub got : {X Y : Type 0} (f : X → Y) (xs : List X) (k : ℕ) → slice_get (map f xs) k ≡ option_map f (slice_get xs k)
got f [] k = search rules
got f (x ∷ xs) zero = search rules
got f (x ∷ xs) (suc k) = search (rules, got f xs k)

pub one_mapped : {X Y : Type 0} (f : X → Y) (xs : List X) (y : X) → map f (xs ++ (y ∷ [])) ≡ map f xs ++ (f y ∷ [])
one_mapped f [] y = refl
one_mapped f (x ∷ xs) y = ap (λ ys. f x ∷ ys) (one_mapped f xs y)
