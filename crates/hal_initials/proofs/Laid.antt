-- Lists of what is seen of cells.
use Rattle.std.proofs.Common.{rules, ◌≡◌, ℕ, zero, suc, List, [], ◌∷◌, ◌++◌, map, Option, Some, None, slice_get, refl}
use Rattle.std.specs.Option.{option_map}
use Rattle.hal_initials.specs.Falling.{repeated}

pub one_more : {X Y : Type 0} (f : X → Y) (xs : List X) (y : X) (zs : List Y) → map f (xs ++ (y ∷ [])) ++ zs ≡ map f xs ++ (f y ∷ zs)
one_more f [] y zs = search rules
one_more f (x ∷ xs) y zs = search (rules, one_more f xs y zs)

pub none_behind : {X : Type 0} (xs : List X) → xs ++ [] ≡ xs
none_behind [] = search rules
none_behind (x ∷ xs) = search (rules, none_behind xs)

pub before : {X : Type 0} (xs : List X) (n : ℕ) (x : X) (zs : List X) → (xs ++ repeated n x []) ++ zs ≡ xs ++ repeated n x zs
unfolding repeated
before [] zero x zs = search rules
before [] (suc n) x zs = search (rules, before [] n x zs)
before (y ∷ ys) n x zs = search (rules, before ys n x zs)

pub got : {X Y : Type 0} (f : X → Y) (xs : List X) (k : ℕ) → slice_get (map f xs) k ≡ option_map f (slice_get xs k)
got f [] k = search rules
got f (x ∷ xs) zero = search rules
got f (x ∷ xs) (suc k) = search (rules, got f xs k)
