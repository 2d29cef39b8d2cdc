-- Lists one after another.
use Rattle.std.proofs.Common.{◌≡◌, ◌∙◌, ◌+◌, ◌*◌, ℕ, zero, suc, List, [], ◌∷◌, ◌++◌, map, replicate, refl, ap, arith}
use Rattle.hal_meaning.specs.Elements.{times}

pub none_behind : {X : Type 0} (xs : List X) → xs ++ [] ≡ xs
none_behind [] = refl
none_behind (x ∷ xs) = ap (λ ys. x ∷ ys) (none_behind xs)

pub behind : {X : Type 0} (xs ys zs : List X) → (xs ++ ys) ++ zs ≡ xs ++ (ys ++ zs)
behind [] ys zs = refl
behind (x ∷ xs) ys zs = ap (λ list. x ∷ list) (behind xs ys zs)

pub one_mapped : {X Y : Type 0} (f : X → Y) (xs : List X) (y : X) → map f (xs ++ (y ∷ [])) ≡ map f xs ++ (f y ∷ [])
one_mapped f [] y = refl
one_mapped f (x ∷ xs) y = ap (λ ys. f x ∷ ys) (one_mapped f xs y)

pub one : {X : Type 0} (x : X) → replicate 1 x ≡ x ∷ []
one x = refl

same_count : {X : Type 0} (n m : ℕ) (x : X) → n ≡ m → replicate n x ≡ replicate m x
same_count n m x is = ap (λ k. replicate k x) is

two : {X : Type 0} (n m : ℕ) (x : X) → replicate n x ++ replicate m x ≡ replicate (n + m) x
two zero m x = same_count m (0 + m) x (omega (arith))
two (suc n) m x = ap (λ xs. x ∷ xs) (two n m x) ∙ same_count (suc (n + m)) (suc n + m) x (omega (arith))

pub rows : {X : Type 0} (n m : ℕ) (x : X) → times n (replicate m x) ≡ replicate (n * m) x
rows zero m x = same_count 0 (0 * m) x (omega (arith))
rows (suc n) m x = ap (λ xs. replicate m x ++ xs) (rows n m x) ∙ two m (n * m) x ∙ same_count (m + n * m) (suc n * m) x (omega (arith))
