-- Sums that stand still at the most that is counted.
use Rattle.std.proofs.Common.{◌≡◌, ◌∙◌, ◌+◌, ◌*◌, ℕ, min, List, [], ◌∷◌, refl, sym, ap, arith}
use Rattle.std.specs.Prelude.{sum_by}
use Rattle.std.proofs.Math.Nat.{mul_comm}
use Rattle.std.proofs.lemmas.List.Sums.{sum_by-cons}
use Rattle.hal_storage.proofs.elements.Capped as products
use Rattle.hal_limits.specs.Counts.{capped, counted}

first_of_sum : (n x s : ℕ) → capped ((capped n + capped x) + s) ≡ capped (n + (x + s))
first_of_sum n x s = omega (arith)

none_more : (n : ℕ) → capped n ≡ capped (n + 0)
none_more n = omega (arith)

-- what is counted is the sum, as far as is counted
pub counted_sum : {X : Type 0} (f : X → ℕ) (n : ℕ) (xs : List X) → counted f (capped n) xs ≡ capped (n + sum_by f xs)
unfolding counted
counted_sum f n [] = none_more n
counted_sum f n (x ∷ xs) = counted_sum f (capped n + capped (f x)) xs ∙ (first_of_sum n (f x) (sum_by f xs) ∙ ap (λ s. capped (n + s)) (sym (sum_by-cons f x xs)))

-- what counts for the same
pub counted_same : {X : Type 0} (f g : X → ℕ) → ((x : X) → capped (f x) ≡ capped (g x)) → (n : ℕ) (xs : List X) → counted f n xs ≡ counted g n xs
unfolding counted
counted_same f g same n [] = refl
counted_same f g same n (x ∷ xs) = counted_same f g same (capped (n + capped (f x))) xs ∙ ap (λ k. counted g (capped (n + k)) xs) (same x)

nothing_capped : 0 ≡ capped 0
nothing_capped = omega (arith)

none_before : (n : ℕ) → capped (0 + n) ≡ capped n
none_before n = omega (arith)

pub from_nothing : {X : Type 0} (f : X → ℕ) (xs : List X) → counted f 0 xs ≡ capped (sum_by f xs)
from_nothing f xs = ap (λ n. counted f n xs) nothing_capped ∙ (counted_sum f 0 xs ∙ none_before (sum_by f xs))

-- a product of what is counted
pub first_capped : (n m : ℕ) → capped (capped n * m) ≡ capped (n * m)
first_capped n m = ap capped (mul_comm (capped n) m) ∙ (products.capped m n 4294967295 ∙ ap capped (mul_comm m n))

pub capped_product : (n m : ℕ) → min (min n 4294967295 * min m 4294967295) 4294967295 ≡ min (n * m) 4294967295
capped_product n m = products.capped (capped n) m 4294967295 ∙ first_capped n m
