-- Counts that stand still at a limit.
use Rattle.std.proofs.Common.{◌≡◌, ◌∙◌, ◌≤◌, ◌<◌, ◌+◌, ◌*◌, ⊎_elim, ℕ, zero, suc, min, List, [], ◌∷◌, ap, arith}
use Rattle.std.proofs.lemmas.Bool.{cases_lt}
use Rattle.std.proofs.lemmas.List.Sums.{sum_by-cons}
use Rattle.hal_meaning.specs.Elements.{Component, count, copy_size}

least : (p m : ℕ) → p < m → min p m ≡ p
least p m less = omega (arith, less)

most : (p m : ℕ) → m ≤ p → min p m ≡ m
most p m more = omega (arith, more)

pub capped : (n p m : ℕ) → min (n * min p m) m ≡ min (n * p) m
capped zero p m = omega (arith)
capped (suc n) p m =
    ⊎_elim (λ less. ap (λ k. min (suc n * k) m) (least p m less)) (λ more. ap (λ k. min (suc n * k) m) (most p m more) ∙ omega (arith, more)) (cases_lt p m)

pub one_more : (size c r m : ℕ) → min (min (size + min c m) m + r) m ≡ min (size + (c + r)) m
one_more size c r m = omega (arith)

pub size_of_more : (c : Component) (cs : List Component) → copy_size (c ∷ cs) ≡ count c + copy_size cs
size_of_more c cs = sum_by-cons count c cs

pub size_of_one : (c : Component) → copy_size (c ∷ []) ≡ count c
size_of_one c = omega (arith)
