-- The sizes of arrays and of their parts.
use Rattle.std.specs.Prelude.{ℕ, zero, suc, ◌*◌, ◌<◌, ◌≤◌, List, ◌∷◌}
use Rattle.std.proofs.Common.{arith}
use Rattle.std.proofs.lemmas.Nat.{mul-le}
use Rattle.hal_values.specs.ReportElements.{size_of}
use Rattle.hal_report.specs.Arrays.{element_limit, IsArray}

part_low : (d n : ℕ) → 0 < d → d * n ≤ element_limit → n ≤ element_limit
part_low d n some low = below (mul-le 1 n d n (omega (arith, some)) (omega arith))
  where
    below : 1 * n ≤ d * n → n ≤ element_limit
    below part = omega (arith, part, low)

-- an array without its first dimension is no larger
pub rest_is : (d : ℕ) (ds : List ℕ) → 0 < d → IsArray (d ∷ ds) → IsArray ds
rest_is d ds some is = part_low d (size_of ds) some is

some_by : (d n : ℕ) (m : ℕ) → m < d * n → 0 < d
some_by zero n m within = absurd (omega (arith, within))
some_by (suc d) n m within = omega arith

some_in : (d n : ℕ) (m : ℕ) → m < d * n → 0 < n
some_in d zero m within = absurd (none (mul-le d 0 d 0 (omega arith) (omega arith)))
  where
    none : d * 0 ≤ d * 0 → ⊥
    none same = omega (arith, within)
some_in d (suc n) m within = omega arith

-- where an element is there, so is one of such a part
pub rest_there : (d : ℕ) (ds : List ℕ) (n : ℕ) → n < size_of (d ∷ ds) → IsArray (d ∷ ds) → IsArray ds
rest_there d ds n within is = part_low d (size_of ds) (some_by d (size_of ds) n within) is

pub some_there : (d : ℕ) (ds : List ℕ) (n : ℕ) → n < size_of (d ∷ ds) → 0 < size_of ds
some_there d ds n within = some_in d (size_of ds) n within
