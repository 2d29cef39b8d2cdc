-- Sums that stand still at the most that is counted.
use Rattle.std.specs.Prelude.{ℕ, ◌+◌, min, List, [], ◌∷◌}

-- a number, as far as is counted
abbrev pub capped : ℕ → ℕ
capped n = min n 4294967295

-- so many, and what each of these counts for
unfoldable pub counted : {X : Type 0} → (X → ℕ) → ℕ → List X → ℕ
counted f n [] = n
counted f n (x ∷ xs) = counted f (capped (n + capped (f x))) xs
