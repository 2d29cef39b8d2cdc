-- Counts of cells and of values. They stand still at 2^128 - 1, which is more than any variable has cells: 32,767 copies of as many parts as a file has words, each with
-- 32,767 times 32,767 times 32,767 places.
use Rattle.std.specs.Prelude.{ℕ, ◌+◌, ◌*◌, ◌-◌, ◌^◌, min}

-- the sum of two counts
abbrev pub add : ℕ → ℕ → ℕ
add m n = min (m + n) (2 ^ 128 - 1)

-- the product of two counts
abbrev pub times : ℕ → ℕ → ℕ
times m n = min (m * n) (2 ^ 128 - 1)
