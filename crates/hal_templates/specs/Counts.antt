-- Counts of cells and of values. They stand still at 2^128 - 1, which is more than any variable has.
use Rattle.std.specs.Prelude.{ℕ, ◌+◌, ◌*◌, ◌-◌, ◌^◌, min, nat_le, Bool}

-- the sum of two counts
abbrev pub add : ℕ → ℕ → ℕ
add m n = min (m + n) (2 ^ 128 - 1)

-- the product of two counts
abbrev pub times : ℕ → ℕ → ℕ
times m n = min (m * n) (2 ^ 128 - 1)

-- whether there are no more than cells that a set may have in all
abbrev pub is_few : ℕ → Bool
is_few n = nat_le n 65536
