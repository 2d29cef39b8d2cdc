-- Bounds of products.
use Rattle.std.specs.Prelude.{◌≡◌, ℕ, ◌≤◌, ◌*◌}
use Rattle.std.proofs.Common.{arith}
use Rattle.std.proofs.Math.Nat.{mul-le-mul_left}

turned : (n p : ℕ) → n * p ≡ p * n
turned n p = omega arith

pub last_product : (n s : ℕ) → n ≤ 4294967294 → s ≤ 4294967295 → n * s ≤ 18446744065119617130
last_product n s few short =
    omega (arith, mul-le-mul_left n short, mul-le-mul_left 4294967295 few, turned n 4294967295)
