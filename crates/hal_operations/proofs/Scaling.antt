-- An integer of 32 bits times a power of two that a shift can have.
use Rattle.std.proofs.Common.{◌≡◌, refl, ◌≤◌, ◌^◌, ℕ, ℤ, pos, ◌*ℤ◌, FitsSigned, w32, w64, unsigned_abs, arith, to_z, of_z}
use Rattle.std.proofs.Math.Nat.{pow-le-pow_right}
use Rattle.std.proofs.lemmas.Int.{fits_signed_mul, ints, to_z-of_z}

magnitude : (a : ℤ) → FitsSigned w32 a → unsigned_abs a ≤ 2 ^ 31
magnitude a fits = grind (arith, ints)

wide : (a : ℤ) → FitsSigned w32 a → FitsSigned w64 a
wide a fits = grind (arith, ints)

few_bits : (k : ℕ) → k ≤ 31 → 2 ^ k ≤ 2 ^ 31
few_bits k few = pow-le-pow_right {n = 2} (omega arith) few

wide_power : (n : ℕ) → n ≤ 2 ^ 31 → FitsSigned w64 (pos n)
wide_power n few = grind (arith, ints)

-- it has 64 bits
pub scaled_fits : (a : ℤ) (k : ℕ) → FitsSigned w32 a → k ≤ 31 → FitsSigned w64 (a *ℤ pos (2 ^ k))
scaled_fits a k fits few = fits_signed_mul w64 a (pos (2 ^ k)) (2 ^ 31) (2 ^ 31) (magnitude a fits) (few_bits k few) (omega arith)

-- the factors as they are computed
pub scaled-is : (a x y : ℤ) (k : ℕ) → FitsSigned w32 a → k ≤ 31 → x ≡ a → y ≡ pos (2 ^ k) → to_z w64 (of_z w64 x) *ℤ to_z w64 (of_z w64 y) ≡ a *ℤ pos (2 ^ k)
scaled-is a x y k fits few ex ey = rw (ex, ey, to_z-of_z w64 a (wide a fits), to_z-of_z w64 (pos (2 ^ k)) (wide_power (2 ^ k) (few_bits k few))) refl
