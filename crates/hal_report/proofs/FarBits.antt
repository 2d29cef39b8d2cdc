-- Bits past a word.
use Rattle.std.proofs.Common.{◌≡◌, ℕ, ◌/◌, ◌%◌, ◌^◌, ◌<◌, ◌≤◌, ap, sym, arith}
use Rattle.std.proofs.Math.Nat.{div-eq_of_lt}
use Rattle.std.proofs.Math.Pow.{pow_mono}

-- a word has no bit past its 32
pub far_bit : (word place : ℕ) → word < 2 ^ 32 → 32 ≤ place → 0 ≡ (word / 2 ^ place) % 2
far_bit word place small far =
    let wide : 2 ^ 32 ≤ 2 ^ place = pow_mono {i = 32} {j = place} far in
    let low : word < 2 ^ place = omega (arith, small, wide) in
    sym (ap (λ n. n % 2) (div-eq_of_lt {n = word} {m = 2 ^ place} low))
