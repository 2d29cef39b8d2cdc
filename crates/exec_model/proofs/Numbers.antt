-- Numbers that bits write.
use Rattle.std.proofs.Common.{◌≡◌, ℕ, ◌+◌, ◌-◌, ◌*◌, ◌^◌, ◌<◌, ◌≤◌, true, List, [], ◌∷◌, length, nat_le, ◌&&◌, fold, arith}
use Rattle.std.specs.List.{list_all}
use Rattle.std.proofs.lemmas.Bool.{and_parts, leb-true}
use Rattle.std.proofs.lemmas.Bool.Decides.{nat_tests}
use Rattle.std.proofs.lemmas.Nat.{mul-le}
use Rattle.std.proofs.Math.Nat.{pow-suc, pow-le-pow_right}
use Rattle.exec_model.specs.Data.{is_bit, is_bits, number_in}

-- a bit writes 0 or 1
is_bit-least : (byte : ℕ) → is_bit byte ≡ true → byte - 48 ≤ 1
is_bit-least byte h = grind (arith, nat_tests)

-- one more factor 2
doubled_below : (number next from power : ℕ) → number < next * power → next ≤ 2 * (from + 1) → number < (from + 1) * (power * 2)
doubled_below number next from power below least =
    let more : next * power ≤ 2 * (from + 1) * power = mul-le next power (2 * (from + 1)) power least (omega arith) in
    let same : 2 * (from + 1) * power ≡ (from + 1) * (power * 2) = omega arith in
    omega (arith, below, more, same)

-- what bits write after a number is below the next number, so many bits up
number_from-bits : (from : ℕ) (bytes : List ℕ) → list_all is_bit bytes ≡ true → fold (λ number byte. 2 * number + (byte - 48)) from bytes < (from + 1) * 2 ^ length bytes
number_from-bits from [] h = omega arith
number_from-bits from (first ∷ rest) h =
    let parts = and_parts (is_bit first) (list_all is_bit rest) h in
    let least = is_bit-least first parts.0 in
    let below = number_from-bits (2 * from + (first - 48)) rest parts.1 in
    rw (pow-suc 2 (length rest)) (doubled_below _ (2 * from + (first - 48) + 1) from (2 ^ length rest) below (omega arith))

-- 1 to 32 bits write a word
pub bits_below : (bytes : List ℕ) → is_bits bytes ≡ true → number_in 2 bytes < 4294967296
bits_below bytes h =
    let parts = and_parts (nat_le 1 (length bytes) && nat_le (length bytes) 32) (list_all is_bit bytes) h in
    let few : length bytes ≤ 32 = leb-true (length bytes) 32 (and_parts (nat_le 1 (length bytes)) (nat_le (length bytes) 32) parts.0).1 in
    let below = number_from-bits 0 bytes parts.1 in
    let most : 2 ^ length bytes ≤ 2 ^ 32 = pow-le-pow_right (omega arith) few in
    omega (arith, below, most)
