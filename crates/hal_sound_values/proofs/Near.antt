-- Integers of so many bits besides the sign.
use Rattle.std.proofs.Common.{◌≡◌, ℕ, ◌^◌, ◌<◌, ◌≤◌, ℤ, pos, negsuc, ◌-ℤ◌, Bool, true, false, Result, Ok, Err, refl, arith, if◌then◌else◌}
use Rattle.std.specs.Prelude.{IfOk, nat_lt}
use Rattle.std.specs.Int.{int_signum, int_pow}
use Rattle.std.proofs.lemmas.Bool.{ltb-true, ltb-false}
use Rattle.std.proofs.lemmas.Int.{ints}
use Rattle.std.proofs.lemmas.Nat.{pow_pos, shr_le}
use Rattle.hal_values.specs.declared.environment.ErrNo.{ErrNo}
use Rattle.hal_values.specs.declared.value.Value.TheVariants as value
use Rattle.hal_values.specs.Kinds.{IsInteger, IsSingle}
use Rattle.hal_operations.specs.Errors.{range_error}
use Rattle.hal_operations.specs.Integers.{double, is_within, ranged, nearest, power, mended_power, places, halved, two_complement, from_two_complement}

-- from -2 ^ bits to 2 ^ bits - 1
abbrev pub IsNear : ℕ → ℤ → Type 0
IsNear bits (pos n) = n < 2 ^ bits
IsNear bits (negsuc n) = n < 2 ^ bits

pub integer_near : (z : ℤ) → IsInteger (value.Int z) → IsNear 31 z
integer_near (pos n) h = omega (arith, ints, h.0, h.1)
integer_near (negsuc n) h = omega (arith, ints, h.0, h.1)

pub near_integer : (z : ℤ) → IsNear 31 z → IsInteger (value.Int z)
near_integer (pos n) h = (omega (arith, ints), omega (arith, ints))
near_integer (negsuc n) h = (omega (arith, ints), omega (arith, ints))

pub single_near : (z : ℤ) → IsSingle (value.Int z) → IsNear 15 z
single_near (pos n) h = omega (arith, ints, h.0, h.1)
single_near (negsuc n) h = omega (arith, ints, h.0, h.1)

pub near_single : (z : ℤ) → IsNear 15 z → IsSingle (value.Int z)
near_single (pos n) h = (omega (arith, ints), omega (arith, ints))
near_single (negsuc n) h = (omega (arith, ints), omega (arith, ints))

pub within_near : (bits : ℕ) (z : ℤ) → is_within bits z ≡ true → IsNear bits z
within_near bits (pos n) e = ltb-true n (2 ^ bits) e
within_near bits (negsuc n) e = ltb-true n (2 ^ bits) e

ranged_by : (bits : ℕ) (z : ℤ) (test : Bool) → is_within bits z ≡ test → IfOk (if test then Ok z else Err range_error) (IsNear bits)
ranged_by bits z true e = within_near bits z e
ranged_by bits z false e = tt

-- a result in range
pub ranged_is : (bits : ℕ) (z : ℤ) → IfOk (ranged bits z) (IsNear bits)
ranged_is bits z = ranged_by bits z (is_within bits z) refl

-- the nearest bound
pub nearest_is : (bits : ℕ) (z : ℤ) → IsNear bits (nearest bits z)
nearest_is bits (pos n) = omega (arith, pow_pos bits)
nearest_is bits (negsuc n) = omega (arith, pow_pos bits)

pub power_is : (a b : ℤ) → IfOk (power a b) (IsNear 31)
power_is a (pos n) = ranged_is double (int_pow a n)
power_is a (negsuc n) = tt

pub mended_power_is : (a b : ℤ) → IsNear 31 (mended_power a b)
mended_power_is a (pos n) = nearest_is double (int_pow a n)
mended_power_is a (negsuc n) = nearest_is double (int_pow a 0)

-- behind a test for an error
pub unless : (test : Bool) (e : ErrNo) (result : Result ℤ ErrNo) → IfOk result (IsNear 31) → IfOk (if test then Err e else result) (IsNear 31)
unless true e result h = tt
unless false e result h = h

pub mended_quotient_is : (a b : ℤ) (test : Bool) (z : ℤ) → IsNear 31 (if test then pos 0 else nearest double z)
mended_quotient_is a b true z = omega arith
mended_quotient_is a b false z = nearest_is double z

-- behind a test for a place
pub where_fits : (test : Bool) (e : ErrNo) (result : Result ℤ ErrNo) → IfOk result (IsNear 31) → IfOk (if test then result else Err e) (IsNear 31)
where_fits true e result h = h
where_fits false e result h = tt

-- half of a number, or less, lies within its bounds
pub halved_is : (a n : ℤ) → IsNear 31 a → IsNear 31 (halved a n)
halved_is (pos a) n h = omega (arith, shr_le a (places n))
halved_is (negsuc a) n h = omega (arith, shr_le a (places n))

pub signum_is : (a : ℤ) → IsNear 31 (int_signum a)
signum_is (pos n) = omega arith
signum_is (negsuc n) = omega arith

-- what 32 bits stand for
pub two_complement_is : (a : ℤ) → IsNear 31 a → two_complement a < 2 ^ 32
two_complement_is (pos n) h = omega (arith, h)
two_complement_is (negsuc n) h = omega (arith, h)

high_word : (word : ℕ) → word < 2 ^ 32 → 2 ^ 31 ≤ word → IsNear 31 (pos word -ℤ pos (2 ^ 32))
high_word word below high = grind (arith, ints)

from_word : (word : ℕ) (test : Bool) → nat_lt word (2 ^ 31) ≡ test → word < 2 ^ 32 → IsNear 31 (if test then pos word else pos word -ℤ pos (2 ^ 32))
from_word word true e below = ltb-true word (2 ^ 31) e
from_word word false e below = high_word word below (ltb-false word (2 ^ 31) e)

pub from_two_complement_is : (word : ℕ) → word < 2 ^ 32 → IsNear 31 (from_two_complement word)
from_two_complement_is word below = from_word word (nat_lt word (2 ^ 31)) refl below
