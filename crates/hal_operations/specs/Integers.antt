-- Operations on integers, by whole numbers: the exact result first, and then whether it is in range.
use Rattle.std.specs.Prelude.{ℕ, ◌-◌, ◌^◌, suc, min, ℤ, pos, negsuc, ◌-ℤ◌, ◌*ℤ◌, Bool, false, not, ◌&&◌, Result, Ok, Err, nat_lt, nat_le, int_lt, int_div, if◌then◌else◌}
use Rattle.std.specs.Int.{int_pow, int_rem_euclid, int_div_euclid, saturate_to_bits}
use Rattle.hal_values.specs.declared.environment.ErrNo.{ErrNo}
use Rattle.hal_values.specs.declared.value.Value.{Value}
use Rattle.hal_values.specs.declared.value.Value.TheVariants as value
use Rattle.hal_operations.specs.Errors.{range_error, zero_divisor}

-- the bits of an integer besides its sign: DOUBLE, which expressions have, and SINGLE
abbrev pub double : ℕ
double = 31

abbrev pub single : ℕ
single = 15

-- an integer as a value
abbrev pub integer : Result ℤ ErrNo → Result Value ErrNo
integer (Ok number) = Ok (value.Int number)
integer (Err e) = Err e

-- the number lies from -2 ^ bits to 2 ^ bits - 1
abbrev pub is_within : ℕ → ℤ → Bool
is_within bits (pos n) = nat_lt n (2 ^ bits)
is_within bits (negsuc n) = nat_lt n (2 ^ bits)

-- an exact result, which may be out of range
abbrev pub ranged : ℕ → ℤ → Result ℤ ErrNo
ranged bits exact = if is_within bits exact then Ok exact else Err range_error

-- the nearest bound in place of a result that is out of range
abbrev pub nearest : ℕ → ℤ → ℤ
nearest bits exact = saturate_to_bits bits exact

abbrev pub is_zero : ℤ → Bool
is_zero z = not (int_lt z (pos 0)) && not (int_lt (pos 0) z)

-- a power; only a negative exponent has no exact result
abbrev pub power : ℤ → ℤ → Result ℤ ErrNo
power a (pos n) = ranged double (int_pow a n)
power a (negsuc n) = Err range_error

-- 0 is the exponent that stands in place of a negative one
abbrev pub mended_power : ℤ → ℤ → ℤ
mended_power a (pos n) = nearest double (int_pow a n)
mended_power a (negsuc n) = nearest double (int_pow a 0)

-- the quotient, rounded towards zero
abbrev pub quotient : ℤ → ℤ → Result ℤ ErrNo
quotient a b = if is_zero b then Err zero_divisor else ranged double (int_div a b)

abbrev pub mended_quotient : ℤ → ℤ → ℤ
mended_quotient a b = if is_zero b then pos 0 else nearest double (int_div a b)

-- what the divisor, taken as often as the quotient says, leaves
abbrev pub remainder : ℤ → ℤ → Result ℤ ErrNo
remainder a b = if is_zero b then Err zero_divisor else ranged double (a -ℤ (int_div a b *ℤ b))

-- the number from 0 to below the divisor's absolute value that is congruent to a
abbrev pub modulus : ℤ → ℤ → Result ℤ ErrNo
modulus a b = if is_zero b then Err zero_divisor else ranged double (int_rem_euclid a b)

-- a shift goes by 0 to 31 places
abbrev pub is_shift : ℤ → Bool
is_shift (pos n) = nat_le n 31
is_shift (negsuc n) = false

-- the nearest number of places
abbrev pub places : ℤ → ℕ
places (pos n) = min n 31
places (negsuc n) = 0

-- to the left: times a power of two
abbrev pub left_shift : ℤ → ℤ → Result ℤ ErrNo
left_shift a n = if is_shift n then ranged double (a *ℤ pos (2 ^ places n)) else Err range_error

abbrev pub mended_left_shift : ℤ → ℤ → ℤ
mended_left_shift a n = nearest double (a *ℤ pos (2 ^ places n))

-- to the right: by a power of two, rounded down
abbrev pub halved : ℤ → ℤ → ℤ
halved a n = int_div_euclid a (pos (2 ^ places n))

abbrev pub right_shift : ℤ → ℤ → Result ℤ ErrNo
right_shift a n = if is_shift n then Ok (halved a n) else Err range_error

-- what stands for a negative integer in 32 bits
abbrev pub two_complement : ℤ → ℕ
two_complement (pos n) = n
two_complement (negsuc n) = 2 ^ 32 - suc n

-- the integer that a number of at most 32 bits stands for
abbrev pub from_two_complement : ℕ → ℤ
from_two_complement word = if nat_lt word (2 ^ 31) then pos word else pos word -ℤ pos (2 ^ 32)
