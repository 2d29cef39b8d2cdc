-- Values as numbers and conditions, and places in dimensions.
use Rattle.std.specs.Prelude.{ℕ, Bool, true, false, not, ◌&&◌, ℤ, pos, ◌-ℤ◌, int_lt, nat_lt, unsigned_abs, if◌then◌else◌}
use Rattle.std.specs.Int.{int_min, int_max}
use Rattle.hal_values.specs.declared.value.Value.{Value}
use Rattle.hal_values.specs.declared.value.Value.TheVariants as value

-- the integer that a value is
abbrev pub integer_of : Value → ℤ
integer_of (value.Int a) = a
integer_of v = pos 0

-- whether a value holds as a condition: bits that aren't all zeros
abbrev pub holds : Value → Bool
holds (value.Bits len word) = nat_lt 0 word
holds v = false

-- the same as one bit
abbrev pub one_bit : Bool → Value
one_bit true = value.Bits 1 1
one_bit false = value.Bits 1 0

-- whether a value is past the end, by the sign of the step
abbrev pub is_past : ℤ → ℤ → ℤ → Bool
is_past step end value = if int_lt step (pos 0) then int_lt value end else int_lt end value

-- whether a place lies in 1 to the size
abbrev pub is_inside : ℕ → ℤ → Bool
is_inside size place = not (int_lt place (pos 1)) && not (int_lt (pos size) place)

-- the nearest place
abbrev pub nearest_place : ℕ → ℤ → ℤ
nearest_place size place = int_max (pos 1) (int_min place (pos size))

-- how many places lie before the nearest one
abbrev pub before_nearest : ℕ → ℤ → ℕ
before_nearest size place = unsigned_abs (nearest_place size place -ℤ pos 1)
