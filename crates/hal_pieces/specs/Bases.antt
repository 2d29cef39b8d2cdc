-- The bases of the code as those of the definition.
use Rattle.std.specs.Prelude.{ℕ, ◌*◌, ◌&&◌, nat_le, List, Option, Some, None, min, nat_lt, ◌^◌, if◌then◌else◌}
use Rattle.std.specs.List.{list_all}
use Rattle.hal_words.specs.Literals as definition
use Rattle.hal_words.specs.Literals.{bit_count}
use Rattle.hal_words.specs.Numbers.{written}
use Rattle.hal_pieces.specs.declared.bit_literals.Base.{Base}
use Rattle.hal_pieces.specs.declared.bit_literals.Base.TheVariants as code

abbrev pub base_seen : Base → definition.Base
base_seen code.Bin = definition.Digits 1
base_seen code.Oct = definition.Digits 3
base_seen code.Hex = definition.Digits 4
base_seen code.Dec = definition.Decimal

-- the number that digits write, or 2 ^ 32 where that is less; None where one of them is no digit
abbrev pub capped_number : ℕ → List ℕ → Option ℕ
capped_number radix digits = if list_all (λ d. nat_lt d radix) digits then Some (min (written radix digits) (2 ^ 32)) else None

-- the length and the number of digits of so many bits, and of a number without leading zeros, where both are of a bit string
abbrev pub digits_within : ℕ → ℕ → ℕ → Option (ℕ × ℕ)
digits_within bits count number = if nat_le (bits * count) 32 && nat_lt number (2 ^ 32) then Some (bits * count, number) else None

abbrev pub decimal_within : ℕ → Option (ℕ × ℕ)
decimal_within number = if nat_lt number (2 ^ 32) then Some (bit_count 32 number, number) else None

abbrev pub within_capped : definition.Base → ℕ → ℕ → Option (ℕ × ℕ)
within_capped (definition.Digits bits) count number = digits_within bits count number
within_capped definition.Decimal count number = decimal_within number
