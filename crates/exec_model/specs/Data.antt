-- What a datum of a script is for a receiver.
use Rattle.std.specs.Prelude.{ℕ, ◌+◌, ◌-◌, ◌*◌, ◌==◌, nat_le, Bool, false, ◌&&◌, ◌||◌, List, [], ◌∷◌, length, fold, Option, Some, None, ℤ, pos, neg_ℤ, if◌then◌else◌}
use Rattle.std.specs.List.{list_all}
use Rattle.hal_base.specs.Digits.{is_digit}
use Rattle.hal_values.specs.declared.value.Kind.{Kind}
use Rattle.hal_values.specs.declared.value.Kind.TheVariants as kind
use Rattle.hal_values.specs.declared.value.Value.{Value}
use Rattle.hal_values.specs.declared.value.Value.TheVariants as value

abbrev pub is_bit : ℕ → Bool
is_bit byte = byte == 48 || byte == 49

-- the number that digits write in a base
abbrev pub number_in : ℕ → List ℕ → ℕ
number_in base digits = fold (λ number byte. base * number + (byte - 48)) 0 digits

-- digits write a number, which is at most this
abbrev pub is_number : ℕ → List ℕ → Bool
is_number most [] = false
is_number most (first ∷ rest) = list_all is_digit (first ∷ rest) && nat_le (number_in 10 (first ∷ rest)) most

abbrev pub plus_number : List ℕ → Option ℤ
plus_number digits = if is_number 2147483647 digits then Some (pos (number_in 10 digits)) else None

abbrev pub minus_number : List ℕ → Option ℤ
minus_number digits = if is_number 2147483648 digits then Some (neg_ℤ (pos (number_in 10 digits))) else None

-- an optional sign and digits, within 32 bits
abbrev pub integer_datum : List ℕ → Option ℤ
integer_datum [] = None
integer_datum (first ∷ rest) =
    if first == 43 then plus_number rest else
    (if first == 45 then minus_number rest else plus_number (first ∷ rest))

-- 1 to 32 digits 0 and 1
abbrev pub is_bits : List ℕ → Bool
is_bits digits = (nat_le 1 (length digits) && nat_le (length digits) 32) && list_all is_bit digits

abbrev pub integer_value : Option ℤ → Option Value
integer_value None = None
integer_value (Some number) = Some (value.Int number)

-- the value of a datum for a receiver of this kind, where it is of the kind: an integer, 1 to 32 bits, or a text of at most 255 bytes
abbrev pub datum_value : Kind → List ℕ → Option Value
datum_value kind.Single bytes = integer_value (integer_datum bytes)
datum_value kind.Double bytes = integer_value (integer_datum bytes)
datum_value (kind.Bits n) bytes = if is_bits bytes then Some (value.Bits (length bytes) (number_in 2 bytes)) else None
datum_value (kind.Text n) bytes = if nat_le (length bytes) 255 then Some (value.Text bytes) else None
