-- What a reader would ask of the table.
use Rattle.std.specs.Prelude.{◌≡◌, ℕ, ◌-◌, ◌<◌, ℤ, pos, ◌+ℤ◌, ◌*ℤ◌, ◌≤ℤ◌, ◌<ℤ◌, unsigned_abs, ◌⊎◌, true, List, Ok}
use Rattle.hal_values.specs.declared.value.Value.{Value}
use Rattle.hal_values.specs.declared.value.Value.TheVariants as value
use Rattle.hal_operations.specs.declared.operation.Op1.TheVariants as op1
use Rattle.hal_operations.specs.declared.operation.Op2.{Op2}
use Rattle.hal_operations.specs.declared.operation.Op2.TheVariants as op2
use Rattle.hal_operations.specs.declared.part.Part.{Part}
use Rattle.hal_operations.specs.Operands.{IsString}
use Rattle.hal_operations.specs.Parts.{first_place, last_place, before, through, picked, patched}
use Rattle.hal_operations.specs.Strings.{bits_of, string, one_bit, fitted_string}
use Rattle.hal_operations.specs.Texts.{left_justified}
use Rattle.hal_operations.specs.Values.{value_of_one, value_of_two}

-- an operation of two integers gives the integer
abbrev pub Gives : Op2 → ℤ → ℤ → ℤ → Type 0
Gives op a b c = value_of_two op (value.Int a) (value.Int b) ≡ Ok (value.Int c)

-- the quotient times the divisor, and the remainder, make the dividend
abbrev pub MakesDividend : ℤ → ℤ → Type 0
MakesDividend a b = (q r : ℤ) → Gives op2.Div a b q → Gives op2.Remainder a b r → (q *ℤ b) +ℤ r ≡ a

-- the remainder is nearer to 0 than the divisor
abbrev pub IsSmall : ℤ → ℤ → Type 0
IsSmall a b = (r : ℤ) → Gives op2.Remainder a b r → unsigned_abs r < unsigned_abs b

-- MOD isn't negative, and below the divisor's absolute value
abbrev pub IsReduced : ℤ → ℤ → Type 0
IsReduced a b = (m : ℤ) → Gives op2.Mod a b m → (pos 0 ≤ℤ m) × (m <ℤ pos (unsigned_abs b))

-- MOD is the remainder, or more than it by the divisor's absolute value
abbrev pub IsCongruent : ℤ → ℤ → Type 0
IsCongruent a b = (r m : ℤ) → Gives op2.Remainder a b r → Gives op2.Mod a b m → (m ≡ r) ⊎ (m ≡ r +ℤ pos (unsigned_abs b))

-- a shift to the right undoes a shift to the left that lost nothing
abbrev pub ShiftsBack : ℤ → ℤ → Type 0
ShiftsBack a n = (s : ℤ) → Gives op2.Shl a n s → Gives op2.Shr s n a

-- INTEGER undoes BIT
abbrev pub ComesBack : ℤ → Type 0
ComesBack a = (v : Value) → value_of_one op1.Bit (value.Int a) ≡ Ok v → value_of_one op1.Integer v ≡ Ok (value.Int a)

-- the order of the operands makes no difference
abbrev pub IsSymmetric : Op2 → Type 0
IsSymmetric op = (m x n y : ℕ) → value_of_two op (value.Bits m x) (value.Bits n y) ≡ value_of_two op (value.Bits n y) (value.Bits m x)

-- how many places a part has
abbrev pub part_size : Part → ℕ
part_size part = through (last_place part) - before (first_place part)

-- the part that was replaced is the new string, cut or filled
abbrev pub ChoosesReplacedBits : Part → Type 0
ChoosesReplacedBits part = (len word n y : ℕ) (v : Value) → IsString len word → patched (value.Bits len word) part (value.Bits n y) ≡ Ok v
    → picked v part ≡ Ok (string (fitted_string (part_size part) (bits_of n y)))

-- the part that was replaced is the new text, cut or filled
abbrev pub ChoosesReplacedBytes : Part → Type 0
ChoosesReplacedBytes part = (text new : List ℕ) (v : Value) → patched (value.Text text) part (value.Text new) ≡ Ok v
    → picked v part ≡ Ok (value.Text (left_justified (part_size part) new))

-- a comparison of two texts holds
abbrev pub Holds : Op2 → List ℕ → List ℕ → Type 0
Holds op x y = value_of_two op (value.Text x) (value.Text y) ≡ Ok (one_bit true)
