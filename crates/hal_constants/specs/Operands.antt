-- Whether operations take values, and cells.
use Rattle.std.specs.Prelude.{ℕ, ◌^◌, nat_le, nat_lt, Bool, true, false, ◌&&◌}
use Rattle.hal_values.specs.declared.value.Kind.{Kind}
use Rattle.hal_values.specs.declared.value.Kind.TheVariants as kind
use Rattle.hal_values.specs.declared.value.Value.{Value}
use Rattle.hal_values.specs.declared.value.Value.TheVariants as value
use Rattle.hal_operations.specs.declared.operation.Op1.{Op1}
use Rattle.hal_operations.specs.declared.operation.Op1.TheVariants as op1
use Rattle.hal_operations.specs.declared.operation.Op2.{Op2}
use Rattle.hal_operations.specs.declared.operation.Op2.TheVariants as op2

-- a string of 1 to 32 bits
abbrev pub is_string : ℕ → ℕ → Bool
is_string len word = nat_le 1 len && (nat_le len 32 && nat_lt word (2 ^ len))

abbrev pub takes_integer : Op1 → Bool
takes_integer op1.Minus = true
takes_integer op1.Abs = true
takes_integer op1.Signum = true
takes_integer op1.Odd = true
takes_integer op1.Character = true
takes_integer op1.Bit = true
takes_integer op = false

abbrev pub takes_string : Op1 → Bool
takes_string op1.Not = true
takes_string op1.Character = true
takes_string op1.Integer = true
takes_string op = false

abbrev pub takes_text : Op1 → Bool
takes_text op1.Length = true
takes_text op1.Trim = true
takes_text op1.Character = true
takes_text op1.Integer = true
takes_text op = false

-- whether an operation takes an operand
unfoldable pub takes_one : Op1 → Value → Bool
takes_one op (value.Int a) = takes_integer op
takes_one op (value.Bits len word) = takes_string op && is_string len word
takes_one op (value.Text text) = takes_text op

abbrev pub takes_integers : Op2 → Bool
takes_integers op2.And = false
takes_integers op2.Or = false
takes_integers op2.Xor = false
takes_integers op2.Cat = false
takes_integers op2.Index = false
takes_integers op2.Ljust = false
takes_integers op2.Rjust = false
takes_integers op = true

abbrev pub takes_strings : Op2 → Bool
takes_strings op2.And = true
takes_strings op2.Or = true
takes_strings op2.Xor = true
takes_strings op2.Cat = true
takes_strings op = false

abbrev pub takes_texts : Op2 → Bool
takes_texts op2.Cat = true
takes_texts op2.Index = true
takes_texts op = false

abbrev pub takes_text_and_integer : Op2 → Bool
takes_text_and_integer op2.Cat = true
takes_text_and_integer op2.Ljust = true
takes_text_and_integer op2.Rjust = true
takes_text_and_integer op = false

abbrev pub takes_integer_and_text : Op2 → Bool
takes_integer_and_text op2.Cat = true
takes_integer_and_text op = false

-- whether an operation, other than a comparison, takes two operands
unfoldable pub takes_two : Op2 → Value → Value → Bool
takes_two op (value.Int a) (value.Int b) = takes_integers op
takes_two op (value.Int a) (value.Text y) = takes_integer_and_text op
takes_two op (value.Bits m x) (value.Bits n y) = takes_strings op && (is_string m x && is_string n y)
takes_two op (value.Text x) (value.Int b) = takes_text_and_integer op
takes_two op (value.Text x) (value.Text y) = takes_texts op
takes_two op v w = false

-- whether a cell of the kind takes the value
unfoldable pub is_storable : Kind → Value → Bool
is_storable kind.Single (value.Int a) = true
is_storable kind.Double (value.Int a) = true
is_storable (kind.Bits n) (value.Bits len word) = nat_le 1 n && (nat_le n 32 && is_string len word)
is_storable (kind.Text n) (value.Int a) = nat_le 1 n && nat_le n 255
is_storable (kind.Text n) (value.Text text) = nat_le 1 n && nat_le n 255
is_storable k v = false

-- whether a value has components
unfoldable pub has_components : Value → Bool
has_components (value.Int a) = false
has_components (value.Bits len word) = is_string len word
has_components (value.Text text) = true
