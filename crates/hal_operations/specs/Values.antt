-- The table of operations: the value of each, or the error that it raises. The rows for operands that an operation doesn't
-- take say nothing of use, and no call asks for them.
use Rattle.std.specs.Prelude.{ℕ, ◌%◌, ◌==◌, ℤ, pos, ◌+ℤ◌, ◌-ℤ◌, ◌*ℤ◌, neg_ℤ, unsigned_abs, int_lt, Bool, true, false, not, ◌&&◌, ◌||◌, List, length, map, Result, Ok, Err, if◌then◌else◌}
use Rattle.std.specs.Int.{int_signum}
use Rattle.std.specs.Fmt.{signed_decimal}
use Rattle.hal_values.specs.declared.environment.ErrNo.{ErrNo}
use Rattle.hal_values.specs.declared.value.Value.{Value}
use Rattle.hal_values.specs.declared.value.Value.TheVariants as value
use Rattle.hal_values.specs.BitTexts.{bits_text}
use Rattle.hal_operations.specs.declared.operation.Op1.{Op1}
use Rattle.hal_operations.specs.declared.operation.Op1.TheVariants as op1
use Rattle.hal_operations.specs.declared.operation.Op2.{Op2}
use Rattle.hal_operations.specs.declared.operation.Op2.TheVariants as op2
use Rattle.hal_operations.specs.Errors.{range_error}
use Rattle.hal_operations.specs.Integers.{double, integer, ranged, power, quotient, remainder, modulus, left_shift, right_shift, two_complement, from_two_complement}
use Rattle.hal_operations.specs.Strings.{bits_of, string, one_bit, bitwise, differ, are_equal, joined}
use Rattle.hal_operations.specs.Texts.{joined_text, is_before, index, left_justified, right_justified, is_width, width, trimmed, integer_of, read}

-- of an integer
abbrev pub of_integer : Op1 → ℤ → Result Value ErrNo
of_integer op1.Minus a = integer (ranged double (neg_ℤ a))
of_integer op1.Abs a = integer (ranged double (pos (unsigned_abs a)))
of_integer op1.Signum a = Ok (value.Int (int_signum a))
of_integer op1.Odd a = Ok (one_bit (unsigned_abs a % 2 == 1))
of_integer op1.Character a = Ok (value.Text (signed_decimal a))
of_integer op1.Bit a = Ok (value.Bits 32 (two_complement a))
of_integer op a = Ok (value.Int a)

-- of a string of bits
abbrev pub of_string : Op1 → ℕ → ℕ → Result Value ErrNo
of_string op1.Not len word = Ok (string (map not (bits_of len word)))
of_string op1.Character len word = Ok (value.Text (bits_text len word))
of_string op1.Integer len word = Ok (value.Int (from_two_complement word))
of_string op len word = Ok (value.Bits len word)

-- of a text
abbrev pub of_text : Op1 → List ℕ → Result Value ErrNo
of_text op1.Length text = Ok (value.Int (pos (length text)))
of_text op1.Trim text = Ok (value.Text (trimmed text))
of_text op1.Character text = Ok (value.Text text)
of_text op1.Integer text = read (integer_of text)
of_text op text = Ok (value.Text text)

-- of one operand
abbrev pub value_of_one : Op1 → Value → Result Value ErrNo
value_of_one op (value.Int a) = of_integer op a
value_of_one op (value.Bits len word) = of_string op len word
value_of_one op (value.Text text) = of_text op text

-- a comparison, where the left operand comes before the right one, or after it, or neither
abbrev pub compared : Op2 → Bool → Bool → Bool
compared op2.Equal before after = not before && not after
compared op2.NotEqual before after = before || after
compared op2.Less before after = before
compared op2.Greater before after = after
compared op2.LessOrEqual before after = not after
compared op2.GreaterOrEqual before after = not before
compared op before after = before

-- the operation compares
abbrev pub is_comparison : Op2 → Bool
is_comparison op2.Equal = true
is_comparison op2.NotEqual = true
is_comparison op2.Less = true
is_comparison op2.Greater = true
is_comparison op2.LessOrEqual = true
is_comparison op2.GreaterOrEqual = true
is_comparison op = false

-- the integer that two integers give
abbrev pub computed : Op2 → ℤ → ℤ → Result ℤ ErrNo
computed op2.Plus a b = ranged double (a +ℤ b)
computed op2.Minus a b = ranged double (a -ℤ b)
computed op2.Product a b = ranged double (a *ℤ b)
computed op2.Power a b = power a b
computed op2.Div a b = quotient a b
computed op2.Remainder a b = remainder a b
computed op2.Mod a b = modulus a b
computed op2.Shl a b = left_shift a b
computed op2.Shr a b = right_shift a b
computed op a b = Ok a

-- of two integers
abbrev pub of_integers : Op2 → ℤ → ℤ → Result Value ErrNo
of_integers op a b = if is_comparison op then Ok (one_bit (compared op (int_lt a b) (int_lt b a))) else integer (computed op a b)

-- of two strings of bits
abbrev pub of_strings : Op2 → List Bool → List Bool → Result Value ErrNo
of_strings op2.And xs ys = Ok (string (bitwise (λ x y. x && y) xs ys))
of_strings op2.Or xs ys = Ok (string (bitwise (λ x y. x || y) xs ys))
of_strings op2.Xor xs ys = Ok (string (bitwise differ xs ys))
of_strings op2.Cat xs ys = Ok (string (joined xs ys))
of_strings op2.Equal xs ys = Ok (one_bit (are_equal xs ys))
of_strings op2.NotEqual xs ys = Ok (one_bit (not (are_equal xs ys)))
of_strings op xs ys = Ok (string xs)

-- of two texts; the rest are comparisons
abbrev pub of_texts : Op2 → List ℕ → List ℕ → Result Value ErrNo
of_texts op2.Cat x y = Ok (value.Text (joined_text x y))
of_texts op2.Index x y = Ok (value.Int (pos (index x y)))
of_texts op x y = Ok (one_bit (compared op (is_before x y) (is_before y x)))

-- of a text and an integer
abbrev pub of_text_and_integer : Op2 → List ℕ → ℤ → Result Value ErrNo
of_text_and_integer op2.Cat x b = Ok (value.Text (joined_text x (signed_decimal b)))
of_text_and_integer op2.Ljust x b = if is_width b then Ok (value.Text (left_justified (width b) x)) else Err range_error
of_text_and_integer op2.Rjust x b = if is_width b then Ok (value.Text (right_justified (width b) x)) else Err range_error
of_text_and_integer op x b = Ok (value.Text x)

-- of an integer and a text
abbrev pub of_integer_and_text : Op2 → ℤ → List ℕ → Result Value ErrNo
of_integer_and_text op2.Cat a y = Ok (value.Text (joined_text (signed_decimal a) y))
of_integer_and_text op a y = Ok (value.Int a)

-- of two operands
abbrev pub value_of_two : Op2 → Value → Value → Result Value ErrNo
value_of_two op (value.Int a) (value.Int b) = of_integers op a b
value_of_two op (value.Int a) (value.Bits len word) = Ok (value.Int a)
value_of_two op (value.Int a) (value.Text y) = of_integer_and_text op a y
value_of_two op (value.Bits len word) (value.Int b) = Ok (value.Bits len word)
value_of_two op (value.Bits m x) (value.Bits n y) = of_strings op (bits_of m x) (bits_of n y)
value_of_two op (value.Bits len word) (value.Text y) = Ok (value.Bits len word)
value_of_two op (value.Text x) (value.Int b) = of_text_and_integer op x b
value_of_two op (value.Text x) (value.Bits len word) = Ok (value.Text x)
value_of_two op (value.Text x) (value.Text y) = of_texts op x y
