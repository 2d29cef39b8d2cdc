-- The table of operations after an ignored error: an operation that raises none has its value.
use Rattle.std.specs.Prelude.{ℕ, ℤ, pos, ◌+ℤ◌, ◌-ℤ◌, ◌*ℤ◌, neg_ℤ, unsigned_abs, List}
use Rattle.hal_values.specs.declared.value.Value.{Value}
use Rattle.hal_values.specs.declared.value.Value.TheVariants as value
use Rattle.hal_operations.specs.declared.operation.Op1.{Op1}
use Rattle.hal_operations.specs.declared.operation.Op1.TheVariants as op1
use Rattle.hal_operations.specs.declared.operation.Op2.{Op2}
use Rattle.hal_operations.specs.declared.operation.Op2.TheVariants as op2
use Rattle.hal_operations.specs.Errors.{after_ignored}
use Rattle.hal_operations.specs.Integers.{double, nearest, mended_power, mended_quotient, mended_left_shift, halved}
use Rattle.hal_operations.specs.Texts.{left_justified, right_justified, width}
use Rattle.hal_operations.specs.Values.{value_of_one, value_of_two}

-- what stands in place of the value of one operand: the nearest bound, and 0 for a text that isn't an integer
abbrev pub stand_in_of_one : Op1 → Value → Value
stand_in_of_one op1.Minus (value.Int a) = value.Int (nearest double (neg_ℤ a))
stand_in_of_one op1.Abs (value.Int a) = value.Int (nearest double (pos (unsigned_abs a)))
stand_in_of_one op1.Integer (value.Text text) = value.Int (pos 0)
stand_in_of_one op v = v

-- what stands in place of the value of two integers: the nearest bound, and 0 after a division by zero; a number of places
-- out of range is the nearest first
abbrev pub stand_in_of_integers : Op2 → ℤ → ℤ → Value
stand_in_of_integers op2.Plus a b = value.Int (nearest double (a +ℤ b))
stand_in_of_integers op2.Minus a b = value.Int (nearest double (a -ℤ b))
stand_in_of_integers op2.Product a b = value.Int (nearest double (a *ℤ b))
stand_in_of_integers op2.Power a b = value.Int (mended_power a b)
stand_in_of_integers op2.Div a b = value.Int (mended_quotient a b)
stand_in_of_integers op2.Remainder a b = value.Int (pos 0)
stand_in_of_integers op2.Mod a b = value.Int (pos 0)
stand_in_of_integers op2.Shl a b = value.Int (mended_left_shift a b)
stand_in_of_integers op2.Shr a b = value.Int (halved a b)
stand_in_of_integers op a b = value.Int a

-- what stands in place of a justified text: one of the nearest length
abbrev pub stand_in_of_text : Op2 → List ℕ → ℤ → Value
stand_in_of_text op2.Ljust x b = value.Text (left_justified (width b) x)
stand_in_of_text op2.Rjust x b = value.Text (right_justified (width b) x)
stand_in_of_text op x b = value.Text x

abbrev pub stand_in_of_two : Op2 → Value → Value → Value
stand_in_of_two op (value.Int a) (value.Int b) = stand_in_of_integers op a b
stand_in_of_two op (value.Text x) (value.Int b) = stand_in_of_text op x b
stand_in_of_two op v w = v

-- of one operand, after an ignored error
abbrev pub mended_of_one : Op1 → Value → Value
mended_of_one op v = after_ignored (value_of_one op v) (stand_in_of_one op v)

-- of two operands, after an ignored error
abbrev pub mended_of_two : Op2 → Value → Value → Value
mended_of_two op v w = after_ignored (value_of_two op v w) (stand_in_of_two op v w)
