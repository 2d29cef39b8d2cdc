-- Operations give right values from right ones.
use Rattle.std.proofs.Common.{ℕ, ◌%◌, ◌^◌, ◌≤◌, ◌==◌, Bool, true, false, not, ◌&&◌, ◌||◌, List, length, map, ℤ, pos, ◌+ℤ◌, ◌-ℤ◌, ◌*ℤ◌, neg_ℤ, unsigned_abs, int_div, int_lt, Result, Ok, Err, arith, if◌then◌else◌}
use Rattle.std.specs.Prelude.{IfOk}
use Rattle.std.specs.Int.{int_signum, int_rem_euclid}
use Rattle.std.specs.Fmt.{signed_decimal}
use Rattle.hal_values.specs.declared.environment.ErrNo.{ErrNo}
use Rattle.hal_values.specs.declared.value.Value.{Value}
use Rattle.hal_values.specs.declared.value.Value.TheVariants as value
use Rattle.hal_operations.specs.declared.operation.Op1.{Op1}
use Rattle.hal_operations.specs.declared.operation.Op1.TheVariants as op1
use Rattle.hal_operations.specs.declared.operation.Op2.{Op2}
use Rattle.hal_operations.specs.declared.operation.Op2.TheVariants as op2
use Rattle.hal_operations.specs.Errors.{range_error, zero_divisor, after_ignored}
use Rattle.hal_operations.specs.Integers.{double, integer, ranged, is_zero, is_shift, places, halved}
use Rattle.hal_operations.specs.Mended.{stand_in_of_one, stand_in_of_integers, stand_in_of_text, stand_in_of_two, mended_of_one, mended_of_two}
use Rattle.hal_operations.specs.Operands.{IsString}
use Rattle.hal_operations.specs.Strings.{bits_of, one_bit, differ, are_equal}
use Rattle.hal_operations.specs.Texts.{is_before, left_justified, right_justified, width, is_width, integer_of}
use Rattle.hal_operations.specs.Values.{of_integer, of_string, of_text, value_of_one, compared, is_comparison, computed, of_integers, of_strings, of_texts, of_text_and_integer, of_integer_and_text, value_of_two}
use Rattle.hal_sound_values.specs.Right.{IsRight}
use Rattle.hal_sound_values.proofs.Near.{IsNear, integer_near, near_integer, ranged_is, nearest_is, power_is, mended_power_is, unless, mended_quotient_is, where_fits, halved_is, signum_is, two_complement_is, from_two_complement_is}
use Rattle.hal_sound_values.proofs.RightStrings.{IsRoom, string_right, one_bit_right, word_room, not_room, bitwise_room, joined_room, word_below}
use Rattle.hal_sound_values.proofs.RightTexts.{joined_right, left_right, right_right, where_wide, decimal_right, bits_text_right, trimmed_room, index_room, read_right}

-- an integer in range is a right value
integer_right : (result : Result ℤ ErrNo) → IfOk result (IsNear 31) → IfOk (integer result) IsRight
integer_right (Ok z) h = near_integer z h
integer_right (Err e) h = tt

one_integer : (op : Op1) (a : ℤ) → IsNear 31 a → IfOk (of_integer op a) IsRight
one_integer op1.Minus a h = integer_right (ranged double (neg_ℤ a)) (ranged_is double (neg_ℤ a))
one_integer op1.Abs a h = integer_right (ranged double (pos (unsigned_abs a))) (ranged_is double (pos (unsigned_abs a)))
one_integer op1.Signum a h = near_integer (int_signum a) (signum_is a)
one_integer op1.Odd a h = one_bit_right (unsigned_abs a % 2 == 1)
one_integer op1.Character a h = decimal_right a h
one_integer op1.Bit a h = (omega arith, omega arith, two_complement_is a h)
one_integer op a h = near_integer a h

one_string : (op : Op1) (len word : ℕ) → IsString len word → IfOk (of_string op len word) IsRight
one_string op1.Not len word h = string_right (map not (bits_of len word)) (not_room (bits_of len word) (word_room len word h))
one_string op1.Character len word h = bits_text_right len word h.1
one_string op1.Integer len word h = near_integer _ (from_two_complement_is word (word_below len word h))
one_string op len word h = h

one_text : (op : Op1) (text : List ℕ) → length text ≤ 255 → IfOk (of_text op text) IsRight
one_text op1.Length text h = near_integer (pos (length text)) (omega (arith, h))
one_text op1.Trim text h = omega (arith, h, trimmed_room text)
one_text op1.Character text h = h
one_text op1.Integer text h = read_right (integer_of text)
one_text op text h = h

-- of one operand
pub one_right : (op : Op1) (v : Value) → IsRight v → IfOk (value_of_one op v) IsRight
one_right op (value.Int a) h = one_integer op a (integer_near a h)
one_right op (value.Bits len word) h = one_string op len word h
one_right op (value.Text text) h = one_text op text h

pub computed_is : (op : Op2) (a b : ℤ) → IsNear 31 a → IfOk (computed op a b) (IsNear 31)
computed_is op2.Plus a b h = ranged_is double (a +ℤ b)
computed_is op2.Minus a b h = ranged_is double (a -ℤ b)
computed_is op2.Product a b h = ranged_is double (a *ℤ b)
computed_is op2.Power a b h = power_is a b
computed_is op2.Div a b h = unless (is_zero b) zero_divisor (ranged double (int_div a b)) (ranged_is double (int_div a b))
computed_is op2.Remainder a b h = unless (is_zero b) zero_divisor _ (ranged_is double (a -ℤ (int_div a b *ℤ b)))
computed_is op2.Mod a b h = unless (is_zero b) zero_divisor _ (ranged_is double (int_rem_euclid a b))
computed_is op2.Shl a b h = where_fits (is_shift b) range_error _ (ranged_is double (a *ℤ pos (2 ^ places b)))
computed_is op2.Shr a b h = where_fits (is_shift b) range_error (Ok (halved a b)) (halved_is a b h)
computed_is op a b h = h

integers_by : (test : Bool) (bit : Bool) (result : Result ℤ ErrNo) → IfOk result (IsNear 31) → IfOk (if test then Ok (one_bit bit) else integer result) IsRight
integers_by true bit result h = one_bit_right bit
integers_by false bit result h = integer_right result h

two_integers : (op : Op2) (a b : ℤ) → IsNear 31 a → IfOk (of_integers op a b) IsRight
two_integers op a b h = integers_by (is_comparison op) (compared op (int_lt a b) (int_lt b a)) (computed op a b) (computed_is op a b h)

two_strings : (op : Op2) (xs ys : List Bool) → IsRoom xs → IsRoom ys → IfOk (of_strings op xs ys) IsRight
two_strings op2.And xs ys h k = string_right _ (bitwise_room (λ x y. x && y) xs ys h k)
two_strings op2.Or xs ys h k = string_right _ (bitwise_room (λ x y. x || y) xs ys h k)
two_strings op2.Xor xs ys h k = string_right _ (bitwise_room differ xs ys h k)
two_strings op2.Cat xs ys h k = string_right _ (joined_room xs ys h)
two_strings op2.Equal xs ys h k = one_bit_right (are_equal xs ys)
two_strings op2.NotEqual xs ys h k = one_bit_right (not (are_equal xs ys))
two_strings op xs ys h k = string_right xs h

two_texts : (op : Op2) (x y : List ℕ) → length x ≤ 255 → IfOk (of_texts op x y) IsRight
two_texts op2.Cat x y h = joined_right x y
two_texts op2.Index x y h = near_integer (pos _) (omega (arith, h, index_room x y))
two_texts op x y h = one_bit_right (compared op (is_before x y) (is_before y x))

text_and_integer : (op : Op2) (x : List ℕ) (b : ℤ) → length x ≤ 255 → IfOk (of_text_and_integer op x b) IsRight
text_and_integer op2.Cat x b h = joined_right x (signed_decimal b)
text_and_integer op2.Ljust x b h = where_wide (is_width b) range_error (value.Text (left_justified (width b) x)) (left_right b x)
text_and_integer op2.Rjust x b h = where_wide (is_width b) range_error (value.Text (right_justified (width b) x)) (right_right b x)
text_and_integer op x b h = h

integer_and_text : (op : Op2) (a : ℤ) (y : List ℕ) → IsNear 31 a → IfOk (of_integer_and_text op a y) IsRight
integer_and_text op2.Cat a y h = joined_right (signed_decimal a) y
integer_and_text op a y h = near_integer a h

-- of two operands
pub two_right : (op : Op2) (v w : Value) → IsRight v → IsRight w → IfOk (value_of_two op v w) IsRight
two_right op (value.Int a) (value.Int b) h k = two_integers op a b (integer_near a h)
two_right op (value.Int a) (value.Bits len word) h k = h
two_right op (value.Int a) (value.Text y) h k = integer_and_text op a y (integer_near a h)
two_right op (value.Bits len word) (value.Int b) h k = h
two_right op (value.Bits m x) (value.Bits n y) h k = two_strings op (bits_of m x) (bits_of n y) (word_room m x h) (word_room n y k)
two_right op (value.Bits len word) (value.Text y) h k = h
two_right op (value.Text x) (value.Int b) h k = text_and_integer op x b h
two_right op (value.Text x) (value.Bits len word) h k = h
two_right op (value.Text x) (value.Text y) h k = two_texts op x y h

-- a right value, or the right one in its place
pub after_right : (P : Value → Type 0) (result : Result Value ErrNo) (mended : Value) → IfOk result P → P mended → P (after_ignored result mended)
after_right P (Ok v) mended h k = h
after_right P (Err e) mended h k = k

stand_in_one : (op : Op1) (v : Value) → IsRight v → IsRight (stand_in_of_one op v)
stand_in_one op1.Minus (value.Int a) h = near_integer _ (nearest_is double (neg_ℤ a))
stand_in_one op1.Abs (value.Int a) h = near_integer _ (nearest_is double (pos (unsigned_abs a)))
stand_in_one op1.Integer (value.Text text) h = near_integer (pos 0) (omega arith)
stand_in_one op v h = h

-- of one operand, after an ignored error
pub mended_one_right : (op : Op1) (v : Value) → IsRight v → IsRight (mended_of_one op v)
mended_one_right op v h = after_right IsRight (value_of_one op v) (stand_in_of_one op v) (one_right op v h) (stand_in_one op v h)

stand_in_integers : (op : Op2) (a b : ℤ) → IsNear 31 a → IsRight (stand_in_of_integers op a b)
stand_in_integers op2.Plus a b h = near_integer _ (nearest_is double (a +ℤ b))
stand_in_integers op2.Minus a b h = near_integer _ (nearest_is double (a -ℤ b))
stand_in_integers op2.Product a b h = near_integer _ (nearest_is double (a *ℤ b))
stand_in_integers op2.Power a b h = near_integer _ (mended_power_is a b)
stand_in_integers op2.Div a b h = near_integer _ (mended_quotient_is a b (is_zero b) (int_div a b))
stand_in_integers op2.Remainder a b h = near_integer (pos 0) (omega arith)
stand_in_integers op2.Mod a b h = near_integer (pos 0) (omega arith)
stand_in_integers op2.Shl a b h = near_integer _ (nearest_is double (a *ℤ pos (2 ^ places b)))
stand_in_integers op2.Shr a b h = near_integer _ (halved_is a b h)
stand_in_integers op a b h = near_integer a h

stand_in_text : (op : Op2) (x : List ℕ) (b : ℤ) → length x ≤ 255 → IsRight (stand_in_of_text op x b)
stand_in_text op2.Ljust x b h = left_right b x
stand_in_text op2.Rjust x b h = right_right b x
stand_in_text op x b h = h

stand_in_two : (op : Op2) (v w : Value) → IsRight v → IsRight (stand_in_of_two op v w)
stand_in_two op (value.Int a) (value.Int b) h = stand_in_integers op a b (integer_near a h)
stand_in_two op (value.Text x) (value.Int b) h = stand_in_text op x b h
stand_in_two op v w h = h

-- of two operands, after an ignored error
pub mended_two_right : (op : Op2) (v w : Value) → IsRight v → IsRight w → IsRight (mended_of_two op v w)
mended_two_right op v w h k = after_right IsRight (value_of_two op v w) (stand_in_of_two op v w) (two_right op v w h k) (stand_in_two op v w h)
