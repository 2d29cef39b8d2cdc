-- Operations give values of their kinds.
use Rattle.std.proofs.Common.{◌≡◌, ◌∙◌, ℕ, ◌+◌, ◌%◌, ◌≤◌, ◌==◌, max, min, Bool, true, false, not, ◌&&◌, ◌||◌, List, [], ◌∷◌, ◌++◌, length, map, Option, Some, None, ℤ, pos, ◌+ℤ◌, ◌-ℤ◌, ◌*ℤ◌, ◌^◌, int_div, neg_ℤ, unsigned_abs, int_lt, Result, Ok, Err, refl, ap, ap₂, arith, if◌then◌else◌}
use Rattle.std.specs.Prelude.{IfOk}
use Rattle.std.specs.Int.{int_signum}
use Rattle.std.specs.Fmt.{signed_decimal}
use Rattle.std.proofs.lemmas.List.{length-append, length-map}
use Rattle.hal_values.specs.declared.environment.ErrNo.{ErrNo}
use Rattle.hal_values.specs.declared.value.Value.{Value}
use Rattle.hal_values.specs.declared.value.Value.TheVariants as value
use Rattle.hal_values.specs.Kinds.{IsInteger, IsBits, IsText}
use Rattle.hal_operations.specs.declared.operation.Op1.{Op1}
use Rattle.hal_operations.specs.declared.operation.Op1.TheVariants as op1
use Rattle.hal_operations.specs.declared.operation.Op2.{Op2}
use Rattle.hal_operations.specs.declared.operation.Op2.TheVariants as op2
use Rattle.hal_operations.specs.Errors.{range_error, after_ignored}
use Rattle.hal_operations.specs.Integers.{double, integer, ranged, nearest, is_within, is_zero, places, halved, mended_power, mended_quotient, mended_left_shift}
use Rattle.hal_operations.specs.Mended.{mended_of_one, mended_of_two}
use Rattle.hal_operations.specs.Operands.{Takes, TakesBoth, TakesStrings, TakesIntegers, TakesTexts, TakesTextAndInteger, TakesIntegerAndText}
use Rattle.hal_operations.specs.Strings.{bits_of, string, one_bit, bitwise, differ, joined, are_equal}
use Rattle.hal_operations.specs.Texts.{is_before, left_justified, right_justified, width, is_width, integer_of, read}
use Rattle.hal_operations.specs.Values.{value_of_one, compared, computed, of_integers, of_strings, of_texts, of_text_and_integer, of_integer_and_text, value_of_two}
use Rattle.hal_operations.proofs.BitLists.{length-bits_of, length-bitwise, length-last}
use Rattle.hal_sound_values.specs.Right.{IsRight}
use Rattle.hal_sound_values.specs.Given.{IsGivenByOne, IsGivenByStrings, IsGivenByIntegers, IsGivenByTexts, IsGivenByTwo}
use Rattle.hal_sound_values.proofs.Near.{IsNear, integer_near, near_integer, ranged_is, nearest_is, mended_power_is, mended_quotient_is, halved_is, signum_is, two_complement_is, from_two_complement_is, within_near}
use Rattle.hal_sound_values.proofs.RightStrings.{string_is_bits, word_below}
use Rattle.hal_sound_values.proofs.RightResults.{computed_is}
use Rattle.hal_sound_values.proofs.RightTexts.{joined_right, left_right, right_right, decimal_right, bits_text_right, trimmed_room, index_room}

integer_is : (result : Result ℤ ErrNo) → IfOk result (IsNear 31) → IfOk (integer result) IsInteger
integer_is (Ok z) h = near_integer z h
integer_is (Err e) h = tt

one_bit_is : (bit : Bool) → IsBits 1 (one_bit bit)
one_bit_is bit = string_is_bits 1 (bit ∷ []) refl

only_integer : (test : Bool) (z : ℤ) (e : ErrNo) → is_within double z ≡ test → IfOk (if test then Ok (value.Int z) else Err e) IsInteger
only_integer true z e is = near_integer z (within_near double z is)
only_integer false z e is = tt

read_is : (found : Option ℤ) → IfOk (read found) IsInteger
read_is None = tt
read_is (Some z) = only_integer (is_within double z) z _ refl

-- a text where the width is right
wide_is : (test : Bool) (e : ErrNo) (text : List ℕ) → IsRight (value.Text text) → IfOk (if test then Ok (value.Text text) else Err e) (IsText 255)
wide_is true e text h = h
wide_is false e text h = tt

-- of one operand
pub one_given : (op : Op1) (v : Value) → IsRight v → Takes op v → IfOk (value_of_one op v) (IsGivenByOne op v)
one_given op1.Minus (value.Int a) h t = integer_is (ranged double (neg_ℤ a)) (ranged_is double (neg_ℤ a))
one_given op1.Abs (value.Int a) h t = integer_is (ranged double (pos (unsigned_abs a))) (ranged_is double (pos (unsigned_abs a)))
one_given op1.Signum (value.Int a) h t = near_integer (int_signum a) (signum_is a)
one_given op1.Odd (value.Int a) h t = one_bit_is (unsigned_abs a % 2 == 1)
one_given op1.Character (value.Int a) h t = decimal_right a (integer_near a h)
one_given op1.Bit (value.Int a) h t = (refl, two_complement_is a (integer_near a h))
one_given op1.Not (value.Bits len word) h t = string_is_bits len (map not (bits_of len word)) (length-map (bits_of len word) not ∙ length-bits_of len word)
one_given op1.Character (value.Bits len word) h t = bits_text_right len word h.1
one_given op1.Integer (value.Bits len word) h t = near_integer _ (from_two_complement_is word (word_below len word h))
one_given op1.Length (value.Text text) h t = near_integer (pos (length text)) (omega (arith, h))
one_given op1.Trim (value.Text text) h t = omega (arith, h, trimmed_room text)
one_given op1.Character (value.Text text) h t = h
one_given op1.Integer (value.Text text) h t = read_is (integer_of text)
one_given op (value.Int a) h t = absurd t
one_given op (value.Bits len word) h t = absurd t.0
one_given op (value.Text text) h t = absurd t

bitwise_is : (f : Bool → Bool → Bool) (m x n y : ℕ) → IsBits (max m n) (string (bitwise f (bits_of m x) (bits_of n y)))
bitwise_is f m x n y =
    string_is_bits (max m n) (bitwise f (bits_of m x) (bits_of n y)) (length-bitwise f (bits_of m x) (bits_of n y) ∙ ap₂ max (length-bits_of m x) (length-bits_of n y))

joined_is : (m x n y : ℕ) → IsBits (min 32 (m + n)) (string (joined (bits_of m x) (bits_of n y)))
joined_is m x n y =
    string_is_bits (min 32 (m + n)) (joined (bits_of m x) (bits_of n y))
    (length-last 32 (bits_of m x ++ bits_of n y) ∙ ap (min 32) (length-append (bits_of m x) (bits_of n y) ∙ ap₂ (λ (a b : ℕ). a + b) (length-bits_of m x) (length-bits_of n y)))

strings_given : (op : Op2) (m x n y : ℕ) → TakesStrings op → IfOk (of_strings op (bits_of m x) (bits_of n y)) (IsGivenByStrings op m n)
strings_given op2.And m x n y t = bitwise_is (λ a b. a && b) m x n y
strings_given op2.Or m x n y t = bitwise_is (λ a b. a || b) m x n y
strings_given op2.Xor m x n y t = bitwise_is differ m x n y
strings_given op2.Cat m x n y t = joined_is m x n y
strings_given op2.Equal m x n y t = one_bit_is (are_equal (bits_of m x) (bits_of n y))
strings_given op2.NotEqual m x n y t = one_bit_is (not (are_equal (bits_of m x) (bits_of n y)))
strings_given op m x n y t = absurd t

integers_given : (op : Op2) (a b : ℤ) → IsNear 31 a → TakesIntegers op → IfOk (of_integers op a b) (IsGivenByIntegers op)
integers_given op2.Plus a b h t = integer_is (computed op2.Plus a b) (computed_is op2.Plus a b h)
integers_given op2.Minus a b h t = integer_is (computed op2.Minus a b) (computed_is op2.Minus a b h)
integers_given op2.Product a b h t = integer_is (computed op2.Product a b) (computed_is op2.Product a b h)
integers_given op2.Power a b h t = integer_is (computed op2.Power a b) (computed_is op2.Power a b h)
integers_given op2.Div a b h t = integer_is (computed op2.Div a b) (computed_is op2.Div a b h)
integers_given op2.Remainder a b h t = integer_is (computed op2.Remainder a b) (computed_is op2.Remainder a b h)
integers_given op2.Mod a b h t = integer_is (computed op2.Mod a b) (computed_is op2.Mod a b h)
integers_given op2.Shl a b h t = integer_is (computed op2.Shl a b) (computed_is op2.Shl a b h)
integers_given op2.Shr a b h t = integer_is (computed op2.Shr a b) (computed_is op2.Shr a b h)
integers_given op2.Equal a b h t = one_bit_is (compared op2.Equal (int_lt a b) (int_lt b a))
integers_given op2.NotEqual a b h t = one_bit_is (compared op2.NotEqual (int_lt a b) (int_lt b a))
integers_given op2.Less a b h t = one_bit_is (compared op2.Less (int_lt a b) (int_lt b a))
integers_given op2.Greater a b h t = one_bit_is (compared op2.Greater (int_lt a b) (int_lt b a))
integers_given op2.LessOrEqual a b h t = one_bit_is (compared op2.LessOrEqual (int_lt a b) (int_lt b a))
integers_given op2.GreaterOrEqual a b h t = one_bit_is (compared op2.GreaterOrEqual (int_lt a b) (int_lt b a))
integers_given op a b h t = absurd t

texts_given : (op : Op2) (x y : List ℕ) → length x ≤ 255 → TakesTexts op → IfOk (of_texts op x y) (IsGivenByTexts op)
texts_given op2.Cat x y h t = joined_right x y
texts_given op2.Index x y h t = near_integer (pos _) (omega (arith, h, index_room x y))
texts_given op2.Equal x y h t = one_bit_is (compared op2.Equal (is_before x y) (is_before y x))
texts_given op2.NotEqual x y h t = one_bit_is (compared op2.NotEqual (is_before x y) (is_before y x))
texts_given op2.Less x y h t = one_bit_is (compared op2.Less (is_before x y) (is_before y x))
texts_given op2.Greater x y h t = one_bit_is (compared op2.Greater (is_before x y) (is_before y x))
texts_given op2.LessOrEqual x y h t = one_bit_is (compared op2.LessOrEqual (is_before x y) (is_before y x))
texts_given op2.GreaterOrEqual x y h t = one_bit_is (compared op2.GreaterOrEqual (is_before x y) (is_before y x))
texts_given op x y h t = absurd t

text_given : (op : Op2) (x : List ℕ) (b : ℤ) → TakesTextAndInteger op → IfOk (of_text_and_integer op x b) (IsText 255)
text_given op2.Cat x b t = joined_right x (signed_decimal b)
text_given op2.Ljust x b t = wide_is (is_width b) range_error (left_justified (width b) x) (left_right b x)
text_given op2.Rjust x b t = wide_is (is_width b) range_error (right_justified (width b) x) (right_right b x)
text_given op x b t = absurd t

number_given : (op : Op2) (a : ℤ) (y : List ℕ) → TakesIntegerAndText op → IfOk (of_integer_and_text op a y) (IsText 255)
number_given op2.Cat a y t = joined_right (signed_decimal a) y
number_given op a y t = absurd t

-- of two operands
pub two_given : (op : Op2) (v w : Value) → IsRight v → TakesBoth op v w → IfOk (value_of_two op v w) (IsGivenByTwo op v w)
two_given op (value.Int a) (value.Int b) h t = integers_given op a b (integer_near a h) t
two_given op (value.Int a) (value.Bits len word) h t = absurd t
two_given op (value.Int a) (value.Text y) h t = number_given op a y t
two_given op (value.Bits len word) (value.Int b) h t = absurd t
two_given op (value.Bits m x) (value.Bits n y) h t = strings_given op m x n y t.0
two_given op (value.Bits len word) (value.Text y) h t = absurd t
two_given op (value.Text x) (value.Int b) h t = text_given op x b t
two_given op (value.Text x) (value.Bits len word) h t = absurd t
two_given op (value.Text x) (value.Text y) h t = texts_given op x y h t

-- an integer, or the one in its place
nearest_given : (result : Result ℤ ErrNo) (mended : ℤ) → IfOk result (IsNear 31) → IsNear 31 mended → IsInteger (after_ignored (integer result) (value.Int mended))
nearest_given (Ok z) mended h k = near_integer z h
nearest_given (Err e) mended h k = near_integer mended k

text_mended : (test : Bool) (e : ErrNo) (text other : List ℕ) → IsRight (value.Text text) → IsRight (value.Text other) → IsText 255 (after_ignored (if test then Ok (value.Text text) else Err e) (value.Text other))
text_mended true e text other h k = h
text_mended false e text other h k = k

read_mended : (result : Result Value ErrNo) → IfOk result IsInteger → IsInteger (after_ignored result (value.Int (pos 0)))
read_mended (Ok v) h = h
read_mended (Err e) h = near_integer (pos 0) (omega arith)

-- of one operand, after an ignored error
pub mended_one_given : (op : Op1) (v : Value) → IsRight v → Takes op v → IsGivenByOne op v (mended_of_one op v)
mended_one_given op1.Minus (value.Int a) h t = nearest_given (ranged double (neg_ℤ a)) (nearest double (neg_ℤ a)) (ranged_is double (neg_ℤ a)) (nearest_is double (neg_ℤ a))
mended_one_given op1.Abs (value.Int a) h t =
    nearest_given (ranged double (pos (unsigned_abs a))) (nearest double (pos (unsigned_abs a))) (ranged_is double (pos (unsigned_abs a))) (nearest_is double (pos (unsigned_abs a)))
mended_one_given op1.Signum (value.Int a) h t = one_given op1.Signum (value.Int a) h t
mended_one_given op1.Odd (value.Int a) h t = one_given op1.Odd (value.Int a) h t
mended_one_given op1.Character (value.Int a) h t = one_given op1.Character (value.Int a) h t
mended_one_given op1.Bit (value.Int a) h t = one_given op1.Bit (value.Int a) h t
mended_one_given op1.Not (value.Bits len word) h t = one_given op1.Not (value.Bits len word) h t
mended_one_given op1.Character (value.Bits len word) h t = one_given op1.Character (value.Bits len word) h t
mended_one_given op1.Integer (value.Bits len word) h t = one_given op1.Integer (value.Bits len word) h t
mended_one_given op1.Length (value.Text text) h t = one_given op1.Length (value.Text text) h t
mended_one_given op1.Trim (value.Text text) h t = one_given op1.Trim (value.Text text) h t
mended_one_given op1.Character (value.Text text) h t = one_given op1.Character (value.Text text) h t
mended_one_given op1.Integer (value.Text text) h t = read_mended (read (integer_of text)) (read_is (integer_of text))
mended_one_given op (value.Int a) h t = absurd t
mended_one_given op (value.Bits len word) h t = absurd t.0
mended_one_given op (value.Text text) h t = absurd t

integers_mended : (op : Op2) (a b : ℤ) → IsNear 31 a → TakesIntegers op → IsGivenByIntegers op (mended_of_two op (value.Int a) (value.Int b))
integers_mended op2.Plus a b h t = nearest_given (computed op2.Plus a b) (nearest double (a +ℤ b)) (computed_is op2.Plus a b h) (nearest_is double (a +ℤ b))
integers_mended op2.Minus a b h t = nearest_given (computed op2.Minus a b) (nearest double (a -ℤ b)) (computed_is op2.Minus a b h) (nearest_is double (a -ℤ b))
integers_mended op2.Product a b h t = nearest_given (computed op2.Product a b) (nearest double (a *ℤ b)) (computed_is op2.Product a b h) (nearest_is double (a *ℤ b))
integers_mended op2.Power a b h t = nearest_given (computed op2.Power a b) (mended_power a b) (computed_is op2.Power a b h) (mended_power_is a b)
integers_mended op2.Div a b h t = nearest_given (computed op2.Div a b) (mended_quotient a b) (computed_is op2.Div a b h) (mended_quotient_is a b (is_zero b) (int_div a b))
integers_mended op2.Remainder a b h t = nearest_given (computed op2.Remainder a b) (pos 0) (computed_is op2.Remainder a b h) (omega arith)
integers_mended op2.Mod a b h t = nearest_given (computed op2.Mod a b) (pos 0) (computed_is op2.Mod a b h) (omega arith)
integers_mended op2.Shl a b h t = nearest_given (computed op2.Shl a b) (mended_left_shift a b) (computed_is op2.Shl a b h) (nearest_is double (a *ℤ pos (2 ^ places b)))
integers_mended op2.Shr a b h t = nearest_given (computed op2.Shr a b) (halved a b) (computed_is op2.Shr a b h) (halved_is a b h)
integers_mended op2.Equal a b h t = integers_given op2.Equal a b h t
integers_mended op2.NotEqual a b h t = integers_given op2.NotEqual a b h t
integers_mended op2.Less a b h t = integers_given op2.Less a b h t
integers_mended op2.Greater a b h t = integers_given op2.Greater a b h t
integers_mended op2.LessOrEqual a b h t = integers_given op2.LessOrEqual a b h t
integers_mended op2.GreaterOrEqual a b h t = integers_given op2.GreaterOrEqual a b h t
integers_mended op a b h t = absurd t

strings_mended : (op : Op2) (m x n y : ℕ) → TakesStrings op → IsGivenByStrings op m n (mended_of_two op (value.Bits m x) (value.Bits n y))
strings_mended op2.And m x n y t = strings_given op2.And m x n y t
strings_mended op2.Or m x n y t = strings_given op2.Or m x n y t
strings_mended op2.Xor m x n y t = strings_given op2.Xor m x n y t
strings_mended op2.Cat m x n y t = strings_given op2.Cat m x n y t
strings_mended op2.Equal m x n y t = strings_given op2.Equal m x n y t
strings_mended op2.NotEqual m x n y t = strings_given op2.NotEqual m x n y t
strings_mended op m x n y t = absurd t

texts_mended : (op : Op2) (x y : List ℕ) → length x ≤ 255 → TakesTexts op → IsGivenByTexts op (mended_of_two op (value.Text x) (value.Text y))
texts_mended op2.Cat x y h t = texts_given op2.Cat x y h t
texts_mended op2.Index x y h t = texts_given op2.Index x y h t
texts_mended op2.Equal x y h t = texts_given op2.Equal x y h t
texts_mended op2.NotEqual x y h t = texts_given op2.NotEqual x y h t
texts_mended op2.Less x y h t = texts_given op2.Less x y h t
texts_mended op2.Greater x y h t = texts_given op2.Greater x y h t
texts_mended op2.LessOrEqual x y h t = texts_given op2.LessOrEqual x y h t
texts_mended op2.GreaterOrEqual x y h t = texts_given op2.GreaterOrEqual x y h t
texts_mended op x y h t = absurd t

text_filled : (op : Op2) (x : List ℕ) (b : ℤ) → TakesTextAndInteger op → IsText 255 (mended_of_two op (value.Text x) (value.Int b))
text_filled op2.Cat x b t = joined_right x (signed_decimal b)
text_filled op2.Ljust x b t = text_mended (is_width b) range_error (left_justified (width b) x) (left_justified (width b) x) (left_right b x) (left_right b x)
text_filled op2.Rjust x b t = text_mended (is_width b) range_error (right_justified (width b) x) (right_justified (width b) x) (right_right b x) (right_right b x)
text_filled op x b t = absurd t

number_filled : (op : Op2) (a : ℤ) (y : List ℕ) → TakesIntegerAndText op → IsText 255 (mended_of_two op (value.Int a) (value.Text y))
number_filled op2.Cat a y t = joined_right (signed_decimal a) y
number_filled op a y t = absurd t

-- of two operands, after an ignored error
pub mended_two_given : (op : Op2) (v w : Value) → IsRight v → TakesBoth op v w → IsGivenByTwo op v w (mended_of_two op v w)
mended_two_given op (value.Int a) (value.Int b) h t = integers_mended op a b (integer_near a h) t
mended_two_given op (value.Int a) (value.Bits len word) h t = absurd t
mended_two_given op (value.Int a) (value.Text y) h t = number_filled op a y t
mended_two_given op (value.Bits len word) (value.Int b) h t = absurd t
mended_two_given op (value.Bits m x) (value.Bits n y) h t = strings_mended op m x n y t.0
mended_two_given op (value.Bits len word) (value.Text y) h t = absurd t
mended_two_given op (value.Text x) (value.Int b) h t = text_filled op x b t
mended_two_given op (value.Text x) (value.Bits len word) h t = absurd t
mended_two_given op (value.Text x) (value.Text y) h t = texts_mended op x y h t
