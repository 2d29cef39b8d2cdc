-- The groups and the numbers of errors are bytes.
use Rattle.std.specs.Prelude.{ℕ, ◌≤◌, ◌≡◌, ◌⊎◌, Bool, true, false, length, List, Option, Some, None, ℤ, pos, negsuc, ◌+ℤ◌, ◌-ℤ◌, ◌*ℤ◌, ◌^◌, neg_ℤ, unsigned_abs, int_div, Result, Ok, Err, IfErr, if◌then◌else◌}
use Rattle.std.proofs.Common.{ap, inl, inr, arith}
use Rattle.std.specs.Int.{int_pow, int_rem_euclid}
use Rattle.hal_values.specs.declared.environment.ErrNo.{ErrNo}
use Rattle.hal_values.specs.declared.request.Request.{Request}
use Rattle.hal_values.specs.declared.request.Request.TheVariants as request
use Rattle.hal_values.specs.declared.tables.Tables.{Tables}
use Rattle.hal_values.specs.declared.value.Kind.{Kind}
use Rattle.hal_values.specs.declared.value.Kind.TheVariants as kind
use Rattle.hal_values.specs.declared.value.Value.{Value}
use Rattle.hal_values.specs.declared.value.Value.TheVariants as value
use Rattle.hal_values.specs.Answers.{Ends, FitsAlive, error}
use Rattle.hal_values.specs.Answers as answered
use Rattle.hal_operations.specs.declared.operation.Op1.{Op1}
use Rattle.hal_operations.specs.declared.operation.Op1.TheVariants as op1
use Rattle.hal_operations.specs.declared.operation.Op2.{Op2}
use Rattle.hal_operations.specs.declared.operation.Op2.TheVariants as op2
use Rattle.hal_operations.specs.declared.part.Part.{Part}
use Rattle.hal_operations.specs.Errors.{range_error, zero_divisor, no_place, no_integer}
use Rattle.hal_operations.specs.Integers.{double, single, integer, ranged, is_zero, is_within, is_shift, places, halved, power}
use Rattle.hal_operations.specs.Parts.{is_string_part, is_text_part, picked, patched}
use Rattle.hal_operations.specs.Stores.{stored}
use Rattle.hal_operations.specs.Texts.{is_width, integer_of, read}
use Rattle.hal_operations.specs.Values.{is_comparison, computed, of_strings, of_texts, of_integer_and_text, value_of_one, value_of_two}
use Rattle.hal_right_values.specs.Ranges.{IsOfBytes}

pub small : (g n : ℕ) → g ≤ 255 → n ≤ 255 → IsOfBytes (error g n)
small g n low few = (low, few)

range_small : IsOfBytes range_error
range_small = small 1 1 (omega arith) (omega arith)

divisor_small : IsOfBytes zero_divisor
divisor_small = small 1 2 (omega arith) (omega arith)

place_small : IsOfBytes no_place
place_small = small 1 4 (omega arith) (omega arith)

-- the errors of integers
abbrev Errs : {T : Type 0} → Result T ErrNo → Type 0
Errs r = IfErr r IsOfBytes

either_errs : {T : Type 0} (b : Bool) (x y : Result T ErrNo) → Errs x → Errs y → Errs (if b then x else y)
either_errs true x y one other = one
either_errs false x y one other = other

integer_errs : (r : Result ℤ ErrNo) → Errs r → Errs (integer r)
integer_errs (Ok z) errs = tt
integer_errs (Err e) errs = errs

ranged_errs : (bits : ℕ) (z : ℤ) → Errs (ranged bits z)
ranged_errs bits z = either_errs (is_within bits z) (Ok z) (Err range_error) tt range_small

power_errs : (a b : ℤ) → Errs (power a b)
power_errs a (pos n) = ranged_errs double (int_pow a n)
power_errs a (negsuc n) = range_small

computed_errs : (op : Op2) (a b : ℤ) → Errs (computed op a b)
computed_errs op2.Plus a b = ranged_errs double (a +ℤ b)
computed_errs op2.Minus a b = ranged_errs double (a -ℤ b)
computed_errs op2.Product a b = ranged_errs double (a *ℤ b)
computed_errs op2.Power a b = power_errs a b
computed_errs op2.Div a b = either_errs (is_zero b) (Err zero_divisor) (ranged double (int_div a b)) divisor_small (ranged_errs double (int_div a b))
computed_errs op2.Remainder a b = either_errs (is_zero b) (Err zero_divisor) (ranged double (a -ℤ (int_div a b *ℤ b))) divisor_small (ranged_errs double (a -ℤ (int_div a b *ℤ b)))
computed_errs op2.Mod a b = either_errs (is_zero b) (Err zero_divisor) (ranged double (int_rem_euclid a b)) divisor_small (ranged_errs double (int_rem_euclid a b))
computed_errs op2.Shl a b = either_errs (is_shift b) (ranged double (a *ℤ pos (2 ^ places b))) (Err range_error) (ranged_errs double (a *ℤ pos (2 ^ places b))) range_small
computed_errs op2.Shr a b = either_errs (is_shift b) (Ok (halved a b)) (Err range_error) tt range_small
computed_errs op a b = tt

read_errs : (o : Option ℤ) → Errs (read o)
read_errs None = small 1 5 (omega arith) (omega arith)
read_errs (Some z) = either_errs (is_within double z) (Ok (value.Int z)) (Err no_integer) tt (small 1 5 (omega arith) (omega arith))

-- those of operations
pub one_errs : (op : Op1) (v : Value) → IfErr (value_of_one op v) IsOfBytes
one_errs op1.Minus (value.Int a) = integer_errs (ranged double (neg_ℤ a)) (ranged_errs double (neg_ℤ a))
one_errs op1.Abs (value.Int a) = integer_errs (ranged double (pos (unsigned_abs a))) (ranged_errs double (pos (unsigned_abs a)))
one_errs op1.Signum (value.Int a) = tt
one_errs op1.Odd (value.Int a) = tt
one_errs op1.Character (value.Int a) = tt
one_errs op1.Bit (value.Int a) = tt
one_errs op (value.Int a) = tt
one_errs op1.Not (value.Bits len word) = tt
one_errs op1.Character (value.Bits len word) = tt
one_errs op1.Integer (value.Bits len word) = tt
one_errs op (value.Bits len word) = tt
one_errs op1.Length (value.Text text) = tt
one_errs op1.Trim (value.Text text) = tt
one_errs op1.Character (value.Text text) = tt
one_errs op1.Integer (value.Text text) = read_errs (integer_of text)
one_errs op (value.Text text) = tt

strings_errs : (op : Op2) (xs ys : List Bool) → Errs (of_strings op xs ys)
strings_errs op2.And xs ys = tt
strings_errs op2.Or xs ys = tt
strings_errs op2.Xor xs ys = tt
strings_errs op2.Cat xs ys = tt
strings_errs op2.Equal xs ys = tt
strings_errs op2.NotEqual xs ys = tt
strings_errs op xs ys = tt

texts_errs : (op : Op2) (x y : List ℕ) → Errs (of_texts op x y)
texts_errs op2.Cat x y = tt
texts_errs op2.Index x y = tt
texts_errs op x y = tt

integer_and_text_errs : (op : Op2) (a : ℤ) (y : List ℕ) → Errs (of_integer_and_text op a y)
integer_and_text_errs op2.Cat a y = tt
integer_and_text_errs op a y = tt

pub two_errs : (op : Op2) (v w : Value) → IfErr (value_of_two op v w) IsOfBytes
two_errs op (value.Int a) (value.Int b) = either_errs (is_comparison op) (Ok _) (integer (computed op a b)) tt (integer_errs (computed op a b) (computed_errs op a b))
two_errs op (value.Int a) (value.Bits len word) = tt
two_errs op (value.Int a) (value.Text y) = integer_and_text_errs op a y
two_errs op (value.Bits len word) (value.Int b) = tt
two_errs op (value.Bits m x) (value.Bits n y) = strings_errs op _ _
two_errs op (value.Bits len word) (value.Text y) = tt
two_errs op2.Cat (value.Text x) (value.Int b) = tt
two_errs op2.Ljust (value.Text x) (value.Int b) = either_errs (is_width b) (Ok _) (Err range_error) tt range_small
two_errs op2.Rjust (value.Text x) (value.Int b) = either_errs (is_width b) (Ok _) (Err range_error) tt range_small
two_errs op (value.Text x) (value.Int b) = tt
two_errs op (value.Text x) (value.Bits len word) = tt
two_errs op (value.Text x) (value.Text y) = texts_errs op x y

-- of stores
pub stored_errs : (k : Kind) (v : Value) → IfErr (stored k v) IsOfBytes
stored_errs kind.Single (value.Int a) = integer_errs (ranged single a) (ranged_errs single a)
stored_errs kind.Double (value.Int a) = tt
stored_errs (kind.Bits n) (value.Int a) = tt
stored_errs (kind.Text n) (value.Int a) = tt
stored_errs kind.Single (value.Bits len word) = tt
stored_errs kind.Double (value.Bits len word) = tt
stored_errs (kind.Bits n) (value.Bits len word) = tt
stored_errs (kind.Text n) (value.Bits len word) = tt
stored_errs kind.Single (value.Text text) = tt
stored_errs kind.Double (value.Text text) = tt
stored_errs (kind.Bits n) (value.Text text) = tt
stored_errs (kind.Text n) (value.Text text) = tt

-- of parts
pub picked_errs : (v : Value) (p : Part) → IfErr (picked v p) IsOfBytes
picked_errs (value.Int a) p = tt
picked_errs (value.Bits len word) p = either_errs (is_string_part len p) (Ok _) (Err no_place) tt place_small
picked_errs (value.Text text) p = either_errs (is_text_part (length text) p) (Ok _) (Err no_place) tt place_small

pub patched_errs : (old new : Value) (p : Part) → IfErr (patched old p new) IsOfBytes
patched_errs (value.Int a) new p = tt
patched_errs (value.Bits len word) new p = either_errs (is_string_part len p) (Ok _) (Err no_place) tt place_small
patched_errs (value.Text text) new p = either_errs (is_text_part (length text) p) (Ok _) (Err no_place) tt place_small

-- and those that are answered
same_error : (e : ErrNo) (g n : ℕ) → answered.Wrong e ≡ answered.Wrong (error g n) → g ≤ 255 → n ≤ 255 → IsOfBytes e
same_error e g n same low few = (omega (arith, low, group), omega (arith, few, number))
  where
    is : e ≡ error g n
    is = cc

    group : e.group ≡ g
    group = ap (λ (x : ErrNo). x.group) is

    number : e.number ≡ n
    number = ap (λ (x : ErrNo). x.number) is

done_or : (e : ErrNo) (g n : ℕ) → g ≤ 255 → n ≤ 255 → (answered.Wrong e ≡ answered.Done) ⊎ (answered.Wrong e ≡ answered.Wrong (error g n)) → IsOfBytes e
done_or e g n low few (inl is) = absurd (cc)
done_or e g n low few (inr is) = same_error e g n is low few

pub wrong_is : (tables : Tables) (ends : Ends) (r : Request) (e : ErrNo) → FitsAlive tables ends r (answered.Wrong e) → IsOfBytes e
wrong_is tables ends (request.Schedule plan) e fits = done_or e 2 1 (omega arith) (omega arith) fits
wrong_is tables ends (request.Cancel process) e fits = done_or e 2 2 (omega arith) (omega arith) fits
wrong_is tables ends (request.Terminate process) e (inl is) = absurd (cc)
wrong_is tables ends (request.Terminate process) e (inr (inl is)) = same_error e 2 2 is (omega arith) (omega arith)
wrong_is tables ends (request.Terminate process) e (inr (inr is)) = same_error e 2 3 is (omega arith) (omega arith)
wrong_is tables ends (request.Priority process n) e fits = done_or e 2 2 (omega arith) (omega arith) fits
wrong_is tables ends (request.Input channel k) e (inl is) = absurd (let no : answered.Wrong e ≡ answered.Told is.0 = is.1 in cc)
wrong_is tables ends (request.Input channel k) e (inr (inl is)) = same_error e 3 1 is (omega arith) (omega arith)
wrong_is tables ends (request.Input channel k) e (inr (inr is)) = same_error e 3 2 is (omega arith) (omega arith)
wrong_is tables ends (request.Read spot) e fits = absurd (let no : answered.Wrong e ≡ answered.Told fits.0 = fits.1 in cc)
wrong_is tables ends (request.Update groups) e fits = absurd (let no : answered.Wrong e ≡ answered.Block fits.0 fits.1 = fits.2 in cc)
wrong_is tables ends request.Now e fits = absurd (let no : answered.Wrong e ≡ answered.Told fits.0 = fits.1 in cc)
wrong_is tables ends (request.Stop other) e fits = absurd (fits)
wrong_is tables ends (request.Look cell) e fits = absurd (fits)
wrong_is tables ends (request.Close turns) e fits = absurd (fits)
wrong_is tables ends other e fits = absurd (cc)
