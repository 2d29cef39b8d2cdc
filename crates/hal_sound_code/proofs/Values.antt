-- The sorts of what operations, stores and parts give, and the errors that they raise.
use Rattle.std.specs.Prelude.{ℕ, ◌≡◌, Bool, true, false, length, Option, Some, None, ℤ, pos, negsuc, ◌+ℤ◌, ◌-ℤ◌, ◌*ℤ◌, ◌^◌, neg_ℤ, unsigned_abs, int_div, Result, Ok, Err, IfOk, IfErr, if◌then◌else◌}
use Rattle.std.proofs.Common.{refl, subst, arith}
use Rattle.std.specs.Int.{int_pow, int_rem_euclid}
use Rattle.hal_values.specs.declared.environment.ErrNo.{ErrNo}
use Rattle.hal_values.specs.declared.value.Kind.{Kind}
use Rattle.hal_values.specs.declared.value.Kind.TheVariants as kind
use Rattle.hal_values.specs.declared.value.Value.{Value}
use Rattle.hal_values.specs.declared.value.Value.TheVariants as value
use Rattle.hal_operations.specs.declared.operation.Op1.{Op1}
use Rattle.hal_operations.specs.declared.operation.Op1.TheVariants as op1
use Rattle.hal_operations.specs.declared.operation.Op2.{Op2}
use Rattle.hal_operations.specs.declared.operation.Op2.TheVariants as op2
use Rattle.hal_operations.specs.declared.part.Part.{Part}
use Rattle.hal_operations.specs.Errors.{range_error, zero_divisor, no_place, no_integer, after_ignored}
use Rattle.hal_operations.specs.Integers.{double, single, integer, ranged, is_zero, is_within, is_shift, places, halved, power}
use Rattle.hal_operations.specs.Texts.{is_width, width, left_justified, right_justified, integer_of, read}
use Rattle.hal_operations.specs.Parts.{is_string_part, is_text_part, picked, mended_pick, patched, mended_patch, nearest_part, nearest_patched}
use Rattle.hal_operations.specs.Stores.{stored, mended_store}
use Rattle.hal_operations.specs.Values.{is_comparison, computed, value_of_one, value_of_two}
use Rattle.hal_operations.specs.Mended.{stand_in_of_integers, mended_of_one, mended_of_two}
use Rattle.hal_code.specs.Sorts.{Sort, I, B, T, sort_of, one_gives, integers_give, two_give, takes, takes_part}
use Rattle.hal_code.specs.Effects.{has_places}
use Rattle.hal_sound_code.specs.Lying.{sort_of_value}
use Rattle.hal_sound_code.specs.Typed.{IsError}

-- a value of the sort comes of it, or an error, and then another value of the sort stands in its place
pub record Gives (result : Result Value ErrNo) (mended : Value) (one : Sort) : Type 0 where
  pub gives : IfOk result (λ v. sort_of_value v ≡ one)
  pub errs : IfErr result IsError
  pub stands : sort_of_value mended ≡ one

-- it raises no error
sure : (v : Value) (one : Sort) → sort_of_value v ≡ one → Gives (Ok v) v one
sure v one is = record { gives = is; errs = tt; stands = is }

-- it raises one where a test fails
where_passes : (b : Bool) (v stand : Value) (e : ErrNo) (one : Sort) → IsError e → sort_of_value v ≡ one → sort_of_value stand ≡ one → Gives (if b then Ok v else Err e) (after_ignored (if b then Ok v else Err e) stand) one
where_passes true v stand e one wrong is also = record { gives = is; errs = tt; stands = is }
where_passes false v stand e one wrong is also = record { gives = tt; errs = wrong; stands = also }

integer_gives : (r : Result ℤ ErrNo) (stand : Value) → IfErr r IsError → sort_of_value stand ≡ I → Gives (integer r) (after_ignored (integer r) stand) I
integer_gives (Ok z) stand wrong also = record { gives = refl; errs = tt; stands = refl }
integer_gives (Err e) stand wrong also = record { gives = tt; errs = wrong; stands = also }

-- the errors of integers
abbrev Errs : Result ℤ ErrNo → Type 0
Errs r = IfErr r IsError

one_of : (b : Bool) (x y : Result ℤ ErrNo) → Errs x → Errs y → Errs (if b then x else y)
one_of true x y one other = one
one_of false x y one other = other

ranged_errs : (bits : ℕ) (z : ℤ) → Errs (ranged bits z)
ranged_errs bits z = one_of (is_within bits z) (Ok z) (Err range_error) tt (omega arith)

power_errs : (a b : ℤ) → Errs (power a b)
power_errs a (pos n) = ranged_errs double (int_pow a n)
power_errs a (negsuc n) = omega arith

computed_errs : (op : Op2) (a b : ℤ) → Errs (computed op a b)
computed_errs op2.Plus a b = ranged_errs double (a +ℤ b)
computed_errs op2.Minus a b = ranged_errs double (a -ℤ b)
computed_errs op2.Product a b = ranged_errs double (a *ℤ b)
computed_errs op2.Power a b = power_errs a b
computed_errs op2.Div a b = one_of (is_zero b) (Err zero_divisor) (ranged double (int_div a b)) (omega arith) (ranged_errs double (int_div a b))
computed_errs op2.Remainder a b = one_of (is_zero b) (Err zero_divisor) (ranged double (a -ℤ (int_div a b *ℤ b))) (omega arith) (ranged_errs double (a -ℤ (int_div a b *ℤ b)))
computed_errs op2.Mod a b = one_of (is_zero b) (Err zero_divisor) (ranged double (int_rem_euclid a b)) (omega arith) (ranged_errs double (int_rem_euclid a b))
computed_errs op2.Shl a b = one_of (is_shift b) (ranged double (a *ℤ pos (2 ^ places b))) (Err range_error) (ranged_errs double (a *ℤ pos (2 ^ places b))) (omega arith)
computed_errs op2.Shr a b = one_of (is_shift b) (Ok (halved a b)) (Err range_error) tt (omega arith)
computed_errs op a b = tt

read_gives : (o : Option ℤ) (stand : Value) → sort_of_value stand ≡ I → Gives (read o) (after_ignored (read o) stand) I
read_gives None stand also = record { gives = tt; errs = omega arith; stands = also }
read_gives (Some z) stand also = where_passes (is_within double z) (value.Int z) stand no_integer I (omega arith) refl also

-- the sort that is given is this one
as_one : (result : Result Value ErrNo) (mended : Value) (one two : Sort) → Some one ≡ Some two → Gives result mended one → Gives result mended two
as_one result mended one two e g = subst (λ x. Gives result mended x) (let same : one ≡ two = cc in same) g

-- an operation with one operand
pub one_sort : (op : Op1) (v : Value) (one : Sort) → one_gives op (sort_of_value v) ≡ Some one → Gives (value_of_one op v) (mended_of_one op v) one
one_sort op1.Minus (value.Int a) one e = as_one _ _ I one e (integer_gives (ranged double (neg_ℤ a)) _ (ranged_errs double (neg_ℤ a)) refl)
one_sort op1.Abs (value.Int a) one e = as_one _ _ I one e (integer_gives (ranged double (pos (unsigned_abs a))) _ (ranged_errs double (pos (unsigned_abs a))) refl)
one_sort op1.Signum (value.Int a) one e = as_one _ _ I one e (sure _ I refl)
one_sort op1.Odd (value.Int a) one e = as_one _ _ B one e (sure _ B refl)
one_sort op1.Character (value.Int a) one e = as_one _ _ T one e (sure _ T refl)
one_sort op1.Bit (value.Int a) one e = as_one _ _ B one e (sure _ B refl)
one_sort op1.Not (value.Bits len word) one e = as_one _ _ B one e (sure _ B refl)
one_sort op1.Character (value.Bits len word) one e = as_one _ _ T one e (sure _ T refl)
one_sort op1.Integer (value.Bits len word) one e = as_one _ _ I one e (sure _ I refl)
one_sort op1.Length (value.Text text) one e = as_one _ _ I one e (sure _ I refl)
one_sort op1.Trim (value.Text text) one e = as_one _ _ T one e (sure _ T refl)
one_sort op1.Character (value.Text text) one e = as_one _ _ T one e (sure _ T refl)
one_sort op1.Integer (value.Text text) one e = as_one _ _ I one e (read_gives (integer_of text) _ refl)
one_sort op (value.Int a) one e = absurd (cc)
one_sort op (value.Bits len word) one e = absurd (cc)
one_sort op (value.Text text) one e = absurd (cc)

stand_in_sort : (op : Op2) (a b : ℤ) → sort_of_value (stand_in_of_integers op a b) ≡ I
stand_in_sort op2.Plus a b = refl
stand_in_sort op2.Minus a b = refl
stand_in_sort op2.Product a b = refl
stand_in_sort op2.Power a b = refl
stand_in_sort op2.Div a b = refl
stand_in_sort op2.Remainder a b = refl
stand_in_sort op2.Mod a b = refl
stand_in_sort op2.Shl a b = refl
stand_in_sort op2.Shr a b = refl
stand_in_sort op a b = refl

given_of : (op : Op2) (one : Sort) → integers_give op ≡ Some one → Some (if is_comparison op then B else I) ≡ Some one
given_of op2.And one e = absurd (cc)
given_of op2.Or one e = absurd (cc)
given_of op2.Xor one e = absurd (cc)
given_of op2.Cat one e = absurd (cc)
given_of op2.Index one e = absurd (cc)
given_of op2.Ljust one e = absurd (cc)
given_of op2.Rjust one e = absurd (cc)
given_of op one e = e

integers_sort : (c : Bool) (bit : Value) (r : Result ℤ ErrNo) (stand : Value) → sort_of_value bit ≡ B → IfErr r IsError → sort_of_value stand ≡ I
    → Gives (if c then Ok bit else integer r) (after_ignored (if c then Ok bit else integer r) stand) (if c then B else I)
integers_sort true bit r stand is wrong also = sure bit B is
integers_sort false bit r stand is wrong also = integer_gives r stand wrong also

-- an operation with two operands
pub two_sort : (op : Op2) (v w : Value) (one : Sort) → two_give op (sort_of_value v) (sort_of_value w) ≡ Some one → Gives (value_of_two op v w) (mended_of_two op v w) one
two_sort op (value.Int a) (value.Int b) one e =
    as_one _ _ (if is_comparison op then B else I) one (given_of op one e) (integers_sort (is_comparison op) _ (computed op a b) (stand_in_of_integers op a b) refl (computed_errs op a b) (stand_in_sort op a b))
two_sort op2.And (value.Bits m x) (value.Bits n y) one e = as_one _ _ B one e (sure _ B refl)
two_sort op2.Or (value.Bits m x) (value.Bits n y) one e = as_one _ _ B one e (sure _ B refl)
two_sort op2.Xor (value.Bits m x) (value.Bits n y) one e = as_one _ _ B one e (sure _ B refl)
two_sort op2.Cat (value.Bits m x) (value.Bits n y) one e = as_one _ _ B one e (sure _ B refl)
two_sort op2.Equal (value.Bits m x) (value.Bits n y) one e = as_one _ _ B one e (sure _ B refl)
two_sort op2.NotEqual (value.Bits m x) (value.Bits n y) one e = as_one _ _ B one e (sure _ B refl)
two_sort op (value.Bits m x) (value.Bits n y) one e = absurd (cc)
two_sort op2.Cat (value.Text x) (value.Text y) one e = as_one _ _ T one e (sure _ T refl)
two_sort op2.Index (value.Text x) (value.Text y) one e = as_one _ _ I one e (sure _ I refl)
two_sort op2.Equal (value.Text x) (value.Text y) one e = as_one _ _ B one e (sure _ B refl)
two_sort op2.NotEqual (value.Text x) (value.Text y) one e = as_one _ _ B one e (sure _ B refl)
two_sort op2.Less (value.Text x) (value.Text y) one e = as_one _ _ B one e (sure _ B refl)
two_sort op2.Greater (value.Text x) (value.Text y) one e = as_one _ _ B one e (sure _ B refl)
two_sort op2.LessOrEqual (value.Text x) (value.Text y) one e = as_one _ _ B one e (sure _ B refl)
two_sort op2.GreaterOrEqual (value.Text x) (value.Text y) one e = as_one _ _ B one e (sure _ B refl)
two_sort op (value.Text x) (value.Text y) one e = absurd (cc)
two_sort op2.Cat (value.Text x) (value.Int b) one e = as_one _ _ T one e (sure _ T refl)
two_sort op2.Ljust (value.Text x) (value.Int b) one e = as_one _ _ T one e (where_passes (is_width b) (value.Text (left_justified (width b) x)) _ range_error T (omega arith) refl refl)
two_sort op2.Rjust (value.Text x) (value.Int b) one e = as_one _ _ T one e (where_passes (is_width b) (value.Text (right_justified (width b) x)) _ range_error T (omega arith) refl refl)
two_sort op (value.Text x) (value.Int b) one e = absurd (cc)
two_sort op2.Cat (value.Int a) (value.Text y) one e = as_one _ _ T one e (sure _ T refl)
two_sort op (value.Int a) (value.Text y) one e = absurd (cc)
two_sort op (value.Int a) (value.Bits n y) one e = absurd (cc)
two_sort op (value.Bits m x) (value.Int b) one e = absurd (cc)
two_sort op (value.Bits m x) (value.Text y) one e = absurd (cc)
two_sort op (value.Text x) (value.Bits n y) one e = absurd (cc)

-- a store
pub stored_sort : (k : Kind) (v : Value) → takes k (sort_of_value v) ≡ true → Gives (stored k v) (mended_store k v) (sort_of k)
stored_sort kind.Single (value.Int a) e = integer_gives (ranged single a) _ (ranged_errs single a) refl
stored_sort kind.Double (value.Int a) e = sure _ I refl
stored_sort (kind.Bits n) (value.Bits len word) e = sure _ B refl
stored_sort (kind.Text n) (value.Int a) e = sure _ T refl
stored_sort (kind.Text n) (value.Text text) e = sure _ T refl
stored_sort kind.Single (value.Bits len word) e = absurd (cc)
stored_sort kind.Single (value.Text text) e = absurd (cc)
stored_sort kind.Double (value.Bits len word) e = absurd (cc)
stored_sort kind.Double (value.Text text) e = absurd (cc)
stored_sort (kind.Bits n) (value.Int a) e = absurd (cc)
stored_sort (kind.Bits n) (value.Text text) e = absurd (cc)
stored_sort (kind.Text n) (value.Bits len word) e = absurd (cc)

-- a part
pub picked_sort : (v : Value) (chosen : Part) → has_places (sort_of_value v) ≡ true → Gives (picked v chosen) (mended_pick v chosen) (sort_of_value v)
picked_sort (value.Int a) chosen e = absurd (cc)
picked_sort (value.Bits len word) chosen e = where_passes (is_string_part len chosen) _ (nearest_part (value.Bits len word) chosen) no_place B (omega arith) refl refl
picked_sort (value.Text text) chosen e = where_passes (is_text_part (length text) chosen) _ (nearest_part (value.Text text) chosen) no_place T (omega arith) refl refl

-- a value whose part is replaced
pub patched_sort : (k : Kind) (v new : Value) (chosen : Part) → takes_part k (sort_of_value v) (sort_of_value new) ≡ true → Gives (patched v chosen new) (mended_patch v chosen new) (sort_of k)
patched_sort (kind.Bits n) (value.Bits len word) new chosen e = where_passes (is_string_part len chosen) _ (nearest_patched (value.Bits len word) chosen new) no_place B (omega arith) refl refl
patched_sort (kind.Text n) (value.Text text) new chosen e = where_passes (is_text_part (length text) chosen) _ (nearest_patched (value.Text text) chosen new) no_place T (omega arith) refl refl
patched_sort (kind.Bits n) (value.Int a) new chosen e = absurd (cc)
patched_sort (kind.Bits n) (value.Text text) new chosen e = absurd (cc)
patched_sort (kind.Text n) (value.Int a) new chosen e = absurd (cc)
patched_sort (kind.Text n) (value.Bits len word) new chosen e = absurd (cc)
patched_sort kind.Single v new chosen e = absurd (cc)
patched_sort kind.Double v new chosen e = absurd (cc)
