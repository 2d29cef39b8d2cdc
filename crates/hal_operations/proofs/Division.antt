-- What the quotient leaves.
use Rattle.std.proofs.Common.{◌≡◌, ◌∙◌, ◌⊎◌, refl, ap, inl, inr, ⊎_elim, ℕ, zero, suc, ◌+◌, ◌*◌, ◌%◌, ◌^◌, ◌<◌, ℤ, pos, negsuc, ◌+ℤ◌, ◌-ℤ◌, ◌*ℤ◌, neg_ℤ, unsigned_abs, int_div, int_rem, FitsSigned, w32, w64, to_z, of_z, Bool, true, false, Result, Ok, Err, arith, if◌then◌else◌}
use Rattle.std.proofs.Math.Nat.{suc-mod, mod-lt, mod-eq_of_lt, mod_self, mul-div_cancel}
use Rattle.std.proofs.lemmas.Bool.{cases_lt}
use Rattle.std.proofs.lemmas.Int.{quot-rem, rem_is, ints}
use Rattle.std.proofs.lemmas.Nat.{pow_pos, div-mul-add}
use Rattle.std.specs.Int.{int_rem_euclid, int_div_euclid}
use Rattle.hal_values.specs.declared.environment.ErrNo.{ErrNo}
use Rattle.hal_values.specs.declared.value.Value.{Value}
use Rattle.hal_values.specs.declared.value.Value.TheVariants as value
use Rattle.hal_operations.specs.Integers.{double, integer, ranged, is_within, quotient, remainder, modulus, is_zero, is_shift, places, left_shift, right_shift, halved}
use Rattle.hal_operations.specs.Errors.{range_error, zero_divisor}

-- the remainder is what the divisor, taken as often as the quotient says, leaves
pub int_rem-is : (a b : ℤ) → int_rem a b ≡ a -ℤ (int_div a b *ℤ b)
int_rem-is a b = let whole = quot-rem a b in omega (arith, ints)

wide : (a : ℤ) → FitsSigned w32 a → FitsSigned w64 a
wide a fits = grind (arith, ints)

not_zero : (b : ℤ) → FitsSigned w32 b → (of_z w32 b ≡ 0 → ⊥) → is_zero b ≡ false
not_zero b fits some = grind (arith, ints)

-- the same of numbers that are computed in 64 bits
pub remains : (a b x y : ℤ) → FitsSigned w32 a → FitsSigned w32 b → x ≡ a → y ≡ b → to_z w64 (of_z w64 (int_rem (to_z w64 (of_z w64 x)) (to_z w64 (of_z w64 y)))) ≡ a -ℤ (int_div a b *ℤ b)
remains a b x y fa fb ex ey = rw (ex, ey) (rem_is w64 a b (wide a fa) (wide b fb) ∙ int_rem-is a b)

-- the definition's remainder, where the divisor isn't 0
pub remainder-some : (a b : ℤ) → FitsSigned w32 b → (of_z w32 b ≡ 0 → ⊥) → ranged double (a -ℤ (int_div a b *ℤ b)) ≡ remainder a b
remainder-some a b fits some = rw (not_zero b fits some) refl

abbrev number_in : Result ℤ ErrNo → ℤ
number_in (Ok number) = number
number_in (Err e) = pos 0

abbrev is_number : Result ℤ ErrNo → ℕ
is_number (Ok number) = 1
is_number (Err e) = 0

abbrev integer_of : Value → ℤ
integer_of (value.Int a) = a
integer_of (value.Bits len word) = pos 0
integer_of (value.Text text) = pos 0

abbrev integer_in : Result Value ErrNo → ℤ
integer_in (Ok v) = integer_of v
integer_in (Err e) = pos 0

abbrev is_value : Result Value ErrNo → ℕ
is_value (Ok v) = 1
is_value (Err e) = 0

no_error : {P : Type 0} (e : ErrNo) (n : ℤ) → Err e ≡ Ok n → P
no_error e n same = let differs : 0 ≡ 1 = ap is_number same in absurd (omega (arith, differs))

-- an integer that is given as a value
pub integer-gives : (result : Result ℤ ErrNo) (n : ℤ) → integer result ≡ Ok (value.Int n) → result ≡ Ok n
integer-gives (Ok m) n same = ap Ok (ap integer_in same)
integer-gives (Err e) n same = let differs : 0 ≡ 1 = ap is_value same in absurd (omega (arith, differs))

-- a result in range is the exact one
pub ranged-gives : (bits : ℕ) (z q : ℤ) → ranged bits z ≡ Ok q → z ≡ q
ranged-gives bits z q = elim (is_within bits z) as (λ t. (if t then Ok z else Err range_error) ≡ Ok q → z ≡ q) [
  | true ↦ λ e. ap number_in e
  | false ↦ λ e. no_error range_error q e
]

-- what stands behind a test for an error, where there is an integer
pub behind : (test : Bool) (e : ErrNo) (result : Result ℤ ErrNo) (n : ℤ) → (if test then Err e else result) ≡ Ok n → (test ≡ false) × (result ≡ Ok n)
behind true e result n same = no_error e n same
behind false e result n same = (refl, same)

-- the quotient that is given
pub quotient-gives : (a b q : ℤ) → quotient a b ≡ Ok q → int_div a b ≡ q
quotient-gives a b q e = ranged-gives double (int_div a b) q (behind (is_zero b) zero_divisor (ranged double (int_div a b)) q e).1

-- the remainder that is given
pub remainder-gives : (a b r : ℤ) → remainder a b ≡ Ok r → int_rem a b ≡ r
remainder-gives a b r e =
    int_rem-is a b ∙ ranged-gives double (a -ℤ (int_div a b *ℤ b)) r (behind (is_zero b) zero_divisor (ranged double (a -ℤ (int_div a b *ℤ b))) r e).1

-- the modulus that is given
pub modulus-gives : (a b m : ℤ) → modulus a b ≡ Ok m → (is_zero b ≡ false) × (int_rem_euclid a b ≡ m)
modulus-gives a b m e =
    let both = behind (is_zero b) zero_divisor (ranged double (int_rem_euclid a b)) m e in
    (both.0, ranged-gives double (int_rem_euclid a b) m both.1)

-- quotient and remainder make the dividend
pub dividend : (a b q r : ℤ) → integer (quotient a b) ≡ Ok (value.Int q) → integer (remainder a b) ≡ Ok (value.Int r) → (q *ℤ b) +ℤ r ≡ a
dividend a b q r p e = rw (← quotient-gives a b q (integer-gives (quotient a b) q p), ← remainder-gives a b r (integer-gives (remainder a b) r e)) (quot-rem a b)

mod_next : (n d : ℕ) → 0 < d → ((n % d + 1 ≡ d) × (suc n % d ≡ 0)) ⊎ (suc n % d ≡ n % d + 1)
mod_next n d some =
    let below = mod-lt n some in
    ⊎_elim
    (λ less. let next : suc n % d ≡ suc (n % d) = suc-mod n d ∙ mod-eq_of_lt less in inr (omega (arith, next)))
    (λ not_less. let last : suc (n % d) ≡ d = omega (arith, below, not_less) in inl (omega (arith, last), suc-mod n d ∙ (ap (λ k. k % d) last ∙ mod_self d)))
    (cases_lt (suc (n % d)) d)

below_zero : (b : ℤ) → is_zero b ≡ false → 0 < unsigned_abs b
below_zero b some = grind (arith, ints)

-- the two residues are equal, or differ by the divisor's absolute value
pub residues : (a b : ℤ) → 0 < unsigned_abs b → (int_rem_euclid a b ≡ int_rem a b) ⊎ (int_rem_euclid a b ≡ int_rem a b +ℤ pos (unsigned_abs b))
residues (pos n) b some = inl refl
residues (negsuc n) b some =
    let below = mod-lt n some in
    ⊎_elim
    (λ last. let none = last.1 in let full = last.0 in inl (rw none (ap pos (omega (arith, full)))))
    (λ next. inr (rw next (omega (arith, ints, below))))
    (mod_next n (unsigned_abs b) some)

-- MOD is the remainder, or more by the divisor's absolute value
pub congruent : (a b r m : ℤ) → integer (remainder a b) ≡ Ok (value.Int r) → integer (modulus a b) ≡ Ok (value.Int m) → (m ≡ r) ⊎ (m ≡ r +ℤ pos (unsigned_abs b))
congruent a b r m p e =
    let reduced = modulus-gives a b m (integer-gives (modulus a b) m e) in
    rw (← remainder-gives a b r (integer-gives (remainder a b) r p), ← reduced.1) (residues a b (below_zero b reduced.0))

-- a multiple of a positive number by it
int_div_euclid-mul : (a : ℤ) (p : ℕ) → 0 < p → int_div_euclid (a *ℤ pos p) (pos p) ≡ a
int_div_euclid-mul (pos m) p some = ap pos (mul-div_cancel m some)
int_div_euclid-mul (negsuc m) zero some = absurd (omega (arith, some))
int_div_euclid-mul (negsuc m) (suc p) some =
    let product : suc m * suc p ≡ suc (m * suc p + p) = omega arith in
    ap (λ k. int_div_euclid (neg_ℤ (pos k)) (pos (suc p))) product ∙ ap negsuc (div-mul-add m (suc p) p (omega arith))

unshifted : (a n s : ℤ) → left_shift a n ≡ Ok s → right_shift s n ≡ Ok a
unshifted a n s = elim (is_shift n) as (λ t. (if t then ranged double (a *ℤ pos (2 ^ places n)) else Err range_error) ≡ Ok s → (if t then Ok (halved s n) else Err range_error) ≡ Ok a) [
  | true ↦ λ e. rw (← ranged-gives double (a *ℤ pos (2 ^ places n)) s e) (ap Ok (int_div_euclid-mul a (2 ^ places n) (pow_pos (places n))))
  | false ↦ λ e. no_error range_error s e
]

-- a shift to the right undoes a shift to the left that lost nothing
pub shifts_back : (a n s : ℤ) → integer (left_shift a n) ≡ Ok (value.Int s) → integer (right_shift s n) ≡ Ok (value.Int a)
shifts_back a n s e = ap integer (unshifted a n s (integer-gives (left_shift a n) s e))
