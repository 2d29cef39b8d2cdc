-- The number of a bit literal, which is held up to a limit.
use Rattle.std.proofs.Common.{◌≡◌, ℕ, zero, suc, ◌+◌, ◌*◌, ◌^◌, ◌<◌, ◌≤◌, ◌==◌, inl, inr, min, true, false, nat_lt, nat_le, List, [], ◌∷◌, length, map, get_or, take, fold, Some, None, refl, sym, ap, ◌∙◌, arith}
use Rattle.std.specs.List.{list_all}
use Rattle.std.specs.Int.Digits.{number_from_digits_after, AllBelowBase}
use Rattle.std.proofs.Math.Nat.{pow-le-pow_right, pow-zero, pow-suc, mul-le-mul_right}
use Rattle.std.proofs.lemmas.Nat.{pow-add}
use Rattle.std.proofs.lemmas.Bool.{cases_Bool, cases_lt, lt-ltb, le-ltb, false≢true}
use Rattle.std.proofs.lemmas.Bool.Decides.{nat_tests}
use Rattle.std.proofs.lemmas.Int.Digits.{number_after_lt}
use Rattle.std.proofs.lemmas.List.{length-map, get_or-map, map_more}
use Rattle.std.proofs.lemmas.List.Folds.{list_all_at, list_all-append}
use Rattle.hal_words.specs.Literals.{Base, Digits, Decimal, digit_value, radix, within, bits_between}
use Rattle.hal_words.specs.Numbers.{written}
use Rattle.hal_pieces.proofs.Values.{written_one_more}
use Rattle.hal_pieces.specs.Bases.{capped_number, within_capped}

-- a limit that is reached stays reached
pub capped_more : (front limit base digit : ℕ) → 1 ≤ base → min (min front limit * base + digit) limit ≡ min (front * base + digit) limit
capped_more front limit base digit some = elim (cases_lt front limit) [
  | inl below ↦ let e : min front limit ≡ front = omega arith in rw e refl
  | inr above ↦
      let e : min front limit ≡ limit = omega arith in
      let most : limit * base ≤ front * base = mul-le-mul_right base above in
      let least : 1 * limit ≤ base * limit = mul-le-mul_right limit some in
      rw e (grind (arith, most, least))
]

-- a byte that is no digit
pub no_number : (base : ℕ) (bytes : List ℕ) (i : ℕ) → i < length bytes → base ≤ digit_value (get_or bytes i 0) → capped_number base (map digit_value bytes) ≡ None
no_number base bytes i below large =
    let here : get_or (map digit_value bytes) i 0 ≡ digit_value (get_or bytes i 0) = get_or-map digit_value bytes i 0 0 below in
    let fails : list_all (λ d. nat_lt d base) (map digit_value bytes) ≡ false = list_all_at (λ d. nat_lt d base) (map digit_value bytes) i 0 (omega (arith, below, length-map bytes digit_value)) (rw here (le-ltb _ base large)) in
    rw fails refl

-- a byte that is a digit
pub all_more : (base : ℕ) (bytes : List ℕ) (i : ℕ) → i < length bytes → list_all (λ d. nat_lt d base) (map digit_value (take i bytes)) ≡ true → digit_value (get_or bytes i 0) < base → list_all (λ d. nat_lt d base) (map digit_value (take (i + 1) bytes)) ≡ true
all_more base bytes i below so_far small =
    rw (map_more digit_value bytes i 0 below, list_all-append (λ d. nat_lt d base) (map digit_value (take i bytes)) (digit_value (get_or bytes i 0) ∷ []), so_far, lt-ltb _ base small) refl

pub capped_step : (base : ℕ) (bytes : List ℕ) (i number : ℕ) → i < length bytes → 1 ≤ base → number ≡ min (written base (map digit_value (take i bytes))) 4294967296 → min (number * base + digit_value (get_or bytes i 0)) 4294967296 ≡ min (written base (map digit_value (take (i + 1) bytes))) 4294967296
capped_step base bytes i number below some so_far =
    rw (so_far, written_one_more base digit_value bytes i below) (capped_more (written base (map digit_value (take i bytes))) 4294967296 base (digit_value (get_or bytes i 0)) some)

-- std's number of digits is this one
written_is : (base front : ℕ) (digits : List ℕ) → fold (λ front digit. front * base + digit) front digits ≡ number_from_digits_after base front digits
written_is base front [] = refl
written_is base front (d ∷ digits) = written_is base (front * base + d) digits

-- digits below the base, as a test and as a fact
below_base : (base : ℕ) (digits : List ℕ) → list_all (λ d. nat_lt d base) digits ≡ true → AllBelowBase base digits
below_base base [] h = tt
below_base base (d ∷ digits) h = elim (cases_lt d base) [
  | inl below ↦ let rest : list_all (λ d. nat_lt d base) digits ≡ true = rw (lt-ltb d base below) at h in (below, below_base base digits rest)
  | inr above ↦ let no : false ≡ true = rw (le-ltb d base above) at h in absurd (false≢true no)
]

power_of_power : (bits count : ℕ) → (2 ^ bits) ^ count ≡ 2 ^ (bits * count)
power_of_power bits zero = let e : bits * 0 ≡ 0 = omega arith in rw (pow-zero, e) refl
power_of_power bits (suc count) =
    let e : bits * suc count ≡ bits * count + bits = grind arith in
    pow-suc (2 ^ bits) count ∙ ap (λ n. n * 2 ^ bits) (power_of_power bits count) ∙ sym (ap (λ n. 2 ^ n) e ∙ pow-add 2 (bits * count) bits)

-- digits of at most 32 bits write a number below the limit
number_fits : (bits : ℕ) (digits : List ℕ) → list_all (λ d. nat_lt d (2 ^ bits)) digits ≡ true → bits * length digits ≤ 32 → written (2 ^ bits) digits < 4294967296
number_fits bits digits all fits =
    let small : number_from_digits_after (2 ^ bits) 0 digits < (0 + 1) * (2 ^ bits) ^ length digits = number_after_lt (2 ^ bits) 0 digits (below_base (2 ^ bits) digits all) in
    let most : 2 ^ (bits * length digits) ≤ 2 ^ 32 = pow-le-pow_right (omega arith) fits in
    omega (arith, small, most, power_of_power bits (length digits), written_is (2 ^ bits) 0 digits)

-- so the limit changes nothing of what is within
within_is : (base : Base) (digits : List ℕ) → list_all (λ d. nat_lt d (radix base)) digits ≡ true → within_capped base (length digits) (min (written (radix base) digits) 4294967296) ≡ within base (length digits) (written (radix base) digits)
within_is (Digits bits) digits all = elim (cases_lt 32 (bits * length digits)) [
  | inl long ↦ let no : nat_le (bits * length digits) 32 ≡ false = grind (arith, nat_tests) in rw no refl
  | inr fits ↦
      let small = number_fits bits digits all fits in
      let same : min (written (2 ^ bits) digits) 4294967296 ≡ written (2 ^ bits) digits = omega arith in
      let yes : nat_le (bits * length digits) 32 ≡ true = grind (arith, nat_tests) in
      rw (same, yes, lt-ltb _ 4294967296 small) refl
]
within_is Decimal digits all = elim (cases_lt (written 10 digits) 4294967296) [
  | inl small ↦
      let same : min (written 10 digits) 4294967296 ≡ written 10 digits = omega arith in
      ap (λ number. within_capped Decimal (length digits) number) same
  | inr large ↦
      let same : min (written 10 digits) 4294967296 ≡ 4294967296 = omega arith in
      rw (same, le-ltb _ 4294967296 large) refl
]

-- the literal of some bytes, by the number that is held
pub between_none : (base : Base) (bytes : List ℕ) → capped_number (radix base) (map digit_value bytes) ≡ None → bits_between base bytes ≡ None
between_none base bytes none = elim (cases_Bool (list_all (λ d. nat_lt d (radix base)) (map digit_value bytes))) [
  | inl all ↦ let no : Some (min (written (radix base) (map digit_value bytes)) 4294967296) ≡ None = rw all at none in absurd (cc)
  | inr fails ↦ rw fails refl
]

pub between_some : (base : Base) (bytes : List ℕ) (number : ℕ) → 0 < length bytes → capped_number (radix base) (map digit_value bytes) ≡ Some number → bits_between base bytes ≡ within_capped base (length bytes) number
between_some base bytes number some is = elim (cases_Bool (list_all (λ d. nat_lt d (radix base)) (map digit_value bytes))) [
  | inl all ↦
      let held : Some (min (written (radix base) (map digit_value bytes)) 4294967296) ≡ Some number = rw all at is in
      let same : min (written (radix base) (map digit_value bytes)) 4294967296 ≡ number = cc in
      let not_empty : (length (map digit_value bytes) == 0) ≡ false = grind (arith, nat_tests, length-map bytes digit_value) in
      rw (all, not_empty) (sym (within_is base (map digit_value bytes) all) ∙ rw (same, length-map bytes digit_value) refl)
  | inr fails ↦ let no : None ≡ Some number = rw fails at is in absurd (cc)
]
