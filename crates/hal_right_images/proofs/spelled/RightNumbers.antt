-- The numbers and bits that words have are within their limits.
use Rattle.std.proofs.Common.{◌≡◌, ◌≤◌, ◌<◌, ℕ, zero, suc, ◌+◌, ◌-◌, ◌*◌, ◌/◌, ◌^◌, ◌==◌, nat_lt, nat_le, Bool, true, false, not, ◌&&◌, ◌||◌, List, [], ◌∷◌, length, drop, map, fold, take_while, Option, Some, None, refl, sym, ap, ◌∙◌, arith}
use Rattle.std.specs.Prelude.{bytes_eq, codes, cond, if◌then◌else◌}
use Rattle.std.specs.List.{list_all}
use Rattle.std.specs.Int.Digits.{number_from_digits_after, AllBelowBase}
use Rattle.std.proofs.Math.Nat.{pow-zero, pow-suc}
use Rattle.std.proofs.lemmas.Nat.{pow-add}
use Rattle.std.proofs.lemmas.Bool.{and_from, and_parts, le-leb, leb-true, lt-ltb, ltb-false, ltb-true}
use Rattle.std.proofs.lemmas.Int.Digits.{number_after_lt}
use Rattle.std.proofs.lemmas.List.Sums.{take_while-cons}
use Rattle.hal_base.specs.Digits.{is_digit}
use Rattle.hal_words.specs.Literals.{Base, Digits, Decimal, base_of, bit_count, bits_between, digit_value, radix, within}
use Rattle.hal_words.specs.Numbers.{after_digits, fraction, front_digits, has_point, is_number, thousandths, written}
use Rattle.hal_code.specs.declared.operand.Time.TheVariants as time
use Rattle.hal_code.specs.Operands.{is_time}
use Rattle.hal_fit_expr.specs.Sorted.{are_bits}
use Rattle.hal_right_images.proofs.spelled.Chosen.{Holds, either, so}

-- std's number of digits is this one
written_is : (base front : ℕ) (digits : List ℕ) → fold (λ front digit. front * base + digit) front digits ≡ number_from_digits_after base front digits
written_is base front [] = refl
written_is base front (d ∷ digits) = written_is base (front * base + d) digits

below_base : (base : ℕ) (digits : List ℕ) → list_all (λ d. nat_lt d base) digits ≡ true → AllBelowBase base digits
below_base base [] is = tt
below_base base (d ∷ digits) is =
    let both = and_parts (nat_lt d base) (list_all (λ x. nat_lt x base) digits) is in (ltb-true d base both.0, below_base base digits both.1)

-- digits below a base write a number below its power
written_small : (base : ℕ) (digits : List ℕ) → list_all (λ d. nat_lt d base) digits ≡ true → written base digits < base ^ length digits
written_small base digits all =
    let small : number_from_digits_after base 0 digits < (0 + 1) * base ^ length digits = number_after_lt base 0 digits (below_base base digits all) in
    let is = written_is base 0 digits in
    omega (arith, small, is)

power_of_power : (bits count : ℕ) → (2 ^ bits) ^ count ≡ 2 ^ (bits * count)
power_of_power bits zero = let e : bits * 0 ≡ 0 = omega arith in rw (pow-zero, e) refl
power_of_power bits (suc count) =
    let e : bits * suc count ≡ bits * count + bits = grind arith in
    pow-suc (2 ^ bits) count ∙ ap (λ n. n * 2 ^ bits) (power_of_power bits count) ∙ sym (ap (λ n. 2 ^ n) e ∙ pow-add 2 (bits * count) bits)

bits_are : (len bits : ℕ) → 1 ≤ len → len ≤ 32 → bits < 2 ^ len → are_bits len bits ≡ true
bits_are len bits some few small = and_from (nat_le 1 len && nat_le len 32) (nat_lt bits (2 ^ len)) (and_from (nat_le 1 len) (nat_le len 32) (le-leb 1 len some) (le-leb len 32 few)) (lt-ltb bits (2 ^ len) small)

-- a base has bits for a digit
abbrev pub IsRightBase : Base → Type 0
IsRightBase (Digits bits) = 1 ≤ bits
IsRightBase Decimal = Unit {0}

abbrev pub IsAnyRightBase : Option Base → Type 0
IsAnyRightBase None = Unit {0}
IsAnyRightBase (Some base) = IsRightBase base

pub base_right : (run : List ℕ) → IsAnyRightBase (base_of run)
base_right run = by.is where
  one : 1 ≤ 1
  one = omega arith

  three : 1 ≤ 3
  three = omega arith

  four : 1 ≤ 4
  four = omega arith

  by : Holds IsAnyRightBase (base_of run)
  by =
      either (bytes_eq run (codes "BIN")) (so one)
      (either (bytes_eq run (codes "OCT")) (so three) (either (bytes_eq run (codes "HEX")) (so four) (either (bytes_eq run (codes "DEC")) (so tt) (so tt))))

-- a number has as many bits as it needs
counted_bits : (most n : ℕ) → n < 2 ^ most → (1 ≤ bit_count most n) × (n < 2 ^ bit_count most n) × ((1 ≤ most → bit_count most n ≤ most))
counted_bits zero n small = let one : 2 ^ 0 ≡ 1 = pow-zero 2 in (omega arith, omega (arith, small, one), λ some. absurd (omega (arith, some)))
counted_bits (suc most) n small = by (nat_lt n 2) refl (counted_bits most (n / 2) half) where
  half : n / 2 < 2 ^ most
  half = let twice : 2 ^ suc most ≡ 2 ^ most * 2 = pow-suc 2 most in omega (arith, small, twice)

  room : (m : ℕ) → most ≡ m → 2 ≤ n → (1 ≤ most → bit_count most (n / 2) ≤ most) → suc (bit_count most (n / 2)) ≤ suc most
  room zero is large so = let two : 2 ^ suc most ≡ 2 = ap (λ k. 2 ^ suc k) is in absurd (omega (arith, small, two, large))
  room (suc m) is large so = let few = so (omega (arith, is)) in omega (arith, few)

  by : (b : Bool) → nat_lt n 2 ≡ b → (1 ≤ bit_count most (n / 2)) × (n / 2 < 2 ^ bit_count most (n / 2)) × ((1 ≤ most → bit_count most (n / 2) ≤ most))
      → (1 ≤ (if b then 1 else suc (bit_count most (n / 2)))) × (n < 2 ^ (if b then 1 else suc (bit_count most (n / 2)))) × ((1 ≤ suc most → (if b then 1 else suc (bit_count most (n / 2))) ≤ suc most))
  by true is rest = (omega arith, ltb-true n 2 is, λ some. omega arith)
  by false is rest =
      let large = ltb-false n 2 is in
      let twice : 2 ^ suc (bit_count most (n / 2)) ≡ 2 ^ bit_count most (n / 2) * 2 = pow-suc 2 (bit_count most (n / 2)) in
      let below = rest.1 in
      (omega arith, omega (arith, below, twice), λ some. room most refl large rest.2)

some_digits : (n : ℕ) → not (n == 0) ≡ true → 1 ≤ n
some_digits zero is = absurd (cc)
some_digits (suc n) is = omega arith

chosen_bits : (b : Bool) (x : ℕ × ℕ) (len bits : ℕ) → (if b then Some x else None) ≡ Some (len, bits) → (b ≡ true) × (x ≡ (len, bits))
chosen_bits true x len bits is = (refl, let same : x ≡ (len, bits) = cc in same)
chosen_bits false x len bits is = absurd (cc)

within_right : (base : Base) (digits : List ℕ) → IsRightBase base → list_all (λ d. nat_lt d (radix base)) digits ≡ true → 1 ≤ length digits → (len bits : ℕ)
    → within base (length digits) (written (radix base) digits) ≡ Some (len, bits) → are_bits len bits ≡ true
within_right (Digits size) digits right all some len bits is =
    let both = chosen_bits (nat_le (size * length digits) 32) (size * length digits, written (2 ^ size) digits) len bits is in
    let few = leb-true (size * length digits) 32 both.0 in
    let small : written (2 ^ size) digits < 2 ^ (size * length digits) = let w = written_small (2 ^ size) digits all in let p = power_of_power size (length digits) in omega (arith, w, p) in
    let least : 1 ≤ size * length digits = product_some size (length digits) right some in
    ap (λ (x : ℕ × ℕ). are_bits x.0 x.1) (sym both.1) ∙ bits_are (size * length digits) (written (2 ^ size) digits) least few small where
      product_some : (m n : ℕ) → 1 ≤ m → 1 ≤ n → 1 ≤ m * n
      product_some (suc m) (suc n) first second = omega arith
      product_some zero n first second = absurd (omega (arith, first))
      product_some (suc m) zero first second = absurd (omega (arith, second))
within_right Decimal digits right all some len bits is =
    let both = chosen_bits (nat_lt (written 10 digits) (2 ^ 32)) (bit_count 32 (written 10 digits), written 10 digits) len bits is in
    let counted = counted_bits 32 (written 10 digits) (ltb-true (written 10 digits) (2 ^ 32) both.0) in
    ap (λ (x : ℕ × ℕ). are_bits x.0 x.1) (sym both.1) ∙ bits_are (bit_count 32 (written 10 digits)) (written 10 digits) counted.0 (counted.2 (omega arith)) counted.1

tested : (b : Bool) (o : Option (ℕ × ℕ)) (x : ℕ × ℕ) → (if b then o else None) ≡ Some x → (b ≡ true) × (o ≡ Some x)
tested true o x is = (refl, is)
tested false o x is = absurd (cc)

-- the bits of a literal
pub between_right : (base : Base) (bytes : List ℕ) → IsRightBase base → (len bits : ℕ) → bits_between base bytes ≡ Some (len, bits) → are_bits len bits ≡ true
between_right base bytes right len bits is =
    let digits : List ℕ = map digit_value bytes in
    let both = tested (list_all (λ d. nat_lt d (radix base)) digits && not (length digits == 0)) (within base (length digits) (written (radix base) digits)) (len, bits) is in
    let tests = and_parts (list_all (λ d. nat_lt d (radix base)) digits) (not (length digits == 0)) both.0 in
    within_right base digits right tests.0 (some_digits (length digits) tests.1) len bits both.1

-- the digits that a text begins with are below ten
digits_small : (text : List ℕ) → list_all (λ d. nat_lt d 10) (front_digits text) ≡ true
digits_small [] = refl
digits_small (b ∷ text) = ap (λ (xs : List ℕ). list_all (λ d. nat_lt d 10) (map (λ x. x - 48) xs)) (take_while-cons is_digit b text) ∙ by (is_digit b) refl (digits_small text) where
  by : (digit : Bool) → is_digit b ≡ digit → list_all (λ d. nat_lt d 10) (front_digits text) ≡ true → list_all (λ d. nat_lt d 10) (map (λ x. x - 48) (cond digit (b ∷ take_while is_digit text) [])) ≡ true
  by true is rest =
      let both = and_parts (nat_le 48 b) (nat_le b 57) is in
      let low = leb-true b 57 both.1 in
      and_from (nat_lt (b - 48) 10) (list_all (λ d. nat_lt d 10) (front_digits text)) (lt-ltb (b - 48) 10 (omega (arith, low))) rest
  by false is rest = refl

-- an integer
pub integer_right : (text : List ℕ) → is_number text ≡ true → nat_le (written 10 (front_digits text)) 2147483647 ≡ true
integer_right text is =
    let both = and_parts (nat_lt (written 10 (front_digits text)) (2 ^ 31)) _ is in
    let low = ltb-true (written 10 (front_digits text)) (2 ^ 31) both.0 in
    le-leb (written 10 (front_digits text)) 2147483647 (omega (arith, low))

thousand : (len n : ℕ) → len ≤ 3 → n < 10 ^ len → n * 10 ^ (3 - len) < 1000
thousand zero n few small = omega (arith, small)
thousand (suc zero) n few small = omega (arith, small)
thousand (suc (suc zero)) n few small = omega (arith, small)
thousand (suc (suc (suc zero))) n few small = omega (arith, small)
thousand (suc (suc (suc (suc len)))) n few small = absurd (omega (arith, few))

or_second : (a b : Bool) → a ≡ true → (not a || b) ≡ true → b ≡ true
or_second true b is so = so
or_second false b is so = absurd (cc)

-- and thousandths
pub decimal_right : (text : List ℕ) → is_number text ≡ true → has_point text ≡ true → is_time (time.Milliseconds (thousandths text)) ≡ true
decimal_right text is pointed =
    let both = and_parts (nat_lt (written 10 (front_digits text)) (2 ^ 31)) (not (has_point text) || nat_le (length (fraction text)) 3) is in
    let low = ltb-true (written 10 (front_digits text)) (2 ^ 31) both.0 in
    let few = leb-true (length (fraction text)) 3 (or_second (has_point text) (nat_le (length (fraction text)) 3) pointed both.1) in
    let part = thousand (length (fraction text)) (written 10 (fraction text)) few (written_small 10 (fraction text) (digits_small (drop 1 (after_digits text)))) in
    lt-ltb (thousandths text) 2147483648000 (omega (arith, low, part))
