-- Strings of bits as words.
use Rattle.std.proofs.Common.{◌≡◌, ℕ, ◌+◌, ◌-◌, ◌*◌, ◌/◌, ◌%◌, ◌^◌, ◌<◌, ◌≤◌, max, min, Bool, true, false, not, ◌&&◌, ◌||◌, ◌==◌, List, ◌++◌, length, map, refl, sym, ap, ap₂, subst, ◌∙◌, arith}
use Rattle.std.specs.Prelude.{bit_and, bit_or, bit_xor}
use Rattle.std.proofs.Math.Nat.{mod-eq_of_lt, pow-le-pow_right}
use Rattle.std.proofs.lemmas.List.{length-append, length-map}
use Rattle.std.proofs.lemmas.Nat.{and_block, or_block, xor_block, shl_whole, shr_le, mod_below, pow_pos}
use Rattle.hal_values.specs.declared.value.Value.TheVariants as value
use Rattle.hal_operations.specs.Strings.{bits_of, number, string, filled, fitted_string, bitwise, differ, are_equal, joined}
use Rattle.hal_operations.specs.Parts.{taken, patched_string}
use Rattle.hal_operations.proofs.BitLists.{bit_number, IsByBlock, number-append, number-bits_of, length-bits_of, number-map_not, length-bitwise, number-bitwise, same_filled, are_same-is, number-filled, length-last, number-last, length-fitted, number-fitted, length-taken, number-taken, length-put, number-put, number-Below}

-- a string as a value, from its length and its number
string_is : (n w : ℕ) (bs : List Bool) → length bs ≡ n → number bs ≡ w → string bs ≡ value.Bits n w
string_is n w bs size writes = ap₂ value.Bits size writes

-- the bits of a word that they hold
number_word : (n w : ℕ) → w < 2 ^ n → number (bits_of n w) ≡ w
number_word n w below = number-bits_of n w ∙ mod-eq_of_lt below

pub bits_string : (n w : ℕ) → w < 2 ^ n → string (bits_of n w) ≡ value.Bits n w
bits_string n w below = string_is n w (bits_of n w) (length-bits_of n w) (number_word n w below)

pub not_string : (n w : ℕ) → w < 2 ^ n → string (map not (bits_of n w)) ≡ value.Bits n (2 ^ n - 1 - w)
not_string n w below = string_is n (2 ^ n - 1 - w) (map not (bits_of n w)) (length-map (bits_of n w) not ∙ length-bits_of n w)
    (omega (arith, number-map_not (bits_of n w), ap (λ k. 2 ^ k) (length-bits_of n w), number_word n w below))

and_bit : (x y : Bool) → bit_number (x && y) ≡ bit_and (bit_number x) (bit_number y)
and_bit true true = refl
and_bit true false = refl
and_bit false true = refl
and_bit false false = refl

or_bit : (x y : Bool) → bit_number (x || y) ≡ bit_or (bit_number x) (bit_number y)
or_bit true true = refl
or_bit true false = refl
or_bit false true = refl
or_bit false false = refl

differ-bit : (x y : Bool) → bit_number (differ x y) ≡ bit_xor (bit_number x) (bit_number y)
differ-bit true true = refl
differ-bit true false = refl
differ-bit false true = refl
differ-bit false false = refl

bitwise_string : (f : Bool → Bool → Bool) (g : ℕ → ℕ → ℕ) → IsByBlock g → ((x y : Bool) → bit_number (f x y) ≡ g (bit_number x) (bit_number y)) → g 0 0 ≡ 0
    → (m x n y : ℕ) → x < 2 ^ m → y < 2 ^ n → string (bitwise f (bits_of m x) (bits_of n y)) ≡ value.Bits (max m n) (g x y)
bitwise_string f g block bit none m x n y left right = string_is (max m n) (g x y) (bitwise f (bits_of m x) (bits_of n y))
    (length-bitwise f (bits_of m x) (bits_of n y) ∙ ap₂ max (length-bits_of m x) (length-bits_of n y))
    (number-bitwise f g block bit none (bits_of m x) (bits_of n y) ∙ ap₂ g (number_word m x left) (number_word n y right))

pub and_string : (m x n y : ℕ) → x < 2 ^ m → y < 2 ^ n → string (bitwise (λ a b. a && b) (bits_of m x) (bits_of n y)) ≡ value.Bits (max m n) (bit_and x y)
and_string = bitwise_string (λ a b. a && b) bit_and and_block and_bit refl

pub or_string : (m x n y : ℕ) → x < 2 ^ m → y < 2 ^ n → string (bitwise (λ a b. a || b) (bits_of m x) (bits_of n y)) ≡ value.Bits (max m n) (bit_or x y)
or_string = bitwise_string (λ a b. a || b) bit_or or_block or_bit refl

pub xor_string : (m x n y : ℕ) → x < 2 ^ m → y < 2 ^ n → string (bitwise differ (bits_of m x) (bits_of n y)) ≡ value.Bits (max m n) (bit_xor x y)
xor_string = bitwise_string differ bit_xor xor_block differ-bit refl

pub equal_strings : (m x n y : ℕ) → x < 2 ^ m → y < 2 ^ n → are_equal (bits_of m x) (bits_of n y) ≡ (x == y)
equal_strings m x n y left right =
    let xs : List Bool = bits_of m x in
    let ys : List Bool = bits_of n y in
    are_same-is (filled (length ys) xs) (filled (length xs) ys) (same_filled xs ys)
    ∙ ap₂ (λ (a b : ℕ). a == b) (number-filled (length ys) xs ∙ number_word m x left) (number-filled (length xs) ys ∙ number_word n y right)

pub joined_string : (m x n y : ℕ) → n ≤ 32 → x < 2 ^ 32 → x < 2 ^ m → y < 2 ^ n
    → string (joined (bits_of m x) (bits_of n y)) ≡ value.Bits (min (m + n) 32) ((x * 2 ^ n % 2 ^ 64 + y) % 2 ^ min (m + n) 32)
joined_string m x n y room fits left right =
    let xs : List Bool = bits_of m x in
    let ys : List Bool = bits_of n y in
    let size : length (xs ++ ys) ≡ m + n = length-append xs ys ∙ ap₂ (λ (a b : ℕ). a + b) (length-bits_of m x) (length-bits_of n y) in
    let writes : number (xs ++ ys) ≡ x * 2 ^ n % 2 ^ 64 + y =
    number-append xs ys
    ∙ ap₂ (λ (a k : ℕ). a * 2 ^ k + number ys) (number_word m x left) (length-bits_of n y)
    ∙ ap₂ (λ (a b : ℕ). a + b) (sym (shl_whole x 32 n 64 fits (omega arith))) (number_word n y right) in
    string_is _ _ (joined xs ys) (length-last 32 (xs ++ ys) ∙ ap (min 32) size ∙ omega arith)
    (number-last 32 (xs ++ ys) ∙ ap₂ (λ (a k : ℕ). a % 2 ^ k) writes (ap (min 32) size ∙ omega arith))

pub fitted_word : (n len w : ℕ) → w < 2 ^ len → string (fitted_string n (bits_of len w)) ≡ value.Bits n (w % 2 ^ n)
fitted_word n len w below = string_is n (w % 2 ^ n) (fitted_string n (bits_of len w)) (length-fitted n (bits_of len w))
    (number-fitted n (bits_of len w) ∙ ap (λ v. v % 2 ^ n) (number_word len w below))

pub taken_string : (from to len w : ℕ) → to ≤ len → w < 2 ^ len → string (taken from to (bits_of len w)) ≡ value.Bits (to - from) (w / 2 ^ (len - to) % 2 ^ (to - from))
taken_string from to len w within below =
    let e = length-bits_of len w in
    let inside : to ≤ length (bits_of len w) = subst (λ k. to ≤ k) (sym e) within in
    string_is (to - from) _ (taken from to (bits_of len w)) (length-taken from to (bits_of len w) inside)
    (number-taken from to (bits_of len w) inside ∙ ap₂ (λ (v k : ℕ). v / 2 ^ (k - to) % 2 ^ (to - from)) (number_word len w below) e)

-- the word of a string with another one in place of a part
abbrev patched_word : (from to len w new : ℕ) → ℕ
patched_word from to len w new = w / 2 ^ (len - from) * 2 ^ (len - from) % 2 ^ 64 + new % 2 ^ (to - from) * 2 ^ (len - to) % 2 ^ 64 + w % 2 ^ (len - to)

number-patched : (from to n y len w : ℕ) → from ≤ to → to ≤ len → len ≤ 32 → w < 2 ^ 32 → y < 2 ^ n → w < 2 ^ len → number (patched_string from to (bits_of n y) (bits_of len w)) ≡ patched_word from to len w y
number-patched from to n y len w order within room fits new below =
    let size = length-bits_of len w in
    let other : List Bool = fitted_string (to - from) (bits_of n y) in
    let high = shl_whole (w / 2 ^ (len - from)) 32 (len - from) 64 (omega (arith, shr_le w (len - from))) (omega arith) in
    let middle = shl_whole (y % 2 ^ (to - from)) (to - from) (len - to) 64 (mod_below y (2 ^ (to - from)) (pow_pos (to - from))) (omega arith) in
    number-put from to other (bits_of len w) order (subst (λ k. to ≤ k) (sym size) within) (length-fitted (to - from) (bits_of n y))
    ∙ ap₂ (λ (v k : ℕ). v / 2 ^ (k - from) * 2 ^ (k - from) + (number other * 2 ^ (k - to) + v % 2 ^ (k - to))) (number_word len w below) size
    ∙ ap (λ (v : ℕ). w / 2 ^ (len - from) * 2 ^ (len - from) + (v * 2 ^ (len - to) + w % 2 ^ (len - to))) (number-fitted (to - from) (bits_of n y) ∙ ap (λ (v : ℕ). v % 2 ^ (to - from)) (number_word n y new))
    ∙ omega (arith, high, middle)

length-patched : (from to n y len w : ℕ) → from ≤ to → to ≤ len → length (patched_string from to (bits_of n y) (bits_of len w)) ≡ len
length-patched from to n y len w order within =
    let e = length-bits_of len w in
    length-put from to (fitted_string (to - from) (bits_of n y)) (bits_of len w) order (subst (λ k. to ≤ k) (sym e) within) (length-fitted (to - from) (bits_of n y)) ∙ e

pub patched_below : (from to n y len w : ℕ) → from ≤ to → to ≤ len → len ≤ 32 → w < 2 ^ 32 → y < 2 ^ n → w < 2 ^ len → patched_word from to len w y < 2 ^ 32
patched_below from to n y len w order within room fits new below =
    let bs : List Bool = patched_string from to (bits_of n y) (bits_of len w) in
    omega (arith, number-Below bs, number-patched from to n y len w order within room fits new below, ap (λ (k : ℕ). 2 ^ k) (length-patched from to n y len w order within), pow-le-pow_right {n = 2} (omega arith) room)

pub patched_bits : (from to n y len w : ℕ) → from ≤ to → to ≤ len → len ≤ 32 → w < 2 ^ 32 → y < 2 ^ n → w < 2 ^ len → string (patched_string from to (bits_of n y) (bits_of len w)) ≡ value.Bits len (patched_word from to len w y)
patched_bits from to n y len w order within room fits new below = string_is _ _ (patched_string from to (bits_of n y) (bits_of len w))
    (length-patched from to n y len w order within) (number-patched from to n y len w order within room fits new below)
