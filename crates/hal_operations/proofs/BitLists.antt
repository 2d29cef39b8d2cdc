-- Lists of bits and the numbers that they write.
use Rattle.std.proofs.Common.{◌≡◌, ℕ, zero, suc, ◌+◌, ◌-◌, ◌*◌, ◌/◌, ◌%◌, ◌^◌, ◌<◌, ◌≤◌, max, min, Bool, true, false, not, ◌==◌, ◌≢◌, List, [], ◌∷◌, ◌++◌, length, take, drop, replicate, map, refl, sym, ap, ap₂, subst, ◌∙◌, arith}
use Rattle.std.proofs.Math.Nat.{pow-suc}
use Rattle.std.proofs.lemmas.Bool.Decides.{nat_tests}
use Rattle.std.proofs.lemmas.List.{length-append, length-map, length-replicate, length-take, length-drop, take-append-drop}
use Rattle.std.proofs.lemmas.Nat.{pow-add, mod-pow-add, shr_high, mod_low}
use Rattle.hal_operations.specs.Strings.{bits_of, number, last, filled, fitted_string, pairwise, bitwise, are_same}
use Rattle.hal_operations.specs.Parts.{taken, put}

-- a bit as a number
abbrev pub bit_number : Bool → ℕ
bit_number true = 1
bit_number false = 0

-- the first bit counts the most
number-cons : (b : Bool) (bs : List Bool) → number (b ∷ bs) ≡ bit_number b * 2 ^ length bs + number bs
number-cons true bs = omega arith
number-cons false bs = omega arith

-- so many bits write a number below that power
pub number-Below : (bs : List Bool) → number bs < 2 ^ length bs
number-Below [] = omega arith
number-Below (true ∷ bs) = omega (arith, number-Below bs, pow-suc 2 (length bs))
number-Below (false ∷ bs) = omega (arith, number-Below bs, pow-suc 2 (length bs))

pub number-append : (xs ys : List Bool) → number (xs ++ ys) ≡ number xs * 2 ^ length ys + number ys
number-append [] ys = omega arith
number-append (true ∷ xs) ys = omega (arith, number-append xs ys, ap (λ n. 2 ^ n) (length-append xs ys) ∙ pow-add 2 (length xs) (length ys))
number-append (false ∷ xs) ys = omega (arith, number-append xs ys)

-- the number of a list that is cut in two
number-halves : (n : ℕ) (bs : List Bool) → number bs ≡ number (take n bs) * 2 ^ (length bs - n) + number (drop n bs)
number-halves n bs = ap number (sym (take-append-drop n bs)) ∙ number-append (take n bs) (drop n bs) ∙ ap (λ k. number (take n bs) * 2 ^ k + number (drop n bs)) (length-drop n bs)

drop-Below : (n : ℕ) (bs : List Bool) → number (drop n bs) < 2 ^ (length bs - n)
drop-Below n bs = subst (λ k. number (drop n bs) < 2 ^ k) (length-drop n bs) (number-Below (drop n bs))

-- its first bits
number-take : (n : ℕ) (bs : List Bool) → number (take n bs) ≡ number bs / 2 ^ (length bs - n)
number-take n bs = sym (ap (λ w. w / 2 ^ (length bs - n)) (number-halves n bs) ∙ shr_high (number (take n bs)) (length bs - n) (number (drop n bs)) (drop-Below n bs))

-- its others
number-drop : (n : ℕ) (bs : List Bool) → number (drop n bs) ≡ number bs % 2 ^ (length bs - n)
number-drop n bs = sym (ap (λ w. w % 2 ^ (length bs - n)) (number-halves n bs) ∙ mod_low (number (take n bs)) (length bs - n) (number (drop n bs)) (drop-Below n bs))

-- the last bits of a word
pub length-bits_of : (n w : ℕ) → length (bits_of n w) ≡ n
length-bits_of zero w = refl
length-bits_of (suc n) w = ap suc (length-bits_of n w)

number-bit : (w : ℕ) → bit_number (w % 2 == 1) ≡ w % 2
number-bit w = grind (arith, nat_tests)

pub number-bits_of : (n w : ℕ) → number (bits_of n w) ≡ w % 2 ^ n
number-bits_of zero w = omega arith
number-bits_of (suc n) w =
    number-cons (w / 2 ^ n % 2 == 1) (bits_of n w)
    ∙ ap₂ (λ k r. bit_number (w / 2 ^ n % 2 == 1) * 2 ^ k + r) (length-bits_of n w) (number-bits_of n w)
    ∙ ap (λ b. b * 2 ^ n + w % 2 ^ n) (number-bit (w / 2 ^ n))
    ∙ sym (mod-pow-add w 1 n)
    ∙ ap (λ k. w % 2 ^ k) (omega arith)

-- each bit turned
pub number-map_not : (bs : List Bool) → number (map not bs) + number bs + 1 ≡ 2 ^ length bs
number-map_not [] = refl
number-map_not (true ∷ bs) = omega (arith, number-map_not bs, ap (λ n. 2 ^ n) (length-map bs not), pow-suc 2 (length bs))
number-map_not (false ∷ bs) = omega (arith, number-map_not bs, ap (λ n. 2 ^ n) (length-map bs not), pow-suc 2 (length bs))

-- zeros on the left
number-zeros : (n : ℕ) (bs : List Bool) → number (replicate n false ++ bs) ≡ number bs
number-zeros zero bs = refl
number-zeros (suc n) bs = omega (arith, number-zeros n bs)

-- two lists of one length, bit by bit
length-pairwise : (f : Bool → Bool → Bool) (xs ys : List Bool) → length xs ≡ length ys → length (pairwise f xs ys) ≡ length xs
length-pairwise f [] ys same = refl
length-pairwise f (x ∷ xs) [] same = sym same
length-pairwise f (x ∷ xs) (y ∷ ys) same = ap suc (length-pairwise f xs ys (omega arith))

-- an operation on numbers that works block by block
abbrev pub IsByBlock : (ℕ → ℕ → ℕ) → Type 0
IsByBlock g = (k a b r s : ℕ) → r < 2 ^ k → s < 2 ^ k → g (a * 2 ^ k + r) (b * 2 ^ k + s) ≡ g a b * 2 ^ k + g r s

number-pairwise : (f : Bool → Bool → Bool) (g : ℕ → ℕ → ℕ) → IsByBlock g → ((x y : Bool) → bit_number (f x y) ≡ g (bit_number x) (bit_number y)) → g 0 0 ≡ 0
    → (xs ys : List Bool) → length xs ≡ length ys → number (pairwise f xs ys) ≡ g (number xs) (number ys)
number-pairwise f g block bit none [] [] same = sym none
number-pairwise f g block bit none [] (y ∷ ys) same = absurd (omega arith)
number-pairwise f g block bit none (x ∷ xs) [] same = absurd (omega arith)
number-pairwise f g block bit none (x ∷ xs) (y ∷ ys) same =
    let e : length xs ≡ length ys = omega arith in
    number-cons (f x y) (pairwise f xs ys)
    ∙ ap₂ (λ a b. a * 2 ^ length (pairwise f xs ys) + b) (bit x y) (number-pairwise f g block bit none xs ys e)
    ∙ ap (λ k. g (bit_number x) (bit_number y) * 2 ^ k + g (number xs) (number ys)) (length-pairwise f xs ys e)
    ∙ sym (block (length xs) (bit_number x) (bit_number y) (number xs) (number ys) (number-Below xs) (subst (λ k. number ys < 2 ^ k) (sym e) (number-Below ys)))
    ∙ ap₂ g (sym (number-cons x xs)) (ap (λ k. bit_number y * 2 ^ k + number ys) e ∙ sym (number-cons y ys))

pow_same : (xs ys : List Bool) → length xs ≡ length ys → 2 ^ length xs ≡ 2 ^ length ys
pow_same xs ys same = ap (λ n. 2 ^ n) same

eqb_shift : (a b m n : ℕ) → m ≡ n → (a == b) ≡ (m + a == n + b)
eqb_shift a b m n e = grind (arith, nat_tests)

eqb_apart : (a b : ℕ) → a ≢ b → (a == b) ≡ false
eqb_apart a b apart = grind (arith, nat_tests)

-- lists of one length have the same bits just where they write the same number
pub are_same-is : (xs ys : List Bool) → length xs ≡ length ys → are_same xs ys ≡ (number xs == number ys)
are_same-is [] [] same = refl
are_same-is [] (y ∷ ys) same = absurd (omega arith)
are_same-is (x ∷ xs) [] same = absurd (omega arith)
are_same-is (true ∷ xs) (true ∷ ys) same =
    are_same-is xs ys (omega arith) ∙ eqb_shift (number xs) (number ys) (2 ^ length xs) (2 ^ length ys) (pow_same xs ys (omega arith))
are_same-is (true ∷ xs) (false ∷ ys) same = sym (eqb_apart (number (true ∷ xs)) (number (false ∷ ys)) (omega (arith, number-Below ys, pow_same xs ys (omega arith))))
are_same-is (false ∷ xs) (true ∷ ys) same = sym (eqb_apart (number (false ∷ xs)) (number (true ∷ ys)) (omega (arith, number-Below xs, pow_same xs ys (omega arith))))
are_same-is (false ∷ xs) (false ∷ ys) same = are_same-is xs ys (omega arith) ∙ eqb_shift (number xs) (number ys) 0 0 refl

-- filled with zeros
length-filled : (n : ℕ) (bs : List Bool) → length (filled n bs) ≡ max n (length bs)
length-filled n bs = length-append (replicate (n - length bs) false) bs ∙ ap (λ k. k + length bs) (length-replicate (n - length bs) false) ∙ omega arith

pub number-filled : (n : ℕ) (bs : List Bool) → number (filled n bs) ≡ number bs
number-filled n bs = number-zeros (n - length bs) bs

-- the last bits
pub length-last : (n : ℕ) (bs : List Bool) → length (last n bs) ≡ min n (length bs)
length-last n bs = length-drop (length bs - n) bs ∙ omega arith

pub number-last : (n : ℕ) (bs : List Bool) → number (last n bs) ≡ number bs % 2 ^ min n (length bs)
number-last n bs = number-drop (length bs - n) bs ∙ ap (λ k. number bs % 2 ^ k) (omega arith)

-- cut or filled
pub length-fitted : (n : ℕ) (bs : List Bool) → length (fitted_string n bs) ≡ n
length-fitted n bs = length-last n (filled n bs) ∙ ap (min n) (length-filled n bs) ∙ omega arith

pub number-fitted : (n : ℕ) (bs : List Bool) → number (fitted_string n bs) ≡ number bs % 2 ^ n
number-fitted n bs =
    number-last n (filled n bs)
    ∙ ap₂ (λ w k. w % 2 ^ k) (number-filled n bs) (ap (min n) (length-filled n bs) ∙ omega arith)

-- two strings filled alike
pub same_filled : (xs ys : List Bool) → length (filled (length ys) xs) ≡ length (filled (length xs) ys)
same_filled xs ys = length-filled (length ys) xs ∙ (omega arith ∙ sym (length-filled (length xs) ys))

-- bit by bit
pub length-bitwise : (f : Bool → Bool → Bool) (xs ys : List Bool) → length (bitwise f xs ys) ≡ max (length xs) (length ys)
length-bitwise f xs ys = length-pairwise f (filled (length ys) xs) (filled (length xs) ys) (same_filled xs ys) ∙ length-filled (length ys) xs ∙ omega arith

pub number-bitwise : (f : Bool → Bool → Bool) (g : ℕ → ℕ → ℕ) → IsByBlock g → ((x y : Bool) → bit_number (f x y) ≡ g (bit_number x) (bit_number y)) → g 0 0 ≡ 0
    → (xs ys : List Bool) → number (bitwise f xs ys) ≡ g (number xs) (number ys)
number-bitwise f g block bit none xs ys =
    number-pairwise f g block bit none (filled (length ys) xs) (filled (length xs) ys) (same_filled xs ys)
    ∙ ap₂ g (number-filled (length ys) xs) (number-filled (length xs) ys)

-- a part
pub length-taken : (from to : ℕ) (bs : List Bool) → to ≤ length bs → length (taken from to bs) ≡ to - from
length-taken from to bs within = length-drop from (take to bs) ∙ ap (λ k. k - from) (length-take to bs) ∙ omega arith

pub number-taken : (from to : ℕ) (bs : List Bool) → to ≤ length bs → number (taken from to bs) ≡ (number bs / 2 ^ (length bs - to)) % 2 ^ (to - from)
number-taken from to bs within =
    number-drop from (take to bs) ∙ ap₂ (λ w k. w % 2 ^ (k - from)) (number-take to bs) (length-take to bs ∙ omega arith)

-- a part replaced
pub length-put : (from to : ℕ) (new bs : List Bool) → from ≤ to → to ≤ length bs → length new ≡ to - from → length (put from to new bs) ≡ length bs
length-put from to new bs order within size =
    omega (arith, length-append (take from bs) (new ++ drop to bs), length-append new (drop to bs), length-take from bs, length-drop to bs)

pub number-put : (from to : ℕ) (new bs : List Bool) → from ≤ to → to ≤ length bs → length new ≡ to - from
    → number (put from to new bs) ≡ number bs / 2 ^ (length bs - from) * 2 ^ (length bs - from) + (number new * 2 ^ (length bs - to) + number bs % 2 ^ (length bs - to))
number-put from to new bs order within size =
    number-append (take from bs) (new ++ drop to bs)
    ∙ ap₂ (λ a k. a * 2 ^ k + number (new ++ drop to bs)) (number-take from bs) (omega (arith, length-append new (drop to bs), length-drop to bs))
    ∙ ap (λ r. number bs / 2 ^ (length bs - from) * 2 ^ (length bs - from) + r)
    (number-append new (drop to bs) ∙ ap₂ (λ k r. number new * 2 ^ k + r) (length-drop to bs) (number-drop to bs))
