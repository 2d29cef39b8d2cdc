-- Texts as lists of bytes: parts of joined lists, and the first place of bytes in a text.
use Rattle.std.proofs.Common.{◌≡◌, ℕ, zero, suc, ◌-◌, min, ◌<◌, ◌≤◌, Bool, true, false, List, [], ◌∷◌, ◌++◌, length, take, drop, nat_eq, refl, sym, ap, ◌∙◌, arith}
use Rattle.std.specs.List.{starts_with}
use Rattle.std.proofs.lemmas.List.{length-replicate, length-append, drop-replicate, take_all, take_min}
use Rattle.std.proofs.lemmas.Bool.Decides.{nat_tests}
use Rattle.hal_operations.specs.Texts.{blanks, joined_text, right_justified, begins_with, first_place, index}

-- the front of two joined lists
take-append : {X : Type 0} (n : ℕ) (xs ys : List X) → take n (xs ++ ys) ≡ take n xs ++ take (n - length xs) ys
take-append zero xs ys = let e : 0 - length xs ≡ 0 = omega arith in rw e refl
take-append (suc n) [] ys = let e : suc n - 0 ≡ suc n = omega arith in rw e refl
take-append (suc n) (x ∷ xs) ys =
    let e : suc n - suc (length xs) ≡ n - length xs = omega arith in
    rw e (ap (λ t. x ∷ t) (take-append n xs ys))

-- what is left of two joined lists
drop-append : {X : Type 0} (n : ℕ) (xs ys : List X) → drop n (xs ++ ys) ≡ drop n xs ++ drop (n - length xs) ys
drop-append zero xs ys = let e : 0 - length xs ≡ 0 = omega arith in rw e refl
drop-append (suc n) [] ys = let e : suc n - 0 ≡ suc n = omega arith in rw e refl
drop-append (suc n) (x ∷ xs) ys =
    let e : suc n - suc (length xs) ≡ n - length xs = omega arith in
    rw e (drop-append n xs ys)

-- two texts joined, of which the first is no longer than a text
pub joined_text_is : (xs ys : List ℕ) → length xs ≤ 255 → joined_text xs ys ≡ xs ++ take (min (255 - length xs) (length ys)) ys
joined_text_is xs ys fits = take-append 255 xs ys ∙ rw (take_all 255 xs fits, take_min (255 - length xs) ys) refl

-- blanks, and a text cut on its left
pub right_justified_is : (n : ℕ) (text : List ℕ) → right_justified n text ≡ blanks (n - length text) ++ drop (length text - n) text
right_justified_is n text =
    let count : length (blanks n) ≡ n = length-replicate {A = ℕ} n 32 in
    let long : length (blanks n ++ text) - n ≡ length text = omega (arith, length-append (blanks n) text) in
    let less : drop (length text) (blanks n) ≡ blanks (n - length text) = drop-replicate (length text) n 32 in
    rw long (drop-append (length text) (blanks n) text ∙ rw (count, less) refl)

-- std's test is this one
begins_with_is : (text bytes : List ℕ) → begins_with text bytes ≡ starts_with nat_eq text bytes
begins_with_is text [] = refl
begins_with_is [] (byte ∷ bytes) = refl
begins_with_is (first ∷ text) (byte ∷ bytes) =
    let rest = begins_with_is text bytes in
    let turned : nat_eq first byte ≡ nat_eq byte first = grind (arith, nat_tests) in
    rw (turned, rest) refl

pub begins_with_tested : (text back bytes : List ℕ) (at : ℕ) (test answer : Bool) → back ≡ drop at text → test ≡ starts_with nat_eq back bytes → test ≡ answer → begins_with (drop at text) bytes ≡ answer
begins_with_tested text back bytes at test answer cut is told =
    begins_with_is (drop at text) bytes ∙ ap (λ t. starts_with nat_eq t bytes) (sym cut) ∙ sym is ∙ told

-- the text begins with the bytes first here
pub first_place_found : (text bytes : List ℕ) (at : ℕ) → ((k : ℕ) → k < at → begins_with (drop k text) bytes ≡ false) → at < length text → begins_with (drop at text) bytes ≡ true → first_place text bytes ≡ suc at
first_place_found [] bytes at none within here = absurd (omega (arith, within))
first_place_found (first ∷ text) bytes zero none within here = rw here refl
first_place_found (first ∷ text) bytes (suc at) none within here =
    let later : first_place text bytes ≡ suc at = first_place_found text bytes at (λ k below. none (suc k) (omega arith)) (omega arith) here in
    rw (none 0 (omega arith), later) refl

-- the text begins with them nowhere
pub first_place_none : (text bytes : List ℕ) → ((k : ℕ) → k < length text → begins_with (drop k text) bytes ≡ false) → first_place text bytes ≡ 0
first_place_none [] bytes none = refl
first_place_none (first ∷ text) bytes none =
    let later : first_place text bytes ≡ 0 = first_place_none text bytes (λ k below. none (suc k) (omega arith)) in
    rw (none 0 (omega arith), later) refl

-- some bytes stand where they first stand
pub index_is : (text bytes : List ℕ) → 0 < length bytes → index text bytes ≡ first_place text bytes
index_is text [] some = absurd (omega (arith, some))
index_is text (byte ∷ bytes) some = refl
