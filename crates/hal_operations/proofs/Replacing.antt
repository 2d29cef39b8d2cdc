-- Parts that were replaced, and operations on two strings in either order.
use Rattle.std.proofs.Common.{◌≡◌, ◌∙◌, refl, sym, ap, ap₂, subst, ℕ, ◌+◌, ◌-◌, ◌/◌, ◌%◌, ◌^◌, ◌<◌, ◌≤◌, ℤ, pos, ◌+ℤ◌, ◌-ℤ◌, int_lt, Bool, true, false, not, ◌&&◌, ◌||◌, List, [], ◌∷◌, ◌++◌, length, take, drop, Result, Ok, Err, if◌then◌else◌, arith, rules}
use Rattle.std.proofs.Math.Seq.{take-append_seam, drop-append_seam}
use Rattle.std.proofs.Math.Nat.{mod-eq_of_lt}
use Rattle.std.proofs.lemmas.Int.{ints}
use Rattle.std.proofs.lemmas.List.{drop-take, length-take, length-append, length-replicate, length-drop}
use Rattle.hal_values.specs.declared.environment.ErrNo.{ErrNo}
use Rattle.hal_values.specs.declared.value.Value.{Value}
use Rattle.hal_values.specs.declared.value.Value.TheVariants as value
use Rattle.hal_operations.specs.declared.part.Part.{Part}
use Rattle.hal_operations.specs.Errors.{no_place}
use Rattle.hal_operations.specs.Laws.{part_size}
use Rattle.hal_operations.specs.Operands.{IsString}
use Rattle.hal_operations.specs.Parts.{first_place, last_place, is_place, is_string_part, is_text_part, before, through, taken, put, patched_string, patched_text, picked, patched}
use Rattle.hal_operations.specs.Strings.{bits_of, string, number, filled, pairwise, bitwise, differ, fitted_string}
use Rattle.hal_operations.specs.Texts.{blanks, left_justified}
use Rattle.hal_operations.proofs.BitLists.{number-Below, length-bits_of, number-bits_of, length-fitted, length-taken, number-taken, length-put}

pairwise-turned : (f : Bool → Bool → Bool) → ((x y : Bool) → f x y ≡ f y x) → (xs ys : List Bool) → pairwise f xs ys ≡ pairwise f ys xs
pairwise-turned f same [] [] = refl
pairwise-turned f same [] (y ∷ ys) = refl
pairwise-turned f same (x ∷ xs) [] = refl
pairwise-turned f same (x ∷ xs) (y ∷ ys) = ap₂ (λ b bs. b ∷ bs) (same x y) (pairwise-turned f same xs ys)

-- two strings bit by bit, in either order
pub bitwise-turned : (f : Bool → Bool → Bool) → ((x y : Bool) → f x y ≡ f y x) → (xs ys : List Bool) → bitwise f xs ys ≡ bitwise f ys xs
bitwise-turned f same xs ys = pairwise-turned f same (filled (length ys) xs) (filled (length xs) ys)

pub and-turned : (x y : Bool) → (x && y) ≡ (y && x)
and-turned true true = refl
and-turned true false = refl
and-turned false true = refl
and-turned false false = refl

pub or-turned : (x y : Bool) → (x || y) ≡ (y || x)
or-turned true true = refl
or-turned true false = refl
or-turned false true = refl
or-turned false false = refl

pub differ-turned : (x y : Bool) → differ x y ≡ differ y x
differ-turned true true = refl
differ-turned true false = refl
differ-turned false true = refl
differ-turned false false = refl

-- what was put is taken
taken-put : {X : Type 0} (from to : ℕ) (new xs : List X) → from ≤ to → to ≤ length xs → length new ≡ to - from → taken from to (put from to new xs) ≡ new
taken-put from to new xs order within size =
    let whole : to ≡ from + (to - from) = omega arith in
    let front : from ≡ length (take from xs) = sym (length-take from xs ∙ omega arith) in
    ap (λ k. drop from (take k (put from to new xs))) whole
    ∙ (drop-take from (to - from) (put from to new xs)
    ∙ (ap (take (to - from)) (ap (λ k. drop k (put from to new xs)) front ∙ drop-append_seam (take from xs) (new ++ drop to xs))
    ∙ (ap (λ k. take k (new ++ drop to xs)) (sym size) ∙ take-append_seam new (drop to xs))))

length-put_text : (from to : ℕ) (new xs : List ℕ) → from ≤ to → to ≤ length xs → length new ≡ to - from → length (put from to new xs) ≡ length xs
length-put_text from to new xs order within size =
    omega (arith, length-append (take from xs) (new ++ drop to xs), length-append new (drop to xs), length-take from xs, length-drop to xs)

abbrev value_in : Result Value ErrNo → Value
value_in (Ok v) = v
value_in (Err e) = value.Int (pos 0)

abbrev is_value : Result Value ErrNo → ℕ
is_value (Ok v) = 1
is_value (Err e) = 0

-- where a test decides between a value and an error, and there is a value
chosen : (test : Bool) (v w : Value) (e : ErrNo) → (if test then Ok v else Err e) ≡ Ok w → (test ≡ true) × (v ≡ w)
chosen true v w e same = (refl, ap value_in same)
chosen false v w e same = let differs : 0 ≡ 1 = ap is_value same in absurd (omega (arith, differs))

split : (p q r : Bool) → ((p && q) && r) ≡ true → (p ≡ true) × ((q ≡ true) × (r ≡ true))
split true true true e = (refl, (refl, refl))
split true true false e = absurd (search rules)
split true false r e = absurd (search rules)
split false q r e = absurd (search rules)

place-first : (size : ℕ) (f : ℤ) → is_place size f ≡ true → (before f < size) × (pos (before f) ≡ f -ℤ pos 1)
place-first size f e = grind (arith, ints)

place-last : (size : ℕ) (l : ℤ) → is_place size l ≡ true → (through l ≤ size) × (pos (through l) ≡ l)
place-last size l e = grind (arith, ints)

-- the places of a part that lies in a bit string
string-places : (size : ℕ) (f l : ℤ) → ((is_place size f && is_place size l) && not (int_lt l f)) ≡ true → (before f ≤ through l) × (through l ≤ size)
string-places size f l e =
    let parts = split (is_place size f) (is_place size l) (not (int_lt l f)) e in
    let first = place-first size f parts.0 in let last = place-last size l parts.1.0 in let order = parts.1.1 in
    (grind (arith, ints), last.0)

-- the places of a part that lies in a text
text-places : (size : ℕ) (f l : ℤ) → ((is_place size f && is_place size l) && not (int_lt (l +ℤ pos 1) f)) ≡ true → (before f ≤ through l) × (through l ≤ size)
text-places size f l e =
    let parts = split (is_place size f) (is_place size l) (not (int_lt (l +ℤ pos 1) f)) e in
    let first = place-first size f parts.0 in let last = place-last size l parts.1.0 in let order = parts.1.1 in
    (grind (arith, ints), last.0)

same_taken : (from to : ℕ) (xs ys : List Bool) → to ≤ length xs → length xs ≡ length ys → number xs ≡ number ys → string (taken from to xs) ≡ string (taken from to ys)
same_taken from to xs ys within long same =
    let other : to ≤ length ys = omega arith in
    ap₂ value.Bits (length-taken from to xs within ∙ sym (length-taken from to ys other))
    (number-taken from to xs within ∙ (ap₂ (λ w k. (w / 2 ^ (k - to)) % 2 ^ (to - from)) same long ∙ sym (number-taken from to ys other)))

-- a string as a value is read back
kept : (bs : List Bool) → number (bits_of (length bs) (number bs)) ≡ number bs
kept bs = number-bits_of (length bs) (number bs) ∙ mod-eq_of_lt (number-Below bs)

-- the bits that took a part's place are chosen by it
pub replaced_bits : (part : Part) (len word n y : ℕ) (v : Value) → IsString len word → patched (value.Bits len word) part (value.Bits n y) ≡ Ok v
    → picked v part ≡ Ok (string (fitted_string (part_size part) (bits_of n y)))
replaced_bits part len word n y v full e =
    let from = before (first_place part) in let to = through (last_place part) in
    let new = fitted_string (to - from) (bits_of n y) in
    let whole = patched_string from to (bits_of n y) (bits_of len word) in
    let both = chosen (is_string_part len part) (string whole) v no_place e in
    let places = string-places len (first_place part) (last_place part) both.0 in
    let room : to ≤ length (bits_of len word) = subst (λ k. to ≤ k) (sym (length-bits_of len word)) places.1 in
    let size : length new ≡ to - from = length-fitted (to - from) (bits_of n y) in
    let long : length whole ≡ len = length-put from to new (bits_of len word) places.0 room size ∙ length-bits_of len word in
    let inside : is_string_part (length whole) part ≡ true = ap (λ k. is_string_part k part) long ∙ both.0 in
    let same : string (taken from to (bits_of (length whole) (number whole))) ≡ string new =
    same_taken from to (bits_of (length whole) (number whole)) whole (subst (λ k. to ≤ k) (sym (length-bits_of (length whole) (number whole) ∙ long)) places.1) (length-bits_of (length whole) (number whole)) (kept whole)
    ∙ ap string (taken-put from to new (bits_of len word) places.0 room size) in
    subst (λ w. picked w part ≡ Ok (string new)) both.1 (rw inside (ap (λ s. Ok s) same))

length-justified : (n : ℕ) (text : List ℕ) → length (left_justified n text) ≡ n
length-justified n text = omega (arith, length-take n (text ++ blanks n), length-append text (blanks n), length-replicate {A = ℕ} n 32)

-- the bytes that took a part's place are chosen by it
pub replaced_bytes : (part : Part) (text new : List ℕ) (v : Value) → patched (value.Text text) part (value.Text new) ≡ Ok v
    → picked v part ≡ Ok (value.Text (left_justified (part_size part) new))
replaced_bytes part text new v e =
    let from = before (first_place part) in let to = through (last_place part) in
    let bytes = left_justified (to - from) new in
    let whole = patched_text from to new text in
    let both = chosen (is_text_part (length text) part) (value.Text whole) v no_place e in
    let places = text-places (length text) (first_place part) (last_place part) both.0 in
    let size : length bytes ≡ to - from = length-justified (to - from) new in
    let long : length whole ≡ length text = length-put_text from to bytes text places.0 places.1 size in
    let inside : is_text_part (length whole) part ≡ true = ap (λ k. is_text_part k part) long ∙ both.0 in
    subst (λ w. picked w part ≡ Ok (value.Text bytes)) both.1 (rw inside (ap (λ t. Ok (value.Text t)) (taken-put from to bytes text places.0 places.1 size)))
