-- What is stored is of the cell's kind, and parts keep kinds.
use Rattle.std.proofs.Common.{◌≡◌, ℕ, ◌-◌, ◌^◌, ◌<◌, ◌≤◌, Bool, true, false, not, ◌&&◌, List, [], ◌∷◌, ◌++◌, length, take, drop, ℤ, pos, negsuc, ◌+ℤ◌, ◌-ℤ◌, int_lt, Result, Ok, Err, refl, sym, ap, ap₂, subst, ◌∙◌, arith, if◌then◌else◌}
use Rattle.std.specs.Prelude.{IfOk}
use Rattle.std.specs.Fmt.{signed_decimal}
use Rattle.std.proofs.Math.Nat.{mod-eq_of_lt}
use Rattle.std.proofs.lemmas.Bool.{lt-ltb}
use Rattle.std.proofs.lemmas.Int.{ints}
use Rattle.std.proofs.lemmas.List.{take_all, length-append, length-take, length-drop, length-replicate}
use Rattle.hal_values.specs.declared.environment.ErrNo.{ErrNo}
use Rattle.hal_values.specs.declared.value.Kind.{Kind}
use Rattle.hal_values.specs.declared.value.Kind.TheVariants as kind
use Rattle.hal_values.specs.declared.value.Value.{Value}
use Rattle.hal_values.specs.declared.value.Value.TheVariants as value
use Rattle.hal_values.specs.Kinds.{IsKind, IsOfKind, IsDatum, IsSingle, IsBits, IsText}
use Rattle.hal_operations.specs.declared.part.Part.{Part}
use Rattle.hal_operations.specs.Errors.{no_place}
use Rattle.hal_operations.specs.Integers.{single, integer, is_within, ranged, nearest}
use Rattle.hal_operations.specs.Operands.{IsString, IsStorable}
use Rattle.hal_operations.specs.Parts.{first_place, last_place, is_place, is_string_part, is_text_part, nearest_place, mended_first, mended_last, before, through, taken, put, patched_string, patched_text, picked, nearest_part, mended_pick, new_bits, new_bytes, patched, nearest_patch, nearest_patched, mended_patch}
use Rattle.hal_operations.specs.Stores.{stored, mended_store}
use Rattle.hal_operations.specs.Strings.{bits_of, string, fitted_string}
use Rattle.hal_operations.specs.Texts.{blanks, left_justified}
use Rattle.hal_operations.proofs.BitLists.{length-bits_of, length-fitted}
use Rattle.hal_operations.proofs.BitWords.{fitted_word}
use Rattle.hal_sound_values.specs.Right.{IsRight, IsAlso, IsPart}
use Rattle.hal_sound_values.proofs.Near.{IsNear, single_near, near_single, near_integer, ranged_is, nearest_is}
use Rattle.hal_sound_values.proofs.RightStrings.{string_right, string_is_bits, fitted_is_bits}
use Rattle.hal_sound_values.proofs.RightTexts.{take_room}
use Rattle.hal_sound_values.proofs.RightResults.{after_right}

-- an integer of 16 bits as a value
integer_single : (result : Result ℤ ErrNo) → IfOk result (IsNear 15) → IfOk (integer result) IsSingle
integer_single (Ok z) h = near_single z h
integer_single (Err e) h = tt

-- what is stored is of the cell's kind
pub stored_is : (k : Kind) (v : Value) → IsRight v → IsStorable k v → IfOk (stored k v) (IsOfKind k)
stored_is kind.Single (value.Int a) h s = integer_single (ranged single a) (ranged_is single a)
stored_is kind.Double (value.Int a) h s = h
stored_is (kind.Bits n) (value.Bits len word) h s = fitted_is_bits n (bits_of len word)
stored_is (kind.Text n) (value.Int a) h s = take_room n (signed_decimal a)
stored_is (kind.Text n) (value.Text text) h s = take_room n text
stored_is kind.Single (value.Bits len word) h s = absurd s
stored_is kind.Single (value.Text text) h s = absurd s
stored_is kind.Double (value.Bits len word) h s = absurd s
stored_is kind.Double (value.Text text) h s = absurd s
stored_is (kind.Bits n) (value.Int a) h s = absurd s
stored_is (kind.Bits n) (value.Text text) h s = absurd s
stored_is (kind.Text n) (value.Bits len word) h s = absurd s

-- also after an ignored error
pub mended_store_is : (k : Kind) (v : Value) → IsRight v → IsStorable k v → IsOfKind k (mended_store k v)
mended_store_is kind.Single (value.Int a) h s = after_right (IsSingle) (integer (ranged single a)) (value.Int (nearest single a)) (integer_single (ranged single a) (ranged_is single a)) (near_single _ (nearest_is single a))
mended_store_is kind.Double (value.Int a) h s = h
mended_store_is (kind.Bits n) (value.Bits len word) h s = fitted_is_bits n (bits_of len word)
mended_store_is (kind.Text n) (value.Int a) h s = take_room n (signed_decimal a)
mended_store_is (kind.Text n) (value.Text text) h s = take_room n text
mended_store_is kind.Single (value.Bits len word) h s = absurd s
mended_store_is kind.Single (value.Text text) h s = absurd s
mended_store_is kind.Double (value.Bits len word) h s = absurd s
mended_store_is kind.Double (value.Text text) h s = absurd s
mended_store_is (kind.Bits n) (value.Int a) h s = absurd s
mended_store_is (kind.Bits n) (value.Text text) h s = absurd s
mended_store_is (kind.Text n) (value.Bits len word) h s = absurd s

same_word : (n len word : ℕ) → len ≡ n → word < 2 ^ n → string (fitted_string n (bits_of len word)) ≡ value.Bits len word
same_word n len word size below = fitted_word n len word (subst (λ k. word < 2 ^ k) (sym size) below) ∙ ap₂ value.Bits (sym size) (mod-eq_of_lt below)

near_within : (bits : ℕ) (z : ℤ) → IsNear bits z → is_within bits z ≡ true
near_within bits (pos n) h = lt-ltb n (2 ^ bits) h
near_within bits (negsuc n) h = lt-ltb n (2 ^ bits) h

-- a value of the kind stays as it is
pub stored_stays : (k : Kind) (v : Value) → IsOfKind k v → stored k v ≡ Ok v
stored_stays kind.Single (value.Int a) h = rw (near_within single a (single_near a h)) refl
stored_stays kind.Single (value.Bits len word) h = absurd h
stored_stays kind.Single (value.Text text) h = absurd h
stored_stays kind.Double (value.Int a) h = refl
stored_stays kind.Double (value.Bits len word) h = absurd h
stored_stays kind.Double (value.Text text) h = absurd h
stored_stays (kind.Bits n) (value.Int a) h = absurd h
stored_stays (kind.Bits n) (value.Bits len word) h = ap Ok (same_word n len word h.0 h.1)
stored_stays (kind.Bits n) (value.Text text) h = absurd h
stored_stays (kind.Text n) (value.Int a) h = absurd h
stored_stays (kind.Text n) (value.Bits len word) h = absurd h
stored_stays (kind.Text n) (value.Text text) h = ap (λ t. Ok (value.Text t)) (take_all n text h)

both : (p q : Bool) → (p && q) ≡ true → (p ≡ true) × (q ≡ true)
both true q e = (refl, e)
both false q e = absurd (cc)

first-place : (size : ℕ) (f : ℤ) → is_place size f ≡ true → (before f < size) × (pos (before f) ≡ f -ℤ pos 1)
first-place size f e = grind (arith, ints)

last-place : (size : ℕ) (l : ℤ) → is_place size l ≡ true → (through l ≤ size) × (pos (through l) ≡ l)
last-place size l e = grind (arith, ints)

-- the places of a part that lies in a bit string
string-places : (size : ℕ) (f l : ℤ) → ((is_place size f && is_place size l) && not (int_lt l f)) ≡ true → (before f < through l) × (through l ≤ size)
string-places size f l e =
    let parts = both _ _ e in let ends = both _ _ parts.0 in
    let first = first-place size f ends.0 in let last = last-place size l ends.1 in let order = parts.1 in
    (grind (arith, ints), last.0)

-- the places of a part that lies in a text
text-places : (size : ℕ) (f l : ℤ) → ((is_place size f && is_place size l) && not (int_lt (l +ℤ pos 1) f)) ≡ true → (before f ≤ through l) × (through l ≤ size)
text-places size f l e =
    let parts = both _ _ e in let ends = both _ _ parts.0 in
    let first = first-place size f ends.0 in let last = last-place size l ends.1 in let order = parts.1 in
    (grind (arith, ints), last.0)

-- the nearest places
nearest-places : (size : ℕ) (f l : ℤ) → 1 ≤ size
    → (before (nearest_place (pos 1) size f) < through (nearest_place (nearest_place (pos 1) size f) size l)) × (through (nearest_place (nearest_place (pos 1) size f) size l) ≤ size)
nearest-places size f l some = (grind (arith, ints), grind (arith, ints))

length-part : {X : Type 0} (from to : ℕ) (xs : List X) → to ≤ length xs → length (taken from to xs) ≡ to - from
length-part from to xs within = omega (arith, within, length-drop from (take to xs), length-take to xs)

less-part : {X : Type 0} (from to : ℕ) (xs : List X) → length (taken from to xs) ≤ length xs
less-part from to xs = omega (arith, length-drop from (take to xs), length-take to xs)

length-replaced : {X : Type 0} (from to : ℕ) (new xs : List X) → from ≤ to → to ≤ length xs → length new ≡ to - from → length (put from to new xs) ≡ length xs
length-replaced from to new xs order within size =
    omega (arith, order, within, size, length-append (take from xs) (new ++ drop to xs), length-append new (drop to xs), length-take from xs, length-drop to xs)

length-justified : (n : ℕ) (text : List ℕ) → length (left_justified n text) ≡ n
length-justified n text = omega (arith, length-take n (text ++ blanks n), length-append text (blanks n), length-replicate {A = ℕ} n 32)

-- the bits of a part
taken_room : (from to len word : ℕ) → IsString len word → from < to → to ≤ len → IsRight (string (taken from to (bits_of len word))) × (length (taken from to (bits_of len word)) ≡ to - from)
taken_room from to len word h order within =
    let size : length (taken from to (bits_of len word)) ≡ to - from = length-part from to (bits_of len word) (omega (arith, within, length-bits_of len word)) in
    (string_right (taken from to (bits_of len word)) (omega (arith, size, order), omega (arith, size, within, h.1)), size)

string_part : (len word : ℕ) (part : Part) (test : Bool) → IsString len word → is_string_part len part ≡ test
    → IfOk (if test then Ok (string (taken (before (first_place part)) (through (last_place part)) (bits_of len word))) else Err no_place) (IsPart part (value.Bits len word))
string_part len word part true h e =
    let places = string-places len (first_place part) (last_place part) e in
    let room = taken_room (before (first_place part)) (through (last_place part)) len word h places.0 places.1 in
    (record { right = room.0; alike = tt }, room.1)
string_part len word part false h e = tt

text_part : (text : List ℕ) (part : Part) (test : Bool) → length text ≤ 255 → is_text_part (length text) part ≡ test
    → IfOk (if test then Ok (value.Text (taken (before (first_place part)) (through (last_place part)) text)) else Err no_place) (IsPart part (value.Text text))
text_part text part true h e =
    let places = text-places (length text) (first_place part) (last_place part) e in
    (record { right = omega (arith, h, less-part (before (first_place part)) (through (last_place part)) text); alike = tt }, length-part (before (first_place part)) (through (last_place part)) text places.1)
text_part text part false h e = tt

-- a part of a right value
pub picked_is : (v : Value) (part : Part) → IsRight v → IfOk (picked v part) (IsPart part v)
picked_is (value.Int a) part h = refl
picked_is (value.Bits len word) part h = string_part len word part (is_string_part len part) h refl
picked_is (value.Text text) part h = text_part text part (is_text_part (length text) part) h refl

also_int : (a : ℤ) (w : Value) → IsRight (value.Int a) → w ≡ value.Int a → IsAlso (value.Int a) w
also_int a w h same = subst (λ x. IsAlso (value.Int a) x) (sym same) (record { right = h; alike = tt })

part_also : (part : Part) (v w : Value) → IsRight v → IsPart part v w → IsAlso v w
part_also part (value.Int a) w h p = also_int a w h p
part_also part (value.Bits len word) w h p = p.0
part_also part (value.Text text) w h p = p.0

parts_also : (part : Part) (v : Value) (result : Result Value ErrNo) → IsRight v → IfOk result (IsPart part v) → IfOk result (IsAlso v)
parts_also part v (Ok w) h p = part_also part v w h p
parts_also part v (Err e) h p = tt

nearest_also : (v : Value) (part : Part) → IsRight v → IsAlso v (nearest_part v part)
nearest_also (value.Int a) part h = record { right = h; alike = tt }
nearest_also (value.Bits len word) part h =
    let places = nearest-places len (first_place part) (last_place part) h.0 in
    record { right = (taken_room (before (mended_first len part)) (through (mended_last len part)) len word h places.0 places.1).0; alike = tt }
nearest_also (value.Text text) part h =
    record { right = omega (arith, h, less-part (before (mended_first (length text) part)) (through (mended_last (length text) part)) text); alike = tt }

-- also after an ignored error
pub mended_pick_also : (v : Value) (part : Part) → IsRight v → IsAlso v (mended_pick v part)
mended_pick_also v part h = after_right (IsAlso v) (picked v part) (nearest_part v part) (parts_also part v (picked v part) h (picked_is v part h)) (nearest_also v part h)

-- a string with a part replaced has its length
length-patched : (from to len word : ℕ) (new : List Bool) → from ≤ to → to ≤ len → length (patched_string from to new (bits_of len word)) ≡ len
length-patched from to len word new order within =
    length-replaced from to (fitted_string (to - from) new) (bits_of len word) order (omega (arith, within, length-bits_of len word)) (length-fitted (to - from) new) ∙ length-bits_of len word

length-patched_text : (from to : ℕ) (new text : List ℕ) → from ≤ to → to ≤ length text → length (patched_text from to new text) ≡ length text
length-patched_text from to new text order within = length-replaced from to (left_justified (to - from) new) text order within (length-justified (to - from) new)

patched_bits_kind : (n len word : ℕ) (part : Part) (new : List Bool) (test : Bool) → len ≡ n → is_string_part len part ≡ test
    → IfOk (if test then Ok (string (patched_string (before (first_place part)) (through (last_place part)) new (bits_of len word))) else Err no_place) (IsBits n)
patched_bits_kind n len word part new true size e =
    let places = string-places len (first_place part) (last_place part) e in
    string_is_bits n _ (length-patched (before (first_place part)) (through (last_place part)) len word new (omega (arith, places.0)) places.1 ∙ size)
patched_bits_kind n len word part new false size e = tt

patched_text_kind : (n : ℕ) (text : List ℕ) (part : Part) (new : List ℕ) (test : Bool) → length text ≤ n → is_text_part (length text) part ≡ test
    → IfOk (if test then Ok (value.Text (patched_text (before (first_place part)) (through (last_place part)) new text)) else Err no_place) (IsText n)
patched_text_kind n text part new true fits e =
    let places = text-places (length text) (first_place part) (last_place part) e in
    omega (arith, fits, length-patched_text (before (first_place part)) (through (last_place part)) new text places.0 places.1)
patched_text_kind n text part new false fits e = tt

-- a value whose part was replaced is of the kind that it was of
pub patched_is : (k : Kind) (v new : Value) (part : Part) → IsOfKind k v → IfOk (patched v part new) (IsOfKind k)
patched_is k (value.Int a) new part h = h
patched_is kind.Single (value.Bits len word) new part h = absurd h
patched_is kind.Double (value.Bits len word) new part h = absurd h
patched_is (kind.Bits n) (value.Bits len word) new part h = patched_bits_kind n len word part (new_bits new) (is_string_part len part) h.0 refl
patched_is (kind.Text n) (value.Bits len word) new part h = absurd h
patched_is kind.Single (value.Text text) new part h = absurd h
patched_is kind.Double (value.Text text) new part h = absurd h
patched_is (kind.Bits n) (value.Text text) new part h = absurd h
patched_is (kind.Text n) (value.Text text) new part h = patched_text_kind n text part (new_bytes new) (is_text_part (length text) part) h refl

length-nearest : (part : Part) (new text : List ℕ) → length (nearest_patch part new text) ≡ length text
length-nearest part new [] = refl
length-nearest part new (byte ∷ bytes) =
    let places = nearest-places (length (byte ∷ bytes)) (first_place part) (last_place part) (omega arith) in
    length-patched_text (before (mended_first (length (byte ∷ bytes)) part)) (through (mended_last (length (byte ∷ bytes)) part)) new (byte ∷ bytes) (omega (arith, places.0)) places.1

nearest_patched_is : (k : Kind) (v new : Value) (part : Part) → IsKind k → IsOfKind k v → IsOfKind k (nearest_patched v part new)
nearest_patched_is k (value.Int a) new part s h = h
nearest_patched_is kind.Single (value.Bits len word) new part s h = absurd h
nearest_patched_is kind.Double (value.Bits len word) new part s h = absurd h
nearest_patched_is (kind.Bits n) (value.Bits len word) new part s h =
    let places = nearest-places len (first_place part) (last_place part) (omega (arith, s.0, h.0)) in
    string_is_bits n _ (length-patched (before (mended_first len part)) (through (mended_last len part)) len word (new_bits new) (omega (arith, places.0)) places.1 ∙ h.0)
nearest_patched_is (kind.Text n) (value.Bits len word) new part s h = absurd h
nearest_patched_is kind.Single (value.Text text) new part s h = absurd h
nearest_patched_is kind.Double (value.Text text) new part s h = absurd h
nearest_patched_is (kind.Bits n) (value.Text text) new part s h = absurd h
nearest_patched_is (kind.Text n) (value.Text text) new part s h = omega (arith, h, length-nearest part (new_bytes new) text)

-- also after an ignored error
pub mended_patch_is : (k : Kind) (v new : Value) (part : Part) → IsKind k → IsOfKind k v → IsOfKind k (mended_patch v part new)
mended_patch_is k v new part s h = after_right (IsOfKind k) (patched v part new) (nearest_patched v part new) (patched_is k v new part h) (nearest_patched_is k v new part s h)

string_of : (n len word : ℕ) → 1 ≤ n → n ≤ 32 → len ≡ n → word < 2 ^ n → IsString len word
string_of n len word some few size below = (omega (arith, some, size), omega (arith, few, size), subst (λ k. word < 2 ^ k) (sym size) below)

wider : (z : ℤ) → IsNear 15 z → IsNear 31 z
wider (pos n) h = omega (arith, h)
wider (negsuc n) h = omega (arith, h)

-- a value of a kind is right
pub right_is : (k : Kind) (v : Value) → IsKind k → IsOfKind k v → IsRight v
right_is kind.Single (value.Int a) s h = near_integer a (wider a (single_near a h))
right_is kind.Single (value.Bits len word) s h = absurd h
right_is kind.Single (value.Text text) s h = absurd h
right_is kind.Double (value.Int a) s h = h
right_is kind.Double (value.Bits len word) s h = absurd h
right_is kind.Double (value.Text text) s h = absurd h
right_is (kind.Bits n) (value.Int a) s h = absurd h
right_is (kind.Bits n) (value.Bits len word) s h = string_of n len word s.0 s.1 h.0 h.1
right_is (kind.Bits n) (value.Text text) s h = absurd h
right_is (kind.Text n) (value.Int a) s h = absurd h
right_is (kind.Text n) (value.Bits len word) s h = absurd h
right_is (kind.Text n) (value.Text text) s h = omega (arith, h, s.1)

-- a right value is of a kind
pub kind_is : (v : Value) → IsRight v → (k : Kind) × IsKind k × IsOfKind k v
kind_is (value.Int a) h = (kind.Double, tt, h)
kind_is (value.Bits len word) h = (kind.Bits len, (h.0, h.1), (refl, h.2))
kind_is (value.Text text) h = (kind.Text 255, (omega arith, omega arith), h)

-- a datum can be stored
pub datum_is : (k : Kind) (v : Value) → IsKind k → IsDatum k v → IsRight v × IsStorable k v
datum_is kind.Single (value.Int a) s h = (h, tt)
datum_is kind.Single (value.Bits len word) s h = absurd h
datum_is kind.Single (value.Text text) s h = absurd h
datum_is kind.Double (value.Int a) s h = (h, tt)
datum_is kind.Double (value.Bits len word) s h = absurd h
datum_is kind.Double (value.Text text) s h = absurd h
datum_is (kind.Bits n) (value.Int a) s h = absurd h.3
datum_is (kind.Bits n) (value.Bits len word) s h =
    let full = string_of h.0 len word h.1 h.2 h.3.0 h.3.1 in
    (full, (s.0, s.1, full))
datum_is (kind.Bits n) (value.Text text) s h = absurd h.3
datum_is (kind.Text n) (value.Int a) s h = absurd h
datum_is (kind.Text n) (value.Bits len word) s h = absurd h
datum_is (kind.Text n) (value.Text text) s h = (h, s)
