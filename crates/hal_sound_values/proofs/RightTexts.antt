-- Texts that operations give have at most 255 bytes.
use Rattle.std.proofs.Common.{◌≡◌, ℕ, zero, suc, ◌-◌, ◌≤◌, ◌==◌, Bool, true, false, List, [], ◌∷◌, ◌++◌, length, take, ℤ, pos, negsuc, Option, Some, None, Ok, Err, refl, ap, arith, if◌then◌else◌}
use Rattle.std.specs.Prelude.{reverse, IfOk}
use Rattle.std.specs.Fmt.{signed_decimal}
use Rattle.std.proofs.lemmas.Fmt.{length_signed_le}
use Rattle.std.proofs.lemmas.List.{length-take, length-drop, length-reverse}
use Rattle.hal_values.specs.declared.environment.ErrNo.{ErrNo}
use Rattle.hal_values.specs.declared.value.Value.{Value}
use Rattle.hal_values.specs.declared.value.Value.TheVariants as value
use Rattle.hal_values.specs.BitTexts.{bits_text}
use Rattle.hal_operations.specs.Errors.{no_integer}
use Rattle.hal_operations.specs.Integers.{double, is_within}
use Rattle.hal_operations.specs.Strings.{last}
use Rattle.hal_operations.specs.Texts.{blanks, joined_text, begins_with, one_further, first_place, index, left_justified, right_justified, width, after_blanks, trimmed, read}
use Rattle.hal_sound_values.specs.Right.{IsRight}
use Rattle.hal_sound_values.proofs.Near.{IsNear, near_integer, within_near}

pub take_room : {X : Type 0} (n : ℕ) (xs : List X) → length (take n xs) ≤ n
take_room n xs = omega (arith, length-take n xs)

take_less : {X : Type 0} (n : ℕ) (xs : List X) → length (take n xs) ≤ length xs
take_less n xs = omega (arith, length-take n xs)

last_room : {X : Type 0} (n : ℕ) (xs : List X) → length (last n xs) ≤ n
last_room n xs = omega (arith, length-drop (length xs - n) xs)

pub joined_right : (xs ys : List ℕ) → IsRight (value.Text (joined_text xs ys))
joined_right xs ys = take_room 255 (xs ++ ys)

pub width_room : (b : ℤ) → width b ≤ 255
width_room (pos n) = omega arith
width_room (negsuc n) = omega arith

pub left_right : (b : ℤ) (text : List ℕ) → IsRight (value.Text (left_justified (width b) text))
left_right b text = omega (arith, take_room (width b) (text ++ blanks (width b)), width_room b)

pub right_right : (b : ℤ) (text : List ℕ) → IsRight (value.Text (right_justified (width b) text))
right_right b text = omega (arith, last_room (width b) (blanks (width b) ++ text), width_room b)

-- behind the test of a length
pub where_wide : (test : Bool) (e : ErrNo) (v : Value) → IsRight v → IfOk (if test then Ok v else Err e) IsRight
where_wide true e v h = h
where_wide false e v h = tt

-- the decimal text of an integer of 32 bits
pub decimal_right : (a : ℤ) → IsNear 31 a → IsRight (value.Text (signed_decimal a))
decimal_right (pos n) h = omega (arith, h, length_signed_le 10 (pos n) (omega (arith, h)) (omega (arith, h)))
decimal_right (negsuc n) h = omega (arith, h, length_signed_le 10 (negsuc n) (omega (arith, h)) (omega (arith, h)))

length-bits_text : (len word : ℕ) → length (bits_text len word) ≡ len
length-bits_text zero word = refl
length-bits_text (suc len) word = ap suc (length-bits_text len word)

pub bits_text_right : (len word : ℕ) → len ≤ 32 → IsRight (value.Text (bits_text len word))
bits_text_right len word room = omega (arith, room, length-bits_text len word)

after_by : (byte : ℕ) (bytes : List ℕ) (test : Bool) → length (after_blanks bytes) ≤ length bytes → length (if test then after_blanks bytes else byte ∷ bytes) ≤ suc (length bytes)
after_by byte bytes true h = omega (arith, h)
after_by byte bytes false h = omega arith

after_blanks_room : (text : List ℕ) → length (after_blanks text) ≤ length text
after_blanks_room [] = omega arith
after_blanks_room (byte ∷ bytes) = after_by byte bytes (byte == 32) (after_blanks_room bytes)

pub trimmed_room : (text : List ℕ) → length (trimmed text) ≤ length text
trimmed_room text =
    let front = after_blanks text in
    omega (arith, after_blanks_room text, length-reverse front, after_blanks_room (reverse front), length-reverse (after_blanks (reverse front)))

further_room : (place size : ℕ) → place ≤ size → one_further place ≤ suc size
further_room zero size h = omega arith
further_room (suc place) size h = omega (arith, h)

place_by : (place size : ℕ) (test : Bool) → place ≤ size → (if test then 1 else one_further place) ≤ suc size
place_by place size true h = omega arith
place_by place size false h = further_room place size h

first_place_room : (text bytes : List ℕ) → first_place text bytes ≤ length text
first_place_room [] bytes = omega arith
first_place_room (first ∷ text) bytes = place_by (first_place text bytes) (length text) (begins_with (first ∷ text) bytes) (first_place_room text bytes)

pub index_room : (text bytes : List ℕ) → index text bytes ≤ length text
index_room text [] = omega arith
index_room text (byte ∷ bytes) = first_place_room text (byte ∷ bytes)

read_by : (z : ℤ) (test : Bool) → is_within double z ≡ test → IfOk (if test then Ok (value.Int z) else Err no_integer) IsRight
read_by z true e = near_integer z (within_near double z e)
read_by z false e = tt

pub read_right : (found : Option ℤ) → IfOk (read found) IsRight
read_right None = tt
read_right (Some z) = read_by z (is_within double z) refl
