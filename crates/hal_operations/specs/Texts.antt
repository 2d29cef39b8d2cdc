-- Operations on texts, as lists of bytes.
use Rattle.std.specs.Prelude.{ℕ, zero, suc, ℤ, pos, negsuc, neg_ℤ, min, ◌==◌, nat_lt, nat_le, Bool, true, false, ◌&&◌, ◌||◌, List, [], ◌∷◌, ◌++◌, take, replicate, reverse, Option, Some, None, option_map, Result, Ok, Err, if◌then◌else◌}
use Rattle.std.specs.List.{list_all}
use Rattle.std.specs.Str.Parse.{digits_value}
use Rattle.hal_base.specs.Digits.{is_digit}
use Rattle.hal_values.specs.declared.environment.ErrNo.{ErrNo}
use Rattle.hal_values.specs.declared.value.Value.{Value}
use Rattle.hal_values.specs.declared.value.Value.TheVariants as value
use Rattle.hal_operations.specs.Errors.{no_integer}
use Rattle.hal_operations.specs.Integers.{double, is_within}
use Rattle.hal_operations.specs.Strings.{last}

-- the most bytes of a text
abbrev pub text_room : ℕ
text_room = 255

abbrev pub blanks : ℕ → List ℕ
blanks n = replicate n 32

-- two texts joined, of which the first 255 bytes are kept
abbrev pub joined_text : List ℕ → List ℕ → List ℕ
joined_text xs ys = take text_room (xs ++ ys)

-- the one text comes before the other by its bytes, a prefix first
abbrev pub is_before : List ℕ → List ℕ → Bool
is_before xs [] = false
is_before [] (y ∷ ys) = true
is_before (x ∷ xs) (y ∷ ys) = nat_lt x y || (x == y && is_before xs ys)

-- the text begins with these bytes
abbrev pub begins_with : List ℕ → List ℕ → Bool
begins_with text [] = true
begins_with [] (byte ∷ bytes) = false
begins_with (first ∷ text) (byte ∷ bytes) = first == byte && begins_with text bytes

-- one place further, where there is a place
abbrev pub one_further : ℕ → ℕ
one_further zero = zero
one_further (suc place) = suc (suc place)

-- the first place, from 1, at which these bytes stand, or 0
abbrev pub first_place : List ℕ → List ℕ → ℕ
first_place [] bytes = 0
first_place (first ∷ text) bytes = if begins_with (first ∷ text) bytes then 1 else one_further (first_place text bytes)

-- the same; the empty text stands nowhere
abbrev pub index : List ℕ → List ℕ → ℕ
index text [] = 0
index text (byte ∷ bytes) = first_place text (byte ∷ bytes)

-- the text with n bytes: blanks added or bytes cut on the right
abbrev pub left_justified : ℕ → List ℕ → List ℕ
left_justified n text = take n (text ++ blanks n)

-- the text with n bytes: blanks added or bytes cut on the left
abbrev pub right_justified : ℕ → List ℕ → List ℕ
right_justified n text = last n (blanks n ++ text)

-- a length that a justified text may have
abbrev pub is_width : ℤ → Bool
is_width (pos n) = nat_le n text_room
is_width (negsuc n) = false

-- the nearest such length
abbrev pub width : ℤ → ℕ
width (pos n) = min n text_room
width (negsuc n) = 0

-- without the blanks that it begins with
abbrev pub after_blanks : List ℕ → List ℕ
after_blanks [] = []
after_blanks (byte ∷ bytes) = if byte == 32 then after_blanks bytes else byte ∷ bytes

-- without blanks at both ends
abbrev pub trimmed : List ℕ → List ℕ
trimmed text = reverse (after_blanks (reverse (after_blanks text)))

-- the number that digits alone write, at least one
abbrev pub number_of : List ℕ → Option ℕ
number_of [] = None
number_of (first ∷ more) = if list_all is_digit (first ∷ more) then Some (digits_value 10 (first ∷ more)) else None

-- the integer that a text writes: a sign or none, and digits
abbrev pub integer_of : List ℕ → Option ℤ
integer_of [] = None
integer_of (first ∷ more) =
    if first == 45 then option_map (λ n. neg_ℤ (pos n)) (number_of more)
    else if first == 43 then option_map pos (number_of more)
    else option_map pos (number_of (first ∷ more))

-- an integer that is read has 32 bits
abbrev pub read : Option ℤ → Result Value ErrNo
read None = Err no_integer
read (Some number) = if is_within double number then Ok (value.Int number) else Err no_integer
