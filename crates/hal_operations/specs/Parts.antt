-- Components of bit strings and texts: which part a subscript chooses, and what replacing it gives. Places count from 1.
use Rattle.std.specs.Prelude.{ℕ, ◌-◌, ℤ, pos, ◌+ℤ◌, ◌-ℤ◌, unsigned_abs, int_lt, Bool, not, ◌&&◌, List, [], ◌∷◌, ◌++◌, length, take, drop, Result, Ok, Err, if◌then◌else◌}
use Rattle.std.specs.Int.{int_min, int_max}
use Rattle.std.specs.Fmt.{signed_decimal}
use Rattle.hal_values.specs.declared.environment.ErrNo.{ErrNo}
use Rattle.hal_values.specs.declared.value.Value.{Value}
use Rattle.hal_values.specs.declared.value.Value.TheVariants as value
use Rattle.hal_operations.specs.declared.part.Part.{Part}
use Rattle.hal_operations.specs.declared.part.Part.TheVariants as part
use Rattle.hal_operations.specs.Errors.{no_place, after_ignored}
use Rattle.hal_operations.specs.Strings.{bits_of, string, fitted_string}
use Rattle.hal_operations.specs.Texts.{left_justified}

-- the first place of a part
abbrev pub first_place : Part → ℤ
first_place (part.One place) = place
first_place (part.To first last) = first
first_place (part.At count first) = first

-- its last place, exactly
abbrev pub last_place : Part → ℤ
last_place (part.One place) = place
last_place (part.To first last) = last
last_place (part.At count first) = (first +ℤ count) -ℤ pos 1

-- the place lies in a value of so many places
abbrev pub is_place : ℕ → ℤ → Bool
is_place size place = not (int_lt place (pos 1)) && not (int_lt (pos size) place)

-- the part lies in a bit string: it has at least one place
abbrev pub is_string_part : ℕ → Part → Bool
is_string_part size chosen =
    (is_place size (first_place chosen) && is_place size (last_place chosen)) && not (int_lt (last_place chosen) (first_place chosen))

-- the part lies in a text: it may be empty, and then it ends just before it begins
abbrev pub is_text_part : ℕ → Part → Bool
is_text_part size chosen =
    (is_place size (first_place chosen) && is_place size (last_place chosen)) && not (int_lt (last_place chosen +ℤ pos 1) (first_place chosen))

-- the nearest place from `low` to the size
abbrev pub nearest_place : ℤ → ℕ → ℤ → ℤ
nearest_place low size place = int_max low (int_min place (pos size))

-- after an ignored error the first place is the nearest of the value
abbrev pub mended_first : ℕ → Part → ℤ
mended_first size chosen = nearest_place (pos 1) size (first_place chosen)

-- and the last place is the nearest from there on
abbrev pub mended_last : ℕ → Part → ℤ
mended_last size chosen = nearest_place (mended_first size chosen) size (last_place chosen)

-- how many places are before a part with this first place
abbrev pub before : ℤ → ℕ
before first = unsigned_abs (first -ℤ pos 1)

-- how many places there are through a part with this last place
abbrev pub through : ℤ → ℕ
through last = unsigned_abs last

-- the elements of a list after the first `from`, through the first `to`
abbrev pub taken : {T : Type 0} → ℕ → ℕ → List T → List T
taken from to xs = drop from (take to xs)

-- the list with others in their place
abbrev pub put : {T : Type 0} → ℕ → ℕ → List T → List T → List T
put from to new xs = take from xs ++ (new ++ drop to xs)

-- a string with another one in place of its bits, cut or filled with zeros on its left
abbrev pub patched_string : ℕ → ℕ → List Bool → List Bool → List Bool
patched_string from to new bits = put from to (fitted_string (to - from) new) bits

-- a text with another one in place of its bytes, cut or filled with blanks on its right
abbrev pub patched_text : ℕ → ℕ → List ℕ → List ℕ → List ℕ
patched_text from to new text = put from to (left_justified (to - from) new) text

-- a part of a bit string or a text, or the error where it doesn't lie in it
abbrev pub picked : Value → Part → Result Value ErrNo
picked (value.Int a) chosen = Ok (value.Int a)
picked (value.Bits len word) chosen =
    if is_string_part len chosen then Ok (string (taken (before (first_place chosen)) (through (last_place chosen)) (bits_of len word))) else Err no_place
picked (value.Text text) chosen =
    if is_text_part (length text) chosen then Ok (value.Text (taken (before (first_place chosen)) (through (last_place chosen)) text)) else Err no_place

-- the part of the nearest places; of the empty text it is empty
abbrev pub nearest_part : Value → Part → Value
nearest_part (value.Int a) chosen = value.Int a
nearest_part (value.Bits len word) chosen = string (taken (before (mended_first len chosen)) (through (mended_last len chosen)) (bits_of len word))
nearest_part (value.Text text) chosen = value.Text (taken (before (mended_first (length text) chosen)) (through (mended_last (length text) chosen)) text)

-- a part after an ignored error
abbrev pub mended_pick : Value → Part → Value
mended_pick v chosen = after_ignored (picked v chosen) (nearest_part v chosen)

-- the bits that take the place of a part of a bit string
abbrev pub new_bits : Value → List Bool
new_bits (value.Int a) = []
new_bits (value.Bits len word) = bits_of len word
new_bits (value.Text text) = []

-- the bytes that take the place of a part of a text: an integer's are decimal
abbrev pub new_bytes : Value → List ℕ
new_bytes (value.Int a) = signed_decimal a
new_bytes (value.Bits len word) = []
new_bytes (value.Text text) = text

-- the value with its part replaced, or the error where the part doesn't lie in it
abbrev pub patched : Value → Part → Value → Result Value ErrNo
patched (value.Int a) chosen new = Ok (value.Int a)
patched (value.Bits len word) chosen new =
    if is_string_part len chosen then Ok (string (patched_string (before (first_place chosen)) (through (last_place chosen)) (new_bits new) (bits_of len word)))
    else Err no_place
patched (value.Text text) chosen new =
    if is_text_part (length text) chosen then Ok (value.Text (patched_text (before (first_place chosen)) (through (last_place chosen)) (new_bytes new) text))
    else Err no_place

-- the text with the part of the nearest places replaced; the empty text takes no part
abbrev pub nearest_patch : Part → List ℕ → List ℕ → List ℕ
nearest_patch chosen new [] = []
nearest_patch chosen new (byte ∷ bytes) =
    patched_text (before (mended_first (length (byte ∷ bytes)) chosen)) (through (mended_last (length (byte ∷ bytes)) chosen)) new (byte ∷ bytes)

-- the value with the part of the nearest places replaced
abbrev pub nearest_patched : Value → Part → Value → Value
nearest_patched (value.Int a) chosen new = value.Int a
nearest_patched (value.Bits len word) chosen new =
    string (patched_string (before (mended_first len chosen)) (through (mended_last len chosen)) (new_bits new) (bits_of len word))
nearest_patched (value.Text text) chosen new = value.Text (nearest_patch chosen (new_bytes new) text)

-- the value with its part replaced, after an ignored error
abbrev pub mended_patch : Value → Part → Value → Value
mended_patch v chosen new = after_ignored (patched v chosen new) (nearest_patched v chosen new)

-- the number of places, which `#` stands for
abbrev pub place_count : Value → ℕ
place_count (value.Int a) = 0
place_count (value.Bits len word) = len
place_count (value.Text text) = length text
