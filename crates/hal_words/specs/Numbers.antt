-- Numbers of the source: digits, with one point or without.
use Rattle.std.specs.Prelude.{ℕ, ◌+◌, ◌-◌, ◌*◌, ◌^◌, nat_lt, nat_le, ◌==◌, Bool, false, not, ◌&&◌, ◌||◌, List, [], ◌∷◌, length, map, fold, take_while, drop, if◌then◌else◌}
use Rattle.hal_base.specs.Digits.{is_digit}
use Rattle.hal_words.specs.Letters.{is_letter}

-- the number that digits write in a base
abbrev pub written : ℕ → List ℕ → ℕ
written base digits = fold (λ front digit. front * base + digit) 0 digits

-- the text begins with a byte of the class
abbrev pub begins : (ℕ → Bool) → List ℕ → Bool
begins test [] = false
begins test (b ∷ text) = test b

-- the digits that a text begins with, as their values
abbrev pub front_digits : List ℕ → List ℕ
front_digits text = map (λ b. b - 48) (take_while is_digit text)

-- what follows them
abbrev pub after_digits : List ℕ → List ℕ
after_digits text = drop (length (front_digits text)) text

-- a point follows
abbrev pub has_point : List ℕ → Bool
has_point text = begins (λ b. b == 46) (after_digits text)

-- the digits after the point
abbrev pub fraction : List ℕ → List ℕ
fraction text = front_digits (drop 1 (after_digits text))

-- how many bytes the number has
abbrev pub number_size : List ℕ → ℕ
number_size text = if has_point text then length (front_digits text) + 1 + length (fraction text) else length (front_digits text)

-- the text begins with a number: a digit, or a point directly followed by one
abbrev pub begins_number : List ℕ → Bool
begins_number text = begins is_digit text || (begins (λ b. b == 46) text && begins is_digit (drop 1 text))

-- a letter or an underscore follows the number directly
abbrev pub runs_on : List ℕ → Bool
runs_on text = begins (λ b. is_letter b || b == 95) (drop (number_size text) text)

-- a number with a point in thousandths: at most three digits after the point
abbrev pub thousandths : List ℕ → ℕ
thousandths text = written 10 (front_digits text) * 1000 + written 10 (fraction text) * 10 ^ (3 - length (fraction text))

-- the number is in its range
abbrev pub is_number : List ℕ → Bool
is_number text = nat_lt (written 10 (front_digits text)) (2 ^ 31) && (not (has_point text) || nat_le (length (fraction text)) 3)
