-- A number by its parts.
use Rattle.std.specs.Prelude.{ℕ, ◌+◌, ◌-◌, ◌*◌, ◌^◌, nat_lt, nat_le, ◌==◌, Bool, ◌||◌, List, length, map, Option, Some, None, if◌then◌else◌}
use Rattle.hal_words.specs.declared.word.Word.TheVariants as word
use Rattle.hal_words.specs.Letters.{is_letter}
use Rattle.hal_words.specs.Numbers.{written, begins}
use Rattle.hal_words.specs.Pieces.{Piece, Is, Wrong}

-- the values of digits
abbrev pub values : List ℕ → List ℕ
values digits = map (λ b. b - 48) digits

-- a letter or an underscore follows directly
abbrev pub is_followed : List ℕ → Bool
is_followed rest = begins (λ b. is_letter b || b == 95) rest

-- digits with no point, and what follows them
abbrev pub integer_piece : List ℕ → List ℕ → Piece
integer_piece whole rest =
    if is_followed rest then Wrong 208
    else if nat_lt (written 10 (values whole)) (2 ^ 31) then Is (word.Integer (written 10 (values whole)))
    else Wrong 204

-- digits after a point in thousandths, where there are at most three
abbrev pub fraction_value : List ℕ → Option ℕ
fraction_value digits = if nat_le (length digits) 3 then Some (written 10 (values digits) * 10 ^ (3 - length digits)) else None

abbrev pub decimal_or_wrong : ℕ → Option ℕ → Piece
decimal_or_wrong whole None = Wrong 204
decimal_or_wrong whole (Some fraction) = if nat_lt whole (2 ^ 31) then Is (word.Decimal (whole * 1000 + fraction)) else Wrong 204

-- digits before and after a point, and what follows them
abbrev pub decimal_piece : List ℕ → List ℕ → List ℕ → Piece
decimal_piece whole fraction rest =
    if is_followed rest then Wrong 208
    else decimal_or_wrong (written 10 (values whole)) (fraction_value fraction)
