-- What stands at a byte of a line: the longest word that begins there, or what is wrong there.
use Rattle.std.specs.Prelude.{ℕ, ◌+◌, nat_le, ◌==◌, Bool, not, ◌&&◌, List, [], ◌∷◌, length, map, drop, take_while, Option, Some, None, if◌then◌else◌}
use Rattle.std.specs.List.{list_all}
use Rattle.hal_words.specs.declared.reserved.Reserved.{Reserved}
use Rattle.hal_words.specs.declared.reserved.Reserved.TheVariants as reserved
use Rattle.hal_words.specs.declared.word.Symbol.TheVariants as symbol
use Rattle.hal_words.specs.declared.word.Word.{Word}
use Rattle.hal_words.specs.declared.word.Word.TheVariants as word
use Rattle.hal_words.specs.Letters.{is_blank, is_letter, is_name_byte, is_plain, capital}
use Rattle.hal_words.specs.Numbers.{written, begins, front_digits, has_point, number_size, begins_number, runs_on, thousandths, is_number}
use Rattle.hal_words.specs.Literals.{Base, base_of, bits_between, inside, blank_for_tab}
use Rattle.hal_words.specs.Reserved.{reserved_words, left_out_words, look_up}

-- what stands there, and how many bytes it takes: a word, the text of a definition between two `"`, a `"` that opens one and is open at the line's end, or a broken rule
pub data Piece : Type 0 where
  Is : Word → Piece
  Replacement : List ℕ → Piece
  Open : Piece
  Wrong : ℕ → Piece

abbrev pub Sized : Type 0
Sized = Piece × ℕ

-- what a run of letters is, by what the two lists say of it
abbrev pub known : Option Reserved → Option ℕ → List ℕ → Piece
known (Some one) left_out run = Is (word.Reserved one)
known None (Some rule) run = Wrong rule
known None None run = if nat_le (length run) 32 then Is (word.Name run) else Wrong 203

-- the letters, digits and underscores that a text begins with, in capitals
abbrev pub run_of : List ℕ → List ℕ
run_of text = map capital (take_while is_name_byte text)

-- what follows the blanks that a text begins with
abbrev pub after_blanks : List ℕ → List ℕ
after_blanks text = drop (length (take_while is_blank text)) text

-- the bytes up to a quote
abbrev pub up_to_quote : List ℕ → List ℕ
up_to_quote text = take_while (λ b. not (b == 39)) text

abbrev pub bits_or_wrong : Option (ℕ × ℕ) → Piece
bits_or_wrong None = Wrong 204
bits_or_wrong (Some bits) = Is (word.Bits bits.0 bits.1)

-- a bit literal: `before` bytes of base and blanks, and the line from behind its first quote
abbrev pub bits : Base → ℕ → List ℕ → Sized
bits base before text =
    let bytes = up_to_quote text in
    if begins (λ b. b == 39) (drop (length bytes) text) then (bits_or_wrong (bits_between base bytes), before + (length bytes + 2)) else (Wrong 202, before + (length text + 1))

abbrev pub with_base : Option Base → List ℕ → List ℕ → Sized
with_base None run after = (known (look_up reserved_words run) (look_up left_out_words run) run, length run)
with_base (Some base) run after =
    if begins (λ b. b == 39) (after_blanks after) then bits base (length run + length (take_while is_blank after)) (drop 1 (after_blanks after))
    else (known (look_up reserved_words run) (look_up left_out_words run) run, length run)

abbrev pub number_piece : List ℕ → Piece
number_piece text =
    if runs_on text then Wrong 208
    else if not (is_number text) then Wrong 204
    else if has_point text then Is (word.Decimal (thousandths text))
    else Is (word.Integer (written 10 (front_digits text)))

-- the text of a literal: plain bytes alone, at most 255 of them
abbrev pub text_piece : List ℕ → Piece
text_piece bytes =
    if not (list_all is_plain bytes) then Wrong 201
    else if nat_le (length bytes) 255 then Is (word.Text (map blank_for_tab bytes))
    else Wrong 204

abbrev pub literal_piece : ℕ → Option (List ℕ × ℕ) → Sized
literal_piece left None = (Wrong 202, left + 1)
literal_piece left (Some found) = (text_piece found.0, found.1 + 1)

-- letters: behind the base of a bit literal, blanks or none and a quote make them one
abbrev pub letters : List ℕ → Sized
letters text = with_base (base_of (run_of text)) (run_of text) (drop (length (run_of text)) text)

-- a number
abbrev pub number : List ℕ → Sized
number text = (number_piece text, number_size text)

-- a text literal, behind the quote that begins it
abbrev pub literal : List ℕ → Sized
literal text = literal_piece (length text) (inside text)

-- the text of a replacement, behind the `"` that begins it
abbrev pub replacement : List ℕ → Sized
replacement text =
    let bytes = take_while (λ b. not (b == 34)) text in
    if begins (λ b. b == 34) (drop (length bytes) text) then (Replacement bytes, length bytes + 2) else (Open, length text + 1)

-- one byte: a symbol, or what is wrong with it
abbrev pub sign : ℕ → Piece
sign b =
    if b == 43 then Is (word.Symbol symbol.Plus) else if b == 45 then Is (word.Symbol symbol.Minus)
    else if b == 42 then Is (word.Symbol symbol.Star) else if b == 46 then Is (word.Symbol symbol.Point)
    else if b == 124 then Is (word.Reserved reserved.Or) else if b == 38 then Is (word.Reserved reserved.And)
    else if b == 61 then Is (word.Symbol symbol.Equals) else if b == 60 then Is (word.Symbol symbol.Less)
    else if b == 62 then Is (word.Symbol symbol.Greater) else if b == 40 then Is (word.Symbol symbol.LeftParenthesis)
    else if b == 41 then Is (word.Symbol symbol.RightParenthesis) else if b == 44 then Is (word.Symbol symbol.Comma)
    else if b == 59 then Is (word.Symbol symbol.Semicolon) else if b == 58 then Is (word.Symbol symbol.Colon)
    else if b == 36 then Is (word.Symbol symbol.Dollar) else if b == 35 then Is (word.Symbol symbol.Number)
    else if b == 47 then Wrong 304 else if b == 37 then Wrong 316 else if b == 64 then Wrong 321
    else Wrong 201

-- two bytes that make one symbol
abbrev pub pair : ℕ → ℕ → Option Word
pair b c =
    if b == 42 && c == 42 then Some (word.Symbol symbol.Power)
    else if b == 124 && c == 124 then Some (word.Reserved reserved.Cat)
    else if b == 60 && c == 61 then Some (word.Symbol symbol.AtMost)
    else if b == 62 && c == 61 then Some (word.Symbol symbol.AtLeast)
    else None

abbrev pub longer : Option Word → ℕ → Sized
longer None b = (sign b, 1)
longer (Some one) b = (Is one, 2)

-- symbols: the longer one counts
abbrev pub signs : ℕ → List ℕ → Sized
signs b [] = (sign b, 1)
signs b (c ∷ text) = longer (pair b c) b

-- what a text begins with that doesn't begin with a blank or a comment
abbrev pub piece : List ℕ → Sized
piece [] = (Wrong 201, 1)
piece (b ∷ text) =
    if is_letter b then letters (b ∷ text)
    else if begins_number (b ∷ text) then number (b ∷ text)
    else if b == 39 then literal text
    else signs b text

-- the same, where a `"` may open the text of a definition; elsewhere it begins no word
abbrev pub piece_or_text : Bool → List ℕ → Sized
piece_or_text opens [] = piece []
piece_or_text opens (b ∷ text) = if b == 34 && opens then replacement text else piece (b ∷ text)
