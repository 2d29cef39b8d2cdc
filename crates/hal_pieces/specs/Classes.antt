-- The classes of bytes that stand together, as tests.
use Rattle.std.specs.Prelude.{ℕ, Bool, not, ◌==◌}
use Rattle.hal_base.specs.Digits.{is_digit}
use Rattle.hal_words.specs.Letters.{is_blank, is_name_byte}
use Rattle.hal_pieces.specs.declared.runs.Class.{Class}
use Rattle.hal_pieces.specs.declared.runs.Class.TheVariants as class

abbrev pub is_of : Class → ℕ → Bool
is_of class.Blank = is_blank
is_of class.Digit = is_digit
is_of class.NameByte = is_name_byte
is_of class.NoQuote = λ b. not (b == 39)
is_of class.NoMark = λ b. not (b == 34)
