-- Lines of WRITE.
use Rattle.std.specs.Prelude.{ℕ, List, [], ◌∷◌, ◌++◌}
use Rattle.std.specs.Fmt.{signed_decimal}
use Rattle.hal_values.specs.BitTexts.{bits_text}
use Rattle.hal_values.specs.declared.value.Value.{Value}
use Rattle.hal_values.specs.declared.value.Value.TheVariants as value

-- the text of a value
abbrev pub text_of : Value → List ℕ
text_of (value.Int a) = signed_decimal a
text_of (value.Bits len word) = bits_text len word
text_of (value.Text text) = text

-- an item of a line, with the blank before it
abbrev pub item_of : Value → List ℕ
item_of v = 32 ∷ text_of v

-- the line of these items
abbrev pub line_of : List Value → List ℕ
line_of [] = []
line_of (v ∷ vs) = item_of v ++ line_of vs
