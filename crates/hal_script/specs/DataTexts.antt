-- The data that the text of an INPUT line gives.
use Rattle.std.specs.Prelude.{ℕ, Bool, true, false, List, [], ◌∷◌, ◌++◌, ◌==◌, ◌||◌}
use Rattle.hal_script.specs.declared.given.Given.{Given}
use Rattle.hal_script.specs.declared.given.Given.TheVariants.{Data, Malformed, Open}
use Rattle.hal_script.specs.Words.{is_blank}

-- a blank or a comma, which part data
abbrev pub is_gap : ℕ → Bool
is_gap byte = is_blank byte || byte == 44

-- a quote
abbrev pub is_quote : ℕ → Bool
is_quote byte = byte == 39

-- what a text gives whose first data are these, by what the rest of it gives
abbrev pub before : List (List ℕ) → Given → Given
before data_ (Data others) = Data (data_ ++ others)
before data_ Malformed = Malformed
before data_ Open = Open

abbrev mutual
  -- what a text gives that begins between data: a quote opens a datum in quotes if it is the datum's first byte
  pub given : List ℕ → Given
  given [] = Data []
  given (byte ∷ text) = elim (is_gap byte) [
    | true ↦ given text
    | false ↦ elim (is_quote byte) [ true ↦ quoted [] text | false ↦ plain (byte ∷ []) text ]
  ]

  -- what it gives behind these bytes of a datum without quotes, which goes on to a blank, a comma or the end
  pub plain : List ℕ → List ℕ → Given
  plain datum [] = Data (datum ∷ [])
  plain datum (byte ∷ text) = elim (is_gap byte) [ true ↦ before (datum ∷ []) (given text) | false ↦ plain (datum ++ byte ∷ []) text ]

  -- what it gives behind these bytes of a datum in quotes
  pub quoted : List ℕ → List ℕ → Given
  quoted datum [] = Open
  quoted datum (byte ∷ text) = elim (is_quote byte) [ true ↦ behind_quote datum text | false ↦ quoted (datum ++ byte ∷ []) text ]

  -- what it gives behind a quote in quotes: a second quote makes it a byte of the datum, and else it closes the datum, behind which only a blank, a comma or
  -- the end may stand
  pub behind_quote : List ℕ → List ℕ → Given
  behind_quote datum [] = Data (datum ∷ [])
  behind_quote datum (byte ∷ text) = elim (is_quote byte) [
    | true ↦ quoted (datum ++ byte ∷ []) text
    | false ↦ elim (is_gap byte) [ true ↦ before (datum ∷ []) (given text) | false ↦ Malformed ]
  ]
