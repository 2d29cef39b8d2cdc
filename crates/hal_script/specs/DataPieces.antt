-- The text of an INPUT line by its first piece and what stands behind it.
use Rattle.std.specs.Prelude.{ℕ, Bool, true, List, [], ◌∷◌, if◌then◌else◌}
use Rattle.hal_script.specs.declared.given.Given.{Given}
use Rattle.hal_script.specs.declared.given.Given.TheVariants.{Malformed, Open}
use Rattle.hal_script.specs.declared.piece.Piece.{Piece}
use Rattle.hal_script.specs.declared.piece.Piece.TheVariants as piece
use Rattle.hal_script.specs.DataTexts.{is_gap, before, given}

-- what a text gives that begins with this piece, by what the rest of it gives
abbrev pub with_piece : Piece → Given → Given
with_piece piece.Gap rest = rest
with_piece (piece.Datum datum) rest = before (datum ∷ []) rest
with_piece piece.Malformed rest = Malformed
with_piece piece.Open rest = Open

-- a datum may end before this text
abbrev pub is_end : List ℕ → Bool
is_end [] = true
is_end (byte ∷ text) = is_gap byte

-- what a text gives where no byte of this datum in quotes follows: its closing quote stands there, or the text ends
abbrev pub closed : List ℕ → List ℕ → Given
closed datum [] = Open
closed datum (quote ∷ text) = if is_end text then before (datum ∷ []) (given text) else Malformed
