-- Texts of definitions, and what they give.
use Rattle.std.specs.Prelude.{◌≢◌, ℕ, List, All, ⊤}
use Rattle.hal_words.specs.Pieces.{Piece, Replacement, Open}
use Rattle.hal_words.specs.Lines.{Item}

-- no end of a line, and no `"`
abbrev pub IsTextByte : ℕ → Type 0
IsTextByte b = (b ≢ 10) × (b ≢ 34)

-- a text that may stand between two `"`
abbrev pub IsText : List ℕ → Type 0
IsText bytes = All IsTextByte bytes

-- the text of a definition is such a text
abbrev pub IsTextOf : Piece → Type 0
IsTextOf (Replacement bytes) = IsText bytes
IsTextOf piece = ⊤

abbrev pub HoldsText : Item → Type 0
HoldsText one = IsTextOf one.piece

-- the piece doesn't begin with a `"`
abbrev pub IsNoMark : Piece → Type 0
IsNoMark (Replacement bytes) = ⊥
IsNoMark Open = ⊥
IsNoMark piece = ⊤
