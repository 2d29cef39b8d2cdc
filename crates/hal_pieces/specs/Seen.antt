-- The pieces of the code as those of the definition.
use Rattle.std.specs.Prelude.{ℕ, List, Result, Ok, Err}
use Rattle.hal_base.specs.declared.refusal.Rule.{Rule}
use Rattle.hal_words.specs.declared.word.Word.TheVariants as word
use Rattle.hal_words.specs.Pieces as definition
use Rattle.hal_words.specs.Pieces.{Is}
use Rattle.hal_pieces.specs.declared.piece.Piece.{Piece}
use Rattle.hal_pieces.specs.declared.piece.Piece.TheVariants as code
use Rattle.hal_pieces.specs.declared.item.RightPiece.{RightPiece}
use Rattle.hal_pieces.specs.declared.item.RightPiece.TheVariants as right

abbrev pub seen : Piece → definition.Piece
seen (code.Word one) = Is one
seen (code.Text text) = (definition.literal text.now).0
seen (code.Replacement bytes) = definition.Replacement bytes.now
seen code.Open = definition.Open
seen (code.Wrong rule) = definition.Wrong rule.0

-- a text literal, or the rule that it breaks
abbrev pub seen_literal : Result (List ℕ) Rule → definition.Piece
seen_literal (Ok text) = Is (word.Text text)
seen_literal (Err rule) = definition.Wrong rule.0

-- and those of them that break no rule
abbrev pub seen_right : RightPiece → definition.Piece
seen_right (right.Word one) = Is one
seen_right (right.Replacement bytes) = definition.Replacement bytes.now
seen_right right.Open = definition.Open
