-- The pieces of a file in order: at each byte of its main lines a word goes on, or there is a blank, or the longest word begins. What was read before tells
-- whether a `"` opens the text of a definition.
use Rattle.std.specs.Prelude.{ℕ, zero, suc, pred, ◌-◌, ◌==◌, Bool, true, false, ◌&&◌, ◌||◌, List, [], ◌∷◌, ◌++◌, length, drop, Option, Some, None, option_map, if◌then◌else◌}
use Rattle.hal_base.specs.declared.refusal.Place.{Place}
use Rattle.hal_words.specs.declared.reserved.Reserved.TheVariants as reserved
use Rattle.hal_words.specs.declared.word.Symbol.TheVariants as symbol
use Rattle.hal_words.specs.declared.word.Word.TheVariants as word
use Rattle.hal_words.specs.Letters.{is_blank}
use Rattle.hal_words.specs.Pieces.{Piece, Is, Wrong, piece_or_text}
use Rattle.hal_words.specs.Lines.{Item, item, Cell, Byte, Given, file_cells}

-- the bytes from here to the end of the line
abbrev pub line_of : List Cell → List ℕ
line_of [] = []
line_of (Given one ∷ cells) = []
line_of (Byte b place ∷ cells) = if b == 10 then [] else b ∷ line_of cells

-- how many cells a comment goes on, behind its first two bytes, to the end of its last two; None where it is open. `after` tells that the byte before was `*`
abbrev pub comment_rest : Bool → List Cell → Option ℕ
comment_rest after [] = None
comment_rest after (Given one ∷ cells) = option_map suc (comment_rest false cells)
comment_rest after (Byte b place ∷ cells) = if after && b == 47 then Some 1 else option_map suc (comment_rest (b == 42) cells)

-- a comment begins
abbrev pub begins_comment : List ℕ → Bool
begins_comment [] = false
begins_comment (b ∷ []) = false
begins_comment (b ∷ c ∷ text) = b == 47 && c == 42

-- the word INCLUDE isn't for main lines: it breaks 103 at the line's first byte
abbrev pub main_item : Piece → Place → Item
main_item (Is (word.Reserved reserved.Include)) place = item (Wrong 103) (record { unit = place.unit; line = place.line; column = 1 })
main_item piece place = item piece place

abbrev pub size_or_all : Option ℕ → ℕ → ℕ
size_or_all None all = all
size_or_all (Some size) all = suc size

abbrev pub fault_if_open : Option ℕ → Place → List Item
fault_if_open None place = item (Wrong 202) place ∷ []
fault_if_open (Some size) place = []

-- what follows a comment's first byte, behind its second one
abbrev pub behind : List Cell → List Cell
behind [] = []
behind (cell ∷ cells) = cells

-- how many cells behind its first byte a comment has, where it is closed; all, where it is open
abbrev pub comment_size : List Cell → ℕ
comment_size cells = size_or_all (comment_rest false (behind cells)) (length cells)

-- an open comment breaks 202
abbrev pub comment_items : Place → List Cell → List Item
comment_items place cells = fault_if_open (comment_rest false (behind cells)) place

-- the word REPLACE
abbrev pub is_replace : Piece → Bool
is_replace (Is (word.Reserved reserved.Replace)) = true
is_replace other = false

-- the end of a list
abbrev pub ends_parameters : Piece → Bool
ends_parameters (Is (word.Symbol symbol.RightParenthesis)) = true
ends_parameters other = false

-- the word BY
abbrev pub is_by : Piece → Bool
is_by (Is (word.Reserved reserved.By)) = true
is_by other = false

-- REPLACE with at most two items behind it, or the end of a list of parameters and BY
abbrev pub are_opening : Piece → Piece → Piece → Bool
are_opening a b c = is_replace a || (is_replace b || (is_replace c || (ends_parameters b && is_by c)))

-- the same of the last items, up to three
abbrev pub are_last : List Item → Bool
are_last (a ∷ []) = is_replace a.piece
are_last (a ∷ b ∷ []) = is_replace a.piece || is_replace b.piece
are_last (a ∷ b ∷ c ∷ []) = are_opening a.piece b.piece c.piece
are_last rest = false

-- a `"` behind these items opens the text of a definition, though it be faulty: REPLACE is among the last three, or the last two are `)` and BY
abbrev pub opens_text : List Item → Bool
opens_text before = are_last (drop (length before - 3) before)

-- what begins at a byte behind these items: the items that it gives, and how many cells it goes on for
abbrev pub begun : List Item → ℕ → Place → List ℕ → List Cell → List Item × ℕ
begun before b place line cells =
    if is_blank b || b == 10 then ([], 0)
    else if begins_comment line then (comment_items place cells, comment_size cells)
    else (main_item (piece_or_text (opens_text before) line).0 place ∷ [], pred (piece_or_text (opens_text before) line).1)

-- the items of cells behind the items before, of which the first `skipped` belong to what began before. Items that lines give as a whole stand in nothing
abbrev pub items : List Item → ℕ → List Cell → List Item
items before skipped [] = []
items before skipped (Given one ∷ cells) = one ∷ items (before ++ one ∷ []) (pred skipped) cells
items before (suc skipped) (Byte b place ∷ cells) = items before skipped cells
items before zero (Byte b place ∷ cells) = let found = begun before b place (line_of (Byte b place ∷ cells)) cells in found.0 ++ items (before ++ found.0) found.1 cells

-- the items of a file
abbrev pub file_items : ℕ → List ℕ → List Item
file_items unit text = items [] 0 (file_cells unit text)
