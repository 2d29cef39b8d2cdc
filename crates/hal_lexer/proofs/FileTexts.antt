-- The texts between two `"` of a file have no end of a line and no `"`.
use Rattle.std.proofs.Common.{◌≢◌, ◌+◌, ℕ, zero, suc, pred, inl, inr, Bool, true, false, not, ◌||◌, ◌&&◌, List, [], ◌∷◌, ◌++◌, length, drop, Option, Some, None, All, arith}
use Rattle.std.specs.Prelude.{if◌then◌else◌, ◌==◌, nat_le, take_while, ⊤}
use Rattle.std.proofs.lemmas.Bool.{cases_Bool}
use Rattle.std.proofs.lemmas.Bool.Decides.{nat_tests}
use Rattle.std.proofs.lemmas.List.Sums.{take_while-cons}
use Rattle.std.proofs.lemmas.List.Elements.{All-append, All-cons, All-nil, All-drop}
use Rattle.std.specs.Str.Lines.{lines}
use Rattle.hal_base.specs.declared.refusal.Place.{Place}
use Rattle.hal_words.specs.declared.reserved.Reserved.TheVariants as reserved
use Rattle.hal_words.specs.declared.word.Word.TheVariants as word
use Rattle.hal_words.specs.Letters.{is_blank}
use Rattle.hal_words.specs.Numbers.{begins}
use Rattle.hal_words.specs.Pieces.{Piece, Is, Replacement, Wrong, replacement, piece, piece_or_text}
use Rattle.hal_words.specs.Lines.{Item, item, Cell, Byte, Given, place_at, main_cells, included, include_cells, directive_cells, line_cells, lines_cells, file_cells}
use Rattle.hal_words.specs.Items.{line_of, begins_comment, main_item, comment_rest, behind, fault_if_open, opens_text, begun, items, file_items}
use Rattle.hal_lexer.specs.Texts.{IsTextByte, IsText, IsTextOf, HoldsText, IsNoMark}
use Rattle.hal_lexer.proofs.Marks.{piece_no_mark}

abbrev IsPlain : ℕ → Type 0
IsPlain b = b ≢ 10

-- pieces of a line
text_of_piece : (one : Piece) → IsNoMark one → IsTextOf one
text_of_piece (Replacement bytes) none = absurd none
text_of_piece one none = tt

quoted : (text : List ℕ) → All IsPlain text → IsText (take_while (λ b. not (b == 34)) text)
quoted [] all = All-nil IsTextByte
quoted (b ∷ text) all =
    let here : IsPlain b = all 0 b (omega arith) in
    elim (cases_Bool (b == 34)) [
      | inl mark ↦ rw (take_while-cons (λ b. not (b == 34)) b text, mark) (All-nil IsTextByte)
      | inr other ↦
          let no_mark : b ≢ 34 = grind (arith, nat_tests) in
          rw (take_while-cons (λ b. not (b == 34)) b text, other)
          (All-cons IsTextByte b (take_while (λ b. not (b == 34)) text) (here, no_mark) (quoted text (All-drop IsPlain 1 (b ∷ text) all)))
    ]

replacement_text : (text : List ℕ) → All IsPlain text → IsTextOf (replacement text).0
replacement_text text all = elim (cases_Bool (begins (λ b. b == 34) (drop (length (take_while (λ b. not (b == 34)) text)) text))) [
  | inl closed ↦ rw closed (quoted text all)
  | inr opened ↦ rw opened tt
]

piece_text : (opens : Bool) (line : List ℕ) → All IsPlain line → IsTextOf (piece_or_text opens line).0
piece_text opens [] all = tt
piece_text opens (b ∷ text) all = elim (cases_Bool (b == 34 && opens)) [
  | inl mark ↦ rw mark (replacement_text text (All-drop IsPlain 1 (b ∷ text) all))
  | inr other ↦ rw other (text_of_piece (piece (b ∷ text)).0 (piece_no_mark (b ∷ text)))
]

main_text : (one : Piece) (place : Place) → IsTextOf one → HoldsText (main_item one place)
main_text (Is (word.Reserved reserved.Include)) place is = tt
main_text one place is = is

-- items of cells
abbrev GivenHolds : Cell → Type 0
GivenHolds (Byte b place) = ⊤
GivenHolds (Given one) = HoldsText one

record Holds (cells : List Cell) : Type 0 where
  is : All GivenHolds cells

line_plain : (cells : List Cell) → All IsPlain (line_of cells)
line_plain [] = All-nil IsPlain
line_plain (Given one ∷ cells) = All-nil IsPlain
line_plain (Byte b place ∷ cells) = elim (cases_Bool (b == 10)) [
  | inl end ↦ rw end (All-nil IsPlain)
  | inr other ↦ let here : IsPlain b = grind (arith, nat_tests) in rw other (All-cons IsPlain b (line_of cells) here (line_plain cells))
]

one_text : (one : Item) → HoldsText one → All HoldsText (one ∷ [])
one_text one is = All-cons HoldsText one [] is (All-nil HoldsText)

open_text : (size : Option ℕ) (place : Place) → All HoldsText (fault_if_open size place)
open_text None place = one_text (item (Wrong 202) place) tt
open_text (Some size) place = All-nil HoldsText

begun_texts : (before : List Item) (b : ℕ) (place : Place) (line : List ℕ) (cells : List Cell) → All IsPlain line → All HoldsText (begun before b place line cells).0
begun_texts before b place line cells all = elim (cases_Bool (is_blank b || b == 10)) [
  | inl blank ↦ rw blank (All-nil HoldsText)
  | inr other ↦ elim (cases_Bool (begins_comment line)) [
    | inl comment ↦ rw (other, comment) (open_text (comment_rest false (behind cells)) place)
    | inr no_comment ↦ rw (other, no_comment) (one_text (main_item (piece_or_text (opens_text before) line).0 place) (main_text (piece_or_text (opens_text before) line).0 place (piece_text (opens_text before) line all)))
  ]
]

items_texts : (before : List Item) (n : ℕ) (cells : List Cell) → All GivenHolds cells → All HoldsText (items before n cells)
items_texts before n [] all = All-nil HoldsText
items_texts before n (Given one ∷ cells) all = All-cons HoldsText one (items (before ++ one ∷ []) (pred n) cells) (all 0 (Given one) (omega arith)) (items_texts (before ++ one ∷ []) (pred n) cells (All-drop GivenHolds 1 (Given one ∷ cells) all))
items_texts before (suc n) (Byte b place ∷ cells) all = items_texts before n cells (All-drop GivenHolds 1 (Byte b place ∷ cells) all)
items_texts before zero (Byte b place ∷ cells) all =
    let line = line_of (Byte b place ∷ cells) in
    let found = begun before b place line cells in
    All-append HoldsText found.0 (items (before ++ found.0) found.1 cells) (begun_texts before b place line cells (line_plain (Byte b place ∷ cells)))
    (items_texts (before ++ found.0) found.1 cells (All-drop GivenHolds 1 (Byte b place ∷ cells) all))

-- cells of lines
no_cells : Holds []
no_cells = record { is = All-nil GivenHolds }

one_more : (cell : Cell) (cells : List Cell) → GivenHolds cell → Holds cells → Holds (cell ∷ cells)
one_more cell cells is rest = record { is = All-cons GivenHolds cell cells is rest.is }

either_cells : (t : Bool) (a b : List Cell) → Holds a → Holds b → Holds (if t then a else b)
either_cells true a b x y = x
either_cells false a b x y = y

wrong_holds : (rule : ℕ) (place : Place) → Holds (Given (item (Wrong rule) place) ∷ [])
wrong_holds rule place = one_more (Given (item (Wrong rule) place)) [] tt no_cells

main_holds : (unit line column : ℕ) (bytes : List ℕ) → Holds (main_cells unit line column bytes)
main_holds unit line column [] = one_more (Byte 10 (place_at unit line column)) [] tt no_cells
main_holds unit line column (b ∷ bytes) = one_more (Byte b (place_at unit line column)) (main_cells unit line (column + 1) bytes) tt (main_holds unit line (column + 1) bytes)

name_holds : (t : Bool) (run : List ℕ) (place : Place) → Holds (Given (item (if t then Is (word.Name run) else Wrong 203) place) ∷ [])
name_holds true run place = one_more (Given (item (Is (word.Name run)) place)) [] tt no_cells
name_holds false run place = wrong_holds 203 place

included_holds : (unit line column at : ℕ) (run : List ℕ) → Holds (included unit line column at run)
included_holds unit line column at run =
    one_more (Given (item (Is (word.Reserved reserved.Include)) (place_at unit line column))) _ tt (name_holds (nat_le (length run) 32) run (place_at unit line at))

include_holds : (unit line column : ℕ) (text : List ℕ) → Holds (include_cells unit line column text)
include_holds unit line column text = search (either_cells, included_holds, wrong_holds)

directive_holds : (unit line : ℕ) (text : List ℕ) → Holds (directive_cells unit line text)
directive_holds unit line text = search (either_cells, include_holds, no_cells)

line_holds : (unit line : ℕ) (text : List ℕ) → Holds (line_cells unit line text)
line_holds unit line [] = main_holds unit line 1 []
line_holds unit line (b ∷ bytes) = search (either_cells, directive_holds, main_holds, wrong_holds, no_cells) depth 12

lines_hold : (unit line : ℕ) (texts : List (List ℕ)) → Holds (lines_cells unit line texts)
lines_hold unit line [] = no_cells
lines_hold unit line (text ∷ texts) =
    record { is = All-append GivenHolds (line_cells unit line text) (lines_cells unit (line + 1) texts) (line_holds unit line text).is (lines_hold unit (line + 1) texts).is }

-- each text of a definition in a file
pub file_texts : (unit : ℕ) (text : List ℕ) → All HoldsText (file_items unit text)
file_texts unit text = items_texts [] 0 (file_cells unit text) (lines_hold unit 1 (lines text)).is
