-- The words of a text are right.
use Rattle.std.proofs.Common.{◌≡◌, ℕ, zero, suc, ◌+◌, ◌-◌, pred, ◌==◌, nat_le, Bool, true, false, not, ◌&&◌, ◌||◌, List, [], ◌∷◌, ◌++◌, length, map, drop, take_while, flat_map, Option, Some, None, refl, ap, ◌∙◌, subst}
use Rattle.std.specs.Prelude.{bytes_eq, codes, if◌then◌else◌}
use Rattle.std.specs.List.{list_all}
use Rattle.std.specs.Str.Lines.{lines}
use Rattle.std.proofs.lemmas.List.{length-map}
use Rattle.hal_base.specs.declared.refusal.Place.{Place}
use Rattle.hal_words.specs.declared.reserved.Reserved.{Reserved}
use Rattle.hal_words.specs.declared.reserved.Reserved.TheVariants as reserved
use Rattle.hal_words.specs.declared.word.Token.{Token}
use Rattle.hal_words.specs.declared.word.Word.{Word}
use Rattle.hal_words.specs.declared.word.Word.TheVariants as word
use Rattle.hal_words.specs.Items.{begins_comment, begun, behind, comment_rest, fault_if_open, file_items, items, line_of, main_item, opens_text}
use Rattle.hal_words.specs.Letters.{capital, is_blank, is_letter, is_plain}
use Rattle.hal_words.specs.Lines.{Byte, Cell, Given, Item, can_be_name, gap, directive_cells, file_cells, include_cells, included, line_cells, lines_cells, main_cells}
use Rattle.hal_words.specs.Literals.{Base, base_of, bits_between, blank_for_tab, inside}
use Rattle.hal_words.specs.Numbers.{begins, begins_number, front_digits, has_point, is_number, runs_on, thousandths, written}
use Rattle.hal_words.specs.Pieces.{Is, Open, Piece, Replacement, Sized, Wrong, after_blanks, bits_or_wrong, known, literal_piece, longer, number_piece, pair, piece, piece_or_text, run_of, sign, signs, text_piece, up_to_quote, with_base}
use Rattle.hal_words.specs.Replacing.{Definitions, as_word, definition, definition_size, fault_of, is_among, is_replace, item_or, kept, name_of, opening, replaced, replaced_word, formless, text_for, text_items, with_definition, within}
use Rattle.hal_words.specs.Reserved.{left_out_words, look_up, reserved_words}
use Rattle.hal_words.specs.Words.{IsCut, word_item}
use Rattle.hal_right_images.specs.spelled.Words.{AreRightWords, IsRightWord}
use Rattle.hal_right_images.proofs.spelled.Chosen.{Holds, either, so}
use Rattle.hal_right_images.proofs.spelled.RightNumbers.{IsAnyRightBase, IsRightBase, base_right, between_right, decimal_right, integer_right}

-- a piece that is a right word, or no word
abbrev IsRightPiece : Piece → Type 0
IsRightPiece (Is w) = IsRightWord w
IsRightPiece other = Unit {0}

-- one with its size
abbrev IsRightSized : Sized → Type 0
IsRightSized x = IsRightPiece x.0

known_right : (o : Option Reserved) (left_out : Option ℕ) (run : List ℕ) → IsRightPiece (known o left_out run)
known_right (Some one) left_out run = tt
known_right None (Some rule) run = tt
known_right None None run = by.is where
  by : Holds IsRightPiece (if nat_le (length run) 32 then Is (word.Name run) else Wrong 203)
  by = either (nat_le (length run) 32) (so tt) (so tt)

bits_right : (base : Base) (bytes : List ℕ) → IsRightBase base → IsRightPiece (bits_or_wrong (bits_between base bytes))
bits_right base bytes right = by (bits_between base bytes) refl where
  by : (o : Option (ℕ × ℕ)) → bits_between base bytes ≡ o → IsRightPiece (bits_or_wrong o)
  by None is = tt
  by (Some found) is = between_right base bytes right found.0 found.1 is

based_right : (o : Option Base) (run after : List ℕ) → IsAnyRightBase o → IsRightPiece (with_base o run after).0
based_right None run after right = known_right (look_up reserved_words run) (look_up left_out_words run) run
based_right (Some base) run after right = by.is where
  by : Holds IsRightSized (with_base (Some base) run after)
  by =
      either (begins (λ b. b == 39) (after_blanks after))
      (either (begins (λ b. b == 39) (drop (length (up_to_quote (drop 1 (after_blanks after)))) (drop 1 (after_blanks after)))) (so (bits_right base (up_to_quote (drop 1 (after_blanks after))) right)) (so tt))
      (so (known_right (look_up reserved_words run) (look_up left_out_words run) run))

number_right : (text : List ℕ) → IsRightPiece (number_piece text)
number_right text = whole.is where
  by_point : is_number text ≡ true → (b : Bool) → has_point text ≡ b → IsRightPiece (if b then Is (word.Decimal (thousandths text)) else Is (word.Integer (written 10 (front_digits text))))
  by_point is true pointed = decimal_right text is pointed
  by_point is false pointed = integer_right text is

  by : (b : Bool) → is_number text ≡ b → IsRightPiece (if not b then Wrong 204 else if has_point text then Is (word.Decimal (thousandths text)) else Is (word.Integer (written 10 (front_digits text))))
  by true is = by_point is (has_point text) refl
  by false is = tt

  whole : Holds IsRightPiece (number_piece text)
  whole = either (runs_on text) (so tt) (so (by (is_number text) refl))

text_right : (bytes : List ℕ) → IsRightPiece (text_piece bytes)
text_right bytes = whole.is where
  by : (b : Bool) → nat_le (length bytes) 255 ≡ b → IsRightPiece (if b then Is (word.Text (map blank_for_tab bytes)) else Wrong 204)
  by true is = ap (λ n. nat_le n 255) (length-map bytes blank_for_tab) ∙ is
  by false is = tt

  whole : Holds IsRightPiece (text_piece bytes)
  whole = either (not (list_all is_plain bytes)) (so tt) (so (by (nat_le (length bytes) 255) refl))

literal_right : (size : ℕ) (o : Option (List ℕ × ℕ)) → IsRightPiece (literal_piece size o).0
literal_right size None = tt
literal_right size (Some found) = text_right found.0

sign_right : (b : ℕ) → IsRightPiece (sign b)
sign_right b = by.is where
  by : Holds IsRightPiece (sign b)
  by = either (b == 43) (so tt) (either (b == 45) (so tt) (either (b == 42) (so tt) (either (b == 46) (so tt) (either (b == 124) (so tt) (either (b == 38) (so tt) (either (b == 61) (so tt) (either (b == 60) (so tt) (either (b == 62) (so tt) (either (b == 40) (so tt) (either (b == 41) (so tt) (either (b == 44) (so tt) (either (b == 59) (so tt) (either (b == 58) (so tt) (either (b == 36) (so tt) (either (b == 35) (so tt) (either (b == 47) (so tt) (either (b == 37) (so tt) (either (b == 64) (so tt) (so tt)))))))))))))))))))

abbrev IsAnyRightWord : Option Word → Type 0
IsAnyRightWord None = Unit {0}
IsAnyRightWord (Some w) = IsRightWord w

pair_right : (b c : ℕ) → IsAnyRightWord (pair b c)
pair_right b c = by.is where
  by : Holds IsAnyRightWord (pair b c)
  by = either (b == 42 && c == 42) (so tt) (either (b == 124 && c == 124) (so tt) (either (b == 60 && c == 61) (so tt) (either (b == 62 && c == 61) (so tt) (so tt))))

longer_right : (o : Option Word) (b : ℕ) → IsAnyRightWord o → IsRightPiece (longer o b).0
longer_right None b right = sign_right b
longer_right (Some one) b right = right

signs_right : (b : ℕ) (text : List ℕ) → IsRightPiece (signs b text).0
signs_right b [] = sign_right b
signs_right b (c ∷ text) = longer_right (pair b c) b (pair_right b c)

piece_right : (text : List ℕ) → IsRightPiece (piece text).0
piece_right [] = tt
piece_right (b ∷ text) = by.is where
  by : Holds IsRightSized (piece (b ∷ text))
  by =
      either (is_letter b) (so (based_right (base_of (run_of (b ∷ text))) (run_of (b ∷ text)) (drop (length (run_of (b ∷ text))) (b ∷ text)) (base_right (run_of (b ∷ text)))))
      (either (begins_number (b ∷ text)) (so (number_right (b ∷ text))) (either (b == 39) (so (literal_right (length text) (inside text))) (so (signs_right b text))))

either_right : (opens : Bool) (text : List ℕ) → IsRightPiece (piece_or_text opens text).0
either_right opens [] = tt
either_right opens (b ∷ text) = by.is where
  by : Holds IsRightSized (piece_or_text opens (b ∷ text))
  by = either (b == 34 && opens) (either (begins (λ b. b == 34) (drop (length (take_while (λ b. not (b == 34)) text)) text)) (so tt) (so tt)) (so (piece_right (b ∷ text)))

main_right : (p : Piece) (place : Place) → IsRightPiece p → IsRightPiece (main_item p place).piece
main_right (Is (word.Reserved reserved.Include)) place right = tt
main_right other place right = right

-- items, and cells that lines give
abbrev AreRight : List Item → Type 0
AreRight [] = Unit {0}
AreRight (one ∷ rest) = IsRightPiece one.piece × AreRight rest

abbrev IsRightCell : Cell → Type 0
IsRightCell (Byte b place) = Unit {0}
IsRightCell (Given one) = IsRightPiece one.piece

abbrev AreRightCells : List Cell → Type 0
AreRightCells [] = Unit {0}
AreRightCells (cell ∷ cells) = IsRightCell cell × AreRightCells cells

both_right : (xs ys : List Item) → AreRight xs → AreRight ys → AreRight (xs ++ ys)
both_right [] ys first second = second
both_right (x ∷ xs) ys first second = (first.0, both_right xs ys first.1 second)

both_cells : (xs ys : List Cell) → AreRightCells xs → AreRightCells ys → AreRightCells (xs ++ ys)
both_cells [] ys first second = second
both_cells (x ∷ xs) ys first second = (first.0, both_cells xs ys first.1 second)

abbrev AreRightSized : List Item × ℕ → Type 0
AreRightSized x = AreRight x.0

open_right : (o : Option ℕ) (place : Place) → AreRight (fault_if_open o place)
open_right None place = (tt, tt)
open_right (Some size) place = tt

begun_right : (before : List Item) (b : ℕ) (place : Place) (line : List ℕ) (cells : List Cell) → AreRight (begun before b place line cells).0
begun_right before b place line cells = by.is where
  both : IsRightPiece (main_item (piece_or_text (opens_text before) line).0 place).piece × Unit {0}
  both = (main_right (piece_or_text (opens_text before) line).0 place (either_right (opens_text before) line), tt)

  by : Holds AreRightSized (begun before b place line cells)
  by = either (is_blank b || b == 10) (so tt) (either (begins_comment line) (so (open_right (comment_rest false (behind cells)) place)) (so both))

items_right : (cells : List Cell) (before : List Item) (skipped : ℕ) → AreRightCells cells → AreRight (items before skipped cells)
items_right [] before skipped right = tt
items_right (Given one ∷ cells) before skipped right = (right.0, items_right cells (before ++ one ∷ []) (pred skipped) right.1)
items_right (Byte b place ∷ cells) before (suc skipped) right = items_right cells before skipped right.1
items_right (Byte b place ∷ cells) before zero right =
    let line = line_of (Byte b place ∷ cells) in
    let found = begun before b place line cells in
    both_right found.0 (items (before ++ found.0) found.1 cells) (begun_right before b place line cells) (items_right cells (before ++ found.0) found.1 right.1)

-- the cells of a file
main_cells_right : (unit line column : ℕ) (bytes : List ℕ) → AreRightCells (main_cells unit line column bytes)
main_cells_right unit line column [] = (tt, tt)
main_cells_right unit line column (b ∷ bytes) = (tt, main_cells_right unit line (column + 1) bytes)

included_right : (unit line column spot : ℕ) (run : List ℕ) → AreRightCells (included unit line column spot run)
included_right unit line column spot run = (tt, (name.is, tt)) where
  name : Holds IsRightPiece (if nat_le (length run) 32 then Is (word.Name run) else Wrong 203)
  name = either (nat_le (length run) 32) (so tt) (so tt)

include_right : (unit line column : ℕ) (text : List ℕ) → AreRightCells (include_cells unit line column text)
include_right unit line column text = by.is where
  run : List ℕ
  run = run_of (after_blanks text)

  behind_run : List ℕ
  behind_run = drop (length run) (after_blanks text)

  name : List ℕ
  name = run_of (after_blanks behind_run)

  rest : List ℕ
  rest = drop (length name) (after_blanks behind_run)

  wrong : Unit {0} × Unit {0}
  wrong = (tt, tt)

  by : Holds AreRightCells (include_cells unit line column text)
  by =
      either ((bytes_eq run (codes "TEMPLATE") && can_be_name name) && length (after_blanks rest) == 0)
      (so (included_right unit line column (column + (7 + (gap text + (8 + gap behind_run)))) name)) (so wrong)

directive_right : (unit line : ℕ) (text : List ℕ) → AreRightCells (directive_cells unit line text)
directive_right unit line text = by.is where
  by : Holds AreRightCells (directive_cells unit line text)
  by =
      either (bytes_eq (run_of (after_blanks text)) (codes "INCLUDE"))
      (so (include_right unit line (2 + gap text) (drop 7 (after_blanks text)))) (so tt)

line_right : (unit line : ℕ) (text : List ℕ) → AreRightCells (line_cells unit line text)
line_right unit line [] = (tt, tt)
line_right unit line (b ∷ bytes) = by.is where
  wrong : Unit {0} × Unit {0}
  wrong = (tt, tt)

  by : Holds AreRightCells (line_cells unit line (b ∷ bytes))
  by =
      either (capital b == 67) (so tt)
      (either (capital b == 68) (so (directive_right unit line bytes))
      (either (is_blank b || capital b == 77) (so (main_cells_right unit line 2 bytes)) (either (capital b == 69 || capital b == 83) (so wrong) (so wrong))))

lines_right : (unit line : ℕ) (texts : List (List ℕ)) → AreRightCells (lines_cells unit line texts)
lines_right unit line [] = tt
lines_right unit line (text ∷ more) = both_cells (line_cells unit line text) (lines_cells unit (line + 1) more) (line_right unit line text) (lines_right unit (line + 1) more)

-- what REPLACE puts in place of words
bytes_right : (place : Place) (text : List ℕ) → AreRightCells (map (λ b. Byte b place) text ++ Byte 10 place ∷ [])
bytes_right place [] = (tt, tt)
bytes_right place (b ∷ text) = (tt, bytes_right place text)

abbrev IsRightItem : Item → Type 0
IsRightItem x = IsRightPiece x.piece

kept_right : (opened : List (List ℕ)) (p : Piece) (place : Place) → IsRightPiece p → IsRightPiece (kept opened p place).piece
kept_right opened (Is (word.Name name)) place right = by.is where
  by : Holds IsRightItem (kept opened (Is (word.Name name)) place)
  by = either (is_among opened name) (so tt) (so tt)
kept_right opened (Is (word.Reserved reserved.Replace)) place right = tt
kept_right opened other place right = right

flat_right : (f : Item → List Item) → ((one : Item) → IsRightPiece one.piece → AreRight (f one)) → (xs : List Item) → AreRight xs → AreRight (flat_map f xs)
flat_right f each [] right = tt
flat_right f each (x ∷ xs) right = both_right (f x) (flat_map f xs) (each x right.0) (flat_right f each xs right.1)

within_right : (deep : ℕ) (definitions : Definitions) (opened : List (List ℕ)) (one : Item) → IsRightPiece one.piece → AreRight (within deep definitions opened one)
within_right zero definitions opened one right = (kept_right opened one.piece one.place right, tt)
within_right (suc deep) definitions opened one right =
    by (text_for definitions opened (name_of one.piece)) (flat_right (within deep definitions (opening opened one.piece)) (λ x so. within_right deep definitions (opening opened one.piece) x so)) where
      by : (o : Option (List ℕ)) → ((xs : List Item) → AreRight xs → AreRight (flat_map (within deep definitions (opening opened one.piece)) xs))
          → AreRight (item_or (flat_map (within deep definitions (opening opened one.piece))) o (kept opened one.piece one.place ∷ []) one.place)
      by None each = (kept_right opened one.piece one.place right, tt)
      by (Some text) each = each (text_items one.place text) (items_right (map (λ b. Byte b one.place) text ++ Byte 10 one.place ∷ []) [] 0 (bytes_right one.place text))

as_right : (p : Piece) (place : Place) → IsRightPiece p → IsRightPiece (as_word p place).piece
as_right (Replacement text) place right = tt
as_right Open place right = tt
as_right (Is w) place right = right
as_right (Wrong rule) place right = tt

fault_right : (o : Option (List ℕ × List ℕ)) (rule : ℕ) (place : Place) → AreRight (fault_of o rule place)
fault_right None rule place = (tt, tt)
fault_right (Some one) rule place = tt

replaced_right : (xs : List Item) (skipped : ℕ) (definitions : Definitions) → AreRight xs → AreRight (replaced skipped definitions xs)
replaced_right [] skipped definitions right = tt
replaced_right (one ∷ rest) (suc skipped) definitions right = replaced_right rest skipped definitions right.1
replaced_right (one ∷ rest) zero definitions right =
    by (is_replace one.piece) (replaced_right rest (definition_size (definition rest)) (with_definition (definition rest) definitions) right.1) (replaced_right rest zero definitions right.1) where
      by : (b : Bool) → AreRight (replaced (definition_size (definition rest)) (with_definition (definition rest) definitions) rest) → AreRight (replaced zero definitions rest)
          → AreRight (if b then fault_of (definition rest) (formless rest) one.place ++ replaced (definition_size (definition rest)) (with_definition (definition rest) definitions) rest
          else replaced_word definitions (as_word one.piece one.place) ++ replaced zero definitions rest)
      by true first second = both_right _ _ (fault_right (definition rest) (formless rest) one.place) first
      by false first second = both_right _ _ (within_right (length definitions) definitions [] (as_word one.piece one.place) (as_right one.piece one.place right.0)) second

tokens_right : (tokens : List Token) → AreRight (map word_item tokens) → AreRightWords tokens
tokens_right [] right = tt
tokens_right (token ∷ tokens) right = (right.0, tokens_right tokens right.1)

-- the words of a text
pub cut_right : (unit : ℕ) (text : List ℕ) (tokens : List Token) → IsCut unit text tokens → AreRightWords tokens
cut_right unit text tokens cut = tokens_right tokens (subst AreRight cut.words (replaced_right (file_items unit text) 0 [] (items_right (file_cells unit text) [] 0 (lines_right unit 1 (lines text)))))
