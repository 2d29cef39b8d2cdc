-- Which pieces begin with a `"`.
use Rattle.std.proofs.Common.{◌≡◌, ◌<◌, ℕ, Bool, true, false, List, [], ◌∷◌, length, get_or, map, drop, nat_le, Option, Some, None, All, sym, ap, ◌∙◌, subst, arith}
use Rattle.std.specs.Prelude.{if◌then◌else◌, ◌==◌}
use Rattle.std.proofs.lemmas.List.{length-map, get_or-map}
use Rattle.hal_base.specs.declared.refusal.Place.{Place}
use Rattle.hal_words.specs.declared.reserved.Reserved.{Reserved}
use Rattle.hal_words.specs.declared.reserved.Reserved.TheVariants as reserved
use Rattle.hal_words.specs.declared.word.Word.{Word}
use Rattle.hal_words.specs.declared.word.Word.TheVariants as word
use Rattle.hal_words.specs.Letters.{is_letter}
use Rattle.hal_words.specs.Literals.{Base, base_of, inside}
use Rattle.hal_words.specs.Numbers.{begins_number}
use Rattle.hal_words.specs.Reserved.{reserved_words, left_out_words, look_up}
use Rattle.hal_words.specs.Lines as lines
use Rattle.hal_words.specs.Lines.{item}
use Rattle.hal_words.specs.Items.{main_item}
use Rattle.hal_words.specs.Replacing.{as_word}
use Rattle.hal_words.specs.Pieces.{Piece, Is, Replacement, Open, Wrong, known, bits_or_wrong, bits, with_base, number_piece, text_piece, literal_piece, sign, pair, longer, signs, letters, number, literal, run_of, piece}
use Rattle.hal_pieces.specs.Seen.{seen_right}
use Rattle.hal_pieces.specs.declared.item.Item.{Item}
use Rattle.hal_pieces.specs.Faults.{seen_item}
use Rattle.hal_lexer.specs.Texts.{IsNoMark, IsTextOf, HoldsText}

-- the text of an item
pub text_at : (items : List Item) (k : ℕ) (one : Item) → All HoldsText (map seen_item items) → k < length items → one ≡ get_or items k one → IsTextOf (seen_right one.piece)
text_at items k one all within is =
    let below : k < length (map seen_item items) = omega (arith, length-map items seen_item) in
    subst (λ (found : lines.Item). HoldsText found) (get_or-map seen_item items k one (seen_item one) within ∙ ap seen_item (sym is)) (all k (seen_item one) below)

main_no_mark : (one : Piece) (place : Place) → IsNoMark one → IsNoMark (main_item one place).piece
main_no_mark (Is (word.Reserved reserved.Include)) place none = tt
main_no_mark one place none = none

-- what a piece without a `"` stands for in a text is a word there, or a fault
pub as_word_of_text : (one other : Piece) (place : Place) → IsNoMark one → main_item one place ≡ item other place → as_word other place ≡ main_item one place
as_word_of_text one (Replacement bytes) place none is = absurd (subst (λ (found : lines.Item). IsNoMark found.piece) is (main_no_mark one place none))
as_word_of_text one Open place none is = absurd (subst (λ (found : lines.Item). IsNoMark found.piece) is (main_no_mark one place none))
as_word_of_text one other place none is = sym is

record NoMark (one : Piece) : Type 0 where
  is : IsNoMark one

word_no_mark : (one : Word) → NoMark (Is one)
word_no_mark one = record { is = tt }

wrong_no_mark : (rule : ℕ) → NoMark (Wrong rule)
wrong_no_mark rule = record { is = tt }

either : (t : Bool) (a b : Piece) → NoMark a → NoMark b → NoMark (if t then a else b)
either true a b x y = x
either false a b x y = y

either_size : (t : Bool) (a b : Piece × ℕ) → NoMark a.0 → NoMark b.0 → NoMark (if t then a else b).0
either_size true a b x y = x
either_size false a b x y = y

known_no_mark : (one : Option Reserved) (left_out : Option ℕ) (run : List ℕ) → NoMark (known one left_out run)
known_no_mark (Some one) left_out run = word_no_mark (word.Reserved one)
known_no_mark None (Some rule) run = wrong_no_mark rule
known_no_mark None None run = either (nat_le (length run) 32) (Is (word.Name run)) (Wrong 203) (word_no_mark (word.Name run)) (wrong_no_mark 203)

bits_no_mark : (found : Option (ℕ × ℕ)) → NoMark (bits_or_wrong found)
bits_no_mark None = wrong_no_mark 204
bits_no_mark (Some found) = word_no_mark (word.Bits found.0 found.1)

number_no_mark : (text : List ℕ) → NoMark (number_piece text)
number_no_mark text = search (either, word_no_mark, wrong_no_mark)

text_no_mark : (bytes : List ℕ) → NoMark (text_piece bytes)
text_no_mark bytes = search (either, word_no_mark, wrong_no_mark)

literal_no_mark : (left : ℕ) (found : Option (List ℕ × ℕ)) → NoMark (literal_piece left found).0
literal_no_mark left None = wrong_no_mark 202
literal_no_mark left (Some found) = text_no_mark found.0

base_no_mark : (base : Base) (before : ℕ) (text : List ℕ) → NoMark (bits base before text).0
base_no_mark base before text = search (either_size, bits_no_mark, wrong_no_mark)

letters_no_mark : (base : Option Base) (run after : List ℕ) → NoMark (with_base base run after).0
letters_no_mark None run after = known_no_mark (look_up reserved_words run) (look_up left_out_words run) run
letters_no_mark (Some base) run after = search (either_size, base_no_mark, known_no_mark)

sign_no_mark : (b : ℕ) → NoMark (sign b)
sign_no_mark b = search (either, word_no_mark, wrong_no_mark) depth 60

longer_no_mark : (found : Option Word) (b : ℕ) → NoMark (longer found b).0
longer_no_mark None b = sign_no_mark b
longer_no_mark (Some one) b = word_no_mark one

signs_no_mark : (b : ℕ) (text : List ℕ) → NoMark (signs b text).0
signs_no_mark b [] = sign_no_mark b
signs_no_mark b (c ∷ text) = longer_no_mark (pair b c) b

-- no piece begins with a `"` but where a text may be opened
begun_no_mark : (b : ℕ) (text : List ℕ) → NoMark (piece (b ∷ text)).0
begun_no_mark b text = either_size (is_letter b) (letters (b ∷ text)) _
    (letters_no_mark (base_of (run_of (b ∷ text))) (run_of (b ∷ text)) (drop (length (run_of (b ∷ text))) (b ∷ text)))
    (either_size (begins_number (b ∷ text)) (number (b ∷ text)) _ (number_no_mark (b ∷ text))
    (either_size (b == 39) (literal text) (signs b text) (literal_no_mark (length text) (inside text)) (signs_no_mark b text)))

pub piece_no_mark : (text : List ℕ) → IsNoMark (piece text).0
piece_no_mark [] = tt
piece_no_mark (b ∷ text) = (begun_no_mark b text).is
