-- What the text of a definition gives from its front on.
use Rattle.std.proofs.Common.{◌≡◌, ◌≢◌, ◌≤◌, ◌-◌, ℕ, zero, suc, pred, inl, inr, Bool, true, false, ◌&&◌, List, [], ◌∷◌, ◌++◌, length, get_or, drop, take, map, Option, Some, None, refl, sym, ap, ◌∙◌, subst, arith}
use Rattle.std.specs.Prelude.{◌==◌}
use Rattle.std.specs.Option.{option_map}
use Rattle.std.proofs.lemmas.Bool.{cases_Bool}
use Rattle.std.proofs.lemmas.Bool.Decides.{nat_tests}
use Rattle.std.proofs.lemmas.List.{drop_all, take_all, length-append, length-map}
use Rattle.std.proofs.lemmas.List.Elements.{All-drop}
use Rattle.hal_base.specs.declared.refusal.Place.{Place}
use Rattle.hal_words.specs.Letters.{is_blank}
use Rattle.hal_words.specs.Lines.{Item, item, Cell, Byte}
use Rattle.hal_words.specs.Pieces.{Piece, Wrong, piece, piece_or_text}
use Rattle.hal_words.specs.Items.{line_of, comment_rest, begins_comment, main_item, size_or_all, fault_if_open, opens_text, begun, items}
use Rattle.hal_words.specs.Replacing.{text_items}
use Rattle.hal_pieces.specs.Reading.{closing}
use Rattle.hal_lexer.specs.Texts.{IsTextByte, IsText, IsNoMark}
use Rattle.hal_lexer.proofs.Marks.{piece_no_mark}

-- the bytes of a text where it is used
abbrev cells : Place → List ℕ → List Cell
cells place text = map (λ b. Byte b place) text ++ Byte 10 place ∷ []

pub rest_text : (b : ℕ) (text : List ℕ) → IsText (b ∷ text) → IsText text
rest_text b text is = All-drop IsTextByte 1 (b ∷ text) is

first_text : (b : ℕ) (text : List ℕ) → IsText (b ∷ text) → IsTextByte b
first_text b text is = is 0 b (omega arith)

line_is : (place : Place) (text : List ℕ) → IsText text → line_of (cells place text) ≡ text
line_is place [] is = refl
line_is place (b ∷ text) is =
    let byte = first_text b text is in
    let other : (b == 10) ≡ false = grind (arith, nat_tests) in
    rw other (ap (λ (rest : List ℕ). b ∷ rest) (line_is place text (rest_text b text is)))

-- a text has no `"`, so what was read before makes no difference
piece_is : (opens : Bool) (b : ℕ) (text : List ℕ) → (b == 34) ≡ false → piece_or_text opens (b ∷ text) ≡ piece (b ∷ text)
piece_is opens b text other = rw other refl

begun_is : (some other : List Item) (b : ℕ) (place : Place) (text : List ℕ) (behind : List Cell) → b ≢ 34 → begun some b place (b ∷ text) behind ≡ begun other b place (b ∷ text) behind
begun_is some other b place text behind no_mark =
    let not_mark : (b == 34) ≡ false = grind (arith, nat_tests) in
    let here : (opens : Bool) → piece_or_text opens (b ∷ text) ≡ piece (b ∷ text) = λ opens. piece_is opens b text not_mark in
    rw (here (opens_text some), here (opens_text other)) refl

behind_is : (some other : List Item) (n : ℕ) (place : Place) (text : List ℕ) → IsText text → items some n (cells place text) ≡ items other n (cells place text)
behind_is some other zero place [] is = refl
behind_is some other (suc n) place [] is = refl
behind_is some other (suc n) place (b ∷ text) is = behind_is some other n place text (rest_text b text is)
behind_is some other zero place (b ∷ text) is =
    let line : line_of (cells place (b ∷ text)) ≡ b ∷ text = line_is place (b ∷ text) is in
    let same : begun some b place (b ∷ text) (cells place text) ≡ begun other b place (b ∷ text) (cells place text) = begun_is some other b place text (cells place text) (first_text b text is).1 in
    let found = begun other b place (b ∷ text) (cells place text) in
    ap (λ (t : List ℕ). (begun some b place t (cells place text)).0 ++ items (some ++ (begun some b place t (cells place text)).0) (begun some b place t (cells place text)).1 (cells place text)) line
    ∙ ap (λ (f : List Item × ℕ). f.0 ++ items (some ++ f.0) f.1 (cells place text)) same
    ∙ ap (λ (l : List Item). found.0 ++ l) (behind_is (some ++ found.0) (other ++ found.0) found.1 place text (rest_text b text is))
    ∙ sym (ap (λ (t : List ℕ). (begun other b place t (cells place text)).0 ++ items (other ++ (begun other b place t (cells place text)).0) (begun other b place t (cells place text)).1 (cells place text)) line)

skipped : (before : List Item) (n : ℕ) (place : Place) (text : List ℕ) → IsText text → items before n (cells place text) ≡ text_items place (drop n text)
skipped before zero place text is = behind_is before [] zero place text is
skipped before (suc n) place [] is = refl
skipped before (suc n) place (b ∷ text) is = skipped before n place text (rest_text b text is)

-- comments
rest_is : (after : Bool) (place : Place) (text : List ℕ) → comment_rest after (cells place text) ≡ closing after text
rest_is true place [] = refl
rest_is false place [] = refl
rest_is after place (b ∷ text) = elim (cases_Bool (after && b == 47)) [
  | inl ends ↦ rw ends refl
  | inr goes_on ↦ rw goes_on (ap (option_map suc) (rest_is (b == 42) place text))
]

abbrev pub After : Place → List ℕ → Option ℕ → List Item
After place text None = item (Wrong 202) place ∷ []
After place text (Some size) = text_items place (drop size text)

behind_comment : (size : Option ℕ) (place : Place) (text : List ℕ) → IsText (42 ∷ text)
    → fault_if_open size place ++ items (fault_if_open size place) (size_or_all size (length (cells place (42 ∷ text)))) (cells place (42 ∷ text)) ≡ After place text size
behind_comment None place text is =
    let all : drop (length (cells place (42 ∷ text))) (42 ∷ text) ≡ [] =
    drop_all (length (cells place (42 ∷ text))) (42 ∷ text) (omega (arith, length-append (map (λ b. Byte b place) (42 ∷ text)) (Byte 10 place ∷ []), length-map (42 ∷ text) (λ b. Byte b place))) in
    ap (λ (rest : List Item). item (Wrong 202) place ∷ rest) (skipped (fault_if_open None place) (length (cells place (42 ∷ text))) place (42 ∷ text) is ∙ ap (text_items place) all)
behind_comment (Some n) place text is = skipped [] (suc n) place (42 ∷ text) is

comment_is : (place : Place) (text : List ℕ) → IsText (42 ∷ text) → text_items place (47 ∷ 42 ∷ text) ≡ After place text (closing false text)
comment_is place text is = behind_comment (comment_rest false (cells place text)) place text is ∙ ap (After place text) (rest_is false place text)

comment_front : (text : List ℕ) → begins_comment text ≡ true → text ≡ 47 ∷ 42 ∷ drop 2 text
comment_front [] is = let no : false ≡ true = is in absurd (cc)
comment_front (b ∷ []) is = let no : false ≡ true = is in absurd (cc)
comment_front (b ∷ c ∷ text) is =
    let first : b ≡ 47 = grind (arith, nat_tests) in
    let second : c ≡ 42 = grind (arith, nat_tests) in
    rw (first, second) refl

inner_text : (text : List ℕ) → IsText text → begins_comment text ≡ true → IsText (42 ∷ drop 2 text)
inner_text text is begins = rest_text 47 (42 ∷ drop 2 text) (subst IsText (comment_front text begins) is)

pub open_comment : (text rest : List ℕ) → IsText text → begins_comment text ≡ true → rest ≡ drop 2 text → closing false rest ≡ None → (place : Place) → text_items place text ≡ item (Wrong 202) place ∷ []
open_comment text rest fine begins is none place =
    let here : closing false (drop 2 text) ≡ None = rw (← is) none in
    ap (text_items place) (comment_front text begins) ∙ comment_is place (drop 2 text) (inner_text text fine begins) ∙ ap (After place (drop 2 text)) here

pub closed_comment : (text rest after : List ℕ) (size : ℕ) → IsText text → begins_comment text ≡ true → rest ≡ drop 2 text → closing false rest ≡ Some size → after ≡ drop size rest → (place : Place) → text_items place text ≡ text_items place after
closed_comment text rest after size fine begins is some cut place =
    let here : closing false (drop 2 text) ≡ Some size = rw (← is) some in
    let behind : after ≡ drop size (drop 2 text) = rw (← is) cut in
    ap (text_items place) (comment_front text begins) ∙ comment_is place (drop 2 text) (inner_text text fine begins) ∙ ap (After place (drop 2 text)) here ∙ ap (text_items place) (sym behind)

pred_is : (n : ℕ) → pred n ≡ n - 1
pred_is zero = refl
pred_is (suc n) = omega arith

-- blanks, and the piece behind them
pub blank_front : (b : ℕ) (text : List ℕ) → is_blank b ≡ true → (place : Place) → text_items place (b ∷ text) ≡ text_items place text
blank_front b text blank place = rw blank refl

pub piece_front : (b : ℕ) (text : List ℕ) → IsText (b ∷ text) → is_blank b ≡ false → begins_comment (b ∷ text) ≡ false
    → (place : Place) → text_items place (b ∷ text) ≡ main_item (piece (b ∷ text)).0 place ∷ text_items place (drop ((piece (b ∷ text)).1 - 1) text)
piece_front b text is blank comment place =
    let byte = first_text b text is in
    let other : (b == 10) ≡ false = grind (arith, nat_tests) in
    let line : line_of (cells place text) ≡ text = line_is place text (rest_text b text is) in
    let no_mark : (b == 34) ≡ false = grind (arith, nat_tests) in
    rw (line, blank, other, comment, no_mark) (ap (λ (rest : List Item). main_item (piece (b ∷ text)).0 place ∷ rest) (skipped (main_item (piece (b ∷ text)).0 place ∷ []) (pred (piece (b ∷ text)).1) place text (rest_text b text is) ∙ ap (λ n. text_items place (drop n text)) (pred_is (piece (b ∷ text)).1)))

-- the same at a text that isn't empty, for the code's slices
tail_is : (b : ℕ) (text behind : List ℕ) → behind ≡ take (length (b ∷ text) - 1) text → behind ≡ text
tail_is b text behind is = is ∙ take_all (length (b ∷ text) - 1) text (omega arith)

pub piece_at : (text behind rest : List ℕ) (size : ℕ) (one : Piece) → 1 ≤ length text → IsText text → behind ≡ take (length text - 1) (drop 1 text)
    → is_blank (get_or text 0 0) ≡ false → begins_comment text ≡ false → one ≡ (piece text).0 → size ≡ (piece text).1 → rest ≡ drop (size - 1) behind
    → (place : Place) → text_items place text ≡ main_item one place ∷ text_items place rest
piece_at [] behind rest size one some is tail blank comment what sized cut place = absurd (omega arith)
piece_at (b ∷ text) behind rest size one some is tail blank comment what sized cut place =
    rw (cut, tail_is b text behind tail, what, sized) (piece_front b text is blank comment place)

pub word_at : (text : List ℕ) (one : Piece) → 1 ≤ length text → IsText text → one ≡ (piece text).0 → IsNoMark one
word_at text one some is what = rw what (piece_no_mark text)

pub text_behind : (text behind rest : List ℕ) (n : ℕ) → 1 ≤ length text → IsText text → behind ≡ take (length text - 1) (drop 1 text) → rest ≡ drop n behind → IsText rest
text_behind [] behind rest n some is tail cut = absurd (omega arith)
text_behind (b ∷ text) behind rest n some is tail cut = rw (cut, tail_is b text behind tail) (All-drop IsTextByte n text (rest_text b text is))
