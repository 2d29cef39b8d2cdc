-- Cells of main lines between words: what is skipped, and what is looked at.
use Rattle.std.proofs.Common.{◌≡◌, ℕ, zero, suc, pred, ◌+◌, ◌≤◌, List, [], ◌∷◌, ◌++◌, length, drop, All, ◌≢◌, true, false, refl, ap, sym, ◌∙◌, arith, eqb}
use Rattle.std.proofs.lemmas.Bool.{ne_eqb}
use Rattle.std.proofs.lemmas.List.{append-nil}
use Rattle.std.proofs.lemmas.List.Elements.{All-head, All-tail}
use Rattle.hal_base.specs.declared.refusal.Place.{Place}
use Rattle.hal_words.specs.Letters.{is_blank}
use Rattle.hal_words.specs.Pieces.{Piece, piece_or_text}
use Rattle.hal_words.specs.Lines.{Item, Cell, Byte, place_at, main_cells}
use Rattle.hal_words.specs.Items.{line_of, begins_comment, main_item, opens_text, begun, items}

-- the bytes of a line's rest, up to the end of the line
pub line_of-main_cells : (unit line column : ℕ) (text : List ℕ) (more : List Cell) → All (λ b. b ≢ 10) text → line_of (main_cells unit line column text ++ more) ≡ text
line_of-main_cells unit line column [] more plain = refl
line_of-main_cells unit line column (b ∷ text) more plain =
    let other : eqb b 10 ≡ false = ne_eqb b 10 (All-head (λ b. b ≢ 10) b text plain) in
    rw other (ap (λ (t : List ℕ). b ∷ t) (line_of-main_cells unit line (column + 1) text more (All-tail (λ b. b ≢ 10) b text plain)))

-- cells that belong to a word are skipped
pub items-main_cells : (done : List Item) (unit line column skipped : ℕ) (text : List ℕ) (more : List Cell) → skipped ≤ length text → items done skipped (main_cells unit line column text ++ more) ≡ items done 0 (main_cells unit line (column + skipped) (drop skipped text) ++ more)
items-main_cells done unit line column zero text more within = let same : column ≡ column + 0 = omega arith in ap (λ c. items done 0 (main_cells unit line c text ++ more)) same
items-main_cells done unit line column (suc skipped) [] more within = absurd (omega (arith, within))
items-main_cells done unit line column (suc skipped) (b ∷ text) more within =
    let further : column + 1 + skipped ≡ column + suc skipped = omega arith in
    items-main_cells done unit line (column + 1) skipped text more (omega arith) ∙ ap (λ c. items done 0 (main_cells unit line c (drop skipped text) ++ more)) further

-- a blank gives nothing
pub items-blank : (done : List Item) (b : ℕ) (place : Place) (cells : List Cell) → is_blank b ≡ true → items done 0 (Byte b place ∷ cells) ≡ items done 0 cells
items-blank done b place cells blank = rw blank (ap (λ (l : List Item). items l 0 cells) (append-nil done))

-- the end of a line gives nothing
pub items-line_end : (done : List Item) (place : Place) (cells : List Cell) → items done 0 (Byte 10 place ∷ cells) ≡ items done 0 cells
items-line_end done place cells = ap (λ (l : List Item). items l 0 cells) (append-nil done)

-- a word that begins at this byte
begun-word : (done : List Item) (b : ℕ) (place : Place) (line : List ℕ) (cells : List Cell) → is_blank b ≡ false → eqb b 10 ≡ false → begins_comment line ≡ false → begun done b place line cells ≡ (main_item (piece_or_text (opens_text done) line).0 place ∷ [], pred (piece_or_text (opens_text done) line).1)
begun-word done b place line cells blank plain comment = rw (blank, plain, comment) refl

-- a word gives its item, and the cells behind it follow
pub items-word : (done : List Item) (unit line column b : ℕ) (text : List ℕ) (more : List Cell) (sized : Piece × ℕ) → sized ≡ piece_or_text (opens_text done) (b ∷ text) → All (λ b. b ≢ 10) (b ∷ text) → is_blank b ≡ false → begins_comment (b ∷ text) ≡ false → (1 ≤ sized.1) × (sized.1 ≤ length (b ∷ text)) → items done 0 (main_cells unit line column (b ∷ text) ++ more) ≡ main_item sized.0 (place_at unit line column) ∷ items (done ++ main_item sized.0 (place_at unit line column) ∷ []) 0 (main_cells unit line (column + sized.1) (drop sized.1 (b ∷ text)) ++ more)
items-word done unit line column b text more sized is plain blank comment fits =
    let place = place_at unit line column in
    let cells = main_cells unit line (column + 1) text ++ more in
    let one = main_item sized.0 place in
    let bytes : line_of (Byte b place ∷ cells) ≡ b ∷ text = line_of-main_cells unit line column (b ∷ text) more plain in
    let found : begun done b place (line_of (Byte b place ∷ cells)) cells ≡ (one ∷ [], pred sized.1) =
    ap (λ t. begun done b place t cells) bytes ∙ begun-word done b place (b ∷ text) cells blank (ne_eqb b 10 (All-head (λ b. b ≢ 10) b text plain)) comment
    ∙ ap (λ (s : Piece × ℕ). (main_item s.0 place ∷ [], pred s.1)) (sym is) in
    ap (λ (f : List Item × ℕ). f.0 ++ items (done ++ f.0) f.1 cells) found ∙ ap (λ (l : List Item). one ∷ l) (behind (done ++ one ∷ []) sized.1 fits.0 fits.1)
  where
    behind : (now : List Item) (size : ℕ) → 1 ≤ size → size ≤ suc (length text) → items now (pred size) (main_cells unit line (column + 1) text ++ more) ≡ items now 0 (main_cells unit line (column + size) (drop size (b ∷ text)) ++ more)
    behind now zero some all = absurd (omega (arith, some))
    behind now (suc size) some all =
        let further : column + 1 + size ≡ column + suc size = omega arith in
        items-main_cells now unit line (column + 1) size text more (omega arith) ∙ ap (λ c. items now 0 (main_cells unit line c (drop size text) ++ more)) further
