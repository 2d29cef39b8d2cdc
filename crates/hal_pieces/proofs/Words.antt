-- What is read at the front of the rest of a main line.
use Rattle.std.proofs.Common.{◌≡◌, ℕ, ◌+◌, ◌<◌, ◌≤◌, ◌≢◌, List, [], ◌∷◌, ◌++◌, length, drop, All, Contains, true, false, refl, ap, ◌∙◌, sym, subst, arith, Option, Some, None, eqb}
use Rattle.std.proofs.lemmas.Bool.{and_parts, eqb-true}
use Rattle.std.proofs.lemmas.List.Elements.{All-nil, All-cons}
use Rattle.hal_base.specs.declared.refusal.Place.{Place}
use Rattle.hal_base.specs.declared.refusal.Refusal.{Refusal}
use Rattle.hal_base.specs.declared.refusal.Fault.{Fault}
use Rattle.hal_base.specs.declared.refusal.Fault.TheVariants as fault
use Rattle.hal_words.specs.Letters.{is_blank}
use Rattle.hal_words.specs.Numbers.{begins}
use Rattle.hal_words.specs.Pieces.{Piece, Wrong, piece_or_text}
use Rattle.hal_words.specs.Lines.{Item, item, Cell, place_at, main_cells}
use Rattle.hal_words.specs.Items.{begins_comment, main_item, opens_text, items}
use Rattle.hal_pieces.specs.declared.item.RightPiece.{RightPiece}
use Rattle.hal_pieces.specs.declared.item.RightPiece.TheVariants as right
use Rattle.hal_pieces.specs.Seen.{seen_right}
use Rattle.hal_pieces.specs.Faults.{IsRight, IsFaultItem}
use Rattle.hal_pieces.specs.Reading.{closing, inside, Reads, IsBrokenBy, TellsOf}
use Rattle.hal_pieces.proofs.Cells.{items-blank, items-line_end, items-word}
use Rattle.hal_pieces.proofs.InComments.{items-comment, inside-byte, inside-closed, inside-open}
use Rattle.hal_pieces.proofs.Follow.{Reads-same, Reads-nothing}
use Rattle.hal_pieces.proofs.Sizes.{text-within}

-- the end of the line
pub Reads-line_end : (unit line column : ℕ) (state : Option Place) (old : List Item) → Reads (main_cells unit line column []) [] state state old old
Reads-line_end unit line column None old = Reads-nothing (main_cells unit line column []) [] None None old (λ more. items-line_end old (place_at unit line column) more)
Reads-line_end unit line column (Some place) old = Reads-nothing (main_cells unit line column []) [] (Some place) (Some place) old (λ more. inside-byte false 10 place (place_at unit line column) old more refl)

-- a blank
pub Reads-blank : (unit line column : ℕ) (text : List ℕ) (old : List Item) → begins is_blank text ≡ true → Reads (main_cells unit line column text) (main_cells unit line (column + 1) (drop 1 text)) None None old old
Reads-blank unit line column [] old blank = absurd cc
Reads-blank unit line column (b ∷ text) old blank = Reads-nothing (main_cells unit line column (b ∷ text)) (main_cells unit line (column + 1) text) None None old (λ more. items-blank old b (place_at unit line column) (main_cells unit line (column + 1) text ++ more) blank)

-- the first two bytes of a comment
Reads-comment : (unit line column : ℕ) (text : List ℕ) (old : List Item) → Reads (main_cells unit line column (47 ∷ 42 ∷ text)) (main_cells unit line (column + 2) text) None (Some (place_at unit line column)) old old
Reads-comment unit line column text old =
    let further : column + 1 + 1 ≡ column + 2 = omega arith in
    Reads-nothing (main_cells unit line column (47 ∷ 42 ∷ text)) (main_cells unit line (column + 2) text) None (Some (place_at unit line column)) old (λ more.
    items-comment (place_at unit line column) (place_at unit line (column + 1)) old (main_cells unit line (column + 1 + 1) text ++ more)
    ∙ ap (λ c. inside false (place_at unit line column) old (main_cells unit line c text ++ more)) further)

pub Reads-begins_comment : (unit line column : ℕ) (text : List ℕ) (old : List Item) → begins_comment text ≡ true → Reads (main_cells unit line column text) (main_cells unit line (column + 2) (drop 2 text)) None (Some (place_at unit line column)) old old
Reads-begins_comment unit line column [] old begins = absurd cc
Reads-begins_comment unit line column (b ∷ []) old begins = absurd cc
Reads-begins_comment unit line column (b ∷ c ∷ text) old begins =
    let tests = and_parts (eqb b 47) (eqb c 42) begins in
    let one : b ≡ 47 = eqb-true b 47 tests.0 in
    let two : c ≡ 42 = eqb-true c 42 tests.1 in
    subst (λ (x : ℕ). Reads (main_cells unit line column (x ∷ c ∷ text)) (main_cells unit line (column + 2) text) None (Some (place_at unit line column)) old old) (sym one)
    (subst (λ (y : ℕ). Reads (main_cells unit line column (47 ∷ y ∷ text)) (main_cells unit line (column + 2) text) None (Some (place_at unit line column)) old old) (sym two)
    (Reads-comment unit line column text old))

-- a comment up to its end
pub Reads-closed : (unit line column : ℕ) (place : Place) (text : List ℕ) (size : ℕ) (old : List Item) → closing false text ≡ Some size → Reads (main_cells unit line column text) (main_cells unit line (column + size) (drop size text)) (Some place) None old old
Reads-closed unit line column place text size old closed = Reads-nothing (main_cells unit line column text) (main_cells unit line (column + size) (drop size text)) (Some place) None old (λ more. inside-closed unit line column false place old text more size closed)

-- a comment up to the end of the line
pub Reads-open : (unit line column : ℕ) (place : Place) (text : List ℕ) (later : ℕ) (old : List Item) → closing false text ≡ None → Reads (main_cells unit line column text) (main_cells unit line later []) (Some place) (Some place) old old
Reads-open unit line column place text later old goes = Reads-nothing (main_cells unit line column text) (main_cells unit line later []) (Some place) (Some place) old (λ more.
    inside-open unit line column false place old text more goes ∙ sym (inside-byte false 10 place (place_at unit line later) old more refl))

items-piece : (done : List Item) (unit line column : ℕ) (text : List ℕ) (more : List Cell) (sized : Piece × ℕ) → sized ≡ piece_or_text (opens_text done) text → 0 < length text → All (λ b. b ≢ 10) text → begins is_blank text ≡ false → begins_comment text ≡ false → items done 0 (main_cells unit line column text ++ more) ≡ main_item sized.0 (place_at unit line column) ∷ items (done ++ main_item sized.0 (place_at unit line column) ∷ []) 0 (main_cells unit line (column + sized.1) (drop sized.1 text) ++ more)
items-piece done unit line column [] more sized is some plain blank comment = absurd (omega (arith, some))
items-piece done unit line column (b ∷ text) more sized is some plain blank comment =
    items-word done unit line column b text more sized is plain blank comment
    (subst (λ (s : Piece × ℕ). (1 ≤ s.1) × (s.1 ≤ length (b ∷ text))) (sym is) (text-within (opens_text done) (b ∷ text) some))

-- a word
pub Reads-word : (unit line column : ℕ) (text : List ℕ) (sized : Piece × ℕ) (one : Item) (old : List Item) → sized ≡ piece_or_text (opens_text old) text → 0 < length text → All (λ b. b ≢ 10) text → begins is_blank text ≡ false → begins_comment text ≡ false → main_item sized.0 (place_at unit line column) ≡ one → IsRight one.piece → Reads (main_cells unit line column text) (main_cells unit line (column + sized.1) (drop sized.1 text)) None None old (old ++ one ∷ [])
Reads-word unit line column text sized one old is some plain blank comment found right =
    Reads-same (main_cells unit line column text) (main_cells unit line (column + sized.1) (drop sized.1 text)) None None old (one ∷ []) (old ++ one ∷ []) refl
    (All-cons (λ one. IsRight one.piece) one [] right (All-nil (λ one. IsRight one.piece)))
    (λ more. items-piece old unit line column text more sized is some plain blank comment ∙ ap (λ (o : Item). o ∷ items (old ++ o ∷ []) 0 (main_cells unit line (column + sized.1) (drop sized.1 text) ++ more)) found)

-- a piece that is an item breaks no rule
pub IsRight-seen : (one : RightPiece) → IsRight (seen_right one)
IsRight-seen (right.Word word) = tt
IsRight-seen (right.Replacement bytes) = tt
IsRight-seen right.Open = tt

-- a word that breaks a rule
IsBrokenBy-word : (unit line column : ℕ) (text : List ℕ) (sized : Piece × ℕ) (old : List Item) (refusal : Refusal) → sized ≡ piece_or_text (opens_text old) text → 0 < length text → All (λ b. b ≢ 10) text → begins is_blank text ≡ false → begins_comment text ≡ false → main_item sized.0 (place_at unit line column) ≡ item (Wrong refusal.rule.0) refusal.place → IsBrokenBy (main_cells unit line column text) None old refusal
IsBrokenBy-word unit line column text sized old refusal is some plain blank comment found = λ more.
    let fault = item (Wrong refusal.rule.0) refusal.place in
    let same = items-piece old unit line column text more sized is some plain blank comment ∙ ap (λ (o : Item). o ∷ items (old ++ o ∷ []) 0 (main_cells unit line (column + sized.1) (drop sized.1 text) ++ more)) found in
    subst (λ (l : List Item). Contains l fault) (sym same) (0, omega arith, refl)

-- an error that tells of a word
pub TellsOf-word : (unit line column : ℕ) (text : List ℕ) (sized : Piece × ℕ) (old : List Item) (told : Fault) → sized ≡ piece_or_text (opens_text old) text → 0 < length text → All (λ b. b ≢ 10) text → begins is_blank text ≡ false → begins_comment text ≡ false → IsFaultItem (main_item sized.0 (place_at unit line column)) told → TellsOf (main_cells unit line column text) None old told
TellsOf-word unit line column text sized old (fault.Broken refusal) is some plain blank comment found = IsBrokenBy-word unit line column text sized old refusal is some plain blank comment found
TellsOf-word unit line column text sized old (fault.Memory error) is some plain blank comment found = tt
