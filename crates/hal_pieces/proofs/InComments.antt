-- Cells of main lines inside a comment.
use Rattle.std.proofs.Common.{◌≡◌, ℕ, suc, ◌+◌, ◌≤◌, ◌&&◌, List, [], ◌∷◌, ◌++◌, length, drop, Bool, true, false, refl, ap, ◌∙◌, sym, arith, eqb, Option, Some, None, option_map}
use Rattle.std.proofs.lemmas.List.{append-nil}
use Rattle.hal_base.specs.declared.refusal.Place.{Place}
use Rattle.hal_words.specs.Lines.{Item, Cell, Byte, place_at, main_cells}
use Rattle.hal_words.specs.Items.{items, comment_rest, fault_if_open, size_or_all}
use Rattle.hal_pieces.specs.Reading.{closing, inside, size_within}

-- a comment's first two bytes
pub items-comment : (place next : Place) (done : List Item) (cells : List Cell) → items done 0 (Byte 47 place ∷ Byte 42 next ∷ cells) ≡ inside false place done cells
items-comment place next done cells = by (comment_rest false cells)
  where
    by : (rest : Option ℕ) → fault_if_open rest place ++ items (done ++ fault_if_open rest place) (size_or_all rest (suc (length cells))) (Byte 42 next ∷ cells) ≡ fault_if_open rest place ++ items (done ++ fault_if_open rest place) (size_within rest (length cells)) cells
    by None = refl
    by (Some size) = refl

-- its last byte
pub inside-last : (place at : Place) (done : List Item) (cells : List Cell) → inside true place done (Byte 47 at ∷ cells) ≡ items done 0 cells
inside-last place at done cells = ap (λ (l : List Item). items l 0 cells) (append-nil done)

-- another byte of it
pub inside-byte : (after : Bool) (b : ℕ) (place at : Place) (done : List Item) (cells : List Cell) → (after && eqb b 47) ≡ false → inside after place done (Byte b at ∷ cells) ≡ inside (eqb b 42) place done cells
inside-byte after b place at done cells other = rw other (by (comment_rest (eqb b 42) cells))
  where
    by : (rest : Option ℕ) → fault_if_open (option_map suc rest) place ++ items (done ++ fault_if_open (option_map suc rest) place) (size_within (option_map suc rest) (suc (length cells))) (Byte b at ∷ cells) ≡ fault_if_open rest place ++ items (done ++ fault_if_open rest place) (size_within rest (length cells)) cells
    by None = refl
    by (Some size) = refl

closing-byte : (after : Bool) (b : ℕ) (text : List ℕ) → (after && eqb b 47) ≡ false → closing after (b ∷ text) ≡ option_map suc (closing (eqb b 42) text)
closing-byte after b text other = rw other refl

closing-last : (after : Bool) (b : ℕ) (text : List ℕ) → (after && eqb b 47) ≡ true → closing after (b ∷ text) ≡ Some 1
closing-last after b text last = rw last refl

inside-closed_byte : (after : Bool) (b : ℕ) (place at : Place) (done : List Item) (cells : List Cell) → (after && eqb b 47) ≡ true → inside after place done (Byte b at ∷ cells) ≡ items done 0 cells
inside-closed_byte after b place at done cells last = rw last (ap (λ (l : List Item). items l 0 cells) (append-nil done))

suc-some : (rest : Option ℕ) (size : ℕ) → option_map suc rest ≡ Some size → (n : ℕ) × (rest ≡ Some n) × (suc n ≡ size)
suc-some None size same = absurd cc
suc-some (Some n) size same = (n, refl, cc)

suc-none : (rest : Option ℕ) → option_map suc rest ≡ None → rest ≡ None
suc-none None same = refl
suc-none (Some n) same = absurd cc

-- the comment is closed on the line
pub inside-closed : (unit line column : ℕ) (after : Bool) (place : Place) (done : List Item) (text : List ℕ) (more : List Cell) (size : ℕ) → closing after text ≡ Some size → inside after place done (main_cells unit line column text ++ more) ≡ items done 0 (main_cells unit line (column + size) (drop size text) ++ more)
inside-closed unit line column after place done [] more size closed = absurd cc
inside-closed unit line column after place done (b ∷ text) more size closed = elim (after && eqb b 47) as (λ t. (after && eqb b 47) ≡ t → inside after place done (main_cells unit line column (b ∷ text) ++ more) ≡ items done 0 (main_cells unit line (column + size) (drop size (b ∷ text)) ++ more)) [
  | true ↦ λ last.
      let one : Some 1 ≡ Some size = sym (closing-last after b text last) ∙ closed in
      let same : 1 ≡ size = cc in
      inside-closed_byte after b place (place_at unit line column) done (main_cells unit line (column + 1) text ++ more) last ∙ ap (λ n. items done 0 (main_cells unit line (column + n) (drop n (b ∷ text)) ++ more)) same
  | false ↦ λ other.
      let found = suc-some (closing (eqb b 42) text) size (sym (closing-byte after b text other) ∙ closed) in
      let further : column + 1 + found.0 ≡ column + suc found.0 = omega arith in
      inside-byte after b place (place_at unit line column) done (main_cells unit line (column + 1) text ++ more) other
      ∙ inside-closed unit line (column + 1) (eqb b 42) place done text more found.0 found.1
      ∙ ap (λ c. items done 0 (main_cells unit line c (drop found.0 text) ++ more)) further
      ∙ ap (λ n. items done 0 (main_cells unit line (column + n) (drop n (b ∷ text)) ++ more)) found.2
] refl

-- the comment goes on behind the line
pub inside-open : (unit line column : ℕ) (after : Bool) (place : Place) (done : List Item) (text : List ℕ) (more : List Cell) → closing after text ≡ None → inside after place done (main_cells unit line column text ++ more) ≡ inside false place done more
inside-open unit line column true place done [] more goes = inside-byte true 10 place (place_at unit line column) done more refl
inside-open unit line column false place done [] more goes = inside-byte false 10 place (place_at unit line column) done more refl
inside-open unit line column after place done (b ∷ text) more goes = elim (after && eqb b 47) as (λ t. (after && eqb b 47) ≡ t → inside after place done (main_cells unit line column (b ∷ text) ++ more) ≡ inside false place done more) [
  | true ↦ λ last. absurd (cc (closing-last after b text last))
  | false ↦ λ other.
      inside-byte after b place (place_at unit line column) done (main_cells unit line (column + 1) text ++ more) other
      ∙ inside-open unit line (column + 1) (eqb b 42) place done text more (suc-none (closing (eqb b 42) text) (sym (closing-byte after b text other) ∙ goes))
] refl

-- where it is closed, it takes at least a byte, and at most all of them
pub closing-within : (after : Bool) (text : List ℕ) (size : ℕ) → closing after text ≡ Some size → (1 ≤ size) × (size ≤ length text)
closing-within after [] size closed = absurd cc
closing-within after (b ∷ text) size closed = elim (after && eqb b 47) as (λ t. (after && eqb b 47) ≡ t → (1 ≤ size) × (size ≤ length (b ∷ text))) [
  | true ↦ λ last.
      let one : Some 1 ≡ Some size = sym (closing-last after b text last) ∙ closed in
      let same : 1 ≡ size = cc in
      (omega arith, omega arith)
  | false ↦ λ other.
      let found = suc-some (closing (eqb b 42) text) size (sym (closing-byte after b text other) ∙ closed) in
      let rest = closing-within (eqb b 42) text found.0 found.1 in
      (omega arith, omega arith)
] refl
