-- The instructions of a block one by one.
use Rattle.std.specs.Prelude.{◌≡◌, ℕ, zero, suc, ◌+◌, ◌<◌, length, true, false, List, [], ◌∷◌, drop, Option, Some, None, slice_get, if◌then◌else◌}
use Rattle.std.proofs.Common.{ap, sym, ◌∙◌, arith, add-one, get_or}
use Rattle.hal_code.specs.declared.instr.Instr.{Instr}
use Rattle.hal_verify.specs.declared.note.Note.{Note}
use Rattle.hal_verify.specs.Noting.{Noted, instr_noted, first_noted}

-- the one with this number, and those behind it
pub one_and_rest : {X : Type 0} (xs : List X) (n : ℕ) (x : X) → n < length xs → x ≡ get_or xs n x → drop n xs ≡ x ∷ drop (n + 1) xs
one_and_rest [] n x within is = absurd (omega (arith, within))
one_and_rest (y ∷ ys) zero x within is = ap (λ one. one ∷ ys) (sym is)
one_and_rest (y ∷ ys) (suc n) x within is =
    one_and_rest ys n x (omega (arith, within)) is ∙ (let same : suc (n + 1) ≡ suc n + 1 = omega arith in ap (λ k. x ∷ drop k (y ∷ ys)) same)

by_note : (w : Noted) (n : ℕ) (i : Instr) (code : List Instr) (found : Option Note) → n < length code → i ≡ get_or code n i → slice_get w.notes n ≡ found
    → first_noted w n (drop n code) ≡ elim found [ None ↦ None | Some note ↦ if instr_noted w n note i then first_noted w (n + 1) (drop (n + 1) code) else Some (w.block.first + n) ]
by_note w n i code found within is noted =
    ap (λ list. first_noted w n list) (one_and_rest code n i within is)
    ∙ ap (λ x. elim x [ None ↦ None | Some note ↦ if instr_noted w n note i then first_noted w (suc n) (drop (n + 1) code) else Some (w.block.first + n) ]) noted
    ∙ ap (λ m. elim found [ None ↦ None | Some note ↦ if instr_noted w n note i then first_noted w m (drop (n + 1) code) else Some (w.block.first + n) ]) (sym (add-one n))

pub without_note : (w : Noted) (n : ℕ) (i : Instr) (code : List Instr) → n < length code → i ≡ get_or code n i → slice_get w.notes n ≡ None → first_noted w n (drop n code) ≡ None
without_note w n i code within is noted = by_note w n i code None within is noted

pub wrong_one : (w : Noted) (n : ℕ) (i : Instr) (code : List Instr) (note : Note) → n < length code → i ≡ get_or code n i → slice_get w.notes n ≡ Some note → instr_noted w n note i ≡ false
    → first_noted w n (drop n code) ≡ Some (w.block.first + n)
wrong_one w n i code note within is noted wrong =
    by_note w n i code (Some note) within is noted ∙ ap (λ e. if e then first_noted w (n + 1) (drop (n + 1) code) else Some (w.block.first + n)) wrong

pub right_one : (w : Noted) (n : ℕ) (i : Instr) (code : List Instr) (note : Note) → n < length code → i ≡ get_or code n i → slice_get w.notes n ≡ Some note → instr_noted w n note i ≡ true
    → first_noted w n (drop n code) ≡ first_noted w (n + 1) (drop (n + 1) code)
right_one w n i code note within is noted right =
    by_note w n i code (Some note) within is noted ∙ ap (λ e. if e then first_noted w (n + 1) (drop (n + 1) code) else Some (w.block.first + n)) right
