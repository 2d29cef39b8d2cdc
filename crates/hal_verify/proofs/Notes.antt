-- Notes that are added one by one.
use Rattle.std.specs.Prelude.{◌≡◌, ℕ, suc, List, [], ◌∷◌, ◌++◌, length, Option}
use Rattle.std.proofs.Common.{refl, ap, ◌∙◌}
use Rattle.hal_code.specs.declared.image.ImageParts.{ImageParts}
use Rattle.hal_code.specs.declared.instr.Instr.{Instr}
use Rattle.hal_code.specs.declared.row.Block.{Block}
use Rattle.hal_code.specs.Effects.{Sorts}
use Rattle.hal_code.specs.Flow.{sorts_next, part_next}
use Rattle.hal_verify.specs.declared.note.Note.{Note}
use Rattle.hal_verify.specs.Noting.{note_of, notes}
use Rattle.hal_verify.proofs.Expanded.{behind, none_behind}

-- those that were noted, and those of the instructions that are left
abbrev pub noted : ImageParts → Block → ℕ → List Note → List Instr → Option ℕ → Sorts → List Note
noted image block b done is part stack = done ++ notes image block b (length done) is part stack

longer : {X : Type 0} (xs : List X) (x : X) → length (xs ++ (x ∷ [])) ≡ suc (length xs)
longer [] x = refl
longer (y ∷ ys) x = ap suc (longer ys x)

pub one_more : (image : ImageParts) (block : Block) (b : ℕ) (done : List Note) (i : Instr) (is : List Instr) (part : Option ℕ) (stack : Sorts)
    → noted image block b (done ++ (note_of image block b part i stack ∷ [])) is (part_next (length done) i part) (sorts_next image block b i stack) ≡ noted image block b done (i ∷ is) part stack
one_more image block b done i is part stack =
    ap (λ n. (done ++ (note_of image block b part i stack ∷ [])) ++ notes image block b n is (part_next (length done) i part) (sorts_next image block b i stack)) (longer done (note_of image block b part i stack))
    ∙ behind done (note_of image block b part i stack ∷ []) (notes image block b (suc (length done)) is (part_next (length done) i part) (sorts_next image block b i stack))

pub none_left : (image : ImageParts) (block : Block) (b : ℕ) (done : List Note) (part : Option ℕ) (stack : Sorts) → noted image block b done [] part stack ≡ done
none_left image block b done part stack = none_behind done
