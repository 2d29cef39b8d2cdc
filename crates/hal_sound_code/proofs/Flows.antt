-- The stack before each instruction of a block, and the UPDATE block in which it stands.
use Rattle.std.specs.Prelude.{ℕ, zero, suc, ◌<◌, ◌≡◌, length, Bool, true, false, List, [], ◌∷◌, Option, Some, None, slice_get}
use Rattle.std.proofs.Common.{refl, ap, subst, ◌∙◌, arith}
use Rattle.hal_code.specs.declared.image.ImageParts.{ImageParts}
use Rattle.hal_code.specs.declared.instr.Instr.{Instr}
use Rattle.hal_code.specs.declared.instr.Instr.TheVariants as instr
use Rattle.hal_code.specs.declared.row.Block.{Block}
use Rattle.hal_code.specs.Effects.{Sorts}
use Rattle.hal_code.specs.Flow.{stacks, sorts_next, is_inside, part_next, parts}

-- where a stack is known, an instruction is there
pub instr_there : (image : ImageParts) (block : Block) (b : ℕ) (is : List Instr) (st : Sorts) (k : ℕ) (sorts : Sorts) → slice_get (stacks image block b is st) k ≡ Some sorts → (i : Instr) × (slice_get is k ≡ Some i)
instr_there image block b [] st k sorts e = absurd (cc)
instr_there image block b (j ∷ js) st zero sorts e = (j, refl)
instr_there image block b (j ∷ js) st (suc k) sorts e = instr_there image block b js (sorts_next image block b j st) k sorts e

-- the stack before the next instruction
pub stack_next : (image : ImageParts) (block : Block) (b : ℕ) (is : List Instr) (st : Sorts) (k : ℕ) (i : Instr) (sorts : Sorts) → slice_get is k ≡ Some i → slice_get (stacks image block b is st) k ≡ Some sorts → suc k < length is
    → slice_get (stacks image block b is st) (suc k) ≡ Some (sorts_next image block b i sorts)
stack_next image block b [] st k i sorts e f more = absurd (cc)
stack_next image block b (j ∷ []) st zero i sorts e f more = absurd (omega (arith, more))
stack_next image block b (j ∷ later ∷ js) st zero i sorts e f more = subst (λ one. Some (sorts_next image block b j st) ≡ Some (sorts_next image block b one sorts)) same (ap (λ one. Some (sorts_next image block b j one)) alike)
  where
    same : j ≡ i
    same = cc

    alike : st ≡ sorts
    alike = cc
stack_next image block b (j ∷ js) st (suc k) i sorts e f more = stack_next image block b js (sorts_next image block b j st) k i sorts e f (omega (arith, more))

-- where an instruction may stand
abbrev pub part_of : Option (Option ℕ) → Option ℕ
part_of None = None
part_of (Some part) = part

-- an UPDATE block is entered behind this instruction
abbrev pub inside_next : Instr → Bool → Bool
inside_next (instr.Open groups) inside = true
inside_next instr.Close inside = false
inside_next other inside = inside

pub part_onward : (n : ℕ) (is : List Instr) (part : Option ℕ) (k : ℕ) (i : Instr) → slice_get is k ≡ Some i → (m : ℕ) × (part_of (slice_get (parts n is part) (suc k)) ≡ part_next m i (part_of (slice_get (parts n is part) k)))
part_onward n [] part k i e = absurd (cc)
part_onward n (j ∷ []) part zero i e = (n, ap (λ one. part_next n one part) (let same : j ≡ i = cc in same))
part_onward n (j ∷ later ∷ js) part zero i e = (n, ap (λ one. part_next n one part) (let same : j ≡ i = cc in same))
part_onward n (j ∷ js) part (suc k) i e = part_onward (suc n) js (part_next n j part) k i e

inside_of : (m : ℕ) (i : Instr) (part : Option ℕ) → is_inside (part_next m i part) ≡ inside_next i (is_inside part)
inside_of m (instr.Open groups) part = refl
inside_of m instr.Close part = refl
inside_of m other part = refl

-- whether an UPDATE block is entered behind an instruction
pub inside_onward : (is : List Instr) (k : ℕ) (i : Instr) → slice_get is k ≡ Some i → is_inside (part_of (slice_get (parts 0 is None) (suc k))) ≡ inside_next i (is_inside (part_of (slice_get (parts 0 is None) k)))
inside_onward is k i e = from (part_onward 0 is None k i e)
  where
    from : (m : ℕ) × (part_of (slice_get (parts 0 is None) (suc k)) ≡ part_next m i (part_of (slice_get (parts 0 is None) k))) → is_inside (part_of (slice_get (parts 0 is None) (suc k))) ≡ inside_next i (is_inside (part_of (slice_get (parts 0 is None) k)))
    from found = ap is_inside found.1 ∙ inside_of found.0 i (part_of (slice_get (parts 0 is None) k))
