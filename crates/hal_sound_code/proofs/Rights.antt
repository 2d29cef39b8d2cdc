-- Each instruction of a right image is right, and its rows are.
use Rattle.std.specs.Prelude.{ℕ, zero, suc, ◌+◌, ◌≡◌, length, Bool, true, false, not, List, [], ◌∷◌, Option, Some, None, slice_get, if◌then◌else◌}
use Rattle.std.proofs.Common.{refl, subst, arith}
use Rattle.hal_code.specs.declared.image.ImageParts.{ImageParts}
use Rattle.hal_code.specs.declared.instr.Instr.{Instr}
use Rattle.hal_code.specs.declared.row.Block.{Block}
use Rattle.hal_code.specs.Blocks.{code_of, outward}
use Rattle.hal_code.specs.Effects.{Sorts}
use Rattle.hal_code.specs.Flow.{Flow, flow_of, stacks, sorts_next}
use Rattle.hal_code.specs.Right.{instr_right, first_wrong, wrong_in, wrong_instr, blocks_right, rows_right, IsRight}

-- none of some options that are tried one after another
none_here : {A : Type 0} (right : Bool) (rest : Option A) (wrong : A) → ◌≡◌ {A = Option A} (if right then rest else Some wrong) None → (right ≡ true) × (rest ≡ None)
none_here true rest wrong e = (refl, e)
none_here false rest wrong e = absurd (cc)

none_there : {A : Type 0} (one rest : Option A) → ◌≡◌ {A = Option A} (elim one [ None ↦ rest | Some a ↦ Some a ]) None → (one ≡ None) × (rest ≡ None)
none_there None rest e = (refl, e)
none_there (Some a) rest e = absurd (cc)

right_same : (image : ImageParts) (out : List Bool) (f : Flow) (m n : ℕ) (i j : Instr) (st stack : Sorts) → m ≡ n → i ≡ j → st ≡ stack → instr_right image out f m i st ≡ true → instr_right image out f n j stack ≡ true
right_same image out f m n i j st stack e same alike is =
    subst (λ k. instr_right image out f k j stack ≡ true) e (subst (λ one. instr_right image out f m one stack ≡ true) same (subst (λ one. instr_right image out f m i one ≡ true) alike is))

-- an instruction of a block
right_from : (image : ImageParts) (out : List Bool) (f : Flow) (n : ℕ) (is : List Instr) (stack : Sorts) → first_wrong image out f n is (stacks image f.block f.number is stack) ≡ None → (k : ℕ) (i : Instr) (st : Sorts)
    → slice_get is k ≡ Some i → slice_get (stacks image f.block f.number is stack) k ≡ Some st → instr_right image out f (n + k) i st ≡ true
right_from image out f n [] stack none k i st e g = absurd (cc)
right_from image out f n (j ∷ js) stack none zero i st e g =
    right_same image out f n (n + 0) j i stack st (omega arith) (let same : j ≡ i = cc in same) (let same : stack ≡ st = cc in same)
    (none_here (instr_right image out f n j stack) (first_wrong image out f (suc n) js (stacks image f.block f.number js (sorts_next image f.block f.number j stack))) (f.block.first + n) none).0
right_from image out f n (j ∷ js) stack none (suc k) i st e g =
    right_same image out f (suc n + k) (n + suc k) i i st st (omega arith) refl refl
    (right_from image out f (suc n) js (sorts_next image f.block f.number j stack) (none_here (instr_right image out f n j stack) (first_wrong image out f (suc n) js (stacks image f.block f.number js (sorts_next image f.block f.number j stack))) (f.block.first + n) none).1 k i st e g)

-- a block
none_from : (image : ImageParts) (out : List Bool) (b : ℕ) (blocks : List Block) → wrong_instr image out b blocks ≡ None → (k : ℕ) (block : Block) → slice_get blocks k ≡ Some block → wrong_in image out (flow_of image block (b + k) (code_of image block)) ≡ None
none_from image out b [] none k block e = absurd (cc)
none_from image out b (one ∷ blocks) none zero block e =
    subst (λ a. wrong_in image out (flow_of image a (b + 0) (code_of image a)) ≡ None) (let same : one ≡ block = cc in same)
    (subst (λ n. wrong_in image out (flow_of image one n (code_of image one)) ≡ None) (let same : b ≡ b + 0 = omega arith in same) (none_there (wrong_in image out (flow_of image one b (code_of image one))) (wrong_instr image out (suc b) blocks) none).0)
none_from image out b (one ∷ blocks) none (suc k) block e =
    subst (λ n. wrong_in image out (flow_of image block n (code_of image block)) ≡ None) (let same : suc b + k ≡ b + suc k = omega arith in same)
    (none_from image out (suc b) blocks (none_there (wrong_in image out (flow_of image one b (code_of image one))) (wrong_instr image out (suc b) blocks) none).1 k block e)

-- nothing fails
pub record Whole (image : ImageParts) : Type 0 where
  pub blocks : blocks_right image ≡ true
  pub instrs : wrong_instr image (outward image) 0 image.blocks ≡ None
  pub rows : rows_right image ≡ true

whole_of : (blocks rows : Bool) (wrong : Option ℕ) (n : ℕ) → ◌≡◌ {A = Option ℕ} (if not blocks then Some n else elim wrong [ None ↦ if rows then None else Some n | Some m ↦ Some m ]) None → (blocks ≡ true) × (wrong ≡ None) × (rows ≡ true)
whole_of false rows wrong n e = absurd (cc)
whole_of true true None n e = (refl, refl, refl)
whole_of true false None n e = absurd (cc)
whole_of true rows (Some m) n e = absurd (cc)

pub whole : (image : ImageParts) → IsRight image → Whole image
whole image right = record { blocks = known.0; instrs = known.1; rows = known.2 }
  where
    known : (blocks_right image ≡ true) × (wrong_instr image (outward image) 0 image.blocks ≡ None) × (rows_right image ≡ true)
    known = whole_of (blocks_right image) (rows_right image) (wrong_instr image (outward image) 0 image.blocks) (length image.code) right

-- each instruction is right
pub right_at : (image : ImageParts) → Whole image → (b : ℕ) (block : Block) (k : ℕ) (i : Instr) (st : Sorts) → slice_get image.blocks b ≡ Some block → slice_get (code_of image block) k ≡ Some i
    → slice_get (stacks image block b (code_of image block) []) k ≡ Some st → instr_right image (outward image) (flow_of image block b (code_of image block)) k i st ≡ true
right_at image all b block k i st row e g =
    subst (λ n. instr_right image (outward image) (flow_of image block b (code_of image block)) n i st ≡ true) (let same : 0 + k ≡ k = omega arith in same)
    (right_from image (outward image) (flow_of image block b (code_of image block)) 0 (code_of image block) [] (subst (λ n. wrong_in image (outward image) (flow_of image block n (code_of image block)) ≡ None) (let same : 0 + b ≡ b = omega arith in same) (none_from image (outward image) 0 image.blocks all.instrs b block row)) k i st e g)
