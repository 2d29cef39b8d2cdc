-- An image is right where each instruction is, and its rows are.
use Rattle.std.specs.Prelude.{◌≡◌, ℕ, zero, suc, ◌+◌, length, Bool, true, false, not, List, [], ◌∷◌, Option, Some, None, slice_get, if◌then◌else◌}
use Rattle.std.proofs.Common.{refl, sym, subst, arith}
use Rattle.hal_code.specs.declared.image.ImageParts.{ImageParts}
use Rattle.hal_code.specs.declared.instr.Instr.{Instr}
use Rattle.hal_code.specs.declared.row.Block.{Block}
use Rattle.hal_code.specs.Blocks.{code_of, outward}
use Rattle.hal_code.specs.Effects.{Sorts}
use Rattle.hal_code.specs.Flow.{Flow, flow_of, stacks, sorts_next}
use Rattle.hal_code.specs.Right.{instr_right, first_wrong, wrong_in, wrong_instr, blocks_right, rows_right, IsRight}
use Rattle.hal_fitting.specs.Fitting.{IsRightAt}

none_wrong : {A : Type 0} (right : Bool) (rest : Option A) (wrong : A) → right ≡ true → rest ≡ None → ◌≡◌ {A = Option A} (if right then rest else Some wrong) None
none_wrong true rest wrong is none = none
none_wrong false rest wrong is none = absurd (cc)

none_before : {A : Type 0} (one rest : Option A) → one ≡ None → rest ≡ None → ◌≡◌ {A = Option A} (elim one [ None ↦ rest | Some a ↦ Some a ]) None
none_before None rest is none = none
none_before (Some a) rest is none = absurd (cc)

-- the instructions of a block from one on
first_none : (image : ImageParts) (out : List Bool) (f : Flow) (n : ℕ) (is : List Instr) (stack : Sorts)
    → ((k : ℕ) (i : Instr) (st : Sorts) → slice_get is k ≡ Some i → slice_get (stacks image f.block f.number is stack) k ≡ Some st → instr_right image out f (n + k) i st ≡ true)
    → first_wrong image out f n is (stacks image f.block f.number is stack) ≡ None
first_none image out f n [] stack each = refl
first_none image out f n (j ∷ js) stack each =
    none_wrong (instr_right image out f n j stack) (first_wrong image out f (suc n) js (stacks image f.block f.number js (sorts_next image f.block f.number j stack))) (f.block.first + n)
    (subst (λ m. instr_right image out f m j stack ≡ true) (let same : n + zero ≡ n = omega arith in same) (each zero j stack refl refl))
    (first_none image out f (suc n) js (sorts_next image f.block f.number j stack)
    (λ k i st e h. subst (λ m. instr_right image out f m i st ≡ true) (let same : n + suc k ≡ suc n + k = omega arith in same) (each (suc k) i st e h)))

block_none : (image : ImageParts) (out : List Bool) (block : Block) (b : ℕ) → ((n : ℕ) → IsRightAt image out (flow_of image block b (code_of image block)) n) → wrong_in image out (flow_of image block b (code_of image block)) ≡ None
block_none image out block b each =
    first_none image out (flow_of image block b (code_of image block)) 0 (code_of image block) []
    (λ k i st e h. subst (λ m. instr_right image out (flow_of image block b (code_of image block)) m i st ≡ true) (let same : k ≡ zero + k = omega arith in same) (each k i st e h))

-- the blocks from one on
blocks_none : (image : ImageParts) (out : List Bool) (b : ℕ) (blocks : List Block)
    → ((k : ℕ) (block : Block) → slice_get blocks k ≡ Some block → wrong_in image out (flow_of image block (b + k) (code_of image block)) ≡ None) → wrong_instr image out b blocks ≡ None
blocks_none image out b [] each = refl
blocks_none image out b (block ∷ blocks) each =
    none_before (wrong_in image out (flow_of image block b (code_of image block))) (wrong_instr image out (suc b) blocks)
    (subst (λ m. wrong_in image out (flow_of image block m (code_of image block)) ≡ None) (let same : b + zero ≡ b = omega arith in same) (each zero block refl))
    (blocks_none image out (suc b) blocks (λ k one e. subst (λ m. wrong_in image out (flow_of image one m (code_of image one)) ≡ None) (let same : b + suc k ≡ suc b + k = omega arith in same) (each (suc k) one e)))

none_fails : (blocks rows : Bool) (wrong : Option ℕ) (n : ℕ) → blocks ≡ true → wrong ≡ None → rows ≡ true
    → ◌≡◌ {A = Option ℕ} (if not blocks then Some n else elim wrong [ None ↦ if rows then None else Some n | Some m ↦ Some m ]) None
none_fails true true None n ib iw ir = refl
none_fails false rows wrong n ib iw ir = absurd (cc)
none_fails true false wrong n ib iw ir = absurd (cc)
none_fails true true (Some m) n ib iw ir = absurd (cc)

pub right_whole : (image : ImageParts) → blocks_right image ≡ true
    → ((b n : ℕ) (block : Block) → slice_get image.blocks b ≡ Some block → IsRightAt image (outward image) (flow_of image block b (code_of image block)) n) → rows_right image ≡ true → IsRight image
right_whole image blocks each rows =
    none_fails (blocks_right image) (rows_right image) (wrong_instr image (outward image) 0 image.blocks) (length image.code) blocks
    (blocks_none image (outward image) 0 image.blocks
    (λ k block e. subst (λ m. wrong_in image (outward image) (flow_of image block m (code_of image block)) ≡ None) (let same : k ≡ zero + k = omega arith in same) (block_none image (outward image) block k (λ n. each k n block e)))) rows
