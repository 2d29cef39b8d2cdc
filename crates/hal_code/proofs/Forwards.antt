-- The code of an image that is right goes on.
use Rattle.std.specs.Prelude.{ℕ, zero, suc, ◌+◌, ◌-◌, ◌<◌, ◌≤◌, ◌≡◌, ◌==◌, nat_lt, length, take, drop, Bool, true, false, not, ◌&&◌, ◌||◌, List, [], ◌∷◌, Option, Some, None, slice_get, if◌then◌else◌}
use Rattle.std.proofs.Common.{refl, sym, ap, subst, ◌∙◌, inl, inr, arith}
use Rattle.std.proofs.lemmas.Bool.{leb-true, ltb-true, ltb-false, eqb-true, and_parts}
use Rattle.std.proofs.lemmas.Option.{slice_get_within}
use Rattle.hal_code.specs.declared.image.ImageParts.{ImageParts}
use Rattle.hal_code.specs.declared.instr.Instr.{Instr}
use Rattle.hal_code.specs.declared.instr.Instr.TheVariants as instr
use Rattle.hal_code.specs.declared.row.Block.{Block}
use Rattle.hal_code.specs.Blocks.{code_of, is_of_process, outward}
use Rattle.hal_code.specs.Effects.{Sorts}
use Rattle.hal_code.specs.Flow.{Flow, flow_of, part_at, is_inside, stacks, sorts_next, is_empty, is_entry, is_turn_over, jumps_right, behind_bits, jumps}
use Rattle.hal_code.specs.Forward.{LeadsOn, GoesOn, IsForward}
use Rattle.hal_code.specs.Operands.{holds_of, operands_right}
use Rattle.hal_code.specs.Right.{stack_right, stands_right, frames_right, ends_right, instr_right, first_wrong, wrong_in, wrong_instr, follow, blocks_right, rows_right, IsRight}

-- what stands in the front of a list, and in the part of it that is taken
of_taken : {T : Type 0} (n : ℕ) (xs : List T) (k : ℕ) (x : T) → slice_get (take n xs) k ≡ Some x → slice_get xs k ≡ Some x
of_taken zero xs k x e = absurd (cc)
of_taken (suc n) [] k x e = absurd (cc)
of_taken (suc n) (y ∷ ys) zero x e = e
of_taken (suc n) (y ∷ ys) (suc k) x e = of_taken n ys k x e

in_taken : {T : Type 0} (n : ℕ) (xs : List T) (k : ℕ) (x : T) → k < n → slice_get xs k ≡ Some x → slice_get (take n xs) k ≡ Some x
in_taken zero xs k x less e = absurd (omega (arith, less))
in_taken (suc n) [] k x less e = absurd (cc)
in_taken (suc n) (y ∷ ys) zero x less e = e
in_taken (suc n) (y ∷ ys) (suc k) x less e = in_taken n ys k x (omega (arith, less)) e

-- what stands behind the first ones
nth_drop : {T : Type 0} (n : ℕ) (xs : List T) (k : ℕ) → slice_get (drop n xs) k ≡ slice_get xs (n + k)
nth_drop zero xs k =
    let same : k ≡ zero + k = omega arith in
    ap (slice_get xs) same
nth_drop (suc n) [] k = refl
nth_drop (suc n) (y ∷ ys) k = nth_drop n ys k ∙ behind
  where
    behind : slice_get ys (n + k) ≡ slice_get (y ∷ ys) (suc n + k)
    behind =
        let same : suc (n + k) ≡ suc n + k = omega arith in
        ap (slice_get (y ∷ ys)) same

-- an instruction of a block, and of the code
of_block : (image : ImageParts) (block : Block) (k : ℕ) (i : Instr) → slice_get (code_of image block) k ≡ Some i → slice_get image.code (block.first + k) ≡ Some i
of_block image block k i e = sym (nth_drop block.first image.code k) ∙ of_taken (block.end - block.first) (drop block.first image.code) k i e

in_block : (image : ImageParts) (block : Block) (k : ℕ) (i : Instr) → k < block.end - block.first → slice_get image.code (block.first + k) ≡ Some i → slice_get (code_of image block) k ≡ Some i
in_block image block k i less e = in_taken (block.end - block.first) (drop block.first image.code) k i less (nth_drop block.first image.code k ∙ e)

-- none of some options that are tried one after another
none_here : {A : Type 0} (right : Bool) (rest : Option A) (wrong : A) → ◌≡◌ {A = Option A} (if right then rest else Some wrong) None → (right ≡ true) × (rest ≡ None)
none_here true rest wrong e = (refl, e)
none_here false rest wrong e = absurd (cc)

none_there : {A : Type 0} (one rest : Option A) → ◌≡◌ {A = Option A} (elim one [ None ↦ rest | Some a ↦ Some a ]) None → (one ≡ None) × (rest ≡ None)
none_there None rest e = (refl, e)
none_there (Some a) rest e = absurd (cc)

jumps_same : (f : Flow) (m n : ℕ) (stack : Sorts) (i j : Instr) → m ≡ n → i ≡ j → jumps f m stack i ≡ true → jumps f n stack j ≡ true
jumps_same f m n stack i j e same is = subst (λ k. jumps f k stack j ≡ true) e (subst (λ one. jumps f m stack one ≡ true) same is)

third : (operands stack jump stands frames ends : Bool) → (((operands && stack) && (jump && stands)) && (frames && ends)) ≡ true → jump ≡ true
third operands stack jump stands frames ends e = (and_parts jump stands (and_parts (operands && stack) (jump && stands) (and_parts ((operands && stack) && (jump && stands)) (frames && ends) e).0).1).0

-- an instruction that is right jumps right
jumps_of : (image : ImageParts) (out : List Bool) (f : Flow) (n : ℕ) (i : Instr) (stack : Sorts) → instr_right image out f n i stack ≡ true → jumps f n stack i ≡ true
jumps_of image out f n i stack e =
    third (operands_right image f.block f.number i) (stack_right image f.block i stack) (jumps f n stack i) (stands_right out (is_inside (part_at f n)) i) (frames_right (is_of_process image f.number) (n == 0) i) (ends_right f n i) e

each_jumps : (image : ImageParts) (out : List Bool) (f : Flow) (n : ℕ) (is : List Instr) (stack : Sorts) → first_wrong image out f n is (stacks image f.block f.number is stack) ≡ None → (k : ℕ) (i : Instr) → slice_get is k ≡ Some i
    → (st : Sorts) × (jumps f (n + k) st i ≡ true)
each_jumps image out f n [] stack none k i e = absurd (cc)
each_jumps image out f n (j ∷ js) stack none zero i e = (stack, jumps_at (none_here (instr_right image out f n j stack) (first_wrong image out f (suc n) js (stacks image f.block f.number js (sorts_next image f.block f.number j stack))) (f.block.first + n) none).0)
  where
    same : j ≡ i
    same = cc

    jumps_at : instr_right image out f n j stack ≡ true → jumps f (n + 0) stack i ≡ true
    jumps_at right = jumps_same f n (n + 0) stack j i (omega arith) same (jumps_of image out f n j stack right)
each_jumps image out f n (j ∷ js) stack none (suc k) i e = moved (each_jumps image out f (suc n) js (sorts_next image f.block f.number j stack) (none_here (instr_right image out f n j stack) (first_wrong image out f (suc n) js (stacks image f.block f.number js (sorts_next image f.block f.number j stack))) (f.block.first + n) none).1 k i e)
  where
    moved : (st : Sorts) × (jumps f (suc n + k) st i ≡ true) → (st : Sorts) × (jumps f (n + suc k) st i ≡ true)
    moved found = (found.0, jumps_same f (suc n + k) (n + suc k) found.0 i i (omega arith) refl found.1)

-- a target of a block lies in it
record Inside (f : Flow) (target : ℕ) : Type 0 where
  from : f.block.first ≤ target
  below : target < f.block.end

inside_of : (f : Flow) (n target : ℕ) → is_entry f n target ≡ true → Inside f target
inside_of f n target e = record {
  from = leb-true f.block.first target (and_parts _ _ (and_parts _ _ e).0).0;
  below = ltb-true target f.block.end (and_parts _ _ (and_parts _ _ e).0).1;
}

turn_over : (image : ImageParts) (at target : ℕ) (j : Instr) → slice_get image.code target ≡ Some j → is_turn_over at j ≡ true → LeadsOn image.code at target
turn_over image at target (instr.Turn over) e is = inr (over, e, ltb-true at over is)
turn_over image at target other e is = absurd (cc)

turn_at : (image : ImageParts) (block : Block) (at target : ℕ) (o : Option Instr) → slice_get (code_of image block) (target - block.first) ≡ o → block.first ≤ target → holds_of (is_turn_over at) o ≡ true → LeadsOn image.code at target
turn_at image block at target None e from is = absurd (cc)
turn_at image block at target (Some j) e from is = turn_over image at target j (subst (λ m. slice_get image.code m ≡ Some j) (whole block.first from) (of_block image block (target - block.first) j e)) is
  where
    whole : (first : ℕ) → first ≤ target → first + (target - first) ≡ target
    whole first low = omega (arith, low)

led : (image : ImageParts) (block : Block) (at target : ℕ) (ahead : Bool) → nat_lt at target ≡ ahead → (ahead || holds_of (is_turn_over at) (slice_get (code_of image block) (target - block.first))) ≡ true → block.first ≤ target → LeadsOn image.code at target
led image block at target true e is from = inl (ltb-true at target e)
led image block at target false e is from = turn_at image block at target (slice_get (code_of image block) (target - block.first)) refl from is

jumping : (image : ImageParts) (block : Block) (b n : ℕ) (stack : Sorts) (target : ℕ) → jumps_right (flow_of image block b (code_of image block)) n stack target ≡ true → LeadsOn image.code (block.first + n) target
jumping image block b n stack target e =
    led image block (block.first + n) target (nat_lt (block.first + n) target) refl (and_parts _ _ (and_parts (is_empty stack) _ e).1).1 (inside_of (flow_of image block b (code_of image block)) n target (and_parts _ _ (and_parts (is_empty stack) _ e).1).0).from

-- an instruction of a block that jumps right goes on
goes_on : (image : ImageParts) (block : Block) (b n : ℕ) (stack : Sorts) (i : Instr) → jumps (flow_of image block b (code_of image block)) n stack i ≡ true → GoesOn image.code (block.first + n) i
goes_on image block b n stack (instr.Jump target) e = jumping image block b n stack target e
goes_on image block b n stack (instr.JumpNot target) e = jumping image block b n (behind_bits stack) target e
goes_on image block b n stack (instr.Turn target) e = ltb-true (block.first + n) target (and_parts _ _ (and_parts (is_empty stack) _ e).1).1
goes_on image block b n stack other e = tt

-- the instruction at an address of a block
block_goes : (image : ImageParts) (out : List Bool) (block : Block) (b at : ℕ) (i : Instr) → wrong_in image out (flow_of image block b (code_of image block)) ≡ None → block.first ≤ at → at < block.end → slice_get image.code at ≡ Some i → GoesOn image.code at i
block_goes image out block b at i none from below e =
    subst (λ m. GoesOn image.code m i) (whole block.first from)
    (goes_on image block b (at - block.first) found.0 i (jumps_same (flow_of image block b (code_of image block)) (0 + (at - block.first)) (at - block.first) found.0 i i (omega arith) refl found.1))
  where
    whole : (first : ℕ) → first ≤ at → first + (at - first) ≡ at
    whole first low = omega (arith, low)

    less : (first end_ : ℕ) → first ≤ at → at < end_ → at - first < end_ - first
    less first end_ low high = omega (arith, low, high)

    found : (st : Sorts) × (jumps (flow_of image block b (code_of image block)) (0 + (at - block.first)) st i ≡ true)
    found =
        each_jumps image out (flow_of image block b (code_of image block)) 0 (code_of image block) [] none (at - block.first) i
        (in_block image block (at - block.first) i (less block.first block.end from below) (subst (λ m. slice_get image.code m ≡ Some i) (sym (whole block.first from)) e))

-- the same in blocks that follow each other
blocks_go : (image : ImageParts) (out : List Bool) (b from : ℕ) (blocks : List Block) → follow (length image.code) from blocks ≡ true → wrong_instr image out b blocks ≡ None → (at : ℕ) (i : Instr) → from ≤ at → slice_get image.code at ≡ Some i
    → GoesOn image.code at i
blocks_go image out b from [] whole none at i low e = absurd (beyond (length image.code) (eqb-true from (length image.code) whole) (slice_get_within image.code at i e))
  where
    beyond : (size : ℕ) → from ≡ size → at < size → ⊥
    beyond size is within = omega (arith, is, within, low)
blocks_go image out b from (block ∷ blocks) whole none at i low e = in_or_behind (λ behind. blocks_go image out (suc b) block.end blocks (and_parts _ _ whole).1 parts.1 at i behind e) (nat_lt at block.end) refl
  where
    parts : (wrong_in image out (flow_of image block b (code_of image block)) ≡ None) × (wrong_instr image out (suc b) blocks ≡ None)
    parts = none_there (wrong_in image out (flow_of image block b (code_of image block))) (wrong_instr image out (suc b) blocks) none

    first : block.first ≡ from
    first = eqb-true block.first from (and_parts _ _ (and_parts _ _ whole).0).0

    low_end : (n : ℕ) → nat_lt at n ≡ false → n ≤ at
    low_end n is = ltb-false at n is

    in_or_behind : (block.end ≤ at → GoesOn image.code at i) → (c : Bool) → nat_lt at block.end ≡ c → GoesOn image.code at i
    in_or_behind later true is = block_goes image out block b at i parts.0 (subst (λ m. m ≤ at) (sym first) low) (ltb-true at block.end is) e
    in_or_behind later false is = later (low_end block.end is)

-- where no instruction fails, no block does
none_fails : (blocks rows : Bool) (wrong : Option ℕ) (n : ℕ) → ◌≡◌ {A = Option ℕ} (if not blocks then Some n else elim wrong [ None ↦ if rows then None else Some n | Some m ↦ Some m ]) None → (blocks ≡ true) × (wrong ≡ None)
none_fails false rows wrong n e = absurd (cc)
none_fails true rows None n e = (refl, refl)
none_fails true rows (Some m) n e = absurd (cc)

-- the code of an image that is right goes on
pub right_is_forward : (image : ImageParts) → IsRight image → IsForward image.code
right_is_forward image right at i e = blocks_go image (outward image) 0 0 image.blocks (and_parts _ _ known.0).0 known.1 at i (omega arith) e
  where
    known : (blocks_right image ≡ true) × (wrong_instr image (outward image) 0 image.blocks ≡ None)
    known = none_fails (blocks_right image) (rows_right image) (wrong_instr image (outward image) 0 image.blocks) (length image.code) right
