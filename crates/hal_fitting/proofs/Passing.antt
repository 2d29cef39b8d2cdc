-- Code that fits is right.
use Rattle.std.specs.Prelude.{◌≡◌, ◌≤◌, ◌<◌, ℕ, zero, suc, ◌+◌, ◌-◌, ◌==◌, nat_le, length, take, drop, Bool, true, false, not, ◌&&◌, List, [], ◌∷◌, Option, Some, None, slice_get, if◌then◌else◌}
use Rattle.std.proofs.Common.{refl, sym, ap, subst, ◌∙◌, arith}
use Rattle.std.proofs.lemmas.Bool.{and_parts, leb-true, leb-false, eqb-true, ne_eqb}
use Rattle.std.proofs.lemmas.Option.{slice_get_within}
use Rattle.hal_code.specs.declared.image.ImageParts.{ImageParts}
use Rattle.hal_code.specs.declared.instr.Instr.{Instr}
use Rattle.hal_code.specs.declared.instr.Instr.TheVariants as instr
use Rattle.hal_code.specs.declared.row.Block.{Block}
use Rattle.hal_code.specs.Blocks.{code_of, is_of_process}
use Rattle.hal_code.specs.Effects.{Sorts, sorts_after}
use Rattle.hal_code.specs.Flow.{Flow, goes_away, sorts_next, stacks, part_next, parts, part_at, is_inside, jumps}
use Rattle.hal_code.specs.Operands.{operands_right}
use Rattle.hal_code.specs.Right.{stack_right, stands_right, frames_right, ends_right, is_last, instr_right}
use Rattle.hal_sound_code.proofs.Flows.{stack_next, part_of, part_onward}
use Rattle.hal_fitting.specs.Fitting.{Ground, goes_on, adds_item, stands_there, suits, FitsBy, Fits, ground_flow, IsRightAt, Passes}

-- an instruction behind which control goes on
stays : (i : Instr) → goes_on i ≡ true → goes_away i ≡ false
stays (instr.Jump target) on = absurd (cc)
stays instr.Return on = absurd (cc)
stays instr.Finish on = absurd (cc)
stays other on = refl

jumps_nowhere : (f : Flow) (n : ℕ) (stack : Sorts) (i : Instr) → goes_on i ≡ true → jumps f n stack i ≡ true
jumps_nowhere f n stack (instr.Jump target) on = absurd (cc)
jumps_nowhere f n stack (instr.JumpNot target) on = absurd (cc)
jumps_nowhere f n stack (instr.Turn target) on = absurd (cc)
jumps_nowhere f n stack (instr.Input channel kind target) on = absurd (cc)
jumps_nowhere f n stack (instr.On group number response change event target) on = absurd (cc)
jumps_nowhere f n stack other on = refl

framed : (of_process : Bool) (i : Instr) → goes_on i ≡ true → frames_right of_process false i ≡ true
framed of_process instr.Begin on = absurd (cc)
framed of_process instr.Finish on = absurd (cc)
framed of_process instr.Return on = absurd (cc)
framed true other on = refl
framed false other on = refl

-- what may stand anywhere but at a block's beginning may stand there where the block is no process's
kept_false : (first : Bool) (i : Instr) → frames_right false false i ≡ true → frames_right false first i ≡ true
kept_false first instr.Begin is = absurd (cc)
kept_false first instr.Finish is = absurd (cc)
kept_false first instr.Return is = refl
kept_false first other is = refl

pub framed_there : (of_process : Bool) (n : ℕ) (i : Instr) → (of_process ≡ true → 0 < n) → frames_right of_process false i ≡ true → frames_right of_process (n == 0) i ≡ true
framed_there true n i late is = ap (λ b. frames_right true b i) (ne_eqb n 0 (λ e. let positive = late refl in omega (arith, e, positive))) ∙ is
framed_there false n i late is = kept_false (n == 0) i is

same_part_next : (n : ℕ) (i : Instr) (part : Option ℕ) → goes_on i ≡ true → part_next n i part ≡ part
same_part_next n (instr.Open groups) part on = absurd (cc)
same_part_next n instr.Close part on = absurd (cc)
same_part_next n other part on = refl

-- the stack behind it
pub next_is : (away operands : Bool) (o : Option Sorts) (next : Sorts) → away ≡ false → operands ≡ true → o ≡ Some next
    → (if away then [] else (if operands then elim o [ None ↦ [] | Some after ↦ after ] else [])) ≡ next
next_is true operands o next a b e = absurd (cc)
next_is false false o next a b e = absurd (cc)
next_is false true None next a b e = absurd (cc)
next_is false true (Some one) next a b e = cc

pub fits_stack : (o : Option Sorts) (next : Sorts) → o ≡ Some next → elim o [ None ↦ false | Some after ↦ true ] ≡ true
fits_stack None next e = absurd (cc)
fits_stack (Some one) next e = refl

pub all_six : (a b c d e f : Bool) → a ≡ true → b ≡ true → c ≡ true → d ≡ true → e ≡ true → f ≡ true → (((a && b) && (c && d)) && (e && f)) ≡ true
all_six true true true true true true ia ib ic id ie if_ = refl
all_six a b c d e f ia ib ic id ie if_ = absurd (cc)

pub not_last : (b c : Bool) → b ≡ false → (if b then c else true) ≡ true
not_last true c e = absurd (cc)
not_last false c e = refl

-- what is known of an instruction that suits
record Suits (image : ImageParts) (g : Ground) (i : Instr) : Type 0 where
  operands : operands_right image g.block g.number i ≡ true
  stands : stands_right g.out g.inside i ≡ true
  onward : goes_on i ≡ true

suits_by : (image : ImageParts) (g : Ground) (i : Instr) → suits image g i ≡ true → Suits image g i
suits_by image g i e =
    let parts = and_parts (operands_right image g.block g.number i && stands_there g.out g.inside i) (goes_on i) e in
    let early = and_parts (operands_right image g.block g.number i) (stands_there g.out g.inside i) parts.0 in
    let stands = and_parts (not (adds_item i && g.inside)) (stands_right g.out g.inside i) early.1
    in record { operands = early.0; stands = stands.1; onward = parts.1 }

-- an instruction of a block stands in the code
taken_there : {X : Type 0} (n : ℕ) (xs : List X) (k : ℕ) → k < length (take n xs) → slice_get (take n xs) k ≡ slice_get xs k
taken_there zero xs k low = absurd (omega (arith, low))
taken_there (suc n) [] k low = refl
taken_there (suc n) (x ∷ xs) zero low = refl
taken_there (suc n) (x ∷ xs) (suc k) low = taken_there n xs k (omega (arith, low))

dropped_there : {X : Type 0} (n : ℕ) (xs : List X) (k : ℕ) → slice_get (drop n xs) k ≡ slice_get xs (n + k)
dropped_there zero xs k = let same : k ≡ zero + k = omega arith in ap (slice_get xs) same
dropped_there (suc n) [] k = refl
dropped_there (suc n) (x ∷ xs) k = dropped_there n xs k ∙ (let same : suc (n + k) ≡ suc n + k = omega arith in ap (slice_get (x ∷ xs)) same)

pub of_block : (image : ImageParts) (block : Block) (k : ℕ) → k < length (code_of image block) → slice_get (code_of image block) k ≡ slice_get image.code (block.first + k)
of_block image block k low = taken_there (block.end - block.first) (drop block.first image.code) k low ∙ dropped_there block.first image.code k

-- where what fits ends
pub not_before : (image : ImageParts) (g : Ground) (is : List Instr) (from to : ℕ) (stack after : Sorts) → FitsBy image g is from stack to after → from ≤ to
not_before image g [] from to stack after fits = omega (arith, fits.0)
not_before image g (i ∷ is) from to stack after fits = let late = not_before image g is (suc from) to fits.2.0 after fits.2.2 in omega (arith, late)

pub part_read : (o : Option (Option ℕ)) → part_of o ≡ elim o [ None ↦ None | Some part ↦ part ]
part_read None = refl
part_read (Some part) = refl

here_or_behind : (m k : ℕ) → m ≤ k → (b : Bool) → nat_le (suc m) k ≡ b → (P : ℕ → Type 0) → P m → (suc m ≤ k → P k) → P k
here_or_behind m k low true is P here behind = behind (leb-true (suc m) k is)
here_or_behind m k low false is P here behind = let over = leb-false (suc m) k is in subst P (let same : m ≡ k = omega (arith, low, over) in same) here

module _ (image : ImageParts) (g : Ground) where
  -- an instruction that suits is right where its operands are there
  right_there : (n : ℕ) (i : Instr) (stack next : Sorts) → (is_of_process image g.number ≡ true → 0 < n) → suc n < length (ground_flow image g).code → is_inside (part_at (ground_flow image g) n) ≡ g.inside → suits image g i ≡ true
      → sorts_after image g.block i stack ≡ Some next → instr_right image g.out (ground_flow image g) n i stack ≡ true
  right_there n i stack next late early inside suit effect =
      let known = suits_by image g i suit in
      all_six (operands_right image g.block g.number i) (stack_right image g.block i stack) (jumps (ground_flow image g) n stack i) (stands_right g.out (is_inside (part_at (ground_flow image g) n)) i)
      (frames_right (is_of_process image g.number) (n == 0) i) (ends_right (ground_flow image g) n i) known.operands (fits_stack (sorts_after image g.block i stack) next effect)
      (jumps_nowhere (ground_flow image g) n stack i known.onward) (ap (λ b. stands_right g.out b i) inside ∙ known.stands)
      (framed_there (is_of_process image g.number) n i late (framed (is_of_process image g.number) i known.onward))
      (not_last (suc n == length (ground_flow image g).code) (is_last i && not (is_inside (part_at (ground_flow image g) (suc n)))) (ne_eqb (suc n) (length (ground_flow image g).code) (λ e. omega (arith, e, early))))

  -- the UPDATE block behind it is the same
  same_part_at : (n : ℕ) (i : Instr) → slice_get (ground_flow image g).code n ≡ Some i → goes_on i ≡ true → part_at (ground_flow image g) (suc n) ≡ part_at (ground_flow image g) n
  same_part_at n i found onward =
      let next = part_onward 0 (ground_flow image g).code None n i found in
      sym (part_read (slice_get (ground_flow image g).parts (suc n)))
      ∙ (next.1 ∙ (same_part_next next.0 i (part_of (slice_get (ground_flow image g).parts n)) onward ∙ part_read (slice_get (ground_flow image g).parts n)))

  passes_by : (is : List Instr) (m n : ℕ) (stack after : Sorts) → FitsBy image g is (g.block.first + m) stack (g.block.first + n) after → (is_of_process image g.number ≡ true → 0 < m) → n < length (ground_flow image g).code
      → slice_get (ground_flow image g).stacks m ≡ Some stack → is_inside (part_at (ground_flow image g) m) ≡ g.inside → Passes image g.out (ground_flow image g) m n after
  passes_by [] m n stack after fits late early there inside =
      let same : m ≡ n = omega (arith, fits.0) in
      record {
        rights = λ k low high. absurd (omega (arith, low, high, same));
        stack = ap (slice_get (ground_flow image g).stacks) (sym same) ∙ (there ∙ ap Some fits.1);
        part = ap (part_at (ground_flow image g)) (sym same);
      }
  passes_by (i ∷ is) m n stack after fits late early there inside =
      let behind = not_before image g is (suc (g.block.first + m)) (g.block.first + n) fits.2.0 after fits.2.2 in
      let found : slice_get (ground_flow image g).code m ≡ Some i = of_block image g.block m (omega (arith, behind, early)) ∙ fits.0 in
      let known = suits_by image g i fits.1 in
      let next : slice_get (ground_flow image g).stacks (suc m) ≡ Some fits.2.0 =
      stack_next image g.block g.number (ground_flow image g).code [] m i stack found there (omega (arith, behind, early))
      ∙ ap Some (next_is (goes_away i) (operands_right image g.block g.number i) (sorts_after image g.block i stack) fits.2.0 (stays i known.onward) known.operands fits.2.1) in
      let part = same_part_at m i found known.onward in
      let rest = passes_by is (suc m) n fits.2.0 after (subst (λ k. FitsBy image g is k fits.2.0 (g.block.first + n) after) (let one_on : suc (g.block.first + m) ≡ g.block.first + suc m = omega arith in one_on) fits.2.2) (λ own. omega arith) early next (ap is_inside part ∙ inside) in
      let here = right_there m i stack fits.2.0 late (omega (arith, behind, early)) inside fits.1 fits.2.1 in
      record {
        rights = λ k low high. here_or_behind m k low (nat_le (suc m) k) refl (IsRightAt image g.out (ground_flow image g))
            (λ j other is_j is_other. right_same m i j stack other here (sym found ∙ is_j) (sym there ∙ is_other))
            (λ more. rest.rights k more high);
        stack = rest.stack;
        part = rest.part ∙ part;
      }
    where
      right_same : (k : ℕ) (one other : Instr) (st sorts : Sorts) → instr_right image g.out (ground_flow image g) k one st ≡ true → Some one ≡ Some other → Some st ≡ Some sorts
          → instr_right image g.out (ground_flow image g) k other sorts ≡ true
      right_same k one other st sorts is e h =
          subst (λ x. instr_right image g.out (ground_flow image g) k x sorts ≡ true) (let same : one ≡ other = cc in same)
          (subst (λ x. instr_right image g.out (ground_flow image g) k one x ≡ true) (let same : st ≡ sorts = cc in same) is)

  -- what fits is right
  pub passes : (m n : ℕ) (stack after : Sorts) → Fits image g (g.block.first + m) stack (g.block.first + n) after → (is_of_process image g.number ≡ true → 0 < m) → n < length (ground_flow image g).code
      → slice_get (ground_flow image g).stacks m ≡ Some stack → is_inside (part_at (ground_flow image g) m) ≡ g.inside → Passes image g.out (ground_flow image g) m n after
  passes m n stack after fits late early there inside = passes_by fits.is m n stack after fits.each late early there inside
