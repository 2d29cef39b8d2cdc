-- One instruction: it is right where its parts are, and control comes to the next one.
use Rattle.std.specs.Prelude.{◌≡◌, ◌≤◌, ◌<◌, ℕ, zero, suc, ◌+◌, ◌-◌, ◌==◌, nat_le, nat_lt, length, take, drop, Bool, true, false, not, ◌&&◌, ◌||◌, List, [], ◌∷◌, Option, Some, None, slice_get, if◌then◌else◌}
use Rattle.std.proofs.Common.{refl, sym, ap, subst, ◌∙◌, arith}
use Rattle.std.proofs.lemmas.Bool.{le-leb, lt-ltb, eq-eqb}
use Rattle.hal_code.specs.declared.image.ImageParts.{ImageParts}
use Rattle.hal_code.specs.declared.instr.Instr.{Instr}
use Rattle.hal_code.specs.declared.instr.Instr.TheVariants as instr
use Rattle.hal_code.specs.declared.row.Block.{Block}
use Rattle.hal_code.specs.Blocks.{code_of, is_of_process}
use Rattle.hal_code.specs.Effects.{Sorts, sorts_after}
use Rattle.hal_code.specs.Flow.{Flow, goes_away, sorts_next, part_next, same_part, part_at, is_inside, is_empty, parts, is_entry, is_turn_over, leads_on, jumps_right, jumps}
use Rattle.hal_code.specs.Operands.{holds_of, operands_right}
use Rattle.hal_code.specs.Right.{stack_right, stands_right, frames_right, ends_right, instr_right}
use Rattle.hal_sound_code.proofs.Flows.{stack_next, part_of}
use Rattle.hal_fitting.specs.Fitting.{Ground, ground_flow, IsRightAt}
use Rattle.hal_fitting.specs.Reaching.{IsReached}
use Rattle.hal_fitting.proofs.Passing.{next_is, fits_stack, all_six, part_read}

-- the UPDATE block behind the n-th instruction, as it stands there
part_behind : (n : ℕ) (is : List Instr) (part : Option ℕ) (k : ℕ) (i : Instr) → slice_get is k ≡ Some i
    → part_of (slice_get (parts n is part) (suc k)) ≡ part_next (n + k) i (part_of (slice_get (parts n is part) k))
part_behind n [] part k i e = absurd (cc)
part_behind n (j ∷ []) part zero i e = ap (λ one. part_next n one part) (let same : j ≡ i = cc in same) ∙ ap (λ m. part_next m i part) (let same : n ≡ n + zero = omega arith in same)
part_behind n (j ∷ later ∷ js) part zero i e = ap (λ one. part_next n one part) (let same : j ≡ i = cc in same) ∙ ap (λ m. part_next m i part) (let same : n ≡ n + zero = omega arith in same)
part_behind n (j ∷ js) part (suc k) i e =
    part_behind (suc n) js (part_next n j part) k i e ∙ ap (λ m. part_next m i (part_of (slice_get (parts (suc n) js (part_next n j part)) k))) (let same : suc n + k ≡ n + suc k = omega arith in same)

taken_few : {X : Type 0} (n : ℕ) (xs : List X) → length (take n xs) ≤ n
taken_few zero xs = omega arith
taken_few (suc n) [] = omega arith
taken_few (suc n) (x ∷ xs) = let few = taken_few n xs in omega (arith, few)

same_there : (part : Option ℕ) → same_part part part ≡ true
same_there None = refl
same_there (Some n) = eq-eqb n n refl

pub both_hold : (a b : Bool) → a ≡ true → b ≡ true → (a && b) ≡ true
both_hold true true ia ib = refl
both_hold a b ia ib = absurd (cc)

either_first : (a b : Bool) → a ≡ true → (a || b) ≡ true
either_first true b is = refl
either_first false b is = absurd (cc)

either_second : (a b : Bool) → b ≡ true → (a || b) ≡ true
either_second true b is = refl
either_second false b is = is

holds_some : {X : Type 0} (test : X → Bool) (o : Option X) (x : X) → o ≡ Some x → test x ≡ true → holds_of test o ≡ true
holds_some test None x is holds = absurd (cc)
holds_some test (Some one) x is holds = ap test (let same : one ≡ x = cc in same) ∙ holds

module _ (image : ImageParts) (g : Ground) where
  -- an instruction whose parts are right
  pub right_step : (n : ℕ) (i : Instr) (stack next : Sorts) (part : Option ℕ) → slice_get (ground_flow image g).code n ≡ Some i → IsReached (ground_flow image g) n stack part
      → operands_right image g.block g.number i ≡ true → sorts_after image g.block i stack ≡ Some next → stands_right g.out (is_inside part) i ≡ true → frames_right (is_of_process image g.number) (n == 0) i ≡ true
      → jumps (ground_flow image g) n stack i ≡ true → ends_right (ground_flow image g) n i ≡ true → IsRightAt image g.out (ground_flow image g) n
  right_step n i stack next part found reached operands effect stands frames jump ends other sorts is_other is_sorts =
      subst (λ x. instr_right image g.out (ground_flow image g) n x sorts ≡ true) (let same : i ≡ other = cc in same)
      (subst (λ x. instr_right image g.out (ground_flow image g) n i x ≡ true) (same_stack stack sorts (sym reached.sorts ∙ is_sorts))
      (all_six (operands_right image g.block g.number i) (stack_right image g.block i stack) (jumps (ground_flow image g) n stack i) (stands_right g.out (is_inside (part_at (ground_flow image g) n)) i)
      (frames_right (is_of_process image g.number) (n == 0) i) (ends_right (ground_flow image g) n i) operands (fits_stack (sorts_after image g.block i stack) next effect) jump
      (ap (λ p. stands_right g.out (is_inside p) i) reached.stands ∙ stands) frames ends))
    where
      same_stack : (one two : Sorts) → Some one ≡ Some two → one ≡ two
      same_stack one two e = cc

  -- the UPDATE block behind it
  part_after : (n : ℕ) (i : Instr) (part : Option ℕ) {stack : Sorts} → slice_get (ground_flow image g).code n ≡ Some i → IsReached (ground_flow image g) n stack part → part_at (ground_flow image g) (suc n) ≡ part_next n i part
  part_after n i part found reached =
      sym (part_read (slice_get (ground_flow image g).parts (suc n)))
      ∙ (part_behind 0 (ground_flow image g).code None n i found
      ∙ (ap (λ m. part_next m i (part_of (slice_get (ground_flow image g).parts n))) (let same : zero + n ≡ n = omega arith in same)
      ∙ ap (part_next n i) (part_read (slice_get (ground_flow image g).parts n) ∙ reached.stands)))

  -- control comes to the next one
  pub next_reached : (n : ℕ) (i : Instr) (stack next : Sorts) (part : Option ℕ) → slice_get (ground_flow image g).code n ≡ Some i → IsReached (ground_flow image g) n stack part
      → operands_right image g.block g.number i ≡ true → sorts_after image g.block i stack ≡ Some next → goes_away i ≡ false → suc n < length (ground_flow image g).code
      → IsReached (ground_flow image g) (suc n) next (part_next n i part)
  next_reached n i stack next part found reached operands effect onward more = record {
    sorts = stack_next image g.block g.number (ground_flow image g).code [] n i stack found reached.sorts more
        ∙ ap Some (next_is (goes_away i) (operands_right image g.block g.number i) (sorts_after image g.block i stack) next onward operands effect);
    stands = part_after n i part found reached;
  }

  -- behind an instruction that goes away nothing is on the stack
  pub away_reached : (n : ℕ) (i : Instr) (stack : Sorts) (part : Option ℕ) → slice_get (ground_flow image g).code n ≡ Some i → IsReached (ground_flow image g) n stack part → goes_away i ≡ true
      → suc n < length (ground_flow image g).code → IsReached (ground_flow image g) (suc n) [] (part_next n i part)
  away_reached n i stack part found reached away more = record {
    sorts = stack_next image g.block g.number (ground_flow image g).code [] n i stack found reached.sorts more ∙ ap Some (none_behind (goes_away i) _ away);
    stands = part_after n i part found reached;
  }
    where
      none_behind : (b : Bool) (rest : Sorts) → b ≡ true → (if b then [] else rest) ≡ []
      none_behind true rest is = refl
      none_behind false rest is = absurd (cc)

  -- an address at which a statement begins in the same UPDATE block is an entry
  pub entered : (n m target : ℕ) (part : Option ℕ) → part_at (ground_flow image g) n ≡ part → IsReached (ground_flow image g) m [] part → target ≡ g.block.first + m → m < length (ground_flow image g).code
      → is_entry (ground_flow image g) n target ≡ true
  entered n m target part here reached there low =
      let within = taken_few (g.block.end - g.block.first) (drop g.block.first image.code) in
      let place : target - g.block.first ≡ m = omega (arith, there) in
      both_hold (nat_le g.block.first target && nat_lt target g.block.end) _
      (both_hold (nat_le g.block.first target) (nat_lt target g.block.end) (le-leb g.block.first target (omega (arith, there))) (lt-ltb target g.block.end (omega (arith, there, low, within))))
      (both_hold (holds_of is_empty (slice_get (ground_flow image g).stacks (target - g.block.first))) (same_part (part_at (ground_flow image g) n) (part_at (ground_flow image g) (target - g.block.first)))
      (holds_some is_empty (slice_get (ground_flow image g).stacks (target - g.block.first)) [] (ap (slice_get (ground_flow image g).stacks) place ∙ reached.sorts) refl)
      (ap (λ p. same_part p (part_at (ground_flow image g) (target - g.block.first))) here
      ∙ (ap (λ k. same_part part (part_at (ground_flow image g) k)) place ∙ (ap (same_part part) reached.stands ∙ same_there part))))

  -- a jump to an entry that lies behind it, and one back to a TURN that leads over it
  pub forward_right : (n m target : ℕ) (part : Option ℕ) → part_at (ground_flow image g) n ≡ part → IsReached (ground_flow image g) m [] part → target ≡ g.block.first + m → m < length (ground_flow image g).code → n < m
      → jumps_right (ground_flow image g) n [] target ≡ true
  forward_right n m target part here reached there low later =
      both_hold (is_entry (ground_flow image g) n target) (leads_on (ground_flow image g) (g.block.first + n) target) (entered n m target part here reached there low)
      (either_first (nat_lt (g.block.first + n) target) _ (lt-ltb (g.block.first + n) target (omega (arith, there, later))))

  pub back_right : (n m target over : ℕ) (part : Option ℕ) → part_at (ground_flow image g) n ≡ part → IsReached (ground_flow image g) m [] part → target ≡ g.block.first + m → m < length (ground_flow image g).code
      → slice_get (ground_flow image g).code m ≡ Some (instr.Turn over) → g.block.first + n < over → jumps_right (ground_flow image g) n [] target ≡ true
  back_right n m target over part here reached there low turn beyond =
      both_hold (is_entry (ground_flow image g) n target) (leads_on (ground_flow image g) (g.block.first + n) target) (entered n m target part here reached there low)
      (either_second (nat_lt (g.block.first + n) target) (holds_of (is_turn_over (g.block.first + n)) (slice_get (ground_flow image g).code (target - g.block.first)))
      (holds_some (is_turn_over (g.block.first + n)) (slice_get (ground_flow image g).code (target - g.block.first)) (instr.Turn over)
      (ap (slice_get (ground_flow image g).code) (let place : target - g.block.first ≡ m = omega (arith, there) in place) ∙ turn) (lt-ltb (g.block.first + n) over beyond)))
