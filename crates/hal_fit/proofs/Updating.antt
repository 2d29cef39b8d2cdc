-- The code of an UPDATE block leads on: its statements stand inside of it, between OPEN and CLOSE.
use Rattle.std.specs.Prelude.{◌≡◌, ◌≤◌, ◌<◌, ℕ, suc, ◌+◌, ◌==◌, nat_lt, length, Bool, true, false, not, ◌&&◌, [], Option, Some, None, slice_get}
use Rattle.std.proofs.Common.{refl, sym, ap, subst, ◌∙◌, arith}
use Rattle.std.proofs.lemmas.Bool.{ltb-true, ltb-false, ne_eqb}
use Rattle.hal_code.specs.declared.image.ImageParts.{ImageParts}
use Rattle.hal_code.specs.declared.instr.Instr.{Instr}
use Rattle.hal_code.specs.declared.instr.Instr.TheVariants as instr
use Rattle.hal_code.specs.Blocks.{is_of_process}
use Rattle.hal_code.specs.Effects.{sorts_after}
use Rattle.hal_code.specs.Flow.{goes_away, part_next, part_at, is_inside, jumps}
use Rattle.hal_code.specs.Operands.{operands_right}
use Rattle.hal_code.specs.Right.{stands_right, frames_right, is_last}
use Rattle.hal_fitting.specs.Fitting.{Ground, ground_flow, IsRightAt}
use Rattle.hal_fitting.specs.Leading.{Comes, end_of, AreRight, Leads}
use Rattle.hal_fitting.proofs.Passing.{not_last, framed_there}
use Rattle.hal_fitting.proofs.Stepping.{right_step, next_reached}
use Rattle.hal_fit.proofs.Combining.{found_there}

-- what holds of a number before another one and of those behind it holds
pub before_or_behind : (n middle : ℕ) (b : Bool) → nat_lt n middle ≡ b → (P : Type 0) → (n < middle → P) → (middle ≤ n → P) → P
before_or_behind n middle true is P before behind = before (ltb-true n middle is)
before_or_behind n middle false is P before behind = behind (let over = ltb-false n middle is in omega (arith, over))

outside_is : (part : Option ℕ) → is_inside part ≡ false → part ≡ None
outside_is None is = refl
outside_is (Some n) is = absurd (cc)

open_framed : (groups : ℕ) (of_process : Bool) → frames_right of_process false (instr.Open groups) ≡ true
open_framed groups true = refl
open_framed groups false = refl

close_framed : (of_process : Bool) → frames_right of_process false instr.Close ≡ true
close_framed true = refl
close_framed false = refl

module _ (image : ImageParts) (g : Ground) where
  -- one instruction that goes on, and may change the UPDATE block
  record Stands (part : Option ℕ) (i : Instr) (from : ℕ) : Type 0 where
    has : slice_get image.code from ≡ Some i
    operands : operands_right image g.block g.number i ≡ true
    effect : sorts_after image g.block i [] ≡ Some []
    stands : stands_right g.out (is_inside part) i ≡ true
    framed : frames_right (is_of_process image g.number) false i ≡ true
    jump : (n : ℕ) → jumps (ground_flow image g) n [] i ≡ true
    onward : goes_away i ≡ false

  stands_on : (part next : Option ℕ) (i : Instr) (from : ℕ) → Stands part i from → (c : Comes image g from [] part) → part_next c.place i part ≡ next → suc from < end_of image g → Comes image g (suc from) [] next
  stands_on part next i from step c same low =
      let there = c.there in
      let reached = next_reached image g c.place i [] [] part (found_there image g part i from c.place step.has there c.within) c.reached step.operands step.effect step.onward (omega (arith, low, there)) in
      record { place = suc c.place; there = omega (arith, there); late = λ own. omega arith; within = omega (arith, low, there); reached = record { sorts = reached.sorts; stands = reached.stands ∙ same } }

  stands_so : (part : Option ℕ) (i : Instr) (from n : ℕ) → Stands part i from → (c : Comes image g from [] part) → suc from < end_of image g → g.block.first + n ≡ from → IsRightAt image g.out (ground_flow image g) n
  stands_so part i from n step c low at =
      let there = c.there in
      subst (λ m. IsRightAt image g.out (ground_flow image g) m) (let same : c.place ≡ n = omega (arith, there, at) in same)
      (right_step image g c.place i [] [] part (found_there image g part i from c.place step.has there c.within) c.reached step.operands step.effect step.stands
      (framed_there (is_of_process image g.number) c.place i c.late step.framed) (step.jump c.place)
      (not_last (suc c.place == length (ground_flow image g).code) (is_last i && not (is_inside (part_at (ground_flow image g) (suc c.place))))
      (ne_eqb (suc c.place) (length (ground_flow image g).code) (λ e. omega (arith, e, low, there)))))

  -- an UPDATE block outside of which this is asked, and inside that, which holds wherever its OPEN stands
  module _ (part : Option ℕ) (outside : is_inside part ≡ false) (groups from last to : ℕ) (opens : slice_get image.code from ≡ Some (instr.Open groups)) (closes : slice_get image.code last ≡ Some instr.Close) (behind : suc last ≡ to)
      (Within : ℕ → Type 0) (given : (n : ℕ) → Within n) (body : (n : ℕ) → Leads image g (Within n) (Some n) (suc from) [] last []) where
    opening : Stands part (instr.Open groups) from
    opening = record {
      has = opens;
      operands = refl;
      effect = refl;
      stands = ap (λ b. stands_right g.out b (instr.Open groups)) outside;
      framed = open_framed groups (is_of_process image g.number);
      jump = λ n. refl;
      onward = refl;
    }

    closing : (n : ℕ) → Stands (Some n) instr.Close last
    closing n = record {
      has = closes;
      operands = refl;
      effect = refl;
      stands = refl;
      framed = close_framed (is_of_process image g.number);
      jump = λ k. refl;
      onward = refl;
    }

    -- control comes into the block, and to its CLOSE
    opened_there : (c : Comes image g from [] part) → to < end_of image g → Comes image g (suc from) [] (Some c.place)
    opened_there c low = stands_on part (Some c.place) (instr.Open groups) from opening c refl (let inner = (body 0).onward in omega (arith, low, behind, inner))

    passed_there : (c : Comes image g from [] part) → to < end_of image g → Comes image g last [] (Some c.place)
    passed_there c low = (body c.place).comes (opened_there c low) (omega (arith, low, behind))

    rights : (c : Comes image g from [] part) → to < end_of image g → AreRight image g from to
    rights c low n first before =
        before_or_behind (g.block.first + n) (suc from) (nat_lt (g.block.first + n) (suc from)) refl (IsRightAt image g.out (ground_flow image g) n)
        (λ early. stands_so part (instr.Open groups) from n opening c (let inner = (body 0).onward in omega (arith, low, behind, inner)) (omega (arith, first, early)))
        (λ late. before_or_behind (g.block.first + n) last (nat_lt (g.block.first + n) last) refl (IsRightAt image g.out (ground_flow image g) n)
        (λ inside. (body c.place).right (opened_there c low) (omega (arith, low, behind)) (given c.place) n late inside)
        (λ over. stands_so (Some c.place) instr.Close last n (closing c.place) (passed_there c low) (omega (arith, low, behind)) (omega (arith, before, behind, over))))

    pub update_leads : (Asked : Type 0) → Leads image g Asked part from [] to []
    update_leads Asked = record {
      onward = let inner = (body 0).onward in omega (arith, inner, behind);
      comes = λ c low. subst (λ m. Comes image g m [] part) behind
          (stands_on (Some c.place) part instr.Close last (closing c.place) (passed_there c low) (sym (outside_is part outside)) (omega (arith, low, behind)));
      right = λ c low asked. rights c low;
    }
