-- Code that leads on, put together.
use Rattle.std.specs.Prelude.{◌≡◌, ◌≤◌, ◌<◌, ℕ, zero, suc, ◌+◌, ◌-◌, ◌==◌, nat_lt, length, Bool, true, false, not, ◌&&◌, List, [], ◌∷◌, Option, Some, None, slice_get, if◌then◌else◌}
use Rattle.std.proofs.Common.{refl, sym, ap, subst, ◌∙◌, arith}
use Rattle.std.proofs.lemmas.Bool.{ltb-true, ltb-false, lt-ltb, ne_eqb}
use Rattle.hal_code.specs.declared.image.ImageParts.{ImageParts}
use Rattle.hal_code.specs.declared.instr.Instr.{Instr}
use Rattle.hal_code.specs.declared.instr.Instr.TheVariants as instr
use Rattle.hal_code.specs.Blocks.{is_of_process}
use Rattle.hal_code.specs.Effects.{Sorts, sorts_after}
use Rattle.hal_code.specs.Flow.{goes_away, part_next, part_at, is_inside, is_entry, jumps_right, jumps}
use Rattle.hal_code.specs.Operands.{operands_right}
use Rattle.hal_code.specs.Right.{stands_right, frames_right, is_last}
use Rattle.hal_code.specs.Sorts.{B}
use Rattle.hal_fitting.specs.Fitting.{Ground, Fits, ground_flow, IsRightAt, Passes}
use Rattle.hal_fitting.specs.Reaching.{IsReached}
use Rattle.hal_fitting.specs.Leading.{Comes, end_of, AreRight, standing, Leads, IsAhead}
use Rattle.hal_fitting.proofs.Passing.{of_block, not_before, not_last, framed_there, passes}
use Rattle.hal_fitting.proofs.Stepping.{both_hold, right_step, next_reached, away_reached, entered, forward_right, back_right}

first_or_rest : (n middle : ℕ) (b : Bool) → nat_lt n middle ≡ b → (P : Type 0) → (n < middle → P) → (middle ≤ n → P) → P
first_or_rest n middle true is P here behind = here (ltb-true n middle is)
first_or_rest n middle false is P here behind = behind (let over = ltb-false n middle is in omega (arith, over))

module _ (image : ImageParts) (g : Ground) (Asked : Type 0) (part : Option ℕ) where
  -- code that fits
  fitting : (from to : ℕ) (stack after : Sorts) → Fits image (standing part g) from stack to after → (c : Comes image g from stack part) → to < end_of image g → Passes image g.out (ground_flow image g) c.place (to - g.block.first) after
  fitting from to stack after fits c low =
      let there = c.there in
      let onward = not_before image (standing part g) fits.is from to stack after fits.each in
      passes image (standing part g) c.place (to - g.block.first) stack after
      (subst (λ m. Fits image (standing part g) m stack (g.block.first + (to - g.block.first)) after) there
      (subst (λ m. Fits image (standing part g) from stack m after) (let same : to ≡ g.block.first + (to - g.block.first) = omega (arith, onward, there) in same) fits)) c.late (omega (arith, low, onward, there)) c.reached.sorts
      (ap is_inside c.reached.stands)

  pub fits_lead : (from to : ℕ) (stack after : Sorts) → Fits image (standing part g) from stack to after → Leads image g Asked part from stack to after
  fits_lead from to stack after fits = record {
    onward = not_before image (standing part g) fits.is from to stack after fits.each;
    comes = λ c low.
        let passed = fitting from to stack after fits c low in
        let onward = not_before image (standing part g) fits.is from to stack after fits.each in
        let there = c.there in
        record {
          place = to - g.block.first;
          there = omega (arith, onward, there);
          late = λ own. let positive = c.late own in omega (arith, onward, there, positive);
          within = omega (arith, low, onward, there);
          reached = record { sorts = passed.stack; stands = passed.part ∙ c.reached.stands };
        };
    right = λ c low asked n first last.
        let there = c.there in
        (fitting from to stack after fits c low).rights n (omega (arith, first, there)) (omega (arith, last));
  }

  -- nothing
  pub nothing_leads : (from to : ℕ) (stack : Sorts) → from ≡ to → Leads image g Asked part from stack to stack
  nothing_leads from to stack same = record {
    onward = omega (arith, same);
    comes = λ c low. subst (λ m. Comes image g m stack part) same c;
    right = λ c low asked n first last. absurd (omega (arith, same, first, last));
  }

  -- one behind the other
  pub both_lead : {from middle to : ℕ} {stack next after : Sorts} → Leads image g Asked part from stack middle next → Leads image g Asked part middle next to after → Leads image g Asked part from stack to after
  both_lead {from} {middle} {to} {stack} {next} {after} one two =
      let early = one.onward in
      let late = two.onward in
      record {
        onward = omega (arith, early, late);
        comes = λ c low. two.comes (one.comes c (omega (arith, low, late))) low;
        right = λ c low asked n first last.
            first_or_rest (g.block.first + n) middle (nat_lt (g.block.first + n) middle) refl (IsRightAt image g.out (ground_flow image g) n)
            (λ before. one.right c (omega (arith, low, late)) asked n first before) (λ behind. two.right (one.comes c (omega (arith, low, late))) low asked n behind last);
      }

  -- an instruction of the block stands in the code
  found_there : (i : Instr) (from place : ℕ) → slice_get image.code from ≡ Some i → from ≡ g.block.first + place → place < length (ground_flow image g).code → slice_get (ground_flow image g).code place ≡ Some i
  found_there i from place has there within = of_block image g.block place within ∙ (ap (slice_get image.code) (sym there) ∙ has)

  -- what one instruction has to have
  pub record Stepped (i : Instr) (from : ℕ) (stack next : Sorts) : Type 0 where
    pub has : slice_get image.code from ≡ Some i
    pub operands : operands_right image g.block g.number i ≡ true
    pub effect : sorts_after image g.block i stack ≡ Some next
    pub stands : stands_right g.out (is_inside part) i ≡ true
    pub framed : frames_right (is_of_process image g.number) false i ≡ true
    pub same : (n : ℕ) → part_next n i part ≡ part
    pub jump : (c : Comes image g from stack part) → Asked → jumps (ground_flow image g) c.place stack i ≡ true

  step_right : (i : Instr) (from : ℕ) (stack next : Sorts) → Stepped i from stack next → (c : Comes image g from stack part) → suc from < end_of image g → Asked → IsRightAt image g.out (ground_flow image g) c.place
  step_right i from stack next step c low asked =
      let there = c.there in
      right_step image g c.place i stack next part (found_there i from c.place step.has there c.within) c.reached step.operands step.effect step.stands
      (framed_there (is_of_process image g.number) c.place i c.late step.framed) (step.jump c asked)
      (not_last (suc c.place == length (ground_flow image g).code) (is_last i && not (is_inside (part_at (ground_flow image g) (suc c.place)))) (ne_eqb (suc c.place) (length (ground_flow image g).code) (λ e. omega (arith, e, low, there))))

  alone_right : (i : Instr) (from : ℕ) (stack next : Sorts) → Stepped i from stack next → (c : Comes image g from stack part) → suc from < end_of image g → Asked → AreRight image g from (suc from)
  alone_right i from stack next step c low asked n first last =
      let there = c.there in
      subst (λ m. IsRightAt image g.out (ground_flow image g) m) (let same : c.place ≡ n = omega (arith, first, last, there) in same) (step_right i from stack next step c low asked)

  -- one that goes on, and one that goes away
  pub one_leads : (i : Instr) (from : ℕ) (stack next : Sorts) → Stepped i from stack next → goes_away i ≡ false → Leads image g Asked part from stack (suc from) next
  one_leads i from stack next step onward = record {
    onward = omega arith;
    comes = λ c low.
        let there = c.there in
        let reached = next_reached image g c.place i stack next part (found_there i from c.place step.has there c.within) c.reached step.operands step.effect onward (omega (arith, low, there)) in
        record { place = suc c.place; there = omega (arith, there); late = λ own. omega arith; within = omega (arith, low, there); reached = record { sorts = reached.sorts; stands = reached.stands ∙ step.same c.place } };
    right = λ c low asked. alone_right i from stack next step c low asked;
  }

  pub away_leads : (i : Instr) (from : ℕ) (stack next : Sorts) → Stepped i from stack next → goes_away i ≡ true → Leads image g Asked part from stack (suc from) []
  away_leads i from stack next step away = record {
    onward = omega arith;
    comes = λ c low.
        let there = c.there in
        let reached = away_reached image g c.place i stack part (found_there i from c.place step.has there c.within) c.reached away (omega (arith, low, there)) in
        record { place = suc c.place; there = omega (arith, there); late = λ own. omega arith; within = omega (arith, low, there); reached = record { sorts = reached.sorts; stands = reached.stands ∙ step.same c.place } };
    right = λ c low asked. alone_right i from stack next step c low asked;
  }

  -- jumps forward, where control comes with this stack
  ahead_right : (from target : ℕ) {stack : Sorts} (c : Comes image g from stack part) → IsAhead image g part (suc from) target → jumps_right (ground_flow image g) c.place [] target ≡ true
  ahead_right from target c is =
      let there = c.there in
      let beyond = is.comes.there in
      let ahead = is.ahead in
      forward_right image g c.place is.comes.place target part c.reached.stands is.comes.reached beyond is.comes.within (omega (arith, there, beyond, ahead))

  stands_anywhere : (i : Instr) → ((out : List Bool) → stands_right out true i ≡ true) → ((out : List Bool) → stands_right out false i ≡ true) → (inside : Bool) → stands_right g.out inside i ≡ true
  stands_anywhere i within outside true = within g.out
  stands_anywhere i within outside false = outside g.out

  framed_anywhere : (i : Instr) → frames_right true false i ≡ true → frames_right false false i ≡ true → (of_process : Bool) → frames_right of_process false i ≡ true
  framed_anywhere i yes_so no_so true = yes_so
  framed_anywhere i yes_so no_so false = no_so

  pub jump_leads : (from target : ℕ) → slice_get image.code from ≡ Some (instr.Jump target) → (Asked → IsAhead image g part (suc from) target) → Leads image g Asked part from [] (suc from) []
  jump_leads from target has ahead =
      away_leads (instr.Jump target) from [] []
      (record {
        has = has;
        operands = refl;
        effect = refl;
        stands = stands_anywhere (instr.Jump target) (λ out. refl) (λ out. refl) (is_inside part);
        framed = framed_anywhere (instr.Jump target) refl refl (is_of_process image g.number);
        same = λ n. refl;
        jump = λ c asked. ahead_right from target c (ahead asked);
      }) refl

  -- one back to a TURN that leads over it
  pub record IsTurn (behind target : ℕ) : Type 0 where
    pub over : ℕ
    pub turn : slice_get image.code target ≡ Some (instr.Turn over)
    pub leads : behind ≤ over
    pub comes : Comes image g target [] part

  back_there : (from target : ℕ) {stack : Sorts} (c : Comes image g from stack part) → IsTurn (suc from) target → jumps_right (ground_flow image g) c.place [] target ≡ true
  back_there from target c is =
      let there = c.there in
      let leads = is.leads in
      back_right image g c.place is.comes.place target is.over part c.reached.stands is.comes.reached is.comes.there is.comes.within
      (found_there (instr.Turn is.over) target is.comes.place is.turn is.comes.there is.comes.within) (omega (arith, there, leads))

  pub back_leads : (from target : ℕ) → slice_get image.code from ≡ Some (instr.Jump target) → (Asked → IsTurn (suc from) target) → Leads image g Asked part from [] (suc from) []
  back_leads from target has back =
      away_leads (instr.Jump target) from [] []
      (record {
        has = has;
        operands = refl;
        effect = refl;
        stands = stands_anywhere (instr.Jump target) (λ out. refl) (λ out. refl) (is_inside part);
        framed = framed_anywhere (instr.Jump target) refl refl (is_of_process image g.number);
        same = λ n. refl;
        jump = λ c asked. back_there from target c (back asked);
      }) refl

  tested : (from target : ℕ) → slice_get image.code from ≡ Some (instr.JumpNot target) → ((c : Comes image g from (B ∷ []) part) → Asked → jumps_right (ground_flow image g) c.place [] target ≡ true) → Stepped (instr.JumpNot target) from (B ∷ []) []
  tested from target has leaps = record {
    has = has;
    operands = refl;
    effect = refl;
    stands = stands_anywhere (instr.JumpNot target) (λ out. refl) (λ out. refl) (is_inside part);
    framed = framed_anywhere (instr.JumpNot target) refl refl (is_of_process image g.number);
    same = λ n. refl;
    jump = leaps;
  }

  -- a test forward, and one back to a TURN
  pub test_leads : (from target : ℕ) → slice_get image.code from ≡ Some (instr.JumpNot target) → (Asked → IsAhead image g part (suc from) target) → Leads image g Asked part from (B ∷ []) (suc from) []
  test_leads from target has ahead = one_leads (instr.JumpNot target) from (B ∷ []) [] (tested from target has (λ c asked. ahead_right from target c (ahead asked))) refl

  pub test_back_leads : (from target : ℕ) → slice_get image.code from ≡ Some (instr.JumpNot target) → (Asked → IsTurn (suc from) target) → Leads image g Asked part from (B ∷ []) (suc from) []
  test_back_leads from target has back = one_leads (instr.JumpNot target) from (B ∷ []) [] (tested from target has (λ c asked. back_there from target c (back asked))) refl

  -- TURN
  turned : (from target : ℕ) (c : Comes image g from [] part) → IsAhead image g part (suc from) target → jumps (ground_flow image g) c.place [] (instr.Turn target) ≡ true
  turned from target c is =
      let there = c.there in
      let beyond = is.comes.there in
      let ahead = is.ahead in
      both_hold (is_entry (ground_flow image g) c.place target) (nat_lt (g.block.first + c.place) target) (entered image g c.place is.comes.place target part c.reached.stands is.comes.reached beyond is.comes.within)
      (lt-ltb (g.block.first + c.place) target (omega (arith, there, ahead)))

  pub turn_leads : (from target : ℕ) → slice_get image.code from ≡ Some (instr.Turn target) → (Asked → IsAhead image g part (suc from) target) → Leads image g Asked part from [] (suc from) []
  turn_leads from target has ahead =
      one_leads (instr.Turn target) from [] []
      (record {
        has = has;
        operands = refl;
        effect = refl;
        stands = stands_anywhere (instr.Turn target) (λ out. refl) (λ out. refl) (is_inside part);
        framed = framed_anywhere (instr.Turn target) refl refl (is_of_process image g.number);
        same = λ n. refl;
        jump = λ c asked. turned from target c (ahead asked);
      }) refl

-- more is asked
pub asked_leads : (image : ImageParts) (g : Ground) {Asked More : Type 0} (part : Option ℕ) (from to : ℕ) (stack after : Sorts) → (More → Asked) → Leads image g Asked part from stack to after → Leads image g More part from stack to after
asked_leads image g part from to stack after less leads = record { onward = leads.onward; comes = leads.comes; right = λ c low more. leads.right c low (less more) }
