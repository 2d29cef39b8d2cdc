-- Code that leads on, where what its jumps ask for comes of the code itself.
use Rattle.std.specs.Prelude.{◌≡◌, ◌≤◌, ◌<◌, ℕ, suc, ◌+◌, length, Bool, true, false, List, [], ◌∷◌, Option, Some, None, slice_get, if◌then◌else◌}
use Rattle.std.proofs.Common.{sym, ap, subst, ◌∙◌, arith}
use Rattle.hal_grammar.specs.Leaves.{Naming}
use Rattle.hal_meaning.specs.Statements.{is_meant}
use Rattle.hal_code.specs.declared.image.ImageParts.{ImageParts}
use Rattle.hal_code.specs.declared.instr.Instr.{Instr}
use Rattle.hal_code.specs.declared.instr.Instr.TheVariants as instr
use Rattle.hal_code.specs.Effects.{Sorts}
use Rattle.hal_code.specs.Flow.{jumps_right}
use Rattle.hal_code.specs.Sorts.{B}
use Rattle.hal_agreement.specs.PlacedStatements.{Exits, NoReturn, opened, exit_of, again_of, within_group, of_block}
use Rattle.hal_fitting.specs.Fitting.{Ground, Fits, ground_flow}
use Rattle.hal_fitting.specs.Leading.{Comes, end_of, standing, Leads, IsAhead}
use Rattle.hal_fitting.proofs.Passing.{of_block as code_there}
use Rattle.hal_fitting.proofs.Stepping.{forward_right}
use Rattle.hal_fitting.proofs.Leading.{fits_lead, both_lead, jump_leads, test_leads, turn_leads, IsTurn, asked_leads}
use Rattle.hal_fit.specs.Jumping.{Asked}

module _ (image : ImageParts) (g : Ground) (part : Option ℕ) where
  -- an instruction of the block stands in the code
  pub found_there : (i : Instr) (from place : ℕ) → slice_get image.code from ≡ Some i → from ≡ g.block.first + place → place < length (ground_flow image g).code → slice_get (ground_flow image g).code place ≡ Some i
  found_there i from place has there within = code_there image g.block place within ∙ (ap (slice_get image.code) (sym there) ∙ has)

  -- a jump forward, where control comes with any stack
  pub jumps_ahead : (from target : ℕ) {stack : Sorts} (c : Comes image g from stack part) → IsAhead image g part (suc from) target → jumps_right (ground_flow image g) c.place [] target ≡ true
  jumps_ahead from target c is =
      let there = c.there in
      let beyond = is.comes.there in
      let onward = is.ahead in
      forward_right image g c.place is.comes.place target part c.reached.stands is.comes.reached beyond is.comes.within (omega (arith, there, beyond, onward))

  -- a jump from further before
  pub from_before : (early late target : ℕ) → early ≤ late → IsAhead image g part late target → IsAhead image g part early target
  from_before early late target onward is = record { ahead = let far = is.ahead in omega (arith, onward, far); comes = is.comes }

  pub asked_before : (exits : Exits) (early late : ℕ) → early ≤ late → Asked image g part exits late → Asked image g part exits early
  asked_before exits early late onward asked = record {
    leaves = λ label target is. from_before early late target onward (asked.leaves label target is);
    repeats = λ label target is. from_before early late target onward (asked.repeats label target is);
    finishes = λ target is. from_before early late target onward (asked.finishes target is);
  }

  -- a group that is open leads to its own end, or else it is asked of those around it
  this_or_that : (b : Bool) (own target behind : ℕ) (other : Option ℕ) → (if b then Some own else other) ≡ Some target → IsAhead image g part behind own → (other ≡ Some target → IsAhead image g part behind target)
      → IsAhead image g part behind target
  this_or_that true own target behind other is here further = subst (λ m. IsAhead image g part behind m) (let same : own ≡ target = cc in same) here
  this_or_that false own target behind other is here further = further is

  pub asked_within : (exits : Exits) (labels : List Naming) (to : ℕ) → Asked image g part exits to → Comes image g to [] part → Asked image g part (within_group (opened labels to None) exits) to
  asked_within exits labels to asked comes = record {
    leaves = λ label target is. this_or_that (is_meant labels label) to target to (exit_of exits.groups label) is (record { ahead = omega arith; comes = comes }) (λ other. asked.leaves label target other);
    repeats = λ label target is. asked.repeats label target is;
    finishes = λ target is. asked.finishes target is;
  }

  pub asked_looping : (exits : Exits) (labels : List Naming) (again to : ℕ) → Asked image g part exits to → again ≤ to → Comes image g to [] part → Comes image g again [] part
      → Asked image g part (within_group (opened labels to (Some again)) exits) again
  asked_looping exits labels again to asked onward comes repeating = record {
    leaves = λ label target is. this_or_that (is_meant labels label) to target again (exit_of exits.groups label) is (record { ahead = onward; comes = comes })
        (λ other. from_before again to target onward (asked.leaves label target other));
    repeats = λ label target is. this_or_that (is_meant labels label) again target again (again_of exits.groups label) is (record { ahead = omega arith; comes = repeating })
        (λ other. from_before again to target onward (asked.repeats label target other));
    finishes = λ target is. from_before again to target onward (asked.finishes target is);
  }

  -- nothing is asked of an UPDATE block's end
  pub asked_alone : (handler : ℕ → ℕ) (behind : ℕ) → Asked image g part (of_block NoReturn handler) behind
  asked_alone handler behind = record {
    leaves = λ label target is. absurd (cc);
    repeats = λ label target is. absurd (cc);
    finishes = λ target is. absurd (cc);
  }

  -- up to an address that is the same
  pub lead_to : (Asking : Type 0) (from middle to : ℕ) (stack after : Sorts) → middle ≡ to → Leads image g Asking part from stack middle after → Leads image g Asking part from stack to after
  lead_to Asking from middle to stack after same leads = subst (λ m. Leads image g Asking part from stack m after) same leads

  -- what is asked may be less
  pub less_leads : (More Less : Type 0) (from to : ℕ) (stack after : Sorts) → (More → Less) → Leads image g Less part from stack to after → Leads image g More part from stack to after
  less_leads More Less from to stack after less leads = asked_leads image g {Asked = Less} {More = More} part from to stack after less leads

  -- control comes to an address on the way
  pub on_the_way : (Asking : Type 0) (from way to : ℕ) (stack between : Sorts) → Leads image g Asking part from stack way between → way ≤ to → Comes image g from stack part → to < end_of image g
      → Comes image g way between part
  on_the_way Asking from way to stack between leads onward c low = leads.comes c (omega (arith, onward, low))

  -- what is asked within may come of the code's end, which is reached
  pub end_leads : (Asking Within : Type 0) (from to : ℕ) (stack after : Sorts) → (Asking → Comes image g to after part → Within) → Leads image g Within part from stack to after → Leads image g Asking part from stack to after
  end_leads Asking Within from to stack after gives leads = record {
    onward = leads.onward;
    comes = λ c low. leads.comes c low;
    right = λ c low asked. leads.right c low (gives asked (leads.comes c low));
  }

  -- or of an address on the way
  pub way_leads : (Asking Within Early : Type 0) (from way to : ℕ) (stack between after : Sorts) → (Asking → Comes image g way between part → Within) → way ≤ to → Leads image g Early part from stack way between
      → Leads image g Within part from stack to after → Leads image g Asking part from stack to after
  way_leads Asking Within Early from way to stack between after gives onward early leads = record {
    onward = leads.onward;
    comes = λ c low. leads.comes c low;
    right = λ c low asked. leads.right c low (gives asked (on_the_way Early from way to stack between early onward c low));
  }

  -- a condition, and a jump where it fails
  pub condition_leads : (Asking : Type 0) (from middle target to : ℕ) → Fits image (standing part g) from [] middle (B ∷ []) → slice_get image.code middle ≡ Some (instr.JumpNot target) → suc middle ≡ to
      → (Asking → IsAhead image g part to target) → Leads image g Asking part from [] to []
  condition_leads Asking from middle target to fits has next ahead =
      both_lead image g Asking part (fits_lead image g Asking part from middle [] (B ∷ []) fits)
      (lead_to Asking middle (suc middle) to (B ∷ []) [] next (test_leads image g Asking part middle target has (λ asked. from_before (suc middle) to target (omega (arith, next)) (ahead asked))))

  -- what is asked, and that control comes to one address or to two
  abbrev pub And : Type 0 → ℕ → Type 0
  And Asking at = Asking × Comes image g at [] part

  abbrev pub Both : Type 0 → ℕ → ℕ → Type 0
  Both Asking at other = Asking × Comes image g at [] part × Comes image g other [] part

  -- a jump that stands alone
  pub jump_there : (Asking : Type 0) (from target to : ℕ) → slice_get image.code from ≡ Some (instr.Jump target) → suc from ≡ to → (Asking → IsAhead image g part to target) → Leads image g Asking part from [] to []
  jump_there Asking from target to has next ahead =
      lead_to Asking from (suc from) to [] [] next (jump_leads image g Asking part from target has (λ asked. from_before (suc from) to target (omega (arith, next)) (ahead asked)))

  -- IF without ELSE
  pub if_leads : (Asking : Type 0) (from middle begin end other to : ℕ) → Fits image (standing part g) from [] middle (B ∷ []) → slice_get image.code middle ≡ Some (instr.JumpNot other) → suc middle ≡ begin
      → Leads image g Asking part begin [] end [] → end ≡ to → other ≡ to → Leads image g Asking part from [] to []
  if_leads Asking from middle begin end other to fits has next consequence last target =
      let onward = consequence.onward in
      end_leads Asking (And Asking to) from to [] [] (λ asked comes. (asked, comes))
      (both_lead image g (And Asking to) part
      (condition_leads (And Asking to) from middle other begin fits has next
      (λ both. subst (λ m. IsAhead image g part begin m) (sym target) (record { ahead = omega (arith, onward, last); comes = both.1 })))
      (lead_to (And Asking to) begin end to [] [] last (less_leads (And Asking to) Asking begin end [] [] (λ both. both.0) consequence)))

  -- IF with ELSE, whose statement stands behind the jump over it
  pub else_leads : (Asking : Type 0) (from middle begin end other to : ℕ) → Fits image (standing part g) from [] middle (B ∷ []) → slice_get image.code middle ≡ Some (instr.JumpNot other) → suc middle ≡ begin
      → Leads image g Asking part begin [] end [] → slice_get image.code end ≡ Some (instr.Jump to) → other ≡ suc end → Leads image g Asking part other [] to [] → Leads image g Asking part from [] to []
  else_leads Asking from middle begin end other to fits has next consequence jump behind alternative =
      end_leads Asking (And Asking to) from to [] [] (λ asked comes. (asked, comes))
      (way_leads (And Asking to) (Both Asking to other) (Both Asking to other) from other to [] [] [] (λ asked comes. (asked.0, asked.1, comes)) later early (both_lead image g (Both Asking to other) part early (less_leads (Both Asking to other) Asking other to [] [] (λ all. all.0) alternative)))
    where
      later : other ≤ to
      later = alternative.onward

      over : begin ≤ other
      over = let onward = consequence.onward in omega (arith, onward, behind)

      early : Leads image g (Both Asking to other) part from [] other []
      early =
          both_lead image g (Both Asking to other) part (condition_leads (Both Asking to other) from middle other begin fits has next (λ all. record { ahead = over; comes = all.2 }))
          (both_lead image g (Both Asking to other) part (less_leads (Both Asking to other) Asking begin end [] [] (λ all. all.0) consequence)
          (lead_to (Both Asking to other) end (suc end) other [] [] (sym behind)
          (jump_leads image g (Both Asking to other) part end to jump (λ all. record { ahead = let onward = alternative.onward in omega (arith, onward, behind); comes = all.1 }))))

  -- a case: its test, its statement, and the jump over all others
  pub selected_leads : (Asking : Type 0) (from begin end none to : ℕ) → Leads image g (And Asking (suc end)) part from [] begin [] → Leads image g Asking part begin [] end []
      → slice_get image.code end ≡ Some (instr.Jump to) → (Asking → IsAhead image g part none to) → Leads image g Asking part (suc end) [] none [] → Leads image g Asking part from [] none []
  selected_leads Asking from begin end none to test first jump ahead others =
      let onward = others.onward in
      way_leads Asking (And Asking (suc end)) (And Asking (suc end)) from (suc end) none [] [] [] (λ asked comes. (asked, comes)) onward early (both_lead image g (And Asking (suc end)) part early (less_leads (And Asking (suc end)) Asking (suc end) none [] [] (λ both. both.0) others))
    where
      early : Leads image g (And Asking (suc end)) part from [] (suc end) []
      early =
          both_lead image g (And Asking (suc end)) part test
          (both_lead image g (And Asking (suc end)) part (less_leads (And Asking (suc end)) Asking begin end [] [] (λ both. both.0) first)
          (jump_leads image g (And Asking (suc end)) part end to jump (λ both. from_before (suc end) none to (let onward = others.onward in onward) (ahead both.0))))

  -- what is asked in a loop: what is asked of it, and that control comes to its end, to its TURN and to what stands behind its turns
  pub record Round (Asking : Type 0) (turn again to : ℕ) : Type 0 where
    pub outer : Asking
    pub ended : Comes image g to [] part
    pub turned : Comes image g turn [] part
    pub passed : Comes image g again [] part
    pub onward : again ≤ to

  -- a TURN to which control goes back
  pub turn_there : (Asking : Type 0) (behind turn to : ℕ) → slice_get image.code turn ≡ Some (instr.Turn to) → behind ≤ to → Comes image g turn [] part → IsTurn image g Asking part behind turn
  turn_there Asking behind turn to has onward comes = record { over = to; turn = has; leads = onward; comes = comes }

  -- a loop: what stands before its TURN, a turn, and what stands behind it
  pub round_leads : (Asking Within : Type 0) (from turn again to : ℕ) → Leads image g (Round Asking turn again to) part from [] turn [] → slice_get image.code turn ≡ Some (instr.Turn to)
      → (Round Asking turn again to → Within) → Leads image g Within part (suc turn) [] again [] → Leads image g (Round Asking turn again to) part again [] to [] → Leads image g Asking part from [] to []
  round_leads Asking Within from turn again to before has gives body behind = record {
    onward = whole.onward;
    comes = λ c low. whole.comes c low;
    right = λ c low asked. whole.right c low
        (record {
          outer = asked;
          ended = whole.comes c low;
          turned = on_the_way (Round Asking turn again to) from turn to [] [] before (let inner = body.onward in let last = behind.onward in omega (arith, inner, last)) c low;
          passed = on_the_way (Round Asking turn again to) from again to [] [] (both_lead image g (Round Asking turn again to) part before turns) behind.onward c low;
          onward = behind.onward;
        });
  }
    where
      turns : Leads image g (Round Asking turn again to) part turn [] again []
      turns =
          both_lead image g (Round Asking turn again to) part
          (turn_leads image g (Round Asking turn again to) part turn to has (λ all. record { ahead = let inner = body.onward in let last = behind.onward in omega (arith, inner, last); comes = all.ended }))
          (less_leads (Round Asking turn again to) Within (suc turn) again [] [] gives body)

      whole : Leads image g (Round Asking turn again to) part from [] to []
      whole = both_lead image g (Round Asking turn again to) part before (both_lead image g (Round Asking turn again to) part turns behind)
