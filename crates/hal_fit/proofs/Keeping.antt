-- The code fits by which groups keep what they go by in own places, and code that compares it leads on.
use Rattle.std.specs.Prelude.{◌≡◌, ◌≤◌, ℕ, suc, pos, true, false, [], ◌∷◌, Option, Some, None, if◌then◌else◌}
use Rattle.std.proofs.Common.{refl, ap, arith}
use Rattle.hal_operations.specs.declared.operation.Op1.TheVariants as op1
use Rattle.hal_operations.specs.declared.operation.Op2.{Op2}
use Rattle.hal_operations.specs.declared.operation.Op2.TheVariants as op2
use Rattle.hal_values.specs.declared.value.Kind.{Kind}
use Rattle.hal_values.specs.declared.value.Kind.TheVariants as kind
use Rattle.hal_values.specs.declared.value.Value.TheVariants as value
use Rattle.hal_states.specs.Spots.{Own}
use Rattle.hal_code.specs.declared.choice.Choice.TheVariants as choice
use Rattle.hal_code.specs.declared.instr.Instr.TheVariants as instr
use Rattle.hal_code.specs.Blocks.{is_common}
use Rattle.hal_code.specs.Effects.{Sorts}
use Rattle.hal_code.specs.Sorts.{Sort, I, B, A, takes, two_give}
use Rattle.hal_agreement.specs.Codes.{Code}
use Rattle.hal_agreement.specs.PlacedExpressions.{Has, One, two}
use Rattle.hal_agreement.specs.PlacedGroups.{KeepsAt, HoldsAt, CaseAt, NegativeAt, LessAt, BoundsAt, NextAt}
use Rattle.hal_fitting.specs.Fitting.{Ground, Fits}
use Rattle.hal_fitting.specs.Leading.{Comes, standing, Leads, IsAhead}
use Rattle.hal_fitting.proofs.Joining.{modest_fits, both_fit, fits_to}
use Rattle.hal_fitting.proofs.Leading.{fits_lead, both_lead, jump_leads}
use Rattle.hal_fit_expr.proofs.Leaves.{value_fits, one_op_fits, two_op_fits, fetch_fits, address_fits}
use Rattle.hal_fit.proofs.Combining.{from_before, lead_to, condition_leads, end_leads, way_leads, And}

module _ (code : Code) (g : Ground) where
  -- the value on the stack is stored
  pub store_fits : (k : Kind) (s : Sort) (from to : ℕ) (stack : Sorts) → takes k s ≡ true → One code from instr.Keep to → Fits code.image g from (A k ∷ s ∷ stack) to stack
  store_fits k s from to stack fits at = fits_to code.image g at.1 (modest_fits code.image g instr.Keep from (A k ∷ s ∷ stack) stack at.0 refl refl (ap (λ b. if b then Some stack else None) fits))

  pub number_fits : (n : ℕ) (from : ℕ) (stack : Sorts) → Has code from (instr.Int (pos n)) → Fits code.image g from stack (suc from) (I ∷ stack)
  number_fits n from stack has = value_fits code g (value.Int (pos n)) I from (suc from) stack refl (has, refl)

  module _ (own : is_common g.block ≡ false) where
    pub keeps_fits : (place from to : ℕ) (stack : Sorts) → KeepsAt code place from to → Fits code.image g from (I ∷ stack) to stack
    keeps_fits place from to stack at = both_fit code.image g (address_fits code g own kind.Double (Own place) from (I ∷ stack) (at.0 [])) (store_fits kind.Double I (suc from) to stack refl at.1)

    pub holds_fits : (place from to : ℕ) (stack : Sorts) → HoldsAt code place from to → Fits code.image g from stack to (I ∷ stack)
    holds_fits place from to stack at = both_fit code.image g (address_fits code g own kind.Double (Own place) from stack (at.0 [])) (fetch_fits code g kind.Double (suc from) to stack at.1)

    -- what an own place holds is compared with a number, or with what another one holds
    pub compared_fits : (op : Op2) (place n from middle : ℕ) → two_give op I I ≡ Some B → HoldsAt code place from middle → Has code middle (instr.Int (pos n)) → Has code (suc middle) (two op)
        → Fits code.image g from [] (suc (suc middle)) (B ∷ [])
    compared_fits op place n from middle gives holds number compares =
        both_fit code.image g (holds_fits place from middle [] holds)
        (both_fit code.image g (number_fits n middle (I ∷ []) number) (two_op_fits code g op I I B (suc middle) (suc (suc middle)) [] gives (compares, refl)))

    pub less_fits : (one other from middle last : ℕ) → HoldsAt code one from middle → HoldsAt code other middle last → Has code last (two op2.Less) → Fits code.image g from [] (suc last) (B ∷ [])
    less_fits one other from middle last holds further compares =
        both_fit code.image g (holds_fits one from middle [] holds)
        (both_fit code.image g (holds_fits other middle last (I ∷ []) further) (two_op_fits code g op2.Less I I B last (suc last) [] refl (compares, refl)))

    -- the next value of a DO FOR is kept, and whether it isn't past the end
    pub counted_fits : (place from step last begins after : ℕ) → HoldsAt code (suc place) from step → HoldsAt code place step last → Has code last instr.Next
        → Has code (suc last) (instr.Op1 (choice.Known op1.Integer)) → KeepsAt code (suc (suc (suc place))) (suc (suc last)) begins → KeepsAt code (suc (suc place)) begins after
        → Fits code.image g from (I ∷ []) after []
    counted_fits place from step last begins after steps ends counts turns tells keeps =
        both_fit code.image g (holds_fits (suc place) from step (I ∷ []) steps)
        (both_fit code.image g (holds_fits place step last (I ∷ I ∷ []) ends)
        (both_fit code.image g (modest_fits code.image g instr.Next last (I ∷ I ∷ I ∷ []) (B ∷ I ∷ []) counts refl refl refl)
        (both_fit code.image g (one_op_fits code g op1.Integer B I (suc last) (suc (suc last)) (I ∷ []) refl (turns, refl))
        (both_fit code.image g (keeps_fits (suc (suc (suc place))) (suc (suc last)) begins (I ∷ []) tells) (keeps_fits (suc (suc place)) begins after [] keeps)))))

module _ (code : Code) (g : Ground) (part : Option ℕ) (own : is_common g.block ≡ false) where
  pub case_leads : (Asked : Type 0) (place number from target to : ℕ) → CaseAt code place number from target to → (Asked → IsAhead code.image g part to target) → Leads code.image g Asked part from [] to []
  case_leads Asked place number from target to at ahead =
      condition_leads code.image g part Asked from (suc (suc at.0)) target to (compared_fits code (standing part g) own op2.Equal place number from at.0 refl at.1 at.2 at.3) at.4.0 at.4.1 ahead

  pub negative_leads : (Asked : Type 0) (place from target to : ℕ) → NegativeAt code place from target to → (Asked → IsAhead code.image g part to target) → Leads code.image g Asked part from [] to []
  negative_leads Asked place from target to at ahead =
      condition_leads code.image g part Asked from (suc (suc at.0)) target to (compared_fits code (standing part g) own op2.Less place 0 from at.0 refl at.1 at.2 at.3) at.4.0 at.4.1 ahead

  pub less_leads_on : (Asked : Type 0) (one other from target to : ℕ) → LessAt code one other from target to → (Asked → IsAhead code.image g part to target) → Leads code.image g Asked part from [] to []
  less_leads_on Asked one other from target to at ahead =
      condition_leads code.image g part Asked from (suc at.1) target to (less_fits code (standing part g) own one other from at.0 at.1 at.2 at.3 at.4) at.5.0 at.5.1 ahead

  -- what is asked within: that control comes to the end, and to the test for steps that aren't below 0
  abbrev Tested : Type 0 → ℕ → ℕ → Type 0
  Tested Asked to up = Asked × Comes code.image g to [] part × Comes code.image g up [] part

  -- control goes to the exit where the value that is kept is past the end
  pub bounds_lead : (Asked : Type 0) (place from exit to : ℕ) → BoundsAt code place from exit to → (Asked → IsAhead code.image g part to exit) → Leads code.image g Asked part from [] to []
  bounds_lead Asked place from exit to at ahead =
      end_leads code.image g part Asked (And code.image g part Asked to) from to [] [] (λ asked comes. (asked, comes))
      (way_leads code.image g part (And code.image g part Asked to) (Tested Asked to (suc at.1)) (Tested Asked to (suc at.1)) from (suc at.1) to [] [] [] (λ asked comes. (asked.0, asked.1, comes)) upward early
      (both_lead code.image g (Tested Asked to (suc at.1)) part early late))
    where
      rising : Leads code.image g (Tested Asked to (suc at.1)) part (suc at.1) [] at.2 []
      rising = less_leads_on (Tested Asked to (suc at.1)) place (suc (suc place)) (suc at.1) to at.2 at.6 (λ all. record { ahead = let last = at.7.1 in omega (arith, last); comes = all.1 })

      upward : suc at.1 ≤ to
      upward = let onward = rising.onward in let last = at.7.1 in omega (arith, onward, last)

      late : Leads code.image g (Tested Asked to (suc at.1)) part (suc at.1) [] to []
      late =
          both_lead code.image g (Tested Asked to (suc at.1)) part rising
          (lead_to code.image g part (Tested Asked to (suc at.1)) at.2 (suc at.2) to [] [] at.7.1
          (jump_leads code.image g (Tested Asked to (suc at.1)) part at.2 exit at.7.0 (λ all. from_before code.image g part (suc at.2) to exit (let last = at.7.1 in omega (arith, last)) (ahead all.0))))

      falling : Leads code.image g (Tested Asked to (suc at.1)) part at.0 [] at.1 []
      falling = less_leads_on (Tested Asked to (suc at.1)) (suc (suc place)) place at.0 to at.1 at.4 (λ all. record { ahead = let onward = upward in omega (arith, onward); comes = all.1 })

      early : Leads code.image g (Tested Asked to (suc at.1)) part from [] (suc at.1) []
      early =
          both_lead code.image g (Tested Asked to (suc at.1)) part
          (negative_leads (Tested Asked to (suc at.1)) (suc place) from (suc at.1) at.0 at.3 (λ all. record { ahead = let onward = falling.onward in omega (arith, onward); comes = all.2 }))
          (both_lead code.image g (Tested Asked to (suc at.1)) part falling
          (jump_leads code.image g (Tested Asked to (suc at.1)) part at.1 exit at.5 (λ all. from_before code.image g part (suc at.1) to exit upward (ahead all.0))))

  -- behind the value of a DO FOR's variable
  pub next_leads : (Asked : Type 0) (place from exit to : ℕ) → NextAt code place from exit to → (Asked → IsAhead code.image g part to exit) → Leads code.image g Asked part from (I ∷ []) to []
  next_leads Asked place from exit to at ahead =
      both_lead code.image g Asked part
      (fits_lead code.image g Asked part from at.3 (I ∷ []) [] (counted_fits code (standing part g) own place from at.0 at.1 at.2 at.3 at.4 at.5 at.6 at.7 at.8 at.9))
      (case_leads Asked (suc (suc (suc place))) 1 at.3 exit to at.10 ahead)
