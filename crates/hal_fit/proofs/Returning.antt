-- The code of RETURN leads on.
use Rattle.std.specs.Prelude.{◌≡◌, ℕ, suc, false, [], ◌∷◌, Option, Some, None}
use Rattle.std.proofs.Common.{refl, ap, subst, arith}
use Rattle.hal_grammar.specs.Declarations.{IntegerKind, BooleanKind, EventKind, BitKind, CharacterKind, StructureKind}
use Rattle.hal_grammar.specs.Units.{Head, Program, Compool, Task, Procedure, Function, NoKind, HasKind}
use Rattle.hal_operations.specs.declared.operation.Op1.TheVariants as op1
use Rattle.hal_meaning.specs.Bodies.{Body}
use Rattle.hal_code.specs.declared.instr.Instr.TheVariants as instr
use Rattle.hal_code.specs.Blocks.{is_of_process}
use Rattle.hal_code.specs.Effects.{Sorts, returned_sorts}
use Rattle.hal_code.specs.Flow.{is_inside}
use Rattle.hal_code.specs.Right.{stands_right, frames_right}
use Rattle.hal_code.specs.Sorts.{Sort}
use Rattle.hal_agreement.specs.Codes.{Code}
use Rattle.hal_agreement.specs.PlacedExpressions.{One}
use Rattle.hal_agreement.specs.PlacedStatements.{Leaving, ToFinish, ByReturn, ByResult, NoReturn, ReturnAt, ResultBy, ResultAt}
use Rattle.hal_fitting.specs.Fitting.{Ground, Fits}
use Rattle.hal_fitting.specs.Leading.{standing, Leads, IsAhead}
use Rattle.hal_fitting.proofs.Joining.{nothing_fits}
use Rattle.hal_fitting.proofs.Leading.{fits_lead, both_lead, jump_leads, away_leads}
use Rattle.hal_fit_expr.proofs.Given.{one_value}
use Rattle.hal_fit_expr.proofs.Leaves.{one_op_fits}
use Rattle.hal_fit.specs.Called.{sort_by, sort_given}
use Rattle.hal_fit.specs.Jumping.{MayLeave}
use Rattle.hal_fit.proofs.Combining.{from_before, lead_to}

module _ (code : Code) (g : Ground) where
  same_fits : (s t : Sort) (from to : ℕ) → Some s ≡ Some t → from ≡ to → Fits code.image g from (s ∷ []) to (t ∷ [])
  same_fits s t from to is same = subst (λ r. Fits code.image g from (s ∷ []) to (r ∷ [])) (one_value (Some s) s t refl is) (nothing_fits code.image g from to (s ∷ []) same)

  -- a value becomes what the unit's type has it
  becomes_by : (head : Head) (s t : Sort) (from to : ℕ) → sort_by head s ≡ Some t → ResultBy code head from to → Fits code.image g from (s ∷ []) to (t ∷ [])
  becomes_by (Function place inputs (HasKind (CharacterKind there size) precision) mode) s t from to is at = one_op_fits code g op1.Character s t from to [] is at
  becomes_by (Function place inputs (HasKind (IntegerKind there) precision) mode) s t from to is at = same_fits s t from to is at
  becomes_by (Function place inputs (HasKind (BooleanKind there) precision) mode) s t from to is at = same_fits s t from to is at
  becomes_by (Function place inputs (HasKind (EventKind there) precision) mode) s t from to is at = same_fits s t from to is at
  becomes_by (Function place inputs (HasKind (BitKind there size) precision) mode) s t from to is at = same_fits s t from to is at
  becomes_by (Function place inputs (HasKind (StructureKind there template copies) precision) mode) s t from to is at = same_fits s t from to is at
  becomes_by (Function place inputs NoKind mode) s t from to is at = same_fits s t from to is at
  becomes_by (Program place) s t from to is at = same_fits s t from to is at
  becomes_by (Compool place) s t from to is at = same_fits s t from to is at
  becomes_by (Task place) s t from to is at = same_fits s t from to is at
  becomes_by (Procedure place inputs outputs mode) s t from to is at = same_fits s t from to is at

  pub becomes_fits : (b : Option Body) (s t : Sort) (from to : ℕ) → sort_given b s ≡ Some t → ResultAt code b from to → Fits code.image g from (s ∷ []) to (t ∷ [])
  becomes_fits None s t from to is at = same_fits s t from to is at
  becomes_fits (Some b) s t from to is at = becomes_by b.head s t from to is at

module _ (code : Code) (g : Ground) (part : Option ℕ) where
  -- RETURN, where a block is left with what it gives
  left_leads : (Asked : Type 0) (from to : ℕ) (stack left : Sorts) → is_inside part ≡ false → is_of_process code.image g.number ≡ false → returned_sorts g.block.result stack ≡ Some left → One code from instr.Return to
      → Leads code.image g Asked part from stack to []
  left_leads Asked from to stack left outside called gives at =
      lead_to code.image g part Asked from (suc from) to stack [] at.1
      (away_leads code.image g Asked part instr.Return from stack left
      (record {
        has = at.0;
        operands = refl;
        effect = gives;
        stands = ap (λ b. stands_right g.out b instr.Return) outside;
        framed = ap (λ b. frames_right b false instr.Return) called;
        same = λ n. refl;
        jump = λ c asked. refl;
      }) refl)

  pub return_leads : (leaving : Leaving) (Asked : Type 0) (from to : ℕ) → MayLeave code.image (standing part g) leaving → ReturnAt code leaving from to
      → (Asked → (target : ℕ) → leaving ≡ ToFinish target → IsAhead code.image g part to target) → Leads code.image g Asked part from [] to []
  return_leads (ToFinish target) Asked from to may at ahead =
      lead_to code.image g part Asked from (suc from) to [] [] at.1
      (jump_leads code.image g Asked part from target at.0 (λ asked. from_before code.image g part (suc from) to target (let last = at.1 in omega (arith, last)) (ahead asked target refl)))
  return_leads ByReturn Asked from to may at ahead = left_leads Asked from to [] may.2 may.0 may.1 may.3 at
  return_leads ByResult Asked from to may at ahead = absurd (at)
  return_leads NoReturn Asked from to may at ahead = absurd (at)

  -- with a value
  pub result_leads : (Asked : Type 0) (b : Option Body) (leaving : Leaving) (s t : Sort) (left : Sorts) (from middle late to : ℕ) → MayLeave code.image (standing part g) leaving → leaving ≡ ByResult
      → Fits code.image (standing part g) from [] middle (s ∷ []) → sort_given b s ≡ Some t → ResultAt code b middle late → returned_sorts g.block.result (t ∷ []) ≡ Some left → One code late instr.Return to
      → Leads code.image g Asked part from [] to []
  result_leads Asked b leaving s t left from middle late to may by_result fits becomes at gives returns =
      let allowed : MayLeave code.image (standing part g) ByResult = subst (λ l. MayLeave code.image (standing part g) l) by_result may in
      both_lead code.image g Asked part (fits_lead code.image g Asked part from middle [] (s ∷ []) fits)
      (both_lead code.image g Asked part (fits_lead code.image g Asked part middle late (s ∷ []) (t ∷ []) (becomes_fits code (standing part g) b s t middle late becomes at))
      (left_leads Asked late to (t ∷ []) left allowed.0 allowed.1 gives returns))
