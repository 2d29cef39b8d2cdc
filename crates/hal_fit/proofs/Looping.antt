-- The code of loops leads on.
use Rattle.std.specs.Prelude.{◌≡◌, ◌≤◌, ℕ, suc, true, List, [], ◌∷◌, Option, Some, None, slice_get}
use Rattle.std.proofs.Common.{refl, arith}
use Rattle.hal_grammar.specs.Expressions.{Expression, Expressions, NoExpressions, MoreExpressions}
use Rattle.hal_grammar.specs.Statements.{Guard, While, Until, Span, Stepped, Listed}
use Rattle.hal_values.specs.declared.value.Kind.{Kind}
use Rattle.hal_values.specs.declared.value.Kind.TheVariants as kind
use Rattle.hal_meaning.specs.Elements.{chosen}
use Rattle.hal_meaning.specs.Variables.{Meant, MeantData, MeantConstant, MeantEvent, MeantBlock, MeantBuiltin, MeantNothing, name_meant, kind_of_first}
use Rattle.hal_code.specs.declared.instr.Instr.TheVariants as instr
use Rattle.hal_code.specs.Effects.{Sorts}
use Rattle.hal_code.specs.Sorts.{I, B, sort_of, takes}
use Rattle.hal_agreement.specs.Codes.{Code}
use Rattle.hal_agreement.specs.Sites.{Site, here_at}
use Rattle.hal_agreement.specs.PlacedExpressions.{Has, ExpressionAt}
use Rattle.hal_agreement.specs.PlacedStatements.{KeptAt, ConditionAt, FirstTestAt, TestAt, VariableAt, FetchedAt, VariableValueAt, FirstSpanAt, LaterSpanAt, StepAt, BegunAt, SteppingAt, ValueKeptAt, NextValueAt, ListingAt, SpannedAt}
use Rattle.hal_fitting.specs.Fitting.{Ground, Fits}
use Rattle.hal_fitting.specs.Leading.{Comes, standing, Leads, IsAhead}
use Rattle.hal_fitting.proofs.Joining.{both_fit, fits_to}
use Rattle.hal_fitting.proofs.Leading.{fits_lead, nothing_leads, both_lead, jump_leads, back_leads, test_leads, test_back_leads}
use Rattle.hal_fit_expr.specs.Uses.{Uses}
use Rattle.hal_fit_expr.specs.Sorted.{sort_of_meant, sort_of_name, sort_of_expression}
use Rattle.hal_fit_expr.specs.Serving.{Serves}
use Rattle.hal_fit_expr.proofs.Leaves.{address_fits}
use Rattle.hal_fit_expr.proofs.Calls.{meant_fits}
use Rattle.hal_fit_expr.proofs.Expressed.{expression_fits}
use Rattle.hal_fit.specs.Spanned.{GuardFits, GuardsFit, StepFits, AreIntegers, ForFits}
use Rattle.hal_fit.proofs.Combining.{from_before, lead_to, less_leads, way_leads, condition_leads, selected_leads, And, Round, turn_there, round_leads}
use Rattle.hal_fit.proofs.Keeping.{store_fits, number_fits, keeps_fits, holds_fits, case_leads, bounds_lead, next_leads}

-- cells whose values are integers take integers
integer_taken : (k : Kind) → Some (sort_of k) ≡ Some I → takes k I ≡ true
integer_taken kind.Single is = refl
integer_taken kind.Double is = refl
integer_taken (kind.Bits n) is = absurd (cc)
integer_taken (kind.Text n) is = absurd (cc)

module _ (code : Code) (g : Ground) (part : Option ℕ) (site : Site) (u : Uses) (serves : Serves code (standing part g) site.set site.places u) where
  pub integer_fits : (tree : Expression) (from to : ℕ) (stack : Sorts) → sort_of_expression u site tree ≡ Some I → ExpressionAt code site tree from to → Fits code.image (standing part g) from stack to (I ∷ stack)
  integer_fits tree from to stack sorted at = expression_fits code (standing part g) site u serves tree I from to stack sorted at

  -- a condition
  pub tested_leads : (Asked : Type 0) (condition : Expression) (from target to : ℕ) → sort_of_expression u site condition ≡ Some B → ConditionAt code site condition from target to
      → (Asked → IsAhead code.image g part to target) → Leads code.image g Asked part from [] to []
  tested_leads Asked condition from target to sorted at ahead =
      condition_leads code.image g part Asked from at.0 target to (expression_fits code (standing part g) site u serves condition B from at.0 [] sorted at.1) at.2.0 at.2.1 ahead

  -- the first test of a loop
  pub first_test_leads : (Asked : Type 0) (guard : Guard) (from exit to : ℕ) → GuardFits u site guard → FirstTestAt code site guard from exit to → (Asked → IsAhead code.image g part to exit)
      → Leads code.image g Asked part from [] to []
  first_test_leads Asked (While place condition) from exit to fits at ahead = tested_leads Asked condition from exit to fits at ahead
  first_test_leads Asked (Until place condition) from exit to fits at ahead = nothing_leads code.image g Asked part from to [] at

  -- each later one: control goes back to the TURN, or on
  pub test_there : (Asked : Type 0) (guard : Guard) (from turn to : ℕ) → GuardFits u site guard → TestAt code site guard from turn to → slice_get code.image.code turn ≡ Some (instr.Turn to)
      → (Asked → Comes code.image g turn [] part) → (Asked → Comes code.image g to [] part) → Leads code.image g Asked part from [] to []
  test_there Asked (While place condition) from turn to fits at has turned ended =
      both_lead code.image g Asked part
      (fits_lead code.image g Asked part from at.0 [] (B ∷ []) (expression_fits code (standing part g) site u serves condition B from at.0 [] fits at.1))
      (both_lead code.image g Asked part
      (test_leads code.image g Asked part at.0 to at.2 (λ asked. record { ahead = let last = at.3.1 in omega (arith, last); comes = ended asked }))
      (lead_to code.image g part Asked (suc at.0) (suc (suc at.0)) to [] [] at.3.1
      (back_leads code.image g Asked part (suc at.0) turn at.3.0 (λ asked. turn_there code.image g part Asked (suc (suc at.0)) turn to has (let last = at.3.1 in omega (arith, last)) (turned asked)))))
  test_there Asked (Until place condition) from turn to fits at has turned ended =
      both_lead code.image g Asked part
      (fits_lead code.image g Asked part from at.0 [] (B ∷ []) (expression_fits code (standing part g) site u serves condition B from at.0 [] fits at.1))
      (lead_to code.image g part Asked at.0 (suc at.0) to (B ∷ []) [] at.2.1
      (test_back_leads code.image g Asked part at.0 turn at.2.0 (λ asked. turn_there code.image g part Asked (suc at.0) turn to has (let last = at.2.1 in omega (arith, last)) (turned asked))))

  -- DO WHILE and DO UNTIL
  pub loop_leads : (Asked Within : Type 0) (guard : Guard) (from turn again to : ℕ) → GuardFits u site guard → FirstTestAt code site guard from to turn → Has code turn (instr.Turn to)
      → (Round code.image g part Asked turn again to → Within) → Leads code.image g Within part (suc turn) [] again [] → TestAt code site guard again turn to → Leads code.image g Asked part from [] to []
  loop_leads Asked Within guard from turn again to fits early has gives body late =
      round_leads code.image g part Asked Within from turn again to
      (first_test_leads (Round code.image g part Asked turn again to) guard from to turn fits early
      (λ all. record { ahead = let inner = body.onward in let last = behind.onward in omega (arith, inner, last); comes = all.ended }))
      has gives body behind
    where
      behind : Leads code.image g (Round code.image g part Asked turn again to) part again [] to []
      behind = test_there (Round code.image g part Asked turn again to) guard again turn to fits late has (λ all. all.turned) (λ all. all.ended)

  -- the variable of a DO FOR gets an integer, and gives one
  kept_there : (m : Meant) (from to : ℕ) (stack : Sorts) → sort_of_meant u site [] m ≡ Some I → KeptAt code [] [] m from to → Fits code.image (standing part g) from (I ∷ stack) to stack
  kept_there (MeantData spot shape) from to stack sorted at =
      both_fit code.image (standing part g) (address_fits code (standing part g) serves.own (kind_of_first (chosen [] shape.components)) _ from (I ∷ stack) at.0)
      (store_fits code (standing part g) (kind_of_first (chosen [] shape.components)) I (suc from) to stack (integer_taken (kind_of_first (chosen [] shape.components)) sorted) at.1)
  kept_there (MeantConstant v) from to stack sorted at = absurd (at)
  kept_there (MeantEvent e) from to stack sorted at = absurd (at)
  kept_there (MeantBlock unit) from to stack sorted at = absurd (at)
  kept_there (MeantBuiltin b) from to stack sorted at = absurd (at)
  kept_there MeantNothing from to stack sorted at = absurd (at)

  fetched_there : (m : Meant) (from to : ℕ) (stack : Sorts) → sort_of_meant u site [] m ≡ Some I → FetchedAt code [] m from to → Fits code.image (standing part g) from stack to (I ∷ stack)
  fetched_there (MeantData spot shape) from to stack sorted at = meant_fits code (standing part g) site u serves [] (MeantData spot shape) I from to stack sorted at
  fetched_there (MeantConstant v) from to stack sorted at = absurd (at)
  fetched_there (MeantEvent e) from to stack sorted at = absurd (at)
  fetched_there (MeantBlock unit) from to stack sorted at = absurd (at)
  fetched_there (MeantBuiltin b) from to stack sorted at = absurd (at)
  fetched_there MeantNothing from to stack sorted at = absurd (at)

  pub variable_fits : (name : List ℕ) (from to : ℕ) (stack : Sorts) → sort_of_name u site name [] ≡ Some I → VariableAt code site name from to → Fits code.image (standing part g) from (I ∷ stack) to stack
  variable_fits name from to stack sorted at = kept_there (name_meant (here_at site) name []) from to stack sorted (at [])

  pub variable_value_fits : (name : List ℕ) (from to : ℕ) (stack : Sorts) → sort_of_name u site name [] ≡ Some I → VariableValueAt code site name from to → Fits code.image (standing part g) from stack to (I ∷ stack)
  variable_value_fits name from to stack sorted at = fetched_there (name_meant (here_at site) name []) from to stack sorted (at [])

  -- the test of a DO FOR before its first turn, and those before later ones
  first_span_leads : (Asked : Type 0) (guard : Option Guard) (from exit to : ℕ) → GuardsFit u site guard → FirstSpanAt code site guard from exit to → (Asked → IsAhead code.image g part to exit)
      → Leads code.image g Asked part from [] to []
  first_span_leads Asked None from exit to fits at ahead = nothing_leads code.image g Asked part from to [] at
  first_span_leads Asked (Some guard) from exit to fits at ahead = first_test_leads Asked guard from exit to fits at ahead

  later_span_leads : (Asked : Type 0) (guard : Option Guard) (from turn to : ℕ) → GuardsFit u site guard → LaterSpanAt code site guard from turn to → slice_get code.image.code turn ≡ Some (instr.Turn to)
      → (Asked → Comes code.image g turn [] part) → (Asked → Comes code.image g to [] part) → Leads code.image g Asked part from [] to []
  later_span_leads Asked None from turn to fits at has turned ended =
      lead_to code.image g part Asked from (suc from) to [] [] at.1
      (back_leads code.image g Asked part from turn at.0 (λ asked. turn_there code.image g part Asked (suc from) turn to has (let last = at.1 in omega (arith, last)) (turned asked)))
  later_span_leads Asked (Some guard) from turn to fits at has turned ended = test_there Asked guard from turn to fits at has turned ended

  pub step_fits : (step : Option Expression) (from to : ℕ) (stack : Sorts) → StepFits u site step → StepAt code site step from to → Fits code.image (standing part g) from stack to (I ∷ stack)
  step_fits None from to stack fits at = fits_to code.image (standing part g) at.1 (number_fits code (standing part g) 1 from stack at.0)
  step_fits (Some tree) from to stack fits at = integer_fits tree from to stack fits at

  -- what stands before the first turn of a DO FOR with TO: its bounds are kept, and its variable gets the first value
  pub bounded_fits : (name : List ℕ) (place : ℕ) (first last : Expression) (step : Option Expression) (from exit to : ℕ) → sort_of_name u site name [] ≡ Some I → sort_of_expression u site first ≡ Some I
      → sort_of_expression u site last ≡ Some I → StepFits u site step → (at : BegunAt code site name place first last step from exit to) → Fits code.image (standing part g) from [] at.7 []
  bounded_fits name place first last step from exit to variable begins ends steps at =
      both_fit code.image (standing part g) (integer_fits first from at.0 [] begins at.8)
      (both_fit code.image (standing part g) (integer_fits last at.0 at.1 (I ∷ []) ends at.9)
      (both_fit code.image (standing part g) (step_fits step at.1 at.2 (I ∷ I ∷ []) steps at.10)
      (both_fit code.image (standing part g) (keeps_fits code (standing part g) serves.own (suc place) at.2 at.3 (I ∷ I ∷ []) at.11)
      (both_fit code.image (standing part g) (keeps_fits code (standing part g) serves.own place at.3 at.4 (I ∷ []) at.12)
      (both_fit code.image (standing part g) (keeps_fits code (standing part g) serves.own (suc (suc place)) at.4 at.5 [] at.13)
      (both_fit code.image (standing part g) (holds_fits code (standing part g) serves.own (suc (suc place)) at.5 at.6 [] at.14) (variable_fits name at.6 at.7 [] variable at.15)))))))

  begun_leads : (Asked : Type 0) (name : List ℕ) (place : ℕ) (first last : Expression) (step : Option Expression) (from exit to : ℕ) → sort_of_name u site name [] ≡ Some I → sort_of_expression u site first ≡ Some I
      → sort_of_expression u site last ≡ Some I → StepFits u site step → BegunAt code site name place first last step from exit to → (Asked → IsAhead code.image g part to exit)
      → Leads code.image g Asked part from [] to []
  begun_leads Asked name place first last step from exit to variable begins ends steps at ahead =
      both_lead code.image g Asked part
      (fits_lead code.image g Asked part from at.7 [] [] (bounded_fits name place first last step from exit to variable begins ends steps at))
      (bounds_lead code g part serves.own Asked place at.7 exit to at.16 ahead)

  -- what stands behind its turn
  stepping_leads : (Asked : Type 0) (name : List ℕ) (place : ℕ) (guard : Option Guard) (from turn to : ℕ) → sort_of_name u site name [] ≡ Some I → GuardsFit u site guard
      → SteppingAt code site name place guard from turn to → slice_get code.image.code turn ≡ Some (instr.Turn to) → (Asked → Comes code.image g turn [] part) → (Asked → Comes code.image g to [] part)
      → Leads code.image g Asked part from [] to []
  stepping_leads Asked name place guard from turn to variable fits at has turned ended =
      both_lead code.image g Asked part (fits_lead code.image g Asked part from at.0 [] (I ∷ []) (variable_value_fits name from at.0 [] variable at.4))
      (both_lead code.image g Asked part
      (next_leads code g part serves.own Asked place at.0 to at.1 at.5
      (λ asked. record { ahead = let kept = stores.onward in let last = later.onward in omega (arith, kept, last); comes = ended asked }))
      (both_lead code.image g Asked part stores later))
    where
      stores : Leads code.image g Asked part at.1 [] at.3 []
      stores =
          fits_lead code.image g Asked part at.1 at.3 [] []
          (both_fit code.image (standing part g) (holds_fits code (standing part g) serves.own (suc (suc place)) at.1 at.2 [] at.6) (variable_fits name at.2 at.3 [] variable at.7))

      later : Leads code.image g Asked part at.3 [] to []
      later = later_span_leads Asked guard at.3 turn to fits at.8 has turned ended

  -- DO FOR with TO
  counting_leads : (Asked Within : Type 0) (name : List ℕ) (place : ℕ) (guard : Option Guard) (first last : Expression) (step : Option Expression) (from test turn again to : ℕ)
      → ForFits u site name (Stepped first last step) guard → BegunAt code site name place first last step from to test → FirstSpanAt code site guard test to turn → Has code turn (instr.Turn to)
      → (Round code.image g part Asked turn again to → Within) → Leads code.image g Within part (suc turn) [] again [] → SteppingAt code site name place guard again turn to
      → Leads code.image g Asked part from [] to []
  counting_leads Asked Within name place guard first last step from test turn again to fits begun early has gives body late =
      round_leads code.image g part Asked Within from turn again to
      (both_lead code.image g (Round code.image g part Asked turn again to) part
      (begun_leads (Round code.image g part Asked turn again to) name place first last step from to test fits.variable fits.spanned.0 fits.spanned.1 fits.spanned.2 begun
      (λ all. record { ahead = let guarded = tests.onward in let onward = far in omega (arith, guarded, onward); comes = all.ended }))
      tests)
      has gives body behind
    where
      behind : Leads code.image g (Round code.image g part Asked turn again to) part again [] to []
      behind = stepping_leads (Round code.image g part Asked turn again to) name place guard again turn to fits.variable fits.guarded late has (λ all. all.turned) (λ all. all.ended)

      far : turn ≤ to
      far = let inner = body.onward in let last_part = behind.onward in omega (arith, inner, last_part)

      tests : Leads code.image g (Round code.image g part Asked turn again to) part test [] turn []
      tests = first_span_leads (Round code.image g part Asked turn again to) guard test to turn fits.guarded early (λ all. record { ahead = far; comes = all.ended })

  -- a value of a list
  pub value_kept_fits : (name : List ℕ) (place k : ℕ) (tree : Expression) (from to : ℕ) → sort_of_name u site name [] ≡ Some I → sort_of_expression u site tree ≡ Some I → ValueKeptAt code site name place k tree from to
      → Fits code.image (standing part g) from [] to []
  value_kept_fits name place k tree from to variable sorted at =
      both_fit code.image (standing part g) (integer_fits tree from at.0 [] sorted at.2)
      (both_fit code.image (standing part g) (variable_fits name at.0 at.1 [] variable at.3)
      (both_fit code.image (standing part g) (number_fits code (standing part g) k at.1 [] at.4) (keeps_fits code (standing part g) serves.own place (suc at.1) to [] at.5)))

  -- those behind the first one: one of them is stored, and control goes to the test for it, which stands behind them, or to the end
  next_value_leads : (values : Expressions) (Asked : Type 0) (name : List ℕ) (place k from exit test to : ℕ) → sort_of_name u site name [] ≡ Some I → AreIntegers u site values
      → NextValueAt code site name place k values from exit test to → (Asked → IsAhead code.image g part to exit) → (Asked → IsAhead code.image g part to test) → Leads code.image g Asked part from [] to []
  next_value_leads NoExpressions Asked name place k from exit test to variable fits at ends tests =
      lead_to code.image g part Asked from (suc from) to [] [] at.1
      (jump_leads code.image g Asked part from exit at.0 (λ asked. from_before code.image g part (suc from) to exit (let last = at.1 in omega (arith, last)) (ends asked)))
  next_value_leads (MoreExpressions tree others) Asked name place k from exit test to variable fits at ends tests =
      selected_leads code.image g part Asked from at.0 at.1 to test
      (case_leads code g part serves.own (And code.image g part Asked (suc at.1)) place k from (suc at.1) at.0 at.2 (λ both. record { ahead = let onward = keeps.onward in omega (arith, onward); comes = both.1 }))
      keeps at.4 tests (next_value_leads others Asked name place (suc k) (suc at.1) exit test to variable fits.1 at.5 ends tests)
    where
      keeps : Leads code.image g Asked part at.0 [] at.1 []
      keeps = fits_lead code.image g Asked part at.0 at.1 [] [] (value_kept_fits name place (suc k) tree at.0 at.1 variable fits.0 at.3)

  -- what stands behind a turn of a DO FOR with a list
  listing_leads : (Asked : Type 0) (name : List ℕ) (place : ℕ) (values : Expressions) (guard : Option Guard) (from turn to : ℕ) → sort_of_name u site name [] ≡ Some I → AreIntegers u site values
      → GuardsFit u site guard → ListingAt code site name place values guard from turn to → slice_get code.image.code turn ≡ Some (instr.Turn to) → (Asked → Comes code.image g turn [] part)
      → (Asked → Comes code.image g to [] part) → Leads code.image g Asked part from [] to []
  listing_leads Asked name place values guard from turn to variable integers fits at has turned ended =
      way_leads code.image g part Asked (And code.image g part Asked at.0) (And code.image g part Asked at.0) from at.0 to [] [] [] (λ asked comes. (asked, comes)) later.onward stores
      (both_lead code.image g (And code.image g part Asked at.0) part stores
      (less_leads code.image g part (And code.image g part Asked at.0) Asked at.0 to [] [] (λ both. both.0) later))
    where
      later : Leads code.image g Asked part at.0 [] to []
      later = later_span_leads Asked guard at.0 turn to fits at.2 has turned ended

      stores : Leads code.image g (And code.image g part Asked at.0) part from [] at.0 []
      stores =
          next_value_leads values (And code.image g part Asked at.0) name place 1 from to at.0 at.0 variable integers at.1
          (λ both. record { ahead = later.onward; comes = ended both.0 }) (λ both. record { ahead = omega arith; comes = both.1 })

  -- DO FOR with a list
  listed_leads : (Asked Within : Type 0) (name : List ℕ) (place : ℕ) (guard : Option Guard) (first : Expression) (others : Expressions) (from test turn again to : ℕ)
      → ForFits u site name (Listed (MoreExpressions first others)) guard → ValueKeptAt code site name place 1 first from test → FirstSpanAt code site guard test to turn → Has code turn (instr.Turn to)
      → (Round code.image g part Asked turn again to → Within) → Leads code.image g Within part (suc turn) [] again [] → ListingAt code site name place others guard again turn to
      → Leads code.image g Asked part from [] to []
  listed_leads Asked Within name place guard first others from test turn again to fits begun early has gives body late =
      round_leads code.image g part Asked Within from turn again to
      (both_lead code.image g (Round code.image g part Asked turn again to) part
      (fits_lead code.image g (Round code.image g part Asked turn again to) part from test [] [] (value_kept_fits name place 1 first from test fits.variable fits.spanned.0 begun)) tests)
      has gives body behind
    where
      behind : Leads code.image g (Round code.image g part Asked turn again to) part again [] to []
      behind = listing_leads (Round code.image g part Asked turn again to) name place others guard again turn to fits.variable fits.spanned.1 fits.guarded late has (λ all. all.turned) (λ all. all.ended)

      tests : Leads code.image g (Round code.image g part Asked turn again to) part test [] turn []
      tests =
          first_span_leads (Round code.image g part Asked turn again to) guard test to turn fits.guarded early
          (λ all. record { ahead = let inner = body.onward in let last = behind.onward in omega (arith, inner, last); comes = all.ended })

  -- DO FOR, of whose statements the code is given
  pub spanned_leads : (span : Span) (P : ℕ → ℕ → Type 0) (Asked Within : Type 0) (name : List ℕ) (place : ℕ) (guard : Option Guard) (from again to : ℕ) → ForFits u site name span guard
      → SpannedAt code site name place guard P span from again to → ((turn : ℕ) → Round code.image g part Asked turn again to → Within)
      → ((begin : ℕ) → P begin again → Leads code.image g Within part begin [] again []) → Leads code.image g Asked part from [] to []
  spanned_leads (Stepped first last step) P Asked Within name place guard from again to fits at gives body =
      counting_leads Asked Within name place guard first last step from at.0 at.1 again to fits at.2 at.3 at.4 (gives at.1) (body (suc at.1) at.5) at.6
  spanned_leads (Listed NoExpressions) P Asked Within name place guard from again to fits at gives body = nothing_leads code.image g Asked part from to [] at
  spanned_leads (Listed (MoreExpressions first others)) P Asked Within name place guard from again to fits at gives body =
      listed_leads Asked Within name place guard first others from at.0 at.1 again to fits at.2 at.3 at.4 (gives at.1) (body (suc at.1) at.5) at.6
