-- The code of loops that fit inside of an UPDATE block asks nothing.
use Rattle.std.specs.Prelude.{◌≡◌, ℕ, suc, List, [], ◌∷◌, Option, Some, None}
use Rattle.std.proofs.Common.{refl}
use Rattle.hal_grammar.specs.Expressions.{Expression, Expressions, NoExpressions, MoreExpressions}
use Rattle.hal_grammar.specs.Statements.{Guard, While, Until, Span, Stepped, Listed}
use Rattle.hal_operations.specs.declared.operation.Op2.TheVariants as op2
use Rattle.hal_code.specs.declared.instr.Instr.TheVariants as instr
use Rattle.hal_code.specs.Effects.{Sorts}
use Rattle.hal_code.specs.Sorts.{I, B}
use Rattle.hal_agreement.specs.Codes.{Code}
use Rattle.hal_agreement.specs.Sites.{Site}
use Rattle.hal_agreement.specs.PlacedExpressions.{Has}
use Rattle.hal_agreement.specs.PlacedGroups.{CaseAt, NegativeAt, LessAt, BoundsAt, NextAt}
use Rattle.hal_agreement.specs.PlacedStatements.{ConditionAt, FirstTestAt, TestAt, FirstSpanAt, LaterSpanAt, BegunAt, SteppingAt, NextValueAt, ListingAt, SpannedAt}
use Rattle.hal_fitting.specs.Fitting.{Ground, Fits}
use Rattle.hal_fitting.specs.Leading.{standing}
use Rattle.hal_fitting.proofs.Joining.{both_fit}
use Rattle.hal_fit_expr.specs.Uses.{Uses}
use Rattle.hal_fit_expr.specs.Sorted.{sort_of_name, sort_of_expression}
use Rattle.hal_fit_expr.specs.Serving.{Serves}
use Rattle.hal_fit_expr.proofs.Expressed.{expression_fits}
use Rattle.hal_fit.specs.Quiet.{IsQuiet}
use Rattle.hal_fit.specs.Spanned.{GuardFits, GuardsFit, AreIntegers, ForFits}
use Rattle.hal_fit.proofs.Keeping.{holds_fits, compared_fits, less_fits, counted_fits}
use Rattle.hal_fit.proofs.Looping.{variable_fits, variable_value_fits, bounded_fits, value_kept_fits}
use Rattle.hal_fit.proofs.Quiet.{nothing_quiet, one_quiet, both_quiet, fits_quiet}

module _ (code : Code) (g : Ground) (site : Site) (u : Uses) (serves : Serves code (standing (Some 0) g) site.set site.places u) where
  fitting : {from to : ℕ} {stack after : Sorts} → Fits code.image (standing (Some 0) g) from stack to after → IsQuiet code.image g.out from to
  fitting fits = fits_quiet code.image (standing (Some 0) g) refl fits

  -- comparisons of what own places hold
  pub case_quiet : (place number from target to : ℕ) → CaseAt code place number from target to → IsQuiet code.image g.out from to
  case_quiet place number from target to at =
      both_quiet code.image g.out (fitting (compared_fits code (standing (Some 0) g) serves.own op2.Equal place number from at.0 refl at.1 at.2 at.3))
      (one_quiet code.image g.out (instr.JumpNot target) at.4.0 refl at.4.1)

  negative_quiet : (place from target to : ℕ) → NegativeAt code place from target to → IsQuiet code.image g.out from to
  negative_quiet place from target to at =
      both_quiet code.image g.out (fitting (compared_fits code (standing (Some 0) g) serves.own op2.Less place 0 from at.0 refl at.1 at.2 at.3))
      (one_quiet code.image g.out (instr.JumpNot target) at.4.0 refl at.4.1)

  less_quiet : (one other from target to : ℕ) → LessAt code one other from target to → IsQuiet code.image g.out from to
  less_quiet one other from target to at =
      both_quiet code.image g.out (fitting (less_fits code (standing (Some 0) g) serves.own one other from at.0 at.1 at.2 at.3 at.4))
      (one_quiet code.image g.out (instr.JumpNot target) at.5.0 refl at.5.1)

  bounds_quiet : (place from exit to : ℕ) → BoundsAt code place from exit to → IsQuiet code.image g.out from to
  bounds_quiet place from exit to at =
      both_quiet code.image g.out (negative_quiet (suc place) from (suc at.1) at.0 at.3)
      (both_quiet code.image g.out (less_quiet (suc (suc place)) place at.0 to at.1 at.4)
      (both_quiet code.image g.out (one_quiet code.image g.out (instr.Jump exit) at.5 refl refl)
      (both_quiet code.image g.out (less_quiet place (suc (suc place)) (suc at.1) to at.2 at.6) (one_quiet code.image g.out (instr.Jump exit) at.7.0 refl at.7.1))))

  next_quiet : (place from exit to : ℕ) → NextAt code place from exit to → IsQuiet code.image g.out from to
  next_quiet place from exit to at =
      both_quiet code.image g.out (fitting (counted_fits code (standing (Some 0) g) serves.own place from at.0 at.1 at.2 at.3 at.4 at.5 at.6 at.7 at.8 at.9))
      (case_quiet (suc (suc (suc place))) 1 at.3 exit to at.10)

  -- conditions
  pub condition_quiet : (condition : Expression) (from target to : ℕ) → sort_of_expression u site condition ≡ Some B → ConditionAt code site condition from target to → IsQuiet code.image g.out from to
  condition_quiet condition from target to sorted at =
      both_quiet code.image g.out (fitting (expression_fits code (standing (Some 0) g) site u serves condition B from at.0 [] sorted at.1))
      (one_quiet code.image g.out (instr.JumpNot target) at.2.0 refl at.2.1)

  pub first_test_quiet : (guard : Guard) (from exit to : ℕ) → GuardFits u site guard → FirstTestAt code site guard from exit to → IsQuiet code.image g.out from to
  first_test_quiet (While place condition) from exit to fits at = condition_quiet condition from exit to fits at
  first_test_quiet (Until place condition) from exit to fits at = nothing_quiet code.image g.out at

  pub test_quiet : (guard : Guard) (from turn to : ℕ) → GuardFits u site guard → TestAt code site guard from turn to → IsQuiet code.image g.out from to
  test_quiet (While place condition) from turn to fits at =
      both_quiet code.image g.out (fitting (expression_fits code (standing (Some 0) g) site u serves condition B from at.0 [] fits at.1))
      (both_quiet code.image g.out (one_quiet code.image g.out (instr.JumpNot to) at.2 refl refl) (one_quiet code.image g.out (instr.Jump turn) at.3.0 refl at.3.1))
  test_quiet (Until place condition) from turn to fits at = condition_quiet condition from turn to fits at

  first_span_quiet : (guard : Option Guard) (from exit to : ℕ) → GuardsFit u site guard → FirstSpanAt code site guard from exit to → IsQuiet code.image g.out from to
  first_span_quiet None from exit to fits at = nothing_quiet code.image g.out at
  first_span_quiet (Some guard) from exit to fits at = first_test_quiet guard from exit to fits at

  later_span_quiet : (guard : Option Guard) (from turn to : ℕ) → GuardsFit u site guard → LaterSpanAt code site guard from turn to → IsQuiet code.image g.out from to
  later_span_quiet None from turn to fits at = one_quiet code.image g.out (instr.Jump turn) at.0 refl at.1
  later_span_quiet (Some guard) from turn to fits at = test_quiet guard from turn to fits at

  -- DO FOR with TO
  stepping_quiet : (name : List ℕ) (place : ℕ) (guard : Option Guard) (from turn to : ℕ) → sort_of_name u site name [] ≡ Some I → GuardsFit u site guard → SteppingAt code site name place guard from turn to
      → IsQuiet code.image g.out from to
  stepping_quiet name place guard from turn to variable fits at =
      both_quiet code.image g.out (fitting (variable_value_fits code g (Some 0) site u serves name from at.0 [] variable at.4))
      (both_quiet code.image g.out (next_quiet place at.0 to at.1 at.5)
      (both_quiet code.image g.out
      (fitting (both_fit code.image (standing (Some 0) g) (holds_fits code (standing (Some 0) g) serves.own (suc (suc place)) at.1 at.2 [] at.6) (variable_fits code g (Some 0) site u serves name at.2 at.3 [] variable at.7)))
      (later_span_quiet guard at.3 turn to fits at.8)))

  -- values of a list
  next_value_quiet : (values : Expressions) (name : List ℕ) (place k from exit test to : ℕ) → sort_of_name u site name [] ≡ Some I → AreIntegers u site values → NextValueAt code site name place k values from exit test to
      → IsQuiet code.image g.out from to
  next_value_quiet NoExpressions name place k from exit test to variable fits at = one_quiet code.image g.out (instr.Jump exit) at.0 refl at.1
  next_value_quiet (MoreExpressions tree others) name place k from exit test to variable fits at =
      both_quiet code.image g.out (case_quiet place k from (suc at.1) at.0 at.2)
      (both_quiet code.image g.out (fitting (value_kept_fits code g (Some 0) site u serves name place (suc k) tree at.0 at.1 variable fits.0 at.3))
      (both_quiet code.image g.out (one_quiet code.image g.out (instr.Jump test) at.4 refl refl) (next_value_quiet others name place (suc k) (suc at.1) exit test to variable fits.1 at.5)))

  listing_quiet : (name : List ℕ) (place : ℕ) (values : Expressions) (guard : Option Guard) (from turn to : ℕ) → sort_of_name u site name [] ≡ Some I → AreIntegers u site values → GuardsFit u site guard
      → ListingAt code site name place values guard from turn to → IsQuiet code.image g.out from to
  listing_quiet name place values guard from turn to variable fits guarded at =
      both_quiet code.image g.out (next_value_quiet values name place 1 from to at.0 at.0 variable fits at.1) (later_span_quiet guard at.0 turn to guarded at.2)

  -- DO FOR, of whose statements the code is given
  pub spanned_quiet : (span : Span) (P : ℕ → ℕ → Type 0) (name : List ℕ) (place : ℕ) (guard : Option Guard) (from again to : ℕ) → ForFits u site name span guard → SpannedAt code site name place guard P span from again to
      → ((begin : ℕ) → P begin again → IsQuiet code.image g.out begin again) → IsQuiet code.image g.out from to
  spanned_quiet (Stepped first last step) P name place guard from again to fits at body =
      both_quiet code.image g.out (fitting (bounded_fits code g (Some 0) site u serves name place first last step from to at.0 fits.variable fits.spanned.0 fits.spanned.1 fits.spanned.2 at.2))
      (both_quiet code.image g.out (bounds_quiet place at.2.7 to at.0 at.2.16)
      (both_quiet code.image g.out (first_span_quiet guard at.0 to at.1 fits.guarded at.3)
      (both_quiet code.image g.out (one_quiet code.image g.out (instr.Turn to) at.4 refl refl)
      (both_quiet code.image g.out (body (suc at.1) at.5) (stepping_quiet name place guard again at.1 to fits.variable fits.guarded at.6)))))
  spanned_quiet (Listed NoExpressions) P name place guard from again to fits at body = nothing_quiet code.image g.out at
  spanned_quiet (Listed (MoreExpressions first others)) P name place guard from again to fits at body =
      both_quiet code.image g.out (fitting (value_kept_fits code g (Some 0) site u serves name place 1 first from at.0 fits.variable fits.spanned.0 at.2))
      (both_quiet code.image g.out (first_span_quiet guard at.0 to at.1 fits.guarded at.3)
      (both_quiet code.image g.out (one_quiet code.image g.out (instr.Turn to) at.4 refl refl)
      (both_quiet code.image g.out (body (suc at.1) at.5) (listing_quiet name place others guard again at.1 to fits.variable fits.spanned.1 fits.guarded at.6))))
