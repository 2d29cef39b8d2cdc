-- Whether loops fit: conditions are bits, and what a DO FOR counts are integers.
use Rattle.std.specs.Prelude.{◌≡◌, ℕ, List, [], Option, Some, None}
use Rattle.hal_grammar.specs.Expressions.{Expression, Expressions, NoExpressions, MoreExpressions}
use Rattle.hal_grammar.specs.Statements.{Guard, While, Until, Span, Stepped, Listed}
use Rattle.hal_code.specs.Sorts.{I, B}
use Rattle.hal_agreement.specs.Sites.{Site}
use Rattle.hal_fit_expr.specs.Uses.{Uses}
use Rattle.hal_fit_expr.specs.Sorted.{sort_of_name, sort_of_expression}

abbrev pub GuardFits : Uses → Site → Guard → Type 0
GuardFits u site (While place condition) = sort_of_expression u site condition ≡ Some B
GuardFits u site (Until place condition) = sort_of_expression u site condition ≡ Some B

-- one of a DO FOR, where it has one
abbrev pub GuardsFit : Uses → Site → Option Guard → Type 0
GuardsFit u site None = Unit {0}
GuardsFit u site (Some guard) = GuardFits u site guard

abbrev pub StepFits : Uses → Site → Option Expression → Type 0
StepFits u site None = Unit {0}
StepFits u site (Some tree) = sort_of_expression u site tree ≡ Some I

abbrev pub AreIntegers : Uses → Site → Expressions → Type 0
AreIntegers u site NoExpressions = Unit {0}
AreIntegers u site (MoreExpressions first others) = (sort_of_expression u site first ≡ Some I) × AreIntegers u site others

abbrev pub SpanFits : Uses → Site → Span → Type 0
SpanFits u site (Stepped first last step) = (sort_of_expression u site first ≡ Some I) × (sort_of_expression u site last ≡ Some I) × StepFits u site step
SpanFits u site (Listed values) = AreIntegers u site values

-- DO FOR, whose variable has this name
pub record ForFits (u : Uses) (site : Site) (name : List ℕ) (span : Span) (guard : Option Guard) : Type 0 where
  pub variable : sort_of_name u site name [] ≡ Some I
  pub spanned : SpanFits u site span
  pub guarded : GuardsFit u site guard
