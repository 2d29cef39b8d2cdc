-- Whether the operands of SCHEDULE and WAIT fit.
use Rattle.std.specs.Prelude.{◌≡◌, Bool, true, false, Option, Some, None}
use Rattle.hal_grammar.specs.Expressions.{Expression, Decimal}
use Rattle.hal_grammar.specs.Statements.{Guard, While, Until, Start, StartAt, StartIn, StartOn, Cycle, Cyclic, CyclicEvery, CyclicAfter, Schedule}
use Rattle.hal_scope.specs.Uses.{holds_event}
use Rattle.hal_code.specs.declared.operand.Time.TheVariants as time
use Rattle.hal_code.specs.Operands.{is_time}
use Rattle.hal_code.specs.Sorts.{I}
use Rattle.hal_agreement.specs.Sites.{Site}
use Rattle.hal_fit_expr.specs.Uses.{Uses}
use Rattle.hal_fit_expr.specs.Sorted.{sort_of_expression}

-- a time: one that is written as a decimal has milliseconds within the limit, all others are integers
abbrev pub TimeFits : Uses → Site → Expression → Type 0
TimeFits u site (Decimal place number) = is_time (time.Milliseconds number) ≡ true
TimeFits u site tree = sort_of_expression u site tree ≡ Some I

abbrev pub StartFits : Uses → Site → Option Start → Type 0
StartFits u site None = Unit {0}
StartFits u site (Some (StartAt place tree)) = TimeFits u site tree
StartFits u site (Some (StartIn place tree)) = TimeFits u site tree
StartFits u site (Some (StartOn place tree)) = Unit {0}

abbrev pub PriorityFits : Uses → Site → Option Expression → Type 0
PriorityFits u site None = Unit {0}
PriorityFits u site (Some tree) = sort_of_expression u site tree ≡ Some I

abbrev pub CycleFits : Uses → Site → Option Cycle → Type 0
CycleFits u site None = Unit {0}
CycleFits u site (Some (Cyclic place)) = Unit {0}
CycleFits u site (Some (CyclicEvery place tree)) = TimeFits u site tree
CycleFits u site (Some (CyclicAfter place tree)) = TimeFits u site tree

-- what ends cycles: an event expression, or a time
abbrev pub EndFits : Uses → Site → Bool → Expression → Type 0
EndFits u site true tree = Unit {0}
EndFits u site false tree = TimeFits u site tree

abbrev pub LimitFits : Uses → Site → Option Guard → Type 0
LimitFits u site None = Unit {0}
LimitFits u site (Some (While place tree)) = Unit {0}
LimitFits u site (Some (Until place tree)) = EndFits u site (holds_event site.set.phrases site.block tree) tree

-- SCHEDULE
pub record ScheduleFits (u : Uses) (site : Site) (s : Schedule) : Type 0 where
  pub first : StartFits u site s.start
  pub second : PriorityFits u site s.priority
  pub third : CycleFits u site s.cycle
  pub fourth : LimitFits u site s.guard
