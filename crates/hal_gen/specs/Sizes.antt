-- How many instructions statements have: so targets are known before the code that stands in between.
use Rattle.std.specs.Prelude.{ℕ, suc, ◌+◌, false, List, [], ◌∷◌, length, Option, Some, None}
use Rattle.hal_base.specs.declared.refusal.Place.{Place}
use Rattle.hal_grammar.specs.Leaves.{Naming}
use Rattle.hal_grammar.specs.Expressions.{Expression, Expressions, NoExpressions, MoreExpressions, Reference}
use Rattle.hal_grammar.specs.Statements.{Guard, While, Until, Span, Stepped, Listed, Statement, Labelled, Basic, Assignment, If, Do, DoCase, DoLoop, DoFor, Exit, Repeat, Return, Call, Read, Write, Scheduled, UpdatePriority, Cancel, Terminate, Wait, WaitUntil, WaitForDependent, WaitFor, Event, Update, OnErrorStatement, OnErrorResponse, OffError, SendError, Alternative, NoAlternative, Otherwise, Group, Groups, Statements, NoStatements, MoreStatements}
use Rattle.hal_meaning.specs.Marks.{after_statement, after_alternative}
use Rattle.hal_meaning.specs.Sets.{body_at}
use Rattle.hal_agreement.specs.Sites.{Site, group_site}
use Rattle.hal_gen_expr.specs.Emitting.{length_of}
use Rattle.hal_gen_expr.specs.Calling.{called_code}
use Rattle.hal_gen_expr.specs.ExpressionCode.{expression_code}
use Rattle.hal_gen_expr.specs.Numbering.{Numbering}
use Rattle.hal_storage.specs.referents.Referents.{Referent, BlockOf}
use Rattle.hal_gen_expr.specs.Referents.{referent}
use Rattle.hal_gen.specs.Leaves.{as_result}
use Rattle.hal_gen.specs.Receiving.{receiver_size}
use Rattle.hal_gen.specs.Timing.{time_size, schedule_size}

abbrev pub expression_size : Numbering → Site → Expression → ℕ
expression_size n site tree = length_of (expression_code n site [] tree)

-- each item of WRITE is added to the line
abbrev pub items_size : Numbering → Site → Expressions → ℕ
items_size n site NoExpressions = 0
items_size n site (MoreExpressions first others) = (expression_size n site first + 1) + items_size n site others

-- receivers, and a copy before all but the last one
abbrev pub receivers_size : Numbering → Site → List Reference → ℕ
receivers_size n site [] = 0
receivers_size n site (one ∷ []) = receiver_size n site one
receivers_size n site (one ∷ next ∷ others) = (1 + receiver_size n site one) + receivers_size n site (next ∷ others)

-- receivers of READ, and INPUT before each
abbrev pub reads_size : Numbering → Site → List Reference → ℕ
reads_size n site [] = 0
reads_size n site (one ∷ others) = (1 + receiver_size n site one) + reads_size n site others

-- the first test of a loop, and the others
abbrev pub first_test_size : Numbering → Site → Guard → ℕ
first_test_size n site (While place condition) = expression_size n site condition + 1
first_test_size n site (Until place condition) = 0

abbrev pub test_size : Numbering → Site → Guard → ℕ
test_size n site (While place condition) = expression_size n site condition + 2
test_size n site (Until place condition) = expression_size n site condition + 1

-- the test of a DO FOR before its first turn, and before the others
abbrev pub first_span_size : Numbering → Site → Option Guard → ℕ
first_span_size n site None = 0
first_span_size n site (Some g) = first_test_size n site g

abbrev pub later_span_size : Numbering → Site → Option Guard → ℕ
later_span_size n site None = 1
later_span_size n site (Some g) = test_size n site g

-- a value of its list, which is stored and counted
abbrev pub value_size : Numbering → Site → Expression → ℕ
value_size n site tree = expression_size n site tree + 5

-- the values behind the first one, each with a test before it and a jump behind it, and a jump behind them
abbrev pub next_values_size : Numbering → Site → Expressions → ℕ
next_values_size n site NoExpressions = 1
next_values_size n site (MoreExpressions tree others) = (5 + (value_size n site tree + 1)) + next_values_size n site others

abbrev pub step_size : Numbering → Site → Option Expression → ℕ
step_size n site None = 1
step_size n site (Some tree) = expression_size n site tree

-- what stands before its first test, and behind a turn
abbrev pub begin_size : Numbering → Site → Span → ℕ
begin_size n site (Stepped first last step) = expression_size n site first + (expression_size n site last + (step_size n site step + 29))
begin_size n site (Listed NoExpressions) = 0
begin_size n site (Listed (MoreExpressions first others)) = value_size n site first

abbrev pub again_size : Numbering → Site → Span → ℕ
again_size n site (Stepped first last step) = 21
again_size n site (Listed NoExpressions) = 0
again_size n site (Listed (MoreExpressions first others)) = next_values_size n site others

-- a DO FOR whose group has so many instructions
abbrev pub spanned_size : Numbering → Site → Span → Option Guard → ℕ → ℕ
spanned_size n site span g size = ((begin_size n site span + first_span_size n site g) + 1) + (size + (again_size n site span + later_span_size n site g))

-- a jump over what stands after ELSE
abbrev pub jump_size : Alternative → ℕ
jump_size NoAlternative = 0
jump_size (Otherwise one) = 1

abbrev pub names_size : List Naming → ℕ
names_size [] = 1
names_size (name ∷ names) = length (name ∷ names)

abbrev pub listed_size : Option (List Naming) → ℕ
listed_size None = 0
listed_size (Some names) = length names

-- RETURN, behind a value if it has one
abbrev pub return_size : Numbering → Site → Option Expression → ℕ
return_size n site None = 1
return_size n site (Some tree) = expression_size n site tree + (length (as_result (body_at site.set site.unit)) + 1)

-- CALL of what a name refers to
abbrev pub call_size : Numbering → Site → Expressions → List Reference → Place → Referent → ℕ
call_size n site arguments receivers place (BlockOf unit) = length_of (called_code n site [] place arguments receivers unit)
call_size n site arguments receivers place other = 0

-- statements before which the next mark has this number
abbrev mutual
  pub statement_size : Numbering → Site → ℕ → Statement → ℕ
  statement_size n site m (Labelled labels basic) = basic_size n site m basic

  pub basic_size : Numbering → Site → ℕ → Basic → ℕ
  basic_size n site m (Assignment place receivers tree) = expression_size n site tree + receivers_size n site receivers
  basic_size n site m (If place condition consequence alternative) =
      (expression_size n site condition + 1) + (statement_size n site m consequence + (jump_size alternative + alternative_size n site (after_statement m consequence) alternative))
  basic_size n site m (Do place group) = group_size n site (suc m) group
  basic_size n site m (DoCase place number alternative group) = (expression_size n site number + 2) + (cases_size n site (after_alternative (suc m) alternative) group + uncased_size n site (suc m) alternative)
  basic_size n site m (DoLoop place g group) = (first_test_size n site g + 1) + (group_size n site (suc m) group + test_size n site g)
  basic_size n site m (DoFor place temporary variable span g group) =
      spanned_size n (group_site site temporary m) span g (group_size n (group_site site temporary m) (suc m) group)
  basic_size n site m (Exit place label) = 1
  basic_size n site m (Repeat place label) = 1
  basic_size n site m (Return place value) = return_size n site value
  basic_size n site m (Call place name arguments receivers) = call_size n site arguments receivers place (referent site name.name)
  basic_size n site m (Read place channel receivers) = reads_size n site receivers
  basic_size n site m (Write place channel items) = items_size n site items + 1
  basic_size n site m (Cancel place names) = names_size names
  basic_size n site m (Terminate place names) = names_size names
  basic_size n site m (Scheduled place s) = schedule_size n site s
  basic_size n site m (UpdatePriority place name tree) = expression_size n site tree + 1
  basic_size n site m (Wait place tree) = time_size n site tree + 1
  basic_size n site m (WaitUntil place tree) = time_size n site tree + 1
  basic_size n site m (WaitForDependent place) = 1
  basic_size n site m (WaitFor place tree) = 1
  basic_size n site m (Event e) = 1
  basic_size n site m (Update place body close) = statements_size n site (suc m) body + 2
  basic_size n site m (OnErrorStatement place s handler) = 2 + statement_size n site (suc m) handler
  basic_size n site m (OnErrorResponse place s r e) = 1
  basic_size n site m (OffError place s) = 1
  basic_size n site m (SendError place group_at group number_at number) = 1
  basic_size n site m other = 0

  pub alternative_size : Numbering → Site → ℕ → Alternative → ℕ
  alternative_size n site m NoAlternative = 0
  alternative_size n site m (Otherwise one) = statement_size n site m one

  -- what DO CASE does where its number selects no statement
  pub uncased_size : Numbering → Site → ℕ → Alternative → ℕ
  uncased_size n site m NoAlternative = 1
  uncased_size n site m (Otherwise one) = statement_size n site m one

  -- the statements of DO CASE, each with a test before it and a jump behind it
  pub cases_size : Numbering → Site → ℕ → Group → ℕ
  cases_size n site m (Groups list close) = selected_size n site m list

  pub selected_size : Numbering → Site → ℕ → Statements → ℕ
  selected_size n site m NoStatements = 0
  selected_size n site m (MoreStatements first others) = (5 + (statement_size n site m first + 1)) + selected_size n site (after_statement m first) others

  pub group_size : Numbering → Site → ℕ → Group → ℕ
  group_size n site m (Groups list close) = statements_size n site m list

  pub statements_size : Numbering → Site → ℕ → Statements → ℕ
  statements_size n site m NoStatements = 0
  statements_size n site m (MoreStatements first others) = statement_size n site m first + statements_size n site (after_statement m first) others
