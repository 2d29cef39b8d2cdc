-- The phrases of a statement are added behind those before it.
use Rattle.std.proofs.Common.{Bool, true, false, List, length, Option}
use Rattle.hal_grammar.specs.Leaves.{Naming}
use Rattle.hal_grammar.specs.Expressions.{Expression, Reference}
use Rattle.hal_grammar.specs.Statements.{Guard, While, Until, Span, Stepped, Listed, Eventful, Start, StartAt, StartIn, StartOn, Cycle, Cyclic, CyclicEvery, CyclicAfter, Schedule, Statement, Labelled, Basic, Null, Assignment, If, Do, DoCase, DoLoop, DoFor, Exit, Repeat, Return, Call, Read, Write, Update, Scheduled, Cancel, Terminate, Wait, WaitUntil, WaitForDependent, WaitFor, Event, UpdatePriority, OnErrorStatement, OnErrorResponse, OffError, SendError, Alternative, NoAlternative, Otherwise, Group, Groups, Statements, NoStatements, MoreStatements}
use Rattle.hal_phrases.specs.declared.around.Around.{Around}
use Rattle.hal_phrases.specs.declared.role.Role.{Role}
use Rattle.hal_phrases.specs.Surroundings.{inside, grouped, updated}
use Rattle.hal_phrases.specs.Phrases.{Phrase, gathered_each, gathered_any}
use Rattle.hal_phrases.specs.GatheredDeclarations.{gathered_optional}
use Rattle.hal_phrases.specs.GatheredExpressions.{below, gathered}
use Rattle.hal_phrases.specs.GatheredStatements.{gathered_label, gathered_close, gathered_process, gathered_event, gathered_receiver, gathered_guard, gathered_span, gathered_start, gathered_cycle, gathered_limit, gathered_schedule, begun_for, around_for, gathered_statement, gathered_basic, gathered_alternative, gathered_group, gathered_statements}
use Rattle.hal_fit_rules.specs.Begun.{AreFirst}
use Rattle.hal_fit_rules.proofs.Beginning.{no_step, then_, one, each, any}
use Rattle.hal_fit_rules.proofs.BegunExpressions.{expression_first, expressions_first, reference_first}

labels_first : (a : Around) (d : List Phrase) (xs : List Naming) → AreFirst d (gathered_each (gathered_label a) d xs)
labels_first a d xs = each (gathered_label a) (λ e x. one e a _) d xs

pub close_first : (a : Around) (d : List Phrase) (o : Option Naming) → AreFirst d (gathered_any (gathered_close a) d o)
close_first a d o = any (gathered_close a) (λ e x. one e a _) d o

pub processes_first : (a : Around) (d : List Phrase) (xs : List Naming) → AreFirst d (gathered_each (gathered_process a) d xs)
processes_first a d xs = each (gathered_process a) (λ e x. one e a _) d xs

pub process_first : (a : Around) (d : List Phrase) (o : Option Naming) → AreFirst d (gathered_any (gathered_process a) d o)
process_first a d o = any (gathered_process a) (λ e x. one e a _) d o

event_first : (a : Around) (d : List Phrase) (o : Option Eventful) → AreFirst d (gathered_any (gathered_event a) d o)
event_first a d o = any (gathered_event a) (λ e x. one e a _) d o

pub receivers_first : (a : Around) (r : Role) (d : List Phrase) (xs : List Reference) → AreFirst d (gathered_each (gathered_receiver a r) d xs)
receivers_first a r d xs = each (gathered_receiver a r) (λ e x. reference_first e a r x) d xs

pub optional_first : (d : List Phrase) (a : Around) (r : Role) (o : Option Expression) → AreFirst d (gathered_optional d a r o)
optional_first d a r o = any (λ e t. gathered e a r t) (λ e t. expression_first e a r t) d o

pub guard_first : (a : Around) (d : List Phrase) (x : Guard) → AreFirst d (gathered_guard a d x)
unfolding gathered_guard
guard_first a d (While p condition) = expression_first d a _ condition
guard_first a d (Until p condition) = expression_first d a _ condition

pub any_guard_first : (a : Around) (d : List Phrase) (o : Option Guard) → AreFirst d (gathered_any (gathered_guard a) d o)
any_guard_first a d o = any (gathered_guard a) (guard_first a) d o

pub span_first : (d : List Phrase) (a : Around) (x : Span) → AreFirst d (gathered_span d a x)
unfolding gathered_span
span_first d a (Stepped first last step) = then_ (expression_first d a _ first) (then_ (expression_first _ a _ last) (optional_first _ a _ step))
span_first d a (Listed values) = expressions_first d a _ values

start_first : (a : Around) (d : List Phrase) (x : Start) → AreFirst d (gathered_start a d x)
unfolding gathered_start
start_first a d (StartAt p time) = expression_first d a _ time
start_first a d (StartIn p time) = expression_first d a _ time
start_first a d (StartOn p event) = expression_first d a _ event

pub any_start_first : (a : Around) (d : List Phrase) (o : Option Start) → AreFirst d (gathered_any (gathered_start a) d o)
any_start_first a d o = any (gathered_start a) (start_first a) d o

cycle_first : (a : Around) (d : List Phrase) (x : Cycle) → AreFirst d (gathered_cycle a d x)
unfolding gathered_cycle
cycle_first a d (Cyclic p) = no_step d
cycle_first a d (CyclicEvery p time) = expression_first d a _ time
cycle_first a d (CyclicAfter p time) = expression_first d a _ time

pub any_cycle_first : (a : Around) (d : List Phrase) (o : Option Cycle) → AreFirst d (gathered_any (gathered_cycle a) d o)
any_cycle_first a d o = any (gathered_cycle a) (cycle_first a) d o

limit_first : (a : Around) (d : List Phrase) (x : Guard) → AreFirst d (gathered_limit a d x)
unfolding gathered_limit
limit_first a d (While p condition) = expression_first d a _ condition
limit_first a d (Until p condition) = expression_first d a _ condition

pub any_limit_first : (a : Around) (d : List Phrase) (o : Option Guard) → AreFirst d (gathered_any (gathered_limit a) d o)
any_limit_first a d o = any (gathered_limit a) (limit_first a) d o

pub schedule_first : (d : List Phrase) (a : Around) (s : Schedule) → AreFirst d (gathered_schedule d a s)
unfolding gathered_schedule
schedule_first d a s =
    then_ (one d a _) (then_ (any_start_first a _ s.start) (then_ (optional_first _ a _ s.priority) (then_ (any_cycle_first a _ s.cycle) (any_limit_first a _ s.guard))))

pub for_first : (d : List Phrase) (a : Around) (labels : List Naming) (temporary : Bool) (variable : Naming) → AreFirst d (begun_for d a labels temporary variable)
unfolding begun_for
for_first d a labels true variable = one d a _
for_first d a labels false variable = then_ (one d a _) (one _ (below d a) _)

mutual
  unfolding gathered_statement gathered_basic gathered_alternative gathered_group gathered_statements

  pub statement_first : (d : List Phrase) (a : Around) (x : Statement) → AreFirst d (gathered_statement d a x)
  statement_first d a (Labelled labels basic) = then_ (labels_first a d labels) (basic_first _ a labels basic)

  basic_first : (d : List Phrase) (a : Around) (labels : List Naming) (x : Basic) → AreFirst d (gathered_basic d a labels x)
  basic_first d a labels (Null p) = no_step d
  basic_first d a labels (Assignment p receivers value) = then_ (one d a _) (then_ (receivers_first (below d a) _ _ receivers) (expression_first _ (below d a) _ value))
  basic_first d a labels (If p condition consequence alternative) =
      then_ (expression_first d a _ condition) (then_ (statement_first _ (inside a) consequence) (alternative_first _ (inside a) alternative))
  basic_first d a labels (Do p group) = then_ (one d a _) (group_first _ (grouped (length d) a) group)
  basic_first d a labels (DoCase p selector alternative group) =
      then_ (one d a _) (then_ (expression_first _ (below d a) _ selector) (then_ (alternative_first _ (grouped (length d) a) alternative) (group_first _ (grouped (length d) a) group)))
  basic_first d a labels (DoLoop p guard group) = then_ (one d a _) (then_ (guard_first (below d a) _ guard) (group_first _ (grouped (length d) a) group))
  basic_first d a labels (DoFor p temporary variable span guard group) =
      then_ (for_first d a labels temporary variable) (then_ (span_first _ (around_for d a temporary) span)
      (then_ (any_guard_first (around_for d a temporary) _ guard) (group_first _ (around_for d a temporary) group)))
  basic_first d a labels (Exit p label) = one d a _
  basic_first d a labels (Repeat p label) = one d a _
  basic_first d a labels (Return p value) = then_ (one d a _) (optional_first _ (below d a) _ value)
  basic_first d a labels (Call p name arguments receivers) = then_ (one d a _) (then_ (expressions_first _ (below d a) _ arguments) (receivers_first (below d a) _ _ receivers))
  basic_first d a labels (Read p channel receivers) = then_ (one d a _) (then_ (expression_first _ (below d a) _ channel) (receivers_first (below d a) _ _ receivers))
  basic_first d a labels (Write p channel items) = then_ (one d a _) (then_ (expression_first _ (below d a) _ channel) (expressions_first _ (below d a) _ items))
  basic_first d a labels (Update p body close) = then_ (one d a _) (then_ (statements_first _ (updated (length d) a) body) (close_first (updated (length d) a) _ close))
  basic_first d a labels (Scheduled p schedule) = then_ (one d a _) (schedule_first _ (below d a) schedule)
  basic_first d a labels (Cancel p names) = then_ (one d a _) (processes_first (below d a) _ names)
  basic_first d a labels (Terminate p names) = then_ (one d a _) (processes_first (below d a) _ names)
  basic_first d a labels (Wait p time) = then_ (one d a _) (expression_first _ (below d a) _ time)
  basic_first d a labels (WaitUntil p time) = then_ (one d a _) (expression_first _ (below d a) _ time)
  basic_first d a labels (WaitForDependent p) = one d a _
  basic_first d a labels (WaitFor p event) = then_ (one d a _) (expression_first _ (below d a) _ event)
  basic_first d a labels (Event event) = one d a _
  basic_first d a labels (UpdatePriority p name priority) = then_ (one d a _) (then_ (process_first (below d a) _ name) (expression_first _ (below d a) _ priority))
  basic_first d a labels (OnErrorStatement p selector handler) = then_ (one d a _) (statement_first _ (inside a) handler)
  basic_first d a labels (OnErrorResponse p selector response event) = then_ (one d a _) (event_first (below d a) _ event)
  basic_first d a labels (OffError p selector) = one d a _
  basic_first d a labels (SendError p group_at group number_at number) = one d a _

  pub alternative_first : (d : List Phrase) (a : Around) (x : Alternative) → AreFirst d (gathered_alternative d a x)
  alternative_first d a NoAlternative = no_step d
  alternative_first d a (Otherwise statement) = statement_first d a statement

  pub group_first : (d : List Phrase) (a : Around) (x : Group) → AreFirst d (gathered_group d a x)
  group_first d a (Groups statements end) = then_ (statements_first d a statements) (close_first a _ end)

  pub statements_first : (d : List Phrase) (a : Around) (x : Statements) → AreFirst d (gathered_statements d a x)
  statements_first d a NoStatements = no_step d
  statements_first d a (MoreStatements first others) = then_ (statement_first d a first) (statements_first _ a others)
