-- The phrases of a statement stand in blocks of their unit, also those in groups with a TEMPORARY variable.
use Rattle.std.proofs.Common.{Bool, true, false, List, length, Option}
use Rattle.hal_grammar.specs.Leaves.{Naming}
use Rattle.hal_grammar.specs.Expressions.{Reference}
use Rattle.hal_grammar.specs.Statements.{Guard, While, Until, Span, Stepped, Listed, Eventful, Start, StartAt, StartIn, StartOn, Cycle, Cyclic, CyclicEvery, CyclicAfter, Schedule, Statement, Labelled, Basic, Null, Assignment, If, Do, DoCase, DoLoop, DoFor, Exit, Repeat, Return, Call, Read, Write, Update, Scheduled, Cancel, Terminate, Wait, WaitUntil, WaitForDependent, WaitFor, Event, UpdatePriority, OnErrorStatement, OnErrorResponse, OffError, SendError, Alternative, NoAlternative, Otherwise, Group, Groups, Statements, NoStatements, MoreStatements}
use Rattle.hal_phrases.specs.declared.around.Around.{Around}
use Rattle.hal_phrases.specs.declared.role.Role.{Role}
use Rattle.hal_phrases.specs.Surroundings.{inside, grouped, updated}
use Rattle.hal_phrases.specs.Phrases.{Phrase, gathered_each, gathered_any}
use Rattle.hal_phrases.specs.GatheredExpressions.{below}
use Rattle.hal_phrases.specs.GatheredStatements.{gathered_label, gathered_close, gathered_process, gathered_event, gathered_receiver, gathered_guard, gathered_span, gathered_start, gathered_cycle, gathered_limit, gathered_schedule, begun_for, around_for, gathered_statement, gathered_basic, gathered_alternative, gathered_group, gathered_statements}
use Rattle.hal_right_images.proofs.rows.Homing.{StepIn, no_step, then_, one, grouping, each, any}
use Rattle.hal_right_images.proofs.rows.HomingExpressions.{expression_step, expressions_step, reference_step}
use Rattle.hal_right_images.proofs.rows.HomingDeclarations.{optional_step}

labels_step : (a : Around) (d : List Phrase) (xs : List Naming) → StepIn a.home a.block d (gathered_each (gathered_label a) d xs)
labels_step a d xs = each a.home a.block (gathered_label a) (λ e x. one e a _) d xs

pub close_step : (a : Around) (d : List Phrase) (o : Option Naming) → StepIn a.home a.block d (gathered_any (gathered_close a) d o)
close_step a d o = any a.home a.block (gathered_close a) (λ e x. one e a _) d o

processes_step : (a : Around) (d : List Phrase) (xs : List Naming) → StepIn a.home a.block d (gathered_each (gathered_process a) d xs)
processes_step a d xs = each a.home a.block (gathered_process a) (λ e x. one e a _) d xs

process_step : (a : Around) (d : List Phrase) (o : Option Naming) → StepIn a.home a.block d (gathered_any (gathered_process a) d o)
process_step a d o = any a.home a.block (gathered_process a) (λ e x. one e a _) d o

event_step : (a : Around) (d : List Phrase) (o : Option Eventful) → StepIn a.home a.block d (gathered_any (gathered_event a) d o)
event_step a d o = any a.home a.block (gathered_event a) (λ e x. one e a _) d o

receivers_step : (a : Around) (r : Role) (d : List Phrase) (xs : List Reference) → StepIn a.home a.block d (gathered_each (gathered_receiver a r) d xs)
receivers_step a r d xs = each a.home a.block (gathered_receiver a r) (λ e x. reference_step e a r x) d xs

guard_step : (a : Around) (d : List Phrase) (x : Guard) → StepIn a.home a.block d (gathered_guard a d x)
unfolding gathered_guard
guard_step a d (While p condition) = expression_step d a _ condition
guard_step a d (Until p condition) = expression_step d a _ condition

span_step : (d : List Phrase) (a : Around) (x : Span) → StepIn a.home a.block d (gathered_span d a x)
unfolding gathered_span
span_step d a (Stepped first last step) = then_ (expression_step d a _ first) (then_ (expression_step _ a _ last) (optional_step _ a _ step))
span_step d a (Listed values) = expressions_step d a _ values

start_step : (a : Around) (d : List Phrase) (x : Start) → StepIn a.home a.block d (gathered_start a d x)
unfolding gathered_start
start_step a d (StartAt p time) = expression_step d a _ time
start_step a d (StartIn p time) = expression_step d a _ time
start_step a d (StartOn p event) = expression_step d a _ event

cycle_step : (a : Around) (d : List Phrase) (x : Cycle) → StepIn a.home a.block d (gathered_cycle a d x)
unfolding gathered_cycle
cycle_step a d (Cyclic p) = no_step a.home a.block d
cycle_step a d (CyclicEvery p time) = expression_step d a _ time
cycle_step a d (CyclicAfter p time) = expression_step d a _ time

limit_step : (a : Around) (d : List Phrase) (x : Guard) → StepIn a.home a.block d (gathered_limit a d x)
unfolding gathered_limit
limit_step a d (While p condition) = expression_step d a _ condition
limit_step a d (Until p condition) = expression_step d a _ condition

schedule_step : (d : List Phrase) (a : Around) (s : Schedule) → StepIn a.home a.block d (gathered_schedule d a s)
unfolding gathered_schedule
schedule_step d a s =
    then_ (one d a _) (then_ (any a.home a.block (gathered_start a) (start_step a) _ s.start) (then_ (optional_step _ a _ s.priority)
    (then_ (any a.home a.block (gathered_cycle a) (cycle_step a) _ s.cycle) (any a.home a.block (gathered_limit a) (limit_step a) _ s.guard))))

-- so do those of a DO FOR group where those in it do
for_step : (d : List Phrase) (a : Around) (labels : List Naming) (temporary : Bool) (variable : Naming) (e : List Phrase)
    → StepIn (around_for d a temporary).home (around_for d a temporary).block (begun_for d a labels temporary variable) e → StepIn a.home a.block d e
unfolding begun_for around_for
for_step d a labels true variable e inner = grouping d a labels variable e inner
for_step d a labels false variable e inner = then_ (one d a _) (then_ (one _ (below d a) _) inner)

mutual
  unfolding gathered_statement gathered_basic gathered_alternative gathered_group gathered_statements

  pub statement_step : (d : List Phrase) (a : Around) (x : Statement) → StepIn a.home a.block d (gathered_statement d a x)
  statement_step d a (Labelled labels basic) = then_ (labels_step a d labels) (basic_step _ a labels basic)

  basic_step : (d : List Phrase) (a : Around) (labels : List Naming) (x : Basic) → StepIn a.home a.block d (gathered_basic d a labels x)
  basic_step d a labels (Null p) = no_step a.home a.block d
  basic_step d a labels (Assignment p receivers value) = then_ (one d a _) (then_ (receivers_step (below d a) _ _ receivers) (expression_step _ (below d a) _ value))
  basic_step d a labels (If p condition consequence alternative) =
      then_ (expression_step d a _ condition) (then_ (statement_step _ (inside a) consequence) (alternative_step _ (inside a) alternative))
  basic_step d a labels (Do p group) = then_ (one d a _) (group_step _ (grouped (length d) a) group)
  basic_step d a labels (DoCase p selector alternative group) =
      then_ (one d a _) (then_ (expression_step _ (below d a) _ selector) (then_ (alternative_step _ (grouped (length d) a) alternative) (group_step _ (grouped (length d) a) group)))
  basic_step d a labels (DoLoop p guard group) = then_ (one d a _) (then_ (guard_step (below d a) _ guard) (group_step _ (grouped (length d) a) group))
  basic_step d a labels (DoFor p temporary variable span guard group) =
      for_step d a labels temporary variable _ (then_ (span_step _ (around_for d a temporary) span)
      (then_ (any (around_for d a temporary).home (around_for d a temporary).block (gathered_guard (around_for d a temporary)) (guard_step (around_for d a temporary)) _ guard) (group_step _ (around_for d a temporary) group)))
  basic_step d a labels (Exit p label) = one d a _
  basic_step d a labels (Repeat p label) = one d a _
  basic_step d a labels (Return p value) = then_ (one d a _) (optional_step _ (below d a) _ value)
  basic_step d a labels (Call p name arguments receivers) = then_ (one d a _) (then_ (expressions_step _ (below d a) _ arguments) (receivers_step (below d a) _ _ receivers))
  basic_step d a labels (Read p channel receivers) = then_ (one d a _) (then_ (expression_step _ (below d a) _ channel) (receivers_step (below d a) _ _ receivers))
  basic_step d a labels (Write p channel items) = then_ (one d a _) (then_ (expression_step _ (below d a) _ channel) (expressions_step _ (below d a) _ items))
  basic_step d a labels (Update p body close) = then_ (one d a _) (then_ (statements_step _ (updated (length d) a) body) (close_step (updated (length d) a) _ close))
  basic_step d a labels (Scheduled p schedule) = then_ (one d a _) (schedule_step _ (below d a) schedule)
  basic_step d a labels (Cancel p names) = then_ (one d a _) (processes_step (below d a) _ names)
  basic_step d a labels (Terminate p names) = then_ (one d a _) (processes_step (below d a) _ names)
  basic_step d a labels (Wait p time) = then_ (one d a _) (expression_step _ (below d a) _ time)
  basic_step d a labels (WaitUntil p time) = then_ (one d a _) (expression_step _ (below d a) _ time)
  basic_step d a labels (WaitForDependent p) = one d a _
  basic_step d a labels (WaitFor p event) = then_ (one d a _) (expression_step _ (below d a) _ event)
  basic_step d a labels (Event event) = one d a _
  basic_step d a labels (UpdatePriority p name priority) = then_ (one d a _) (then_ (process_step (below d a) _ name) (expression_step _ (below d a) _ priority))
  basic_step d a labels (OnErrorStatement p selector handler) = then_ (one d a _) (statement_step _ (inside a) handler)
  basic_step d a labels (OnErrorResponse p selector response event) = then_ (one d a _) (event_step (below d a) _ event)
  basic_step d a labels (OffError p selector) = one d a _
  basic_step d a labels (SendError p group_at group number_at number) = one d a _

  alternative_step : (d : List Phrase) (a : Around) (x : Alternative) → StepIn a.home a.block d (gathered_alternative d a x)
  alternative_step d a NoAlternative = no_step a.home a.block d
  alternative_step d a (Otherwise statement) = statement_step d a statement

  group_step : (d : List Phrase) (a : Around) (x : Group) → StepIn a.home a.block d (gathered_group d a x)
  group_step d a (Groups statements end) = then_ (statements_step d a statements) (close_step a _ end)

  statements_step : (d : List Phrase) (a : Around) (x : Statements) → StepIn a.home a.block d (gathered_statements d a x)
  statements_step d a NoStatements = no_step a.home a.block d
  statements_step d a (MoreStatements first others) = then_ (statement_step d a first) (statements_step _ a others)
