-- The phrases of a statement open nothing.
use Rattle.std.proofs.Common.{Bool, true, false, List, length, Option, refl}
use Rattle.hal_grammar.specs.Leaves.{Naming}
use Rattle.hal_grammar.specs.Expressions.{Reference}
use Rattle.hal_grammar.specs.Statements.{Guard, While, Until, Span, Stepped, Listed, Eventful, Start, StartAt, StartIn, StartOn, Cycle, Cyclic, CyclicEvery, CyclicAfter, Schedule, Statement, Labelled, Basic, Null, Assignment, If, Do, DoCase, DoLoop, DoFor, Exit, Repeat, Return, Call, Read, Write, Update, Scheduled, Cancel, Terminate, Wait, WaitUntil, WaitForDependent, WaitFor, Event, UpdatePriority, OnErrorStatement, OnErrorResponse, OffError, SendError, Alternative, NoAlternative, Otherwise, Group, Groups, Statements, NoStatements, MoreStatements}
use Rattle.hal_phrases.specs.declared.around.Around.{Around}
use Rattle.hal_phrases.specs.declared.role.Role.{Role}
use Rattle.hal_phrases.specs.Surroundings.{inside, grouped, updated}
use Rattle.hal_phrases.specs.Phrases.{Phrase, gathered_each, gathered_any, OfAssignment, OfCall, OfClose, OfEvent, OfExit, OfGroup, OfHandler, OfLabel, OfOffError, OfProcess, OfRead, OfRealTime, OfRepeat, OfResponse, OfReturn, OfSendError, OfTemporaryGroup, OfUpdate, OfVariable, OfWrite}
use Rattle.hal_phrases.specs.GatheredExpressions.{below}
use Rattle.hal_phrases.specs.GatheredStatements.{gathered_label, gathered_close, gathered_process, gathered_event, gathered_receiver, gathered_guard, gathered_span, gathered_start, gathered_cycle, gathered_limit, gathered_schedule, begun_for, around_for, gathered_statement, gathered_basic, gathered_alternative, gathered_group, gathered_statements}
use Rattle.hal_names.specs.Keys.{declared_at}
use Rattle.hal_templates.proofs.Followed.{Adds, nothing, then_, one, each, any}
use Rattle.hal_templates.proofs.FollowedExpressions.{expression_adds, expressions_adds, reference_adds}
use Rattle.hal_templates.proofs.FollowedDeclarations.{optional_adds}

labels_adds : (a : Around) (d : List Phrase) (xs : List Naming) → Adds d (gathered_each (gathered_label a) d xs)
unfolding declared_at
labels_adds a d xs = each (gathered_label a) (λ e x. one e a (OfLabel x) (refl, refl)) d xs

pub close_adds : (a : Around) (d : List Phrase) (o : Option Naming) → Adds d (gathered_any (gathered_close a) d o)
unfolding declared_at
close_adds a d o = any (gathered_close a) (λ e x. one e a (OfClose x) (refl, refl)) d o

processes_adds : (a : Around) (d : List Phrase) (xs : List Naming) → Adds d (gathered_each (gathered_process a) d xs)
unfolding declared_at
processes_adds a d xs = each (gathered_process a) (λ e x. one e a (OfProcess x) (refl, refl)) d xs

process_adds : (a : Around) (d : List Phrase) (o : Option Naming) → Adds d (gathered_any (gathered_process a) d o)
unfolding declared_at
process_adds a d o = any (gathered_process a) (λ e x. one e a (OfProcess x) (refl, refl)) d o

event_adds : (a : Around) (d : List Phrase) (o : Option Eventful) → Adds d (gathered_any (gathered_event a) d o)
unfolding declared_at
event_adds a d o = any (gathered_event a) (λ e x. one e a (OfEvent x) (refl, refl)) d o

receivers_adds : (a : Around) (r : Role) (d : List Phrase) (xs : List Reference) → Adds d (gathered_each (gathered_receiver a r) d xs)
receivers_adds a r d xs = each (gathered_receiver a r) (λ e x. reference_adds e a r x) d xs

guard_adds : (a : Around) (d : List Phrase) (x : Guard) → Adds d (gathered_guard a d x)
unfolding gathered_guard declared_at
guard_adds a d (While p condition) = expression_adds d a _ condition
guard_adds a d (Until p condition) = expression_adds d a _ condition

span_adds : (d : List Phrase) (a : Around) (x : Span) → Adds d (gathered_span d a x)
unfolding gathered_span declared_at
span_adds d a (Stepped first last step) = then_ (expression_adds d a _ first) (then_ (expression_adds _ a _ last) (optional_adds _ a _ step))
span_adds d a (Listed values) = expressions_adds d a _ values

start_adds : (a : Around) (d : List Phrase) (x : Start) → Adds d (gathered_start a d x)
unfolding gathered_start declared_at
start_adds a d (StartAt p time) = expression_adds d a _ time
start_adds a d (StartIn p time) = expression_adds d a _ time
start_adds a d (StartOn p event) = expression_adds d a _ event

cycle_adds : (a : Around) (d : List Phrase) (x : Cycle) → Adds d (gathered_cycle a d x)
unfolding gathered_cycle declared_at
cycle_adds a d (Cyclic p) = nothing d
cycle_adds a d (CyclicEvery p time) = expression_adds d a _ time
cycle_adds a d (CyclicAfter p time) = expression_adds d a _ time

limit_adds : (a : Around) (d : List Phrase) (x : Guard) → Adds d (gathered_limit a d x)
unfolding gathered_limit declared_at
limit_adds a d (While p condition) = expression_adds d a _ condition
limit_adds a d (Until p condition) = expression_adds d a _ condition

schedule_adds : (d : List Phrase) (a : Around) (s : Schedule) → Adds d (gathered_schedule d a s)
unfolding gathered_schedule declared_at
schedule_adds d a s =
    then_ (one d a (OfProcess s.name) (refl, refl)) (then_ (any (gathered_start a) (start_adds a) _ s.start) (then_ (optional_adds _ a _ s.priority)
    (then_ (any (gathered_cycle a) (cycle_adds a) _ s.cycle) (any (gathered_limit a) (limit_adds a) _ s.guard))))

-- a DO FOR group, with what stands in it
for_adds : (d : List Phrase) (a : Around) (labels : List Naming) (temporary : Bool) (variable : Naming) (e : List Phrase)
    → Adds (begun_for d a labels temporary variable) e → Adds d e
unfolding begun_for around_for declared_at
for_adds d a labels true variable e inner = then_ (one d a (OfTemporaryGroup labels variable) (refl, refl)) inner
for_adds d a labels false variable e inner = then_ (one d a (OfGroup labels true) (refl, refl)) (then_ (one _ (below d a) (OfVariable variable) (refl, refl)) inner)

mutual
  unfolding gathered_statement gathered_basic gathered_alternative gathered_group gathered_statements declared_at

  pub statement_adds : (d : List Phrase) (a : Around) (x : Statement) → Adds d (gathered_statement d a x)
  statement_adds d a (Labelled labels basic) = then_ (labels_adds a d labels) (basic_adds _ a labels basic)

  basic_adds : (d : List Phrase) (a : Around) (labels : List Naming) (x : Basic) → Adds d (gathered_basic d a labels x)
  basic_adds d a labels (Null p) = nothing d
  basic_adds d a labels (Assignment p receivers value) = then_ (one d a (OfAssignment receivers value) (refl, refl)) (then_ (receivers_adds (below d a) _ _ receivers) (expression_adds _ (below d a) _ value))
  basic_adds d a labels (If p condition consequence alternative) =
      then_ (expression_adds d a _ condition) (then_ (statement_adds _ (inside a) consequence) (alternative_adds _ (inside a) alternative))
  basic_adds d a labels (Do p group) = then_ (one d a (OfGroup labels false) (refl, refl)) (group_adds _ (grouped (length d) a) group)
  basic_adds d a labels (DoCase p selector alternative group) =
      then_ (one d a (OfGroup labels false) (refl, refl)) (then_ (expression_adds _ (below d a) _ selector) (then_ (alternative_adds _ (grouped (length d) a) alternative) (group_adds _ (grouped (length d) a) group)))
  basic_adds d a labels (DoLoop p guard group) = then_ (one d a (OfGroup labels true) (refl, refl)) (then_ (guard_adds (below d a) _ guard) (group_adds _ (grouped (length d) a) group))
  basic_adds d a labels (DoFor p temporary variable span guard group) =
      for_adds d a labels temporary variable _ (then_ (span_adds _ (around_for d a temporary) span)
      (then_ (any (gathered_guard (around_for d a temporary)) (guard_adds (around_for d a temporary)) _ guard) (group_adds _ (around_for d a temporary) group)))
  basic_adds d a labels (Exit p label) = one d a (OfExit p label) (refl, refl)
  basic_adds d a labels (Repeat p label) = one d a (OfRepeat p label) (refl, refl)
  basic_adds d a labels (Return p value) = then_ (one d a (OfReturn p value) (refl, refl)) (optional_adds _ (below d a) _ value)
  basic_adds d a labels (Call p name arguments receivers) = then_ (one d a (OfCall name arguments receivers) (refl, refl)) (then_ (expressions_adds _ (below d a) _ arguments) (receivers_adds (below d a) _ _ receivers))
  basic_adds d a labels (Read p channel receivers) = then_ (one d a (OfRead p) (refl, refl)) (then_ (expression_adds _ (below d a) _ channel) (receivers_adds (below d a) _ _ receivers))
  basic_adds d a labels (Write p channel items) = then_ (one d a (OfWrite p) (refl, refl)) (then_ (expression_adds _ (below d a) _ channel) (expressions_adds _ (below d a) _ items))
  basic_adds d a labels (Update p body close) = then_ (one d a (OfUpdate p labels) (refl, refl)) (then_ (statements_adds _ (updated (length d) a) body) (close_adds (updated (length d) a) _ close))
  basic_adds d a labels (Scheduled p schedule) = then_ (one d a (OfRealTime p) (refl, refl)) (schedule_adds _ (below d a) schedule)
  basic_adds d a labels (Cancel p names) = then_ (one d a (OfRealTime p) (refl, refl)) (processes_adds (below d a) _ names)
  basic_adds d a labels (Terminate p names) = then_ (one d a (OfRealTime p) (refl, refl)) (processes_adds (below d a) _ names)
  basic_adds d a labels (Wait p time) = then_ (one d a (OfRealTime p) (refl, refl)) (expression_adds _ (below d a) _ time)
  basic_adds d a labels (WaitUntil p time) = then_ (one d a (OfRealTime p) (refl, refl)) (expression_adds _ (below d a) _ time)
  basic_adds d a labels (WaitForDependent p) = one d a (OfRealTime p) (refl, refl)
  basic_adds d a labels (WaitFor p event) = then_ (one d a (OfRealTime p) (refl, refl)) (expression_adds _ (below d a) _ event)
  basic_adds d a labels (Event event) = one d a (OfEvent event) (refl, refl)
  basic_adds d a labels (UpdatePriority p name priority) = then_ (one d a (OfRealTime p) (refl, refl)) (then_ (process_adds (below d a) _ name) (expression_adds _ (below d a) _ priority))
  basic_adds d a labels (OnErrorStatement p selector handler) = then_ (one d a (OfHandler p selector) (refl, refl)) (statement_adds _ (inside a) handler)
  basic_adds d a labels (OnErrorResponse p selector response event) = then_ (one d a (OfResponse p selector) (refl, refl)) (event_adds (below d a) _ event)
  basic_adds d a labels (OffError p selector) = one d a (OfOffError p selector) (refl, refl)
  basic_adds d a labels (SendError p group_at group number_at number) = one d a (OfSendError group_at group number_at number) (refl, refl)

  alternative_adds : (d : List Phrase) (a : Around) (x : Alternative) → Adds d (gathered_alternative d a x)
  alternative_adds d a NoAlternative = nothing d
  alternative_adds d a (Otherwise statement) = statement_adds d a statement

  group_adds : (d : List Phrase) (a : Around) (x : Group) → Adds d (gathered_group d a x)
  group_adds d a (Groups statements end) = then_ (statements_adds d a statements) (close_adds a _ end)

  statements_adds : (d : List Phrase) (a : Around) (x : Statements) → Adds d (gathered_statements d a x)
  statements_adds d a NoStatements = nothing d
  statements_adds d a (MoreStatements first others) = then_ (statement_adds d a first) (statements_adds _ a others)
