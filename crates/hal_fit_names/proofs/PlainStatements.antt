-- The phrases of a statement have no sizes.
use Rattle.std.proofs.Common.{◌≡◌, ℕ, Bool, true, false, List, length, Option, refl, subst}
use Rattle.hal_grammar.specs.Leaves.{Naming}
use Rattle.hal_grammar.specs.Expressions.{Expression, Reference}
use Rattle.hal_grammar.specs.Statements.{Guard, While, Until, Span, Stepped, Listed, Eventful, Start, StartAt, StartIn, StartOn, Cycle, Cyclic, CyclicEvery, CyclicAfter, Schedule, Statement, Labelled, Basic, Null, Assignment, If, Do, DoCase, DoLoop, DoFor, Exit, Repeat, Return, Call, Read, Write, Update, Scheduled, Cancel, Terminate, Wait, WaitUntil, WaitForDependent, WaitFor, Event, UpdatePriority, OnErrorStatement, OnErrorResponse, OffError, SendError, Alternative, NoAlternative, Otherwise, Group, Groups, Statements, NoStatements, MoreStatements}
use Rattle.hal_phrases.specs.declared.around.Around.{Around}
use Rattle.hal_phrases.specs.declared.role.Role.{Role}
use Rattle.hal_phrases.specs.Surroundings.{inside, grouped, updated}
use Rattle.hal_phrases.specs.Phrases.{Phrase, OfAssignment, OfCall, OfClose, OfEvent, OfExit, OfGroup, OfHandler, OfLabel, OfOffError, OfProcess, OfRead, OfRealTime, OfRepeat, OfResponse, OfReturn, OfSendError, OfTemporaryGroup, OfUpdate, OfVariable, OfWrite, gathered_each, gathered_any}
use Rattle.hal_phrases.specs.GatheredDeclarations.{gathered_optional}
use Rattle.hal_phrases.specs.GatheredExpressions.{below, gathered}
use Rattle.hal_phrases.specs.GatheredStatements.{gathered_label, gathered_close, gathered_process, gathered_event, gathered_receiver, gathered_guard, gathered_span, gathered_start, gathered_cycle, gathered_limit, gathered_schedule, begun_for, around_for, gathered_statement, gathered_basic, gathered_alternative, gathered_group, gathered_statements}
use Rattle.hal_fit_names.proofs.Plain.{IsPlain, no_step, then_, one, each, any}
use Rattle.hal_fit_names.proofs.PlainExpressions.{expression_plain, expressions_plain, reference_plain}

labels_plain : (a : Around) (d : List Phrase) (xs : List Naming) → IsPlain a.home d (gathered_each (gathered_label a) d xs)
labels_plain a d xs = each (gathered_label a) (λ e x. one e a (OfLabel x) refl) d xs

pub close_plain : (a : Around) (d : List Phrase) (o : Option Naming) → IsPlain a.home d (gathered_any (gathered_close a) d o)
close_plain a d o = any (gathered_close a) (λ e x. one e a (OfClose x) refl) d o

pub processes_plain : (a : Around) (d : List Phrase) (xs : List Naming) → IsPlain a.home d (gathered_each (gathered_process a) d xs)
processes_plain a d xs = each (gathered_process a) (λ e x. one e a (OfProcess x) refl) d xs

pub process_plain : (a : Around) (d : List Phrase) (o : Option Naming) → IsPlain a.home d (gathered_any (gathered_process a) d o)
process_plain a d o = any (gathered_process a) (λ e x. one e a (OfProcess x) refl) d o

event_plain : (a : Around) (d : List Phrase) (o : Option Eventful) → IsPlain a.home d (gathered_any (gathered_event a) d o)
event_plain a d o = any (gathered_event a) (λ e x. one e a (OfEvent x) refl) d o

pub receivers_plain : (a : Around) (r : Role) (d : List Phrase) (xs : List Reference) → IsPlain a.home d (gathered_each (gathered_receiver a r) d xs)
receivers_plain a r d xs = each (gathered_receiver a r) (λ e x. reference_plain e a r x) d xs

pub optional_plain : (d : List Phrase) (a : Around) (r : Role) (o : Option Expression) → IsPlain a.home d (gathered_optional d a r o)
optional_plain d a r o = any (λ e t. gathered e a r t) (λ e t. expression_plain e a r t) d o

pub guard_plain : (a : Around) (d : List Phrase) (x : Guard) → IsPlain a.home d (gathered_guard a d x)
unfolding gathered_guard
guard_plain a d (While p condition) = expression_plain d a _ condition
guard_plain a d (Until p condition) = expression_plain d a _ condition

pub any_guard_plain : (a : Around) (d : List Phrase) (o : Option Guard) → IsPlain a.home d (gathered_any (gathered_guard a) d o)
any_guard_plain a d o = any (gathered_guard a) (guard_plain a) d o

pub span_plain : (d : List Phrase) (a : Around) (x : Span) → IsPlain a.home d (gathered_span d a x)
unfolding gathered_span
span_plain d a (Stepped first last step) = then_ (expression_plain d a _ first) (then_ (expression_plain _ a _ last) (optional_plain _ a _ step))
span_plain d a (Listed values) = expressions_plain d a _ values

start_plain : (a : Around) (d : List Phrase) (x : Start) → IsPlain a.home d (gathered_start a d x)
unfolding gathered_start
start_plain a d (StartAt p time) = expression_plain d a _ time
start_plain a d (StartIn p time) = expression_plain d a _ time
start_plain a d (StartOn p event) = expression_plain d a _ event

pub any_start_plain : (a : Around) (d : List Phrase) (o : Option Start) → IsPlain a.home d (gathered_any (gathered_start a) d o)
any_start_plain a d o = any (gathered_start a) (start_plain a) d o

cycle_plain : (a : Around) (d : List Phrase) (x : Cycle) → IsPlain a.home d (gathered_cycle a d x)
unfolding gathered_cycle
cycle_plain a d (Cyclic p) = no_step d
cycle_plain a d (CyclicEvery p time) = expression_plain d a _ time
cycle_plain a d (CyclicAfter p time) = expression_plain d a _ time

pub any_cycle_plain : (a : Around) (d : List Phrase) (o : Option Cycle) → IsPlain a.home d (gathered_any (gathered_cycle a) d o)
any_cycle_plain a d o = any (gathered_cycle a) (cycle_plain a) d o

limit_plain : (a : Around) (d : List Phrase) (x : Guard) → IsPlain a.home d (gathered_limit a d x)
unfolding gathered_limit
limit_plain a d (While p condition) = expression_plain d a _ condition
limit_plain a d (Until p condition) = expression_plain d a _ condition

pub any_limit_plain : (a : Around) (d : List Phrase) (o : Option Guard) → IsPlain a.home d (gathered_any (gathered_limit a) d o)
any_limit_plain a d o = any (gathered_limit a) (limit_plain a) d o

pub schedule_plain : (d : List Phrase) (a : Around) (s : Schedule) → IsPlain a.home d (gathered_schedule d a s)
unfolding gathered_schedule
schedule_plain d a s =
    then_ (one d a (OfProcess s.name) refl) (then_ (any_start_plain a _ s.start) (then_ (optional_plain _ a _ s.priority) (then_ (any_cycle_plain a _ s.cycle) (any_limit_plain a _ s.guard))))

pub for_plain : (d : List Phrase) (a : Around) (labels : List Naming) (temporary : Bool) (variable : Naming) → IsPlain a.home d (begun_for d a labels temporary variable)
unfolding begun_for
for_plain d a labels true variable = one d a (OfTemporaryGroup labels variable) refl
for_plain d a labels false variable = then_ (one d a (OfGroup labels true) refl) (one _ (below d a) (OfVariable variable) refl)

-- a DO FOR group stands in its unit
for_home : (d : List Phrase) (a : Around) (temporary : Bool) → (around_for d a temporary).home ≡ a.home
unfolding around_for
for_home d a true = refl
for_home d a false = refl

at_home : {d e : List Phrase} (home one : ℕ) → home ≡ one → IsPlain home d e → IsPlain one d e
at_home {d = d} {e = e} home one same plain = subst (λ h. IsPlain h d e) same plain

mutual
  unfolding gathered_statement gathered_basic gathered_alternative gathered_group gathered_statements

  pub statement_plain : (d : List Phrase) (a : Around) (x : Statement) → IsPlain a.home d (gathered_statement d a x)
  statement_plain d a (Labelled labels basic) = then_ (labels_plain a d labels) (basic_plain _ a labels basic)

  basic_plain : (d : List Phrase) (a : Around) (labels : List Naming) (x : Basic) → IsPlain a.home d (gathered_basic d a labels x)
  basic_plain d a labels (Null p) = no_step d
  basic_plain d a labels (Assignment p receivers value) = then_ (one d a (OfAssignment receivers value) refl) (then_ (receivers_plain (below d a) _ _ receivers) (expression_plain _ (below d a) _ value))
  basic_plain d a labels (If p condition consequence alternative) =
      then_ (expression_plain d a _ condition) (then_ (statement_plain _ (inside a) consequence) (alternative_plain _ (inside a) alternative))
  basic_plain d a labels (Do p group) = then_ (one d a (OfGroup labels false) refl) (group_plain _ (grouped (length d) a) group)
  basic_plain d a labels (DoCase p selector alternative group) =
      then_ (one d a (OfGroup labels false) refl) (then_ (expression_plain _ (below d a) _ selector) (then_ (alternative_plain _ (grouped (length d) a) alternative) (group_plain _ (grouped (length d) a) group)))
  basic_plain d a labels (DoLoop p guard group) = then_ (one d a (OfGroup labels true) refl) (then_ (guard_plain (below d a) _ guard) (group_plain _ (grouped (length d) a) group))
  basic_plain d a labels (DoFor p temporary variable span guard group) =
      then_ (for_plain d a labels temporary variable)
      (at_home _ _ (for_home d a temporary) (then_ (span_plain _ (around_for d a temporary) span) (then_ (any_guard_plain (around_for d a temporary) _ guard) (group_plain _ (around_for d a temporary) group))))
  basic_plain d a labels (Exit p label) = one d a (OfExit p label) refl
  basic_plain d a labels (Repeat p label) = one d a (OfRepeat p label) refl
  basic_plain d a labels (Return p value) = then_ (one d a (OfReturn p value) refl) (optional_plain _ (below d a) _ value)
  basic_plain d a labels (Call p name arguments receivers) = then_ (one d a (OfCall name arguments receivers) refl) (then_ (expressions_plain _ (below d a) _ arguments) (receivers_plain (below d a) _ _ receivers))
  basic_plain d a labels (Read p channel receivers) = then_ (one d a (OfRead p) refl) (then_ (expression_plain _ (below d a) _ channel) (receivers_plain (below d a) _ _ receivers))
  basic_plain d a labels (Write p channel items) = then_ (one d a (OfWrite p) refl) (then_ (expression_plain _ (below d a) _ channel) (expressions_plain _ (below d a) _ items))
  basic_plain d a labels (Update p body close) = then_ (one d a (OfUpdate p labels) refl) (then_ (statements_plain _ (updated (length d) a) body) (close_plain (updated (length d) a) _ close))
  basic_plain d a labels (Scheduled p schedule) = then_ (one d a (OfRealTime p) refl) (schedule_plain _ (below d a) schedule)
  basic_plain d a labels (Cancel p names) = then_ (one d a (OfRealTime p) refl) (processes_plain (below d a) _ names)
  basic_plain d a labels (Terminate p names) = then_ (one d a (OfRealTime p) refl) (processes_plain (below d a) _ names)
  basic_plain d a labels (Wait p time) = then_ (one d a (OfRealTime p) refl) (expression_plain _ (below d a) _ time)
  basic_plain d a labels (WaitUntil p time) = then_ (one d a (OfRealTime p) refl) (expression_plain _ (below d a) _ time)
  basic_plain d a labels (WaitForDependent p) = one d a (OfRealTime p) refl
  basic_plain d a labels (WaitFor p event) = then_ (one d a (OfRealTime p) refl) (expression_plain _ (below d a) _ event)
  basic_plain d a labels (Event event) = one d a (OfEvent event) refl
  basic_plain d a labels (UpdatePriority p name priority) = then_ (one d a (OfRealTime p) refl) (then_ (process_plain (below d a) _ name) (expression_plain _ (below d a) _ priority))
  basic_plain d a labels (OnErrorStatement p selector handler) = then_ (one d a (OfHandler p selector) refl) (statement_plain _ (inside a) handler)
  basic_plain d a labels (OnErrorResponse p selector response event) = then_ (one d a (OfResponse p selector) refl) (event_plain (below d a) _ event)
  basic_plain d a labels (OffError p selector) = one d a (OfOffError p selector) refl
  basic_plain d a labels (SendError p group_at group number_at number) = one d a (OfSendError group_at group number_at number) refl

  pub alternative_plain : (d : List Phrase) (a : Around) (x : Alternative) → IsPlain a.home d (gathered_alternative d a x)
  alternative_plain d a NoAlternative = no_step d
  alternative_plain d a (Otherwise statement) = statement_plain d a statement

  pub group_plain : (d : List Phrase) (a : Around) (x : Group) → IsPlain a.home d (gathered_group d a x)
  group_plain d a (Groups statements end) = then_ (statements_plain d a statements) (close_plain a _ end)

  pub statements_plain : (d : List Phrase) (a : Around) (x : Statements) → IsPlain a.home d (gathered_statements d a x)
  statements_plain d a NoStatements = no_step d
  statements_plain d a (MoreStatements first others) = then_ (statement_plain d a first) (statements_plain _ a others)
