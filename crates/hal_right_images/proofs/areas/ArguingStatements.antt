-- The references that are arguments in statements stand among their phrases.
use Rattle.std.proofs.Common.{Bool, true, false, List, length, Option, refl}
use Rattle.hal_grammar.specs.Leaves.{Naming}
use Rattle.hal_grammar.specs.Expressions.{Reference}
use Rattle.hal_grammar.specs.Statements.{Guard, While, Until, Span, Stepped, Listed, Eventful, Start, StartAt, StartIn, StartOn, Cycle, Cyclic, CyclicEvery, CyclicAfter, Schedule, Statement, Labelled, Basic, Null, Assignment, If, Do, DoCase, DoLoop, DoFor, Exit, Repeat, Return, Call, Read, Write, Update, Scheduled, Cancel, Terminate, Wait, WaitUntil, WaitForDependent, WaitFor, Event, UpdatePriority, OnErrorStatement, OnErrorResponse, OffError, SendError, Alternative, NoAlternative, Otherwise, Group, Groups, Statements, NoStatements, MoreStatements}
use Rattle.hal_phrases.specs.declared.around.Around.{Around}
use Rattle.hal_phrases.specs.declared.role.Role.{Role}
use Rattle.hal_phrases.specs.Surroundings.{inside, grouped, updated}
use Rattle.hal_phrases.specs.Phrases.{Node, Phrase, phrase, add, gathered_each, gathered_any, OfCall}
use Rattle.hal_phrases.specs.declared.role.Role.TheVariants as role
use Rattle.hal_phrases.specs.GatheredExpressions.{below, gathered_all}
use Rattle.hal_phrases.specs.GatheredStatements.{gathered_label, gathered_close, gathered_process, gathered_event, gathered_receiver, gathered_guard, gathered_span, gathered_start, gathered_cycle, gathered_limit, gathered_schedule, begun_for, around_for, gathered_statement, gathered_basic, gathered_alternative, gathered_group, gathered_statements}
use Rattle.hal_right_images.proofs.areas.Arguing.{Puts, further, no_step, own_stand, then_, one, call, each, any, trees_said, outputs_said}
use Rattle.hal_fit_rules.proofs.Beginning as begun
use Rattle.hal_fit_rules.proofs.BegunExpressions.{expressions_first, reference_first}
use Rattle.hal_fit_names.proofs.PlainExpressions.{expressions_plain}
use Rattle.hal_right_images.proofs.areas.ArguingExpressions.{expression_step, expressions_step, reference_step}
use Rattle.hal_right_images.proofs.areas.ArguingDeclarations.{optional_step}

labels_step : (a : Around) (d : List Phrase) (xs : List Naming) → Puts d (gathered_each (gathered_label a) d xs)
labels_step a d xs = each (gathered_label a) (λ e x. one e a _ refl) d xs

pub close_step : (a : Around) (d : List Phrase) (o : Option Naming) → Puts d (gathered_any (gathered_close a) d o)
close_step a d o = any (gathered_close a) (λ e x. one e a _ refl) d o

processes_step : (a : Around) (d : List Phrase) (xs : List Naming) → Puts d (gathered_each (gathered_process a) d xs)
processes_step a d xs = each (gathered_process a) (λ e x. one e a _ refl) d xs

process_step : (a : Around) (d : List Phrase) (o : Option Naming) → Puts d (gathered_any (gathered_process a) d o)
process_step a d o = any (gathered_process a) (λ e x. one e a _ refl) d o

event_step : (a : Around) (d : List Phrase) (o : Option Eventful) → Puts d (gathered_any (gathered_event a) d o)
event_step a d o = any (gathered_event a) (λ e x. one e a _ refl) d o

receivers_step : (a : Around) (r : Role) (d : List Phrase) (xs : List Reference) → Puts d (gathered_each (gathered_receiver a r) d xs)
receivers_step a r d xs = each (gathered_receiver a r) (λ e x. reference_step e a r x) d xs

guard_step : (a : Around) (d : List Phrase) (x : Guard) → Puts d (gathered_guard a d x)
unfolding gathered_guard
guard_step a d (While p condition) = expression_step d a _ condition
guard_step a d (Until p condition) = expression_step d a _ condition

span_step : (d : List Phrase) (a : Around) (x : Span) → Puts d (gathered_span d a x)
unfolding gathered_span
span_step d a (Stepped first last step) = then_ (expression_step d a _ first) (then_ (expression_step _ a _ last) (optional_step _ a _ step))
span_step d a (Listed values) = expressions_step d a _ values

start_step : (a : Around) (d : List Phrase) (x : Start) → Puts d (gathered_start a d x)
unfolding gathered_start
start_step a d (StartAt p time) = expression_step d a _ time
start_step a d (StartIn p time) = expression_step d a _ time
start_step a d (StartOn p event) = expression_step d a _ event

cycle_step : (a : Around) (d : List Phrase) (x : Cycle) → Puts d (gathered_cycle a d x)
unfolding gathered_cycle
cycle_step a d (Cyclic p) = no_step d
cycle_step a d (CyclicEvery p time) = expression_step d a _ time
cycle_step a d (CyclicAfter p time) = expression_step d a _ time

limit_step : (a : Around) (d : List Phrase) (x : Guard) → Puts d (gathered_limit a d x)
unfolding gathered_limit
limit_step a d (While p condition) = expression_step d a _ condition
limit_step a d (Until p condition) = expression_step d a _ condition

schedule_step : (d : List Phrase) (a : Around) (s : Schedule) → Puts d (gathered_schedule d a s)
unfolding gathered_schedule
schedule_step d a s =
    then_ (one d a _ refl) (then_ (any (gathered_start a) (start_step a) _ s.start) (then_ (optional_step _ a _ s.priority)
    (then_ (any (gathered_cycle a) (cycle_step a) _ s.cycle) (any (gathered_limit a) (limit_step a) _ s.guard))))

-- so are those of a DO FOR group where those in it are
for_step : (d : List Phrase) (a : Around) (labels : List Naming) (temporary : Bool) (variable : Naming) (e : List Phrase)
    → Puts (begun_for d a labels temporary variable) e → Puts d e
unfolding begun_for around_for
for_step d a labels true variable e inner = then_ (one d a _ refl) inner
for_step d a labels false variable e inner = then_ (one d a _ refl) (then_ (one _ (below d a) _ refl) inner)

mutual
  unfolding gathered_statement gathered_basic gathered_alternative gathered_group gathered_statements

  pub statement_step : (d : List Phrase) (a : Around) (x : Statement) → Puts d (gathered_statement d a x)
  statement_step d a (Labelled labels basic) = then_ (labels_step a d labels) (basic_step _ a labels basic)

  basic_step : (d : List Phrase) (a : Around) (labels : List Naming) (x : Basic) → Puts d (gathered_basic d a labels x)
  basic_step d a labels (Null p) = no_step d
  basic_step d a labels (Assignment p receivers value) = then_ (one d a _ refl) (then_ (receivers_step (below d a) _ _ receivers) (expression_step _ (below d a) _ value))
  basic_step d a labels (If p condition consequence alternative) =
      then_ (expression_step d a _ condition) (then_ (statement_step _ (inside a) consequence) (alternative_step _ (inside a) alternative))
  basic_step d a labels (Do p group) = then_ (one d a _ refl) (group_step _ (grouped (length d) a) group)
  basic_step d a labels (DoCase p selector alternative group) =
      then_ (one d a _ refl) (then_ (expression_step _ (below d a) _ selector) (then_ (alternative_step _ (grouped (length d) a) alternative) (group_step _ (grouped (length d) a) group)))
  basic_step d a labels (DoLoop p guard group) = then_ (one d a _ refl) (then_ (guard_step (below d a) _ guard) (group_step _ (grouped (length d) a) group))
  basic_step d a labels (DoFor p temporary variable span guard group) =
      for_step d a labels temporary variable _ (then_ (span_step _ (around_for d a temporary) span)
      (then_ (any (gathered_guard (around_for d a temporary)) (guard_step (around_for d a temporary)) _ guard) (group_step _ (around_for d a temporary) group)))
  basic_step d a labels (Exit p label) = one d a _ refl
  basic_step d a labels (Repeat p label) = one d a _ refl
  basic_step d a labels (Return p value) = then_ (one d a _ refl) (optional_step _ (below d a) _ value)
  basic_step d a labels (Call p name arguments receivers) =
      let n : Node = OfCall name arguments receivers in
      let e : List Phrase = add d a n in
      let f : List Phrase = gathered_all e (below d a) role.Input arguments in
      call d a n (then_ (expressions_step e (below d a) role.Input arguments) (receivers_step (below d a) role.Output f receivers))
      (λ ps first. (
        trees_said ps (phrase (length d) a n) e (below d a) role.Input arguments refl refl d refl (own_stand d a n refl)
            (begun.then_ (begun.each (gathered_receiver (below d a) role.Output) (λ g x. reference_first g (below d a) role.Output x) f receivers) first),
        outputs_said ps (phrase (length d) a n) f (below d a) receivers refl refl d refl
            (further (below d a).home (own_stand d a n refl) (expressions_first e (below d a) role.Input arguments) (expressions_plain e (below d a) role.Input arguments)) first,
      ))
  basic_step d a labels (Read p channel receivers) = then_ (one d a _ refl) (then_ (expression_step _ (below d a) _ channel) (receivers_step (below d a) _ _ receivers))
  basic_step d a labels (Write p channel items) = then_ (one d a _ refl) (then_ (expression_step _ (below d a) _ channel) (expressions_step _ (below d a) _ items))
  basic_step d a labels (Update p body close) = then_ (one d a _ refl) (then_ (statements_step _ (updated (length d) a) body) (close_step (updated (length d) a) _ close))
  basic_step d a labels (Scheduled p schedule) = then_ (one d a _ refl) (schedule_step _ (below d a) schedule)
  basic_step d a labels (Cancel p names) = then_ (one d a _ refl) (processes_step (below d a) _ names)
  basic_step d a labels (Terminate p names) = then_ (one d a _ refl) (processes_step (below d a) _ names)
  basic_step d a labels (Wait p time) = then_ (one d a _ refl) (expression_step _ (below d a) _ time)
  basic_step d a labels (WaitUntil p time) = then_ (one d a _ refl) (expression_step _ (below d a) _ time)
  basic_step d a labels (WaitForDependent p) = one d a _ refl
  basic_step d a labels (WaitFor p event) = then_ (one d a _ refl) (expression_step _ (below d a) _ event)
  basic_step d a labels (Event event) = one d a _ refl
  basic_step d a labels (UpdatePriority p name priority) = then_ (one d a _ refl) (then_ (process_step (below d a) _ name) (expression_step _ (below d a) _ priority))
  basic_step d a labels (OnErrorStatement p selector handler) = then_ (one d a _ refl) (statement_step _ (inside a) handler)
  basic_step d a labels (OnErrorResponse p selector response event) = then_ (one d a _ refl) (event_step (below d a) _ event)
  basic_step d a labels (OffError p selector) = one d a _ refl
  basic_step d a labels (SendError p group_at group number_at number) = one d a _ refl

  alternative_step : (d : List Phrase) (a : Around) (x : Alternative) → Puts d (gathered_alternative d a x)
  alternative_step d a NoAlternative = no_step d
  alternative_step d a (Otherwise statement) = statement_step d a statement

  group_step : (d : List Phrase) (a : Around) (x : Group) → Puts d (gathered_group d a x)
  group_step d a (Groups statements end) = then_ (statements_step d a statements) (close_step a _ end)

  statements_step : (d : List Phrase) (a : Around) (x : Statements) → Puts d (gathered_statements d a x)
  statements_step d a NoStatements = no_step d
  statements_step d a (MoreStatements first others) = then_ (statement_step d a first) (statements_step _ a others)
