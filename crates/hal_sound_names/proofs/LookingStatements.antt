-- The phrases of a statement look up its names where the meaning does, and its marks are numbered as the meaning numbers them.
use Rattle.std.proofs.Common.{◌==◌, ℕ, suc, Bool, true, false, List, [], ◌∷◌, ◌++◌, length, Option, None, Some, refl}
use Rattle.std.specs.Prelude.{map, flat_map}
use Rattle.hal_base.specs.declared.refusal.Place.{Place}
use Rattle.hal_grammar.specs.Leaves.{Naming}
use Rattle.hal_grammar.specs.Expressions.{Expression, Expressions, Reference}
use Rattle.hal_grammar.specs.Statements.{Guard, While, Until, Span, Stepped, Listed, Eventful, Start, StartAt, StartIn, StartOn, Cycle, Cyclic, CyclicEvery, CyclicAfter, Schedule, Selector, Statement, Labelled, Basic, Null, Assignment, If, Do, DoCase, DoLoop, DoFor, Exit, Repeat, Return, Call, Read, Write, Update, Scheduled, Cancel, Terminate, Wait, WaitUntil, WaitForDependent, WaitFor, Event, UpdatePriority, OnErrorStatement, OnErrorResponse, OffError, SendError, Alternative, NoAlternative, Otherwise, Group, Groups, Statements, NoStatements, MoreStatements}
use Rattle.hal_phrases.specs.declared.around.Around.{Around}
use Rattle.hal_phrases.specs.declared.role.Role.{Role}
use Rattle.hal_phrases.specs.Surroundings.{inside, grouped, updated}
use Rattle.hal_phrases.specs.Phrases.{Phrase, Node, OfLabel, OfClose, OfProcess, OfEvent, OfAssignment, OfGroup, OfTemporaryGroup, OfVariable, OfExit, OfRepeat, OfReturn, OfCall, OfRead, OfWrite, OfUpdate, OfRealTime, OfHandler, OfResponse, OfOffError, OfSendError, add, gathered_each, gathered_any}
use Rattle.hal_phrases.specs.GatheredExpressions.{below}
use Rattle.hal_phrases.specs.GatheredStatements.{gathered_label, gathered_close, gathered_process, gathered_event, gathered_receiver, gathered_guard, gathered_span, gathered_start, gathered_cycle, gathered_limit, gathered_schedule, begun_for, around_for, gathered_statement, gathered_basic, gathered_alternative, gathered_group, gathered_statements}
use Rattle.hal_scope.specs.Sorts.{used}
use Rattle.hal_meaning.specs.Marks.{after_statement, after_basic, after_alternative, after_group, after_statements}
use Rattle.hal_sound_names.specs.LookedUp.{Looked, looked_name, reference_looked, any_looked, guard_looked, span_looked, start_looked, cycle_looked, schedule_looked, group_block, variable_looked, event_looked, looked_in_statement, looked_in_basic, looked_in_alternative, looked_in_group, looked_in_statements}
use Rattle.hal_sound_names.proofs.LookingUp.{Goes, no_step, then_, then_none, one, mark, opening, each}
use Rattle.hal_sound_names.proofs.LookingExpressions.{expression_goes, expressions_goes, reference_goes, optional_goes}

-- a phrase that looks up nothing and is no mark
abbrev IsQuiet : Node → Type 0
IsQuiet n = (unit m : ℕ) (d : List Phrase) (a : Around) → Goes unit (a.home == unit) m m (λ all. []) d (add d a n)

-- a phrase that is a mark
abbrev IsMark : Node → Type 0
IsMark n = (unit m : ℕ) (d : List Phrase) (a : Around) → Goes unit (a.home == unit) m (suc m) (λ all. []) d (add d a n)

label_quiet : (name : Naming) → IsQuiet (OfLabel name)
unfolding used
label_quiet name unit m d a = one unit m d a (OfLabel name) [] refl refl refl

close_quiet : (name : Naming) → IsQuiet (OfClose name)
unfolding used
close_quiet name unit m d a = one unit m d a (OfClose name) [] refl refl refl

assignment_quiet : (receivers : List Reference) (v : Expression) → IsQuiet (OfAssignment receivers v)
unfolding used
assignment_quiet receivers v unit m d a = one unit m d a (OfAssignment receivers v) [] refl refl refl

exit_quiet : (p : Place) (label : Option Naming) → IsQuiet (OfExit p label)
unfolding used
exit_quiet p label unit m d a = one unit m d a (OfExit p label) [] refl refl refl

repeat_quiet : (p : Place) (label : Option Naming) → IsQuiet (OfRepeat p label)
unfolding used
repeat_quiet p label unit m d a = one unit m d a (OfRepeat p label) [] refl refl refl

return_quiet : (p : Place) (v : Option Expression) → IsQuiet (OfReturn p v)
unfolding used
return_quiet p v unit m d a = one unit m d a (OfReturn p v) [] refl refl refl

read_quiet : (p : Place) → IsQuiet (OfRead p)
unfolding used
read_quiet p unit m d a = one unit m d a (OfRead p) [] refl refl refl

write_quiet : (p : Place) → IsQuiet (OfWrite p)
unfolding used
write_quiet p unit m d a = one unit m d a (OfWrite p) [] refl refl refl

response_quiet : (p : Place) (s : Selector) → IsQuiet (OfResponse p s)
unfolding used
response_quiet p s unit m d a = one unit m d a (OfResponse p s) [] refl refl refl

off_quiet : (p : Place) (s : Selector) → IsQuiet (OfOffError p s)
unfolding used
off_quiet p s unit m d a = one unit m d a (OfOffError p s) [] refl refl refl

send_quiet : (g : Place) (group : ℕ) (n : Place) (number : ℕ) → IsQuiet (OfSendError g group n number)
unfolding used
send_quiet g group n number unit m d a = one unit m d a (OfSendError g group n number) [] refl refl refl

group_marks : (labels : List Naming) (loops : Bool) → IsMark (OfGroup labels loops)
unfolding used
group_marks labels loops unit m d a = mark unit m d a (OfGroup labels loops) refl refl refl

update_marks : (p : Place) (labels : List Naming) → IsMark (OfUpdate p labels)
unfolding used
update_marks p labels unit m d a = mark unit m d a (OfUpdate p labels) refl refl refl

real_time_marks : (p : Place) → IsMark (OfRealTime p)
unfolding used
real_time_marks p unit m d a = mark unit m d a (OfRealTime p) refl refl refl

handler_marks : (p : Place) (s : Selector) → IsMark (OfHandler p s)
unfolding used
handler_marks p s unit m d a = mark unit m d a (OfHandler p s) refl refl refl

-- a phrase that looks up one name
process_goes : (unit m : ℕ) (a : Around) (d : List Phrase) (name : Naming) → Goes unit (a.home == unit) m m (λ all. looked_name a.block name ∷ []) d (gathered_process a d name)
unfolding used
process_goes unit m a d name = one unit m d a (OfProcess name) (looked_name a.block name ∷ []) refl refl refl

event_goes : (unit m : ℕ) (a : Around) (d : List Phrase) (e : Eventful) → Goes unit (a.home == unit) m m (λ all. event_looked a.block e) d (gathered_event a d e)
unfolding used
event_goes unit m a d e = one unit m d a (OfEvent e) (event_looked a.block e) refl refl refl

variable_goes : (unit m : ℕ) (d : List Phrase) (a : Around) (name : Naming) → Goes unit (a.home == unit) m m (λ all. looked_name a.block name ∷ []) d (add d a (OfVariable name))
unfolding used
variable_goes unit m d a name = one unit m d a (OfVariable name) (looked_name a.block name ∷ []) refl refl refl

calling : (unit m : ℕ) (d : List Phrase) (a : Around) (name : Naming) (arguments : Expressions) (receivers : List Reference)
    → Goes unit (a.home == unit) m m (λ all. looked_name a.block name ∷ []) d (add d a (OfCall name arguments receivers))
unfolding used
calling unit m d a name arguments receivers = one unit m d a (OfCall name arguments receivers) (looked_name a.block name ∷ []) refl refl refl

labels_goes : (unit m : ℕ) (a : Around) (d : List Phrase) (xs : List Naming) → Goes unit (a.home == unit) m m (λ all. []) d (gathered_each (gathered_label a) d xs)
labels_goes unit m a d [] = no_step unit (a.home == unit) m d
labels_goes unit m a d (x ∷ xs) = then_ (label_quiet x unit m d a) (labels_goes unit m a _ xs)

pub close_goes : (unit m : ℕ) (a : Around) (d : List Phrase) (o : Option Naming) → Goes unit (a.home == unit) m m (λ all. []) d (gathered_any (gathered_close a) d o)
close_goes unit m a d None = no_step unit (a.home == unit) m d
close_goes unit m a d (Some name) = close_quiet name unit m d a

processes_goes : (unit m : ℕ) (a : Around) (d : List Phrase) (xs : List Naming) → Goes unit (a.home == unit) m m (λ all. map (looked_name a.block) xs) d (gathered_each (gathered_process a) d xs)
processes_goes unit m a d [] = no_step unit (a.home == unit) m d
processes_goes unit m a d (x ∷ xs) = then_ (process_goes unit m a d x) (processes_goes unit m a _ xs)

any_process_goes : (unit m : ℕ) (a : Around) (d : List Phrase) (o : Option Naming) → Goes unit (a.home == unit) m m (λ all. any_looked (λ n. looked_name a.block n ∷ []) o) d (gathered_any (gathered_process a) d o)
any_process_goes unit m a d None = no_step unit (a.home == unit) m d
any_process_goes unit m a d (Some name) = process_goes unit m a d name

any_event_goes : (unit m : ℕ) (a : Around) (d : List Phrase) (o : Option Eventful) → Goes unit (a.home == unit) m m (λ all. any_looked (event_looked a.block) o) d (gathered_any (gathered_event a) d o)
any_event_goes unit m a d None = no_step unit (a.home == unit) m d
any_event_goes unit m a d (Some e) = event_goes unit m a d e

receivers_goes : (unit m : ℕ) (a : Around) (r : Role) (d : List Phrase) (xs : List Reference) → Goes unit (a.home == unit) m m (λ all. flat_map (reference_looked a.block) xs) d (gathered_each (gathered_receiver a r) d xs)
receivers_goes unit m a r d xs = each unit (a.home == unit) m (gathered_receiver a r) (reference_looked a.block) (λ e x. reference_goes unit m e a r x) d xs

guard_goes : (unit m : ℕ) (a : Around) (d : List Phrase) (x : Guard) → Goes unit (a.home == unit) m m (λ all. guard_looked a.block x) d (gathered_guard a d x)
unfolding gathered_guard
guard_goes unit m a d (While p condition) = expression_goes unit m d a _ condition
guard_goes unit m a d (Until p condition) = expression_goes unit m d a _ condition

any_guard_goes : (unit m : ℕ) (a : Around) (d : List Phrase) (o : Option Guard) → Goes unit (a.home == unit) m m (λ all. any_looked (guard_looked a.block) o) d (gathered_any (gathered_guard a) d o)
any_guard_goes unit m a d None = no_step unit (a.home == unit) m d
any_guard_goes unit m a d (Some g) = guard_goes unit m a d g

span_goes : (unit m : ℕ) (d : List Phrase) (a : Around) (x : Span) → Goes unit (a.home == unit) m m (λ all. span_looked a.block x) d (gathered_span d a x)
unfolding gathered_span
span_goes unit m d a (Stepped first last step) = then_ (expression_goes unit m d a _ first) (then_ (expression_goes unit m _ a _ last) (optional_goes unit m _ a _ step))
span_goes unit m d a (Listed values) = expressions_goes unit m d a _ values

start_goes : (unit m : ℕ) (a : Around) (d : List Phrase) (x : Start) → Goes unit (a.home == unit) m m (λ all. start_looked a.block x) d (gathered_start a d x)
unfolding gathered_start
start_goes unit m a d (StartAt p time) = expression_goes unit m d a _ time
start_goes unit m a d (StartIn p time) = expression_goes unit m d a _ time
start_goes unit m a d (StartOn p event) = expression_goes unit m d a _ event

any_start_goes : (unit m : ℕ) (a : Around) (d : List Phrase) (o : Option Start) → Goes unit (a.home == unit) m m (λ all. any_looked (start_looked a.block) o) d (gathered_any (gathered_start a) d o)
any_start_goes unit m a d None = no_step unit (a.home == unit) m d
any_start_goes unit m a d (Some x) = start_goes unit m a d x

cycle_goes : (unit m : ℕ) (a : Around) (d : List Phrase) (x : Cycle) → Goes unit (a.home == unit) m m (λ all. cycle_looked a.block x) d (gathered_cycle a d x)
unfolding gathered_cycle
cycle_goes unit m a d (Cyclic p) = no_step unit (a.home == unit) m d
cycle_goes unit m a d (CyclicEvery p time) = expression_goes unit m d a _ time
cycle_goes unit m a d (CyclicAfter p time) = expression_goes unit m d a _ time

any_cycle_goes : (unit m : ℕ) (a : Around) (d : List Phrase) (o : Option Cycle) → Goes unit (a.home == unit) m m (λ all. any_looked (cycle_looked a.block) o) d (gathered_any (gathered_cycle a) d o)
any_cycle_goes unit m a d None = no_step unit (a.home == unit) m d
any_cycle_goes unit m a d (Some x) = cycle_goes unit m a d x

limit_goes : (unit m : ℕ) (a : Around) (d : List Phrase) (x : Guard) → Goes unit (a.home == unit) m m (λ all. guard_looked a.block x) d (gathered_limit a d x)
unfolding gathered_limit
limit_goes unit m a d (While p condition) = expression_goes unit m d a _ condition
limit_goes unit m a d (Until p condition) = expression_goes unit m d a _ condition

any_limit_goes : (unit m : ℕ) (a : Around) (d : List Phrase) (o : Option Guard) → Goes unit (a.home == unit) m m (λ all. any_looked (guard_looked a.block) o) d (gathered_any (gathered_limit a) d o)
any_limit_goes unit m a d None = no_step unit (a.home == unit) m d
any_limit_goes unit m a d (Some g) = limit_goes unit m a d g

schedule_goes : (unit m : ℕ) (d : List Phrase) (a : Around) (s : Schedule) → Goes unit (a.home == unit) m m (λ all. schedule_looked a.block s) d (gathered_schedule d a s)
unfolding gathered_schedule
schedule_goes unit m d a s =
    then_ (process_goes unit m a d s.name) (then_ (any_start_goes unit m a _ s.start) (then_ (optional_goes unit m _ a _ s.priority) (then_ (any_cycle_goes unit m a _ s.cycle) (any_limit_goes unit m a _ s.guard))))

-- a DO FOR group: its variable, or its own block
for_goes : (unit m n : ℕ) (d : List Phrase) (a : Around) (labels : List Naming) (temporary : Bool) (variable : Naming) (e : List Phrase) (g : List ℕ → ℕ → List Looked)
    → Goes unit (a.home == unit) (suc m) n (λ all. g all (around_for d a temporary).block) (begun_for d a labels temporary variable) e
    → Goes unit (a.home == unit) m n (λ all. variable_looked a.block temporary variable ++ g all (group_block all a.block temporary m)) d e
unfolding begun_for around_for used
for_goes unit m n d a labels true variable e g inner = opening unit m n d a (OfTemporaryGroup labels variable) e g refl refl refl inner
for_goes unit m n d a labels false variable e g inner = then_ (group_marks labels true unit m d a) (then_ (variable_goes unit (suc m) _ (below d a) variable) inner)

mutual
  unfolding gathered_statement gathered_basic gathered_alternative gathered_group gathered_statements around_for

  pub statement_goes : (unit m : ℕ) (d : List Phrase) (a : Around) (x : Statement) → Goes unit (a.home == unit) m (after_statement m x) (λ all. looked_in_statement all a.block m x) d (gathered_statement d a x)
  statement_goes unit m d a (Labelled labels basic) = then_ (labels_goes unit m a d labels) (basic_goes unit m _ a labels basic)

  basic_goes : (unit m : ℕ) (d : List Phrase) (a : Around) (labels : List Naming) (x : Basic) → Goes unit (a.home == unit) m (after_basic m x) (λ all. looked_in_basic all a.block m x) d (gathered_basic d a labels x)
  basic_goes unit m d a labels (Null p) = no_step unit (a.home == unit) m d
  basic_goes unit m d a labels (Assignment p receivers v) =
      then_ (assignment_quiet receivers v unit m d a) (then_ (receivers_goes unit m (below d a) _ _ receivers) (expression_goes unit m _ (below d a) _ v))
  basic_goes unit m d a labels (If p condition consequence alternative) =
      then_ (expression_goes unit m d a _ condition) (then_ (statement_goes unit m _ (inside a) consequence) (alternative_goes unit (after_statement m consequence) _ (inside a) alternative))
  basic_goes unit m d a labels (Do p group) = then_ (group_marks labels false unit m d a) (group_goes unit (suc m) _ (grouped (length d) a) group)
  basic_goes unit m d a labels (DoCase p selector alternative group) =
      then_ (group_marks labels false unit m d a) (then_ (expression_goes unit (suc m) _ (below d a) _ selector)
      (then_ (alternative_goes unit (suc m) _ (grouped (length d) a) alternative) (group_goes unit (after_alternative (suc m) alternative) _ (grouped (length d) a) group)))
  basic_goes unit m d a labels (DoLoop p guard group) =
      then_ (group_marks labels true unit m d a) (then_ (guard_goes unit (suc m) (below d a) _ guard) (group_goes unit (suc m) _ (grouped (length d) a) group))
  basic_goes unit m d a labels (DoFor p true variable span guard group) =
      for_goes unit m (after_group (suc m) group) d a labels true variable _ (λ all b. span_looked b span ++ (any_looked (guard_looked b) guard ++ looked_in_group all b (suc m) group))
      (then_ (span_goes unit (suc m) _ (around_for d a true) span) (then_ (any_guard_goes unit (suc m) (around_for d a true) _ guard) (group_goes unit (suc m) _ (around_for d a true) group)))
  basic_goes unit m d a labels (DoFor p false variable span guard group) =
      for_goes unit m (after_group (suc m) group) d a labels false variable _ (λ all b. span_looked b span ++ (any_looked (guard_looked b) guard ++ looked_in_group all b (suc m) group))
      (then_ (span_goes unit (suc m) _ (around_for d a false) span) (then_ (any_guard_goes unit (suc m) (around_for d a false) _ guard) (group_goes unit (suc m) _ (around_for d a false) group)))
  basic_goes unit m d a labels (Exit p label) = exit_quiet p label unit m d a
  basic_goes unit m d a labels (Repeat p label) = repeat_quiet p label unit m d a
  basic_goes unit m d a labels (Return p v) = then_ (return_quiet p v unit m d a) (optional_goes unit m _ (below d a) _ v)
  basic_goes unit m d a labels (Call p name arguments receivers) =
      then_ (calling unit m d a name arguments receivers) (then_ (expressions_goes unit m _ (below d a) _ arguments) (receivers_goes unit m (below d a) _ _ receivers))
  basic_goes unit m d a labels (Read p channel receivers) = then_ (read_quiet p unit m d a) (then_ (expression_goes unit m _ (below d a) _ channel) (receivers_goes unit m (below d a) _ _ receivers))
  basic_goes unit m d a labels (Write p channel items) = then_ (write_quiet p unit m d a) (then_ (expression_goes unit m _ (below d a) _ channel) (expressions_goes unit m _ (below d a) _ items))
  basic_goes unit m d a labels (Update p body close) =
      then_ (update_marks p labels unit m d a) (then_none (statements_goes unit (suc m) _ (updated (length d) a) body) (close_goes unit (after_statements (suc m) body) (updated (length d) a) _ close))
  basic_goes unit m d a labels (Scheduled p schedule) = then_ (real_time_marks p unit m d a) (schedule_goes unit (suc m) _ (below d a) schedule)
  basic_goes unit m d a labels (Cancel p names) = then_ (real_time_marks p unit m d a) (processes_goes unit (suc m) (below d a) _ names)
  basic_goes unit m d a labels (Terminate p names) = then_ (real_time_marks p unit m d a) (processes_goes unit (suc m) (below d a) _ names)
  basic_goes unit m d a labels (Wait p time) = then_ (real_time_marks p unit m d a) (expression_goes unit (suc m) _ (below d a) _ time)
  basic_goes unit m d a labels (WaitUntil p time) = then_ (real_time_marks p unit m d a) (expression_goes unit (suc m) _ (below d a) _ time)
  basic_goes unit m d a labels (WaitForDependent p) = real_time_marks p unit m d a
  basic_goes unit m d a labels (WaitFor p event) = then_ (real_time_marks p unit m d a) (expression_goes unit (suc m) _ (below d a) _ event)
  basic_goes unit m d a labels (Event event) = event_goes unit m a d event
  basic_goes unit m d a labels (UpdatePriority p name priority) =
      then_ (real_time_marks p unit m d a) (then_ (any_process_goes unit (suc m) (below d a) _ name) (expression_goes unit (suc m) _ (below d a) _ priority))
  basic_goes unit m d a labels (OnErrorStatement p selector handler) = then_ (handler_marks p selector unit m d a) (statement_goes unit (suc m) _ (inside a) handler)
  basic_goes unit m d a labels (OnErrorResponse p selector response event) = then_ (response_quiet p selector unit m d a) (any_event_goes unit m (below d a) _ event)
  basic_goes unit m d a labels (OffError p selector) = off_quiet p selector unit m d a
  basic_goes unit m d a labels (SendError p group_at group number_at number) = send_quiet group_at group number_at number unit m d a

  alternative_goes : (unit m : ℕ) (d : List Phrase) (a : Around) (x : Alternative) → Goes unit (a.home == unit) m (after_alternative m x) (λ all. looked_in_alternative all a.block m x) d (gathered_alternative d a x)
  alternative_goes unit m d a NoAlternative = no_step unit (a.home == unit) m d
  alternative_goes unit m d a (Otherwise statement) = statement_goes unit m d a statement

  group_goes : (unit m : ℕ) (d : List Phrase) (a : Around) (x : Group) → Goes unit (a.home == unit) m (after_group m x) (λ all. looked_in_group all a.block m x) d (gathered_group d a x)
  group_goes unit m d a (Groups statements end) = then_none (statements_goes unit m d a statements) (close_goes unit (after_statements m statements) a _ end)

  pub statements_goes : (unit m : ℕ) (d : List Phrase) (a : Around) (x : Statements) → Goes unit (a.home == unit) m (after_statements m x) (λ all. looked_in_statements all a.block m x) d (gathered_statements d a x)
  statements_goes unit m d a NoStatements = no_step unit (a.home == unit) m d
  statements_goes unit m d a (MoreStatements first others) = then_ (statement_goes unit m d a first) (statements_goes unit (after_statement m first) _ a others)
