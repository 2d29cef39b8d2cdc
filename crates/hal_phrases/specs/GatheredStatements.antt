-- The phrases of statements, behind those so far.
use Rattle.std.specs.Prelude.{Bool, true, false, List, length}
use Rattle.hal_grammar.specs.Leaves.{Naming}
use Rattle.hal_grammar.specs.Expressions.{Reference}
use Rattle.hal_grammar.specs.Statements.{Guard, While, Until, Span, Stepped, Listed, Eventful, Start, StartAt, StartIn, StartOn, Cycle, Cyclic, CyclicEvery, CyclicAfter, Schedule, Statement, Labelled, Basic, Null, Assignment, If, Do, DoCase, DoLoop, DoFor, Exit, Repeat, Return, Call, Read, Write, Update, Scheduled, Cancel, Terminate, Wait, WaitUntil, WaitForDependent, WaitFor, Event, UpdatePriority, OnErrorStatement, OnErrorResponse, OffError, SendError, Alternative, NoAlternative, Otherwise, Group, Groups, Statements, NoStatements, MoreStatements}
use Rattle.hal_phrases.specs.declared.around.Around.{Around}
use Rattle.hal_phrases.specs.declared.role.Role.{Role}
use Rattle.hal_phrases.specs.declared.role.Role.TheVariants as role
use Rattle.hal_phrases.specs.Surroundings.{inside, grouped, scoped, updated}
use Rattle.hal_phrases.specs.Phrases.{Phrase, add, gathered_each, gathered_any, OfClose, OfLabel, OfAssignment, OfGroup, OfTemporaryGroup, OfVariable, OfExit, OfRepeat, OfReturn, OfCall, OfRead, OfWrite, OfUpdate, OfRealTime, OfProcess, OfEvent, OfHandler, OfResponse, OfOffError, OfSendError}
use Rattle.hal_phrases.specs.GatheredExpressions.{below, gathered, gathered_all, gathered_reference}
use Rattle.hal_phrases.specs.GatheredDeclarations.{gathered_optional}

-- a label
abbrev pub gathered_label : Around → List Phrase → Naming → List Phrase
gathered_label a d name = add d a (OfLabel name)

-- the name behind CLOSE or END
abbrev pub gathered_close : Around → List Phrase → Naming → List Phrase
gathered_close a d name = add d a (OfClose name)

-- the name of a process
abbrev pub gathered_process : Around → List Phrase → Naming → List Phrase
gathered_process a d name = add d a (OfProcess name)

-- an event that is signalled, set or reset
abbrev pub gathered_event : Around → List Phrase → Eventful → List Phrase
gathered_event a d event = add d a (OfEvent event)

-- a reference that takes a value
abbrev pub gathered_receiver : Around → Role → List Phrase → Reference → List Phrase
gathered_receiver a r d reference = gathered_reference d a r reference

-- WHILE or UNTIL of a loop
unfoldable pub gathered_guard : Around → List Phrase → Guard → List Phrase
gathered_guard a d (While p condition) = gathered d a role.Condition condition
gathered_guard a d (Until p condition) = gathered d a role.Condition condition

-- the values of a loop's variable
unfoldable pub gathered_span : List Phrase → Around → Span → List Phrase
gathered_span d a (Stepped first last step) = gathered_optional (gathered (gathered d a role.Bound first) a role.Bound last) a role.Bound step
gathered_span d a (Listed values) = gathered_all d a role.Bound values

-- when a process starts
unfoldable pub gathered_start : Around → List Phrase → Start → List Phrase
gathered_start a d (StartAt p time) = gathered d a role.Time time
gathered_start a d (StartIn p time) = gathered d a role.Time time
gathered_start a d (StartOn p event) = gathered d a role.Event event

-- when a process runs again
unfoldable pub gathered_cycle : Around → List Phrase → Cycle → List Phrase
gathered_cycle a d (Cyclic p) = d
gathered_cycle a d (CyclicEvery p time) = gathered d a role.Time time
gathered_cycle a d (CyclicAfter p time) = gathered d a role.Time time

-- WHILE or UNTIL of SCHEDULE
unfoldable pub gathered_limit : Around → List Phrase → Guard → List Phrase
gathered_limit a d (While p condition) = gathered d a role.Event condition
gathered_limit a d (Until p condition) = gathered d a role.EventOrTime condition

-- what SCHEDULE says
unfoldable pub gathered_schedule : List Phrase → Around → Schedule → List Phrase
gathered_schedule d a s =
    gathered_any (gathered_limit a) (gathered_any (gathered_cycle a) (gathered_optional (gathered_any (gathered_start a) (gathered_process a d s.name) s.start) a role.Priority s.priority) s.cycle) s.guard

-- the phrase of a DO FOR group, and its variable where it isn't TEMPORARY
unfoldable pub begun_for : List Phrase → Around → List Naming → Bool → Naming → List Phrase
begun_for d a labels true variable = add d a (OfTemporaryGroup labels variable)
begun_for d a labels false variable = add (add d a (OfGroup labels true)) (below d a) (OfVariable variable)

-- around the statements of a DO FOR group: a TEMPORARY variable opens a scope
unfoldable pub around_for : List Phrase → Around → Bool → Around
around_for d a true = scoped (length d) (grouped (length d) a)
around_for d a false = grouped (length d) a

unfoldable mutual
  -- labels and what they stand before
  pub gathered_statement : List Phrase → Around → Statement → List Phrase
  gathered_statement d a (Labelled labels basic) = gathered_basic (gathered_each (gathered_label a) d labels) a labels basic

  -- a statement with these labels
  pub gathered_basic : List Phrase → Around → List Naming → Basic → List Phrase
  gathered_basic d a labels (Null p) = d
  gathered_basic d a labels (Assignment p receivers value) =
      gathered (gathered_each (gathered_receiver (below d a) role.Receiver) (add d a (OfAssignment receivers value)) receivers) (below d a) role.Assigned value
  gathered_basic d a labels (If p condition consequence alternative) =
      gathered_alternative (gathered_statement (gathered d a role.Condition condition) (inside a) consequence) (inside a) alternative
  gathered_basic d a labels (Do p group) = gathered_group (add d a (OfGroup labels false)) (grouped (length d) a) group
  gathered_basic d a labels (DoCase p selector alternative group) =
      gathered_group (gathered_alternative (gathered (add d a (OfGroup labels false)) (below d a) role.Case selector) (grouped (length d) a) alternative) (grouped (length d) a) group
  gathered_basic d a labels (DoLoop p guard group) =
      gathered_group (gathered_guard (below d a) (add d a (OfGroup labels true)) guard) (grouped (length d) a) group
  gathered_basic d a labels (DoFor p temporary variable span guard group) =
      gathered_group (gathered_any (gathered_guard (around_for d a temporary)) (gathered_span (begun_for d a labels temporary variable) (around_for d a temporary) span) guard) (around_for d a temporary) group
  gathered_basic d a labels (Exit p label) = add d a (OfExit p label)
  gathered_basic d a labels (Repeat p label) = add d a (OfRepeat p label)
  gathered_basic d a labels (Return p value) = gathered_optional (add d a (OfReturn p value)) (below d a) role.Returned value
  gathered_basic d a labels (Call p name arguments receivers) =
      gathered_each (gathered_receiver (below d a) role.Output) (gathered_all (add d a (OfCall name arguments receivers)) (below d a) role.Input arguments) receivers
  gathered_basic d a labels (Read p channel receivers) =
      gathered_each (gathered_receiver (below d a) role.Receiver) (gathered (add d a (OfRead p)) (below d a) role.Channel channel) receivers
  gathered_basic d a labels (Write p channel items) = gathered_all (gathered (add d a (OfWrite p)) (below d a) role.Channel channel) (below d a) role.Item items
  gathered_basic d a labels (Update p body close) =
      gathered_any (gathered_close (updated (length d) a)) (gathered_statements (add d a (OfUpdate p labels)) (updated (length d) a) body) close
  gathered_basic d a labels (Scheduled p schedule) = gathered_schedule (add d a (OfRealTime p)) (below d a) schedule
  gathered_basic d a labels (Cancel p names) = gathered_each (gathered_process (below d a)) (add d a (OfRealTime p)) names
  gathered_basic d a labels (Terminate p names) = gathered_each (gathered_process (below d a)) (add d a (OfRealTime p)) names
  gathered_basic d a labels (Wait p time) = gathered (add d a (OfRealTime p)) (below d a) role.Time time
  gathered_basic d a labels (WaitUntil p time) = gathered (add d a (OfRealTime p)) (below d a) role.Time time
  gathered_basic d a labels (WaitForDependent p) = add d a (OfRealTime p)
  gathered_basic d a labels (WaitFor p event) = gathered (add d a (OfRealTime p)) (below d a) role.Event event
  gathered_basic d a labels (Event event) = add d a (OfEvent event)
  gathered_basic d a labels (UpdatePriority p name priority) =
      gathered (gathered_any (gathered_process (below d a)) (add d a (OfRealTime p)) name) (below d a) role.Priority priority
  gathered_basic d a labels (OnErrorStatement p selector handler) = gathered_statement (add d a (OfHandler p selector)) (inside a) handler
  gathered_basic d a labels (OnErrorResponse p selector response event) = gathered_any (gathered_event (below d a)) (add d a (OfResponse p selector)) event
  gathered_basic d a labels (OffError p selector) = add d a (OfOffError p selector)
  gathered_basic d a labels (SendError p group_at group number_at number) = add d a (OfSendError group_at group number_at number)

  -- what stands after ELSE
  pub gathered_alternative : List Phrase → Around → Alternative → List Phrase
  gathered_alternative d a NoAlternative = d
  gathered_alternative d a (Otherwise statement) = gathered_statement d a statement

  -- the statements of a group, and the name after END
  pub gathered_group : List Phrase → Around → Group → List Phrase
  gathered_group d a (Groups statements end) = gathered_any (gathered_close a) (gathered_statements d a statements) end

  -- statements one after another
  pub gathered_statements : List Phrase → Around → Statements → List Phrase
  gathered_statements d a NoStatements = d
  gathered_statements d a (MoreStatements first others) = gathered_statements (gathered_statement d a first) a others
