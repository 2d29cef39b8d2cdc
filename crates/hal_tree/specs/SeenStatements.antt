-- Which statement of the grammar each statement of the program is.
use Rattle.std.specs.Prelude.{map, Option, Box}
use Rattle.std.specs.Option.{option_map}
use Rattle.std.specs.declared.alloc.Global.{Global}
use Rattle.hal_tree.specs.declared.statement.Guard as rust-guard
use Rattle.hal_tree.specs.declared.statement.Guard.TheVariants as guard
use Rattle.hal_tree.specs.declared.statement.Span as rust-span
use Rattle.hal_tree.specs.declared.statement.Span.TheVariants as span
use Rattle.hal_tree.specs.declared.statement.Selector as rust-selector
use Rattle.hal_tree.specs.declared.statement.Selector.TheVariants as selector
use Rattle.hal_tree.specs.declared.statement.EventAction as rust-action
use Rattle.hal_tree.specs.declared.statement.EventAction.TheVariants as action
use Rattle.hal_tree.specs.declared.statement.EventChange.{EventChange}
use Rattle.hal_tree.specs.declared.statement.Response as rust-response
use Rattle.hal_tree.specs.declared.statement.Response.TheVariants as response
use Rattle.hal_tree.specs.declared.statement.Start as rust-start
use Rattle.hal_tree.specs.declared.statement.Start.TheVariants as start
use Rattle.hal_tree.specs.declared.statement.Cycle as rust-cycle
use Rattle.hal_tree.specs.declared.statement.Cycle.TheVariants as cycle
use Rattle.hal_tree.specs.declared.statement.Schedule as rust-schedule
use Rattle.hal_tree.specs.declared.statement.Statement.{fold-Statement}
use Rattle.hal_tree.specs.declared.statement.Statement as rust-statement
use Rattle.hal_tree.specs.declared.statement.Basic.{fold-Basic}
use Rattle.hal_tree.specs.declared.statement.Basic as rust-basic
use Rattle.hal_tree.specs.declared.statement.Group.{fold-Group}
use Rattle.hal_tree.specs.declared.statement.Group as rust-group
use Rattle.hal_tree.specs.declared.statement.Basic.TheOpen.{Basic-F, Group-F, Statement-F}
use Rattle.hal_grammar.specs.Statements.{Guard, While, Until, Span, Stepped, Listed, Selector, EveryError, GroupErrors, OneError, EventAction, Signal, Set, Reset, Eventful, eventful, Response, System, Ignore, Start, StartAt, StartIn, StartOn, Cycle, Cyclic, CyclicEvery, CyclicAfter, Schedule, scheduling, Statement, Labelled, Basic, Null, Assignment, If, Do, DoCase, DoLoop, DoFor, Exit, Repeat, Return, Call, Read, Write, Update, Scheduled, Cancel, Terminate, Wait, WaitUntil, WaitForDependent, WaitFor, Event, UpdatePriority, OnErrorStatement, OnErrorResponse, OffError, SendError, Alternative, Group, Groups}
use Rattle.hal_tree.specs.Rows.{expressions, statements, alternative}
use Rattle.hal_tree.specs.SeenLeaves.{seen_name}
use Rattle.hal_tree.specs.SeenExpressions.{seen_expression, seen_reference}

-- WHILE or UNTIL, and a condition
unfoldable pub seen_guard : rust-guard.Guard → Guard
seen_guard (guard.While place condition) = While place (seen_expression condition)
seen_guard (guard.Until place condition) = Until place (seen_expression condition)

-- the values of a loop's variable
unfoldable pub seen_span : rust-span.Span → Span
seen_span (span.Range first last step) = Stepped (seen_expression first) (seen_expression last) (option_map seen_expression step)
seen_span (span.List values) = Listed (expressions (map seen_expression values.items))

-- the errors that are meant
abbrev pub seen_selector : rust-selector.Selector → Selector
seen_selector selector.Every = EveryError
seen_selector (selector.Group place group_at group) = GroupErrors place group_at group
seen_selector (selector.One place group_at group number_at number) = OneError place group_at group number_at number

-- SIGNAL, SET, RESET
abbrev pub seen_action : rust-action.EventAction → EventAction
seen_action action.Signal = Signal
seen_action action.Set = Set
seen_action action.Reset = Reset

-- an event and what happens to it
abbrev pub seen_event : EventChange → Eventful
seen_event event = eventful event.place (seen_action event.action) (seen_name event.name)

-- SYSTEM or IGNORE
abbrev pub seen_response : rust-response.Response → Response
seen_response response.System = System
seen_response response.Ignore = Ignore

-- when a process starts
unfoldable pub seen_start : rust-start.Start → Start
seen_start (start.At place time) = StartAt place (seen_expression time)
seen_start (start.In place time) = StartIn place (seen_expression time)
seen_start (start.On place event) = StartOn place (seen_expression event)

-- when a process runs again
unfoldable pub seen_cycle : rust-cycle.Cycle → Cycle
seen_cycle (cycle.Repeat place) = Cyclic place
seen_cycle (cycle.Every place time) = CyclicEvery place (seen_expression time)
seen_cycle (cycle.After place time) = CyclicAfter place (seen_expression time)

-- what SCHEDULE says
unfoldable pub seen_schedule : rust-schedule.Schedule → Schedule
seen_schedule s =
    scheduling (seen_name s.name) (option_map seen_start s.start) (option_map seen_expression s.priority) s.dependent (option_map seen_cycle s.cycle) (option_map seen_guard s.guard)

-- what a box holds
abbrev pub held : {X : Type 0} → Box X Global → X
held box = box.value

-- a statement without labels, where what stands below is seen already
abbrev pub basic_step : Basic-F Basic Group Statement → Basic
basic_step (Basic-F.Null place) = Null place
basic_step (Basic-F.Assignment place receivers value) = Assignment place (map seen_reference receivers.items) (seen_expression value)
basic_step (Basic-F.If place condition consequence other) = If place (seen_expression condition) consequence.value (alternative (option_map held other))
basic_step (Basic-F.Do place group) = Do place group
basic_step (Basic-F.DoCase place selector other group) = DoCase place (seen_expression selector) (alternative (option_map held other)) group
basic_step (Basic-F.DoLoop place guard group) = DoLoop place (seen_guard guard) group
basic_step (Basic-F.DoFor place temporary variable span guard group) = DoFor place temporary (seen_name variable) (seen_span span) (option_map seen_guard guard) group
basic_step (Basic-F.Exit place label) = Exit place (option_map seen_name label)
basic_step (Basic-F.Repeat place label) = Repeat place (option_map seen_name label)
basic_step (Basic-F.Return place value) = Return place (option_map seen_expression value)
basic_step (Basic-F.Call place name arguments receivers) =
    Call place (seen_name name) (expressions (map seen_expression arguments.items)) (map seen_reference receivers.items)
basic_step (Basic-F.Read place channel receivers) = Read place (seen_expression channel) (map seen_reference receivers.items)
basic_step (Basic-F.Write place channel items) = Write place (seen_expression channel) (expressions (map seen_expression items.items))
basic_step (Basic-F.Update place body close) = Update place (statements body.items) (option_map seen_name close)
basic_step (Basic-F.Schedule place schedule) = Scheduled place (seen_schedule schedule)
basic_step (Basic-F.Cancel place names) = Cancel place (map seen_name names.items)
basic_step (Basic-F.Terminate place names) = Terminate place (map seen_name names.items)
basic_step (Basic-F.Wait place time) = Wait place (seen_expression time)
basic_step (Basic-F.WaitUntil place time) = WaitUntil place (seen_expression time)
basic_step (Basic-F.WaitForDependent place) = WaitForDependent place
basic_step (Basic-F.WaitFor place event) = WaitFor place (seen_expression event)
basic_step (Basic-F.Event event) = Event (seen_event event)
basic_step (Basic-F.UpdatePriority place name priority) = UpdatePriority place (option_map seen_name name) (seen_expression priority)
basic_step (Basic-F.OnErrorStatement place selector handler) = OnErrorStatement place (seen_selector selector) handler.value
basic_step (Basic-F.OnErrorResponse place selector response event) = OnErrorResponse place (seen_selector selector) (seen_response response) (option_map seen_event event)
basic_step (Basic-F.OffError place selector) = OffError place (seen_selector selector)
basic_step (Basic-F.SendError place group_at group number_at number) = SendError place group_at group number_at number

-- a group
abbrev pub group_step : Group-F Basic Group Statement → Group
group_step g = Groups (statements g.statements.items) (option_map seen_name g.end)

-- a statement
abbrev pub statement_step : Statement-F Basic Group Statement → Statement
statement_step s = Labelled (map seen_name s.labels.items) s.basic

-- the statement of the grammar that this one is
unfoldable pub seen_statement : rust-statement.Statement → Statement
seen_statement = fold-Statement Basic Group Statement basic_step group_step statement_step

-- the statement without labels
unfoldable pub seen_basic : rust-basic.Basic → Basic
seen_basic = fold-Basic Basic Group Statement basic_step group_step statement_step

-- the group
unfoldable pub seen_group : rust-group.Group → Group
seen_group = fold-Group Basic Group Statement basic_step group_step statement_step

-- a statement in a box
abbrev pub seen_boxed : Box rust-statement.Statement Global → Statement
seen_boxed box = seen_statement box.value

-- what stands after ELSE, if there is one
abbrev pub seen_alternative : Option (Box rust-statement.Statement Global) → Alternative
seen_alternative other = alternative (option_map seen_boxed other)
