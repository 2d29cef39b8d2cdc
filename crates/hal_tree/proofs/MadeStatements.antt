-- How the nodes of statements are seen, as code makes them.
use Rattle.std.proofs.Common.{rules, ◌≡◌, ℕ, map, Option, Bool, Box, Vec, refl}
use Rattle.std.specs.Option.{option_map}
use Rattle.std.specs.declared.alloc.Global.{Global}
use Rattle.hal_base.specs.declared.refusal.Place.{Place}
use Rattle.hal_tree.specs.declared.leaf.Identifier.{Identifier}
use Rattle.hal_tree.specs.declared.expression.Expr.{Expr}
use Rattle.hal_tree.specs.declared.expression.Reference.{Reference}
use Rattle.hal_tree.specs.declared.statement.Guard.{Guard}
use Rattle.hal_tree.specs.declared.statement.Guard.TheVariants as guard
use Rattle.hal_tree.specs.declared.statement.Span.{Span}
use Rattle.hal_tree.specs.declared.statement.Span.TheVariants as span
use Rattle.hal_tree.specs.declared.statement.Selector.{Selector}
use Rattle.hal_tree.specs.declared.statement.EventChange.{EventChange}
use Rattle.hal_tree.specs.declared.statement.Response.{Response}
use Rattle.hal_tree.specs.declared.statement.Start.TheVariants as start
use Rattle.hal_tree.specs.declared.statement.Cycle.TheVariants as cycle
use Rattle.hal_tree.specs.declared.statement.Schedule.{Schedule}
use Rattle.hal_tree.specs.declared.statement.Statement.{Statement, the_lemmas}
use Rattle.hal_tree.specs.declared.statement.Basic.TheVariants as basic
use Rattle.hal_tree.specs.declared.statement.Group.{Group, out-Group, roll-Group}
use Rattle.hal_grammar.specs.Statements as plain
use Rattle.hal_tree.specs.Rows.{expressions, statements}
use Rattle.hal_tree.specs.SeenLeaves.{seen_name}
use Rattle.hal_tree.specs.SeenExpressions.{seen_expression, seen_reference}
use Rattle.hal_tree.specs.SeenStatements.{seen_guard, seen_span, seen_selector, seen_event, seen_response, seen_start, seen_cycle, seen_schedule, seen_statement, seen_basic, seen_group, seen_alternative}

pub made_while : (place : Place) (condition : Expr) → seen_guard (guard.While place condition) ≡ plain.While place (seen_expression condition)
unfolding seen_guard
made_while place condition = refl

pub made_until : (place : Place) (condition : Expr) → seen_guard (guard.Until place condition) ≡ plain.Until place (seen_expression condition)
unfolding seen_guard
made_until place condition = refl

pub made_range_span : (first last : Expr) (step : Option Expr) → seen_span (span.Range first last step) ≡ plain.Stepped (seen_expression first) (seen_expression last) (option_map seen_expression step)
unfolding seen_span
made_range_span first last step = refl

pub made_list_span : (values : Vec Expr Global) → seen_span (span.List values) ≡ plain.Listed (expressions (map seen_expression values.items))
unfolding seen_span
made_list_span values = refl

pub made_start_at : (place : Place) (time : Expr) → seen_start (start.At place time) ≡ plain.StartAt place (seen_expression time)
unfolding seen_start
made_start_at place time = refl

pub made_start_in : (place : Place) (time : Expr) → seen_start (start.In place time) ≡ plain.StartIn place (seen_expression time)
unfolding seen_start
made_start_in place time = refl

pub made_start_on : (place : Place) (event : Expr) → seen_start (start.On place event) ≡ plain.StartOn place (seen_expression event)
unfolding seen_start
made_start_on place event = refl

pub made_cycle : (place : Place) → seen_cycle (cycle.Repeat place) ≡ plain.Cyclic place
unfolding seen_cycle
made_cycle place = refl

pub made_cycle_every : (place : Place) (time : Expr) → seen_cycle (cycle.Every place time) ≡ plain.CyclicEvery place (seen_expression time)
unfolding seen_cycle
made_cycle_every place time = refl

pub made_cycle_after : (place : Place) (time : Expr) → seen_cycle (cycle.After place time) ≡ plain.CyclicAfter place (seen_expression time)
unfolding seen_cycle
made_cycle_after place time = refl

pub made_schedule : (s : Schedule) → seen_schedule s ≡ plain.scheduling (seen_name s.name) (option_map seen_start s.start) (option_map seen_expression s.priority) s.dependent (option_map seen_cycle s.cycle) (option_map seen_guard s.guard)
unfolding seen_schedule
made_schedule s = refl

pub made_statement : (s : Statement) → seen_statement s ≡ plain.Labelled (map seen_name s.labels.items) (seen_basic s.basic)
unfolding seen_statement seen_basic seen_group
made_statement s = search (rules, the_lemmas)

pub made_group : (body : Vec Statement Global) (close : Option Identifier) → seen_group (roll-Group record { statements = body; end = close }) ≡ plain.Groups (statements (map seen_statement body.items)) (option_map seen_name close)
unfolding seen_statement seen_basic seen_group
made_group body close = search (rules, the_lemmas)

pub parts_of_group : (g : Group) → seen_group g ≡ plain.Groups (statements (map seen_statement (out-Group g).statements.items)) (option_map seen_name (out-Group g).end)
unfolding seen_statement seen_basic seen_group
parts_of_group g = search (rules, the_lemmas)

pub made_null : (place : Place) → seen_basic (basic.Null place) ≡ plain.Null place
unfolding seen_statement seen_basic seen_group
made_null place = search (rules, the_lemmas)

pub made_assignment : (place : Place) (receivers : Vec Reference Global) (value : Expr) → seen_basic (basic.Assignment place receivers value) ≡ plain.Assignment place (map seen_reference receivers.items) (seen_expression value)
unfolding seen_statement seen_basic seen_group
made_assignment place receivers value = search (rules, the_lemmas)

pub made_if : (place : Place) (condition : Expr) (consequence : Box Statement Global) (other : Option (Box Statement Global)) → seen_basic (basic.If place condition consequence other) ≡ plain.If place (seen_expression condition) (seen_statement consequence.value) (seen_alternative other)
unfolding seen_statement seen_basic seen_group
made_if place condition consequence other = search (rules, the_lemmas)

pub made_do : (place : Place) (group : Group) → seen_basic (basic.Do place group) ≡ plain.Do place (seen_group group)
unfolding seen_statement seen_basic seen_group
made_do place group = search (rules, the_lemmas)

pub made_do_case : (place : Place) (selector : Expr) (other : Option (Box Statement Global)) (group : Group) → seen_basic (basic.DoCase place selector other group) ≡ plain.DoCase place (seen_expression selector) (seen_alternative other) (seen_group group)
unfolding seen_statement seen_basic seen_group
made_do_case place selector other group = search (rules, the_lemmas)

pub made_do_loop : (place : Place) (guard : Guard) (group : Group) → seen_basic (basic.DoLoop place guard group) ≡ plain.DoLoop place (seen_guard guard) (seen_group group)
unfolding seen_statement seen_basic seen_group
made_do_loop place guard group = search (rules, the_lemmas)

pub made_do_for : (place : Place) (temporary : Bool) (variable : Identifier) (span : Span) (guard : Option Guard) (group : Group) → seen_basic (basic.DoFor place temporary variable span guard group) ≡ plain.DoFor place temporary (seen_name variable) (seen_span span) (option_map seen_guard guard) (seen_group group)
unfolding seen_statement seen_basic seen_group
made_do_for place temporary variable span guard group = search (rules, the_lemmas)

pub made_exit : (place : Place) (label : Option Identifier) → seen_basic (basic.Exit place label) ≡ plain.Exit place (option_map seen_name label)
unfolding seen_statement seen_basic seen_group
made_exit place label = search (rules, the_lemmas)

pub made_repeat : (place : Place) (label : Option Identifier) → seen_basic (basic.Repeat place label) ≡ plain.Repeat place (option_map seen_name label)
unfolding seen_statement seen_basic seen_group
made_repeat place label = search (rules, the_lemmas)

pub made_return : (place : Place) (value : Option Expr) → seen_basic (basic.Return place value) ≡ plain.Return place (option_map seen_expression value)
unfolding seen_statement seen_basic seen_group
made_return place value = search (rules, the_lemmas)

pub made_call_statement : (place : Place) (name : Identifier) (arguments : Vec Expr Global) (receivers : Vec Reference Global) → seen_basic (basic.Call place name arguments receivers) ≡ plain.Call place (seen_name name) (expressions (map seen_expression arguments.items)) (map seen_reference receivers.items)
unfolding seen_statement seen_basic seen_group
made_call_statement place name arguments receivers = search (rules, the_lemmas)

pub made_read : (place : Place) (channel : Expr) (receivers : Vec Reference Global) → seen_basic (basic.Read place channel receivers) ≡ plain.Read place (seen_expression channel) (map seen_reference receivers.items)
unfolding seen_statement seen_basic seen_group
made_read place channel receivers = search (rules, the_lemmas)

pub made_write : (place : Place) (channel : Expr) (items : Vec Expr Global) → seen_basic (basic.Write place channel items) ≡ plain.Write place (seen_expression channel) (expressions (map seen_expression items.items))
unfolding seen_statement seen_basic seen_group
made_write place channel items = search (rules, the_lemmas)

pub made_update : (place : Place) (body : Vec Statement Global) (close : Option Identifier) → seen_basic (basic.Update place body close) ≡ plain.Update place (statements (map seen_statement body.items)) (option_map seen_name close)
unfolding seen_statement seen_basic seen_group
made_update place body close = search (rules, the_lemmas)

pub made_schedule_statement : (place : Place) (schedule : Schedule) → seen_basic (basic.Schedule place schedule) ≡ plain.Scheduled place (seen_schedule schedule)
unfolding seen_statement seen_basic seen_group
made_schedule_statement place schedule = search (rules, the_lemmas)

pub made_cancel : (place : Place) (names : Vec Identifier Global) → seen_basic (basic.Cancel place names) ≡ plain.Cancel place (map seen_name names.items)
unfolding seen_statement seen_basic seen_group
made_cancel place names = search (rules, the_lemmas)

pub made_terminate : (place : Place) (names : Vec Identifier Global) → seen_basic (basic.Terminate place names) ≡ plain.Terminate place (map seen_name names.items)
unfolding seen_statement seen_basic seen_group
made_terminate place names = search (rules, the_lemmas)

pub made_wait : (place : Place) (time : Expr) → seen_basic (basic.Wait place time) ≡ plain.Wait place (seen_expression time)
unfolding seen_statement seen_basic seen_group
made_wait place time = search (rules, the_lemmas)

pub made_wait_until : (place : Place) (time : Expr) → seen_basic (basic.WaitUntil place time) ≡ plain.WaitUntil place (seen_expression time)
unfolding seen_statement seen_basic seen_group
made_wait_until place time = search (rules, the_lemmas)

pub made_wait_for_dependent : (place : Place) → seen_basic (basic.WaitForDependent place) ≡ plain.WaitForDependent place
unfolding seen_statement seen_basic seen_group
made_wait_for_dependent place = search (rules, the_lemmas)

pub made_wait_for : (place : Place) (event : Expr) → seen_basic (basic.WaitFor place event) ≡ plain.WaitFor place (seen_expression event)
unfolding seen_statement seen_basic seen_group
made_wait_for place event = search (rules, the_lemmas)

pub made_event : (event : EventChange) → seen_basic (basic.Event event) ≡ plain.Event (seen_event event)
unfolding seen_statement seen_basic seen_group
made_event event = search (rules, the_lemmas)

pub made_update_priority : (place : Place) (name : Option Identifier) (priority : Expr) → seen_basic (basic.UpdatePriority place name priority) ≡ plain.UpdatePriority place (option_map seen_name name) (seen_expression priority)
unfolding seen_statement seen_basic seen_group
made_update_priority place name priority = search (rules, the_lemmas)

pub made_on_error_statement : (place : Place) (selector : Selector) (handler : Box Statement Global) → seen_basic (basic.OnErrorStatement place selector handler) ≡ plain.OnErrorStatement place (seen_selector selector) (seen_statement handler.value)
unfolding seen_statement seen_basic seen_group
made_on_error_statement place selector handler = search (rules, the_lemmas)

pub made_on_error_response : (place : Place) (selector : Selector) (response : Response) (event : Option EventChange) → seen_basic (basic.OnErrorResponse place selector response event) ≡ plain.OnErrorResponse place (seen_selector selector) (seen_response response) (option_map seen_event event)
unfolding seen_statement seen_basic seen_group
made_on_error_response place selector response event = search (rules, the_lemmas)

pub made_off_error : (place : Place) (selector : Selector) → seen_basic (basic.OffError place selector) ≡ plain.OffError place (seen_selector selector)
unfolding seen_statement seen_basic seen_group
made_off_error place selector = search (rules, the_lemmas)

pub made_send_error : (place group_at : Place) (group : ℕ) (number_at : Place) (number : ℕ) → seen_basic (basic.SendError place group_at group number_at number) ≡ plain.SendError place group_at group number_at number
unfolding seen_statement seen_basic seen_group
made_send_error place group_at group number_at number = search (rules, the_lemmas)
