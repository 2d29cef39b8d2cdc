-- What real-time statements ask for.
use Rattle.std.specs.Prelude.{ℕ, suc, ◌==◌, nat_lt, List, [], ◌∷◌, ℤ, pos, Option, Some, None, slice_get, if◌then◌else◌}
use Rattle.hal_grammar.specs.Leaves.{Naming}
use Rattle.hal_grammar.specs.Expressions.{Expression, Decimal}
use Rattle.hal_grammar.specs.Statements.{Guard, While, Until, Start, StartAt, StartIn, StartOn, Cycle, Cyclic, CyclicEvery, CyclicAfter, Schedule, EventAction, Signal, Set, Reset, Eventful}
use Rattle.hal_scope.specs.Uses.{holds_event}
use Rattle.hal_values.specs.declared.plan.When.{When}
use Rattle.hal_values.specs.declared.plan.When.TheVariants as when
use Rattle.hal_values.specs.declared.plan.Cycle as cycles
use Rattle.hal_values.specs.declared.plan.Guard as guards
use Rattle.hal_values.specs.declared.plan.Guard.TheVariants as guard
use Rattle.hal_values.specs.declared.environment.Side.{Side}
use Rattle.hal_values.specs.declared.environment.Side.TheVariants as side
use Rattle.hal_values.specs.declared.request.Request.{Request}
use Rattle.hal_values.specs.declared.request.Request.TheVariants as request
use Rattle.hal_values.specs.Answers.{Answered, error}
use Rattle.hal_values.specs.Answers as answered
use Rattle.hal_values.specs.Tables.{process_count}
use Rattle.hal_states.specs.Numbers.{integer_of}
use Rattle.hal_states.specs.Times.{milliseconds, thousandths, nearest_priority, is_priority, Again, Never, AtOnce, Every, After, plan_of, is_again, cycle_of}
use Rattle.hal_meaning.specs.Events.{Stated, event_named}
use Rattle.hal_meaning.specs.States.{State, Evaluated, Gives, bind}
use Rattle.hal_meaning.specs.Access.{Here, ask, raise, event_changed}
use Rattle.hal_meaning.specs.Expressions.{expression}
use Rattle.hal_meaning.specs.Tasks.{Meaning}

-- a time operand, in milliseconds
abbrev pub time : Meaning → Here → Expression → State → Evaluated ℤ
time rec h (Decimal place number) st = Gives (thousandths number) st
time rec h tree st = bind (expression rec h tree st) (λ v after. Gives (milliseconds v) after)

-- the numbers of the event expressions of the statement whose phrase has this number
abbrev pub stated_from : ℕ → ℕ → List Stated → List ℕ
stated_from n k [] = []
stated_from n k (one ∷ others) = if one.statement == k then n ∷ stated_from (suc n) k others else stated_from (suc n) k others

-- the event expressions of the statement with this mark
abbrev pub stated_at_mark : Here → ℕ → List ℕ
stated_at_mark h m = elim (slice_get h.marks m) [ None ↦ [] | Some k ↦ stated_from 0 k h.set.stated ]

-- a start on the first of these event expressions, a guard by the last one; an accepted statement has one
abbrev pub on_first : List ℕ → When
on_first [] = when.Now
on_first (x ∷ xs) = when.On x

abbrev pub by_last : (ℕ → guards.Guard) → List ℕ → guards.Guard
by_last by [] = guard.Free
by_last by (x ∷ []) = by x
by_last by (x ∷ y ∷ more) = by_last by (y ∷ more)

-- the process of this name; where it is none, which no accepted set has, the first one
abbrev pub process_named : Here → Naming → ℕ
process_named h name =
    let e = event_named h.set.phrases h.block name.name in
    if nat_lt e (process_count h.set.tables) then e else 0

-- a process that may be named, else the process itself
abbrev pub process_or_own : Here → Option Naming → ℕ
process_or_own h None = h.process
process_or_own h (Some name) = process_named h name

-- when a process starts; the event expression is the statement's first one
abbrev pub start : Meaning → Here → List ℕ → Option Start → State → Evaluated When
start rec h xs None st = Gives when.Now st
start rec h xs (Some (StartAt place tree)) st = bind (time rec h tree st) (λ t after. Gives (when.At t) after)
start rec h xs (Some (StartIn place tree)) st = bind (time rec h tree st) (λ t after. Gives (when.After t) after)
start rec h xs (Some (StartOn place tree)) st = Gives (on_first xs) st

-- a priority as it is written; 50 where none is
abbrev pub priority : Meaning → Here → Option Expression → State → Evaluated ℤ
priority rec h None st = Gives (pos 50) st
priority rec h (Some tree) st = bind (expression rec h tree st) (λ v after. Gives (integer_of v) after)

abbrev pub again : Meaning → Here → Option Cycle → State → Evaluated Again
again rec h None st = Gives Never st
again rec h (Some (Cyclic place)) st = Gives AtOnce st
again rec h (Some (CyclicEvery place tree)) st = bind (time rec h tree st) (λ t after. Gives (Every t) after)
again rec h (Some (CyclicAfter place tree)) st = bind (time rec h tree st) (λ t after. Gives (After t) after)

-- WHILE or UNTIL of a process; the event expression is the statement's last one
abbrev pub limit : Meaning → Here → List ℕ → Option Guard → State → Evaluated guards.Guard
limit rec h xs None st = Gives guard.Free st
limit rec h xs (Some (While place tree)) st = Gives (by_last guard.While xs) st
limit rec h xs (Some (Until place tree)) st =
    if holds_event h.set.phrases h.block tree then Gives (by_last guard.Until xs) st
    else bind (time rec h tree st) (λ t after. Gives (guard.UntilTime t) after)

abbrev pub checked_priority : Here → ℤ → State → Evaluated ℕ
checked_priority h n st =
    if is_priority n then Gives (nearest_priority n) st else bind (raise h (error 2 4) st) (λ ignored after. Gives (nearest_priority n) after)

-- EVERY is above zero
abbrev pub checked_again : Here → Again → State → Evaluated cycles.Cycle
checked_again h one st =
    if is_again one then Gives (cycle_of one) st else bind (raise h (error 2 5) st) (λ ignored after. Gives (cycle_of one) after)

-- an answer that is an error raises it
abbrev pub answered_by : Here → Answered → State → Evaluated (Unit {0})
answered_by h (answered.Wrong e) st = raise h e st
answered_by h other st = Gives tt st

-- a request to which an error may be the answer
abbrev pub request_tried : Here → Request → State → Evaluated (Unit {0})
request_tried h r st = bind (ask r st) (λ answer after. answered_by h answer after)

-- SCHEDULE: its operands are evaluated in their order, then the priority is tested, then EVERY, and then it asks
abbrev pub scheduled : Meaning → Here → ℕ → Schedule → State → Evaluated (Unit {0})
scheduled rec h m s st =
    bind (start rec h (stated_at_mark h m) s.start st)
    (λ starts st1. bind (priority rec h s.priority st1)
    (λ n st2. bind (again rec h s.cycle st2)
    (λ cycled st3. bind (limit rec h (stated_at_mark h m) s.guard st3)
    (λ until st4. bind (checked_priority h n st4)
    (λ prio st5. bind (checked_again h cycled st5)
    (λ round st6. request_tried h (request.Schedule (plan_of (process_named h s.name) starts prio s.dependent round until)) st6))))))

-- CANCEL and TERMINATE ask once for each name, or once for the process itself
abbrev pub each_named : Here → (ℕ → Request) → List Naming → State → Evaluated (Unit {0})
each_named h asked [] st = Gives tt st
each_named h asked (name ∷ names) st = bind (request_tried h (asked (process_named h name)) st) (λ done after. each_named h asked names after)

abbrev pub named_or_own : Here → (ℕ → Request) → List Naming → State → Evaluated (Unit {0})
named_or_own h asked [] st = request_tried h (asked h.process) st
named_or_own h asked (name ∷ names) st = each_named h asked (name ∷ names) st

-- UPDATE PRIORITY
abbrev pub priority_changed : Meaning → Here → Option Naming → Expression → State → Evaluated (Unit {0})
priority_changed rec h name tree st =
    bind (expression rec h tree st)
    (λ v st1. bind (checked_priority h (integer_of v) st1) (λ n st2. request_tried h (request.Priority (process_or_own h name) n) st2))

-- SIGNAL, SET and RESET
abbrev pub change_of : EventAction → ℕ → Request
change_of Signal = request.Signal
change_of Set = request.Set
change_of Reset = request.Reset

abbrev pub eventful : Here → Eventful → State → Evaluated (Unit {0})
eventful h e st = event_changed h (change_of e.action) (event_named h.set.phrases h.block e.name.name) st

-- the part of ON ERROR that does something to an event
abbrev pub side_of_action : EventAction → ℕ → Side
side_of_action Signal e = side.Signal e
side_of_action Set e = side.Set e
side_of_action Reset e = side.Reset e

abbrev pub side_of : Here → Option Eventful → Side
side_of h None = side.Nothing
side_of h (Some e) = side_of_action e.action (event_named h.set.phrases h.block e.name.name)
