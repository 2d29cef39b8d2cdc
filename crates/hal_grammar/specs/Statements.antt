-- The trees of statements, and how deep they are nested. A statement's place is that of its first word.
use Rattle.std.specs.Prelude.{ℕ, ◌+◌, List, [], ◌∷◌, max, Option, Bool}
use Rattle.hal_base.specs.declared.refusal.Place.{Place}
use Rattle.hal_grammar.specs.Leaves.{Naming, most, if_any}
use Rattle.hal_grammar.specs.Expressions.{Expression, Expressions, NoExpressions, MoreExpressions, Reference, nesting, nesting_of_all, nesting_of_reference}

-- WHILE or UNTIL, and a condition
pub data Guard : Type 0 where
  While : (place : Place) (condition : Expression) → Guard
  Until : (place : Place) (condition : Expression) → Guard

-- `a TO b`, with a step or without, or a list
pub data Span : Type 0 where
  Stepped : (first last : Expression) (step : Option Expression) → Span
  Listed : (values : Expressions) → Span

-- the errors that are meant: every one, those of a group, one; the place is the sign's
pub data Selector : Type 0 where
  EveryError : Selector
  GroupErrors : (place group_at : Place) (group : ℕ) → Selector
  OneError : (place group_at : Place) (group : ℕ) (number_at : Place) (number : ℕ) → Selector

-- SIGNAL, SET, RESET
pub data EventAction : Type 0 where
  Signal Set Reset : EventAction

-- an event and what happens to it
pub record Eventful : Type 0 where
  pub place : Place
  pub action : EventAction
  pub name : Naming

-- this happens to this event
abbrev pub eventful : Place → EventAction → Naming → Eventful
eventful place action name = record { place = place; action = action; name = name }

-- SYSTEM or IGNORE
pub data Response : Type 0 where
  System Ignore : Response

-- when a process starts: AT, IN, ON, and an expression
pub data Start : Type 0 where
  StartAt StartIn StartOn : (place : Place) (time : Expression) → Start

-- REPEAT, alone or with EVERY or AFTER and an expression; the place is that of REPEAT
pub data Cycle : Type 0 where
  Cyclic : (place : Place) → Cycle
  CyclicEvery CyclicAfter : (place : Place) (time : Expression) → Cycle

-- what SCHEDULE says
pub record Schedule : Type 0 where
  pub name : Naming
  pub start : Option Start
  pub priority : Option Expression
  pub dependent : Bool
  pub cycle : Option Cycle
  pub guard : Option Guard

-- all that SCHEDULE says, in the order of its words
abbrev pub scheduling : Naming → Option Start → Option Expression → Bool → Option Cycle → Option Guard → Schedule
scheduling n s t d c g = record { name = n; start = s; priority = t; dependent = d; cycle = c; guard = g }

mutual
  -- labels, and what they stand before
  pub data Statement : Type 0 where
    Labelled : (labels : List Naming) (basic : Basic) → Statement

  -- a statement without labels; one of SIGNAL, SET or RESET has its place in its event
  pub data Basic : Type 0 where
    Null : (place : Place) → Basic
    Assignment : (place : Place) (receivers : List Reference) (value : Expression) → Basic
    If : (place : Place) (condition : Expression) (consequence : Statement) (alternative : Alternative) → Basic
    Do : (place : Place) (group : Group) → Basic
    DoCase : (place : Place) (selector : Expression) (alternative : Alternative) (group : Group) → Basic
    DoLoop : (place : Place) (guard : Guard) (group : Group) → Basic
    DoFor : (place : Place) (temporary : Bool) (variable : Naming) (span : Span) (guard : Option Guard) (group : Group) → Basic
    Exit : (place : Place) (label : Option Naming) → Basic
    Repeat : (place : Place) (label : Option Naming) → Basic
    Return : (place : Place) (value : Option Expression) → Basic
    Call : (place : Place) (name : Naming) (arguments : Expressions) (receivers : List Reference) → Basic
    Read : (place : Place) (channel : Expression) (receivers : List Reference) → Basic
    Write : (place : Place) (channel : Expression) (items : Expressions) → Basic
    Update : (place : Place) (body : Statements) (close : Option Naming) → Basic
    Scheduled : (place : Place) (schedule : Schedule) → Basic
    Cancel : (place : Place) (names : List Naming) → Basic
    Terminate : (place : Place) (names : List Naming) → Basic
    Wait : (place : Place) (time : Expression) → Basic
    WaitUntil : (place : Place) (time : Expression) → Basic
    WaitForDependent : (place : Place) → Basic
    WaitFor : (place : Place) (event : Expression) → Basic
    Event : (event : Eventful) → Basic
    UpdatePriority : (place : Place) (name : Option Naming) (priority : Expression) → Basic
    OnErrorStatement : (place : Place) (selector : Selector) (handler : Statement) → Basic
    OnErrorResponse : (place : Place) (selector : Selector) (response : Response) (event : Option Eventful) → Basic
    OffError : (place : Place) (selector : Selector) → Basic
    SendError : (place group_at : Place) (group : ℕ) (number_at : Place) (number : ℕ) → Basic

  -- what stands after ELSE, if there is one
  pub data Alternative : Type 0 where
    NoAlternative : Alternative
    Otherwise : (statement : Statement) → Alternative

  -- the statements of a group, and the name after END
  pub data Group : Type 0 where
    Groups : (statements : Statements) (end : Option Naming) → Group

  -- statements one after another
  pub data Statements : Type 0 where
    NoStatements : Statements
    MoreStatements : (first : Statement) (others : Statements) → Statements

-- a condition is as deep as its expression
abbrev pub nesting_of_guard : Guard → ℕ
nesting_of_guard (While place condition) = nesting condition
nesting_of_guard (Until place condition) = nesting condition

-- a range is as deep as the deepest of its expressions
abbrev pub nesting_of_span : Span → ℕ
nesting_of_span (Stepped first last step) = max (nesting first) (max (nesting last) (if_any nesting step))
nesting_of_span (Listed values) = nesting_of_all values

-- a start is as deep as its expression
abbrev pub nesting_of_start : Start → ℕ
nesting_of_start (StartAt place time) = nesting time
nesting_of_start (StartIn place time) = nesting time
nesting_of_start (StartOn place time) = nesting time

-- and so is a cycle
abbrev pub nesting_of_cycle : Cycle → ℕ
nesting_of_cycle (Cyclic place) = 0
nesting_of_cycle (CyclicEvery place time) = nesting time
nesting_of_cycle (CyclicAfter place time) = nesting time

-- the parentheses of PRIORITY don't count
abbrev pub nesting_of_schedule : Schedule → ℕ
nesting_of_schedule schedule =
    max (if_any nesting_of_start schedule.start) (max (if_any nesting schedule.priority) (max (if_any nesting_of_cycle schedule.cycle) (if_any nesting_of_guard schedule.guard)))

-- an argument list is one deeper than what it stands in, where there is one
abbrev pub nesting_of_arguments : Expressions → ℕ
nesting_of_arguments NoExpressions = 0
nesting_of_arguments (MoreExpressions first others) = nesting_of_all (MoreExpressions first others) + 1

-- and so is a list of receivers
abbrev pub nesting_of_receivers : List Reference → ℕ
nesting_of_receivers [] = 0
nesting_of_receivers (first ∷ others) = most nesting_of_reference (first ∷ others) + 1

-- a statement in IF, DO and ON ERROR, and an UPDATE block, are one deeper than what they stand in
abbrev mutual
  -- labels have no depth
  pub nesting_of_statement : Statement → ℕ
  nesting_of_statement (Labelled labels basic) = nesting_of_basic basic

  -- conditions, ranges and values are as deep as what they stand in
  pub nesting_of_basic : Basic → ℕ
  nesting_of_basic (Null place) = 0
  nesting_of_basic (Assignment place receivers value) = max (most nesting_of_reference receivers) (nesting value)
  nesting_of_basic (If place condition consequence alternative) =
      max (nesting condition) (max (nesting_of_statement consequence + 1) (nesting_of_alternative alternative))
  nesting_of_basic (Do place group) = nesting_of_group group
  nesting_of_basic (DoCase place selector alternative group) = max (nesting selector) (max (nesting_of_alternative alternative) (nesting_of_group group))
  nesting_of_basic (DoLoop place guard group) = max (nesting_of_guard guard) (nesting_of_group group)
  nesting_of_basic (DoFor place temporary variable span guard group) = max (nesting_of_span span) (max (if_any nesting_of_guard guard) (nesting_of_group group))
  nesting_of_basic (Exit place label) = 0
  nesting_of_basic (Repeat place label) = 0
  nesting_of_basic (Return place value) = if_any nesting value
  nesting_of_basic (Call place name arguments receivers) = max (nesting_of_arguments arguments) (nesting_of_receivers receivers)
  nesting_of_basic (Read place channel receivers) = max (nesting channel) (most nesting_of_reference receivers)
  nesting_of_basic (Write place channel items) = max (nesting channel) (nesting_of_all items)
  nesting_of_basic (Update place body close) = nesting_of_statements body + 1
  nesting_of_basic (Scheduled place schedule) = nesting_of_schedule schedule
  nesting_of_basic (Cancel place names) = 0
  nesting_of_basic (Terminate place names) = 0
  nesting_of_basic (Wait place time) = nesting time
  nesting_of_basic (WaitUntil place time) = nesting time
  nesting_of_basic (WaitForDependent place) = 0
  nesting_of_basic (WaitFor place event) = nesting event
  nesting_of_basic (Event event) = 0
  nesting_of_basic (UpdatePriority place name priority) = nesting priority
  nesting_of_basic (OnErrorStatement place selector handler) = nesting_of_statement handler + 1
  nesting_of_basic (OnErrorResponse place selector response event) = 0
  nesting_of_basic (OffError place selector) = 0
  nesting_of_basic (SendError place group_at group number_at number) = 0

  -- what stands after ELSE is one deeper too
  pub nesting_of_alternative : Alternative → ℕ
  nesting_of_alternative NoAlternative = 0
  nesting_of_alternative (Otherwise statement) = nesting_of_statement statement + 1

  -- an empty group adds nothing
  pub nesting_of_group : Group → ℕ
  nesting_of_group (Groups NoStatements end) = 0
  nesting_of_group (Groups (MoreStatements first others) end) = max (nesting_of_statement first) (nesting_of_statements others) + 1

  -- the deepest of statements
  pub nesting_of_statements : Statements → ℕ
  nesting_of_statements NoStatements = 0
  nesting_of_statements (MoreStatements first others) = max (nesting_of_statement first) (nesting_of_statements others)

-- where a statement without labels stands
abbrev pub place_of_basic : Basic → Place
place_of_basic (Null place) = place
place_of_basic (Assignment place receivers value) = place
place_of_basic (If place condition consequence other) = place
place_of_basic (Do place group) = place
place_of_basic (DoCase place selector other group) = place
place_of_basic (DoLoop place guard group) = place
place_of_basic (DoFor place temporary variable span guard group) = place
place_of_basic (Exit place label) = place
place_of_basic (Repeat place label) = place
place_of_basic (Return place value) = place
place_of_basic (Call place name arguments receivers) = place
place_of_basic (Read place channel receivers) = place
place_of_basic (Write place channel items) = place
place_of_basic (Update place body close) = place
place_of_basic (Scheduled place schedule) = place
place_of_basic (Cancel place names) = place
place_of_basic (Terminate place names) = place
place_of_basic (Wait place time) = place
place_of_basic (WaitUntil place time) = place
place_of_basic (WaitForDependent place) = place
place_of_basic (WaitFor place event) = place
place_of_basic (Event event) = event.place
place_of_basic (UpdatePriority place name priority) = place
place_of_basic (OnErrorStatement place selector handler) = place
place_of_basic (OnErrorResponse place selector response event) = place
place_of_basic (OffError place selector) = place
place_of_basic (SendError place group_at group number_at number) = place

-- where a statement stands: at its first label, if it has one
abbrev pub place_of_statement : Statement → Place
place_of_statement (Labelled [] basic) = place_of_basic basic
place_of_statement (Labelled (label ∷ labels) basic) = label.place
