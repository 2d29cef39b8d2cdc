-- Where the code of statements stands: from an instruction to the one at which control goes on.
use Rattle.std.specs.Prelude.{◌≡◌, ℕ, suc, ◌==◌, nat_lt, length, Bool, true, false, List, [], ◌∷◌, pos, Option, Some, None, if◌then◌else◌}
use Rattle.hal_grammar.specs.Leaves.{Naming}
use Rattle.hal_grammar.specs.Expressions.{Expression, Expressions, NoExpressions, MoreExpressions, Reference, Refers, Subscript, Unsubscripted, ByName, ByInteger, Subscripts, NoSubscripts, MoreSubscripts}
use Rattle.hal_grammar.specs.Statements as statements
use Rattle.hal_grammar.specs.Statements.{Guard, While, Until, Span, Stepped, Listed, Selector, System, Ignore, Statement, Labelled, Basic, Null, Assignment, If, Do, DoCase, DoLoop, DoFor, Exit, Repeat, Return, Call, Read, Write, EventAction, Signal, Set, Reset, Event, Scheduled, UpdatePriority, Cancel, Terminate, Wait, WaitUntil, WaitForDependent, WaitFor, Update, OnErrorStatement, OnErrorResponse, OffError, SendError, Alternative, NoAlternative, Otherwise, Group, Groups, Statements, NoStatements, MoreStatements}
use Rattle.hal_grammar.specs.Declarations.{CharacterKind}
use Rattle.hal_grammar.specs.Units.{Head, Function, HasKind}
use Rattle.hal_operations.specs.declared.operation.Op1.TheVariants as op1
use Rattle.hal_values.specs.declared.value.Kind.{Kind}
use Rattle.hal_values.specs.declared.value.Value.TheVariants as value
use Rattle.hal_states.specs.Spots.{Held, further}
use Rattle.hal_meaning.specs.Bodies.{Body}
use Rattle.hal_meaning.specs.Sets.{body_at}
use Rattle.hal_meaning.specs.Expressions.{inputs_at, outputs_at, sizes_named}
use Rattle.hal_meaning.specs.Calls.{parameter_named}
use Rattle.hal_meaning.specs.Elements.{Shape, chosen, offset, kinds_of}
use Rattle.hal_meaning.specs.Marks.{after_statement, after_alternative, handling_in}
use Rattle.hal_meaning.specs.Events.{event_named}
use Rattle.hal_meaning.specs.RealTime.{side_of, stated_at_mark}
use Rattle.hal_meaning.specs.Statements as tree
use Rattle.hal_meaning.specs.Statements.{components_in, is_meant, label_name, loop_place, end_place, update_groups, kind_named}
use Rattle.hal_meaning.specs.Variables.{Meant, MeantData, MeantBlock, name_meant, spot_named, kind_of_first, is_arrayed}
use Rattle.hal_code.specs.declared.choice.Choice.TheVariants as choice
use Rattle.hal_code.specs.declared.instr.Instr.{Instr}
use Rattle.hal_code.specs.declared.operand.Delay.TheVariants as delay
use Rattle.hal_code.specs.declared.operand.EventChange.{EventChange}
use Rattle.hal_code.specs.declared.operand.EventChange.TheVariants as change
use Rattle.hal_code.specs.declared.operand.Places.{Places}
use Rattle.hal_code.specs.declared.operand.Places.TheVariants as places
use Rattle.hal_code.specs.declared.operand.Response.{Response}
use Rattle.hal_code.specs.declared.operand.Response.TheVariants as response
use Rattle.hal_code.specs.Controlling as machine
use Rattle.hal_code.specs.Operands.{is_selector}
use Rattle.hal_code.specs.declared.row.Target.TheVariants as targets
use Rattle.hal_code.specs.declared.instr.Instr.TheVariants as instr
use Rattle.hal_agreement.specs.Codes.{Code}
use Rattle.hal_agreement.specs.Constants.{IsConstant}
use Rattle.hal_agreement.specs.Sites.{Site, here_at, group_site}
use Rattle.hal_agreement.specs.PlacedTimes.{PauseAt, NamedAt, ScheduledAt, PrioritizedAt}
use Rattle.hal_agreement.specs.PlacedExpressions.{Has, One, AddressAt, CallAt, NameAt, ExpressionAt, ArgumentsAt, WholeAt, ChosenAt, PartAt, places_of}
use Rattle.hal_agreement.specs.PlacedGroups.{KeepsAt, HoldsAt, CaseAt, BoundsAt, NextAt}

-- a group that is open where a statement stands: its labels, where EXIT leads, and where REPEAT does, of a loop
pub record Opened : Type 0 where
  pub labels : List Naming
  pub exit : ℕ
  pub again : Option ℕ

abbrev pub opened : List Naming → ℕ → Option ℕ → Opened
opened labels exit again = record { labels = labels; exit = exit; again = again }

-- where EXIT with this label or without one leads
abbrev pub exit_of : List Opened → Option (List ℕ) → Option ℕ
exit_of [] label = None
exit_of (g ∷ gs) label = if is_meant g.labels label then Some g.exit else exit_of gs label

-- and REPEAT, which passes over groups that are no loops
abbrev pub again_of : List Opened → Option (List ℕ) → Option ℕ
again_of [] label = None
again_of (g ∷ gs) label = elim g.again [ None ↦ again_of gs label | Some at ↦ if is_meant g.labels label then Some at else again_of gs label ]

-- how RETURN leaves the block in which a statement stands: a process goes on to its FINISH, a PROCEDURE goes back, a FUNCTION goes back with a value; an UPDATE
-- block has none
pub data Leaving : Type 0 where
  ToFinish : (at : ℕ) → Leaving
  ByReturn ByResult NoReturn : Leaving

-- the groups that are open around a statement; how RETURN leaves the block; and where the statement of the ON ERROR of the block with this mark stands
pub record Exits : Type 0 where
  pub groups : List Opened
  pub leaving : Leaving
  pub handler : ℕ → ℕ

abbrev pub within_group : Opened → Exits → Exits
within_group g exits = record { groups = g ∷ exits.groups; leaving = exits.leaving; handler = exits.handler }

-- the statements of a block, around which no group is open
abbrev pub of_block : Leaving → (ℕ → ℕ) → Exits
of_block leaving handler = record { groups = []; leaving = leaving; handler = handler }

-- marks of a block that are none of an ON ERROR with a statement directly in it lead to the block's end; none of them is ever set
abbrev pub LeadsOut : (ℕ → ℕ) → ℕ → Statements → ℕ → Type 0
LeadsOut handler first body finish = (place : ℕ) → handling_in place first body ≡ None → handler place ≡ finish

-- a receiver gets the value on the stack: CELL and KEEP
abbrev pub KeptAt : Code → List Naming → List Held → Meant → ℕ → ℕ → Type 0
KeptAt code path held (MeantData at shape) from to =
    AddressAt code held (kind_of_first (chosen path shape.components)) (further (offset path shape.components) at) from × One code (suc from) instr.Keep to
KeptAt code path held other from to = ⊥

-- PATCH of such places
abbrev pub patches : Places → Instr
patches chosen = instr.Patch (choice.Known chosen)

-- the value below an address is stored there. Where subscripts choose its component, the old value is read before they are evaluated, and stored with the component
-- replaced
abbrev pub StoredAt : Code → Site → Subscripts → ℕ → ℕ → Type 0
StoredAt code site NoSubscripts from to = One code from instr.Keep to
StoredAt code site (MoreSubscripts first others) from to =
    (middle : ℕ) × Has code from instr.Peek × PartAt code site first (suc from) middle × Has code middle (patches (places_of first)) × One code (suc middle) instr.Keep to

-- the same of a receiver with an array or without one. Where there is none, a subscript without a mark is its component's
abbrev pub ReceivedAt : Code → Site → Bool → Subscript → ℕ → ℕ → Type 0
ReceivedAt code site false (ByName place name) from to =
    (middle : ℕ) × Has code from instr.Peek × NameAt code site name.name [] (suc from) middle × Has code middle (patches places.One) × One code (suc middle) instr.Keep to
ReceivedAt code site false (ByInteger place mark number) from to =
    Has code from instr.Peek × Has code (suc from) (instr.Int (pos number)) × Has code (suc (suc from)) (patches places.One) × One code (suc (suc (suc from))) instr.Keep to
ReceivedAt code site arrayed subscript from to = StoredAt code site (components_in arrayed subscript) from to

-- data that a name means get the value on the stack; the code of the address that the subscript chooses is given
abbrev pub AddressedAt : Code → Site → List Naming → Subscript → (Shape → ℕ → ℕ → Type 0) → Meant → ℕ → ℕ → Type 0
AddressedAt code site path subscript address (MeantData at shape) from to =
    (middle : ℕ) × address shape from middle × ReceivedAt code site (is_arrayed (sizes_named path shape)) subscript middle to
AddressedAt code site path subscript address other from to = ⊥

abbrev pub ReceiverAt : Code → Site → Reference → ℕ → ℕ → Type 0
ReceiverAt code site (Refers place name path Unsubscripted) from to = (held : List Held) → KeptAt code path held (name_meant (here_at site) name held) from to
ReceiverAt code site (Refers place name path subscript) from to =
    (held : List Held) → AddressedAt code site path subscript (λ shape begin end. ChosenAt code site (targets.Cell (kind_of_first (chosen path shape.components))) path subscript (spot_named (here_at site) name) shape begin end) (name_meant (here_at site) name held) from to

-- receivers get it from left to right, each but the last one from a copy
abbrev pub ReceiversAt : Code → Site → List Reference → ℕ → ℕ → Type 0
ReceiversAt code site [] from to = ⊥
ReceiversAt code site (receiver ∷ []) from to = ReceiverAt code site receiver from to
ReceiversAt code site (receiver ∷ next ∷ others) from to =
    (middle : ℕ) × Has code from instr.Dup × ReceiverAt code site receiver (suc from) middle × ReceiversAt code site (next ∷ others) middle to

-- a channel that is known: a constant expression
abbrev pub ChannelAt : Site → Expression → ℕ → Type 0
ChannelAt site tree channel = IsConstant site tree (value.Int (pos channel))

-- items, each added to the line
abbrev pub ItemsAt : Code → Site → Expressions → ℕ → ℕ → Type 0
ItemsAt code site NoExpressions from to = from ≡ to
ItemsAt code site (MoreExpressions first others) from to =
    (middle : ℕ) × ExpressionAt code site first from middle × Has code middle instr.Item × ItemsAt code site others (suc middle) to

-- a condition, behind which control goes on where it holds, and else to a target
abbrev pub ConditionAt : Code → Site → Expression → ℕ → ℕ → ℕ → Type 0
ConditionAt code site condition from target to = (middle : ℕ) × ExpressionAt code site condition from middle × One code middle (instr.JumpNot target) to

-- the first test of a loop: UNTIL isn't tested
abbrev pub FirstTestAt : Code → Site → Guard → ℕ → ℕ → ℕ → Type 0
FirstTestAt code site (While place condition) from exit to = ConditionAt code site condition from exit to
FirstTestAt code site (Until place condition) from exit to = from ≡ to

-- each later test of a loop whose turns begin at a TURN: control goes there, or on
abbrev pub TestAt : Code → Site → Guard → ℕ → ℕ → ℕ → Type 0
TestAt code site (While place condition) from turn to =
    (middle : ℕ) × ExpressionAt code site condition from middle × Has code middle (instr.JumpNot to) × One code (suc middle) (instr.Jump turn) to
TestAt code site (Until place condition) from turn to = ConditionAt code site condition from turn to

-- the variable of a DO FOR gets the value on the stack: CELL and KEEP
abbrev pub VariableAt : Code → Site → List ℕ → ℕ → ℕ → Type 0
VariableAt code site name from to = (held : List Held) → KeptAt code [] held (name_meant (here_at site) name held) from to

-- its value: CELL and FETCH
abbrev pub FetchedAt : Code → List Held → Meant → ℕ → ℕ → Type 0
FetchedAt code held (MeantData at shape) from to =
    AddressAt code held (kind_of_first (chosen [] shape.components)) (further (offset [] shape.components) at) from × One code (suc from) instr.Fetch to
FetchedAt code held other from to = ⊥

abbrev pub VariableValueAt : Code → Site → List ℕ → ℕ → ℕ → Type 0
VariableValueAt code site name from to = (held : List Held) → FetchedAt code held (name_meant (here_at site) name held) from to

-- the test of a DO FOR before its first turn
abbrev pub FirstSpanAt : Code → Site → Option Guard → ℕ → ℕ → ℕ → Type 0
FirstSpanAt code site None from exit to = from ≡ to
FirstSpanAt code site (Some g) from exit to = FirstTestAt code site g from exit to

-- before a later turn, which begins at a TURN: control goes there, or on
abbrev pub LaterSpanAt : Code → Site → Option Guard → ℕ → ℕ → ℕ → Type 0
LaterSpanAt code site None from turn to = One code from (instr.Jump turn) to
LaterSpanAt code site (Some g) from turn to = TestAt code site g from turn to

-- the step of a DO FOR with TO
abbrev pub StepAt : Code → Site → Option Expression → ℕ → ℕ → Type 0
StepAt code site None from to = One code from (instr.Int (pos 1)) to
StepAt code site (Some tree) from to = ExpressionAt code site tree from to

-- where it begins: its bounds are kept in own places from this one on, and the variable gets the first of them; control goes on where it isn't past the end
abbrev pub BegunAt : Code → Site → List ℕ → ℕ → Expression → Expression → Option Expression → ℕ → ℕ → ℕ → Type 0
BegunAt code site name place first last step from exit to =
    (one : ℕ) × (two : ℕ) × (three : ℕ) × (four : ℕ) × (five : ℕ) × (six : ℕ) × (seven : ℕ) × (eight : ℕ) × ExpressionAt code site first from one × ExpressionAt code site last one two
    × StepAt code site step two three × KeepsAt code (suc place) three four × KeepsAt code place four five × KeepsAt code (suc (suc place)) five six
    × HoldsAt code (suc (suc place)) six seven × VariableAt code site name seven eight × BoundsAt code place eight exit to

-- what stands behind its turn: the next value, and the test for it, behind which control goes to the TURN or to the end
abbrev pub SteppingAt : Code → Site → List ℕ → ℕ → Option Guard → ℕ → ℕ → ℕ → Type 0
SteppingAt code site name place g from turn to =
    (one : ℕ) × (two : ℕ) × (three : ℕ) × (four : ℕ) × VariableValueAt code site name from one × NextAt code place one to two
    × HoldsAt code (suc (suc place)) two three × VariableAt code site name three four × LaterSpanAt code site g four turn to

-- a value of a list: the variable gets it, and this own place keeps how many were stored
abbrev pub ValueKeptAt : Code → Site → List ℕ → ℕ → ℕ → Expression → ℕ → ℕ → Type 0
ValueKeptAt code site name place k tree from to =
    (middle : ℕ) × (stored : ℕ) × ExpressionAt code site tree from middle × VariableAt code site name middle stored × Has code stored (instr.Int (pos k)) × KeepsAt code place (suc stored) to

-- values of a list, of which the first one stands behind so many: the one behind as many as the place says is stored, and control goes to the test for it; behind the
-- last one it goes to the end
abbrev pub NextValueAt : Code → Site → List ℕ → ℕ → ℕ → Expressions → ℕ → ℕ → ℕ → ℕ → Type 0
NextValueAt code site name place k NoExpressions from exit test to = One code from (instr.Jump exit) to
NextValueAt code site name place k (MoreExpressions tree others) from exit test to =
    (begin : ℕ) × (end : ℕ) × CaseAt code place k from (suc end) begin × ValueKeptAt code site name place (suc k) tree begin end × Has code end (instr.Jump test)
    × NextValueAt code site name place (suc k) others (suc end) exit test to

-- what stands behind a turn of a DO FOR with a list: these are its values behind the first one
abbrev pub ListingAt : Code → Site → List ℕ → ℕ → Expressions → Option Guard → ℕ → ℕ → ℕ → Type 0
ListingAt code site name place values g from turn to = (test : ℕ) × NextValueAt code site name place 1 values from to test test × LaterSpanAt code site g test turn to

-- a DO FOR, whose own places begin with this one; the code of its statements is given
abbrev pub SpannedAt : Code → Site → List ℕ → ℕ → Option Guard → (ℕ → ℕ → Type 0) → Span → ℕ → ℕ → ℕ → Type 0
SpannedAt code site name place g body (Stepped first last step) from again to =
    (test : ℕ) × (turn : ℕ) × BegunAt code site name place first last step from to test × FirstSpanAt code site g test to turn × Has code turn (instr.Turn to) × body (suc turn) again
    × SteppingAt code site name place g again turn to
SpannedAt code site name place g body (Listed NoExpressions) from again to = from ≡ to
SpannedAt code site name place g body (Listed (MoreExpressions first others)) from again to =
    (test : ℕ) × (turn : ℕ) × ValueKeptAt code site name place 1 first from test × FirstSpanAt code site g test to turn × Has code turn (instr.Turn to) × body (suc turn) again
    × ListingAt code site name place others g again turn to

-- RETURN without a value
abbrev pub ReturnAt : Code → Leaving → ℕ → ℕ → Type 0
ReturnAt code (ToFinish at) from to = One code from (instr.Jump at) to
ReturnAt code ByReturn from to = One code from instr.Return to
ReturnAt code other from to = ⊥

-- the value that RETURN gives becomes what the FUNCTION's type has it
abbrev pub ResultBy : Code → Head → ℕ → ℕ → Type 0
ResultBy code (Function place inputs (HasKind (CharacterKind at size) precision) mode) from to = One code from (instr.Op1 (choice.Known op1.Character)) to
ResultBy code other from to = from ≡ to

abbrev pub ResultAt : Code → Option Body → ℕ → ℕ → Type 0
ResultAt code None from to = from ≡ to
ResultAt code (Some b) from to = ResultBy code b.head from to

-- ASSIGN arguments, from left to right: the address of the cells of each is left, which are of the kinds of its parameter
abbrev pub AssignedAt : Code → Site → ℕ → List Naming → List Reference → ℕ → ℕ → Type 0
AssignedAt code site unit [] [] from to = from ≡ to
AssignedAt code site unit (name ∷ names) (receiver ∷ receivers) from to =
    (middle : ℕ) × WholeAt code site (kinds_of (parameter_named site.set unit name).shape) receiver from middle × AssignedAt code site unit names receivers middle to
AssignedAt code site unit names receivers from to = ⊥

-- CALL of a PROCEDURE: the arguments of its input parameters, its ASSIGN arguments, and the call
abbrev pub CalledAt : Code → Site → Expressions → List Reference → Meant → ℕ → ℕ → Type 0
CalledAt code site arguments receivers (MeantBlock unit) from to =
    (middle : ℕ) × (last : ℕ) × ArgumentsAt code site unit (inputs_at site.set unit) arguments from middle × AssignedAt code site unit (outputs_at site.set unit) receivers middle last
    × CallAt code site unit false last to
CalledAt code site arguments receivers other from to = ⊥

-- receivers of READ: for each INPUT of its kind, behind which control goes to the next one where there is no datum, and its store
abbrev pub ReadsAt : Code → Site → ℕ → List Reference → ℕ → ℕ → Type 0
ReadsAt code site channel [] from to = from ≡ to
ReadsAt code site channel (receiver ∷ receivers) from to =
    (kind : Kind) × (next : ℕ) × ((held : List Held) → kind_named (here_at site) receiver held ≡ kind) × Has code from (instr.Input channel kind next) × ReceiverAt code site receiver (suc from) next
    × ReadsAt code site channel receivers next to

-- SIGNAL, SET and RESET
abbrev pub changes : EventAction → ℕ → Instr
changes Signal e = instr.Signal e
changes Set e = instr.Set e
changes Reset e = instr.Reset e

-- an event expression of the set
abbrev pub EventAt : Code → Site → List ℕ → ℕ → ℕ → Type 0
EventAt code site [] from to = ⊥
EventAt code site (x ∷ xs) from to = (nat_lt x (length site.set.tables.expressions) ≡ true) × One code from (instr.Wait (delay.Event x)) to

-- the same instruction for each process that is named
abbrev pub EachAt : Code → Site → (ℕ → Instr) → List Naming → ℕ → ℕ → Type 0
EachAt code site asks [] from to = from ≡ to
EachAt code site asks (name ∷ names) from to = (number : ℕ) × NamedAt site name number × Has code from (asks number) × EachAt code site asks names (suc from) to

-- or for the process itself, where none is
abbrev pub NamedOrOwnAt : Code → Site → (ℕ → Instr) → List Naming → ℕ → ℕ → Type 0
NamedOrOwnAt code site asks [] from to = One code from (asks 255) to
NamedOrOwnAt code site asks (name ∷ names) from to = EachAt code site asks (name ∷ names) from to

-- the instruction that sets an entry for errors
abbrev pub sets : ℕ → ℕ → Response → EventChange → ℕ → ℕ → Instr
sets group number r change event target = instr.On group number (choice.Known r) (choice.Known change) event target

-- group and number of an instruction select what ON ERROR or OFF ERROR does, and are numbers of errors
pub record Selects (s : Selector) (group number : ℕ) : Type 0 where
  pub is : machine.selector_of group number ≡ tree.selector_of s
  pub right : is_selector group number ≡ true

-- SYSTEM and IGNORE
abbrev pub response_of : statements.Response → Response
response_of System = response.System
response_of Ignore = response.Ignore

abbrev mutual
  pub StatementAt : Code → Site → Exits → ℕ → Statement → ℕ → ℕ → Type 0
  StatementAt code site exits m (Labelled labels basic) from to = BasicAt code site exits m labels basic from to

  -- a statement with these labels, before which the next mark has this number
  pub BasicAt : Code → Site → Exits → ℕ → List Naming → Basic → ℕ → ℕ → Type 0
  BasicAt code site exits m labels (Null place) from to = from ≡ to
  BasicAt code site exits m labels (Assignment place receivers tree) from to = (middle : ℕ) × ExpressionAt code site tree from middle × ReceiversAt code site receivers middle to
  BasicAt code site exits m labels (If place condition consequence alternative) from to =
      (other : ℕ) × (begin : ℕ) × (end : ℕ) × ConditionAt code site condition from other begin × StatementAt code site exits m consequence begin end
      × AlternativeAt code site exits (after_statement m consequence) alternative end other to
  BasicAt code site exits m labels (Do place group) from to = GroupAt code site (within_group (opened labels to None) exits) (suc m) group from to
  BasicAt code site exits m labels (DoCase place number alternative group) from to =
      (middle : ℕ) × (begin : ℕ) × (none : ℕ) × ExpressionAt code site number from middle × KeepsAt code (loop_place (here_at site) m) middle begin
      × CasesAt code site (within_group (opened labels to None) exits) (loop_place (here_at site) m) (after_alternative (suc m) alternative) group begin none to
      × UncasedAt code site (within_group (opened labels to None) exits) (suc m) alternative none to
  BasicAt code site exits m labels (DoLoop place g group) from to =
      (turn : ℕ) × (again : ℕ) × FirstTestAt code site g from to turn × Has code turn (instr.Turn to)
      × GroupAt code site (within_group (opened labels to (Some again)) exits) (suc m) group (suc turn) again × TestAt code site g again turn to
  BasicAt code site exits m labels (DoFor place temporary variable span g group) from to =
      (again : ℕ) × SpannedAt code (group_site site temporary m) variable.name (end_place (here_at site) temporary m) g
      (λ begin end. GroupAt code (group_site site temporary m) (within_group (opened labels to (Some again)) exits) (suc m) group begin end) span from again to
  BasicAt code site exits m labels (Exit place label) from to = (target : ℕ) × (exit_of exits.groups (label_name label) ≡ Some target) × One code from (instr.Jump target) to
  BasicAt code site exits m labels (Repeat place label) from to = (target : ℕ) × (again_of exits.groups (label_name label) ≡ Some target) × One code from (instr.Jump target) to
  BasicAt code site exits m labels (Return place None) from to = ReturnAt code exits.leaving from to
  BasicAt code site exits m labels (Return place (Some tree)) from to =
      (middle : ℕ) × (late : ℕ) × ExpressionAt code site tree from middle × ResultAt code (body_at site.set site.unit) middle late × (exits.leaving ≡ ByResult) × One code late instr.Return to
  BasicAt code site exits m labels (Call place name arguments receivers) from to = (held : List Held) → CalledAt code site arguments receivers (name_meant (here_at site) name.name held) from to
  BasicAt code site exits m labels (Read place channel receivers) from to = (number : ℕ) × ChannelAt site channel number × ReadsAt code site number receivers from to
  BasicAt code site exits m labels (Event e) from to = One code from (changes e.action (event_named site.set.phrases site.block e.name.name)) to
  BasicAt code site exits m labels (Cancel place names) from to = NamedOrOwnAt code site instr.Cancel names from to
  BasicAt code site exits m labels (Terminate place names) from to = NamedOrOwnAt code site instr.Terminate names from to
  BasicAt code site exits m labels (Wait place tree) from to = PauseAt code site delay.For tree from to
  BasicAt code site exits m labels (WaitUntil place tree) from to = PauseAt code site delay.Until tree from to
  BasicAt code site exits m labels (WaitForDependent place) from to = One code from (instr.Wait delay.Dependents) to
  BasicAt code site exits m labels (WaitFor place tree) from to = EventAt code site (stated_at_mark (here_at site) m) from to
  BasicAt code site exits m labels (Scheduled place s) from to = ScheduledAt code site m s from to
  BasicAt code site exits m labels (UpdatePriority place name tree) from to = PrioritizedAt code site name tree from to
  BasicAt code site exits m labels (Write place channel items) from to =
      (number : ℕ) × (last : ℕ) × ChannelAt site channel number × ItemsAt code site items from last × One code last (instr.Print number) to
  BasicAt code site exits m labels (SendError place group_at group number_at number) from to = One code from (instr.Raise group number) to
  BasicAt code site exits m labels (Update place body close) from to =
      (handler : ℕ → ℕ) × (last : ℕ) × Has code from (instr.Open (update_groups (here_at site) m)) × StatementsAt code site (of_block NoReturn handler) (suc m) body (suc from) last
      × LeadsOut handler (suc m) body last × One code last instr.Close to
  BasicAt code site exits m labels (OnErrorStatement place s handler) from to =
      (group : ℕ) × (number : ℕ) × Selects s group number × Has code from (sets group number response.Statement change.Nothing 0 (suc (suc from))) × Has code (suc from) (instr.Jump to)
      × (exits.handler m ≡ suc (suc from)) × StatementAt code site exits (suc m) handler (suc (suc from)) to
  BasicAt code site exits m labels (OnErrorResponse place s r e) from to =
      (group : ℕ) × (number : ℕ) × (changes : EventChange) × (event : ℕ) × Selects s group number × (machine.side_of changes event ≡ side_of (here_at site) e) × One code from (sets group number (response_of r) changes event 0) to
  BasicAt code site exits m labels (OffError place s) from to = (group : ℕ) × (number : ℕ) × Selects s group number × One code from (instr.Off group number) to

  -- what stands after ELSE; the consequence before it ends at the first address, and the condition leads to the second one where it fails, behind the jump over what
  -- stands there
  pub AlternativeAt : Code → Site → Exits → ℕ → Alternative → ℕ → ℕ → ℕ → Type 0
  AlternativeAt code site exits m NoAlternative end other to = (end ≡ to) × (other ≡ to)
  AlternativeAt code site exits m (Otherwise one) end other to = Has code end (instr.Jump to) × (other ≡ suc end) × StatementAt code site exits m one other to

  -- what DO CASE does where its number selects no statement
  pub UncasedAt : Code → Site → Exits → ℕ → Alternative → ℕ → ℕ → Type 0
  UncasedAt code site exits m NoAlternative from to = One code from (instr.Raise 1 6) to
  UncasedAt code site exits m (Otherwise one) from to = StatementAt code site exits m one from to

  -- the statements of DO CASE, whose number this own place keeps; where it selects none of them, control goes on at the first address behind them, and from each of
  -- them at the second one
  pub CasesAt : Code → Site → Exits → ℕ → ℕ → Group → ℕ → ℕ → ℕ → Type 0
  CasesAt code site exits place m (Groups list close) from none to = SelectedAt code site exits place m 1 list from none to

  -- statements of which the first one has this number
  pub SelectedAt : Code → Site → Exits → ℕ → ℕ → ℕ → Statements → ℕ → ℕ → ℕ → Type 0
  SelectedAt code site exits place m k NoStatements from none to = from ≡ none
  SelectedAt code site exits place m k (MoreStatements first others) from none to =
      (begin : ℕ) × (end : ℕ) × CaseAt code place k from (suc end) begin × StatementAt code site exits m first begin end × Has code end (instr.Jump to)
      × SelectedAt code site exits place (after_statement m first) (suc k) others (suc end) none to

  pub GroupAt : Code → Site → Exits → ℕ → Group → ℕ → ℕ → Type 0
  GroupAt code site exits m (Groups list close) from to = StatementsAt code site exits m list from to

  -- statements one after another
  pub StatementsAt : Code → Site → Exits → ℕ → Statements → ℕ → ℕ → Type 0
  StatementsAt code site exits m NoStatements from to = from ≡ to
  StatementsAt code site exits m (MoreStatements first others) from to =
      (middle : ℕ) × StatementAt code site exits m first from middle × StatementsAt code site exits (after_statement m first) others middle to
