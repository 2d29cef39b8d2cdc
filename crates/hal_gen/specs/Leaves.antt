-- The code of statements without parts, and of the parts of statements that are no expressions: None where there is none yet.
use Rattle.std.specs.Prelude.{ℕ, zero, suc, ◌+◌, nat_lt, length, Bool, true, false, List, [], ◌∷◌, ◌++◌, Option, Some, None, if◌then◌else◌}
use Rattle.std.specs.Option.{option_map, option_and_then}
use Rattle.hal_grammar.specs.Leaves.{Naming}
use Rattle.hal_grammar.specs.Declarations as declarations
use Rattle.hal_grammar.specs.Declarations.{CharacterKind}
use Rattle.hal_grammar.specs.Expressions.{Expression, Decimal, Reference, Refers}
use Rattle.hal_grammar.specs.Statements.{Selector, EveryError, GroupErrors, OneError, Eventful, EventAction, Signal, Set, Reset, Response}
use Rattle.hal_grammar.specs.Units.{Head, Function, Returns, NoKind, HasKind}
use Rattle.hal_operations.specs.declared.operation.Op1.TheVariants as op1
use Rattle.hal_values.specs.Tables.{process_count}
use Rattle.hal_values.specs.declared.value.Kind.{Kind}
use Rattle.hal_values.specs.declared.value.Kind.TheVariants as kind
use Rattle.hal_meaning.specs.Bodies.{Body}
use Rattle.hal_meaning.specs.Elements.{chosen}
use Rattle.hal_meaning.specs.Events.{event_named}
use Rattle.hal_meaning.specs.RealTime.{process_named}
use Rattle.hal_meaning.specs.Variables.{kind_of_first}
use Rattle.hal_code.specs.declared.choice.Choice.TheVariants as choice
use Rattle.hal_code.specs.declared.instr.Instr.{Instr}
use Rattle.hal_code.specs.declared.instr.Instr.TheVariants as instr
use Rattle.hal_code.specs.declared.operand.Delay.TheVariants as delay
use Rattle.hal_code.specs.declared.operand.EventChange.{EventChange}
use Rattle.hal_code.specs.declared.operand.EventChange.TheVariants as change
use Rattle.hal_code.specs.declared.operand.Response.TheVariants as response
use Rattle.hal_agreement.specs.PlacedStatements.{Leaving, ToFinish, ByReturn, ByResult, changes, sets, response_of}
use Rattle.hal_agreement.specs.Sites.{Site, here_at}
use Rattle.hal_gen_expr.specs.Numbering.{below}
use Rattle.hal_storage.specs.referents.Referents.{Referent, DataOf}
use Rattle.hal_gen_expr.specs.Referents.{referent}

-- the kind of what READ stores in what a name refers to
abbrev pub kind_referred : List Naming → Referent → Kind
kind_referred path (DataOf k kept shape) = kind_of_first (chosen path shape.components)
kind_referred path other = kind.Double

abbrev pub kind_of_receiver : Site → Reference → Kind
kind_of_receiver site (Refers place name path subscript) = kind_referred path (referent site name)

-- RETURN without a value
abbrev pub return_of : Leaving → Option (List Instr)
return_of (ToFinish at) = Some (instr.Jump at ∷ [])
return_of ByReturn = Some (instr.Return ∷ [])
return_of other = None

-- RETURN behind a value, which becomes what the FUNCTION's type has it
abbrev pub is_text : declarations.Kind → Bool
is_text (CharacterKind at size) = true
is_text other = false

abbrev pub returns_text : Returns → Bool
returns_text NoKind = false
returns_text (HasKind kind precision) = is_text kind

abbrev pub gives_text : Head → Bool
gives_text (Function place inputs returns mode) = returns_text returns
gives_text other = false

abbrev pub text_result : Bool → List Instr
text_result true = instr.Op1 (choice.Known op1.Character) ∷ []
text_result false = []

abbrev pub as_result : Option Body → List Instr
as_result None = []
as_result (Some b) = text_result (gives_text b.head)

abbrev pub result_of : Leaving → Option Body → Option (List Instr)
result_of ByResult body = Some (as_result body ++ (instr.Return ∷ []))
result_of other body = None

-- SIGNAL, SET and RESET
abbrev pub event_change_of : Site → Eventful → Option (List Instr)
event_change_of site e = option_map (λ number. changes e.action number ∷ []) (below 65536 (event_named site.set.phrases site.block e.name.name))

-- a time that is written as a decimal
abbrev pub decimal_of : Expression → Option ℕ
decimal_of (Decimal place number) = Some number
decimal_of other = None

-- the number of an event expression of the set, where an instruction has room for it
abbrev pub stated_number : Site → ℕ → Option ℕ
stated_number site x = if nat_lt x (length site.set.tables.expressions) then below 4294967296 x else None

-- the first and the last of a statement's event expressions
abbrev pub head_of : List ℕ → Option ℕ
head_of [] = None
head_of (x ∷ xs) = Some x

abbrev pub last_of : Option ℕ → List ℕ → Option ℕ
last_of found [] = found
last_of found (x ∷ xs) = last_of (Some x) xs

abbrev pub first_event : Site → List ℕ → Option ℕ
first_event site xs = option_and_then (stated_number site) (head_of xs)

abbrev pub last_event : Site → List ℕ → Option ℕ
last_event site xs = option_and_then (stated_number site) (last_of None xs)

-- a pause until the first one is TRUE
abbrev pub event_pause_of : Site → List ℕ → Option (List Instr)
event_pause_of site xs = option_map (λ number. instr.Wait (delay.Event number) ∷ []) (first_event site xs)

-- the number of a process that is named
abbrev pub named_process : Site → Naming → Option ℕ
named_process site name =
    if nat_lt (process_named (here_at site) name) (process_count site.set.tables) then below 255 (process_named (here_at site) name) else None

-- the same instruction for each process that is named
abbrev pub and_asked : (ℕ → Instr) → Option ℕ → Option (List Instr) → Option (List Instr)
and_asked asks number others = option_and_then (λ p. option_map (λ is. asks p ∷ is) others) number

abbrev pub each_of : Site → (ℕ → Instr) → List Naming → Option (List Instr)
each_of site asks [] = Some []
each_of site asks (name ∷ names) = and_asked asks (named_process site name) (each_of site asks names)

-- or for the process itself, where none is
abbrev pub named_or_own_of : Site → (ℕ → Instr) → List Naming → Option (List Instr)
named_or_own_of site asks [] = Some (asks 255 ∷ [])
named_or_own_of site asks (name ∷ names) = each_of site asks (name ∷ names)

-- group and number of the errors that a selector means; 0 stands for any
abbrev pub from_one : ℕ → Option ℕ
from_one zero = None
from_one (suc n) = below 256 (suc n)

abbrev pub numbers_of : Selector → Option (ℕ × ℕ)
numbers_of EveryError = Some (0, 0)
numbers_of (GroupErrors place group_at group) = option_map (λ g. (g, 0)) (from_one group)
numbers_of (OneError place group_at group number_at number) = option_and_then (λ g. option_map (λ k. (g, k)) (from_one number)) (from_one group)

-- what ON ERROR does to an event
abbrev pub change_of : EventAction → EventChange
change_of Signal = change.Signal
change_of Set = change.Set
change_of Reset = change.Reset

abbrev pub side_numbers : Site → Option Eventful → Option (EventChange × ℕ)
side_numbers site None = Some (change.Nothing, 0)
side_numbers site (Some e) = option_map (λ number. (change_of e.action, number)) (below 65536 (event_named site.set.phrases site.block e.name.name))

-- ON ERROR with SYSTEM or IGNORE, OFF ERROR and SEND ERROR
abbrev pub response_entry : Response → ℕ × ℕ → EventChange × ℕ → List Instr
response_entry r errors side = sets errors.0 errors.1 (response_of r) side.0 side.1 0 ∷ []

abbrev pub response_code : Site → Selector → Response → Option Eventful → Option (List Instr)
response_code site s r e = option_and_then (λ errors. option_map (response_entry r errors) (side_numbers site e)) (numbers_of s)

-- ON ERROR with a statement of this size, behind so many instructions, and a jump over the statement
abbrev pub handler_entry : ℕ → ℕ → ℕ × ℕ → List Instr
handler_entry from size errors = sets errors.0 errors.1 response.Statement change.Nothing 0 (suc (suc from)) ∷ instr.Jump (suc (suc from) + size) ∷ []

abbrev pub handler_code : Selector → ℕ → ℕ → Option (List Instr)
handler_code s from size = option_map (handler_entry from size) (numbers_of s)

abbrev pub off_of : Selector → Option (List Instr)
off_of s = option_map (λ (errors : ℕ × ℕ). instr.Off errors.0 errors.1 ∷ []) (numbers_of s)

abbrev pub raise_of : ℕ → ℕ → Option (List Instr)
raise_of group number = option_and_then (λ g. option_map (λ k. instr.Raise g k ∷ []) (below 256 number)) (below 256 group)
