-- The reading of statements: each function gives the phrase of its kind that the words begin with, nested at most so deep. Statements inside others are read
-- by the reader of one level less, where one is left.
use Rattle.std.specs.Prelude.{ℕ, zero, suc, List, [], ◌∷◌, Option, Some, None, Bool, true, false}
use Rattle.hal_base.specs.declared.refusal.Place.{Place}
use Rattle.hal_words.specs.declared.reserved.Reserved.TheVariants as reserved
use Rattle.hal_words.specs.declared.word.Symbol.TheVariants as symbol
use Rattle.hal_words.specs.declared.word.Word.{Word}
use Rattle.hal_words.specs.declared.word.Word.TheVariants as word
use Rattle.hal_grammar.specs.Leaves.{Naming}
use Rattle.hal_grammar.specs.Expressions.{Expression, Expressions, NoExpressions, MoreExpressions, Reference}
use Rattle.hal_grammar.specs.Statements.{Guard, While, Until, Span, Stepped, Listed, Selector, EveryError, GroupErrors, OneError, EventAction, Signal, Set, Reset, Eventful, eventful, Response, System, Ignore, Start, StartAt, StartIn, StartOn, Cycle, Cyclic, CyclicEvery, CyclicAfter, Schedule, scheduling, Statement, Labelled, Basic, Null, Assignment, If, Do, DoCase, DoLoop, DoFor, Exit, Repeat, Return, Call, Read, Write, Update, Scheduled, Cancel, Terminate, Wait, WaitUntil, WaitForDependent, WaitFor, Event, UpdatePriority, OnErrorStatement, OnErrorResponse, OffError, SendError, Alternative, NoAlternative, Otherwise, Group, Groups}
use Rattle.hal_grammar.specs.Words.{Words}
unfoldable pub use Rattle.hal_tree.specs.Rows.{statements}
use Rattle.hal_parse_expr.specs.Reading.{Reader, followed, made_of, decided, past, past_symbol, name_at, integer_at, before_symbol, before, all, after_comma, parted}
use Rattle.hal_parse_expr.specs.ReadingExpressions.{closed, expressions, expressions_of, deeper_than, expression_at, expressions_at, reference_at}
use Rattle.hal_parse_declarations.specs.ReadingDeclarations.{in_parentheses, where_left, first_and_others, name_end_at}
use Rattle.hal_parse_declarations.specs.ReadingNames.{name_option_at, names_end_at, labels_at}

-- an expression and a semicolon
unfoldable pub expression_end : ℕ → Reader Expression
expression_end n words = before_symbol symbol.Semicolon (expression_at n words)

-- one reference or more, parted by commas
unfoldable pub references_at : ℕ → Reader (List Reference)
references_at n words = made_of first_and_others (parted (reference_at n) words)

-- the same with a parenthesis behind them, where one level more is left
unfoldable pub references_closed : ℕ → Reader (List Reference)
references_closed zero words = None
references_closed (suc n) words = before_symbol symbol.RightParenthesis (references_at n words)

-- arguments in parentheses, or none
unfoldable pub arguments_at : ℕ → Reader Expressions
arguments_at n words =
    decided (past_symbol symbol.LeftParenthesis words) (λ p rest. closed expressions_of (deeper_than n) rest) (Some (NoExpressions, words))

-- ASSIGN and references in parentheses, or none
unfoldable pub receivers_at : ℕ → Reader (List Reference)
receivers_at n words =
    decided (past reserved.Assign words) (λ p rest. followed (past_symbol symbol.LeftParenthesis rest) (λ q after. references_closed n after)) (Some ([], words))

-- UNTIL and a condition, or none
unfoldable pub until_at : ℕ → Reader (Option Guard)
until_at n words = decided (past reserved.Until words) (λ p rest. made_of (λ t. Some (Until p t)) (expression_at n rest)) (Some (None, words))

-- WHILE or UNTIL and a condition, or none
unfoldable pub guard_at : ℕ → Reader (Option Guard)
guard_at n words = decided (past reserved.While words) (λ p rest. made_of (λ t. Some (While p t)) (expression_at n rest)) (until_at n words)

-- BY and an expression, or none
unfoldable pub step_at : ℕ → Reader (Option Expression)
step_at n words = decided (past reserved.By words) (λ p rest. made_of (λ t. Some t) (expression_at n rest)) (Some (None, words))

-- behind an expression and TO
unfoldable pub stepped_from : ℕ → Expression → Reader Span
stepped_from n t words = followed (expression_at n words) (λ u rest. made_of (λ s. Stepped t u s) (step_at n rest))

-- behind an expression: the others of a list
unfoldable pub listed_from : ℕ → Expression → Reader Span
listed_from n t words =
    Some (Listed (MoreExpressions t (expressions (all (after_comma (expression_at n)) words).0)), (all (after_comma (expression_at n)) words).1)

-- an expression TO another, with a step or without, or expressions parted by commas
unfoldable pub span_at : ℕ → Reader Span
span_at n words = followed (expression_at n words) (λ t rest. decided (past reserved.To rest) (λ p after. stepped_from n t after) (listed_from n t rest))

-- behind the colon of a group of errors: `*`, a number, or nothing
unfoldable pub error_number : Place → Place → ℕ → Reader Selector
error_number p at group words =
    decided (past_symbol symbol.Star words) (λ q rest. Some (GroupErrors p at group, rest))
    (decided (integer_at words) (λ f rest. Some (OneError p at group f.0 f.1, rest)) (Some (GroupErrors p at group, words)))

-- a group of errors, and a colon and what follows it, or none
unfoldable pub error_group : Place → Reader Selector
error_group p words =
    followed (integer_at words) (λ f rest. decided (past_symbol symbol.Colon rest) (λ q after. error_number p f.0 f.1 after) (Some (GroupErrors p f.0 f.1, rest)))

-- behind `$`: a group, or what is in parentheses
unfoldable pub selector_behind : Place → Reader Selector
selector_behind p words = decided (integer_at words) (λ f rest. Some (GroupErrors p f.0 f.1, rest)) (in_parentheses (error_group p) words)

-- which errors are meant
unfoldable pub selector_at : Reader Selector
selector_at words = decided (past_symbol symbol.Dollar words) (λ p rest. selector_behind p rest) (Some (EveryError, words))

-- what a word does to an event
unfoldable pub action_of : Word → Option EventAction
action_of (word.Reserved reserved.Signal) = Some Signal
action_of (word.Reserved reserved.Set) = Some Set
action_of (word.Reserved reserved.Reset) = Some Reset
action_of other = None

-- SIGNAL, SET or RESET and a name, where the first word is this one
unfoldable pub event_behind : Place → Word → Reader Eventful
event_behind p w rest = elim (action_of w) [ None ↦ None | Some a ↦ made_of (λ x. eventful p a x) (name_at rest) ]

-- SIGNAL, SET or RESET and a name
unfoldable pub event_at : Reader Eventful
event_at [] = None
event_at (first ∷ rest) = event_behind first.place first.word rest

-- AND and an event, or none, and a semicolon
unfoldable pub event_end_at : Reader (Option Eventful)
event_end_at words =
    decided (past reserved.And words) (λ p rest. made_of (λ e. Some e) (before_symbol symbol.Semicolon (event_at rest))) (made_of (λ p. None) (past_symbol symbol.Semicolon words))

-- SYSTEM or IGNORE
unfoldable pub response_at : Reader Response
response_at words = decided (past reserved.System words) (λ p rest. Some (System, rest)) (made_of (λ p. Ignore) (past reserved.Ignore words))

-- ON and an expression, or none
unfoldable pub start_on_at : ℕ → Reader (Option Start)
start_on_at n words = decided (past reserved.On words) (λ p rest. made_of (λ t. Some (StartOn p t)) (expression_at n rest)) (Some (None, words))

-- IN or ON and an expression, or none
unfoldable pub start_in_at : ℕ → Reader (Option Start)
start_in_at n words = decided (past reserved.In words) (λ p rest. made_of (λ t. Some (StartIn p t)) (expression_at n rest)) (start_on_at n words)

-- AT, IN or ON and an expression, or none
unfoldable pub start_at_at : ℕ → Reader (Option Start)
start_at_at n words = decided (past reserved.At words) (λ p rest. made_of (λ t. Some (StartAt p t)) (expression_at n rest)) (start_in_at n words)

-- PRIORITY and an expression in parentheses, or none
unfoldable pub priority_at : ℕ → Reader (Option Expression)
priority_at n words = decided (past reserved.Priority words) (λ p rest. made_of (λ t. Some t) (in_parentheses (expression_at n) rest)) (Some (None, words))

-- DEPENDENT or not
unfoldable pub dependent_at : Reader Bool
dependent_at words = decided (past reserved.Dependent words) (λ p rest. Some (true, rest)) (Some (false, words))

-- behind REPEAT: AFTER and an expression, or nothing
unfoldable pub cycle_after_at : ℕ → Place → Reader Cycle
cycle_after_at n p words = decided (past reserved.After words) (λ q rest. made_of (λ t. CyclicAfter p t) (expression_at n rest)) (Some (Cyclic p, words))

-- behind REPEAT: EVERY or AFTER and an expression, or nothing
unfoldable pub cycle_behind : ℕ → Place → Reader Cycle
cycle_behind n p words = decided (past reserved.Every words) (λ q rest. made_of (λ t. CyclicEvery p t) (expression_at n rest)) (cycle_after_at n p words)

-- REPEAT and what stands behind it, or none
unfoldable pub repeat_at : ℕ → Reader (Option Cycle)
repeat_at n words = decided (past reserved.Repeat words) (λ p rest. made_of (λ c. Some c) (cycle_behind n p rest)) (Some (None, words))

-- the same behind a comma, where it may not be missing
unfoldable pub comma_repeat : ℕ → Reader (Option Cycle)
comma_repeat n words = followed (past reserved.Repeat words) (λ p rest. made_of (λ c. Some c) (cycle_behind n p rest))

-- REPEAT and what stands behind it, with a comma before it or not, or none
unfoldable pub cycle_at : ℕ → Reader (Option Cycle)
cycle_at n words = decided (past_symbol symbol.Comma words) (λ p rest. comma_repeat n rest) (repeat_at n words)

-- the cycle and the condition of a schedule
unfoldable pub cycle_and_guard : ℕ → Reader (Option Cycle × Option Guard)
cycle_and_guard n words = followed (cycle_at n words) (λ c rest. made_of (λ g. (c, g)) (guard_at n rest))

-- its priority, and whether it is dependent
unfoldable pub rank_at : ℕ → Reader (Option Expression × Bool)
rank_at n words = followed (priority_at n words) (λ t rest. made_of (λ d. (t, d)) (dependent_at rest))

-- what stands behind the name of a schedule
unfoldable pub schedule_behind : ℕ → Naming → Reader Schedule
schedule_behind n x words =
    followed (start_at_at n words) (λ s r1. followed (rank_at n r1) (λ k r2. made_of (λ f. scheduling x s k.0 k.1 f.0 f.1) (cycle_and_guard n r2)))

-- what stands behind SCHEDULE, and a semicolon
unfoldable pub schedule_at : ℕ → Reader Schedule
schedule_at n words = before_symbol symbol.Semicolon (followed (name_at words) (λ x rest. schedule_behind n x rest))

-- TEMPORARY or not
unfoldable pub temporary_at : Reader Bool
temporary_at words = decided (past reserved.Temporary words) (λ p rest. Some (true, rest)) (Some (false, words))

-- receivers, `=`, an expression and a semicolon; the place is that of the first word
unfoldable pub assigned_at : ℕ → Place → Reader Basic
assigned_at n p words =
    followed (before_symbol symbol.Equals (references_at n words)) (λ xs rest. made_of (λ t. Assignment p xs t) (expression_end n rest))

-- behind RETURN
unfoldable pub returned_at : ℕ → Place → Reader Basic
returned_at n p words =
    decided (past_symbol symbol.Semicolon words) (λ q rest. Some (Return p None, rest)) (made_of (λ t. Return p (Some t)) (expression_end n words))

-- behind CALL and a name
unfoldable pub call_behind : ℕ → Place → Naming → Reader Basic
call_behind n p x words = followed (arguments_at n words) (λ ts rest. made_of (λ xs. Call p x ts xs) (before_symbol symbol.Semicolon (receivers_at n rest)))

-- behind CALL
unfoldable pub call_at : ℕ → Place → Reader Basic
call_at n p words = followed (name_at words) (λ x rest. call_behind n p x rest)

-- behind READ
unfoldable pub read_at : ℕ → Place → Reader Basic
read_at n p words =
    followed (in_parentheses (expression_at n) words) (λ t rest. made_of (λ xs. Read p t xs) (before_symbol symbol.Semicolon (references_at n rest)))

-- expressions and a semicolon, or a semicolon alone
unfoldable pub items_end_at : ℕ → Reader Expressions
items_end_at n words =
    decided (past_symbol symbol.Semicolon words) (λ q rest. Some (NoExpressions, rest)) (before_symbol symbol.Semicolon (expressions_at n words))

-- behind WRITE
unfoldable pub write_at : ℕ → Place → Reader Basic
write_at n p words = followed (in_parentheses (expression_at n) words) (λ t rest. made_of (λ ts. Write p t ts) (items_end_at n rest))

-- behind WAIT and FOR
unfoldable pub wait_for_at : ℕ → Place → Reader Basic
wait_for_at n p words =
    decided (past reserved.Dependent words) (λ q rest. made_of (λ r. WaitForDependent p) (past_symbol symbol.Semicolon rest)) (made_of (λ t. WaitFor p t) (expression_end n words))

-- behind WAIT
unfoldable pub wait_at : ℕ → Place → Reader Basic
wait_at n p words =
    decided (past reserved.Until words) (λ q rest. made_of (λ t. WaitUntil p t) (expression_end n rest))
    (decided (past reserved.For words) (λ q rest. wait_for_at n p rest) (made_of (λ t. Wait p t) (expression_end n words)))

-- behind SIGNAL, SET or RESET, which does this to the event
unfoldable pub acts_at : Place → EventAction → Reader Basic
acts_at p a words = made_of (λ x. Event (eventful p a x)) (before_symbol symbol.Semicolon (name_at words))

-- behind UPDATE and PRIORITY
unfoldable pub prioritizes_at : ℕ → Place → Reader Basic
prioritizes_at n p words =
    followed (before reserved.To (name_option_at words)) (λ x rest. made_of (λ t. UpdatePriority p x t) (expression_end n rest))

-- behind OFF
unfoldable pub forgets_at : Place → Reader Basic
forgets_at p words = followed (past reserved.Error words) (λ q rest. made_of (λ x. OffError p x) (before_symbol symbol.Semicolon (selector_at rest)))

-- a group of errors, a colon and a number in parentheses, and a semicolon
unfoldable pub error_sent : Place → Reader Basic
error_sent p words =
    followed (before_symbol symbol.Colon (integer_at words)) (λ group rest.
    before_symbol symbol.Semicolon (before_symbol symbol.RightParenthesis (made_of (λ number. SendError p group.0 group.1 number.0 number.1) (integer_at rest))))

-- behind SEND
unfoldable pub sends_at : Place → Reader Basic
sends_at p words =
    followed (past reserved.Error words) (λ q rest. followed (past_symbol symbol.Dollar rest) (λ r after.
    followed (past_symbol symbol.LeftParenthesis after) (λ s last. error_sent p last)))

-- ELSE and a statement inside, or none
unfoldable pub alternative_of : Option (Reader Statement) → Reader Alternative
alternative_of inner words = decided (past reserved.Else words) (λ p rest. made_of (λ s. Otherwise s) (where_left inner rest)) (Some (NoAlternative, words))

-- as many statements inside as can be read
unfoldable pub statements_of : Option (Reader Statement) → Words → List Statement × Words
statements_of inner words = all (where_left inner) words

-- statements inside, END, a name or none, and a semicolon
unfoldable pub group_of : Option (Reader Statement) → Reader Group
group_of inner words =
    followed (past reserved.End (statements_of inner words).1) (λ p rest. made_of (λ x. Groups (statements (statements_of inner words).0) x) (name_end_at rest))

-- behind IF and its condition and THEN
unfoldable pub chosen_of : Option (Reader Statement) → Place → Expression → Reader Basic
chosen_of inner p t words = followed (where_left inner words) (λ s rest. made_of (λ a. If p t s a) (alternative_of inner rest))

-- behind IF
unfoldable pub if_of : ℕ → Option (Reader Statement) → Place → Reader Basic
if_of n inner p words = followed (before reserved.Then (expression_at n words)) (λ t rest. chosen_of inner p t rest)

-- behind DO and CASE
unfoldable pub case_of : ℕ → Option (Reader Statement) → Place → Reader Basic
case_of n inner p words =
    followed (expression_end n words) (λ t rest. followed (alternative_of inner rest) (λ a after. made_of (λ g. DoCase p t a g) (group_of inner after)))

-- behind DO and WHILE or UNTIL, which makes this of the condition
unfoldable pub loop_of : ℕ → Option (Reader Statement) → Place → (Expression → Guard) → Reader Basic
loop_of n inner p make words = followed (expression_end n words) (λ t rest. made_of (λ g. DoLoop p (make t) g) (group_of inner rest))

-- behind the variable and `=` of DO FOR
unfoldable pub range_of : ℕ → Option (Reader Statement) → Place → Bool → Naming → Reader Basic
range_of n inner p b x words =
    followed (span_at n words) (λ s rest. followed (before_symbol symbol.Semicolon (guard_at n rest)) (λ c after. made_of (λ g. DoFor p b x s c g) (group_of inner after)))

-- behind DO and FOR
unfoldable pub for_of : ℕ → Option (Reader Statement) → Place → Reader Basic
for_of n inner p words =
    followed (temporary_at words) (λ b rest. followed (before_symbol symbol.Equals (name_at rest)) (λ x after. range_of n inner p b x after))

-- behind DO, what the next word begins
unfoldable pub do_behind : ℕ → Option (Reader Statement) → Place → Place → Word → Reader Basic
do_behind n inner p q (word.Symbol symbol.Semicolon) rest = made_of (λ g. Do p g) (group_of inner rest)
do_behind n inner p q (word.Reserved reserved.Case) rest = case_of n inner p rest
do_behind n inner p q (word.Reserved reserved.While) rest = loop_of n inner p (λ t. While q t) rest
do_behind n inner p q (word.Reserved reserved.Until) rest = loop_of n inner p (λ t. Until q t) rest
do_behind n inner p q (word.Reserved reserved.For) rest = for_of n inner p rest
do_behind n inner p q other rest = None

-- behind DO
unfoldable pub do_of : ℕ → Option (Reader Statement) → Place → Reader Basic
do_of n inner p [] = None
do_of n inner p (first ∷ rest) = do_behind n inner p first.place first.word rest

-- statements inside, CLOSE, a name or none, and a semicolon
unfoldable pub body_of : Reader Statement → Place → Reader Basic
body_of read p words =
    followed (past reserved.Close (all read words).1) (λ q rest. made_of (λ x. Update p (statements (all read words).0) x) (name_end_at rest))

-- behind UPDATE and its semicolon, where one level more is left
unfoldable pub updates_of : Option (Reader Statement) → Place → Reader Basic
updates_of None p words = None
updates_of (Some read) p words = body_of read p words

-- behind UPDATE
unfoldable pub update_of : ℕ → Option (Reader Statement) → Place → Reader Basic
update_of n inner p words =
    decided (past_symbol symbol.Semicolon words) (λ q rest. updates_of inner p rest) (followed (past reserved.Priority words) (λ q rest. prioritizes_at n p rest))

-- behind ON, ERROR and which errors
unfoldable pub handled_of : Option (Reader Statement) → Place → Selector → Reader Basic
handled_of inner p x words =
    decided (response_at words) (λ r rest. made_of (λ e. OnErrorResponse p x r e) (event_end_at rest)) (made_of (λ s. OnErrorStatement p x s) (where_left inner words))

-- behind ON
unfoldable pub on_of : Option (Reader Statement) → Place → Reader Basic
on_of inner p words = followed (past reserved.Error words) (λ q rest. followed (selector_at rest) (λ x after. handled_of inner p x after))

-- the statement that a reserved word begins
unfoldable pub reserved_behind : ℕ → Option (Reader Statement) → Place → Word → Reader Basic
reserved_behind n inner p (word.Reserved reserved.If) rest = if_of n inner p rest
reserved_behind n inner p (word.Reserved reserved.Do) rest = do_of n inner p rest
reserved_behind n inner p (word.Reserved reserved.Exit) rest = made_of (λ x. Exit p x) (name_end_at rest)
reserved_behind n inner p (word.Reserved reserved.Repeat) rest = made_of (λ x. Repeat p x) (name_end_at rest)
reserved_behind n inner p (word.Reserved reserved.Return) rest = returned_at n p rest
reserved_behind n inner p (word.Reserved reserved.Call) rest = call_at n p rest
reserved_behind n inner p (word.Reserved reserved.Read) rest = read_at n p rest
reserved_behind n inner p (word.Reserved reserved.Write) rest = write_at n p rest
reserved_behind n inner p (word.Reserved reserved.Update) rest = update_of n inner p rest
reserved_behind n inner p (word.Reserved reserved.Schedule) rest = made_of (λ s. Scheduled p s) (schedule_at n rest)
reserved_behind n inner p (word.Reserved reserved.Cancel) rest = made_of (λ xs. Cancel p xs) (names_end_at rest)
reserved_behind n inner p (word.Reserved reserved.Terminate) rest = made_of (λ xs. Terminate p xs) (names_end_at rest)
reserved_behind n inner p (word.Reserved reserved.Wait) rest = wait_at n p rest
reserved_behind n inner p (word.Reserved reserved.Signal) rest = acts_at p Signal rest
reserved_behind n inner p (word.Reserved reserved.Set) rest = acts_at p Set rest
reserved_behind n inner p (word.Reserved reserved.Reset) rest = acts_at p Reset rest
reserved_behind n inner p (word.Reserved reserved.On) rest = on_of inner p rest
reserved_behind n inner p (word.Reserved reserved.Off) rest = forgets_at p rest
reserved_behind n inner p (word.Reserved reserved.Send) rest = sends_at p rest
reserved_behind n inner p other rest = None

-- the statement that the first word begins; `words` are all words from it on
unfoldable pub basic_behind : ℕ → Option (Reader Statement) → Words → Place → Word → Reader Basic
basic_behind n inner words p (word.Symbol symbol.Semicolon) rest = Some (Null p, rest)
basic_behind n inner words p (word.Name m) rest = assigned_at n p words
basic_behind n inner words p other rest = reserved_behind n inner p other rest

-- a statement without labels
unfoldable pub basic_of : ℕ → Option (Reader Statement) → Reader Basic
basic_of n inner [] = None
basic_of n inner (first ∷ rest) = basic_behind n inner (first ∷ rest) first.place first.word rest

-- a statement
unfoldable pub statement_of : ℕ → Option (Reader Statement) → Reader Statement
statement_of n inner words = made_of (λ x. Labelled (labels_at words).0 x) (basic_of n inner (labels_at words).1)

-- a statement that is nested at most so deep
unfoldable pub statement_at : ℕ → Reader Statement
statement_at zero words = statement_of zero None words
statement_at (suc n) words = statement_of (suc n) (Some (statement_at n)) words

-- the reader of statements one level deeper, where there is one
unfoldable pub statement_below : ℕ → Option (Reader Statement)
statement_below zero = None
statement_below (suc n) = Some (statement_at n)
