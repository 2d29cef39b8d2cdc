-- The names that statements look up, and in which block each: once as the meaning goes through the tree, with the numbers of phrases that marks
-- give, and once as the phrases say.
use Rattle.std.specs.Prelude.{◌≡◌, ℕ, suc, ◌==◌, Bool, true, false, List, [], ◌∷◌, ◌++◌, Option, Some, None, length, slice_get, map, flat_map, filter_map, option_map, unwrap_or, if◌then◌else◌}
use Rattle.hal_grammar.specs.Leaves.{Naming}
use Rattle.hal_grammar.specs.Expressions.{Expression, Or, And, Compare, Cat, Sum, Product, Power, Not, Literal, Decimal, Referred, Called, Convert, Parenthesis, Expressions, NoExpressions, MoreExpressions, Terms, NoTerms, MoreTerms, Reference, Refers, Subscript, Unsubscripted, ByName, ByInteger, ByParts, Subscripts, NoSubscripts, MoreSubscripts, Sub, Every, One, Range, Portion, Position, FromBeginning, FromEnd}
use Rattle.hal_grammar.specs.Statements.{Guard, While, Until, Span, Stepped, Listed, Eventful, Start, StartAt, StartIn, StartOn, Cycle, Cyclic, CyclicEvery, CyclicAfter, Schedule, Statement, Labelled, Basic, Null, Assignment, If, Do, DoCase, DoLoop, DoFor, Exit, Repeat, Return, Call, Read, Write, Update, Scheduled, Cancel, Terminate, Wait, WaitUntil, WaitForDependent, WaitFor, Event, UpdatePriority, OnErrorStatement, OnErrorResponse, OffError, SendError, Alternative, NoAlternative, Otherwise, Group, Groups, Statements, NoStatements, MoreStatements}
use Rattle.hal_phrases.specs.declared.around.Around.{Around}
use Rattle.hal_phrases.specs.Phrases.{Phrase}
use Rattle.hal_phrases.specs.GatheredStatements.{gathered_statements}
use Rattle.hal_scope.specs.declared.used.Use.{Use}
use Rattle.hal_scope.specs.Sorts.{used}
use Rattle.hal_meaning.specs.Bodies.{Body, marks_of}
use Rattle.hal_meaning.specs.Marks.{after_statement, after_alternative}

-- a name that is looked up, behind the number of the block
abbrev pub Looked : Type 0
Looked = ℕ × List ℕ

abbrev pub looked_name : ℕ → Naming → Looked
looked_name block name = (block, name.name)

abbrev mutual
  -- the names of an expression that is evaluated in this block
  pub looked : ℕ → Expression → List Looked
  looked b (Or place first others) = looked b first ++ all_looked b others
  looked b (And place first others) = looked b first ++ all_looked b others
  looked b (Compare place left relation right) = looked b left ++ looked b right
  looked b (Cat place first others) = looked b first ++ all_looked b others
  looked b (Sum place opening first others) = looked b first ++ terms_looked b others
  looked b (Product place first others) = looked b first ++ all_looked b others
  looked b (Power place base exponent) = looked b base ++ looked b exponent
  looked b (Not place operand) = looked b operand
  looked b (Literal place literal) = []
  looked b (Decimal place number) = []
  looked b (Referred reference) = reference_looked b reference
  looked b (Called place name arguments) = (b, name) ∷ all_looked b arguments
  looked b (Convert place conversion operand) = looked b operand
  looked b (Parenthesis place inner) = looked b inner

  pub all_looked : ℕ → Expressions → List Looked
  all_looked b NoExpressions = []
  all_looked b (MoreExpressions first others) = looked b first ++ all_looked b others

  pub terms_looked : ℕ → Terms → List Looked
  terms_looked b NoTerms = []
  terms_looked b (MoreTerms place sign term others) = looked b term ++ terms_looked b others

  -- a reference, and what stands in its subscript
  pub reference_looked : ℕ → Reference → List Looked
  reference_looked b (Refers place name further subscript) = (b, name) ∷ subscript_looked b subscript

  pub subscript_looked : ℕ → Subscript → List Looked
  subscript_looked b Unsubscripted = []
  subscript_looked b (ByName place name) = looked_name b name ∷ []
  subscript_looked b (ByInteger place at number) = []
  subscript_looked b (ByParts place copies arrays components) = subs_looked b copies ++ (subs_looked b arrays ++ subs_looked b components)

  pub subs_looked : ℕ → Subscripts → List Looked
  subs_looked b NoSubscripts = []
  subs_looked b (MoreSubscripts first others) = sub_looked b first ++ subs_looked b others

  pub sub_looked : ℕ → Sub → List Looked
  sub_looked b (Every place) = []
  sub_looked b (One position) = position_looked b position
  sub_looked b (Range first last) = position_looked b first ++ position_looked b last
  sub_looked b (Portion count first) = looked b count ++ position_looked b first

  pub position_looked : ℕ → Position → List Looked
  position_looked b (FromBeginning position) = looked b position
  position_looked b (FromEnd place terms) = terms_looked b terms

-- what may stand there
abbrev pub any_looked : {X : Type 0} → (X → List Looked) → Option X → List Looked
any_looked f None = []
any_looked f (Some x) = f x

abbrev pub guard_looked : ℕ → Guard → List Looked
guard_looked b (While place condition) = looked b condition
guard_looked b (Until place condition) = looked b condition

abbrev pub span_looked : ℕ → Span → List Looked
span_looked b (Stepped first last step) = looked b first ++ (looked b last ++ any_looked (looked b) step)
span_looked b (Listed values) = all_looked b values

abbrev pub start_looked : ℕ → Start → List Looked
start_looked b (StartAt place time) = looked b time
start_looked b (StartIn place time) = looked b time
start_looked b (StartOn place event) = looked b event

abbrev pub cycle_looked : ℕ → Cycle → List Looked
cycle_looked b (Cyclic place) = []
cycle_looked b (CyclicEvery place time) = looked b time
cycle_looked b (CyclicAfter place time) = looked b time

-- SCHEDULE: its process, start, priority, cycle and guard
abbrev pub schedule_looked : ℕ → Schedule → List Looked
schedule_looked b s =
    looked_name b s.name ∷ (any_looked (start_looked b) s.start ++ (any_looked (looked b) s.priority ++ (any_looked (cycle_looked b) s.cycle ++ any_looked (guard_looked b) s.guard)))

-- the block in which names are looked up in a DO FOR group of this mark, where the phrases of the unit's marks have these numbers: a TEMPORARY
-- variable is known in the group alone
abbrev pub group_block : List ℕ → ℕ → Bool → ℕ → ℕ
group_block marks b false m = b
group_block marks b true m = unwrap_or (slice_get marks m) b

-- a loop's variable is looked up where it isn't TEMPORARY
abbrev pub variable_looked : ℕ → Bool → Naming → List Looked
variable_looked b true variable = []
variable_looked b false variable = looked_name b variable ∷ []

abbrev pub event_looked : ℕ → Eventful → List Looked
event_looked b event = looked_name b event.name ∷ []

abbrev mutual
  -- the names of a statement in this block, before which the next mark has this number
  pub looked_in_statement : List ℕ → ℕ → ℕ → Statement → List Looked
  looked_in_statement marks b m (Labelled labels basic) = looked_in_basic marks b m basic

  pub looked_in_basic : List ℕ → ℕ → ℕ → Basic → List Looked
  looked_in_basic marks b m (Null place) = []
  looked_in_basic marks b m (Assignment place receivers value) = flat_map (reference_looked b) receivers ++ looked b value
  looked_in_basic marks b m (If place condition consequence alternative) =
      looked b condition ++ (looked_in_statement marks b m consequence ++ looked_in_alternative marks b (after_statement m consequence) alternative)
  looked_in_basic marks b m (Do place group) = looked_in_group marks b (suc m) group
  looked_in_basic marks b m (DoCase place selector alternative group) =
      looked b selector ++ (looked_in_alternative marks b (suc m) alternative ++ looked_in_group marks b (after_alternative (suc m) alternative) group)
  looked_in_basic marks b m (DoLoop place guard group) = guard_looked b guard ++ looked_in_group marks b (suc m) group
  looked_in_basic marks b m (DoFor place temporary variable span guard group) =
      variable_looked b temporary variable ++ (span_looked (group_block marks b temporary m) span
      ++ (any_looked (guard_looked (group_block marks b temporary m)) guard ++ looked_in_group marks (group_block marks b temporary m) (suc m) group))
  looked_in_basic marks b m (Exit place label) = []
  looked_in_basic marks b m (Repeat place label) = []
  looked_in_basic marks b m (Return place value) = any_looked (looked b) value
  looked_in_basic marks b m (Call place name arguments receivers) = looked_name b name ∷ (all_looked b arguments ++ flat_map (reference_looked b) receivers)
  looked_in_basic marks b m (Read place channel receivers) = looked b channel ++ flat_map (reference_looked b) receivers
  looked_in_basic marks b m (Write place channel items) = looked b channel ++ all_looked b items
  looked_in_basic marks b m (Update place body close) = looked_in_statements marks b (suc m) body
  looked_in_basic marks b m (Scheduled place schedule) = schedule_looked b schedule
  looked_in_basic marks b m (Cancel place names) = map (looked_name b) names
  looked_in_basic marks b m (Terminate place names) = map (looked_name b) names
  looked_in_basic marks b m (Wait place time) = looked b time
  looked_in_basic marks b m (WaitUntil place time) = looked b time
  looked_in_basic marks b m (WaitForDependent place) = []
  looked_in_basic marks b m (WaitFor place event) = looked b event
  looked_in_basic marks b m (Event event) = event_looked b event
  looked_in_basic marks b m (UpdatePriority place name priority) = any_looked (λ n. looked_name b n ∷ []) name ++ looked b priority
  looked_in_basic marks b m (OnErrorStatement place selector handler) = looked_in_statement marks b (suc m) handler
  looked_in_basic marks b m (OnErrorResponse place selector response event) = any_looked (event_looked b) event
  looked_in_basic marks b m (OffError place selector) = []
  looked_in_basic marks b m (SendError place group_at group number_at number) = []

  pub looked_in_alternative : List ℕ → ℕ → ℕ → Alternative → List Looked
  looked_in_alternative marks b m NoAlternative = []
  looked_in_alternative marks b m (Otherwise statement) = looked_in_statement marks b m statement

  pub looked_in_group : List ℕ → ℕ → ℕ → Group → List Looked
  looked_in_group marks b m (Groups list close) = looked_in_statements marks b m list

  pub looked_in_statements : List ℕ → ℕ → ℕ → Statements → List Looked
  looked_in_statements marks b m NoStatements = []
  looked_in_statements marks b m (MoreStatements first others) = looked_in_statement marks b m first ++ looked_in_statements marks b (after_statement m first) others

-- the name that a phrase uses, and the block in which the phrase stands
abbrev pub phrase_looked : Phrase → Option Looked
phrase_looked p = option_map (λ (u : Use). (p.around.block, u.name)) (used p.node)

-- the same of the phrases of the unit with this number, in order
abbrev pub unit_looked : ℕ → List Phrase → List Looked
unit_looked unit ps = filter_map (λ (p : Phrase). if p.around.home == unit then phrase_looked p else None) ps

-- statements that are added behind phrases: what is looked up in their unit is what was so before, and then their names, each in the block in which
-- the meaning looks it up, where the marks of the unit are theirs and those before them, and maybe later ones
abbrev pub LooksUp : List Phrase → Around → Statements → Type 0
LooksUp d a body =
    (ps : List Phrase) (later : List ℕ) → marks_of ps a.home ≡ marks_of (gathered_statements d a body) a.home ++ later
    → unit_looked a.home (gathered_statements d a body) ≡ unit_looked a.home d ++ looked_in_statements (marks_of ps a.home) a.block (length (marks_of d a.home)) body

-- what the phrases of a unit look up is what its declarations do, and then the names of its statements, each in the block in which the meaning looks it
-- up, from the unit's own block on and with the unit's marks
abbrev pub LooksRight : List Phrase → Body → Type 0
LooksRight ps b = (declared : List Looked) × (unit_looked b.number ps ≡ declared ++ looked_in_statements b.marks b.number 0 b.statements)

-- the same of units
abbrev pub AllLookRight : List Phrase → List Body → Type 0
AllLookRight ps [] = Unit {0}
AllLookRight ps (b ∷ bs) = LooksRight ps b × AllLookRight ps bs
