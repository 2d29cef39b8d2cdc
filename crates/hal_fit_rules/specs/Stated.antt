-- Statements whose names, calls and channels agree where they stand.
use Rattle.std.specs.Prelude.{◌≡◌, ℕ, suc, Bool, true, false, List, [], Option, Some, None, length}
use Rattle.hal_grammar.specs.Leaves.{Naming}
use Rattle.hal_grammar.specs.Expressions.{Expression, Decimal}
use Rattle.hal_grammar.specs.Statements.{Guard, While, Until, Span, Stepped, Listed, Start, StartAt, StartIn, StartOn, Cycle, Cyclic, CyclicEvery, CyclicAfter, Schedule, Statement, Labelled, Basic, Assignment, If, Do, DoCase, DoLoop, DoFor, Return, Call, Read, Write, Event, Scheduled, UpdatePriority, Wait, WaitUntil, Update, OnErrorStatement, OnErrorResponse, Alternative, NoAlternative, Otherwise, Group, Groups, Statements, NoStatements, MoreStatements}
use Rattle.hal_phrases.specs.declared.around.Around.{Around}
use Rattle.hal_phrases.specs.declared.role.Role.TheVariants as role
use Rattle.hal_phrases.specs.Surroundings.{inside, grouped, updated}
use Rattle.hal_phrases.specs.Phrases.{Phrase, phrase, add, gathered_each, gathered_any, OfExpression, OfGroup, OfRead, OfWrite, OfUpdate, OfHandler}
use Rattle.hal_phrases.specs.GatheredExpressions.{below, gathered}
use Rattle.hal_phrases.specs.GatheredStatements.{gathered_label, gathered_guard, gathered_span, begun_for, around_for, gathered_statement, gathered_alternative}
use Rattle.hal_names.specs.Means.{means}
use Rattle.hal_scope.specs.Uses.{holds_event}
use Rattle.hal_meaning.specs.Variables.{name_meant}
use Rattle.hal_meaning.specs.Marks.{after_statement, after_alternative}
use Rattle.hal_code.specs.declared.image.ImageParts.{ImageParts}
use Rattle.hal_code.specs.declared.operand.Time.TheVariants as time
use Rattle.hal_code.specs.Operands.{is_time}
use Rattle.hal_code.specs.Sorts.{I}
use Rattle.hal_agreement.specs.Sites.{Site, here_at, group_site}
use Rattle.hal_fitting.specs.Fitting.{Ground}
use Rattle.hal_fit_expr.specs.Uses.{Uses}
use Rattle.hal_fit_expr.specs.Sorted.{sort_of_name}
use Rattle.hal_fit_rules.specs.Agreeing.{Agrees, AllAgree}
use Rattle.hal_fit_rules.specs.Received.{CellsAgree, ReceiversAgree, ReadsAgree}
use Rattle.hal_fit_rules.specs.Passed.{CallAgrees}
use Rattle.hal_fit_rules.specs.Left.{UnitAgrees}
use Rattle.hal_fit_rules.specs.Channels.{ChannelAgrees}
use Rattle.hal_fit_rules.specs.Signalled.{EventAgrees, AnyEventAgrees}

-- an expression that may be there
abbrev pub AnyAgrees : Uses → Site → List Phrase → ℕ → Option Expression → Type 0
AnyAgrees u site ps block None = Unit {0}
AnyAgrees u site ps block (Some tree) = Agrees u site ps block tree

abbrev pub GuardAgrees : Uses → Site → List Phrase → ℕ → Guard → Type 0
GuardAgrees u site ps block (While place condition) = Agrees u site ps block condition
GuardAgrees u site ps block (Until place condition) = Agrees u site ps block condition

abbrev pub AnyGuardAgrees : Uses → Site → List Phrase → ℕ → Option Guard → Type 0
AnyGuardAgrees u site ps block None = Unit {0}
AnyGuardAgrees u site ps block (Some guard) = GuardAgrees u site ps block guard

abbrev pub SpanAgrees : Uses → Site → List Phrase → ℕ → Span → Type 0
SpanAgrees u site ps block (Stepped first last step) = Agrees u site ps block first × Agrees u site ps block last × AnyAgrees u site ps block step
SpanAgrees u site ps block (Listed values) = AllAgree u site ps block values

-- a time: the milliseconds of a decimal are within the limit
abbrev pub TimeAgrees : Uses → Site → List Phrase → ℕ → Expression → Type 0
TimeAgrees u site ps block (Decimal place number) = is_time (time.Milliseconds number) ≡ true
TimeAgrees u site ps block tree = Agrees u site ps block tree

abbrev pub StartAgrees : Uses → Site → List Phrase → ℕ → Option Start → Type 0
StartAgrees u site ps block None = Unit {0}
StartAgrees u site ps block (Some (StartAt place tree)) = TimeAgrees u site ps block tree
StartAgrees u site ps block (Some (StartIn place tree)) = TimeAgrees u site ps block tree
StartAgrees u site ps block (Some (StartOn place tree)) = Unit {0}

abbrev pub CycleAgrees : Uses → Site → List Phrase → ℕ → Option Cycle → Type 0
CycleAgrees u site ps block None = Unit {0}
CycleAgrees u site ps block (Some (Cyclic place)) = Unit {0}
CycleAgrees u site ps block (Some (CyclicEvery place tree)) = TimeAgrees u site ps block tree
CycleAgrees u site ps block (Some (CyclicAfter place tree)) = TimeAgrees u site ps block tree

-- what ends cycles: an event expression, or a time that is none for the checks either
abbrev pub EndAgrees : Uses → Site → List Phrase → ℕ → Bool → Expression → Type 0
EndAgrees u site ps block true tree = Unit {0}
EndAgrees u site ps block false tree = (holds_event ps block tree ≡ false) × TimeAgrees u site ps block tree

abbrev pub LimitAgrees : Uses → Site → List Phrase → ℕ → Option Guard → Type 0
LimitAgrees u site ps block None = Unit {0}
LimitAgrees u site ps block (Some (While place tree)) = Unit {0}
LimitAgrees u site ps block (Some (Until place tree)) = EndAgrees u site ps block (holds_event site.set.phrases site.block tree) tree

-- SCHEDULE
pub record ScheduleAgrees (u : Uses) (site : Site) (ps : List Phrase) (block : ℕ) (s : Schedule) : Type 0 where
  pub first : StartAgrees u site ps block s.start
  pub second : AnyAgrees u site ps block s.priority
  pub third : CycleAgrees u site ps block s.cycle
  pub fourth : LimitAgrees u site ps block s.guard

-- the variable of a DO FOR, TEMPORARY or named
abbrev pub VariableAgrees : Uses → Site → List Phrase → ℕ → Bool → List ℕ → Type 0
VariableAgrees u site ps block true name = sort_of_name u site name [] ≡ Some I
VariableAgrees u site ps block false name = CellsAgree ps [] (means ps block name) (name_meant (here_at site) name [])

-- DO FOR, whose variable has this name
pub record ForAgrees (u : Uses) (site : Site) (ps : List Phrase) (block : ℕ) (temporary : Bool) (name : List ℕ) (span : Span) (guard : Option Guard) : Type 0 where
  pub variable : VariableAgrees u site ps block temporary name
  pub spanned : SpanAgrees u site ps block span
  pub guarded : AnyGuardAgrees u site ps block guard

abbrev mutual
  -- a statement whose phrases stand behind these, with what is around them
  pub StatementAgrees : ImageParts → Ground → (Bool → Uses) → List Phrase → Bool → Site → ℕ → List Phrase → Around → Statement → Type 0
  StatementAgrees image g u ps within site m d a (Labelled labels basic) = BasicAgrees image g u ps within site m (gathered_each (gathered_label a) d labels) a labels basic

  pub BasicAgrees : ImageParts → Ground → (Bool → Uses) → List Phrase → Bool → Site → ℕ → List Phrase → Around → List Naming → Basic → Type 0
  BasicAgrees image g u ps within site m d a labels (Assignment place receivers tree) = ReceiversAgree (u within) site ps a.block receivers × Agrees (u within) site ps a.block tree
  BasicAgrees image g u ps within site m d a labels (If place condition consequence alternative) =
      Agrees (u within) site ps a.block condition × StatementAgrees image g u ps within site m (gathered d a role.Condition condition) (inside a) consequence
      × AlternativeAgrees image g u ps within site (after_statement m consequence) (gathered_statement (gathered d a role.Condition condition) (inside a) consequence) (inside a) alternative
  BasicAgrees image g u ps within site m d a labels (Do place group) = GroupAgrees image g u ps within site (suc m) (add d a (OfGroup labels false)) (grouped (length d) a) group
  BasicAgrees image g u ps within site m d a labels (DoCase place number alternative group) =
      Agrees (u within) site ps a.block number
      × GroupAgrees image g u ps within site (after_alternative (suc m) alternative) (gathered_alternative (gathered (add d a (OfGroup labels false)) (below d a) role.Case number) (grouped (length d) a) alternative) (grouped (length d) a) group
      × AlternativeAgrees image g u ps within site (suc m) (gathered (add d a (OfGroup labels false)) (below d a) role.Case number) (grouped (length d) a) alternative
  BasicAgrees image g u ps within site m d a labels (DoLoop place guard group) =
      GuardAgrees (u within) site ps a.block guard × GroupAgrees image g u ps within site (suc m) (gathered_guard (below d a) (add d a (OfGroup labels true)) guard) (grouped (length d) a) group
  BasicAgrees image g u ps within site m d a labels (DoFor place temporary variable span guard group) =
      ForAgrees (u within) (group_site site temporary m) ps (around_for d a temporary).block temporary variable.name span guard
      × GroupAgrees image g u ps within (group_site site temporary m) (suc m)
      (gathered_any (gathered_guard (around_for d a temporary)) (gathered_span (begun_for d a labels temporary variable) (around_for d a temporary) span) guard) (around_for d a temporary) group
  BasicAgrees image g u ps within site m d a labels (Write place channel items) =
      ChannelAgrees site ps (phrase (length (add d a (OfWrite place))) (below d a) (OfExpression role.Channel channel)) channel × AllAgree (u within) site ps a.block items
  BasicAgrees image g u ps within site m d a labels (Read place channel receivers) =
      ChannelAgrees site ps (phrase (length (add d a (OfRead place))) (below d a) (OfExpression role.Channel channel)) channel × ReadsAgree (u within) site ps a.block receivers
  BasicAgrees image g u ps within site m d a labels (Update place body close) = StatementsAgree image g u ps true site (suc m) (add d a (OfUpdate place labels)) (updated (length d) a) body
  BasicAgrees image g u ps within site m d a labels (Scheduled place s) = ScheduleAgrees (u within) site ps a.block s
  BasicAgrees image g u ps within site m d a labels (Wait place tree) = TimeAgrees (u within) site ps a.block tree
  BasicAgrees image g u ps within site m d a labels (WaitUntil place tree) = TimeAgrees (u within) site ps a.block tree
  BasicAgrees image g u ps within site m d a labels (UpdatePriority place name tree) = Agrees (u within) site ps a.block tree
  BasicAgrees image g u ps within site m d a labels (OnErrorStatement place s handler) = StatementAgrees image g u ps within site (suc m) (add d a (OfHandler place s)) (inside a) handler
  BasicAgrees image g u ps within site m d a labels (OnErrorResponse place s response e) = AnyEventAgrees image site ps a.block e
  BasicAgrees image g u ps within site m d a labels (Event e) = EventAgrees image site ps a.block e
  BasicAgrees image g u ps within site m d a labels (Return place None) = Unit {0}
  BasicAgrees image g u ps within site m d a labels (Return place (Some tree)) = UnitAgrees g.block site ps a.home × Agrees (u within) site ps a.block tree
  BasicAgrees image g u ps within site m d a labels (Call place name arguments receivers) = CallAgrees (u within) site ps a.block name arguments receivers
  BasicAgrees image g u ps within site m d a labels other = Unit {0}

  -- what stands after ELSE
  pub AlternativeAgrees : ImageParts → Ground → (Bool → Uses) → List Phrase → Bool → Site → ℕ → List Phrase → Around → Alternative → Type 0
  AlternativeAgrees image g u ps within site m d a NoAlternative = Unit {0}
  AlternativeAgrees image g u ps within site m d a (Otherwise one) = StatementAgrees image g u ps within site m d a one

  -- the statements of a group
  pub GroupAgrees : ImageParts → Ground → (Bool → Uses) → List Phrase → Bool → Site → ℕ → List Phrase → Around → Group → Type 0
  GroupAgrees image g u ps within site m d a (Groups list close) = StatementsAgree image g u ps within site m d a list

  -- statements one after another
  pub StatementsAgree : ImageParts → Ground → (Bool → Uses) → List Phrase → Bool → Site → ℕ → List Phrase → Around → Statements → Type 0
  StatementsAgree image g u ps within site m d a NoStatements = Unit {0}
  StatementsAgree image g u ps within site m d a (MoreStatements first others) =
      StatementAgrees image g u ps within site m d a first × StatementsAgree image g u ps within site (after_statement m first) (gathered_statement d a first) a others
