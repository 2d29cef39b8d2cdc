-- The marks of a block: its groups, UPDATE blocks, ON ERROR statements with a statement, and real-time statements are numbered in their order.
use Rattle.std.specs.Prelude.{ℕ, suc, ◌==◌, Option, Some, None, if◌then◌else◌}
use Rattle.hal_grammar.specs.Statements.{Statement, Labelled, Basic, If, Do, DoCase, DoLoop, DoFor, Update, Scheduled, Cancel, Terminate, Wait, WaitUntil, WaitForDependent, WaitFor, UpdatePriority, OnErrorStatement, Alternative, NoAlternative, Otherwise, Group, Groups, Statements, NoStatements, MoreStatements}

abbrev mutual
  -- the number of the next mark behind a statement, before which the next one has this number
  pub after_statement : ℕ → Statement → ℕ
  after_statement m (Labelled labels basic) = after_basic m basic

  pub after_basic : ℕ → Basic → ℕ
  after_basic m (If place condition consequence alternative) = after_alternative (after_statement m consequence) alternative
  after_basic m (Do place group) = after_group (suc m) group
  after_basic m (DoCase place selector alternative group) = after_group (after_alternative (suc m) alternative) group
  after_basic m (DoLoop place guard group) = after_group (suc m) group
  after_basic m (DoFor place temporary variable span guard group) = after_group (suc m) group
  after_basic m (Update place body close) = after_statements (suc m) body
  after_basic m (OnErrorStatement place selector handler) = after_statement (suc m) handler
  after_basic m (Scheduled place schedule) = suc m
  after_basic m (Cancel place names) = suc m
  after_basic m (Terminate place names) = suc m
  after_basic m (Wait place time) = suc m
  after_basic m (WaitUntil place time) = suc m
  after_basic m (WaitForDependent place) = suc m
  after_basic m (WaitFor place event) = suc m
  after_basic m (UpdatePriority place name priority) = suc m
  after_basic m other = m

  pub after_alternative : ℕ → Alternative → ℕ
  after_alternative m NoAlternative = m
  after_alternative m (Otherwise statement) = after_statement m statement

  pub after_group : ℕ → Group → ℕ
  after_group m (Groups statements close) = after_statements m statements

  pub after_statements : ℕ → Statements → ℕ
  after_statements m NoStatements = m
  after_statements m (MoreStatements first others) = after_statements (after_statement m first) others

-- the statement of ON ERROR with this mark that stands directly in a body, with its own first mark, and what stands behind it, with the next mark there
pub record Handling : Type 0 where
  pub handler : Statement
  pub mark : ℕ
  pub rest : Statements
  pub rest_mark : ℕ

abbrev pub handling : Statement → ℕ → Statements → ℕ → Handling
handling handler mark rest rest_mark = record { handler = handler; mark = mark; rest = rest; rest_mark = rest_mark }

abbrev pub handled_by : ℕ → ℕ → Statement → Statements → Option Handling
handled_by place m (Labelled labels (OnErrorStatement at selector handler)) rest =
    if m == place then Some (handling handler (suc m) rest (after_statement (suc m) handler)) else None
handled_by place m other rest = None

abbrev pub handling_in : ℕ → ℕ → Statements → Option Handling
handling_in place m NoStatements = None
handling_in place m (MoreStatements first others) = elim (handled_by place m first others) [ None ↦ handling_in place (after_statement m first) others | Some found ↦ Some found ]
