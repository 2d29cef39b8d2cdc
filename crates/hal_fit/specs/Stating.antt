-- Whether statements fit, form by form: their expressions are of the sorts that are wanted, and what may not stand in UPDATE blocks doesn't.
use Rattle.std.specs.Prelude.{◌≡◌, ℕ, suc, nat_lt, Bool, true, false, ◌&&◌, List, [], ◌∷◌, Option, Some, None}
use Rattle.hal_base.specs.declared.limits.TheConstants.{CHANNEL_COUNT}
use Rattle.hal_grammar.specs.Expressions.{Expression, Reference}
use Rattle.hal_grammar.specs.Statements.{Statement, Labelled, Basic, Null, Assignment, If, Do, DoCase, DoLoop, DoFor, Exit, Repeat, Return, Call, Read, Write, Eventful, Event, Scheduled, UpdatePriority, Cancel, Terminate, Wait, WaitUntil, WaitForDependent, WaitFor, Update, OnErrorStatement, OnErrorResponse, OffError, SendError, Alternative, NoAlternative, Otherwise, Group, Groups, Statements, NoStatements, MoreStatements}
use Rattle.hal_meaning.specs.Events.{event_named}
use Rattle.hal_meaning.specs.Marks.{after_statement, after_alternative}
use Rattle.hal_meaning.specs.Sets.{body_at}
use Rattle.hal_meaning.specs.Statements.{kind_named}
use Rattle.hal_meaning.specs.Variables.{name_meant}
use Rattle.hal_code.specs.declared.image.ImageParts.{ImageParts}
use Rattle.hal_code.specs.declared.instr.Instr.TheVariants as instr
use Rattle.hal_code.specs.Operands.{operands_right}
use Rattle.hal_code.specs.Sorts.{I, B, sort_of, is_kind}
use Rattle.hal_agreement.specs.Sites.{Site, here_at, group_site}
use Rattle.hal_agreement.specs.PlacedStatements.{ChannelAt, changes}
use Rattle.hal_fitting.specs.Fitting.{Ground}
use Rattle.hal_fit_expr.specs.Uses.{Uses}
use Rattle.hal_fit_expr.specs.Sorted.{sort_of_expression}
use Rattle.hal_fit.specs.Received.{receiver_fits, is_assigned, items_fit}
use Rattle.hal_fit.specs.Called.{CallFits, ReturnFits}
use Rattle.hal_fit.specs.Spanned.{GuardFits, ForFits}
use Rattle.hal_fit.specs.Timed.{TimeFits, ScheduleFits}

-- a channel that is known is one
abbrev pub ChannelFits : Site → Expression → Type 0
ChannelFits site tree = (number : ℕ) → ChannelAt site tree number → nat_lt number CHANNEL_COUNT ≡ true

-- receivers of READ take what is read for them
abbrev pub reads_fit : Uses → Site → List Reference → Bool
reads_fit u site [] = true
reads_fit u site (receiver ∷ receivers) =
    (is_kind (kind_named (here_at site) receiver []) && receiver_fits u site (sort_of (kind_named (here_at site) receiver [])) receiver) && reads_fit u site receivers

-- an event can be changed so
abbrev pub EventFits : ImageParts → Ground → Site → Eventful → Type 0
EventFits image g site e = operands_right image g.block g.number (changes e.action (event_named site.set.phrases site.block e.name.name)) ≡ true

-- and so can the one that ON ERROR names, where it does
abbrev pub ChangeFits : ImageParts → Ground → Site → Option Eventful → Type 0
ChangeFits image g site None = Unit {0}
ChangeFits image g site (Some e) = EventFits image g site e

abbrev mutual
  -- a statement in this image and block, with what is used outside of UPDATE blocks and inside, where it stands inside or not, before which the next mark has this
  -- number
  pub StatementFits : ImageParts → Ground → (Bool → Uses) → Bool → Site → ℕ → Statement → Type 0
  StatementFits image g u inside site m (Labelled labels basic) = BasicFits image g u inside site m basic

  pub BasicFits : ImageParts → Ground → (Bool → Uses) → Bool → Site → ℕ → Basic → Type 0
  BasicFits image g u inside site m (Null place) = Unit {0}
  BasicFits image g u inside site m (Assignment place receivers tree) = is_assigned (u inside) site receivers (sort_of_expression (u inside) site tree) ≡ true
  BasicFits image g u inside site m (If place condition consequence alternative) =
      (sort_of_expression (u inside) site condition ≡ Some B) × StatementFits image g u inside site m consequence × AlternativeFits image g u inside site (after_statement m consequence) alternative
  BasicFits image g u inside site m (Do place group) = GroupFits image g u inside site (suc m) group
  BasicFits image g u inside site m (DoCase place number alternative group) =
      (sort_of_expression (u inside) site number ≡ Some I) × GroupFits image g u inside site (after_alternative (suc m) alternative) group
      × AlternativeFits image g u inside site (suc m) alternative
  BasicFits image g u inside site m (DoLoop place guard group) = GuardFits (u inside) site guard × GroupFits image g u inside site (suc m) group
  BasicFits image g u inside site m (DoFor place temporary variable span guard group) =
      ForFits (u inside) (group_site site temporary m) variable.name span guard × GroupFits image g u inside (group_site site temporary m) (suc m) group
  BasicFits image g u inside site m (Exit place label) = Unit {0}
  BasicFits image g u inside site m (Repeat place label) = Unit {0}
  BasicFits image g u inside site m (Return place None) = Unit {0}
  BasicFits image g u inside site m (Return place (Some tree)) = ReturnFits g.block (body_at site.set site.unit) (sort_of_expression (u inside) site tree)
  BasicFits image g u inside site m (Call place name arguments receivers) = CallFits (u inside) site arguments receivers (name_meant (here_at site) name.name [])
  BasicFits image g u inside site m (Read place channel receivers) = (inside ≡ false) × ChannelFits site channel × (reads_fit (u inside) site receivers ≡ true)
  BasicFits image g u inside site m (Write place channel items) = (inside ≡ false) × ChannelFits site channel × (items_fit (u inside) site items ≡ true)
  BasicFits image g u inside site m (Update place body close) = (inside ≡ false) × StatementsFit image g u true site (suc m) body
  BasicFits image g u inside site m (Scheduled place s) = (inside ≡ false) × ScheduleFits (u inside) site s
  BasicFits image g u inside site m (Cancel place names) = inside ≡ false
  BasicFits image g u inside site m (Terminate place names) = inside ≡ false
  BasicFits image g u inside site m (Wait place tree) = (inside ≡ false) × TimeFits (u inside) site tree
  BasicFits image g u inside site m (WaitUntil place tree) = (inside ≡ false) × TimeFits (u inside) site tree
  BasicFits image g u inside site m (WaitForDependent place) = inside ≡ false
  BasicFits image g u inside site m (WaitFor place tree) = inside ≡ false
  BasicFits image g u inside site m (Event e) = (inside ≡ false) × EventFits image g site e
  BasicFits image g u inside site m (UpdatePriority place name tree) = (inside ≡ false) × (sort_of_expression (u inside) site tree ≡ Some I)
  BasicFits image g u inside site m (OnErrorStatement place s handler) = StatementFits image g u inside site (suc m) handler
  BasicFits image g u inside site m (OnErrorResponse place s response e) = ChangeFits image g site e
  BasicFits image g u inside site m (OffError place s) = Unit {0}
  BasicFits image g u inside site m (SendError place group_at group number_at number) = operands_right image g.block g.number (instr.Raise group number) ≡ true

  -- what stands after ELSE
  pub AlternativeFits : ImageParts → Ground → (Bool → Uses) → Bool → Site → ℕ → Alternative → Type 0
  AlternativeFits image g u inside site m NoAlternative = Unit {0}
  AlternativeFits image g u inside site m (Otherwise one) = StatementFits image g u inside site m one

  -- the statements of a group
  pub GroupFits : ImageParts → Ground → (Bool → Uses) → Bool → Site → ℕ → Group → Type 0
  GroupFits image g u inside site m (Groups list close) = StatementsFit image g u inside site m list

  -- statements one after another
  pub StatementsFit : ImageParts → Ground → (Bool → Uses) → Bool → Site → ℕ → Statements → Type 0
  StatementsFit image g u inside site m NoStatements = Unit {0}
  StatementsFit image g u inside site m (MoreStatements first others) = StatementFits image g u inside site m first × StatementsFit image g u inside site (after_statement m first) others
