-- Where the code of SCHEDULE, UPDATE PRIORITY and WAIT stands: operands of times, starts, priorities, cycles and limits, and the instructions that take them.
use Rattle.std.specs.Prelude.{◌≡◌, ℕ, ◌==◌, nat_lt, length, Bool, true, false, List, [], ◌∷◌, Option, Some, None}
use Rattle.hal_grammar.specs.Leaves.{Naming}
use Rattle.hal_grammar.specs.Expressions.{Expression, Decimal}
use Rattle.hal_grammar.specs.Statements.{Guard, While, Until, Start, StartAt, StartIn, StartOn, Cycle, Cyclic, CyclicEvery, CyclicAfter, Schedule}
use Rattle.hal_scope.specs.Uses.{holds_event}
use Rattle.hal_values.specs.declared.plan.Guard as guards
use Rattle.hal_values.specs.declared.plan.Guard.TheVariants as guard
use Rattle.hal_values.specs.Tables.{process_count}
use Rattle.hal_meaning.specs.RealTime.{by_last, process_named, stated_at_mark}
use Rattle.hal_code.specs.declared.choice.Choice.{Choice}
use Rattle.hal_code.specs.declared.choice.Choice.TheVariants as choice
use Rattle.hal_code.specs.declared.instr.Instr.TheVariants as instr
use Rattle.hal_code.specs.declared.operand.Delay.{Delay}
use Rattle.hal_code.specs.declared.operand.Limit as limits
use Rattle.hal_code.specs.declared.operand.Limit.TheVariants as limit
use Rattle.hal_code.specs.declared.operand.Round as rounds
use Rattle.hal_code.specs.declared.operand.Round.TheVariants as round
use Rattle.hal_code.specs.declared.operand.Start as starts
use Rattle.hal_code.specs.declared.operand.Start.TheVariants as start
use Rattle.hal_code.specs.declared.operand.Time.{Time}
use Rattle.hal_code.specs.declared.operand.Time.TheVariants as time
use Rattle.hal_agreement.specs.Codes.{Code}
use Rattle.hal_agreement.specs.Sites.{Site, here_at}
use Rattle.hal_agreement.specs.PlacedExpressions.{One, ExpressionAt}

-- a time: one that is written as a decimal stands in the instruction, all others are on the stack in seconds
abbrev pub TimeAt : Code → Site → Expression → Time → ℕ → ℕ → Type 0
TimeAt code site (Decimal place number) t from to = (t ≡ time.Milliseconds number) × (from ≡ to)
TimeAt code site tree t from to = (t ≡ time.Seconds) × ExpressionAt code site tree from to

-- WAIT or WAIT UNTIL
abbrev pub PauseAt : Code → Site → (Time → Delay) → Expression → ℕ → ℕ → Type 0
PauseAt code site delays tree from to = (t : Time) × (middle : ℕ) × TimeAt code site tree t from middle × One code middle (instr.Wait (delays t)) to

-- an event expression that is there
abbrev pub There : Site → ℕ → Type 0
There site x = nat_lt x (length site.set.tables.expressions) ≡ true

-- when a process starts; the event expression is the statement's first one
abbrev pub FirstAt : Site → List ℕ → starts.Start → Type 0
FirstAt site [] begins = ⊥
FirstAt site (x ∷ xs) begins = (begins ≡ start.On x) × There site x

abbrev pub StartsAt : Code → Site → List ℕ → Option Start → starts.Start → ℕ → ℕ → Type 0
StartsAt code site xs None begins from to = (begins ≡ start.Now) × (from ≡ to)
StartsAt code site xs (Some (StartAt place tree)) begins from to = (t : Time) × (begins ≡ start.At t) × TimeAt code site tree t from to
StartsAt code site xs (Some (StartIn place tree)) begins from to = (t : Time) × (begins ≡ start.In t) × TimeAt code site tree t from to
StartsAt code site xs (Some (StartOn place tree)) begins from to = FirstAt site xs begins × (from ≡ to)

-- its priority, where one is given
abbrev pub PriorityAt : Code → Site → Option Expression → Choice Bool → ℕ → ℕ → Type 0
PriorityAt code site None given from to = (given ≡ choice.Known false) × (from ≡ to)
PriorityAt code site (Some tree) given from to = (given ≡ choice.Known true) × ExpressionAt code site tree from to

-- its cycle
abbrev pub RoundAt : Code → Site → Option Cycle → rounds.Round → ℕ → ℕ → Type 0
RoundAt code site None again from to = (again ≡ round.Once) × (from ≡ to)
RoundAt code site (Some (Cyclic place)) again from to = (again ≡ round.Repeat) × (from ≡ to)
RoundAt code site (Some (CyclicEvery place tree)) again from to = (t : Time) × (again ≡ round.Every t) × TimeAt code site tree t from to
RoundAt code site (Some (CyclicAfter place tree)) again from to = (t : Time) × (again ≡ round.After t) × TimeAt code site tree t from to

-- what ends its cycles: an event expression, the statement's last one, or a time
abbrev pub LastAt : Site → List ℕ → (ℕ → guards.Guard) → (ℕ → limits.Limit) → limits.Limit → Type 0
LastAt site xs by ends until = (x : ℕ) × (until ≡ ends x) × (by_last by xs ≡ by x) × There site x

abbrev pub UntilAt : Code → Site → List ℕ → Bool → Expression → limits.Limit → ℕ → ℕ → Type 0
UntilAt code site xs true tree until from to = LastAt site xs guard.Until limit.Until until × (from ≡ to)
UntilAt code site xs false tree until from to = (t : Time) × (until ≡ limit.UntilTime t) × TimeAt code site tree t from to

abbrev pub LimitAt : Code → Site → List ℕ → Option Guard → limits.Limit → ℕ → ℕ → Type 0
LimitAt code site xs None until from to = (until ≡ limit.Free) × (from ≡ to)
LimitAt code site xs (Some (While place tree)) until from to = LastAt site xs guard.While limit.While until × (from ≡ to)
LimitAt code site xs (Some (Until place tree)) until from to = UntilAt code site xs (holds_event site.set.phrases site.block tree) tree until from to

-- a process that is named; its number isn't the one that stands for the process itself
pub record NamedAt (site : Site) (name : Naming) (number : ℕ) : Type 0 where
  pub process : process_named (here_at site) name ≡ number
  pub other : (number == 255) ≡ false
  pub there : nat_lt number (process_count site.set.tables) ≡ true

-- SCHEDULE: its operands in their order, each with the address behind it
pub record ScheduledAt (code : Code) (site : Site) (m : ℕ) (s : Schedule) (from to : ℕ) : Type 0 where
  pub begins : starts.Start
  pub given : Choice Bool
  pub again : rounds.Round
  pub until : limits.Limit
  pub number : ℕ
  pub second : ℕ
  pub third : ℕ
  pub fourth : ℕ
  pub last : ℕ
  pub first_is : StartsAt code site (stated_at_mark (here_at site) m) s.start begins from second
  pub second_is : PriorityAt code site s.priority given second third
  pub third_is : RoundAt code site s.cycle again third fourth
  pub fourth_is : LimitAt code site (stated_at_mark (here_at site) m) s.guard until fourth last
  pub process : process_named (here_at site) s.name ≡ number
  pub there : nat_lt number (process_count site.set.tables) ≡ true
  pub asks : One code last (instr.Schedule number begins given (choice.Known s.dependent) again until) to

-- the process that UPDATE PRIORITY speaks of: one that is named, or the process itself
abbrev pub NamedOrSelf : Site → Option Naming → ℕ → Type 0
NamedOrSelf site None number = number ≡ 255
NamedOrSelf site (Some name) number = NamedAt site name number

-- UPDATE PRIORITY
abbrev pub PrioritizedAt : Code → Site → Option Naming → Expression → ℕ → ℕ → Type 0
PrioritizedAt code site name tree from to =
    (number : ℕ) × (middle : ℕ) × NamedOrSelf site name number × ExpressionAt code site tree from middle × One code middle (instr.Priority number) to
