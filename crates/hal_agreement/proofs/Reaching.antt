-- What is said of the machine where a phrase comes to something, and how it is said of what phrases are made of.
use Rattle.std.specs.Prelude.{◌≡◌, ℕ, zero, suc, ◌≤◌, length, false, List, [], ◌∷◌, map, slice_get, Option, Some, None}
use Rattle.std.proofs.Common.{refl, sym, subst}
use Rattle.hal_values.specs.declared.environment.Act.{Act}
use Rattle.hal_values.specs.declared.environment.Act.TheVariants as act
use Rattle.hal_values.specs.declared.environment.Entry.{Entry}
use Rattle.hal_values.specs.declared.request.Request.{Request}
use Rattle.hal_values.specs.Answers.{Answered}
use Rattle.hal_values.specs.Answers as answered
use Rattle.hal_states.specs.Spots.{Kept}
use Rattle.hal_states.specs.Modes.{Mode, closed, are_spent}
use Rattle.hal_meaning.specs.States.{State, state, Evaluated, Gives, Asks, Caught, Restarts, Lost, bind, asks_from}
use Rattle.hal_meaning.specs.Access.{Here}
use Rattle.hal_meaning.specs.Runs.{held_first}
use Rattle.hal_code.specs.declared.instr.Instr.{Instr}
use Rattle.hal_code.specs.Cores.{Operand, Return, Frame, Core, core, Setting, Wait, Step, Waits, Moves}
use Rattle.hal_code.specs.Raising.{stuck, cut, entered_at}
use Rattle.hal_code.specs.Machine.{act, stepped, begun, given}
use Rattle.hal_code.specs.Courses.{Asked, asked}
use Rattle.hal_code.specs.Executions.{Comes}
use Rattle.hal_agreement.specs.Codes.{Code}
use Rattle.hal_agreement.proofs.Leading.{Leads, through, moved, heard}

-- the frames of the blocks that are entered below the running one; where the statements of ON ERROR stand: of the block that has so many later ones,
-- the statement with this mark; and how many blocks an error leaves at least
pub record Nest : Type 0 where
  pub frames : List Frame
  pub spot : ℕ → ℕ → ℕ
  pub least : ℕ

abbrev pub nest : List Frame → (ℕ → ℕ → ℕ) → ℕ → Nest
nest frames spot least = record { frames = frames; spot = spot; least = least }

-- the same behind the running block, out of which no error comes that meets one of its own statements
abbrev pub behind : Nest → Nest
behind n = nest n.frames n.spot 1

abbrev pub coded_act : (ℕ → ℕ) → Act → Act
coded_act spot (act.System side) = act.System side
coded_act spot (act.Ignore side) = act.Ignore side
coded_act spot (act.Statement place) = act.Statement (spot place)

-- an entry for errors of trees, as the machine has it
abbrev pub coded : (ℕ → ℕ) → Entry → Entry
coded spot e = record { selector = e.selector; act = coded_act spot e.act }

abbrev pub coded_entries : (ℕ → ℕ) → List Entry → List Entry
coded_entries spot [] = []
coded_entries spot (e ∷ es) = coded spot e ∷ coded_entries spot es

-- the machine's setting for phrases that stand here
abbrev pub setting : Code → ℕ → Here → Setting
setting code begin h =
    record { image = code.image; tables = h.set.tables; process = h.process; firsts = map held_first h.places; begin = begin; turns = h.set.turns }

-- the machine's core where phrases are evaluated in this state
abbrev pub core_at : ℕ → List Operand → List ℕ → Nest → State → Core
core_at at stack line n st = core at stack line (coded_entries (n.spot 0) st.entries) n.frames st.kept st.mode

-- an UPDATE block that is left is shut
abbrev pub shut : Mode → Option Return → Mode
shut m back = elim back [ None ↦ closed m | Some one ↦ m ]

-- how shared data are reached once so many later blocks are left
abbrev pub mode_behind : ℕ → List Frame → Mode → Mode
mode_behind zero frames m = m
mode_behind (suc level) [] m = m
mode_behind (suc level) (f ∷ fs) m = mode_behind level fs (shut m f.back)

-- so many later blocks are there, and turns are left behind them
pub record Handles (n : Nest) (level : ℕ) (m : Mode) : Type 0 where
  pub deep : n.least ≤ level
  pub few : level ≤ length n.frames
  pub turns : are_spent (mode_behind level n.frames m).groups (mode_behind level n.frames m).turns ≡ false

-- a statement of ON ERROR is entered
abbrev pub landing : Nest → ℕ → ℕ → State → Step
landing n level place st = entered_at (cut level (n.spot level place) n.frames (core_at (n.spot level place) [] [] n st))

-- this is asked, and this is kept then
pub record Poses (s : Setting) (step : Step) (left : List Answered) (r : Request) (k : Kept) (m : Mode) : Type 0 where
  pub one : Asked
  pub comes : Comes s step left one
  pub request : one.request ≡ r
  pub keeps : one.core.kept ≡ k
  pub in_mode : one.core.mode ≡ m

-- the machine comes to a step, where there is one
abbrev pub Arrives : Setting → Step → List Answered → Option Step → List Answered → Type 0
Arrives s step left None rest = ⊥
Arrives s step left (Some to) rest = Leads s step left to rest

-- what is said of the machine where a phrase comes to this: of a value and the state then the machine's step is given, where there is one
abbrev pub Holds : {A : Type 0} → Setting → Nest → (A → State → Option Step) → Step → List Answered → Evaluated A → Type 0
Holds s n fine step left (Gives v st) = Arrives s step left (fine v st) st.left
Holds s n fine step left (Asks r k m) = Poses s step left r k m
Holds s n fine step left (Caught level place st) = Handles n level st.mode × Leads s step left (landing n level place st) st.left
Holds s n fine step left (Restarts k rest) = Leads s step left (begun s k) rest
Holds s n fine step left Lost = Unit {0}

pub record Reaches {A : Type 0} (s : Setting) (n : Nest) (fine : A → State → Option Step) (step : Step) (left : List Answered) (result : Evaluated A) : Type 0 where
  pub holds : Holds s n fine step left result

-- something holds of a step that may be there
abbrev pub OnStep : Option Step → (Step → Type 0) → Type 0
OnStep None P = Unit {0}
OnStep (Some to) P = P to

module _ (s : Setting) (n : Nest) where
  arrives_before : (step : Step) (left : List Answered) (to : Step) (rest : List Answered) (o : Option Step) (last : List Answered) → Leads s step left to rest → Arrives s to rest o last → Arrives s step left o last
  arrives_before step left to rest None last leads is = is
  arrives_before step left to rest (Some end) last leads is = through s step to end left rest last leads is

  holds_before : {A : Type 0} (fine : A → State → Option Step) (step : Step) (left : List Answered) (to : Step) (rest : List Answered) (r : Evaluated A)
      → Leads s step left to rest → Holds s n fine to rest r → Holds s n fine step left r
  holds_before fine step left to rest (Gives v st) leads is = arrives_before step left to rest (fine v st) st.left leads is
  holds_before fine step left to rest (Asks r k m) leads is = record { one = is.one; comes = leads.go is.one is.comes; request = is.request; keeps = is.keeps; in_mode = is.in_mode }
  holds_before fine step left to rest (Caught level place st) leads is = (is.0, through s step to (landing n level place st) left rest st.left leads is.1)
  holds_before fine step left to rest (Restarts k last) leads is = through s step to (begun s k) left rest last leads is
  holds_before fine step left to rest Lost leads is = tt

  -- a step that leads there
  pub before : {A : Type 0} (fine : A → State → Option Step) (step : Step) (left : List Answered) (to : Step) (rest : List Answered) (r : Evaluated A)
      → Leads s step left to rest → Reaches s n fine to rest r → Reaches s n fine step left r
  before fine step left to rest r leads is = record { holds = holds_before fine step left to rest r leads is.holds }

  holds_bind : {A B : Type 0} (F : A → State → Step) (fine : B → State → Option Step) (step : Step) (left : List Answered) (r : Evaluated A) (go : A → State → Evaluated B)
      → Holds s n (λ v st. Some (F v st)) step left r → ((v : A) (st : State) → Reaches s n fine (F v st) st.left (go v st)) → Holds s n fine step left (bind r go)
  holds_bind F fine step left (Gives v st) go is each = holds_before fine step left (F v st) st.left (go v st) is (each v st).holds
  holds_bind F fine step left (Asks r k m) go is each = is
  holds_bind F fine step left (Caught level place st) go is each = is
  holds_bind F fine step left (Restarts k last) go is each = is
  holds_bind F fine step left Lost go is each = tt

  -- one phrase after another
  pub bind_reaches : {A B : Type 0} (F : A → State → Step) (fine : B → State → Option Step) (step : Step) (left : List Answered) (r : Evaluated A) (go : A → State → Evaluated B)
      → Reaches s n (λ v st. Some (F v st)) step left r → ((v : A) (st : State) → Reaches s n fine (F v st) st.left (go v st)) → Reaches s n fine step left (bind r go)
  bind_reaches F fine step left r go is each = record { holds = holds_bind F fine step left r go is.holds each }

  given_holds : {A B : Type 0} (fine : B → State → Option Step) (step : Step) (left : List Answered) (o : Option Step) (v : A) (st : State) (go : A → State → Evaluated B)
      → Arrives s step left o st.left → OnStep o (λ to. Reaches s n fine to st.left (go v st)) → Holds s n fine step left (go v st)
  given_holds fine step left None v st go is on = absurd is
  given_holds fine step left (Some to) v st go is on = holds_before fine step left to st.left (go v st) is on.holds

  holds_bind_on : {A B : Type 0} (first : A → State → Option Step) (fine : B → State → Option Step) (step : Step) (left : List Answered) (r : Evaluated A) (go : A → State → Evaluated B)
      → Holds s n first step left r → ((v : A) (st : State) → OnStep (first v st) (λ to. Reaches s n fine to st.left (go v st))) → Holds s n fine step left (bind r go)
  holds_bind_on first fine step left (Gives v st) go is each = given_holds fine step left (first v st) v st go is (each v st)
  holds_bind_on first fine step left (Asks r k m) go is each = is
  holds_bind_on first fine step left (Caught level place st) go is each = is
  holds_bind_on first fine step left (Restarts k last) go is each = is
  holds_bind_on first fine step left Lost go is each = tt

  -- the same where the machine's step depends on the value
  pub bind_on : {A B : Type 0} (first : A → State → Option Step) (fine : B → State → Option Step) (step : Step) (left : List Answered) (r : Evaluated A) (go : A → State → Evaluated B)
      → Reaches s n first step left r → ((v : A) (st : State) → OnStep (first v st) (λ to. Reaches s n fine to st.left (go v st))) → Reaches s n fine step left (bind r go)
  bind_on first fine step left r go is each = record { holds = holds_bind_on first fine step left r go is.holds each }

  -- a request, whose answer is taken as it is
  pub asks_reaches : {A : Type 0} (fine : A → State → Option Step) (r : Request) (w : Wait) (c : Core) (e : List Entry) (left : List Answered) (go : Answered → State → Evaluated A)
      → ((a : Answered) (rest : List Answered) → Reaches s n fine (given s w a c) rest (go a (state c.kept e c.mode rest)))
      → Reaches s n fine (Waits r w c) left (asks_from r c.kept e c.mode left go)
  asks_reaches fine r w c e [] go each =
      record { holds = record { one = asked r w c; comes = record { moves = zero; is = refl }; request = refl; keeps = refl; in_mode = refl } }
  asks_reaches fine r w c e (answered.Killed ∷ left) go each = record { holds = heard s r w c answered.Killed left }
  asks_reaches fine r w c e (answered.Begun ∷ left) go each = before fine (Waits r w c) (answered.Begun ∷ left) (given s w answered.Begun c) left (go answered.Begun (state c.kept e c.mode left)) (heard s r w c answered.Begun left) (each answered.Begun left)
  asks_reaches fine r w c e (answered.Told v ∷ left) go each = before fine (Waits r w c) (answered.Told v ∷ left) (given s w (answered.Told v) c) left (go (answered.Told v) (state c.kept e c.mode left)) (heard s r w c (answered.Told v) left) (each (answered.Told v) left)
  asks_reaches fine r w c e (answered.Done ∷ left) go each = before fine (Waits r w c) (answered.Done ∷ left) (given s w answered.Done c) left (go answered.Done (state c.kept e c.mode left)) (heard s r w c answered.Done left) (each answered.Done left)
  asks_reaches fine r w c e (answered.Wrong error ∷ left) go each =
      before fine (Waits r w c) (answered.Wrong error ∷ left) (given s w (answered.Wrong error) c) left (go (answered.Wrong error) (state c.kept e c.mode left)) (heard s r w c (answered.Wrong error) left) (each (answered.Wrong error) left)
  asks_reaches fine r w c e (answered.Block snapshot turns ∷ left) go each =
      before fine (Waits r w c) (answered.Block snapshot turns ∷ left) (given s w (answered.Block snapshot turns) c) left (go (answered.Block snapshot turns) (state c.kept e c.mode left)) (heard s r w c (answered.Block snapshot turns) left)
      (each (answered.Block snapshot turns) left)

  at_reaches : {A : Type 0} (fine : A → State → Option Step) (c : Core) (left : List Answered) (i : Instr) (r : Evaluated A) (o : Option Instr) → o ≡ Some i
      → Reaches s n fine (act s i c) left r → Reaches s n fine (elim o [ None ↦ stuck c | Some found ↦ act s found c ]) left r
  at_reaches fine c left i r o e is = subst (λ one. Reaches s n fine (elim one [ None ↦ stuck c | Some found ↦ act s found c ]) left r) (sym e) is

  -- the instruction that stands there
  pub acts : {A : Type 0} (fine : A → State → Option Step) (c : Core) (left : List Answered) (i : Instr) (r : Evaluated A) → slice_get s.image.code c.at ≡ Some i → Reaches s n fine (act s i c) left r → Reaches s n fine (Moves c) left r
  acts fine c left i r has is = before fine (Moves c) left (stepped s c) left r (moved s c left) (at_reaches fine c left i r _ has is)
