-- The state in which phrases are evaluated, and what their evaluation comes to.
use Rattle.std.specs.Prelude.{ℕ, List, [], ◌∷◌, Option}
use Rattle.hal_values.specs.declared.environment.Entry.{Entry}
use Rattle.hal_values.specs.declared.environment.ErrNo.{ErrNo}
use Rattle.hal_values.specs.declared.request.Request.{Request}
use Rattle.hal_values.specs.declared.request.Request.TheVariants as request
use Rattle.hal_values.specs.declared.value.Value.{Value}
use Rattle.hal_values.specs.Answers.{Answered}
use Rattle.hal_values.specs.Answers as answered
use Rattle.hal_states.specs.Spots.{Held, Kept, kept}
use Rattle.hal_states.specs.Modes.{Mode}

-- what is kept; the error entries of the latest entered block; how shared data are reached; and the answers that are still to be taken
pub record State : Type 0 where
  pub kept : Kept
  pub entries : List Entry
  pub mode : Mode
  pub left : List Answered

abbrev pub state : Kept → List Entry → Mode → List Answered → State
state k e m l = record { kept = k; entries = e; mode = m; left = l }

abbrev pub with_kept : Kept → State → State
with_kept k st = state k st.entries st.mode st.left

abbrev pub with_entries : List Entry → State → State
with_entries e st = state st.kept e st.mode st.left

abbrev pub with_mode : Mode → State → State
with_mode m st = state st.kept st.entries m st.left

abbrev pub with_places : List Held → State → State
with_places places st = with_kept (kept places st.kept.last) st

-- what the evaluation of a phrase comes to
pub data Evaluated (A : Type 0) : Type 0 where
  -- the phrase is done
  Gives : (value : A) (after : State) → Evaluated A
  -- no answer is left: this is asked, and this is kept
  Asks : (request : Request) (keeps : Kept) (in_mode : Mode) → Evaluated A
  -- an error met a statement: so many later blocks are left for the one at this place of the block below them
  Caught : (level place : ℕ) (after : State) → Evaluated A
  -- the answer was Killed
  Restarts : (keeps : Kept) (left : List Answered) → Evaluated A
  -- more tasks were begun than answers and turns were given; no set comes to this
  Lost : Evaluated A

-- goes on where a phrase is done
abbrev pub bind : {A B : Type 0} → Evaluated A → (A → State → Evaluated B) → Evaluated B
bind (Gives value after) go = go value after
bind (Asks request keeps in_mode) go = Asks request keeps in_mode
bind (Caught level place after) go = Caught level place after
bind (Restarts keeps left) go = Restarts keeps left
bind Lost go = Lost

-- asks, and goes on with the answer
abbrev pub asks_from : {A : Type 0} → Request → Kept → List Entry → Mode → List Answered → (Answered → State → Evaluated A) → Evaluated A
asks_from r k e m [] go = Asks r k m
asks_from r k e m (answered.Killed ∷ left) go = Restarts k left
asks_from r k e m (answered.Begun ∷ left) go = go answered.Begun (state k e m left)
asks_from r k e m (answered.Told v ∷ left) go = go (answered.Told v) (state k e m left)
asks_from r k e m (answered.Done ∷ left) go = go answered.Done (state k e m left)
asks_from r k e m (answered.Wrong error ∷ left) go = go (answered.Wrong error) (state k e m left)
asks_from r k e m (answered.Block snapshot turns ∷ left) go = go (answered.Block snapshot turns) (state k e m left)

-- the same from a state
abbrev pub asks : {A : Type 0} → Request → State → (Answered → State → Evaluated A) → Evaluated A
asks r st go = asks_from r st.kept st.entries st.mode st.left go

-- Stop is asked until Killed answers it
abbrev pub stops_from : {A : Type 0} → ErrNo → Kept → Mode → List Answered → Evaluated A
stops_from error k m [] = Asks (request.Stop error) k m
stops_from error k m (answered.Killed ∷ left) = Restarts k left
stops_from error k m (answered.Begun ∷ left) = stops_from error k m left
stops_from error k m (answered.Told v ∷ left) = stops_from error k m left
stops_from error k m (answered.Done ∷ left) = stops_from error k m left
stops_from error k m (answered.Wrong e ∷ left) = stops_from error k m left
stops_from error k m (answered.Block snapshot turns ∷ left) = stops_from error k m left

abbrev pub stops : {A : Type 0} → ErrNo → State → Evaluated A
stops error st = stops_from error st.kept st.mode st.left

-- how a statement ends: control goes on after it, or goes out of a group or to a group's next turn, of this label or the innermost, or the block's
-- end is reached with a value or without one
pub data Flow : Type 0 where
  Normal : Flow
  Leaves Repeats : (label : Option (List ℕ)) → Flow
  Returned : (value : Option Value) → Flow
