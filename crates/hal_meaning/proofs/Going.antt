-- What is said of the evaluation of a phrase, and how it is said of what phrases are made of.
--
-- With enough tasks it never is Lost; each request is in order, and the writes of an UPDATE block are right; and with an answer more at the end the
-- same comes of it, where no request was asked.
use Rattle.std.specs.Prelude.{ℕ, suc, ◌+◌, ◌≤◌, ◌≡◌, ◌⊎◌, ◌++◌, List, [], ◌∷◌, Option, Some, None, All}
use Rattle.std.proofs.Common.{refl, sym, ap, subst, ◌∙◌, inl, inr, arith}
use Rattle.hal_values.specs.declared.environment.Entry.{Entry}
use Rattle.hal_values.specs.declared.environment.ErrNo.{ErrNo}
use Rattle.hal_values.specs.declared.request.Request.{Request}
use Rattle.hal_values.specs.declared.request.Request.TheVariants as request
use Rattle.hal_values.specs.declared.tables.Tables.{Tables}
use Rattle.hal_values.specs.Answers.{Answered}
use Rattle.hal_values.specs.Answers as answered
use Rattle.hal_values.specs.Loads.{IsWritten}
use Rattle.hal_values.specs.Requests.{IsInOrder}
use Rattle.hal_states.specs.Spots.{Kept}
use Rattle.hal_states.specs.Modes.{turns_given, Mode, asking}
use Rattle.hal_meaning.specs.States.{State, state, Evaluated, Gives, Asks, Caught, Restarts, Lost, bind, asks_from, asks, stops_from, stops}

-- how many tasks answers let begin
abbrev pub weight : ℕ → List Answered → ℕ
weight turns [] = 0
weight turns (a ∷ left) = suc (turns_given turns a + weight turns left)

-- the turns that are left in an UPDATE block that is entered
abbrev pub turns_in : Option ℕ → ℕ → ℕ
turns_in None n = 0
turns_in (Some groups) n = n

-- how many tasks may still begin
abbrev pub spare : ℕ → State → ℕ
spare turns st = turns_in st.mode.groups st.mode.turns + weight turns st.left

-- an answer more, at the end
abbrev pub pushed : Answered → State → State
pushed a st = state st.kept st.entries st.mode (st.left ++ (a ∷ []))

-- the writes of an UPDATE block are right
abbrev pub IsRight : Tables → Mode → Type 0
IsRight tables m = All (IsWritten tables) m.writes

-- what becomes of a request that is answered so: Killed leads to a new cycle, and so does an answer to Finish
abbrev pub Turned : {A : Type 0} → Answered → Request → Kept → Evaluated A → Type 0
Turned answered.Killed r k after = (after ≡ Restarts k []) ⊎ (after ≡ Asks request.Begin k asking)
Turned answered.Done r k after = r ≡ request.Finish → after ≡ Asks request.Begin k asking
Turned answered.Begun r k after = Unit {0}
Turned (answered.Told v) r k after = Unit {0}
Turned (answered.Wrong e) r k after = Unit {0}
Turned (answered.Block snapshot made) r k after = Unit {0}

-- what is said of an evaluation, of a value and the state then, and of the same evaluation with an answer more
abbrev pub Goes : {A : Type 0} → Tables → ℕ → ℕ → Answered → (A → State → Type 0) → Evaluated A → Evaluated A → Type 0
Goes tables turns limit a Holds (Gives v st) after = Holds v st × (after ≡ Gives v (pushed a st))
Goes tables turns limit a Holds (Asks r k m) after = (IsInOrder tables r × IsRight tables m) × Turned a r k after
Goes tables turns limit a Holds (Caught level place st) after = (IsRight tables st.mode × (spare turns st ≤ limit)) × (after ≡ Caught level place (pushed a st))
Goes tables turns limit a Holds (Restarts k left) after = (suc (weight turns left) ≤ limit) × (after ≡ Restarts k (left ++ (a ∷ [])))
Goes tables turns limit a Holds Lost after = ⊥

-- the state is right, and as many tasks may begin as before at most
abbrev pub Fine : {A : Type 0} → Tables → ℕ → ℕ → A → State → Type 0
Fine tables turns limit v st = IsRight tables st.mode × (spare turns st ≤ limit)

Turned-bind : {A B : Type 0} (a : Answered) (r : Request) (k : Kept) (after : Evaluated A) (go : A → State → Evaluated B) → Turned a r k after → Turned a r k (bind after go)
Turned-bind answered.Killed r k after go (inl is) = inl (ap (λ one. bind one go) is)
Turned-bind answered.Killed r k after go (inr is) = inr (ap (λ one. bind one go) is)
Turned-bind answered.Done r k after go is = λ finish. ap (λ one. bind one go) (is finish)
Turned-bind answered.Begun r k after go is = tt
Turned-bind (answered.Told v) r k after go is = tt
Turned-bind (answered.Wrong e) r k after go is = tt
Turned-bind (answered.Block snapshot made) r k after go is = tt

-- the same through what leaves new cycles as they are
pub Turned-through : {A B : Type 0} (a : Answered) (r : Request) (k : Kept) (after : Evaluated A) (through : Evaluated A → Evaluated B)
    → through (Restarts k []) ≡ Restarts k [] → through (Asks request.Begin k asking) ≡ Asks request.Begin k asking → Turned a r k after → Turned a r k (through after)
Turned-through answered.Killed r k after through restarts begins (inl is) = inl (ap through is ∙ restarts)
Turned-through answered.Killed r k after through restarts begins (inr is) = inr (ap through is ∙ begins)
Turned-through answered.Done r k after through restarts begins is = λ finish. ap through (is finish) ∙ begins
Turned-through answered.Begun r k after through restarts begins is = tt
Turned-through (answered.Told v) r k after through restarts begins is = tt
Turned-through (answered.Wrong e) r k after through restarts begins is = tt
Turned-through (answered.Block snapshot made) r k after through restarts begins is = tt

-- one phrase after another
pub Goes-bind : {A B : Type 0} (tables : Tables) (turns limit : ℕ) (a : Answered) (Holds : A → State → Type 0) (Then : B → State → Type 0) (done after : Evaluated A) (go then : A → State → Evaluated B)
    → Goes tables turns limit a Holds done after
    → ((v : A) (st : State) → Holds v st → Goes tables turns limit a Then (go v st) (then v (pushed a st)))
    → Goes tables turns limit a Then (bind done go) (bind after then)
Goes-bind tables turns limit a Holds Then (Gives v st) after go then is goes = subst (λ one. Goes tables turns limit a Then (go v st) (bind one then)) (sym is.1) (goes v st is.0)
Goes-bind tables turns limit a Holds Then (Asks r k m) after go then is goes = (is.0, Turned-bind a r k after then is.1)
Goes-bind tables turns limit a Holds Then (Caught level place st) after go then is goes = (is.0, ap (λ one. bind one then) is.1)
Goes-bind tables turns limit a Holds Then (Restarts k left) after go then is goes = (is.0, ap (λ one. bind one then) is.1)
Goes-bind tables turns limit a Holds Then Lost after go then is goes = absurd is

-- a request that isn't Finish
Turned-asks : {A : Type 0} (a : Answered) (r : Request) (k : Kept) (e : List Entry) (m : Mode) (then : Answered → State → Evaluated A) → ((r ≡ request.Finish) → ⊥)
    → Turned a r k (asks_from r k e m (a ∷ []) then)
Turned-asks answered.Killed r k e m then other = inl refl
Turned-asks answered.Done r k e m then other = λ finish. absurd (other finish)
Turned-asks answered.Begun r k e m then other = tt
Turned-asks (answered.Told v) r k e m then other = tt
Turned-asks (answered.Wrong error) r k e m then other = tt
Turned-asks (answered.Block snapshot made) r k e m then other = tt

-- what is known once a request is answered
abbrev pub Answers : Tables → ℕ → ℕ → Answered → State → Type 0
Answers tables turns limit answer st = IsRight tables st.mode × (suc (turns_given turns answer + spare turns st) ≤ limit)

few_with : (groups : Option ℕ) (n gained w limit : ℕ) → turns_in groups n + suc (gained + w) ≤ limit → suc (gained + (turns_in groups n + w)) ≤ limit
few_with groups n gained w limit few = omega arith

few_killed : (groups : Option ℕ) (n w limit : ℕ) → turns_in groups n + suc (0 + w) ≤ limit → suc w ≤ limit
few_killed groups n w limit few = omega arith

Goes-asks_from : {A : Type 0} (tables : Tables) (turns limit : ℕ) (a : Answered) (Holds : A → State → Type 0) (r : Request) (k : Kept) (e : List Entry) (m : Mode) (left : List Answered) (go then : Answered → State → Evaluated A)
    → ((r ≡ request.Finish) → ⊥) → IsInOrder tables r → IsRight tables m → turns_in m.groups m.turns + weight turns left ≤ limit
    → ((answer : Answered) (st : State) → Answers tables turns limit answer st → Goes tables turns limit a Holds (go answer st) (then answer (pushed a st)))
    → Goes tables turns limit a Holds (asks_from r k e m left go) (asks_from r k e m (left ++ (a ∷ [])) then)
Goes-asks_from tables turns limit a Holds r k e m [] go then other order right few goes = ((order, right), Turned-asks a r k e m then other)
Goes-asks_from tables turns limit a Holds r k e m (answered.Killed ∷ left) go then other order right few goes = (few_killed m.groups m.turns (weight turns left) limit few, refl)
Goes-asks_from tables turns limit a Holds r k e m (answered.Begun ∷ left) go then other order right few goes = goes answered.Begun (state k e m left) (right, few_with m.groups m.turns 0 (weight turns left) limit few)
Goes-asks_from tables turns limit a Holds r k e m (answered.Told v ∷ left) go then other order right few goes = goes (answered.Told v) (state k e m left) (right, few_with m.groups m.turns 0 (weight turns left) limit few)
Goes-asks_from tables turns limit a Holds r k e m (answered.Done ∷ left) go then other order right few goes = goes answered.Done (state k e m left) (right, few_with m.groups m.turns 0 (weight turns left) limit few)
Goes-asks_from tables turns limit a Holds r k e m (answered.Wrong error ∷ left) go then other order right few goes = goes (answered.Wrong error) (state k e m left) (right, few_with m.groups m.turns 0 (weight turns left) limit few)
Goes-asks_from tables turns limit a Holds r k e m (answered.Block snapshot made ∷ left) go then other order right few goes =
    goes (answered.Block snapshot made) (state k e m left) (right, few_with m.groups m.turns turns (weight turns left) limit few)

pub Goes-asks : {A : Type 0} (tables : Tables) (turns limit : ℕ) (a : Answered) (Holds : A → State → Type 0) (r : Request) (st : State) (go then : Answered → State → Evaluated A)
    → ((r ≡ request.Finish) → ⊥) → IsInOrder tables r → IsRight tables st.mode → spare turns st ≤ limit
    → ((answer : Answered) (after : State) → Answers tables turns limit answer after → Goes tables turns limit a Holds (go answer after) (then answer (pushed a after)))
    → Goes tables turns limit a Holds (asks r st go) (asks r (pushed a st) then)
Goes-asks tables turns limit a Holds r st go then other order right few goes = Goes-asks_from tables turns limit a Holds r st.kept st.entries st.mode st.left go then other order right few goes

few_less : (gained w limit : ℕ) → suc (gained + w) ≤ limit → w ≤ limit
few_less gained w limit few = omega arith

few_least : (w limit : ℕ) → suc (0 + w) ≤ limit → suc w ≤ limit
few_least w limit few = omega arith

Goes-stops_from : {A : Type 0} (tables : Tables) (turns limit : ℕ) (a : Answered) (Holds : A → State → Type 0) (error : ErrNo) (k : Kept) (m : Mode) (left : List Answered)
    → IsRight tables m → weight turns left ≤ limit
    → Goes {A = A} tables turns limit a Holds (stops_from error k m left) (stops_from error k m (left ++ (a ∷ [])))
Goes-stops_from tables turns limit answered.Killed Holds error k m [] right few = ((tt, right), inl refl)
Goes-stops_from tables turns limit answered.Done Holds error k m [] right few = ((tt, right), λ finish. cc)
Goes-stops_from tables turns limit answered.Begun Holds error k m [] right few = ((tt, right), tt)
Goes-stops_from tables turns limit (answered.Told v) Holds error k m [] right few = ((tt, right), tt)
Goes-stops_from tables turns limit (answered.Wrong e) Holds error k m [] right few = ((tt, right), tt)
Goes-stops_from tables turns limit (answered.Block snapshot made) Holds error k m [] right few = ((tt, right), tt)
Goes-stops_from tables turns limit a Holds error k m (answered.Killed ∷ left) right few = (few_least (weight turns left) limit few, refl)
Goes-stops_from tables turns limit a Holds error k m (answered.Begun ∷ left) right few = Goes-stops_from tables turns limit a Holds error k m left right (few_less 0 (weight turns left) limit few)
Goes-stops_from tables turns limit a Holds error k m (answered.Told v ∷ left) right few = Goes-stops_from tables turns limit a Holds error k m left right (few_less 0 (weight turns left) limit few)
Goes-stops_from tables turns limit a Holds error k m (answered.Done ∷ left) right few = Goes-stops_from tables turns limit a Holds error k m left right (few_less 0 (weight turns left) limit few)
Goes-stops_from tables turns limit a Holds error k m (answered.Wrong e ∷ left) right few = Goes-stops_from tables turns limit a Holds error k m left right (few_less 0 (weight turns left) limit few)
Goes-stops_from tables turns limit a Holds error k m (answered.Block snapshot made ∷ left) right few = Goes-stops_from tables turns limit a Holds error k m left right (few_less turns (weight turns left) limit few)

few_left : (groups : Option ℕ) (n w limit : ℕ) → turns_in groups n + w ≤ limit → w ≤ limit
few_left groups n w limit few = omega arith

-- an error ends the process
pub Goes-stops : {A : Type 0} (tables : Tables) (turns limit : ℕ) (a : Answered) (Holds : A → State → Type 0) (error : ErrNo) (st : State)
    → IsRight tables st.mode → spare turns st ≤ limit → Goes {A = A} tables turns limit a Holds (stops error st) (stops error (pushed a st))
Goes-stops tables turns limit a Holds error st right few =
    Goes-stops_from tables turns limit a Holds error st.kept st.mode st.left right (few_left st.mode.groups st.mode.turns (weight turns st.left) limit few)

-- where more tasks may begin
pub Goes-more : {A : Type 0} (tables : Tables) (turns low limit : ℕ) (a : Answered) (result after : Evaluated A) → low ≤ limit
    → Goes tables turns low a (Fine tables turns low) result after → Goes tables turns limit a (Fine tables turns limit) result after
Goes-more tables turns low limit a (Gives v st) after more is = ((is.0.0, omega arith), is.1)
Goes-more tables turns low limit a (Asks r k m) after more is = is
Goes-more tables turns low limit a (Caught level place st) after more is = ((is.0.0, omega arith), is.1)
Goes-more tables turns low limit a (Restarts k left) after more is = (omega arith, is.1)
Goes-more tables turns low limit a Lost after more is = absurd is

-- the same of what is said of values
pub Goes-weaker : {A : Type 0} (tables : Tables) (turns low limit : ℕ) (a : Answered) (Holds : A → State → Type 0) (result after : Evaluated A) → low ≤ limit
    → Goes tables turns low a Holds result after → Goes tables turns limit a Holds result after
Goes-weaker tables turns low limit a Holds (Gives v st) after more is = is
Goes-weaker tables turns low limit a Holds (Asks r k m) after more is = is
Goes-weaker tables turns low limit a Holds (Caught level place st) after more is = ((is.0.0, omega arith), is.1)
Goes-weaker tables turns low limit a Holds (Restarts k left) after more is = (omega arith, is.1)
Goes-weaker tables turns low limit a Holds Lost after more is = absurd is
