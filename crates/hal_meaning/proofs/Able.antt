-- What is said of tasks that may begin.
use Rattle.std.specs.Prelude.{ℕ, suc, ◌≤◌, ◌<◌, ◌≡◌, length, [], true}
use Rattle.std.proofs.Common.{refl, arith}
use Rattle.hal_values.specs.declared.request.Request.TheVariants as request
use Rattle.hal_values.specs.declared.tables.Tables.{Tables}
use Rattle.hal_values.specs.Answers.{Answered}
use Rattle.hal_values.specs.Tables.{process_count}
use Rattle.hal_states.specs.Spots.{Kept}
use Rattle.hal_states.specs.Modes.{asking}
use Rattle.hal_meaning.specs.States.{State, state, Evaluated, Asks, bind}
use Rattle.hal_meaning.specs.Access.{Here}
use Rattle.hal_meaning.specs.Tasks.{Task, Meaning, Tested, Stepping, Listing, Entering, Resuming, Cycling}
use Rattle.hal_meaning.proofs.Going.{spare, pushed, IsRight, Goes, Fine, Goes-bind}
use Rattle.hal_meaning.proofs.Accessing.{Ok_state, Begins}

-- where a task's phrases stand
abbrev pub here_of : Task → Here
here_of (Tested h loop g) = h
here_of (Stepping h n loop name g) = h
here_of (Listing h n loop name g values) = h
here_of (Entering h) = h
here_of (Resuming h place) = h
here_of (Cycling h) = h

-- a process of the set, whose UPDATE blocks have so many turns
pub record IsIn (tables : Tables) (turns : ℕ) (h : Here) : Type 0 where
  pub same_tables : h.set.tables ≡ tables
  pub same_turns : h.set.turns ≡ turns
  pub process : h.process < process_count tables
  pub stated : length h.set.stated ≤ length tables.expressions

-- so many tasks may begin, one in the other
pub record Able (tables : Tables) (turns n : ℕ) (a : Answered) (rec after : Meaning) : Type 0 where
  pub all : (one : Task) (st : State) (limit : ℕ) → IsIn tables turns (here_of one) → IsRight tables st.mode → suc (spare turns st) ≤ n → spare turns st ≤ limit
      → Goes tables turns limit a (Fine tables turns limit) (rec one st) (after one (pushed a st))
  pub begins : (h : Here) (k : Kept) → after (Cycling h) (state k [] asking []) ≡ Asks request.Begin k asking

-- phrases that stand here may be evaluated with so many tasks
pub record Ready (h : Here) (limit n : ℕ) (a : Answered) (rec after : Meaning) : Type 0 where
  pub able : Able h.set.tables h.set.turns n a rec after
  pub few : limit ≤ n
  pub process : h.process < process_count h.set.tables
  pub stated : length h.set.stated ≤ length h.set.tables.expressions

-- what is said of an evaluation here
abbrev pub Runs : {A : Type 0} → Here → ℕ → Answered → Evaluated A → Evaluated A → Type 0
Runs h limit a done after = Goes h.set.tables h.set.turns limit a (Fine h.set.tables h.set.turns limit) done after

abbrev pub Fit : Here → ℕ → State → Type 0
Fit h limit st = Ok_state h.set.tables h.set.turns limit st

-- one phrase after another
pub seq : {A B : Type 0} (h : Here) (limit : ℕ) (a : Answered) (done after : Evaluated A) (go then : A → State → Evaluated B) → Runs h limit a done after
    → ((v : A) (st : State) → Fit h limit st → Runs h limit a (go v st) (then v (pushed a st))) → Runs h limit a (bind done go) (bind after then)
seq h limit a done after go then is goes = Goes-bind h.set.tables h.set.turns limit a (Fine h.set.tables h.set.turns limit) (Fine h.set.tables h.set.turns limit) done after go then is goes

few_tasks : (w limit n : ℕ) → suc w ≤ limit → limit ≤ n → suc w ≤ n
few_tasks w limit n few less = omega arith

few_more : (w limit : ℕ) → suc w ≤ limit → w ≤ limit
few_more w limit few = omega arith

-- a task that begins with a turn
pub begun : (h : Here) (limit n : ℕ) (a : Answered) (rec after : Meaning) (one : Task) (st : State) → Ready h limit n a rec after → IsIn h.set.tables h.set.turns (here_of one)
    → Begins h.set.tables h.set.turns limit true st → Runs h limit a (rec one st) (after one (pushed a st))
begun h limit n a rec after one st ready in_set is =
    ready.able.all one st limit in_set is.0 (few_tasks (spare h.set.turns st) limit n is.1 ready.few) (few_more (spare h.set.turns st) limit is.1)

-- this place is in its own set
pub same : (h : Here) (limit n : ℕ) (a : Answered) (rec after : Meaning) → Ready h limit n a rec after → IsIn h.set.tables h.set.turns h
same h limit n a rec after ready = record { same_tables = refl; same_turns = refl; process = ready.process; stated = ready.stated }
