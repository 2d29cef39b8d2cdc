-- A step in the making: what the executive was, and what it is to be.
use Rattle.std.specs.Prelude.{◌≡◌, ℕ, List, [], ◌∷◌, Option, Some, None}
use Rattle.hal_values.specs.declared.value.Value.{Value}
use Rattle.hal_values.specs.Answers.{Answered, Begun, Done, Wrong, Block, Killed}
use Rattle.hal_values.specs.Answers.{Told as Answer}
use Rattle.exec_model.specs.declared.state.State.{State}
use Rattle.exec_model.specs.declared.told.Reply.{Reply}
use Rattle.exec_model.specs.declared.told.Reply.TheVariants as reply
use Rattle.exec_model.specs.declared.told.Told.{Told}
use Rattle.exec_model.specs.Moments.{Moment, answered, pushed_answer, datum_taken}
use Rattle.exec_model.specs.Processes.{Look, look_at}

-- what the executive was before the step, and what it is to be; and the process whose UPDATE block the step completes, with its turns
pub record Drafted : Type 0 where
  pub base : Moment
  pub now : Moment
  pub closes : Option (ℕ × ℕ)

-- the step goes on by this
abbrev pub on : (Moment → Moment) → Drafted → Drafted
on change draft = record { base = draft.base; now = change draft.now; closes = draft.closes }

-- the process whose UPDATE block is done is answered first, with the store before
abbrev pub closed_first : List Value → Option (ℕ × ℕ) → List (List Answered) → List (List Answered)
closed_first store None answers = answers
closed_first store (Some done) answers = pushed_answer answers done.0 (Block store done.1)

-- the process whose UPDATE block is done was last asked for it, over this store
abbrev pub IsLooked : List (Option Look) → List Value → Option (ℕ × ℕ) → Type 0
IsLooked looks store None = Unit {0}
IsLooked looks store (Some done) = look_at looks done.0 ≡ Some (record { store = store; turns = done.1 })

-- a step that does no more than answer the process whose UPDATE block is done, if there is one
abbrev pub begun_of : Moment → Option (ℕ × ℕ) → Drafted
begun_of m closes = record { base = m; now = record m { answers = closed_first m.store closes m.answers }; closes = closes }

-- a step that changes nothing yet
abbrev pub unchanged : Moment → Drafted
unchanged m = begun_of m None

-- a step that has only answered a process whose UPDATE block is done
abbrev pub closing_of : Moment → ℕ → ℕ → Drafted
closing_of m p turns = begun_of m (Some (p, turns))

-- the answer, as the definitions see it
abbrev pub reply_answer : Reply → Answered
reply_answer reply.Begun = Begun
reply_answer (reply.Value v) = Answer v
reply_answer reply.Done = Done
reply_answer (reply.Wrong e) = Wrong e
reply_answer reply.Killed = Killed

-- the answers of all processes, after these
abbrev pub told_all : List (List Answered) → List Told → List (List Answered)
told_all answers [] = answers
told_all answers (given ∷ others) = told_all (pushed_answer answers given.process (reply_answer given.reply)) others

-- the first datum of each of these channels is used up, one after another
abbrev pub data_taken : List (List (List ℕ)) → List ℕ → List (List (List ℕ))
data_taken input [] = input
data_taken input (channel ∷ others) = data_taken (datum_taken input channel) others

-- the step in the making has the store of a state, and what is left to be read there
pub record IsOver (state : State) (draft : Drafted) : Type 0 where
  pub store : draft.now.store ≡ state.store
  pub input : draft.now.input ≡ state.input
