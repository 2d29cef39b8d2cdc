-- What a plain executive shows.
use Rattle.std.specs.Prelude.{◌≡◌, ℕ, ◌≤◌, List}
use Rattle.hal_values.specs.Answers.{Answered}
use Rattle.hal_values.specs.Loads.{Meaning}
use Rattle.exec_model.specs.declared.event.Event.{Event}
use Rattle.exec_model.specs.declared.state.State.{State}
use Rattle.exec_model.specs.Moments.{Moment, moment_of}
use Rattle.exec_model.specs.Sound.{IsSound}

-- the processes, the state, the events so far, and the number of lanes
pub record Running (P : Type 0) : Type 0 where
  pub procs : P
  pub state : State
  pub journal : List Event
  pub lanes : ℕ

-- the moment that it shows
abbrev pub running_moment : {P : Type 0} → (P → List (List Answered)) → Running P → Moment
running_moment answers running = moment_of running.state (answers running.procs)

-- the state, the answers and the journal are as before
pub record IsSame (old_state : State) (old_answers : List (List Answered)) (old_journal : List Event) (state : State) (answers : List (List Answered)) (journal : List Event) : Type 0 where
  pub same_state : state ≡ old_state
  pub same_answers : answers ≡ old_answers
  pub same_journal : journal ≡ old_journal

-- the executive is as before
abbrev pub IsUnmoved : {P : Type 0} → (P → List (List Answered)) → Running P → Running P → Type 0
IsUnmoved answers old new = IsSame old.state (answers old.procs) old.journal new.state (answers new.procs) new.journal

-- the moment is sound, and there is a lane
pub record IsRunning (q : Meaning) (m : Moment) (lanes : ℕ) : Type 0 where
  pub sound : IsSound q m
  pub some : 1 ≤ lanes
