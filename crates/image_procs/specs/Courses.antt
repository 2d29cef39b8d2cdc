-- Where a process of an image stands.
use Rattle.std.specs.Prelude.{◌≡◌, ℕ, ◌-◌, ◌<◌, ◌≤◌, ◌^◌, List, ◌++◌, length, map, Option, Some, None}
use Rattle.std.specs.VecDeque.{deque_len, deque_capacity}
use Rattle.hal_values.specs.Answers.{Answered}
use Rattle.hal_values.specs.Loads.{FitAll, turn_limit}
use Rattle.hal_code.specs.Cores.{Setting}
use Rattle.hal_code.specs.Courses.{setting_of, course, load_of}
use Rattle.hal_code.specs.Right.{IsRight}
use Rattle.hal_right_values.specs.Finding.{HaveCells}
use Rattle.hal_right_values.specs.Ranges.{AreInRange}
use Rattle.hal_runner.specs.declared.reply.Reply.{Reply}
use Rattle.hal_runner.specs.declared.runner.Runner.{Runner}
use Rattle.hal_runner.specs.Replies.{reply_seen}
use Rattle.hal_runner.specs.Runners.{asked_seen}
use Rattle.hal_runner.specs.Ways.{IsAmple}
use Rattle.exec_model.specs.Processes as processes
use Rattle.image_procs.specs.declared.course.Course.{Course}
use Rattle.image_procs.specs.Tellings.{answers_told, replies_in, look_seen}

-- the machine can run the process
pub record CanRun (s : Setting) : Type 0 where
  pub is : s ≡ setting_of s.turns s.image s.process
  pub right : IsRight s.image
  pub cells : HaveCells s.image
  pub ranged : AreInRange s.image
  pub exists : s.process < length s.image.processes
  pub begin : s.begin < 2 ^ 64 - 1
  pub few : s.turns ≤ turn_limit

-- all that the process was told fits
abbrev pub AllFit : Setting → List (Reply × ℕ) → Type 0
AllFit s told = FitAll (load_of s.turns s.image) s.process (answers_told told)

-- a runner took in all that was told but for these replies, and has room for all blocks that it enters
pub record IsAt (s : Setting) (r : Runner) (waiting : List Answered) (told : List (Reply × ℕ)) : Type 0 where
  pub taken : List (Reply × ℕ)
  pub rest : List (Reply × ℕ)
  pub whole : told ≡ taken ++ rest
  pub waits : waiting ≡ replies_in rest
  pub is : asked_seen s.image r ≡ course s (answers_told taken)
  pub ample : IsAmple s.image r.machine.blocks.room

-- so did one that may be there
abbrev pub StandsAt : Setting → Option Runner → List Answered → List (Reply × ℕ) → Type 0
StandsAt s None waiting told = Unit {0}
StandsAt s (Some r) waiting told = IsAt s r waiting told

-- what a course says
pub record Parts : Type 0 where
  pub runner : Option Runner
  pub waiting : List Answered
  pub told : List (Reply × ℕ)
  pub look : Option processes.Look

abbrev pub parts : Course → Parts
parts one = record { runner = one.runner; waiting = map reply_seen one.waiting.items; told = one.told.items; look = look_seen one.look }

-- a process stands where its answers lead
pub record IsCourse (s : Setting) (one : Parts) : Type 0 where
  pub fit : AllFit s one.told
  pub at : StandsAt s one.runner one.waiting one.told

-- for how many further answers it has room
abbrev pub room : Course → ℕ
room one = deque_capacity one.waiting - deque_len one.waiting
