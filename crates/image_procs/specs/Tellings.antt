-- What a process of an image was told.
use Rattle.std.specs.Prelude.{ℕ, List, map, Option, Some, None}
use Rattle.hal_values.specs.Answers.{Answered}
use Rattle.hal_runner.specs.declared.reply.Reply.{Reply}
use Rattle.hal_runner.specs.Replies.{reply_seen}
use Rattle.hal_right_ways.specs.Timed.{timed}
use Rattle.exec_model.specs.Processes as processes
use Rattle.image_procs.specs.declared.look.Look.{Look}

-- a reply with the turns of the UPDATE block that it may begin is an answer
abbrev pub answer_told : Reply × ℕ → Answered
answer_told told = timed told.1 (reply_seen told.0)

abbrev pub answers_told : List (Reply × ℕ) → List Answered
answers_told told = map answer_told told

-- the replies alone, without turns
abbrev pub replies_in : List (Reply × ℕ) → List Answered
replies_in told = map (λ (one : Reply × ℕ). reply_seen one.0) told

-- a look that may have been made
abbrev pub look_seen : Option Look → Option processes.Look
look_seen None = None
look_seen (Some look) = Some (record { store = look.store.items; turns = look.turns })
