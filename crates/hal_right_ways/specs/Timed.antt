-- Answers that tell turns.
use Rattle.std.specs.Prelude.{ℕ}
use Rattle.hal_values.specs.Answers.{Answered, Begun, Told, Done, Wrong, Block, Killed}

-- an answer with so many turns, where it begins an UPDATE block
abbrev pub timed : ℕ → Answered → Answered
timed turns Begun = Begun
timed turns (Told v) = Told v
timed turns Done = Done
timed turns (Wrong e) = Wrong e
timed turns (Block snapshot others) = Block snapshot turns
timed turns Killed = Killed
