-- What is said of the processes that the plain executive asks and answers.
use Rattle.std.specs.Prelude.{◌≡◌, ◌≢◌, ℕ, ◌≤◌, List, Option, Some, None, slice_index_or, slice_index}
use Rattle.hal_values.specs.declared.answer.Answer.{Answer}
use Rattle.hal_values.specs.declared.answer.Answer.TheVariants as answer
use Rattle.hal_values.specs.declared.tables.Tables.{Tables}
use Rattle.hal_values.specs.declared.value.Value.{Value}
use Rattle.hal_values.specs.Answers.{Answered, Begun, Told, Done, Wrong, Block, Killed}
use Rattle.hal_values.specs.Requests.{HasProcess}

-- a look at an UPDATE block: the store that it was made over, and the turns after which the block ends
pub record Look : Type 0 where
  pub store : List Value
  pub turns : ℕ

-- the last look of a process, if its last call was one
abbrev pub look_at : List (Option Look) → ℕ → Option Look
look_at looks p = slice_index_or looks p None

-- the answer to the UPDATE block that was looked at
abbrev pub closed_answer : Option Look → Option Answered
closed_answer None = None
closed_answer (Some look) = Some (Block look.store look.turns)

-- what an answer of the code says, after this look
abbrev pub told_answer : Option Look → Answer → Option Answered
told_answer look answer.Begun = Some Begun
told_answer look (answer.Value v) = Some (Told v)
told_answer look answer.Done = Some Done
told_answer look (answer.Wrong e) = Some (Wrong e)
told_answer look answer.Opened = None
told_answer look answer.Closed = closed_answer look
told_answer look answer.Killed = Some Killed

-- the looks of all other processes stay
abbrev pub SameLooksBut : ℕ → List (Option Look) → List (Option Look) → Type 0
SameLooksBut p old new = (o : ℕ) → o ≢ p → look_at new o ≡ look_at old o

-- the rooms of all other processes stay
abbrev pub SameRoomsBut : ℕ → List ℕ → List ℕ → Type 0
SameRoomsBut p old new = (o : ℕ) → o ≢ p → slice_index new o ≡ slice_index old o

-- no room is lower than before
abbrev pub NotLower : List ℕ → List ℕ → Type 0
NotLower old new = (p : ℕ) → slice_index old p ≤ slice_index new p

-- for so many further answers a process has room after `reserve`
abbrev pub reserved_room : ℕ
reserved_room = 4

-- each process has room for further answers
abbrev pub HasRooms : Tables → List ℕ → Type 0
HasRooms tables rooms = (p : ℕ) → HasProcess tables p → reserved_room ≤ slice_index rooms p
