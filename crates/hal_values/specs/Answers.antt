-- When an answer fits its request. The definitions have an answer of their own: what the code tells by Closed is here Block,
-- with what the shared cells held before the block and the number of its turns. Opened is no answer here, since a process
-- asks nothing of the store within its block: the block reads all that the snapshot tells.
use Rattle.std.specs.Prelude.{◌≡◌, ℕ, ◌⊎◌, List, Option, IsSome}
use Rattle.hal_values.specs.declared.environment.ErrNo.{ErrNo}
use Rattle.hal_values.specs.declared.request.Request.{Request}
use Rattle.hal_values.specs.declared.request.Request.TheVariants as request
use Rattle.hal_values.specs.declared.answer.Answer.{Answer}
use Rattle.hal_values.specs.declared.answer.Answer.TheVariants as answer
use Rattle.hal_values.specs.declared.tables.Tables.{Tables}
use Rattle.hal_values.specs.declared.value.Value.{Value}
use Rattle.hal_values.specs.Kinds.{IsInteger, IsDatum}
use Rattle.hal_values.specs.Tables.{IsSnapshot}
use Rattle.hal_values.specs.Requests.{IsOfSpot}

-- what the executive answers, as the definitions see it
pub data Answered : Type 0 where
  Begun : Answered
  Told : Value → Answered
  Done : Answered
  Wrong : ErrNo → Answered
  Block : List Value → ℕ → Answered
  Killed : Answered

-- the code's answer stands for that of the definitions
abbrev pub StandsFor : Answer → Answered → Type 0
StandsFor answer.Begun given = given ≡ Begun
StandsFor (answer.Value v) given = given ≡ Told v
StandsFor answer.Done given = given ≡ Done
StandsFor (answer.Wrong e) given = given ≡ Wrong e
StandsFor answer.Opened given = ⊥
StandsFor answer.Closed given = (snapshot : List Value) × (turns : ℕ) × (given ≡ Block snapshot turns)
StandsFor answer.Killed given = given ≡ Killed

-- the writes of an UPDATE block over a snapshot, where the block ends after just so many turns
abbrev pub Ends : Type 0
Ends = List Value → ℕ → Option (List (ℕ × Value))

-- the error of this group and number
abbrev pub error : ℕ → ℕ → ErrNo
error group number = record { group = group; number = number }

-- the answer is that the process is already active
abbrev pub IsAlreadyActive : Answered → Type 0
IsAlreadyActive given = given ≡ Wrong (error 2 1)

-- the answer is that the process is inactive
abbrev pub IsInactive : Answered → Type 0
IsInactive given = given ≡ Wrong (error 2 2)

-- the answer is that the process is neither oneself nor a descendant
abbrev pub IsNoDescendant : Answered → Type 0
IsNoDescendant given = given ≡ Wrong (error 2 3)

-- the answer is that no datum is left
abbrev pub IsNoDatum : Answered → Type 0
IsNoDatum given = given ≡ Wrong (error 3 1)

-- the answer is that the datum isn't of the kind
abbrev pub IsOtherDatum : Answered → Type 0
IsOtherDatum given = given ≡ Wrong (error 3 2)

-- which answers other than Killed fit the request, where `ends` says how the UPDATE block ends that may be asked for
abbrev pub FitsAlive : Tables → Ends → Request → Answered → Type 0
FitsAlive tables ends request.Begin given = given ≡ Begun
FitsAlive tables ends (request.Read spot) given = (v : Value) × (given ≡ Told v) × IsOfSpot tables spot v
FitsAlive tables ends (request.Write cell v) given = given ≡ Done
FitsAlive tables ends request.Pass given = given ≡ Done
FitsAlive tables ends (request.Update groups) given =
    (snapshot : List Value) × (turns : ℕ) × (given ≡ Block snapshot turns) × IsSnapshot tables.cells snapshot × IsSome (ends snapshot turns)
FitsAlive tables ends (request.Schedule plan) given = (given ≡ Done) ⊎ IsAlreadyActive given
FitsAlive tables ends (request.Cancel process) given = (given ≡ Done) ⊎ IsInactive given
FitsAlive tables ends (request.Terminate process) given = (given ≡ Done) ⊎ IsInactive given ⊎ IsNoDescendant given
FitsAlive tables ends (request.Wait pause) given = given ≡ Done
FitsAlive tables ends (request.Signal e) given = given ≡ Done
FitsAlive tables ends (request.Set e) given = given ≡ Done
FitsAlive tables ends (request.Reset e) given = given ≡ Done
FitsAlive tables ends (request.Priority process priority) given = (given ≡ Done) ⊎ IsInactive given
FitsAlive tables ends (request.Print channel line) given = given ≡ Done
FitsAlive tables ends (request.Input channel kind) given =
    ((v : Value) × (given ≡ Told v) × IsDatum kind v) ⊎ IsNoDatum given ⊎ IsOtherDatum given
FitsAlive tables ends request.Now given = (v : Value) × (given ≡ Told v) × IsInteger v
FitsAlive tables ends (request.Stop e) given = ⊥
FitsAlive tables ends request.Finish given = given ≡ Done
FitsAlive tables ends (request.Look cell) given = ⊥
FitsAlive tables ends (request.Close turns) given = ⊥

-- the answer fits the request; Killed fits every request
abbrev pub Fits : Tables → Ends → Request → Answered → Type 0
Fits tables ends asked given = (given ≡ Killed) ⊎ FitsAlive tables ends asked given
