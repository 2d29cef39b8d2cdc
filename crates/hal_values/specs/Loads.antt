-- What a load is, and when two loads agree.
use Rattle.std.specs.Prelude.{◌≡◌, ℕ, ◌≤◌, List, [], ◌∷◌, ◌++◌, Some, All, IsSome}
use Rattle.hal_values.specs.declared.request.Request.{Request}
use Rattle.hal_values.specs.declared.request.Request.TheVariants.{Begin, Finish, Update}
use Rattle.hal_values.specs.declared.tables.Tables.{Tables}
use Rattle.hal_values.specs.declared.value.Value.{Value}
use Rattle.hal_values.specs.Answers.{Answered, Done, Killed, Ends, Fits}
use Rattle.hal_values.specs.Requests.{HasProcess, IsInOrder, IsWrite}
use Rattle.hal_values.specs.Tables.{IsTables, IsSnapshot}

-- what a load's four definitions say of it; definitions alone speak of it, and no value of the code holds it
pub record Meaning : Type 0 where
  pub tables : Tables
  pub next : ℕ → List Answered → Request
  pub block : ℕ → List Answered → Ends
  pub own : ℕ → List Answered → List Value

-- the meaning of this load
abbrev pub meaning_of : {L : Type 0} → (L → Tables) → (L → ℕ → List Answered → Request) → (L → ℕ → List Answered → Ends) → (L → ℕ → List Answered → List Value) → L → Meaning
meaning_of tables next block own load = record { tables = tables load; next = next load; block = block load; own = own load }

-- the answer fits what the process asks after the answers before it
abbrev pub FitsNext : Meaning → ℕ → List Answered → Answered → Type 0
FitsNext q p before given = Fits q.tables (q.block p before) (q.next p before) given

-- each of the later answers fits the request that is asked after those before it
abbrev pub FitAfter : Meaning → ℕ → List Answered → List Answered → Type 0
FitAfter q p before [] = Unit {0}
FitAfter q p before (given ∷ later) = FitsNext q p before given × FitAfter q p (before ++ given ∷ []) later

-- each answer fits the request that is asked after those before it
abbrev pub FitAll : Meaning → ℕ → List Answered → Type 0
FitAll q p answers = FitAfter q p [] answers

-- a cell that exists gets a value of its kind
abbrev pub IsWritten : Tables → (ℕ × Value) → Type 0
IsWritten tables written = IsWrite tables written.0 written.1

-- an UPDATE block has at most so many turns
abbrev pub turn_limit : ℕ
turn_limit = 65535

-- an UPDATE block is asked for
abbrev pub IsUpdate : Request → Type 0
IsUpdate (Update groups) = Unit {0}
IsUpdate asked = ⊥

-- what is said of every load: its tables are right; a process asks Begin first, after Killed and after a finished cycle, and after fitting answers only
-- requests in order; and an UPDATE block that is asked for ends, after one number of turns alone, which keeps the limit of turns, and writes only cells that exist, with
-- values of their kind
pub record IsLoad (q : Meaning) : Type 0 where
  pub right : IsTables q.tables
  pub begins : (p : ℕ) → HasProcess q.tables p → q.next p [] ≡ Begin
  pub restarts : (p : ℕ) (answers : List Answered) → HasProcess q.tables p → FitAll q p answers → q.next p (answers ++ Killed ∷ []) ≡ Begin
  pub cycles : (p : ℕ) (answers : List Answered) → HasProcess q.tables p → FitAll q p answers → q.next p answers ≡ Finish → q.next p (answers ++ Done ∷ []) ≡ Begin
  pub in_order : (p : ℕ) (answers : List Answered) → HasProcess q.tables p → FitAll q p answers → IsInOrder q.tables (q.next p answers)
  pub writes_right : (p : ℕ) (answers : List Answered) (snapshot : List Value) (turns : ℕ) (writes : List (ℕ × Value)) → HasProcess q.tables p → FitAll q p answers
      → IsSnapshot q.tables.cells snapshot → q.block p answers snapshot turns ≡ Some writes → All (IsWritten q.tables) writes
  pub few_turns : (p : ℕ) (answers : List Answered) (snapshot : List Value) (turns : ℕ) (writes : List (ℕ × Value)) → HasProcess q.tables p → FitAll q p answers
      → IsSnapshot q.tables.cells snapshot → q.block p answers snapshot turns ≡ Some writes → turns ≤ turn_limit
  pub one_end : (p : ℕ) (answers : List Answered) (snapshot : List Value) (turns other : ℕ) (writes others : List (ℕ × Value)) → HasProcess q.tables p → FitAll q p answers
      → IsSnapshot q.tables.cells snapshot → q.block p answers snapshot turns ≡ Some writes → q.block p answers snapshot other ≡ Some others → turns ≡ other
  pub ends : (p : ℕ) (answers : List Answered) (snapshot : List Value) → HasProcess q.tables p → FitAll q p answers → IsSnapshot q.tables.cells snapshot
      → IsUpdate (q.next p answers) → (turns : ℕ) × IsSome (q.block p answers snapshot turns)

-- two loads agree: their tables are equal, and so are requests, blocks and own values after all fitting answers
pub record Agree (a b : Meaning) : Type 0 where
  pub tables : a.tables ≡ b.tables
  pub next : (p : ℕ) (answers : List Answered) → HasProcess a.tables p → FitAll a p answers → a.next p answers ≡ b.next p answers
  pub block : (p : ℕ) (answers : List Answered) (snapshot : List Value) (turns : ℕ) → HasProcess a.tables p → FitAll a p answers → IsSnapshot a.tables.cells snapshot
      → a.block p answers snapshot turns ≡ b.block p answers snapshot turns
  pub own : (p : ℕ) (answers : List Answered) → HasProcess a.tables p → FitAll a p answers → a.own p answers ≡ b.own p answers
