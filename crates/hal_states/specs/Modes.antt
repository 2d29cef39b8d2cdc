-- How shared data are reached: each access asks, or an UPDATE block is entered.
use Rattle.std.specs.Prelude.{ℕ, zero, ◌-◌, ◌/◌, ◌%◌, ◌^◌, ◌==◌, Bool, true, false, List, [], ◌∷◌, ◌++◌, Option, Some, None, slice_set, unwrap_or, if◌then◌else◌}
use Rattle.hal_values.specs.declared.tables.Cell.{Cell}
use Rattle.hal_values.specs.declared.value.Value.{Value}
use Rattle.hal_values.specs.Answers.{Answered}
use Rattle.hal_values.specs.Answers as answered
use Rattle.hal_states.specs.OfKinds.{nothing, of_kind}

-- each access asks, or an UPDATE block of these groups is entered. Of the latest UPDATE block: what the shared cells hold as it sees them, its writes so far, the
-- latest last, and the turns that it has left
pub record Mode : Type 0 where
  pub groups : Option ℕ
  pub store : List Value
  pub writes : List (ℕ × Value)
  pub turns : ℕ

abbrev pub mode : Option ℕ → List Value → List (ℕ × Value) → ℕ → Mode
mode groups store writes turns = record { groups = groups; store = store; writes = writes; turns = turns }

-- no UPDATE block was entered
abbrev pub asking : Mode
asking = mode None [] [] 0

-- an UPDATE block ends
abbrev pub closed : Mode → Mode
closed m = mode None m.store m.writes m.turns

-- whether an UPDATE block is entered whose turns are used up
abbrev pub are_spent : Option ℕ → ℕ → Bool
are_spent (Some groups) zero = true
are_spent groups turns = false

-- whether a group is one of these
abbrev pub has_bit : ℕ → ℕ → Bool
has_bit groups group = ((groups / 2 ^ group) % 2) == 1

-- what a cell holds as an UPDATE block of these groups sees it
abbrev pub seen_cell : ℕ → Cell → Option Value → Value
seen_cell groups cell v = if has_bit groups cell.group then of_kind cell.kind (unwrap_or v (nothing cell.kind)) else nothing cell.kind

-- an UPDATE block writes a cell of its groups
abbrev pub noted : ℕ → ℕ → Cell → Value → Mode → Mode
noted groups c cell v m = if has_bit groups cell.group then mode m.groups (slice_set m.store c v) (m.writes ++ ((c, v) ∷ [])) m.turns else m

-- the shared data as an UPDATE block sees them
abbrev pub snapshot_of : Answered → List Value
snapshot_of (answered.Block snapshot turns) = snapshot
snapshot_of other = []

-- how many turns an UPDATE block has that begins with this answer
abbrev pub turns_given : ℕ → Answered → ℕ
turns_given turns (answered.Block snapshot made) = turns
turns_given turns answered.Begun = 0
turns_given turns (answered.Told v) = 0
turns_given turns answered.Done = 0
turns_given turns (answered.Wrong e) = 0
turns_given turns answered.Killed = 0

-- an UPDATE block of these groups begins with this answer
abbrev pub opened : ℕ → ℕ → Answered → Mode
opened all groups answer = mode (Some groups) (snapshot_of answer) [] (turns_given all answer)

-- the writes of the UPDATE block that was entered last, where of so many turns it has made just these
abbrev pub writes_in : ℕ → Mode → ℕ → Option (List (ℕ × Value))
writes_in all m turns = if (all - m.turns) == turns then Some m.writes else None
