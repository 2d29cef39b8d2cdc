-- When processes can be told their answers, one after another.
use Rattle.std.specs.Prelude.{ℕ, ◌+◌, ◌==◌, ◌≤◌, Bool, List, [], ◌∷◌, count_by, slice_index, Option, Some, None, if◌then◌else◌}
use Rattle.hal_values.specs.declared.tables.Tables.{Tables}
use Rattle.hal_values.specs.declared.value.Value.{Value}
use Rattle.hal_values.specs.Answers.{Answered, Block}
use Rattle.hal_values.specs.Loads.{Meaning, FitsNext}
use Rattle.hal_values.specs.Requests.{HasProcess}
use Rattle.exec_model.specs.declared.told.Told.{Told}
use Rattle.exec_model.specs.Drafts.{reply_answer}
use Rattle.exec_model.specs.Moments.{answers_in, pushed_answer}

-- the answer is for this process
abbrev pub is_for : ℕ → Told → Bool
is_for p given = given.process == p

-- the answer fits what its process asks, where that exists
abbrev pub FitOne : Meaning → List (List Answered) → Told → Type 0
FitOne q answers given = HasProcess q.tables given.process → FitsNext q given.process (answers_in answers given.process) (reply_answer given.reply)

-- each answer fits what its process then asks
abbrev pub FitTold : Meaning → List (List Answered) → List Told → Type 0
FitTold q answers [] = Unit {0}
FitTold q answers (given ∷ others) =
    FitOne q answers given
    × FitTold q (pushed_answer answers given.process (reply_answer given.reply)) others

-- the process that was told has room for one answer less, and no other for fewer than before
abbrev pub LowersFor : Told → List ℕ → List ℕ → Type 0
LowersFor given old new = (p : ℕ) → slice_index old p ≤ slice_index new p + (if is_for p given then 1 else 0)

-- no process is told more answers than this
abbrev pub TellsFew : ℕ → List Told → Type 0
TellsFew most told = (p : ℕ) → count_by (is_for p) told ≤ most

-- each process that exists has room for the answers that it is told
abbrev pub HasRoomFor : Tables → List ℕ → List Told → Type 0
HasRoomFor tables rooms told = (p : ℕ) → HasProcess tables p → count_by (is_for p) told ≤ slice_index rooms p

-- the answer to the UPDATE block that is done fits, where its process exists
abbrev pub FitClosed : Meaning → List Value → List (List Answered) → Option (ℕ × ℕ) → Type 0
FitClosed q store answers None = Unit {0}
FitClosed q store answers (Some done) = HasProcess q.tables done.0 → FitsNext q done.0 (answers_in answers done.0) (Block store done.1)

-- no process has room for fewer answers than before, but for one
abbrev pub LowersByOne : List ℕ → List ℕ → Type 0
LowersByOne old new = (p : ℕ) → slice_index old p ≤ slice_index new p + 1
