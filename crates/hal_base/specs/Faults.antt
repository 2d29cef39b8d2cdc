use Rattle.std.specs.Prelude.{ℕ, ◌+◌, ◌-◌, ◌^◌, ◌≤◌, min, Bool, List, Result, Ok, Err, ◌==◌}
use Rattle.std.specs.List.{list_any}

-- a count of 64 bits after one more; at its last value it stands still
abbrev pub risen : ℕ → ℕ
risen count = min (count + 1) (2 ^ 64 - 1)

-- the count rose; at its last value it counts as risen where it stands
abbrev pub Rose : ℕ → ℕ → Type 0
Rose before now = risen before ≤ now

-- a count that rises at each error
abbrev pub faults_after : {T E : Type 0} → ℕ → Result T E → ℕ
faults_after before (Ok _) = before
faults_after before (Err _) = risen before

-- the call is among the numbered ones
abbrev pub is_numbered : List ℕ → ℕ → Bool
is_numbered numbers call = list_any (λ number. number == call) numbers
