-- How a text is kept in a room of so many bytes.
use Rattle.std.specs.Prelude.{◌≡◌, ℕ, ◌-◌, ◌≤◌, List, ◌++◌, length, take, replicate}
use Rattle.std.proofs.Common.{ap, ◌∙◌, sym}

-- a text, filled up with zeros to the room
abbrev pub filled : ℕ → List ℕ → List ℕ
filled room text = text ++ replicate (room - length text) 0

-- the first `len` bytes are a text, and the room's other bytes are zeros
pub record IsKept (room len : ℕ) (bytes : List ℕ) : Type 0 where
  pub within : len ≤ room
  pub exact : length (take len bytes) ≡ len
  pub zeros : bytes ≡ filled room (take len bytes)

-- so bytes and length can be told from the text
pub restored : {X : Type 0} (room : ℕ) (make : List ℕ → ℕ → X) (len : ℕ) (bytes : List ℕ) → IsKept room len bytes → make (filled room (take len bytes)) (length (take len bytes)) ≡ make bytes len
restored room make len bytes kept = ap (λ b. make b (length (take len bytes))) (sym kept.zeros) ∙ ap (λ n. make bytes n) kept.exact
