-- What a contract sees of the error environments of a process.
use Rattle.std.specs.Prelude.{ℕ, ◌+◌, List, [], ◌∷◌, length}
use Rattle.hal_values.specs.declared.environment.Entry.{Entry}
use Rattle.hal_values.specs.Searching.{Entered, entered}

-- the blocks that are entered, the latest first; for how many blocks there is room, and for how many entries of all blocks together
pub record Environment : Type 0 where
  pub entered : List Entered
  pub blocks : ℕ
  pub entries : ℕ

abbrev pub environment : List Entered → ℕ → ℕ → Environment
environment all blocks entries = record { entered = all; blocks = blocks; entries = entries }

-- how many entries blocks have together
abbrev pub entry_count : List Entered → ℕ
entry_count [] = 0
entry_count (b ∷ bs) = length b.entries + entry_count bs

-- the latest block has other entries
abbrev pub with_latest : (List Entry → List Entry) → List Entered → List Entered
with_latest change [] = []
with_latest change (b ∷ bs) = entered (change b.entries) b.update ∷ bs
