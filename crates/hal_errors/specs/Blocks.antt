-- How blocks are seen whose entries lie one after another.
use Rattle.std.specs.Prelude.{◌≡◌, ◌≤◌, ℕ, List, [], ◌∷◌, take, drop}
use Rattle.hal_values.specs.declared.environment.Entry.{Entry}
use Rattle.hal_values.specs.Searching.{Entered, entered}
use Rattle.hal_errors.specs.declared.block.Block.{Block}

-- blocks, the latest first, with their entries of these
abbrev pub blocks_seen : List Block → List Entry → List Entered
blocks_seen [] entries = []
blocks_seen (b ∷ bs) entries = entered (drop b.first entries) b.update ∷ blocks_seen bs (take b.first entries)

-- the entries of blocks, the latest first, lie one after another and are so many
abbrev pub AreRuns : List Block → ℕ → Type 0
AreRuns [] count = count ≡ 0
AreRuns (b ∷ bs) count = (b.first ≤ count) × AreRuns bs b.first

-- where the entries of the latest block begin
abbrev pub first_latest : List Block → ℕ
first_latest [] = 0
first_latest (b ∷ bs) = b.first
