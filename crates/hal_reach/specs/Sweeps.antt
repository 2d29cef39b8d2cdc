-- Marks that are found one after another.
use Rattle.std.specs.Prelude.{◌≡◌, ◌<◌, ℕ, suc, Bool, true, false, List, [], ◌∷◌, Some, length, slice_get}
use Rattle.std.specs.List.{list_any}
use Rattle.hal_reach.specs.Marks.{Unit, is_marked, rounds, themselves}

-- how many units are marked
abbrev pub count : List Bool → ℕ
count [] = 0
count (true ∷ marks) = suc (count marks)
count (false ∷ marks) = count marks

-- units that are one of these blocks are marked, and each marked one reaches one of them by no more calls than units are marked
pub record AreFound (units : List Unit) (blocks : List ℕ) (marked : List Bool) : Type 0 where
  pub many : length marked ≡ length units
  pub begun : (k : ℕ) → is_marked (themselves units blocks) k ≡ true → is_marked marked k ≡ true
  pub reached : (k : ℕ) → is_marked marked k ≡ true → is_marked (rounds (count marked) units blocks (themselves units blocks)) k ≡ true

-- each of the first units that calls a marked one is marked
abbrev pub AreClosed : List Unit → List Bool → ℕ → Type 0
AreClosed units marked n = (k : ℕ) (u : Unit) → k < n → slice_get units k ≡ Some u → list_any (is_marked marked) u.callees ≡ true → is_marked marked k ≡ true

-- marks after the first units were looked at: more are marked than before, or all are as they were and these units are closed
abbrev pub AreSwept : Bool → List Unit → List Bool → List Bool → ℕ → Type 0
AreSwept true units old new n = count old < count new
AreSwept false units old new n = (new ≡ old) × AreClosed units old n
