-- The lock groups of UPDATE blocks, by the marks of a unit.
use Rattle.std.specs.Prelude.{ℕ, zero, suc, List, [], ◌∷◌, None, Some, map, slice_get, unwrap_or}
use Rattle.std.proofs.Common.{◌≡◌, refl}
use Rattle.hal_phrases.specs.Phrases.{Phrase}
use Rattle.hal_constants.specs.Known.{Known}
use Rattle.hal_meaning.specs.LockGroups.{groups_of}
use Rattle.hal_lock_groups.specs.Gathering.{bits_for}
use Rattle.hal_lock_groups.specs.Updates.{AreGroups}

pub all_locked : (ps : List Phrase) (vs : Known) (groups : List ℕ) → AreGroups ps vs groups → (marks : List ℕ) (m : ℕ)
    → unwrap_or (slice_get (map (bits_for groups) marks) m) 0 ≡ (elim (slice_get marks m) [ None ↦ 0 | Some u ↦ groups_of ps vs u ])
all_locked ps vs groups are [] m = refl
all_locked ps vs groups are (u ∷ marks) zero = are u
all_locked ps vs groups are (u ∷ marks) (suc m) = all_locked ps vs groups are marks m
