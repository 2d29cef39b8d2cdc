-- Cells without values.
use Rattle.std.proofs.Common.{◌≡◌, ℕ, List, [], ◌∷◌, refl}
use Rattle.hal_values.specs.declared.value.Kind.{Kind}
use Rattle.hal_meaning.specs.Places.{cells_from}

pub none_left : (group : ℕ) (ks : List Kind) → cells_from group ks [] ≡ []
none_left group [] = refl
none_left group (k ∷ ks) = refl
