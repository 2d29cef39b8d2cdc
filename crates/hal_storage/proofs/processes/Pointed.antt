-- Lists behind each other.
use Rattle.std.proofs.Common.{◌≡◌, List, [], ◌∷◌, ◌++◌, refl, ap}

pub behind : {X : Type 0} (xs : List X) (y : X) (zs : List X) → (xs ++ (y ∷ [])) ++ zs ≡ xs ++ (y ∷ zs)
behind [] y zs = refl
behind (x ∷ xs) y zs = ap (λ list. x ∷ list) (behind xs y zs)
