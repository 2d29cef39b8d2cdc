-- Lists all of whose members are so.
use Rattle.std.specs.Prelude.{List, [], ◌∷◌}

-- each member is so
abbrev pub Each : {X : Type 0} → (X → Type 0) → List X → Type 0
Each P [] = Unit {0}
Each P (x ∷ xs) = P x × Each P xs
