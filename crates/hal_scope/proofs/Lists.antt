-- Lists that are empty, and tests that add nothing, as code has them.
use Rattle.std.proofs.Common.{rules, ◌≡◌, ◌==◌, Bool, true, false, ◌||◌, List, [], ◌∷◌, length, map, Option, Some, None, refl}
use Rattle.std.specs.Option.{option_or}
use Rattle.hal_scope.specs.Uses.{is_nil}

pub nil_seen : {X Y : Type 0} (f : X → Y) (xs : List X) → (length xs == 0) ≡ is_nil (map f xs)
unfolding is_nil
nil_seen f [] = search rules
nil_seen f (x ∷ xs) = search rules

pub or_false : (b : Bool) → (b || false) ≡ b
or_false true = refl
or_false false = refl

pub or_none : {X : Type 0} (x : Option X) → option_or x None ≡ x
or_none None = refl
or_none (Some v) = refl
