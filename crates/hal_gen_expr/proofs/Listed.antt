-- Lists that are seen one after another.
use Rattle.std.specs.Prelude.{List, [], ◌++◌, map}
use Rattle.std.proofs.Common.{◌≡◌, refl}
use Rattle.std.proofs.lemmas.List.{map-append}

pub both_mapped : {X Y : Type 0} (f : X → Y) (xs ys : List X) → map f (xs ++ ys) ≡ map f xs ++ map f ys
both_mapped f xs ys = map-append f xs ys

pub nothing_before : {X : Type 0} (xs : List X) → [] ++ xs ≡ xs
nothing_before xs = refl
