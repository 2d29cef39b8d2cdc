-- Options whose value is seen.
use Rattle.std.proofs.Common.{◌≡◌, Option, Some, None, refl}
use Rattle.std.specs.Option.{option_map, is_some}

pub some_mapped : {X Y : Type 0} (f : X → Y) (x : Option X) → is_some (option_map f x) ≡ is_some x
some_mapped f None = refl
some_mapped f (Some v) = refl
