-- What holds of both branches of a choice holds of the choice.
use Rattle.std.proofs.Common.{Bool, true, false}
use Rattle.std.specs.Prelude.{if◌then◌else◌}

pub record Holds {X : Type 0} (P : X → Type 0) (x : X) : Type 0 where
  pub is : P x

pub so : {X : Type 0} {P : X → Type 0} {x : X} → P x → Holds P x
so is = record { is = is }

pub either : {X : Type 0} {P : X → Type 0} {x y : X} (b : Bool) → Holds P x → Holds P y → Holds P (if b then x else y)
either true first second = first
either false first second = second
