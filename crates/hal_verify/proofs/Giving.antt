-- No operation takes an address.
use Rattle.std.specs.Prelude.{◌≡◌, ℕ, None}
use Rattle.std.proofs.Common.{refl}
use Rattle.hal_values.specs.declared.value.Kind.{Kind}
use Rattle.hal_operations.specs.declared.operation.Op1.{Op1}
use Rattle.hal_operations.specs.declared.operation.Op1.TheVariants as op1
use Rattle.hal_code.specs.Sorts.{A, R, one_gives}

pub one_of_address : (op : Op1) (k : Kind) → one_gives op (A k) ≡ None
one_of_address op1.Minus k = refl
one_of_address op1.Abs k = refl
one_of_address op1.Signum k = refl
one_of_address op1.Odd k = refl
one_of_address op1.Not k = refl
one_of_address op1.Length k = refl
one_of_address op1.Trim k = refl
one_of_address op1.Character k = refl
one_of_address op1.Integer k = refl
one_of_address op1.Bit k = refl

pub one_of_area : (op : Op1) (shape : ℕ) → one_gives op (R shape) ≡ None
one_of_area op1.Minus shape = refl
one_of_area op1.Abs shape = refl
one_of_area op1.Signum shape = refl
one_of_area op1.Odd shape = refl
one_of_area op1.Not shape = refl
one_of_area op1.Length shape = refl
one_of_area op1.Trim shape = refl
one_of_area op1.Character shape = refl
one_of_area op1.Integer shape = refl
one_of_area op1.Bit shape = refl
