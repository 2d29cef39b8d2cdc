-- What operations give of constants.
use Rattle.std.specs.Prelude.{ℕ, nat_le, ℤ, pos, Bool, true, false, Result, Ok, Err, if◌then◌else◌}
use Rattle.hal_values.specs.declared.environment.ErrNo.{ErrNo}
use Rattle.hal_values.specs.declared.value.Value.{Value}
use Rattle.hal_values.specs.declared.value.Value.TheVariants as value
use Rattle.hal_operations.specs.declared.operation.Op1.{Op1}
use Rattle.hal_operations.specs.declared.operation.Op2.{Op2}
use Rattle.hal_operations.specs.declared.part.Part.{Part}
use Rattle.hal_operations.specs.declared.part.Part.TheVariants as part
use Rattle.hal_operations.specs.Values.{value_of_one, value_of_two}
use Rattle.hal_operations.specs.Parts.{picked, place_count}
use Rattle.hal_constants.specs.declared.constant.Constant.{Constant}
use Rattle.hal_constants.specs.declared.constant.Constant.TheVariants as constant
use Rattle.hal_constants.specs.Operands.{takes_one, takes_two, has_components}

-- a value, or an error
unfoldable pub worth : Result Value ErrNo → Constant
worth (Ok v) = constant.Worth v
worth (Err e) = constant.Failed

-- of two constants that aren't both values, what their result is: first of all no constant, then none because of a wrong operand, then an error
unfoldable pub worse : Constant → Constant → Constant
worse constant.Open d = constant.Open
worse c constant.Open = constant.Open
worse constant.Unfit d = constant.Unfit
worse c constant.Unfit = constant.Unfit
worse c d = constant.Failed

-- an operation with one operand
unfoldable pub apply_one : Op1 → Constant → Constant
apply_one op (constant.Worth v) = if takes_one op v then worth (value_of_one op v) else constant.Unfit
apply_one op other = other

-- an operation with two operands
unfoldable pub apply_two : Op2 → Constant → Constant → Constant
apply_two op (constant.Worth v) (constant.Worth w) = if takes_two op v w then worth (value_of_two op v w) else constant.Unfit
apply_two op c d = worse c d

-- an integer, unless it is too great
abbrev pub whole : ℕ → Constant
whole n = if nat_le n 2147483647 then constant.Worth (value.Int (pos n)) else constant.Failed

-- a component, where the value has some
abbrev pub component : Value → Part → Constant
component v p = if has_components v then worth (picked v p) else constant.Unfit

-- one place of a value
unfoldable pub component_at : Value → Value → Constant
component_at v (value.Int i) = component v (part.One i)
component_at v other = constant.Unfit

-- places from one to another
unfoldable pub component_to : Value → Value → Value → Constant
component_to v (value.Int i) (value.Int j) = component v (part.To i j)
component_to v one other = constant.Unfit

-- so many places from one on
unfoldable pub component_from : Value → Value → Value → Constant
component_from v (value.Int n) (value.Int i) = component v (part.At n i)
component_from v one other = constant.Unfit

unfoldable pub picked_one : Value → Constant → Constant
picked_one v (constant.Worth i) = component_at v i
picked_one v other = other

unfoldable pub picked_to : Value → Constant → Constant → Constant
picked_to v (constant.Worth i) (constant.Worth j) = component_to v i j
picked_to v c d = worse c d

unfoldable pub picked_from : Value → Constant → Constant → Constant
picked_from v (constant.Worth n) (constant.Worth i) = component_from v n i
picked_from v c d = worse c d

-- all places
abbrev pub picked_all : Value → Constant
picked_all v = component v (part.To (pos 1) (pos (place_count v)))
