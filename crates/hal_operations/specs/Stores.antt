-- What a cell holds after a value was stored in it. A value that the cell doesn't take is left as it is; no call asks for that.
use Rattle.std.specs.Prelude.{ℕ, ℤ, List, take, Result, Ok}
use Rattle.std.specs.Fmt.{signed_decimal}
use Rattle.hal_values.specs.declared.environment.ErrNo.{ErrNo}
use Rattle.hal_values.specs.declared.value.Kind.{Kind}
use Rattle.hal_values.specs.declared.value.Kind.TheVariants as kind
use Rattle.hal_values.specs.declared.value.Value.{Value}
use Rattle.hal_values.specs.declared.value.Value.TheVariants as value
use Rattle.hal_operations.specs.Errors.{after_ignored}
use Rattle.hal_operations.specs.Integers.{single, integer, ranged, nearest}
use Rattle.hal_operations.specs.Strings.{bits_of, string, fitted_string}

-- an integer
abbrev pub stored_integer : Kind → ℤ → Result Value ErrNo
stored_integer kind.Single a = integer (ranged single a)
stored_integer kind.Double a = Ok (value.Int a)
stored_integer (kind.Bits n) a = Ok (value.Int a)
stored_integer (kind.Text n) a = Ok (value.Text (take n (signed_decimal a)))

-- a string of bits: its last n, or zeros on its left
abbrev pub stored_string : Kind → ℕ → ℕ → Result Value ErrNo
stored_string (kind.Bits n) len word = Ok (string (fitted_string n (bits_of len word)))
stored_string k len word = Ok (value.Bits len word)

-- a text: its first n bytes
abbrev pub stored_text : Kind → List ℕ → Result Value ErrNo
stored_text (kind.Text n) text = Ok (value.Text (take n text))
stored_text k text = Ok (value.Text text)

-- what a cell of the kind holds then, or the error of an integer that a SINGLE can't hold
abbrev pub stored : Kind → Value → Result Value ErrNo
stored k (value.Int a) = stored_integer k a
stored k (value.Bits len word) = stored_string k len word
stored k (value.Text text) = stored_text k text

-- the nearest integer that a SINGLE can hold
abbrev pub nearest_single : Value → Value
nearest_single (value.Int a) = value.Int (nearest single a)
nearest_single v = v

-- the same after an ignored error
abbrev pub mended_store : Kind → Value → Value
mended_store k v = after_ignored (stored k v) (nearest_single v)
