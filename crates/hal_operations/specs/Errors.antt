-- The errors that operations raise, and what a call comes to.
use Rattle.std.specs.Prelude.{Result, Ok, Err}
use Rattle.hal_values.specs.declared.environment.ErrNo.{ErrNo}
use Rattle.hal_values.specs.declared.value.Value.{Value}
use Rattle.hal_values.specs.Answers.{error}

-- an integer is outside its range
abbrev pub range_error : ErrNo
range_error = error 1 1

-- a division by zero
abbrev pub zero_divisor : ErrNo
zero_divisor = error 1 2

-- a component subscript is out of range
abbrev pub no_place : ErrNo
no_place = error 1 4

-- a text isn't an integer
abbrev pub no_integer : ErrNo
no_integer = error 1 5

-- the value, or after an ignored error the one that stands in its place
abbrev pub after_ignored : Result Value ErrNo → Value → Value
after_ignored (Ok value) mended = value
after_ignored (Err e) mended = mended
