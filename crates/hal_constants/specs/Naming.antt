-- Which names are constants, and what built-in functions constant expressions may call.
use Rattle.std.specs.Prelude.{ℕ, ◌==◌, nat_le, nat_lt, length, Bool, true, false, ◌&&◌, ◌||◌, not, List, [], ◌∷◌, Option, Some, None, slice_get, if◌then◌else◌}
use Rattle.std.specs.Option.{option_and_then, is_some}
use Rattle.hal_grammar.specs.Leaves.{Naming, LiteralValue, Integer, Text, Bits, True, False, On, Off}
use Rattle.hal_grammar.specs.Declarations.{Attribute, Declared}
use Rattle.hal_phrases.specs.Phrases.{Node, Phrase, OfItem}
use Rattle.hal_names.specs.Means.{is_compool_unit, means}
use Rattle.hal_scope.specs.declared.builtin.Builtin.{Builtin}
use Rattle.hal_scope.specs.declared.builtin.Builtin.TheVariants as builtin
use Rattle.hal_scope.specs.Builtins.{builtin_named}
use Rattle.hal_scope.specs.Sorts.{type_of}
use Rattle.hal_scope.specs.Uses.{is_nil}
use Rattle.hal_kinds.specs.Attributes.{constant_of, sizes_of}
use Rattle.hal_kinds.specs.Data.{is_structure_type}
use Rattle.hal_values.specs.declared.value.Value.{Value}
use Rattle.hal_values.specs.declared.value.Value.TheVariants as value
use Rattle.hal_operations.specs.declared.operation.Op1.TheVariants as op1
use Rattle.hal_operations.specs.declared.operation.Op2.TheVariants as op2
use Rattle.hal_constants.specs.declared.constant.Constant.{Constant}
use Rattle.hal_constants.specs.declared.constant.Constant.TheVariants as constant
use Rattle.hal_constants.specs.Results.{whole}
use Rattle.hal_constants.specs.declared.operation.Operation.{Operation}
use Rattle.hal_constants.specs.declared.operation.Operation.TheVariants as operation

-- whether a name is a constant that is its value: it has no array and is no structure
abbrev pub is_value_item : List Attribute → Declared → Bool
is_value_item common item = is_some (constant_of common item) && (not (is_some (sizes_of common item)) && not (is_structure_type (type_of common item)))

-- whether the phrase with this number is a COMPOOL's unit
abbrev pub is_compool_at : List Phrase → ℕ → Bool
is_compool_at ps k = elim (slice_get ps k) [ None ↦ false | Some p ↦ is_compool_unit p.node ]

-- whether what one phrase declares stands before another one: in the text, or in the COMPOOL of another unit, whose template stands before
abbrev pub is_before : List Phrase → Phrase → Phrase → Bool
is_before ps p q = nat_lt q.number p.number || (is_compool_at ps q.around.home && not (q.around.home == p.around.home))

-- the value that is known of a phrase
abbrev pub value_at : List (Option Value) → ℕ → Option Value
value_at vs k = elim (slice_get vs k) [ None ↦ None | Some v ↦ v ]

unfoldable pub constant_known : Option Value → Constant
constant_known None = constant.Open
constant_known (Some v) = constant.Worth v

-- the constant that one phrase declares, in another one
unfoldable pub constant_at : List Phrase → List (Option Value) → Phrase → Phrase → List Naming → Node → Constant
constant_at ps vs p q path (OfItem common item) =
    if is_nil path && (is_value_item common item && is_before ps p q) then constant_known (value_at vs q.number) else constant.Open
constant_at ps vs p q path other = constant.Open

-- a name that isn't declared: a built-in function is no constant
abbrev pub undeclared : List ℕ → Constant
undeclared name = if is_some (builtin_named name) then constant.Open else constant.Unfit

-- a name with a path, in this phrase
abbrev pub constant_named : List Phrase → List (Option Value) → Phrase → List ℕ → List Naming → Constant
constant_named ps vs p name path =
    elim (means ps p.around.block name) [
      | None ↦ undeclared name
      | Some k ↦ elim (slice_get ps k) [ None ↦ constant.Unfit | Some q ↦ constant_at ps vs p q path q.node ]
    ]

-- a text, unless it is too long
abbrev pub literal_text : List ℕ → Constant
literal_text text = if nat_le (length text) 255 then constant.Worth (value.Text text) else constant.Failed

-- a literal
unfoldable pub literal_constant : LiteralValue → Constant
literal_constant (Integer number) = whole number
literal_constant (Text text) = literal_text text
literal_constant (Bits len bits) = constant.Worth (value.Bits len bits)
literal_constant True = constant.Worth (value.Bits 1 1)
literal_constant On = constant.Worth (value.Bits 1 1)
literal_constant False = constant.Worth (value.Bits 1 0)
literal_constant Off = constant.Worth (value.Bits 1 0)

-- what a built-in function computes; SIZE asks for no value
unfoldable pub operation_of : Builtin → Operation
operation_of builtin.Abs = operation.One op1.Abs
operation_of builtin.Signum = operation.One op1.Signum
operation_of builtin.Odd = operation.One op1.Odd
operation_of builtin.Length = operation.One op1.Length
operation_of builtin.Trim = operation.One op1.Trim
operation_of builtin.Div = operation.Two op2.Div
operation_of builtin.Mod = operation.Two op2.Mod
operation_of builtin.Remainder = operation.Two op2.Remainder
operation_of builtin.Shl = operation.Two op2.Shl
operation_of builtin.Shr = operation.Two op2.Shr
operation_of builtin.Index = operation.Two op2.Index
operation_of builtin.Ljust = operation.Two op2.Ljust
operation_of builtin.Rjust = operation.Two op2.Rjust
operation_of builtin.Xor = operation.Two op2.Xor
operation_of builtin.Size = operation.Size
operation_of other = operation.Nothing

-- the operation that a name stands for which isn't declared
abbrev pub operation_named : List ℕ → Operation
operation_named name = elim (builtin_named name) [ None ↦ operation.Nothing | Some b ↦ operation_of b ]
