-- Bytes that choose, each with the number that stands for what it chooses. A byte with no number here is kept as it stands.
use Rattle.std.specs.Prelude.{ℕ, ◌<◌, ◌≤◌, ◌^◌, Bool, true, false, List, [], ◌∷◌}
use Rattle.hal_values.specs.declared.tables.EventStart.{EventStart}
use Rattle.hal_values.specs.declared.tables.EventStart.TheVariants as start
use Rattle.hal_operations.specs.declared.operation.Op1.{Op1}
use Rattle.hal_operations.specs.declared.operation.Op1.TheVariants as op1
use Rattle.hal_operations.specs.declared.operation.Op2.{Op2}
use Rattle.hal_operations.specs.declared.operation.Op2.TheVariants as op2
use Rattle.hal_code.specs.declared.choice.Choice.{Choice}
use Rattle.hal_code.specs.declared.choice.Choice.TheVariants as choice
use Rattle.hal_code.specs.declared.operand.EventChange.{EventChange}
use Rattle.hal_code.specs.declared.operand.EventChange.TheVariants as change
use Rattle.hal_code.specs.declared.operand.Places.{Places}
use Rattle.hal_code.specs.declared.operand.Places.TheVariants as places
use Rattle.hal_code.specs.declared.operand.Response.{Response}
use Rattle.hal_code.specs.declared.operand.Response.TheVariants as response
use Rattle.hal_code.specs.declared.row.ResultKind.{ResultKind}
use Rattle.hal_code.specs.declared.row.ResultKind.TheVariants as result

-- the byte of a choice
abbrev pub choice_byte : {A : Type 0} → (A → ℕ) → Choice A → ℕ
choice_byte code (choice.Known a) = code a
choice_byte code (choice.Other byte) = byte

abbrev pub choice_bytes : {A : Type 0} → (A → ℕ) → Choice A → List ℕ
choice_bytes code c = choice_byte code c ∷ []

-- a byte that chooses nothing is none of the numbers below the count
abbrev pub FitsChoice : {A : Type 0} → ℕ → Choice A → Type 0
FitsChoice count (choice.Known a) = Unit {0}
FitsChoice count (choice.Other byte) = (count ≤ byte) × (byte < 2 ^ 8)

abbrev pub start_code : EventStart → ℕ
start_code start.Unlatched = 0
start_code (start.Latched false) = 1
start_code (start.Latched true) = 2

abbrev pub result_code : ResultKind → ℕ
result_code result.Nothing = 0
result_code result.Integer = 1
result_code result.Bits = 2
result_code result.Text = 3

abbrev pub places_code : Places → ℕ
places_code places.One = 0
places_code places.To = 1
places_code places.At = 2

abbrev pub response_code : Response → ℕ
response_code response.System = 0
response_code response.Ignore = 1
response_code response.Statement = 2

abbrev pub change_code : EventChange → ℕ
change_code change.Nothing = 0
change_code change.Signal = 1
change_code change.Set = 2
change_code change.Reset = 3

abbrev pub flag_code : Bool → ℕ
flag_code false = 0
flag_code true = 1

abbrev pub op1_code : Op1 → ℕ
op1_code op1.Minus = 0
op1_code op1.Abs = 1
op1_code op1.Signum = 2
op1_code op1.Odd = 3
op1_code op1.Not = 4
op1_code op1.Length = 5
op1_code op1.Trim = 6
op1_code op1.Character = 7
op1_code op1.Integer = 8
op1_code op1.Bit = 9

abbrev pub op2_code : Op2 → ℕ
op2_code op2.Plus = 0
op2_code op2.Minus = 1
op2_code op2.Product = 2
op2_code op2.Power = 3
op2_code op2.Div = 4
op2_code op2.Remainder = 5
op2_code op2.Mod = 6
op2_code op2.Shl = 7
op2_code op2.Shr = 8
op2_code op2.And = 9
op2_code op2.Or = 10
op2_code op2.Xor = 11
op2_code op2.Cat = 12
op2_code op2.Equal = 13
op2_code op2.NotEqual = 14
op2_code op2.Less = 15
op2_code op2.Greater = 16
op2_code op2.LessOrEqual = 17
op2_code op2.GreaterOrEqual = 18
op2_code op2.Index = 19
op2_code op2.Ljust = 20
op2_code op2.Rjust = 21
