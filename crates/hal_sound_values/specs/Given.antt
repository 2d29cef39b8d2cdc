-- What kind of value an operation gives, of operands that it takes.
use Rattle.std.specs.Prelude.{ℕ, ◌+◌, max, min}
use Rattle.hal_values.specs.declared.value.Value.{Value}
use Rattle.hal_values.specs.declared.value.Value.TheVariants as value
use Rattle.hal_values.specs.Kinds.{IsInteger, IsBits, IsText}
use Rattle.hal_operations.specs.declared.operation.Op1.{Op1}
use Rattle.hal_operations.specs.declared.operation.Op1.TheVariants as op1
use Rattle.hal_operations.specs.declared.operation.Op2.{Op2}
use Rattle.hal_operations.specs.declared.operation.Op2.TheVariants as op2
use Rattle.hal_operations.specs.Texts.{text_room}

-- as many bits as the operand has
abbrev pub HasItsBits : Value → Value → Type 0
HasItsBits (value.Bits len word) w = IsBits len w
HasItsBits v w = ⊥

-- what an operation with one operand gives: an integer, bits, or a text
abbrev pub IsGivenByOne : Op1 → Value → Value → Type 0
IsGivenByOne op1.Minus v w = IsInteger w
IsGivenByOne op1.Abs v w = IsInteger w
IsGivenByOne op1.Signum v w = IsInteger w
IsGivenByOne op1.Odd v w = IsBits 1 w
IsGivenByOne op1.Not v w = HasItsBits v w
IsGivenByOne op1.Length v w = IsInteger w
IsGivenByOne op1.Trim v w = IsText text_room w
IsGivenByOne op1.Character v w = IsText text_room w
IsGivenByOne op1.Integer v w = IsInteger w
IsGivenByOne op1.Bit v w = IsBits 32 w

-- of strings of so many bits: as many as the longer one has, those of both but at most 32, or one
abbrev pub IsGivenByStrings : Op2 → ℕ → ℕ → Value → Type 0
IsGivenByStrings op2.And m n w = IsBits (max m n) w
IsGivenByStrings op2.Or m n w = IsBits (max m n) w
IsGivenByStrings op2.Xor m n w = IsBits (max m n) w
IsGivenByStrings op2.Cat m n w = IsBits (min 32 (m + n)) w
IsGivenByStrings op m n w = IsBits 1 w

-- of integers: an integer, or one bit where they are compared
abbrev pub IsGivenByIntegers : Op2 → Value → Type 0
IsGivenByIntegers op2.Equal w = IsBits 1 w
IsGivenByIntegers op2.NotEqual w = IsBits 1 w
IsGivenByIntegers op2.Less w = IsBits 1 w
IsGivenByIntegers op2.Greater w = IsBits 1 w
IsGivenByIntegers op2.LessOrEqual w = IsBits 1 w
IsGivenByIntegers op2.GreaterOrEqual w = IsBits 1 w
IsGivenByIntegers op w = IsInteger w

-- of texts: a text, an integer, or one bit where they are compared
abbrev pub IsGivenByTexts : Op2 → Value → Type 0
IsGivenByTexts op2.Cat w = IsText text_room w
IsGivenByTexts op2.Index w = IsInteger w
IsGivenByTexts op w = IsBits 1 w

-- what an operation with two operands gives; a text where an integer stands beside a text
abbrev pub IsGivenByTwo : Op2 → Value → Value → Value → Type 0
IsGivenByTwo op (value.Int a) (value.Int b) w = IsGivenByIntegers op w
IsGivenByTwo op (value.Bits m x) (value.Bits n y) w = IsGivenByStrings op m n w
IsGivenByTwo op (value.Text x) (value.Text y) w = IsGivenByTexts op w
IsGivenByTwo op (value.Text x) (value.Int b) w = IsText text_room w
IsGivenByTwo op (value.Int a) (value.Text y) w = IsText text_room w
IsGivenByTwo op v w x = ⊥
