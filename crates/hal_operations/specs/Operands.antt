-- Which operands an operation takes, and which values a store.
use Rattle.std.specs.Prelude.{ℕ, ◌≤◌, ◌<◌, ◌^◌}
use Rattle.hal_values.specs.declared.value.Kind.{Kind}
use Rattle.hal_values.specs.declared.value.Kind.TheVariants as kind
use Rattle.hal_values.specs.declared.value.Value.{Value}
use Rattle.hal_values.specs.declared.value.Value.TheVariants as value
use Rattle.hal_operations.specs.declared.operation.Op1.{Op1}
use Rattle.hal_operations.specs.declared.operation.Op1.TheVariants as op1
use Rattle.hal_operations.specs.declared.operation.Op2.{Op2}
use Rattle.hal_operations.specs.declared.operation.Op2.TheVariants as op2

-- a string of 1 to 32 bits
abbrev pub IsString : ℕ → ℕ → Type 0
IsString len word = (1 ≤ len) × (len ≤ 32) × (word < 2 ^ len)

-- operations that take an integer
abbrev pub TakesInteger : Op1 → Type 0
TakesInteger op1.Minus = Unit {0}
TakesInteger op1.Abs = Unit {0}
TakesInteger op1.Signum = Unit {0}
TakesInteger op1.Odd = Unit {0}
TakesInteger op1.Character = Unit {0}
TakesInteger op1.Bit = Unit {0}
TakesInteger op = ⊥

-- operations that take a string of bits
abbrev pub TakesString : Op1 → Type 0
TakesString op1.Not = Unit {0}
TakesString op1.Character = Unit {0}
TakesString op1.Integer = Unit {0}
TakesString op = ⊥

-- operations that take a text
abbrev pub TakesText : Op1 → Type 0
TakesText op1.Length = Unit {0}
TakesText op1.Trim = Unit {0}
TakesText op1.Character = Unit {0}
TakesText op1.Integer = Unit {0}
TakesText op = ⊥

-- the operation takes the operand
abbrev pub Takes : Op1 → Value → Type 0
Takes op (value.Int a) = TakesInteger op
Takes op (value.Bits len word) = TakesString op × IsString len word
Takes op (value.Text text) = TakesText op

-- comparisons by order
abbrev pub IsOrder : Op2 → Type 0
IsOrder op2.Less = Unit {0}
IsOrder op2.Greater = Unit {0}
IsOrder op2.LessOrEqual = Unit {0}
IsOrder op2.GreaterOrEqual = Unit {0}
IsOrder op = ⊥

-- comparisons for equality
abbrev pub IsEquality : Op2 → Type 0
IsEquality op2.Equal = Unit {0}
IsEquality op2.NotEqual = Unit {0}
IsEquality op = ⊥

-- operations that take two integers
abbrev pub TakesIntegers : Op2 → Type 0
TakesIntegers op2.And = ⊥
TakesIntegers op2.Or = ⊥
TakesIntegers op2.Xor = ⊥
TakesIntegers op2.Cat = ⊥
TakesIntegers op2.Index = ⊥
TakesIntegers op2.Ljust = ⊥
TakesIntegers op2.Rjust = ⊥
TakesIntegers op = Unit {0}

-- operations that take two strings of bits
abbrev pub TakesStrings : Op2 → Type 0
TakesStrings op2.And = Unit {0}
TakesStrings op2.Or = Unit {0}
TakesStrings op2.Xor = Unit {0}
TakesStrings op2.Cat = Unit {0}
TakesStrings op = IsEquality op

-- operations that take two texts
abbrev pub TakesTexts : Op2 → Type 0
TakesTexts op2.Cat = Unit {0}
TakesTexts op2.Index = Unit {0}
TakesTexts op2.Equal = Unit {0}
TakesTexts op2.NotEqual = Unit {0}
TakesTexts op = IsOrder op

-- operations that take a text and an integer
abbrev pub TakesTextAndInteger : Op2 → Type 0
TakesTextAndInteger op2.Cat = Unit {0}
TakesTextAndInteger op2.Ljust = Unit {0}
TakesTextAndInteger op2.Rjust = Unit {0}
TakesTextAndInteger op = ⊥

-- operations that take an integer and a text
abbrev pub TakesIntegerAndText : Op2 → Type 0
TakesIntegerAndText op2.Cat = Unit {0}
TakesIntegerAndText op = ⊥

-- the operation takes the operands
abbrev pub TakesBoth : Op2 → Value → Value → Type 0
TakesBoth op (value.Int a) (value.Int b) = TakesIntegers op
TakesBoth op (value.Int a) (value.Bits len word) = ⊥
TakesBoth op (value.Int a) (value.Text y) = TakesIntegerAndText op
TakesBoth op (value.Bits len word) (value.Int b) = ⊥
TakesBoth op (value.Bits m x) (value.Bits n y) = TakesStrings op × IsString m x × IsString n y
TakesBoth op (value.Bits len word) (value.Text y) = ⊥
TakesBoth op (value.Text x) (value.Int b) = TakesTextAndInteger op
TakesBoth op (value.Text x) (value.Bits len word) = ⊥
TakesBoth op (value.Text x) (value.Text y) = TakesTexts op

-- a cell of the kind takes the value
abbrev pub IsStorable : Kind → Value → Type 0
IsStorable kind.Single (value.Int a) = Unit {0}
IsStorable kind.Double (value.Int a) = Unit {0}
IsStorable (kind.Bits n) (value.Bits len word) = (1 ≤ n) × (n ≤ 32) × IsString len word
IsStorable (kind.Text n) (value.Int a) = (1 ≤ n) × (n ≤ 255)
IsStorable (kind.Text n) (value.Text text) = (1 ≤ n) × (n ≤ 255)
IsStorable k v = ⊥

-- the value has components: it is a string of bits or a text
abbrev pub HasComponents : Value → Type 0
HasComponents (value.Int a) = ⊥
HasComponents (value.Bits len word) = IsString len word
HasComponents (value.Text text) = Unit {0}

-- a part of the value takes the other value
abbrev pub TakesPart : Value → Value → Type 0
TakesPart (value.Bits m x) (value.Bits n y) = IsString m x × IsString n y
TakesPart (value.Text x) (value.Int b) = Unit {0}
TakesPart (value.Text x) (value.Text y) = Unit {0}
TakesPart v w = ⊥
