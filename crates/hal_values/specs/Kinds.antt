-- When a value is of a kind. The bits of a string beyond its length are zeros.
use Rattle.std.specs.Prelude.{◌≡◌, ℕ, ◌<◌, ◌≤◌, ◌^◌, length, pos, negsuc, ◌≤ℤ◌}
use Rattle.hal_values.specs.declared.value.Kind.{Kind}
use Rattle.hal_values.specs.declared.value.Kind.TheVariants as kind
use Rattle.hal_values.specs.declared.value.Value.{Value}
use Rattle.hal_values.specs.declared.value.Value.TheVariants as value

-- the kind's number of bits or bytes is one that a declaration can have
abbrev pub IsKind : Kind → Type 0
IsKind kind.Single = Unit {0}
IsKind kind.Double = Unit {0}
IsKind (kind.Bits n) = (1 ≤ n) × (n ≤ 32)
IsKind (kind.Text n) = (1 ≤ n) × (n ≤ 255)

-- the value is an integer, which has 32 bits
abbrev pub IsInteger : Value → Type 0
IsInteger (value.Int number) = (negsuc 2147483647 ≤ℤ number) × (number ≤ℤ pos 2147483647)
IsInteger (value.Bits len word) = ⊥
IsInteger (value.Text bytes) = ⊥

-- the value is an integer of 16 bits
abbrev pub IsSingle : Value → Type 0
IsSingle (value.Int number) = (negsuc 32767 ≤ℤ number) × (number ≤ℤ pos 32767)
IsSingle (value.Bits len word) = ⊥
IsSingle (value.Text bytes) = ⊥

-- the value is a string of n bits
abbrev pub IsBits : ℕ → Value → Type 0
IsBits n (value.Int number) = ⊥
IsBits n (value.Bits len word) = (len ≡ n) × (word < 2 ^ n)
IsBits n (value.Text bytes) = ⊥

-- the value is a text of at most n bytes
abbrev pub IsText : ℕ → Value → Type 0
IsText n (value.Int number) = ⊥
IsText n (value.Bits len word) = ⊥
IsText n (value.Text bytes) = length bytes ≤ n

-- the value is of the kind
abbrev pub IsOfKind : Kind → Value → Type 0
IsOfKind kind.Single v = IsSingle v
IsOfKind kind.Double v = IsInteger v
IsOfKind (kind.Bits n) v = IsBits n v
IsOfKind (kind.Text n) v = IsText n v

-- the value is a datum for a receiver of the kind: an integer, 1 to 32 bits or a text, as the kind is
abbrev pub IsDatum : Kind → Value → Type 0
IsDatum kind.Single v = IsInteger v
IsDatum kind.Double v = IsInteger v
IsDatum (kind.Bits n) v = (m : ℕ) × (1 ≤ m) × (m ≤ 32) × IsBits m v
IsDatum (kind.Text n) v = IsText 255 v
