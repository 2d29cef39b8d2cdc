-- Which values are right, and what a part keeps of the value that it is of.
use Rattle.std.specs.Prelude.{◌≡◌, ◌≤◌, length}
use Rattle.hal_values.specs.declared.value.Value.{Value}
use Rattle.hal_values.specs.declared.value.Value.TheVariants as value
use Rattle.hal_values.specs.Kinds.{IsInteger}
use Rattle.hal_operations.specs.declared.part.Part.{Part}
use Rattle.hal_operations.specs.Laws.{part_size}
use Rattle.hal_operations.specs.Operands.{IsString}
use Rattle.hal_operations.specs.Parts.{place_count}
use Rattle.hal_operations.specs.Texts.{text_room}

-- a value that variables and expressions can have: an integer of 32 bits, a string of 1 to 32 bits, whose word lies within them, or a
-- text of at most 255 bytes
abbrev pub IsRight : Value → Type 0
IsRight (value.Int number) = IsInteger (value.Int number)
IsRight (value.Bits len word) = IsString len word
IsRight (value.Text text) = length text ≤ text_room

-- two integers, two strings of bits, or two texts
abbrev pub AreAlike : Value → Value → Type 0
AreAlike (value.Int a) (value.Int b) = Unit {0}
AreAlike (value.Bits m x) (value.Bits n y) = Unit {0}
AreAlike (value.Text x) (value.Text y) = Unit {0}
AreAlike v w = ⊥

-- a right value of the same sort
pub record IsAlso (v w : Value) : Type 0 where
  pub right : IsRight w
  pub alike : AreAlike v w

-- such a value with as many places as the part chooses; an integer has none, and is left as it is
abbrev pub IsPart : Part → Value → Value → Type 0
IsPart part (value.Int a) w = w ≡ value.Int a
IsPart part (value.Bits len word) w = IsAlso (value.Bits len word) w × (place_count w ≡ part_size part)
IsPart part (value.Text text) w = IsAlso (value.Text text) w × (place_count w ≡ part_size part)
