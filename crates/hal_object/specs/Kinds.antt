-- Kinds, initial values, shared cells and own places as bytes.
use Rattle.std.specs.Prelude.{◌≡◌, ℕ, ◌<◌, ◌^◌, List, [], ◌∷◌, ◌++◌, length, FitsSigned}
use Rattle.std.specs.Int.{w32}
use Rattle.hal_values.specs.declared.tables.Cell.{Cell}
use Rattle.hal_values.specs.declared.value.Kind.{Kind}
use Rattle.hal_values.specs.declared.value.Kind.TheVariants as kind
use Rattle.hal_values.specs.declared.value.Value.{Value}
use Rattle.hal_values.specs.declared.value.Value.TheVariants as value
use Rattle.hal_code.specs.declared.row.OwnPlace.{OwnPlace}
use Rattle.hal_code.specs.declared.row.OwnPlace.TheVariants as place
use Rattle.hal_object.specs.Numbers.{in_four, integer_bytes, text_bytes}

-- a kind is two bytes
abbrev pub kind_bytes : Kind → List ℕ
kind_bytes kind.Single = 1 ∷ 0 ∷ []
kind_bytes kind.Double = 2 ∷ 0 ∷ []
kind_bytes (kind.Bits n) = 3 ∷ n ∷ []
kind_bytes (kind.Text n) = 4 ∷ n ∷ []

abbrev pub FitsKind : Kind → Type 0
FitsKind kind.Single = Unit {0}
FitsKind kind.Double = Unit {0}
FitsKind (kind.Bits n) = n < 2 ^ 8
FitsKind (kind.Text n) = n < 2 ^ 8

-- an initial value stands without its kind, and of bits the length stands in the kind alone
abbrev pub value_bytes : Value → List ℕ
value_bytes (value.Int number) = integer_bytes number
value_bytes (value.Bits len word) = in_four word
value_bytes (value.Text text) = text_bytes text

-- an initial value has the form of its kind
abbrev pub FitsValue : Kind → Value → Type 0
FitsValue kind.Single (value.Int number) = FitsSigned w32 number
FitsValue kind.Double (value.Int number) = FitsSigned w32 number
FitsValue (kind.Bits n) (value.Bits len word) = (len ≡ n) × (word < 2 ^ 32)
FitsValue (kind.Text n) (value.Text text) = length text < 2 ^ 8
FitsValue k v = ⊥

abbrev pub cell_bytes : Cell → List ℕ
cell_bytes cell = kind_bytes cell.kind ++ (cell.group ∷ value_bytes cell.initial)

abbrev pub FitsCell : Cell → Type 0
FitsCell cell = FitsKind cell.kind × ((cell.group < 2 ^ 8) × FitsValue cell.kind cell.initial)

-- of own places 5 stands for a reference, with the number of its shape
abbrev pub place_bytes : OwnPlace → List ℕ
place_bytes (place.Data k initial) = kind_bytes k ++ value_bytes initial
place_bytes (place.Reference shape) = 5 ∷ 0 ∷ in_four shape

abbrev pub FitsPlace : OwnPlace → Type 0
FitsPlace (place.Data k initial) = FitsKind k × FitsValue k initial
FitsPlace (place.Reference shape) = shape < 2 ^ 32
