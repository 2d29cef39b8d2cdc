-- The leaves of the trees.
use Rattle.std.specs.Prelude.{ℕ, List, [], ◌∷◌, max, Option, Some, None}
use Rattle.hal_base.specs.declared.refusal.Place.{Place}

-- a name where it stands
pub record Naming : Type 0 where
  pub place : Place
  pub name : List ℕ

-- this name at this place
abbrev pub naming : Place → List ℕ → Naming
naming p n = record { place = p; name = n }

-- the sign of a term: plus, minus
pub data Sign : Type 0 where
  Plus Minus : Sign

-- how two values are compared
pub data Relation : Type 0 where
  Equal Less Greater AtMost AtLeast NotEqual NotLess NotGreater : Relation

-- what a conversion makes: INTEGER, BIT, CHARACTER
pub data Conversion : Type 0 where
  ToInteger ToBits ToText : Conversion

-- an integer, a text, bits, or one of the words TRUE, FALSE, ON and OFF
pub data LiteralValue : Type 0 where
  Integer : (number : ℕ) → LiteralValue
  Text : (text : List ℕ) → LiteralValue
  Bits : (len bits : ℕ) → LiteralValue
  True False On Off : LiteralValue

-- the most that a list's members count
abbrev pub most : {X : Type 0} → (X → ℕ) → List X → ℕ
most count [] = 0
most count (x ∷ xs) = max (count x) (most count xs)

-- what an optional part counts
abbrev pub if_any : {X : Type 0} → (X → ℕ) → Option X → ℕ
if_any count None = 0
if_any count (Some x) = count x
