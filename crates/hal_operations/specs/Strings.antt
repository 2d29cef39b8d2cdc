-- Strings of bits as lists of bits, the leftmost first.
use Rattle.std.specs.Prelude.{ℕ, zero, suc, ◌+◌, ◌-◌, ◌/◌, ◌%◌, ◌^◌, ◌==◌, Bool, true, false, not, ◌&&◌, List, [], ◌∷◌, ◌++◌, length, drop, replicate, if◌then◌else◌}
use Rattle.hal_values.specs.declared.value.Value.{Value}
use Rattle.hal_values.specs.declared.value.Value.TheVariants as value

-- the last bits of a word
abbrev pub bits_of : ℕ → ℕ → List Bool
bits_of zero word = []
bits_of (suc len) word = ((word / 2 ^ len) % 2 == 1) ∷ bits_of len word

-- the number that a string writes
abbrev pub number : List Bool → ℕ
number [] = 0
number (bit ∷ bits) = (if bit then 2 ^ length bits else 0) + number bits

-- a string as a value
abbrev pub string : List Bool → Value
string bits = value.Bits (length bits) (number bits)

-- one bit
abbrev pub one_bit : Bool → Value
one_bit bit = string (bit ∷ [])

-- the last elements of a list
abbrev pub last : {T : Type 0} → ℕ → List T → List T
last n xs = drop (length xs - n) xs

-- the string with zeros on its left, up to n bits
abbrev pub filled : ℕ → List Bool → List Bool
filled n bits = replicate (n - length bits) false ++ bits

-- the string with n bits: cut on its left, or filled with zeros there
abbrev pub fitted_string : ℕ → List Bool → List Bool
fitted_string n bits = last n (filled n bits)

-- two lists, element by element
abbrev pub pairwise : (Bool → Bool → Bool) → List Bool → List Bool → List Bool
pairwise f [] ys = []
pairwise f (x ∷ xs) [] = []
pairwise f (x ∷ xs) (y ∷ ys) = f x y ∷ pairwise f xs ys

-- two strings, bit by bit, the shorter filled with zeros
abbrev pub bitwise : (Bool → Bool → Bool) → List Bool → List Bool → List Bool
bitwise f xs ys = pairwise f (filled (length ys) xs) (filled (length xs) ys)

-- one of two bits is set, and not both
abbrev pub differ : Bool → Bool → Bool
differ x y = if x then not y else y

-- two lists have the same bits
abbrev pub are_same : List Bool → List Bool → Bool
are_same [] [] = true
are_same [] (y ∷ ys) = false
are_same (x ∷ xs) [] = false
are_same (x ∷ xs) (y ∷ ys) = not (differ x y) && are_same xs ys

-- two strings are equal, the shorter filled with zeros
abbrev pub are_equal : List Bool → List Bool → Bool
are_equal xs ys = are_same (filled (length ys) xs) (filled (length xs) ys)

-- two strings joined, of which the last 32 bits are kept
abbrev pub joined : List Bool → List Bool → List Bool
joined xs ys = last 32 (xs ++ ys)
