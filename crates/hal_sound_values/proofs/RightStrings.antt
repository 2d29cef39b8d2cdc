-- Strings of bits that operations give.
use Rattle.std.proofs.Common.{◌≡◌, ℕ, ◌^◌, ◌<◌, ◌≤◌, Bool, not, List, [], ◌∷◌, ◌++◌, length, map, subst, arith}
use Rattle.std.proofs.Math.Nat.{pow-le-pow_right}
use Rattle.std.proofs.lemmas.List.{length-append, length-map}
use Rattle.hal_values.specs.Kinds.{IsBits}
use Rattle.hal_operations.specs.Operands.{IsString}
use Rattle.hal_operations.specs.Strings.{bits_of, number, string, one_bit, bitwise, joined, fitted_string}
use Rattle.hal_operations.proofs.BitLists.{number-Below, length-bits_of, length-bitwise, length-last, length-fitted}
use Rattle.hal_sound_values.specs.Right.{IsRight}

-- 1 to 32 bits
abbrev pub IsRoom : List Bool → Type 0
IsRoom bits = (1 ≤ length bits) × (length bits ≤ 32)

pub string_right : (bits : List Bool) → IsRoom bits → IsRight (string bits)
string_right bits room = (room.0, room.1, number-Below bits)

pub one_bit_right : (bit : Bool) → IsRight (one_bit bit)
one_bit_right bit = string_right (bit ∷ []) (omega arith, omega arith)

pub word_room : (len word : ℕ) → IsString len word → IsRoom (bits_of len word)
word_room len word h = (omega (arith, h.0, length-bits_of len word), omega (arith, h.1, length-bits_of len word))

pub not_room : (bits : List Bool) → IsRoom bits → IsRoom (map not bits)
not_room bits h = (omega (arith, h.0, length-map bits not), omega (arith, h.1, length-map bits not))

pub bitwise_room : (f : Bool → Bool → Bool) (xs ys : List Bool) → IsRoom xs → IsRoom ys → IsRoom (bitwise f xs ys)
bitwise_room f xs ys h k = (omega (arith, h.0, length-bitwise f xs ys), omega (arith, h.1, k.1, length-bitwise f xs ys))

pub joined_room : (xs ys : List Bool) → IsRoom xs → IsRoom (joined xs ys)
joined_room xs ys h = (omega (arith, h.0, length-last 32 (xs ++ ys), length-append xs ys), omega (arith, length-last 32 (xs ++ ys)))

-- a string of so many bits
pub string_is_bits : (n : ℕ) (bits : List Bool) → length bits ≡ n → IsBits n (string bits)
string_is_bits n bits size = (size, subst (λ k. number bits < 2 ^ k) size (number-Below bits))

pub fitted_is_bits : (n : ℕ) (bits : List Bool) → IsBits n (string (fitted_string n bits))
fitted_is_bits n bits = string_is_bits n (fitted_string n bits) (length-fitted n bits)

-- the word of a string has 32 bits
pub word_below : (len word : ℕ) → IsString len word → word < 2 ^ 32
word_below len word h = omega (arith, h.2, pow-le-pow_right {n = 2} (omega arith) h.1)
