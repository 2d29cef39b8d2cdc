-- Text and bit literals.
use Rattle.std.specs.Prelude.{ℕ, zero, suc, ◌+◌, ◌-◌, ◌*◌, ◌/◌, ◌^◌, nat_lt, nat_le, ◌==◌, not, ◌&&◌, List, [], ◌∷◌, length, map, Option, Some, None, codes, bytes_eq, if◌then◌else◌}
use Rattle.std.specs.List.{list_all}
use Rattle.hal_base.specs.Digits.{is_digit}
use Rattle.hal_words.specs.Numbers.{written}

-- a byte more of a text that is found to its end, which takes so many bytes of the line
abbrev pub with_byte : ℕ → ℕ → Option (List ℕ × ℕ) → Option (List ℕ × ℕ)
with_byte byte size None = None
with_byte byte size (Some rest) = Some (byte ∷ rest.0, size + rest.1)

-- the bytes of a text literal, and how many bytes of the line they take with the quote that ends it, from behind the quote that begins it; a doubled
-- quote is one quote. None where the line has no such quote
abbrev mutual
  pub inside : List ℕ → Option (List ℕ × ℕ)
  inside [] = None
  inside (b ∷ text) = if b == 39 then closing text else with_byte b 1 (inside text)

  -- behind a quote
  pub closing : List ℕ → Option (List ℕ × ℕ)
  closing [] = Some ([], 1)
  closing (b ∷ text) = if b == 39 then with_byte 39 2 (inside text) else Some ([], 1)

-- a tab in a literal is a blank
abbrev pub blank_for_tab : ℕ → ℕ
blank_for_tab b = if b == 9 then 32 else b

-- the base of a bit literal, which has so many bits a digit; DEC has the bits of its number
pub data Base : Type 0 where
  Digits : ℕ → Base
  Decimal : Base

abbrev pub base_of : List ℕ → Option Base
base_of run =
    if bytes_eq run (codes "BIN") then Some (Digits 1)
    else if bytes_eq run (codes "OCT") then Some (Digits 3)
    else if bytes_eq run (codes "HEX") then Some (Digits 4)
    else if bytes_eq run (codes "DEC") then Some Decimal
    else None

-- the value of a digit, 16 for another byte
abbrev pub digit_value : ℕ → ℕ
digit_value b = if is_digit b then b - 48 else if nat_le 65 b && nat_le b 70 then b - 55 else 16

-- the number whose values of digits a base has
abbrev pub radix : Base → ℕ
radix (Digits bits) = 2 ^ bits
radix Decimal = 10

-- how many bits a number has without leading zeros, at least one
abbrev pub bit_count : ℕ → ℕ → ℕ
bit_count zero number = 1
bit_count (suc most) number = if nat_lt number 2 then 1 else suc (bit_count most (number / 2))

-- the length of so many digits, which write the number, where it is 1 to 32
abbrev pub within : Base → ℕ → ℕ → Option (ℕ × ℕ)
within (Digits bits) count number = if nat_le (bits * count) 32 then Some (bits * count, number) else None
within Decimal count number = if nat_lt number (2 ^ 32) then Some (bit_count 32 number, number) else None

-- the length and the number of a bit literal with these bytes between its quotes, where they are digits of the base and 1 to 32 bits
abbrev pub bits_between : Base → List ℕ → Option (ℕ × ℕ)
bits_between base bytes =
    let digits = map digit_value bytes in
    let number = written (radix base) digits in
    if list_all (λ d. nat_lt d (radix base)) digits && not (length digits == 0) then within base (length digits) number else None
