-- Numbers, texts and lists as bytes. Numbers of several bytes stand with their low bytes first.
use Rattle.std.specs.Prelude.{ℕ, ◌<◌, List, ◌∷◌, ◌++◌, length, ℤ}
use Rattle.std.specs.Int.{w16, w32, w64, cast_unsigned, to_le_bytes}
use Rattle.std.specs.List.{flat_map, AllByRecursion}

-- a number in so many bytes
unfoldable pub in_two : ℕ → List ℕ
in_two n = to_le_bytes w16 n

unfoldable pub in_four : ℕ → List ℕ
in_four n = to_le_bytes w32 n

unfoldable pub in_eight : ℕ → List ℕ
in_eight n = to_le_bytes w64 n

-- an integer in four bytes, in two's complement
abbrev pub integer_bytes : ℤ → List ℕ
integer_bytes z = in_four (cast_unsigned w32 z)

-- a text behind a byte for its length
abbrev pub text_bytes : List ℕ → List ℕ
text_bytes text = length text ∷ text

-- rows, one after another, behind four bytes for their count
abbrev pub list_bytes : {X : Type 0} → (X → List ℕ) → List X → List ℕ
list_bytes row_bytes rows = in_four (length rows) ++ flat_map row_bytes rows

-- rows that fit are so few that they can be counted
abbrev pub AreFew : {X : Type 0} → ℕ → (X → Type 0) → List X → Type 0
AreFew limit Fits rows = (length rows < limit) × AllByRecursion Fits rows
