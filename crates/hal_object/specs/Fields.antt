-- Reading from left to right: a reader gives a value and the bytes behind it, or nothing.
use Rattle.std.specs.Prelude.{◌≡◌, ℕ, zero, suc, ◌==◌, nat_lt, List, [], ◌∷◌, length, take, drop, Option, Some, None, Result, Ok, Err, ℤ, if◌then◌else◌}
use Rattle.std.specs.Int.{Width, w16, w32, w64, byte_len, cast_signed, from_le_bytes}
use Rattle.hal_object.specs.declared.fault.ReadFault.{ReadFault}
use Rattle.hal_object.specs.declared.fault.ReadFault.TheVariants as fault

abbrev pub Reader : Type 0 → Type 0
Reader X = List ℕ → Option (X × List ℕ)

-- what a function returned, seen by view, is what is read; nothing is said where memory is wanting
abbrev pub Fails : {Y : Type 0} → ReadFault → Option Y → Type 0
Fails fault.NotImage read = read ≡ None
Fails (fault.Memory error) read = Unit {0}

abbrev pub Gives : {X Y : Type 0} → (X → Y) → Result X ReadFault → Option Y → Type 0
Gives view (Ok x) read = read ≡ Some (view x)
Gives view (Err e) read = Fails e read

-- what is read behind a value
abbrev pub onwards : {A B : Type 0} → Option (A × List ℕ) → (A → List ℕ → Option B) → Option B
onwards None next = None
onwards (Some x) next = next x.0 x.1

-- what is made of a value that is read
abbrev pub made : {A B : Type 0} → (A → B) → Reader A → Reader B
made make read bytes = onwards (read bytes) (λ a rest. Some (make a, rest))

-- a value, and behind it one that is read as the first one says
abbrev pub behind : {A B : Type 0} → Reader A → (A → Reader B) → Reader (A × B)
behind read next bytes = onwards (read bytes) (λ a rest. onwards (next a rest) (λ b last. Some ((a, b), last)))

-- a value, and behind it another
abbrev pub both : {A B : Type 0} → Reader A → Reader B → Reader (A × B)
both read next = behind read (λ a. next)

-- a value that takes no bytes
abbrev pub plain : {A : Type 0} → A → Reader A
plain a bytes = Some (a, bytes)

-- what stands behind a byte, as the row with that byte says
abbrev pub choose : {A : Type 0} → List (ℕ × Reader A) → ℕ → Reader A
choose [] byte bytes = None
choose (row ∷ rows) byte bytes = if row.0 == byte then row.1 bytes else choose rows byte bytes

unfoldable pub byte_at : Reader ℕ
byte_at [] = None
byte_at (byte ∷ rest) = Some (byte, rest)

abbrev pub number_at : Width → Reader ℕ
number_at w bytes = if nat_lt (length bytes) (byte_len w) then None else Some (from_le_bytes w (take (byte_len w) bytes), drop (byte_len w) bytes)

unfoldable pub two_at : Reader ℕ
two_at bytes = number_at w16 bytes

unfoldable pub four_at : Reader ℕ
four_at bytes = number_at w32 bytes

unfoldable pub eight_at : Reader ℕ
eight_at bytes = number_at w64 bytes

unfoldable pub integer_at : Reader ℤ
integer_at bytes = made (cast_signed w32) four_at bytes

-- so many bytes
unfoldable pub front_at : ℕ → Reader (List ℕ)
front_at count bytes = if nat_lt (length bytes) count then None else Some (take count bytes, drop count bytes)

unfoldable pub text_at : Reader (List ℕ)
text_at bytes = onwards (byte_at bytes) front_at

-- so many rows
unfoldable pub rows_at : {A : Type 0} → Reader A → ℕ → Reader (List A)
rows_at read zero bytes = Some ([], bytes)
rows_at read (suc count) bytes = onwards (read bytes) (λ a rest. onwards (rows_at read count rest) (λ others last. Some (a ∷ others, last)))

abbrev pub list_at : {A : Type 0} → Reader A → Reader (List A)
list_at read bytes = onwards (four_at bytes) (rows_at read)
