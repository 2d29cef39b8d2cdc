-- Which values are read from a store, a clock or a script.
use Rattle.std.specs.Prelude.{◌≡◌, ℕ, zero, suc, ◌+◌, ◌-◌, ◌*◌, ◌/◌, ◌^◌, ◌<◌, ◌≤◌, ◌==◌, nat_le, Bool, true, false, ◌&&◌, List, [], ◌∷◌, length, fold, Option, Some, None, slice_get, slice_set, slice_index_or, All, ℤ, pos, neg_ℤ}
use Rattle.std.specs.List.{list_all}
use Rattle.std.proofs.Common.{subst, refl, inl, inr, arith}
use Rattle.std.proofs.Math.Nat.{two-pow-succ}
use Rattle.std.proofs.lemmas.Bool.{and_parts, or_cases, eqb-true, leb-true, cond_both}
use Rattle.std.proofs.lemmas.Int.{ints}
use Rattle.std.proofs.lemmas.List.Elements.{All-head, All-tail}
use Rattle.std.proofs.lemmas.Option.{same_Some}
use Rattle.hal_base.specs.declared.limits.TheConstants.{TICK_SUM_LIMIT}
use Rattle.hal_values.specs.declared.request.Spot.{Spot}
use Rattle.hal_values.specs.declared.request.Spot.TheVariants as spot
use Rattle.hal_values.specs.declared.tables.Cell.{Cell}
use Rattle.hal_values.specs.declared.tables.Tables.{Tables}
use Rattle.hal_values.specs.declared.value.Kind.{Kind}
use Rattle.hal_values.specs.declared.value.Kind.TheVariants as kind
use Rattle.hal_values.specs.declared.value.Value.{Value}
use Rattle.hal_values.specs.declared.value.Value.TheVariants as value
use Rattle.hal_values.specs.Kinds.{IsInteger, IsDatum, IsBits}
use Rattle.hal_values.specs.Loads.{IsWritten}
use Rattle.hal_values.specs.Requests.{IsForCell, HasSpot, IsOfSpot}
use Rattle.hal_values.specs.Tables.{IsSnapshot}
use Rattle.hal_base.specs.Digits.{is_digit}
use Rattle.exec_model.specs.Data.{is_bit, number_in, is_number, plus_number, minus_number, integer_datum, is_bits, integer_value, datum_value}
use Rattle.exec_model.specs.Effects.{bit_value, value_at}
use Rattle.exec_model.specs.Moments.{Moment, event_of}
use Rattle.exec_model.specs.Steps.{written}

-- the value of a cell is of its kind
pub snapshot-value : (cells : List Cell) (values : List Value) (c : ℕ) (d : Value) → IsSnapshot cells values → c < length cells → IsForCell (slice_get cells c) (slice_index_or values c d)
snapshot-value [] [] c d full inside = absurd (omega arith)
snapshot-value [] (v ∷ values) c d full inside = absurd full
snapshot-value (cell ∷ cells) [] c d full inside = absurd full
snapshot-value (cell ∷ cells) (v ∷ values) zero d full inside = full.0
snapshot-value (cell ∷ cells) (v ∷ values) (suc c) d full inside = snapshot-value cells values c d full.1 (omega arith)

-- a store stays full where a cell gets a value of its kind
pub snapshot-set : (cells : List Cell) (values : List Value) (c : ℕ) (v : Value) → IsSnapshot cells values → IsForCell (slice_get cells c) v → IsSnapshot cells (slice_set values c v)
snapshot-set [] [] c v full fits = tt
snapshot-set [] (w ∷ values) c v full fits = absurd full
snapshot-set (cell ∷ cells) [] c v full fits = absurd full
snapshot-set (cell ∷ cells) (w ∷ values) zero v full fits = (fits, full.1)
snapshot-set (cell ∷ cells) (w ∷ values) (suc c) v full fits = (full.0, snapshot-set cells values c v full.1 fits)

-- a store stays full where cells get values of their kinds
pub written-snapshot : (tables : Tables) (values : List Value) (writes : List (ℕ × Value)) → IsSnapshot tables.cells values → All (IsWritten tables) writes → IsSnapshot tables.cells (written values writes)
written-snapshot tables values [] full right = full
written-snapshot tables values (write ∷ writes) full right =
    written-snapshot tables (slice_set values write.0 write.1) writes
    (snapshot-set tables.cells values write.0 write.1 full (All-head (IsWritten tables) write writes right))
    (All-tail (IsWritten tables) write writes right)

-- an event's value is one bit
bit_value-is : (b : Bool) → IsBits 1 (bit_value b)
bit_value-is true = (refl, omega arith)
bit_value-is false = (refl, omega arith)

-- what is read is of its kind
pub value_at-is : (tables : Tables) (m : Moment) (at : Spot) → IsSnapshot tables.cells m.store → HasSpot tables at → IsOfSpot tables at (value_at tables m at)
value_at-is tables m (spot.Cell cell) full has = snapshot-value tables.cells m.store cell _ full has
value_at-is tables m (spot.Event e) full has = bit_value-is (event_of tables m e)

-- the clock's seconds are an integer of 32 bits
pub seconds-integer : (clock : ℕ) → clock ≤ TICK_SUM_LIMIT → IsInteger (value.Int (pos (clock / 1000)))
seconds-integer clock low = let few : clock / 1000 ≤ 2147483647 = omega arith in (omega (arith, ints), omega (arith, ints))

-- digits that are a number at most so great
is_number-most : (most : ℕ) (digits : List ℕ) → is_number most digits ≡ true → number_in 10 digits ≤ most
is_number-most most [] e = absurd cc
is_number-most most (first ∷ rest) e = leb-true (number_in 10 (first ∷ rest)) most (and_parts (list_all is_digit (first ∷ rest)) (nat_le (number_in 10 (first ∷ rest)) most) e).1

-- digits without a sign, or after a plus, are an integer of 32 bits
plus_number-integer : (digits : List ℕ) (number : ℤ) → plus_number digits ≡ Some number → IsInteger (value.Int number)
plus_number-integer digits number =
    cond_both (is_number 2147483647 digits) (Some (pos (number_in 10 digits))) None (λ o. o ≡ Some number → IsInteger (value.Int number))
    (λ yes e.
    let low : number_in 10 digits ≤ 2147483647 = is_number-most 2147483647 digits yes in
    subst (λ n. IsInteger (value.Int n)) (same_Some (pos (number_in 10 digits)) number e) (omega (arith, ints), omega (arith, ints)))
    (λ no e. absurd cc)

-- a number that isn't above 2147483648, with a minus, is an integer of 32 bits
minus-integer : (n : ℕ) → n ≤ 2147483648 → IsInteger (value.Int (neg_ℤ (pos n)))
minus-integer n low = (omega (arith, ints), omega (arith, ints))

-- digits after a minus are an integer of 32 bits
minus_number-integer : (digits : List ℕ) (number : ℤ) → minus_number digits ≡ Some number → IsInteger (value.Int number)
minus_number-integer digits number =
    cond_both (is_number 2147483648 digits) (Some (neg_ℤ (pos (number_in 10 digits)))) None (λ o. o ≡ Some number → IsInteger (value.Int number))
    (λ yes e. subst (λ n. IsInteger (value.Int n)) (same_Some (neg_ℤ (pos (number_in 10 digits))) number e) (minus-integer (number_in 10 digits) (is_number-most 2147483648 digits yes)))
    (λ no e. absurd cc)

-- a datum that is an integer has 32 bits
integer_datum-integer : (bytes : List ℕ) (number : ℤ) → integer_datum bytes ≡ Some number → IsInteger (value.Int number)
integer_datum-integer [] number e = absurd cc
integer_datum-integer (first ∷ rest) number e =
    cond_both (first == 43) (plus_number rest) _ (λ o. o ≡ Some number → IsInteger (value.Int number)) (λ plus. plus_number-integer rest number) (λ other.
    cond_both (first == 45) (minus_number rest) (plus_number (first ∷ rest)) (λ o. o ≡ Some number → IsInteger (value.Int number)) (λ minus. minus_number-integer rest number) (λ none. plus_number-integer (first ∷ rest) number)) e

-- the same of its value
integer_value-integer : (found : Option ℤ) (v : Value) → ((number : ℤ) → found ≡ Some number → IsInteger (value.Int number)) → integer_value found ≡ Some v → IsInteger v
integer_value-integer None v known e = absurd cc
integer_value-integer (Some number) v known e = subst IsInteger (same_Some (value.Int number) v e) (known number refl)

-- a digit 0 or 1 is at most 1
is_bit-most : (byte : ℕ) → is_bit byte ≡ true → byte - 48 ≤ 1
is_bit-most byte e = elim (or_cases (byte == 48) (byte == 49) e) [
  | inl zero_digit ↦ let same : byte ≡ 48 = eqb-true byte 48 zero_digit in omega arith
  | inr one_digit ↦ let same : byte ≡ 49 = eqb-true byte 49 one_digit in omega arith
]

-- digits 0 and 1 go on to write a number below the power of two
bits-below : (digits : List ℕ) (number k : ℕ) → number < 2 ^ k → list_all is_bit digits ≡ true → fold (λ number byte. 2 * number + (byte - 48)) number digits < 2 ^ (k + length digits)
bits-below [] number k low bits = subst (λ n. number < 2 ^ n) (omega arith) low
bits-below (byte ∷ digits) number k low bits =
    let parts = and_parts (is_bit byte) (list_all is_bit digits) bits in
    let one : byte - 48 ≤ 1 = is_bit-most byte parts.0 in
    let next : 2 * number + (byte - 48) < 2 ^ suc k = omega (arith, two-pow-succ k) in
    subst (λ n. fold (λ number byte. 2 * number + (byte - 48)) (2 * number + (byte - 48)) digits < 2 ^ n) (omega arith) (bits-below digits (2 * number + (byte - 48)) (suc k) next parts.1)

-- a datum of bits has 1 to 32 of them
is_bits-datum : (n : ℕ) (bytes : List ℕ) → is_bits bytes ≡ true → IsDatum (kind.Bits n) (value.Bits (length bytes) (number_in 2 bytes))
is_bits-datum n bytes e =
    let parts = and_parts (nat_le 1 (length bytes) && nat_le (length bytes) 32) (list_all is_bit bytes) e in
    let sizes = and_parts (nat_le 1 (length bytes)) (nat_le (length bytes) 32) parts.0 in
    let below : number_in 2 bytes < 2 ^ (0 + length bytes) = bits-below bytes 0 0 (omega arith) parts.1 in
    (length bytes, leb-true 1 (length bytes) sizes.0, leb-true (length bytes) 32 sizes.1, (refl, subst (λ k. number_in 2 bytes < 2 ^ k) (omega arith) below))

-- the value of a datum is one for a receiver of the kind
pub datum_value-datum : (k : Kind) (bytes : List ℕ) (v : Value) → datum_value k bytes ≡ Some v → IsDatum k v
datum_value-datum kind.Single bytes v e = integer_value-integer (integer_datum bytes) v (λ number. integer_datum-integer bytes number) e
datum_value-datum kind.Double bytes v e = integer_value-integer (integer_datum bytes) v (λ number. integer_datum-integer bytes number) e
datum_value-datum (kind.Bits n) bytes v e =
    cond_both (is_bits bytes) (Some (value.Bits (length bytes) (number_in 2 bytes))) None (λ o. o ≡ Some v → IsDatum (kind.Bits n) v)
    (λ yes same. subst (IsDatum (kind.Bits n)) (same_Some (value.Bits (length bytes) (number_in 2 bytes)) v same) (is_bits-datum n bytes yes))
    (λ no none. absurd cc) e
datum_value-datum (kind.Text n) bytes v e =
    cond_both (nat_le (length bytes) 255) (Some (value.Text bytes)) None (λ o. o ≡ Some v → IsDatum (kind.Text n) v)
    (λ yes same. subst (IsDatum (kind.Text n)) (same_Some (value.Text bytes) v same) (leb-true (length bytes) 255 yes))
    (λ no none. absurd cc) e
