-- The integer that a text writes, by what std says of `parse`.
use Rattle.std.proofs.Common.{◌≡◌, ℕ, ◌==◌, ◌<◌, ◌^◌, ◌⊎◌, inl, inr, Bool, true, false, cond, List, [], ◌∷◌, drop, ℤ, pos, negsuc, neg_ℤ, Option, Some, None, option_map, Ok, Err, FitsSigned, w32, to_z, of_z, refl, sym, ◌∙◌, arith, rules}
use Rattle.std.specs.Prelude.{if◌then◌else◌}
use Rattle.std.specs.List.{list_all}
use Rattle.std.specs.Str.{IsAscii, IsUtf8}
use Rattle.std.specs.Str.Parse.{IsNumeral, digits_value, signed_digits_value, without_leading_sign}
use Rattle.std.proofs.lemmas.Bool.{lt-ltb, le-ltb, eqb-true, cases_Bool, cases_lt}
use Rattle.std.proofs.lemmas.Int.{to_z-of_z}
use Rattle.std.proofs.lemmas.Str.{IsUtf8-from_ascii}
use Rattle.std.proofs.lemmas.Str.Parse.{IsNumeralModel, numerals_by_value}
use Rattle.std.proofs.lemmas.Str.Ascii.{IsAscii-cons}
use Rattle.std.proofs.lemmas.Fmt.{IsAscii-from_digits}
use Rattle.hal_values.specs.declared.value.Value.TheVariants as value
use Rattle.hal_operations.specs.Errors.{no_integer}
use Rattle.hal_base.specs.Digits.{is_digit}
use Rattle.hal_operations.specs.Texts.{number_of, integer_of, read}

-- the digits are std's
own_digits : IsNumeralModel (λ ds. list_all is_digit ds ≡ true) (digits_value 10)
own_digits = numerals_by_value _ (search rules)

cases_numeral : (ds : List ℕ) → IsNumeral 10 ds ⊎ ¬ (IsNumeral 10 ds)
cases_numeral [] = inr (λ h. absurd (omega (arith, h.0)))
cases_numeral (d ∷ ds) = elim (cases_Bool (list_all is_digit (d ∷ ds))) [
  | inl holds ↦ inl (omega arith, own_digits.to (d ∷ ds) holds)
  | inr fails ↦ inr (λ h. cc (own_digits.from (d ∷ ds) h.1))
]

-- the number of a numeral
number_of_numeral : (ds : List ℕ) → IsNumeral 10 ds → number_of ds ≡ Some (digits_value 10 ds)
number_of_numeral [] h = absurd (omega (arith, h.0))
number_of_numeral (d ∷ ds) h = rw (own_digits.from (d ∷ ds) h.1) refl

-- other texts have none
number_of_none : (ds : List ℕ) → ¬ (IsNumeral 10 ds) → number_of ds ≡ None
number_of_none [] h = refl
number_of_none (d ∷ ds) h = elim (cases_Bool (list_all is_digit (d ∷ ds))) [
  | inl holds ↦ absurd (h (omega arith, own_digits.to (d ∷ ds) holds))
  | inr fails ↦ rw fails refl
]

-- what follows the sign, by the tests of the first byte
abbrev after_sign : Bool → Bool → ℕ → List ℕ → List ℕ
after_sign minus plus first more = cond minus more (drop (cond plus 1 0) (first ∷ more))

-- the integer, by these tests
abbrev signed : Bool → Bool → ℕ → List ℕ → Option ℤ
signed minus plus first more =
    if minus then option_map (λ n. neg_ℤ (pos n)) (number_of more)
    else if plus then option_map pos (number_of more)
    else option_map pos (number_of (first ∷ more))

signed_numeral : (minus plus : Bool) (first : ℕ) (more : List ℕ) → IsNumeral 10 (after_sign minus plus first more) → signed minus plus first more ≡ Some (cond minus (neg_ℤ (pos (digits_value 10 (after_sign minus plus first more)))) (pos (digits_value 10 (after_sign minus plus first more))))
signed_numeral true plus first more h = rw (number_of_numeral more h) refl
signed_numeral false true first more h = rw (number_of_numeral more h) refl
signed_numeral false false first more h = rw (number_of_numeral (first ∷ more) h) refl

signed_none : (minus plus : Bool) (first : ℕ) (more : List ℕ) → ¬ (IsNumeral 10 (after_sign minus plus first more)) → signed minus plus first more ≡ None
signed_none true plus first more h = rw (number_of_none more h) refl
signed_none false true first more h = rw (number_of_none more h) refl
signed_none false false first more h = rw (number_of_none (first ∷ more) h) refl

signed_ascii : (minus plus : Bool) (first : ℕ) (more : List ℕ) → (minus ≡ true → first < 128) → (plus ≡ true → first < 128) → IsNumeral 10 (after_sign minus plus first more) → IsAscii (first ∷ more)
signed_ascii true plus first more m p h = IsAscii-cons first more (m refl) (IsAscii-from_digits more h.1)
signed_ascii false true first more m p h = IsAscii-cons first more (p refl) (IsAscii-from_digits more h.1)
signed_ascii false false first more m p h = IsAscii-from_digits (first ∷ more) h.1

-- the integer of a numeral after a sign or none
integer_of_numeral : (bs : List ℕ) → IsNumeral 10 (without_leading_sign bs) → integer_of bs ≡ Some (signed_digits_value 10 bs)
integer_of_numeral [] h = absurd (omega (arith, h.0))
integer_of_numeral (first ∷ more) h = signed_numeral (first == 45) (first == 43) first more h

-- other texts write none
integer_of_none : (bs : List ℕ) → ¬ (IsNumeral 10 (without_leading_sign bs)) → integer_of bs ≡ None
integer_of_none [] h = refl
integer_of_none (first ∷ more) h = signed_none (first == 45) (first == 43) first more h

-- a text that writes one is UTF-8
utf8_numeral : (bs : List ℕ) → IsNumeral 10 (without_leading_sign bs) → IsUtf8 bs
utf8_numeral [] h = absurd (omega (arith, h.0))
utf8_numeral (first ∷ more) h =
    IsUtf8-from_ascii (first ∷ more)
    (signed_ascii (first == 45) (first == 43) first more (λ e. let is = eqb-true first 45 e in omega arith) (λ e. let is = eqb-true first 43 e in omega arith) h)

-- an integer of 32 bits is read
read_near : (z : ℤ) → FitsSigned w32 z → read (Some z) ≡ Ok (value.Int z)
read_near (pos n) h = rw (lt-ltb n (2 ^ 31) h.sfits) refl
read_near (negsuc n) h = rw (lt-ltb n (2 ^ 31) h.sfits) refl

-- another one is not
read_far : (z : ℤ) → ¬ (FitsSigned w32 z) → read (Some z) ≡ Err no_integer
read_far (pos n) h = elim (cases_lt n (2 ^ 31)) [ inl near ↦ absurd (h (record { sfits = near })) | inr far ↦ rw (le-ltb n (2 ^ 31) far) refl ]
read_far (negsuc n) h = elim (cases_lt n (2 ^ 31)) [ inl near ↦ absurd (h (record { sfits = near })) | inr far ↦ rw (le-ltb n (2 ^ 31) far) refl ]

-- what `parse` answers
pub read_parsed : (text bs : List ℕ) (z : ℤ) → bs ≡ text → (IsNumeral 10 (without_leading_sign bs) × FitsSigned w32 (signed_digits_value 10 bs)) × (z ≡ signed_digits_value 10 bs) → Ok (value.Int (to_z w32 (of_z w32 z))) ≡ read (integer_of text)
read_parsed text bs z same h =
    let fits : FitsSigned w32 z = rw h.1 h.0.1 in
    let exact : to_z w32 (of_z w32 z) ≡ signed_digits_value 10 bs = to_z-of_z w32 z fits ∙ h.1 in
    rw (← same, integer_of_numeral bs h.0.0, exact) (sym (read_near _ h.0.1))

pub read_refused : (text bs : List ℕ) → bs ≡ text → ¬ (IsNumeral 10 (without_leading_sign bs) × FitsSigned w32 (signed_digits_value 10 bs)) → Err no_integer ≡ read (integer_of text)
read_refused text bs same h = rw (← same) (elim (cases_numeral (without_leading_sign bs)) [
  | inl holds ↦ rw (integer_of_numeral bs holds) (sym (read_far _ (λ fits. h (holds, fits))))
  | inr fails ↦ rw (integer_of_none bs fails) refl
])

-- and what a text that is not UTF-8 writes
pub read_no_utf8 : (text : List ℕ) → ¬ (IsUtf8 text) → Err no_integer ≡ read (integer_of text)
read_no_utf8 text h = rw (integer_of_none text (λ numeral. h (utf8_numeral text numeral))) refl
