-- The pieces of a text of data.
use Rattle.std.proofs.Common.{◌≡◌, ℕ, suc, ◌+◌, ◌≤◌, ◌<◌, Bool, true, false, not, cond, List, [], ◌∷◌, ◌++◌, take, drop, length, Some, None, nat_lt, refl, ap, ◌∙◌, sym, arith, append-nil, append_assoc}
use Rattle.std.specs.List.{position, position_or_len}
use Rattle.std.proofs.lemmas.Bool.Decides.{nat_tests}
use Rattle.hal_script.specs.declared.given.Given.{Given}
use Rattle.hal_script.specs.declared.given.Given.TheVariants.{Data, Malformed, Open}
use Rattle.hal_script.specs.DataTexts.{is_gap, is_quote, before, given, plain, quoted}

-- no data stand before
pub before_none : (rest : Given) → before [] rest ≡ rest
before_none (Data data_) = refl
before_none Malformed = refl
before_none Open = refl

-- data before data
pub before_more : (data_ more : List (List ℕ)) (rest : Given) → before (data_ ++ more) rest ≡ before data_ (before more rest)
before_more data_ more (Data others) = ap Data (append_assoc data_ more others)
before_more data_ more Malformed = refl
before_more data_ more Open = refl

given-gap : (byte : ℕ) (text : List ℕ) → is_gap byte ≡ true → given (byte ∷ text) ≡ given text
given-gap byte text gap = by (is_gap byte) gap where
  by : (t : Bool) → t ≡ true → elim t [ true ↦ given text | false ↦ elim (is_quote byte) [ true ↦ quoted [] text | false ↦ plain (byte ∷ []) text ] ] ≡ given text
  by true is = refl
  by false is = absurd (cc)

-- the datum ends before this byte, or goes on with it
cut_by : (datum text : List ℕ) (byte : ℕ) (t : Bool) → is_gap byte ≡ t
    → plain (datum ++ byte ∷ []) text ≡ before (((datum ++ byte ∷ []) ++ take (position_or_len is_gap text) text) ∷ []) (given (drop (position_or_len is_gap text) text))
    → elim t [ true ↦ before (datum ∷ []) (given text) | false ↦ plain (datum ++ byte ∷ []) text ]
    ≡ before ((datum ++ take (cond (not t) (1 + position_or_len is_gap text) 0) (byte ∷ text)) ∷ []) (given (drop (cond (not t) (1 + position_or_len is_gap text) 0) (byte ∷ text)))
cut_by datum text byte true gap later = ap (λ g. before (datum ∷ []) g) (sym (given-gap byte text gap)) ∙ ap (λ d. before (d ∷ []) (given (byte ∷ text))) (sym (append-nil datum))
cut_by datum text byte false other later =
    let count : suc (position_or_len is_gap text) ≡ 1 + position_or_len is_gap text = omega arith in
    later
    ∙ ap (λ d. before (d ∷ []) (given (drop (position_or_len is_gap text) text))) (append_assoc datum (byte ∷ []) (take (position_or_len is_gap text) text))
    ∙ ap (λ n. before ((datum ++ take n (byte ∷ text)) ∷ []) (given (drop n (byte ∷ text)))) count

-- a datum without quotes ends before the first blank or comma
pub plain_cut : (datum text : List ℕ)
    → plain datum text ≡ before ((datum ++ take (position_or_len is_gap text) text) ∷ []) (given (drop (position_or_len is_gap text) text))
plain_cut datum [] = ap (λ d. Data (d ∷ [])) (sym (append-nil datum))
plain_cut datum (byte ∷ text) = cut_by datum text byte (is_gap byte) refl (plain_cut (datum ++ byte ∷ []) text)

-- a byte that is told is the first one
pub told_there : (p : ℕ → Bool) (text : List ℕ) (end : ℕ) → position p text ≡ Some end → end ≡ position_or_len p text
told_there p text end e = by (position_or_len p text) e where
  by : (n : ℕ) → cond (nat_lt n (length text)) (Some n) None ≡ Some end → end ≡ n
  by n is = grind (arith, nat_tests)

longer_by : (n len : ℕ) (t : Bool) → n ≤ len → cond (not t) (1 + n) 0 ≤ suc len
longer_by n len true less = omega arith
longer_by n len false less = omega (arith, less)

not_longer : (p : ℕ → Bool) (text : List ℕ) → position_or_len p text ≤ length text
not_longer p [] = omega arith
not_longer p (byte ∷ text) = longer_by (position_or_len p text) (length text) (p byte) (not_longer p text)

-- where none is told, the text is passed whole
pub told_nowhere : (p : ℕ → Bool) (text : List ℕ) → position p text ≡ None → length text ≡ position_or_len p text
told_nowhere p text e = by (position_or_len p text) (not_longer p text) e where
  by : (n : ℕ) → n ≤ length text → cond (nat_lt n (length text)) (Some n) None ≡ None → length text ≡ n
  by n less is = grind (arith, nat_tests)
