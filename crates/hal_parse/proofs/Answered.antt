-- What `parse` answers, by what is read.
use Rattle.std.proofs.Common.{◌≡◌, ◌≤◌, ◌⊎◌, ℕ, ◌-◌, ◌<◌, ◌==◌, true, false, [], ◌∷◌, length, Contains, Some, None, sym, ap, ◌∙◌, arith, inl, inr, slice_get, get_or}
use Rattle.std.proofs.lemmas.Bool.Decides.{nat_tests}
use Rattle.std.proofs.lemmas.Option.{none-some, slice_get_past, slice_get_cases}
use Rattle.std.proofs.lemmas.List.Elements.{Contains-get_or}
use Rattle.hal_base.specs.declared.limits.TheConstants.{NESTING_LIMIT}
use Rattle.hal_base.specs.declared.refusal.Place.{Place}
use Rattle.hal_words.specs.declared.word.Token.{Token}
use Rattle.hal_grammar.specs.Units.{File}
use Rattle.hal_grammar.specs.Words.{Words}
use Rattle.hal_parse_expr.specs.Reading.{Read}
use Rattle.hal_parse.specs.ReadingFiles.{file_at}
use Rattle.hal_parse.specs.Parsed.{IsFileOf, IsParsed, StandsIn, beginning_of}
use Rattle.hal_parse.specs.Stuck.{place_or, last_place, stuck_place}
use Rattle.hal_parse.proofs.ExactReadings.{file_sound, file_complete}

-- what is read, or else this
read_or : File × Words → Read File → File × Words
read_or other None = other
read_or other (Some f) = f

-- all words are read
pub parsed : (words rest : Words) (file : File) → Some (file, rest) ≡ file_at NESTING_LIMIT words → (length rest == 0) ≡ true → IsParsed words file
unfolding read_or
parsed words [] file e h =
    let s = file_sound NESTING_LIMIT words file (sym e) in
    record { is = record { spelled = s.0; shallow = s.1 }; only = λ other o. sym (ap (λ r. (read_or (file, []) r).0) (e ∙ file_complete NESTING_LIMIT words other o.spelled o.shallow)) }
parsed words (first ∷ rest) file e h = absurd (grind (arith, nat_tests))

-- nothing is read
pub no_file : (words : Words) → None ≡ file_at NESTING_LIMIT words → (file : File) → IsFileOf words file → ⊥
no_file words e file o = none-some _ (e ∙ file_complete NESTING_LIMIT words file o.spelled o.shallow)

rest_of : (words rest : Words) (file other : File) → Some (file, rest) ≡ file_at NESTING_LIMIT words → IsFileOf words other → rest ≡ []
unfolding read_or
rest_of words rest file other e o = ap (λ r. (read_or (file, rest) r).1) (e ∙ file_complete NESTING_LIMIT words other o.spelled o.shallow)

-- words are left over
pub more_words : (words rest : Words) (file : File) → Some (file, rest) ≡ file_at NESTING_LIMIT words → (length rest == 0) ≡ false → (other : File) → IsFileOf words other → ⊥
more_words words rest file e h other o = let k = rw (rest_of words rest file other e o) at h in absurd cc

-- the place of a word of the list, where there is one, and else another place of one
stands_at : (unit : ℕ) (first : Token) (rest : Words) (k : ℕ) (other : Place) → ((length (first ∷ rest) ≤ k) → StandsIn unit (first ∷ rest) other) →
    StandsIn unit (first ∷ rest) (place_or (slice_get (first ∷ rest) k) other)
stands_at unit first rest k other f = go (slice_get_cases (first ∷ rest) k).1
  where
    go : ((x : Token) × (k < length (first ∷ rest)) × (slice_get (first ∷ rest) k ≡ Some x) × (get_or (first ∷ rest) k x ≡ x)) ⊎ ((length (first ∷ rest) ≤ k) × (slice_get (first ∷ rest) k ≡ None)) →
        StandsIn unit (first ∷ rest) (place_or (slice_get (first ∷ rest) k) other)
    go (inl c) =
        let h : Contains (first ∷ rest) (get_or (first ∷ rest) k c.0) = Contains-get_or (first ∷ rest) k c.0 c.1 in
        (c.0, rw c.3 at h, ap (λ o. place_or o other) c.2)
    go (inr c) = let d = f c.0 in (d.0, d.1, ap (λ o. place_or o other) c.1 ∙ d.2)

last_stands : (unit : ℕ) (first : Token) (rest : Words) → StandsIn unit (first ∷ rest) (last_place unit (first ∷ rest))
last_stands unit first rest = stands_at unit first rest (length (first ∷ rest) - 1) (beginning_of unit) (λ l. absurd (omega (arith, l)))

-- the place at which the reading gets stuck is that of one of the words
pub stuck_stands : (unit : ℕ) (words : Words) (left : ℕ) → StandsIn unit words (stuck_place unit words left)
stuck_stands unit [] left =
    ap (λ o. place_or o (last_place unit [])) (slice_get_past {X = Token} [] (length {A = Token} [] - left) (omega arith)) ∙ ap (λ o. place_or o (beginning_of unit)) (slice_get_past {X = Token} [] (length {A = Token} [] - 1) (omega arith))
stuck_stands unit (first ∷ rest) left = stands_at unit first rest (length (first ∷ rest) - left) (last_place unit (first ∷ rest)) (λ l. last_stands unit first rest)
