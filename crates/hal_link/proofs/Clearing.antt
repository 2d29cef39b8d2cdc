-- CLEAR of the places of AUTOMATIC data, one by one, gives own places what they hold where a call begins.
use Rattle.std.specs.Prelude.{◌≡◌, ◌≤◌, ◌⊎◌, ℕ, zero, suc, ◌+◌, Bool, true, false, List, [], ◌∷◌, ◌++◌, length, take, drop, map, if◌then◌else◌}
use Rattle.std.proofs.Common.{refl, sym, ap, ◌∙◌, arith, append-nil, inl, inr}
use Rattle.hal_states.specs.Spots.{Held, Holds}
use Rattle.hal_meaning.specs.Calls.{is_automatic_in, begun}
use Rattle.hal_meaning.specs.Places.{Place}
use Rattle.hal_meaning.specs.Runs.{held_first}
use Rattle.hal_meaning.specs.Sets.{Set}
use Rattle.hal_code.specs.Addressing.{cleared}
use Rattle.hal_agreement.specs.PlacedBlocks.{cleared_by}
use Rattle.hal_gen_expr.proofs.Growing.{append_append, length_of_one_more}
use Rattle.hal_code.specs.declared.instr.Instr.{Instr}
use Rattle.hal_code.specs.declared.instr.Instr.TheVariants as instr
use Rattle.hal_link.specs.UnitCode.{clears_from, clear_of, clear_if, clears_behind}

-- so many were looked at, or all that are there
abbrev Fits : ℕ → List Held → List Held → Type 0
Fits i done rest = (length done ≡ i) ⊎ ((length done ≤ i) × (rest ≡ []))

take_all : (i : ℕ) (xs ys : List Held) → length xs ≡ i → take i (xs ++ ys) ≡ xs
take_all zero [] ys is = refl
take_all zero (x ∷ xs) ys is = absurd (omega (arith, is))
take_all (suc i) [] ys is = absurd (omega (arith, is))
take_all (suc i) (x ∷ xs) ys is = ap (λ l. x ∷ l) (take_all i xs ys (omega (arith, is)))

further : (i : ℕ) → suc i + 1 ≡ suc (i + 1)
further i = omega arith

drop_past : (i : ℕ) (xs ys : List Held) → length xs ≡ i → drop (i + 1) (xs ++ ys) ≡ drop 1 ys
drop_past zero [] ys is = refl
drop_past zero (x ∷ xs) ys is = absurd (omega (arith, is))
drop_past (suc i) [] ys is = absurd (omega (arith, is))
drop_past (suc i) (x ∷ xs) ys is = ap (λ k. drop k (x ∷ (xs ++ ys))) (further i) ∙ drop_past i xs ys (omega (arith, is))

take_few : (i : ℕ) (xs : List Held) → length xs ≤ i → take i xs ≡ xs
take_few zero [] less = refl
take_few zero (x ∷ xs) less = absurd (omega (arith, less))
take_few (suc i) [] less = refl
take_few (suc i) (x ∷ xs) less = ap (λ l. x ∷ l) (take_few i xs (omega (arith, less)))

drop_few : (i : ℕ) (xs : List Held) → length xs ≤ i → drop (i + 1) xs ≡ []
drop_few zero [] less = refl
drop_few zero (x ∷ xs) less = absurd (omega (arith, less))
drop_few (suc i) [] less = ap (λ k. drop {A = Held} k []) (further i)
drop_few (suc i) (x ∷ xs) less = ap (λ k. drop k (x ∷ xs)) (further i) ∙ drop_few i xs (omega (arith, less))

drop_next : (i : ℕ) (xs ys : List Held) (y : Held) → drop i xs ≡ y ∷ ys → drop (suc i) xs ≡ ys
drop_next zero [] ys y is = absurd (cc)
drop_next zero (x ∷ xs) ys y is = let same : xs ≡ ys = cc in same
drop_next (suc i) [] ys y is = absurd (cc)
drop_next (suc i) (x ∷ xs) ys y is = drop_next i xs ys y is

split_one : (rest : List Held) → take 1 rest ++ drop 1 rest ≡ rest
split_one [] = refl
split_one (x ∷ rest) = refl

one_fits : (i : ℕ) (done rest : List Held) (h : Held) → Fits i done rest → Fits (suc i) (done ++ (h ∷ [])) (drop 1 rest)
one_fits i done rest h (inl is) = inl (length_of_one_more done h ∙ ap suc is)
one_fits i done rest h (inr few) = let more = length_of_one_more done h in let less = few.0 in inr (omega (arith, more, less), ap (drop 1) few.1)

passed_fits : (i : ℕ) (done rest : List Held) → Fits i done rest → Fits (suc i) (done ++ take 1 rest) (drop 1 rest)
passed_fits i done [] (inl is) = inr (let same = ap length (append-nil done) in omega (arith, is, same), refl)
passed_fits i done (x ∷ rest) (inl is) = inl (length_of_one_more done x ∙ ap suc is)
passed_fits i done [] (inr few) = inr (let same = ap length (append-nil done) in let less = few.0 in omega (arith, same, less), refl)
passed_fits i done (x ∷ rest) (inr few) = let none = few.1 in absurd (cc)

-- one CLEAR
one_cleared : (firsts : List Held) (i : ℕ) (done rest more : List Held) (h : Held) → Fits i done rest → drop i firsts ≡ h ∷ more → cleared firsts i 1 (done ++ rest) ≡ (done ++ (h ∷ [])) ++ drop 1 rest
one_cleared firsts i done rest more h (inl is) first =
    ap (λ l. l ++ (take 1 (drop i firsts) ++ drop (i + 1) (done ++ rest))) (take_all i done rest is)
    ∙ (ap (λ l. done ++ (take 1 l ++ drop (i + 1) (done ++ rest))) first
    ∙ (ap (λ l. done ++ ((h ∷ []) ++ l)) (drop_past i done rest is) ∙ sym (append_append done (h ∷ []) (drop 1 rest))))
one_cleared firsts i done rest more h (inr few) first =
    ap (λ l. cleared firsts i 1 (done ++ l)) few.1
    ∙ (ap (cleared firsts i 1) (append-nil done)
    ∙ (ap (λ l. l ++ (take 1 (drop i firsts) ++ drop (i + 1) done)) (take_few i done few.0)
    ∙ (ap (λ l. done ++ (take 1 l ++ drop (i + 1) done)) first
    ∙ (ap (λ l. done ++ ((h ∷ []) ++ l)) (drop_few i done few.0)
    ∙ (sym (append-nil (done ++ (h ∷ []))) ∙ ap (λ l. (done ++ (h ∷ [])) ++ drop 1 l) (sym few.1))))))

-- AUTOMATIC places of a unit hold their first values at first
abbrev pub Begin : Set → ℕ → List Place → Type 0
Begin s unit [] = Unit {0}
Begin s unit (place ∷ places) = (is_automatic_in s unit place ≡ true → held_first place ≡ Holds place.initial) × Begin s unit places

module _ (s : Set) (unit : ℕ) (firsts : List Held) where
  step : (b : Bool) (place : Place) (places : List Place) (i : ℕ) (done rest : List Held) → is_automatic_in s unit place ≡ b → (is_automatic_in s unit place ≡ true → held_first place ≡ Holds place.initial) → Fits i done rest
      → drop i firsts ≡ held_first place ∷ map held_first places
      → ((done rest : List Held) → Fits (suc i) done rest → cleared_by firsts (clears_from s unit (suc i) places) (done ++ rest) ≡ done ++ begun s unit places rest)
      → cleared_by firsts (if b then (i, 1) ∷ clears_from s unit (suc i) places else clears_from s unit (suc i) places) (done ++ rest)
      ≡ done ++ ((if b then Holds place.initial ∷ [] else take 1 rest) ++ begun s unit places (drop 1 rest))
  step true place places i done rest is holds fits first later =
      ap (cleared_by firsts (clears_from s unit (suc i) places)) (one_cleared firsts i done rest (map held_first places) (held_first place) fits first ∙ ap (λ h. (done ++ (h ∷ [])) ++ drop 1 rest) (holds is))
      ∙ (later (done ++ (Holds place.initial ∷ [])) (drop 1 rest) (one_fits i done rest (Holds place.initial) fits)
      ∙ append_append done (Holds place.initial ∷ []) (begun s unit places (drop 1 rest)))
  step false place places i done rest is holds fits first later =
      ap (λ l. cleared_by firsts (clears_from s unit (suc i) places) (done ++ l)) (sym (split_one rest))
      ∙ (ap (cleared_by firsts (clears_from s unit (suc i) places)) (sym (append_append done (take 1 rest) (drop 1 rest)))
      ∙ (later (done ++ take 1 rest) (drop 1 rest) (passed_fits i done rest fits) ∙ append_append done (take 1 rest) (begun s unit places (drop 1 rest))))

  cleared_from : (places : List Place) (i : ℕ) (done rest : List Held) → Begin s unit places → Fits i done rest → drop i firsts ≡ map held_first places
      → cleared_by firsts (clears_from s unit i places) (done ++ rest) ≡ done ++ begun s unit places rest
  cleared_from [] i done rest begin fits first = refl
  cleared_from (place ∷ places) i done rest begin fits first =
      step (is_automatic_in s unit place) place places i done rest refl begin.0 fits first
      (λ late others there. cleared_from places (suc i) late others begin.1 there (drop_next i firsts (map held_first places) (held_first place) first))

-- all of them
pub all_cleared : (s : Set) (unit : ℕ) (places : List Place) (held : List Held) → Begin s unit places → cleared_by (map held_first places) (clears_from s unit 0 places) held ≡ begun s unit places held
all_cleared s unit places held begin = cleared_from s unit (map held_first places) places 0 [] held begin (inl refl) refl

-- as the program adds them
next_number : (i : ℕ) → i + 1 ≡ suc i
next_number i = omega arith

cleared_if : (s : Set) (unit i : ℕ) (b : Bool) (code : List Instr) (places : List Place)
    → (code ++ clear_if b i) ++ map clear_of (clears_from s unit (suc i) places) ≡ code ++ map clear_of (if b then (i, 1) ∷ clears_from s unit (suc i) places else clears_from s unit (suc i) places)
cleared_if s unit i true code places = append_append code (instr.Clear i 1 ∷ []) (map clear_of (clears_from s unit (suc i) places))
cleared_if s unit i false code places = ap (λ l. l ++ map clear_of (clears_from s unit (suc i) places)) (append-nil code)

pub clears_added : (s : Set) (unit i : ℕ) (code : List Instr) (places : List Place) → clears_behind s unit i code places ≡ code ++ map clear_of (clears_from s unit i places)
unfolding clears_behind
clears_added s unit i code [] = sym (append-nil code)
clears_added s unit i code (place ∷ places) =
    ap (λ k. clears_behind s unit k (code ++ clear_if (is_automatic_in s unit place) i) places) (next_number i)
    ∙ (clears_added s unit (suc i) (code ++ clear_if (is_automatic_in s unit place) i) places ∙ cleared_if s unit i (is_automatic_in s unit place) code places)
