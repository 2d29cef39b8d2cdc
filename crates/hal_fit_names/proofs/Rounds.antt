-- The values of the constants of a set are known for good: one more round tells none that isn't known.
use Rattle.std.proofs.Common.{◌≡◌, ◌≤◌, ◌<◌, ◌⊎◌, ℕ, zero, suc, ◌+◌, ◌==◌, nat_lt, Bool, true, false, not, ◌&&◌, ◌||◌, List, [], ◌∷◌, ◌++◌, length, replicate, Option, Some, None, slice_get, slice_set, refl, sym, ap, ◌∙◌, subst, inl, inr, arith, append_assoc, append-nil, length-append}
use Rattle.std.specs.Prelude.{if◌then◌else◌}
use Rattle.std.specs.Option.{is_some}
use Rattle.std.proofs.lemmas.Bool.{eqb-true, eq-eqb, ltb-true, ltb-false, lt-ltb}
use Rattle.hal_grammar.specs.Declarations.{Attribute, Declared}
use Rattle.hal_phrases.specs.Phrases.{Node, Phrase, OfItem}
use Rattle.hal_names.specs.Laws.{IsCounted}
use Rattle.hal_scope.specs.Rules.{IsAmong}
use Rattle.hal_values.specs.declared.value.Value.{Value}
use Rattle.hal_constants.specs.Known.{Known, declared_value, is_file, is_pooled, known, noted, nothing_known, round, rounds, starts_round}
use Rattle.hal_constants.specs.Naming.{is_before, is_compool_at, is_value_item, value_at}
use Rattle.hal_fit_names.proofs.Growing.{Gets, declared_gets}

-- with another value at one place
set_here : (vs : Known) (n : ℕ) (o : Option Value) → n < length vs → value_at (slice_set vs n o) n ≡ o
set_here [] n o low = absurd (omega (arith, low))
set_here (x ∷ vs) zero o low = refl
set_here (x ∷ vs) (suc n) o low = set_here vs n o (omega (arith, low))

set_other : (vs : Known) (n k : ℕ) (o : Option Value) → (n ≡ k → ⊥) → value_at (slice_set vs n o) k ≡ value_at vs k
set_other [] n k o other = refl
set_other (x ∷ vs) zero zero o other = absurd (other refl)
set_other (x ∷ vs) zero (suc k) o other = refl
set_other (x ∷ vs) (suc n) zero o other = refl
set_other (x ∷ vs) (suc n) (suc k) o other = set_other vs n k o (λ same. other (ap suc same))

set_long : (vs : Known) (n : ℕ) (o : Option Value) → length (slice_set vs n o) ≡ length vs
set_long [] n o = refl
set_long (x ∷ vs) zero o = refl
set_long (x ∷ vs) (suc n) o = ap suc (set_long vs n o)

-- a number is another one or isn't
which : (n k : ℕ) → (n ≡ k) ⊎ (n ≡ k → ⊥)
which n k = by (n == k) refl where
  by : (b : Bool) → (n == k) ≡ b → (n ≡ k) ⊎ (n ≡ k → ⊥)
  by true is = inl (eqb-true n k is)
  by false is = inr (λ same. let other = sym is ∙ eq-eqb n k same in absurd (cc))

either_true : (a b : Bool) → (a || b) ≡ true → (a ≡ true) ⊎ (b ≡ true)
either_true true b is = inl refl
either_true false b is = inr is

or_left : (a b : Bool) → a ≡ true → (a || b) ≡ true
or_left true b is = refl
or_left false b is = absurd (cc)

or_right : (a b : Bool) → b ≡ true → (a || b) ≡ true
or_right true b is = refl
or_right false b is = is

first_of_both : (a b : Bool) → (a && b) ≡ true → a ≡ true
first_of_both true b is = refl
first_of_both false b is = absurd (cc)

both_true : (a b : Bool) → a ≡ true → b ≡ true → (a && b) ≡ true
both_true true b is also = also
both_true false b is also = absurd (cc)

-- what is known there of these phrases is known here too
abbrev pub IsLessOn : (ℕ → Bool) → Known → Known → Type 0
IsLessOn on vs ws = (k : ℕ) → on k ≡ true → Gets (value_at vs k) (value_at ws k)

-- and of all
abbrev pub IsLess : Known → Known → Type 0
IsLess vs ws = (k : ℕ) → Gets (value_at vs k) (value_at ws k)

-- the same with other values at one place
set_less : (on : ℕ → Bool) (vs ws : Known) (n : ℕ) (o p : Option Value) → n < length vs → n < length ws → IsLessOn on vs ws → Gets o p → (k : ℕ) → (on k ≡ true) ⊎ (n ≡ k) → Gets (value_at (slice_set vs n o) k) (value_at (slice_set ws n p) k)
set_less on vs ws n o p low also less gets k so v is = by (which n k) so where
  by : (n ≡ k) ⊎ (n ≡ k → ⊥) → (on k ≡ true) ⊎ (n ≡ k) → value_at (slice_set ws n p) k ≡ Some v
  by (inl same) so =
      ap (value_at (slice_set ws n p)) (sym same) ∙ (set_here ws n p also ∙ gets v (sym (set_here vs n o low) ∙ (ap (value_at (slice_set vs n o)) same ∙ is)))
  by (inr other) (inl on_it) = set_other ws n k p other ∙ less k on_it v (sym (set_other vs n k o other) ∙ is)
  by (inr other) (inr same) = absurd (other same)

module _ (ps : List Phrase) (counted : IsCounted ps) where
  -- as many values as phrases
  abbrev Fits : Known → Type 0
  Fits vs = length vs ≡ length ps

  noted_fits : (vs : Known) (p : Phrase) → Fits vs → Fits (noted ps vs p)
  noted_fits vs p fits = set_long vs p.number (declared_value ps vs p p.node) ∙ fits

  round_fits : (xs : List Phrase) (vs : Known) → Fits vs → Fits (round ps vs xs)
  unfolding round
  round_fits [] vs fits = fits
  round_fits (p ∷ xs) vs fits = round_fits xs (noted ps vs p) (noted_fits vs p fits)

  -- whether the phrase with this number declares a constant of a COMPOOL that is its value
  abbrev pooled_phrase : Phrase → Bool
  pooled_phrase q = is_pooled (is_compool_at ps q.around.home) q.node

  abbrev pooled : ℕ → Bool
  pooled k = elim (slice_get ps k) [ None ↦ false | Some q ↦ pooled_phrase q ]

  pooled_item : (q : Phrase) (common : List Attribute) (item : Declared) → q.node ≡ OfItem common item → is_value_item common item ≡ true → is_compool_at ps q.around.home ≡ true → pooled_phrase q ≡ true
  unfolding is_pooled
  pooled_item q common item is valued home = ap (is_pooled (is_compool_at ps q.around.home)) is ∙ both_true (is_value_item common item) (is_compool_at ps q.around.home) valued home

  -- the rest of the phrases, behind these
  record IsRest (d : List Phrase) (p : Phrase) (xs : List Phrase) : Type 0 where
    whole : ps ≡ d ++ (p ∷ xs)

  at_end : (d : List Phrase) (p : Phrase) (xs : List Phrase) → slice_get (d ++ (p ∷ xs)) (length d) ≡ Some p
  at_end [] p xs = refl
  at_end (x ∷ d) p xs = at_end d p xs

  module _ (d : List Phrase) (p : Phrase) (xs : List Phrase) (whole : ps ≡ d ++ (p ∷ xs)) where
    number_is : p.number ≡ length d
    number_is = counted (length d) p (ap (λ (l : List Phrase). slice_get l (length d)) whole ∙ at_end d p xs)

    low_number : (vs : Known) → Fits vs → p.number < length vs
    low_number vs fits =
        let long : length ps ≡ length d + suc (length xs) = ap (λ (l : List Phrase). length l) whole ∙ length-append d (p ∷ xs) in
        let number = number_is in
        let fit : length vs ≡ length ps = fits in
        omega (arith, long, number, fit)

    next_whole : ps ≡ (d ++ (p ∷ [])) ++ xs
    next_whole = whole ∙ sym (append_assoc d (p ∷ []) xs)

    next_long : length (d ++ (p ∷ [])) ≡ suc (length d)
    next_long = length-append d (p ∷ []) ∙ omega arith

  -- rounds of less give less
  round_less : (xs d : List Phrase) → ps ≡ d ++ xs → (vs ws : Known) → Fits vs → Fits ws → IsLess vs ws → IsLess (round ps vs xs) (round ps ws xs)
  unfolding round
  round_less [] d whole vs ws fits also less = less
  round_less (p ∷ xs) d whole vs ws fits also less =
      round_less xs (d ++ (p ∷ [])) (next_whole d p xs whole) (noted ps vs p) (noted ps ws p) (noted_fits vs p fits) (noted_fits ws p also)
      (λ k. set_less (λ j. true) vs ws p.number (declared_value ps vs p p.node) (declared_value ps ws p p.node) (low_number d p xs whole vs fits) (low_number d p xs whole ws also) (λ j on. less j)
      (declared_gets ps vs ws p (λ j r common item there is valued before v has. (before, less r.number v has)) p.node) k (inl refl))

  -- what stands before these, and constants of COMPOOLs
  abbrev settled : List Phrase → ℕ → Bool
  settled d k = nat_lt k (length d) || pooled k

  before_settled : (d : List Phrase) (p r : Phrase) (k : ℕ) (common : List Attribute) (item : Declared) → p.number ≡ length d → slice_get ps k ≡ Some r → r.node ≡ OfItem common item → is_value_item common item ≡ true
      → is_before ps p r ≡ true → settled d r.number ≡ true
  before_settled d p r k common item number there is valued before = by (either_true (nat_lt r.number p.number) (is_compool_at ps r.around.home && not (r.around.home == p.around.home)) before) where
    by : (nat_lt r.number p.number ≡ true) ⊎ ((is_compool_at ps r.around.home && not (r.around.home == p.around.home)) ≡ true) → settled d r.number ≡ true
    by (inl first) = or_left (nat_lt r.number (length d)) (pooled r.number) (ap (λ n. nat_lt r.number n) (sym number) ∙ first)
    by (inr other) =
        or_right (nat_lt r.number (length d)) (pooled r.number)
        (ap (λ (o : Option Phrase). elim o [ None ↦ false | Some q ↦ pooled_phrase q ]) (ap (slice_get ps) (counted k r there) ∙ there)
        ∙ pooled_item r common item is valued (first_of_both (is_compool_at ps r.around.home) (not (r.around.home == p.around.home)) other))

  next_settled : (d : List Phrase) (p : Phrase) (xs : List Phrase) (whole : ps ≡ d ++ (p ∷ xs)) (k : ℕ) → settled (d ++ (p ∷ [])) k ≡ true → (settled d k ≡ true) ⊎ (p.number ≡ k)
  next_settled d p xs whole k is = by (either_true (nat_lt k (length (d ++ (p ∷ [])))) (pooled k) is) where
    number : p.number ≡ length d
    number = number_is d p xs whole

    long : length (d ++ (p ∷ [])) ≡ suc (length d)
    long = next_long d p xs whole

    by_place : k < length (d ++ (p ∷ [])) → (b : Bool) → nat_lt k (length d) ≡ b → (settled d k ≡ true) ⊎ (p.number ≡ k)
    by_place less true low = inl (or_left (nat_lt k (length d)) (pooled k) low)
    by_place less false low = let n = number in let l = long in inr (omega (arith, less, ltb-false k (length d) low, n, l))

    by : (nat_lt k (length (d ++ (p ∷ []))) ≡ true) ⊎ (pooled k ≡ true) → (settled d k ≡ true) ⊎ (p.number ≡ k)
    by (inl first) = by_place (ltb-true k (length (d ++ (p ∷ []))) first) (nat_lt k (length d)) refl
    by (inr other) = inl (or_right (nat_lt k (length d)) (pooled k) other)

  -- a round goes by these alone
  settled_less : (xs d : List Phrase) → ps ≡ d ++ xs → (vs ws : Known) → Fits vs → Fits ws → IsLessOn (settled d) vs ws → IsLessOn (settled ps) (round ps vs xs) (round ps ws xs)
  unfolding round
  settled_less [] d whole vs ws fits also less = subst (λ (l : List Phrase). IsLessOn (settled l) vs ws) (sym (whole ∙ append-nil d)) less
  settled_less (p ∷ xs) d whole vs ws fits also less =
      settled_less xs (d ++ (p ∷ [])) (next_whole d p xs whole) (noted ps vs p) (noted ps ws p) (noted_fits vs p fits) (noted_fits ws p also)
      (λ k on. set_less (settled d) vs ws p.number (declared_value ps vs p p.node) (declared_value ps ws p p.node) (low_number d p xs whole vs fits) (low_number d p xs whole ws also) less
      (declared_gets ps vs ws p (λ j r common item there is valued before v has. (before, less r.number (before_settled d p r j common item (number_is d p xs whole) there is valued before) v has)) p.node) k
      (next_settled d p xs whole k on))

  -- one more round tells no more
  abbrev IsStable : Known → Type 0
  IsStable vs = IsLess (round ps vs ps) vs

  -- nothing is known beyond the phrases
  none_beyond : (vs : Known) (k : ℕ) (v : Value) → value_at vs k ≡ Some v → k < length vs
  none_beyond [] k v is = absurd (cc)
  none_beyond (x ∷ vs) zero v is = omega arith
  none_beyond (x ∷ vs) (suc k) v is = let low = none_beyond vs k v is in omega (arith, low)

  pooled_alone : (k : ℕ) → settled [] k ≡ true → pooled k ≡ true
  pooled_alone k is = by (either_true (nat_lt k 0) (pooled k) is) where
    by : (nat_lt k 0 ≡ true) ⊎ (pooled k ≡ true) → pooled k ≡ true
    by (inl low) = absurd (omega (arith, ltb-true k 0 low))
    by (inr other) = other

  -- so it is where a round told of no constant of a COMPOOL more
  no_more_pooled : (vs : Known) → Fits vs → IsLessOn pooled (round ps vs ps) vs → IsStable (round ps vs ps)
  no_more_pooled vs fits less = λ k v is.
      let ws : Known = round ps vs ps in
      let also : Fits ws = round_fits ps vs fits in
      let more : Fits (round ps ws ps) = round_fits ps ws also in
      settled_less ps [] refl ws vs also fits (λ j on. less j (pooled_alone j on)) k
      (or_left (nat_lt k (length ps)) (pooled k) (lt-ltb k (length ps) (subst (λ n. k < n) more (none_beyond (round ps ws ps) k v is)))) v is

  -- and where it is, it stays so
  still_stable : (vs : Known) → Fits vs → IsStable vs → IsStable (round ps vs ps)
  still_stable vs fits stable = round_less ps [] refl (round ps vs ps) vs (round_fits ps vs fits) fits stable

  still_grows : (vs : Known) → Fits vs → IsLess vs (round ps vs ps) → IsLess (round ps vs ps) (round ps (round ps vs ps) ps)
  still_grows vs fits grows = round_less ps [] refl vs (round ps vs ps) fits (round_fits ps vs fits) grows

  -- how many of these declare a constant of a COMPOOL of which nothing is known
  abbrev is_open : Known → Phrase → Bool
  is_open vs p = pooled_phrase p && not (is_some (value_at vs p.number))

  abbrev one_if : Bool → ℕ
  one_if b = if b then 1 else 0

  open_count : Known → List Phrase → ℕ
  open_count vs [] = 0
  open_count vs (p ∷ xs) = one_if (is_open vs p) + open_count vs xs

  start_count : List Phrase → ℕ
  start_count [] = 0
  start_count (p ∷ xs) = one_if (starts_round ps p) + start_count xs

  open_less : (b : Bool) (o p : Option Value) → Gets o p → one_if (b && not (is_some p)) ≤ one_if (b && not (is_some o))
  open_less false o p gets = omega arith
  open_less true None None gets = omega arith
  open_less true None (Some w) gets = omega arith
  open_less true (Some v) None gets = absurd (let other = gets v refl in cc)
  open_less true (Some v) (Some w) gets = omega arith

  opens_less : (vs ws : Known) → IsLess vs ws → (xs : List Phrase) → open_count ws xs ≤ open_count vs xs
  unfolding open_count
  opens_less vs ws less [] = omega arith
  opens_less vs ws less (p ∷ xs) = let first = open_less (pooled_phrase p) (value_at vs p.number) (value_at ws p.number) (less p.number) in let rest = opens_less vs ws less xs in omega (arith, first, rest)

  -- where it is as many, no more is known of them
  same_by : (b : Bool) (o p : Option Value) → b ≡ true → one_if (b && not (is_some o)) ≤ one_if (b && not (is_some p)) → Gets o p → Gets p o
  same_by false o p is as_many gets v has = absurd (cc)
  same_by true None None is as_many gets v has = absurd (cc)
  same_by true None (Some w) is as_many gets v has = absurd (omega (arith, as_many))
  same_by true (Some u) p is as_many gets v has = let one = sym (gets u refl) ∙ has in cc

  same_opens : (vs ws : Known) → IsLess vs ws → (xs : List Phrase) → open_count vs xs ≤ open_count ws xs → (p : Phrase) → IsAmong p xs → pooled_phrase p ≡ true → Gets (value_at ws p.number) (value_at vs p.number)
  unfolding open_count
  same_opens vs ws less [] as_many p within is = absurd within
  same_opens vs ws less (x ∷ xs) as_many p (inl same) is =
      let rest = opens_less vs ws less xs in
      let here : one_if (is_open vs x) ≤ one_if (is_open ws x) = omega (arith, as_many, rest) in
      subst (λ (y : Phrase). Gets (value_at ws y.number) (value_at vs y.number)) (sym same)
      (same_by (pooled_phrase x) (value_at vs x.number) (value_at ws x.number) (ap pooled_phrase (sym same) ∙ is) here (less x.number))
  same_opens vs ws less (x ∷ xs) as_many p (inr later) is =
      let first = open_less (pooled_phrase x) (value_at vs x.number) (value_at ws x.number) (less x.number) in
      same_opens vs ws less xs (omega (arith, as_many, first)) p later is

  at_phrase : (xs : List Phrase) (k : ℕ) (o : Option Phrase) → slice_get xs k ≡ o → elim o [ None ↦ false | Some q ↦ pooled_phrase q ] ≡ true → (q : Phrase) × IsAmong q xs × (slice_get xs k ≡ Some q) × (pooled_phrase q ≡ true)
  at_phrase [] k None there is = absurd (cc)
  at_phrase [] k (Some q) there is = absurd (cc)
  at_phrase (x ∷ xs) k None there is = absurd (cc)
  at_phrase (x ∷ xs) zero (Some q) there is = (q, inl (let same : x ≡ q = cc in sym same), there, is)
  at_phrase (x ∷ xs) (suc k) (Some q) there is = let rest = at_phrase xs k (Some q) there is in (rest.0, inr rest.1, rest.2, rest.3)

  as_many_stable : (vs : Known) → Fits vs → IsLess vs (round ps vs ps) → open_count vs ps ≤ open_count (round ps vs ps) ps → IsStable (round ps vs ps)
  as_many_stable vs fits grows as_many =
      no_more_pooled vs fits
      (λ k on.
      let q = at_phrase ps k (slice_get ps k) refl on in
      subst (λ n. Gets (value_at (round ps vs ps) n) (value_at vs n)) (counted k q.0 q.2) (same_opens vs (round ps vs ps) grows ps as_many q.0 q.1 q.3))

  -- after rounds
  rounds_stay : (xs : List Phrase) (vs : Known) → Fits vs → IsLess vs (round ps vs ps) → IsStable vs → IsStable (rounds ps vs xs)
  unfolding rounds
  rounds_stay [] vs fits grows stable = stable
  rounds_stay (p ∷ xs) vs fits grows stable = by (starts_round ps p) (rounds_stay xs (round ps vs ps) (round_fits ps vs fits) (still_grows vs fits grows) (still_stable vs fits stable)) (rounds_stay xs vs fits grows stable) where
    by : (b : Bool) → IsStable (rounds ps (round ps vs ps) xs) → IsStable (rounds ps vs xs) → IsStable (if b then rounds ps (round ps vs ps) xs else rounds ps vs xs)
    by true first second = first
    by false first second = second

  rounds_stable : (xs : List Phrase) (vs : Known) → Fits vs → IsLess vs (round ps vs ps) → open_count vs ps < start_count xs → IsStable (rounds ps vs xs)
  unfolding rounds start_count
  rounds_stable [] vs fits grows less = absurd (omega (arith, less))
  rounds_stable (p ∷ xs) vs fits grows less = by (starts_round ps p) less (λ low. rounds_stable xs (round ps vs ps) (round_fits ps vs fits) (still_grows vs fits grows) low) (λ low. rounds_stable xs vs fits grows low) where
    once : (open_count (round ps vs ps) ps < start_count xs → IsStable (rounds ps (round ps vs ps) xs)) → open_count vs ps < 1 + start_count xs → (b : Bool) → nat_lt (open_count (round ps vs ps) ps) (open_count vs ps) ≡ b
        → IsStable (rounds ps (round ps vs ps) xs)
    once rest low true is = let fewer = ltb-true (open_count (round ps vs ps) ps) (open_count vs ps) is in rest (omega (arith, fewer, low))
    once rest low false is =
        let as_many = ltb-false (open_count (round ps vs ps) ps) (open_count vs ps) is in
        rounds_stay xs (round ps vs ps) (round_fits ps vs fits) (still_grows vs fits grows) (as_many_stable vs fits grows (omega (arith, as_many)))

    by : (b : Bool) → open_count vs ps < one_if b + start_count xs → (open_count (round ps vs ps) ps < start_count xs → IsStable (rounds ps (round ps vs ps) xs)) → (open_count vs ps < start_count xs → IsStable (rounds ps vs xs))
        → IsStable (if b then rounds ps (round ps vs ps) xs else rounds ps vs xs)
    by true low first second = once first low (nat_lt (open_count (round ps vs ps) ps) (open_count vs ps)) refl
    by false low first second = second (omega (arith, low))

  rounds_grow : (xs : List Phrase) (vs : Known) → Fits vs → IsLess vs (round ps vs ps) → IsLess (rounds ps vs xs) (round ps (rounds ps vs xs) ps)
  unfolding rounds
  rounds_grow [] vs fits grows = grows
  rounds_grow (p ∷ xs) vs fits grows = by (starts_round ps p) (rounds_grow xs (round ps vs ps) (round_fits ps vs fits) (still_grows vs fits grows)) (rounds_grow xs vs fits grows) where
    by : (b : Bool) → IsLess (rounds ps (round ps vs ps) xs) (round ps (rounds ps (round ps vs ps) xs) ps) → IsLess (rounds ps vs xs) (round ps (rounds ps vs xs) ps)
        → IsLess (if b then rounds ps (round ps vs ps) xs else rounds ps vs xs) (round ps (if b then rounds ps (round ps vs ps) xs else rounds ps vs xs) ps)
    by true first second = first
    by false first second = second

  rounds_fit : (xs : List Phrase) (vs : Known) → Fits vs → Fits (rounds ps vs xs)
  unfolding rounds
  rounds_fit [] vs fits = fits
  rounds_fit (p ∷ xs) vs fits = by (starts_round ps p) (rounds_fit xs (round ps vs ps) (round_fits ps vs fits)) (rounds_fit xs vs fits) where
    by : (b : Bool) → Fits (rounds ps (round ps vs ps) xs) → Fits (rounds ps vs xs) → Fits (if b then rounds ps (round ps vs ps) xs else rounds ps vs xs)
    by true first second = first
    by false first second = second

  -- nothing is known at first
  nothing_long : (n : ℕ) → (λ (vs : Known). length vs) (replicate n None) ≡ n
  nothing_long zero = refl
  nothing_long (suc n) = ap suc (nothing_long n)

  nothing_there : (n k : ℕ) (v : Value) → value_at (replicate n None) k ≡ Some v → ⊥
  nothing_there zero k v is = cc
  nothing_there (suc n) zero v is = cc
  nothing_there (suc n) (suc k) v is = nothing_there n k v is

  -- each constant of a COMPOOL starts a round
  starts_by : (file pool vague : Bool) → one_if (pool && vague) ≤ one_if (file || pool)
  starts_by true true true = omega arith
  starts_by true true false = omega arith
  starts_by true false vague = omega arith
  starts_by false true true = omega arith
  starts_by false true false = omega arith
  starts_by false false vague = omega arith

  starts_enough : (vs : Known) (xs : List Phrase) → open_count vs xs ≤ start_count xs
  unfolding open_count start_count
  starts_enough vs [] = omega arith
  starts_enough vs (p ∷ xs) = let first = starts_by (is_file p.node) (pooled_phrase p) (not (is_some (value_at vs p.number))) in let rest = starts_enough vs xs in omega (arith, first, rest)

  file_alone : (of_compool : Bool) (n : Node) → is_file n ≡ true → is_pooled of_compool n ≡ false
  unfolding is_file is_pooled
  file_alone of_compool (OfItem common item) is = absurd (cc)
  file_alone of_compool other is = refl

  file_starts : (file pool vague : Bool) → file ≡ true → pool ≡ false → one_if (pool && vague) < one_if (file || pool)
  file_starts true false vague is none = omega arith
  file_starts false pool vague is none = absurd (cc)
  file_starts true true vague is none = absurd (cc)

  -- and the first file one more
  starts_more : (vs : Known) (p : Phrase) (xs : List Phrase) → is_file p.node ≡ true → open_count vs (p ∷ xs) < start_count (p ∷ xs)
  unfolding open_count start_count
  starts_more vs p xs is =
      let first = file_starts (is_file p.node) (pooled_phrase p) (not (is_some (value_at vs p.number))) is (file_alone (is_compool_at ps p.around.home) p.node is) in
      let rest = starts_enough vs xs in
      omega (arith, first, rest)

  module _ (p : Phrase) (xs : List Phrase) (begins : ps ≡ p ∷ xs) (file : is_file p.node ≡ true) where
    nothing_fits : Fits (nothing_known ps)
    nothing_fits = nothing_long (length ps)

    nothing_grows : IsLess (nothing_known ps) (round ps (nothing_known ps) ps)
    nothing_grows k v is = absurd (nothing_there (length ps) k v is)

    known_stable : IsStable (known ps)
    known_stable = rounds_stable ps (nothing_known ps) nothing_fits nothing_grows (subst (λ (l : List Phrase). open_count (nothing_known ps) l < start_count l) (sym begins) (starts_more (nothing_known ps) p xs file))

    known_grows : IsLess (known ps) (round ps (known ps) ps)
    known_grows = rounds_grow ps (nothing_known ps) nothing_fits nothing_grows

    known_fits : Fits (known ps)
    known_fits = rounds_fit ps (nothing_known ps) nothing_fits

    -- what was told once in a round stays
    unwritten : (qs d : List Phrase) → ps ≡ d ++ qs → (vs : Known) (k : ℕ) → k < length d → value_at (round ps vs qs) k ≡ value_at vs k
    unfolding round
    unwritten [] d whole vs k low = refl
    unwritten (q ∷ qs) d whole vs k low =
        let number = number_is d q qs whole in
        let long = next_long d q qs whole in
        unwritten qs (d ++ (q ∷ [])) (next_whole d q qs whole) (noted ps vs q) k (omega (arith, low, long))
        ∙ set_other vs q.number k (declared_value ps vs q q.node) (λ same. omega (arith, same, number, low))

    -- what a phrase declares by what is known is told in the round
    told : (qs d : List Phrase) → ps ≡ d ++ qs → (vs : Known) → Fits vs → IsLess (known ps) vs → IsLess (known ps) (round ps vs qs) → (q : Phrase) → IsAmong q qs
        → Gets (declared_value ps (known ps) q q.node) (value_at (round ps vs qs) q.number)
    unfolding round
    told [] d whole vs fits less final q within = absurd within
    told (x ∷ qs) d whole vs fits less final q within = by within (λ later. told qs (d ++ (x ∷ [])) (next_whole d x qs whole) (noted ps vs x) (noted_fits vs x fits) noted_less final q later) where
      written : value_at (round ps (noted ps vs x) qs) x.number ≡ declared_value ps vs x x.node
      written =
          let number = number_is d x qs whole in
          let long = next_long d x qs whole in
          unwritten qs (d ++ (x ∷ [])) (next_whole d x qs whole) (noted ps vs x) x.number (omega (arith, number, long)) ∙ set_here vs x.number (declared_value ps vs x x.node) (low_number d x qs whole vs fits)

      noted_less : IsLess (known ps) (noted ps vs x)
      noted_less k v is = at (which x.number k) where
        at : (x.number ≡ k) ⊎ (x.number ≡ k → ⊥) → value_at (noted ps vs x) k ≡ Some v
        at (inl same) =
            ap (value_at (noted ps vs x)) (sym same)
            ∙ (set_here vs x.number (declared_value ps vs x x.node) (low_number d x qs whole vs fits) ∙ (sym written ∙ final x.number v (ap (value_at (known ps)) same ∙ is)))
        at (inr other) = set_other vs x.number k (declared_value ps vs x x.node) other ∙ less k v is

      by : (q ≡ x) ⊎ IsAmong q qs → (IsAmong q qs → Gets (declared_value ps (known ps) q q.node) (value_at (round ps (noted ps vs x) qs) q.number)) → Gets (declared_value ps (known ps) q q.node) (value_at (round ps (noted ps vs x) qs) q.number)
      by (inl same) rest =
          subst (λ (y : Phrase). Gets (declared_value ps (known ps) y y.node) (value_at (round ps (noted ps vs x) qs) y.number)) (sym same)
          (λ v is. written ∙ declared_gets ps (known ps) vs x (λ j r common item there item_is valued before w has. (before, less r.number w has)) x.node v is)
      by (inr later) rest = rest later

    -- so a constant that has a value by what is known is known
    pub declared_known : (q : Phrase) → IsAmong q ps → Gets (declared_value ps (known ps) q q.node) (value_at (known ps) q.number)
    declared_known q within v is = known_stable q.number v (told ps [] refl (known ps) known_fits (λ k w has. has) known_grows q within v is)

    -- what is known is what its phrase declares by that
    told_back : (qs d : List Phrase) → ps ≡ d ++ qs → (vs : Known) → Fits vs → IsLess vs (known ps) → IsLess (round ps vs qs) (known ps) → (q : Phrase) → IsAmong q qs
        → Gets (value_at (round ps vs qs) q.number) (declared_value ps (known ps) q q.node)
    unfolding round
    told_back [] d whole vs fits less final q within = absurd within
    told_back (x ∷ qs) d whole vs fits less final q within = by within (λ later. told_back qs (d ++ (x ∷ [])) (next_whole d x qs whole) (noted ps vs x) (noted_fits vs x fits) noted_less final q later) where
      written : value_at (round ps (noted ps vs x) qs) x.number ≡ declared_value ps vs x x.node
      written =
          let number = number_is d x qs whole in
          let long = next_long d x qs whole in
          unwritten qs (d ++ (x ∷ [])) (next_whole d x qs whole) (noted ps vs x) x.number (omega (arith, number, long)) ∙ set_here vs x.number (declared_value ps vs x x.node) (low_number d x qs whole vs fits)

      noted_less : IsLess (noted ps vs x) (known ps)
      noted_less k v is = at (which x.number k) where
        at : (x.number ≡ k) ⊎ (x.number ≡ k → ⊥) → value_at (known ps) k ≡ Some v
        at (inl same) =
            ap (value_at (known ps)) (sym same)
            ∙ final x.number v (written ∙ (sym (set_here vs x.number (declared_value ps vs x x.node) (low_number d x qs whole vs fits)) ∙ (ap (value_at (noted ps vs x)) same ∙ is)))
        at (inr other) = less k v (sym (set_other vs x.number k (declared_value ps vs x x.node) other) ∙ is)

      by : (q ≡ x) ⊎ IsAmong q qs → (IsAmong q qs → Gets (value_at (round ps (noted ps vs x) qs) q.number) (declared_value ps (known ps) q q.node)) → Gets (value_at (round ps (noted ps vs x) qs) q.number) (declared_value ps (known ps) q q.node)
      by (inl same) rest =
          subst (λ (y : Phrase). Gets (value_at (round ps (noted ps vs x) qs) y.number) (declared_value ps (known ps) y y.node)) (sym same)
          (λ v is. declared_gets ps vs (known ps) x (λ j r common item there item_is valued before w has. (before, less r.number w has)) x.node v (sym written ∙ is))
      by (inr later) rest = rest later

    pub known_declared : (q : Phrase) → IsAmong q ps → Gets (value_at (known ps) q.number) (declared_value ps (known ps) q q.node)
    known_declared q within v is = told_back ps [] refl (known ps) known_fits (λ k w has. has) known_stable q within v (known_grows q.number v is)
