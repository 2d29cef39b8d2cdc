-- A block reaches what is reached by one that it reaches: a set has no more units than calls are counted.
use Rattle.std.specs.Prelude.{◌≡◌, ◌≤◌, ◌<◌, ◌⊎◌, ℕ, zero, suc, ◌+◌, ◌==◌, Bool, true, false, ◌||◌, List, [], ◌∷◌, length, filter, filter_map, cond, Some, None, if◌then◌else◌}
use Rattle.std.specs.List.{list_any, cons_option}
use Rattle.std.proofs.Common.{refl, sym, ap, subst, inl, inr, arith}
use Rattle.std.proofs.lemmas.Bool.{eqb-true, eq-eqb, or_left, or_right}
use Rattle.hal_phrases.specs.Phrases.{Phrase}
use Rattle.hal_meaning.specs.Bodies.{is_unit, callees, reaches_within, unit_count, reaches}
use Rattle.hal_meaning.specs.Places.{unit_numbers}
use Rattle.hal_reach.proofs.Callees.{has_callees}
use Rattle.hal_reach.proofs.Within.{Has, HasAll}
use Rattle.hal_fit_calls.specs.Each.{Each}
use Rattle.hal_fit_calls.proofs.Each.{each_one}

-- how many pass a test
abbrev pub passed : (ℕ → Bool) → List ℕ → ℕ
passed f xs = length (filter f xs)

-- what passes one test passes another one
abbrev pub Passes : (ℕ → Bool) → (ℕ → Bool) → ℕ → Type 0
Passes f g x = f x ≡ true → g x ≡ true

one_passes : (f g : ℕ → Bool) (x : ℕ) (xs : List ℕ) (a b : Bool) → f x ≡ a → g x ≡ b → Passes f g x → passed f xs ≤ passed g xs → passed f (x ∷ xs) ≤ passed g (x ∷ xs)
one_passes f g x xs true true is also so less =
    let first = ap (λ c. length (cond c (x ∷ filter f xs) (filter f xs))) is in
    let second = ap (λ c. length (cond c (x ∷ filter g xs) (filter g xs))) also in
    omega (arith, first, second, less)
one_passes f g x xs true false is also so less = let passes = so is in absurd (cc)
one_passes f g x xs false true is also so less =
    let first = ap (λ c. length (cond c (x ∷ filter f xs) (filter f xs))) is in
    let second = ap (λ c. length (cond c (x ∷ filter g xs) (filter g xs))) also in
    omega (arith, first, second, less)
one_passes f g x xs false false is also so less =
    let first = ap (λ c. length (cond c (x ∷ filter f xs) (filter f xs))) is in
    let second = ap (λ c. length (cond c (x ∷ filter g xs) (filter g xs))) also in
    omega (arith, first, second, less)

pub fewer_pass : (f g : ℕ → Bool) (xs : List ℕ) → Each (Passes f g) xs → passed f xs ≤ passed g xs
fewer_pass f g [] each = omega arith
fewer_pass f g (x ∷ xs) each = one_passes f g x xs (f x) (g x) refl refl each.0 (fewer_pass f g xs each.1)

-- where no more pass the other one, what passes it passes the first one
one_same : (f g : ℕ → Bool) (x : ℕ) (xs : List ℕ) (a b : Bool) → f x ≡ a → g x ≡ b → Passes f g x → passed f xs ≤ passed g xs → passed g (x ∷ xs) ≤ passed f (x ∷ xs)
    → (passed g xs ≤ passed f xs → Each (Passes g f) xs) → Each (Passes g f) (x ∷ xs)
one_same f g x xs true true is also so less same rest =
    let first = ap (λ c. length (cond c (x ∷ filter f xs) (filter f xs))) is in
    let second = ap (λ c. length (cond c (x ∷ filter g xs) (filter g xs))) also in
    ((λ passes. is), rest (omega (arith, first, second, same)))
one_same f g x xs true false is also so less same rest = let passes = so is in absurd (cc)
one_same f g x xs false true is also so less same rest =
    let first = ap (λ c. length (cond c (x ∷ filter f xs) (filter f xs))) is in
    let second = ap (λ c. length (cond c (x ∷ filter g xs) (filter g xs))) also in
    absurd (omega (arith, first, second, same, less))
one_same f g x xs false false is also so less same rest =
    let first = ap (λ c. length (cond c (x ∷ filter f xs) (filter f xs))) is in
    let second = ap (λ c. length (cond c (x ∷ filter g xs) (filter g xs))) also in
    ((λ passes. absurd (cc)), rest (omega (arith, first, second, same)))

pub as_many : (f g : ℕ → Bool) (xs : List ℕ) → Each (Passes f g) xs → passed g xs ≤ passed f xs → Each (Passes g f) xs
as_many f g [] each same = tt
as_many f g (x ∷ xs) each same = one_same f g x xs (f x) (g x) refl refl each.0 (fewer_pass f g xs each.1) same (λ less. as_many f g xs each.1 less)

-- one of a list
of_one_by : (P : ℕ → Type 0) (x k : ℕ) (xs : List ℕ) (b : Bool) → (x == k) ≡ b → Each P (x ∷ xs) → (Has xs k → P k) → (b || list_any (λ n. n == k) xs) ≡ true → P k
of_one_by P x k xs true is each rest has = subst P (eqb-true x k is) each.0
of_one_by P x k xs false is each rest has = rest has

pub of_one : (P : ℕ → Type 0) (xs : List ℕ) (k : ℕ) → Each P xs → Has xs k → P k
of_one P [] k each has = absurd (cc)
of_one P (x ∷ xs) k each has = of_one_by P x k xs (x == k) refl each (of_one P xs k each.1) has

all_pass : (xs : List ℕ) → passed (λ x. true) xs ≡ length xs
all_pass [] = refl
all_pass (x ∷ xs) = ap suc (all_pass xs)

pub few_pass : (f : ℕ → Bool) (xs : List ℕ) → passed f xs ≤ length xs
few_pass f xs = let all = all_pass xs in let fewer = fewer_pass f (λ x. true) xs (each_one (Passes f (λ x. true)) xs (λ x so. refl)) in omega (arith, all, fewer)

pub compared : (a b : ℕ) → (b ≤ a) ⊎ (a < b)
compared zero zero = inl (omega arith)
compared zero (suc b) = inr (omega arith)
compared (suc a) zero = inl (omega arith)
compared (suc a) (suc b) = by (compared a b) where
  by : (b ≤ a) ⊎ (a < b) → (suc b ≤ suc a) ⊎ (suc a < suc b)
  by (inl less) = inl (omega (arith, less))
  by (inr more) = inr (omega (arith, more))

-- some that are so
any_weaker : (f g : ℕ → Bool) (xs : List ℕ) → ((x : ℕ) → Passes f g x) → list_any f xs ≡ true → list_any g xs ≡ true
any_weaker f g [] weaker is = absurd (cc)
any_weaker f g (x ∷ xs) weaker is = by (f x) refl (any_weaker f g xs weaker) is where
  by : (b : Bool) → f x ≡ b → (list_any f xs ≡ true → list_any g xs ≡ true) → (b || list_any f xs) ≡ true → (g x || list_any g xs) ≡ true
  by true so rest has = or_left (g x) (list_any g xs) (weaker x so)
  by false so rest has = or_right (g x) (list_any g xs) (rest has)

any_among : (f g : ℕ → Bool) (ns xs : List ℕ) → HasAll ns xs → ((x : ℕ) → Has ns x → f x ≡ true → g x ≡ true) → list_any f xs ≡ true → list_any g xs ≡ true
any_among f g ns [] all so is = absurd (cc)
any_among f g ns (x ∷ xs) all so is = by (f x) refl (any_among f g ns xs all.1 so) is where
  by : (b : Bool) → f x ≡ b → (list_any f xs ≡ true → list_any g xs ≡ true) → (b || list_any f xs) ≡ true → (g x || list_any g xs) ≡ true
  by true is_so rest has = or_left (g x) (list_any g xs) (so x all.0 is_so)
  by false is_so rest has = or_right (g x) (list_any g xs) (rest has)

or_weaker : (a b c : Bool) → (b ≡ true → c ≡ true) → (a || b) ≡ true → (a || c) ≡ true
or_weaker true b c so is = refl
or_weaker false b c so is = so is

module _ (ps : List Phrase) where
  -- one more call
  pub one_more_call : (n from to : ℕ) → reaches_within n ps from to ≡ true → reaches_within (suc n) ps from to ≡ true
  one_more_call zero from to is = or_left (from == to) (list_any (λ q. reaches_within zero ps q to) (callees ps from)) is
  one_more_call (suc n) from to is =
      or_weaker (from == to) (list_any (λ q. reaches_within n ps q to) (callees ps from)) (list_any (λ q. reaches_within (suc n) ps q to) (callees ps from))
      (any_weaker (λ q. reaches_within n ps q to) (λ q. reaches_within (suc n) ps q to) (callees ps from) (λ q so. one_more_call n q to so)) is

  more_calls : (m n from to : ℕ) → reaches_within n ps from to ≡ true → reaches_within (m + n) ps from to ≡ true
  more_calls zero n from to is = let same : n ≡ zero + n = omega arith in subst (λ k. reaches_within k ps from to ≡ true) same is
  more_calls (suc m) n from to is =
      let same : suc (m + n) ≡ suc m + n = omega arith in
      subst (λ k. reaches_within k ps from to ≡ true) same (one_more_call (m + n) from to (more_calls m n from to is))

  -- and then others
  pub calls_in_turn : (m n from middle to : ℕ) → reaches_within m ps from middle ≡ true → reaches_within n ps middle to ≡ true → reaches_within (m + n) ps from to ≡ true
  calls_in_turn zero n from middle to first last =
      let same : n ≡ zero + n = omega arith in
      subst (λ k. reaches_within k ps from to ≡ true) same (subst (λ k. reaches_within n ps k to ≡ true) (sym (eqb-true from middle first)) last)
  calls_in_turn (suc m) n from middle to first last =
      by (from == middle) refl (any_weaker (λ q. reaches_within m ps q middle) (λ q. reaches_within (m + n) ps q to) (callees ps from) (λ q so. calls_in_turn m n q middle to so last)) first where
        by : (b : Bool) → (from == middle) ≡ b → (list_any (λ q. reaches_within m ps q middle) (callees ps from) ≡ true → list_any (λ q. reaches_within (m + n) ps q to) (callees ps from) ≡ true)
            → (b || list_any (λ q. reaches_within m ps q middle) (callees ps from)) ≡ true → reaches_within (suc m + n) ps from to ≡ true
        by true is rest has = more_calls (suc m) n from to (subst (λ k. reaches_within n ps k to ≡ true) (sym (eqb-true from middle is)) last)
        by false is rest has =
            let same : suc (m + n) ≡ suc m + n = omega arith in
            subst (λ k. reaches_within k ps from to ≡ true) same (or_right (from == to) (list_any (λ q. reaches_within (m + n) ps q to) (callees ps from)) (rest has))

  module _ (to : ℕ) where
    abbrev within : ℕ → ℕ → Bool
    within n from = reaches_within n ps from to

    -- no unit reaches it by so many calls and one more alone
    abbrev Stays : ℕ → Type 0
    Stays n = (from : ℕ) → Has (unit_numbers ps) from → within (suc n) from ≡ true → within n from ≡ true

    stays_on : (n : ℕ) → Stays n → Stays (suc n)
    stays_on n stays from has is =
        or_weaker (from == to) (list_any (within (suc n)) (callees ps from)) (list_any (within n) (callees ps from))
        (any_among (within (suc n)) (within n) (unit_numbers ps) (callees ps from) (has_callees ps from) stays) is

    stays_later : (m n : ℕ) → Stays n → Stays (m + n)
    stays_later zero n stays = let same : n ≡ zero + n = omega arith in subst Stays same stays
    stays_later (suc m) n stays = let same : suc (m + n) ≡ suc m + n = omega arith in subst Stays same (stays_on (m + n) (stays_later m n stays))

    -- either it stays so, or so many units reach it
    record StaysBefore (n : ℕ) : Type 0 where
      at : ℕ
      more : ℕ
      is : more + at ≡ n
      stays : Stays at

    abbrev units_within : ℕ → ℕ
    units_within n = passed (within n) (unit_numbers ps)

    stays_by : (n : ℕ) → units_within (suc n) ≤ units_within n → Stays n
    stays_by n less from has is = of_one (Passes (within (suc n)) (within n)) (unit_numbers ps) from
        (as_many (within n) (within (suc n)) (unit_numbers ps) (each_one (Passes (within n) (within (suc n))) (unit_numbers ps) (λ x so. one_more_call n x to so)) less) has is

    grows : (n : ℕ) → StaysBefore n ⊎ (n ≤ units_within n)
    grows zero = inr (omega arith)
    grows (suc n) = by (grows n) (compared (units_within n) (units_within (suc n))) where
      by : StaysBefore n ⊎ (n ≤ units_within n) → (units_within (suc n) ≤ units_within n) ⊎ (units_within n < units_within (suc n)) → StaysBefore (suc n) ⊎ (suc n ≤ units_within (suc n))
      by (inl before) other = inl (let is = before.is in record { at = before.at; more = suc before.more; is = omega (arith, is); stays = before.stays })
      by (inr many) (inl less) = inl (record { at = n; more = 1; is = omega arith; stays = stays_by n less })
      by (inr many) (inr more) = inr (omega (arith, many, more))

    all_within : (n : ℕ) → length (unit_numbers ps) ≤ units_within n → Stays n
    all_within n many from has is =
        let all = all_pass (unit_numbers ps) in
        of_one (Passes (λ x. true) (within n)) (unit_numbers ps) from
        (as_many (within n) (λ x. true) (unit_numbers ps) (each_one (Passes (within n) (λ x. true)) (unit_numbers ps) (λ x so. refl)) (omega (arith, many, all))) has refl

    -- with as many calls as there are units it stays so
    stays_at_last : Stays (length (unit_numbers ps))
    stays_at_last = by (grows (length (unit_numbers ps))) where
      by : StaysBefore (length (unit_numbers ps)) ⊎ (length (unit_numbers ps) ≤ units_within (length (unit_numbers ps))) → Stays (length (unit_numbers ps))
      by (inl before) = subst Stays before.is (stays_later before.more before.at before.stays)
      by (inr many) = all_within (length (unit_numbers ps)) many

    falls_back : (m : ℕ) (from : ℕ) → Has (unit_numbers ps) from → within (m + length (unit_numbers ps)) from ≡ true → within (length (unit_numbers ps)) from ≡ true
    falls_back zero from has is = let same : zero + length (unit_numbers ps) ≡ length (unit_numbers ps) = omega arith in subst (λ k. within k from ≡ true) same is
    falls_back (suc m) from has is =
        let same : suc m + length (unit_numbers ps) ≡ suc (m + length (unit_numbers ps)) = omega arith in
        falls_back m from has (stays_later m (length (unit_numbers ps)) stays_at_last from has (subst (λ k. within k from ≡ true) same is))

  as_many_units : (qs : List Phrase) → length (filter (λ (p : Phrase). is_unit p.node) qs) ≡ length (filter_map (λ (p : Phrase). if is_unit p.node then Some p.number else None) qs)
  as_many_units [] = refl
  as_many_units (q ∷ qs) = by (is_unit q.node) (as_many_units qs) where
    by : (b : Bool) → length (filter (λ (p : Phrase). is_unit p.node) qs) ≡ length (unit_numbers qs)
        → length (cond b (q ∷ filter (λ (p : Phrase). is_unit p.node) qs) (filter (λ (p : Phrase). is_unit p.node) qs)) ≡ length (cons_option (if b then Some q.number else None) (unit_numbers qs))
    by true rest = ap suc rest
    by false rest = rest

  -- a unit reaches what those reach that it reaches
  pub reaches_on : (from middle to : ℕ) → Has (unit_numbers ps) from → reaches ps from middle ≡ true → reaches ps middle to ≡ true → reaches ps from to ≡ true
  reaches_on from middle to has first last =
      let many : unit_count ps ≡ length (unit_numbers ps) = as_many_units ps in
      subst (λ n. reaches_within n ps from to ≡ true) (sym many)
      (falls_back to (length (unit_numbers ps)) from has
      (calls_in_turn (length (unit_numbers ps)) (length (unit_numbers ps)) from middle to (subst (λ n. reaches_within n ps from middle ≡ true) many first)
      (subst (λ n. reaches_within n ps middle to ≡ true) many last)))

  -- a unit reaches itself, and those that it calls
  within_itself : (n q : ℕ) → reaches_within n ps q q ≡ true
  within_itself zero q = eq-eqb q q refl
  within_itself (suc n) q = or_left (q == q) (list_any (λ k. reaches_within n ps k q) (callees ps q)) (eq-eqb q q refl)

  pub reaches_itself : (q : ℕ) → reaches ps q q ≡ true
  reaches_itself q = within_itself (unit_count ps) q

  any_called : (n u : ℕ) (qs : List ℕ) → Has qs u → list_any (λ q. reaches_within n ps q u) qs ≡ true
  any_called n u [] has = absurd (cc)
  any_called n u (q ∷ qs) has = by (q == u) refl (any_called n u qs) has where
    by : (b : Bool) → (q == u) ≡ b → (Has qs u → list_any (λ k. reaches_within n ps k u) qs ≡ true) → (b || list_any (λ k. k == u) qs) ≡ true → (reaches_within n ps q u || list_any (λ k. reaches_within n ps k u) qs) ≡ true
    by true is rest found = or_left (reaches_within n ps q u) (list_any (λ k. reaches_within n ps k u) qs) (subst (λ k. reaches_within n ps k u ≡ true) (sym (eqb-true q u is)) (within_itself n u))
    by false is rest found = or_right (reaches_within n ps q u) (list_any (λ k. reaches_within n ps k u) qs) (rest found)

  some_unit : (ns : List ℕ) (q : ℕ) → Has ns q → 0 < length ns
  some_unit [] q has = absurd (cc)
  some_unit (n ∷ ns) q has = omega arith

  by_count : (n c u : ℕ) → 0 < n → Has (callees ps c) u → reaches_within n ps c u ≡ true
  by_count zero c u some called = absurd (omega (arith, some))
  by_count (suc n) c u some called = or_right (c == u) (list_any (λ q. reaches_within n ps q u) (callees ps c)) (any_called n u (callees ps c) called)

  pub reaches_callee : (c u : ℕ) → Has (unit_numbers ps) c → Has (callees ps c) u → reaches ps c u ≡ true
  reaches_callee c u has called = by_count (unit_count ps) c u (subst (λ n. 0 < n) (sym (as_many_units ps)) (some_unit (unit_numbers ps) c has)) called
