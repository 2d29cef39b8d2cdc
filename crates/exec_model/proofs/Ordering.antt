-- The order of Ready rows: it is strict and total, the places of Ready rows are 0, 1, 2 and so on, and the list of the first rows has just those.
use Rattle.std.proofs.Common.{◌≡◌, ◌≢◌, ℕ, zero, suc, ◌+◌, ◌<◌, ◌≤◌, ◌==◌, nat_lt, ◌⊎◌, inl, inr, ◌↔◌, Bool, true, false, ◌&&◌, cond, List, [], ◌∷◌, length, get_or, slice_get, Option, Some, None, Contains, count_by, filter_map, find, refl, sym, ◌∙◌, ap, subst, arith}
use Rattle.std.specs.List.{range_with_len, cons_option}
use Rattle.std.proofs.lemmas.Bool.{and_parts, and_from, and_left, and_right, cases_lt, cases_eq, cases_Bool, true≢false, false_from_ne_true, cond-true, cond-false, eqb-true, eq-eqb}
use Rattle.std.proofs.lemmas.Option.{none-some, same_Some, slice_get_within, slice_get-get_or, get_or_from_slice_get}
use Rattle.std.proofs.lemmas.Bool.Decides.{nat_tests}
use Rattle.std.proofs.lemmas.List.{get_or_past}
use Rattle.std.proofs.lemmas.List.Sums.{sum_by-cons}
use Rattle.exec_model.specs.declared.row.Row.{Row}
use Rattle.exec_model.specs.Order.{has_smaller_stamp, has_greater_priority, goes_before, is_ahead, place_of, IsInFirst, ready_at, first}
use Rattle.exec_model.specs.Rows.{row_in, idle_row, is_ready}

-- nothing has a smaller stamp than itself
smaller-irreflexive : (p : ℕ) (row : Row) → has_smaller_stamp p row p row ≡ false
smaller-irreflexive p row = grind (arith, nat_tests)

-- smaller stamps: from one to the next
smaller-transitive : (p o r : ℕ) (a b c : Row) → has_smaller_stamp p a o b ≡ true → has_smaller_stamp o b r c ≡ true → has_smaller_stamp p a r c ≡ true
smaller-transitive p o r a b c before after = grind (arith, nat_tests)

-- of two processes one has the smaller stamp
smaller-total : (p o : ℕ) (a b : Row) → p ≢ o → (has_smaller_stamp p a o b ≡ true) ⊎ (has_smaller_stamp o b p a ≡ true)
smaller-total p o a b apart = grind (arith, nat_tests)

-- nothing has a greater priority than itself
priority-irreflexive : (p : ℕ) (row : Row) → has_greater_priority p row p row ≡ false
priority-irreflexive p row = grind (arith, nat_tests, smaller-irreflexive)

-- greater priorities: from one to the next
priority-transitive : (p o r : ℕ) (a b c : Row) → has_greater_priority p a o b ≡ true → has_greater_priority o b r c ≡ true → has_greater_priority p a r c ≡ true
priority-transitive p o r a b c before after = go (a.priority) (b.priority) (c.priority) (smaller-transitive p o r a b c) before after
  where
    go : (x y z : ℕ) {s t u : Bool} → (s ≡ true → t ≡ true → u ≡ true) → cond (x == y) s (nat_lt y x) ≡ true → cond (y == z) t (nat_lt z y) ≡ true → cond (x == z) u (nat_lt z x) ≡ true
    go x y z same one two = grind (arith, nat_tests)

-- of two processes one goes first by priority
priority-total : (p o : ℕ) (a b : Row) → p ≢ o → (has_greater_priority p a o b ≡ true) ⊎ (has_greater_priority o b p a ≡ true)
priority-total p o a b apart = go a.priority b.priority (smaller-total p o a b apart)
  where
    go : (x y : ℕ) {s t : Bool} → (s ≡ true) ⊎ (t ≡ true) → (cond (x == y) s (nat_lt y x) ≡ true) ⊎ (cond (y == x) t (nat_lt x y) ≡ true)
    go x y same = grind (arith, nat_tests)

-- no process goes before itself
pub goes_before-irreflexive : (p : ℕ) (row : Row) → goes_before p row p row ≡ false
goes_before-irreflexive p row = go row.inside (priority-irreflexive p row)
  where
    go : (x : Bool) {s : Bool} → s ≡ false → cond x (cond x s true) (cond x false s) ≡ false
    go true same = same
    go false same = same

-- what goes before one that goes before a third goes before the third
pub goes_before-transitive : (p o r : ℕ) (a b c : Row) → goes_before p a o b ≡ true → goes_before o b r c ≡ true → goes_before p a r c ≡ true
goes_before-transitive p o r a b c before after = go a.inside b.inside c.inside (priority-transitive p o r a b c) before after
  where
    go : (x y z : Bool) {s t u : Bool} → (s ≡ true → t ≡ true → u ≡ true) → cond x (cond y s true) (cond y false s) ≡ true → cond y (cond z t true) (cond z false t) ≡ true → cond x (cond z u true) (cond z false u) ≡ true
    go true true true same one two = same one two
    go true true false same one two = refl
    go true false true same one two = cc
    go true false false same one two = refl
    go false true z same one two = cc
    go false false true same one two = cc
    go false false false same one two = same one two

-- of two processes one goes before the other
pub goes_before-total : (p o : ℕ) (a b : Row) → p ≢ o → (goes_before p a o b ≡ true) ⊎ (goes_before o b p a ≡ true)
goes_before-total p o a b apart = go a.inside b.inside (priority-total p o a b apart)
  where
    go : (x y : Bool) {s t : Bool} → (s ≡ true) ⊎ (t ≡ true) → (cond x (cond y s true) (cond y false s) ≡ true) ⊎ (cond y (cond x t true) (cond x false t) ≡ true)
    go true true same = same
    go true false same = inl refl
    go false true same = inr refl
    go false false same = same

-- a process with a Ready row has a row
pub ready-exists : (rows : List Row) (p : ℕ) → is_ready (row_in rows p) ≡ true → p < length rows
ready-exists rows p ready = elim (cases_lt p (length rows)) [
  | inl there ↦ there
  | inr past ↦ absurd (true≢false (sym ready ∙ ap is_ready (get_or_past rows p idle_row past)))
]

-- the number is one of so many from another on
abbrev pub IsFrom : ℕ → ℕ → ℕ → Type 0
IsFrom a n x = (a ≤ x) × (x < a + n)

-- the first number counts where it passes
pub count_by-more : (f : ℕ → Bool) (a n : ℕ) → count_by f (range_with_len a (suc n)) ≡ cond (f a) 1 0 + count_by f (range_with_len (a + 1) n)
count_by-more f a n = sum_by-cons (λ x. cond (f x) 1 0) a (range_with_len (a + 1) n)

-- the numbers that pass one test pass the other: they are not more
count_by-le : (f g : ℕ → Bool) (a n : ℕ) → ((x : ℕ) → f x ≡ true → g x ≡ true) → count_by f (range_with_len a n) ≤ count_by g (range_with_len a n)
count_by-le f g a zero into = omega arith
count_by-le f g a (suc n) into = omega (arith, count_by-more f a n, count_by-more g a n, go (f a) (g a) (into a) (count_by-le f g (a + 1) n into))
  where
    go : (x y : Bool) {s t : ℕ} → (x ≡ true → y ≡ true) → s ≤ t → cond x 1 0 + s ≤ cond y 1 0 + t
    go true true here rest = omega arith
    go true false here rest = absurd (true≢false (sym (here refl)))
    go false true here rest = omega arith
    go false false here rest = omega arith

-- tests that agree from a number on pass equally many of those that follow
count_by-same : (f g : ℕ → Bool) (a n : ℕ) → ((x : ℕ) → a ≤ x → f x ≡ g x) → count_by f (range_with_len a n) ≡ count_by g (range_with_len a n)
count_by-same f g a zero same = refl
count_by-same f g a (suc n) same = omega (arith, count_by-more f a n, count_by-more g a n, ap {B = ℕ} (λ b. cond b 1 0) (same a (omega arith)), count_by-same f g (a + 1) n (λ x above. same x (omega arith)))

-- and they are fewer where a number passes the other test alone
count_by-lt : (f g : ℕ → Bool) (a n x : ℕ) → ((x : ℕ) → f x ≡ true → g x ≡ true) → IsFrom a n x → f x ≡ false → g x ≡ true → count_by f (range_with_len a n) < count_by g (range_with_len a n)
count_by-lt f g a zero x into from fails passes = absurd (omega arith)
count_by-lt f g a (suc n) x into from fails passes = elim (cases_eq x a) [
  | inl here ↦ omega (
    arith,
    count_by-more f a n,
    count_by-more g a n,
    here_counts (f a) (g a) (subst (λ y. f y ≡ false) here fails) (subst (λ y. g y ≡ true) here passes) (count_by-le f g (a + 1) n into),
  )
  | inr other ↦ omega (
    arith,
    count_by-more f a n,
    count_by-more g a n,
    later_counts (f a) (g a) (into a) (count_by-lt f g (a + 1) n x into (omega arith, omega arith) fails passes),
  )
]
  where
    here_counts : (x y : Bool) {s t : ℕ} → x ≡ false → y ≡ true → s ≤ t → cond x 1 0 + s < cond y 1 0 + t
    here_counts x y fails passes rest = rw (fails, passes) (omega arith)

    later_counts : (x y : Bool) {s t : ℕ} → (x ≡ true → y ≡ true) → s < t → cond x 1 0 + s < cond y 1 0 + t
    later_counts true true here rest = omega arith
    later_counts true false here rest = absurd (true≢false (sym (here refl)))
    later_counts false true here rest = omega arith
    later_counts false false here rest = omega arith

-- the rows before one that goes before another go before that other too, and it itself does
pub place_of-before : (rows : List Row) (p o : ℕ) → is_ready (row_in rows p) ≡ true → goes_before p (row_in rows p) o (row_in rows o) ≡ true → place_of rows p < place_of rows o
place_of-before rows p o ready before = count_by-lt (is_ahead rows p) (is_ahead rows o) 0 (length rows) p into (omega arith, omega (arith, ready-exists rows p ready))
    (rw goes_before-irreflexive (and_right (is_ready (row_in rows p)) false refl)) (and_from _ _ ready before)
  where
    into : (x : ℕ) → is_ahead rows p x ≡ true → is_ahead rows o x ≡ true
    into x ahead = let both = and_parts (is_ready (row_in rows x)) (goes_before x (row_in rows x) p (row_in rows p)) ahead in
        and_from _ _ both.0 (goes_before-transitive x p o (row_in rows x) (row_in rows p) (row_in rows o) both.1 before)

-- no two Ready rows have one place
pub place-apart : (rows : List Row) (p o : ℕ) → is_ready (row_in rows p) ≡ true → is_ready (row_in rows o) ≡ true → place_of rows p ≡ place_of rows o → p ≡ o
place-apart rows p o first second same = elim (cases_eq p o) [
  | inl e ↦ e
  | inr apart ↦ elim (goes_before-total p o (row_in rows p) (row_in rows o) apart) [
    | inl before ↦ absurd (omega (arith, place_of-before rows p o first before))
    | inr after ↦ absurd (omega (arith, place_of-before rows o p second after))
  ]
]

-- a Ready row with a smaller place goes before
pub place-before : (rows : List Row) (p o : ℕ) → is_ready (row_in rows o) ≡ true → place_of rows p < place_of rows o → goes_before p (row_in rows p) o (row_in rows o) ≡ true
place-before rows p o ready below = elim (cases_eq p o) [
  | inl e ↦ absurd (omega (arith, ap (place_of rows) e))
  | inr apart ↦ elim (goes_before-total p o (row_in rows p) (row_in rows o) apart) [
    | inl before ↦ before
    | inr after ↦ absurd (omega (arith, place_of-before rows o p ready after))
  ]
]

-- the row before which none goes is one alone
pub first-one : (rows : List Row) (p o : ℕ) → IsInFirst 1 rows p → IsInFirst 1 rows o → p ≡ o
first-one rows p o one two = place-apart rows p o one.ready two.ready (omega arith)

-- the first rows are among more first rows
pub first-wider : (a b : ℕ) (rows : List Row) (p : ℕ) → IsInFirst a rows p → a ≤ b → IsInFirst b rows p
first-wider a b rows p early wide = record { ready = early.ready; early = omega arith }

-- the row before which none goes, goes before all others
pub first-ahead : (rows : List Row) (p : ℕ) → place_of rows p ≡ 0 → (o : ℕ) → is_ready (row_in rows o) ≡ true → o ≢ p → goes_before p (row_in rows p) o (row_in rows o) ≡ true
first-ahead rows p none o ready apart = elim (goes_before-total p o (row_in rows p) (row_in rows o) (λ e. apart (sym e))) [
  | inl before ↦ before
  | inr after ↦ absurd (omega (arith, place_of-before rows o p ready after))
]

-- x is the last of the numbers that pass: all others that pass go before it
record IsLast (rows : List Row) (f : ℕ → Bool) (a n x : ℕ) : Type 0 where
  pub from : IsFrom a n x
  pub passes : f x ≡ true
  pub last : (y : ℕ) → IsFrom a n y → f y ≡ true → y ≢ x → goes_before y (row_in rows y) x (row_in rows x) ≡ true

-- where one process doesn't go before another, the other goes before it
pub goes_before-turned : (p o : ℕ) (a b : Row) → p ≢ o → goes_before p a o b ≡ false → goes_before o b p a ≡ true
goes_before-turned p o a b apart after = elim (goes_before-total p o a b apart) [
  | inl before ↦ absurd (true≢false (sym before ∙ after))
  | inr behind ↦ behind
]

-- the first number is the last that passes where none of the others does
IsLast-alone : (rows : List Row) (f : ℕ → Bool) (a n : ℕ) → f a ≡ true → count_by f (range_with_len (a + 1) n) ≡ 0 → IsLast rows f a (suc n) a
IsLast-alone rows f a n here none = record {
  from = (omega arith, omega arith);
  passes = here;
  last = λ y from passes apart. absurd (omega (arith, count_by-lt (λ _. false) f (a + 1) n y (λ x e. absurd (true≢false (sym e))) (omega arith, omega arith) refl passes));
}

-- the last of the others is the last of all where the first number goes before it
IsLast-later : (rows : List Row) (f : ℕ → Bool) (a n x : ℕ) → (f a ≡ true → goes_before a (row_in rows a) x (row_in rows x) ≡ true) → IsLast rows f (a + 1) n x → IsLast rows f a (suc n) x
IsLast-later rows f a n x before later = record {
  from = (omega (arith, later.from), omega (arith, later.from));
  passes = later.passes;
  last = λ y from passes apart. elim (cases_eq y a) [
    | inl e ↦ subst (λ z. goes_before z (row_in rows z) x (row_in rows x) ≡ true) (sym e) (before (subst (λ z. f z ≡ true) e passes))
    | inr other ↦ later.last y (omega arith, omega arith) passes apart
  ];
}

-- the first number is the last of all where the last of the others goes before it
IsLast-first : (rows : List Row) (f : ℕ → Bool) (a n x : ℕ) → f a ≡ true → goes_before x (row_in rows x) a (row_in rows a) ≡ true → IsLast rows f (a + 1) n x → IsLast rows f a (suc n) a
IsLast-first rows f a n x here before later = record {
  from = (omega arith, omega arith);
  passes = here;
  last = λ y from passes apart. elim (cases_eq y x) [
    | inl e ↦ subst (λ z. goes_before z (row_in rows z) a (row_in rows a) ≡ true) (sym e) before
    | inr other ↦ goes_before-transitive y x a (row_in rows y) (row_in rows x) (row_in rows a) (later.last y (omega arith, omega arith) passes other) before
  ];
}

-- of the first number and the last of the others one is the last
last-with_more : (rows : List Row) (f : ℕ → Bool) (a n : ℕ) → f a ≡ true → (x : ℕ) × IsLast rows f (a + 1) n x → (x : ℕ) × IsLast rows f a (suc n) x
last-with_more rows f a n here later = elim (cases_Bool (goes_before a (row_in rows a) later.0 (row_in rows later.0))) [
  | inl before ↦ (later.0, IsLast-later rows f a n later.0 (λ _. before) later.1)
  | inr after ↦ (a, IsLast-first rows f a n later.0 here (goes_before-turned a later.0 (row_in rows a) (row_in rows later.0) (λ e. omega (arith, later.1.from)) after) later.1)
]

-- where numbers pass, one of them is the last
last-exists : (rows : List Row) (f : ℕ → Bool) (a n : ℕ) → 0 < count_by f (range_with_len a n) → (x : ℕ) × IsLast rows f a n x
last-exists rows f a zero some = absurd (omega arith)
last-exists rows f a (suc n) some = elim (cases_Bool (f a)) [
  | inl here ↦ elim (cases_eq (count_by f (range_with_len (a + 1) n)) 0) [
    | inl none ↦ (a, IsLast-alone rows f a n here none)
    | inr more ↦ last-with_more rows f a n here (last-exists rows f (a + 1) n (omega arith))
  ]
  | inr fails ↦
      let later = last-exists rows f (a + 1) n (omega (arith, count_by-more f a n, ap {B = ℕ} (λ b. cond b 1 0) fails)) in
      (later.0, IsLast-later rows f a n later.0 (λ here. absurd (true≢false (sym here ∙ fails))) later.1)
]

-- one test passes one number more than another, and else the same numbers
count_by-one : (f g : ℕ → Bool) (a n x : ℕ) → IsFrom a n x → f x ≡ true → g x ≡ false → ((y : ℕ) → y ≢ x → f y ≡ g y) → count_by f (range_with_len a n) ≡ count_by g (range_with_len a n) + 1
count_by-one f g a zero x from passes fails same = absurd (omega arith)
count_by-one f g a (suc n) x from passes fails same = elim (cases_eq x a) [
  | inl here ↦ omega (
    arith,
    count_by-more f a n,
    count_by-more g a n,
    ap {B = ℕ} (λ b. cond b 1 0) (subst (λ y. f y ≡ true) here passes),
    ap {B = ℕ} (λ b. cond b 1 0) (subst (λ y. g y ≡ false) here fails),
    count_by-same f g (a + 1) n (λ y above. same y (λ e. omega arith)),
  )
  | inr other ↦ omega (arith, count_by-more f a n, count_by-more g a n, ap {B = ℕ} (λ b. cond b 1 0) (same a (λ e. other (sym e))), count_by-one f g (a + 1) n x (omega arith, omega arith) passes fails same)
]

-- o is Ready, and so many Ready rows go before it
pub record IsAt (rows : List Row) (n o : ℕ) : Type 0 where
  pub ready : is_ready (row_in rows o) ≡ true
  pub place : place_of rows o ≡ n

-- the same processes go before the last of those before p as go before p, but for itself
is_ahead-last : (rows : List Row) (p o : ℕ) → IsLast rows (is_ahead rows p) 0 (length rows) o → (y : ℕ) → y ≢ o → is_ahead rows p y ≡ is_ahead rows o y
is_ahead-last rows p o last y apart = elim (cases_Bool (is_ready (row_in rows y))) [
  | inl ready ↦ elim (cases_Bool (goes_before y (row_in rows y) p (row_in rows p))) [
    | inl before ↦ and_from _ _ ready before ∙ sym (and_from _ _ ready (last.last y (omega arith, omega (arith, ready-exists rows y ready)) (and_from _ _ ready before) apart))
    | inr after ↦ and_right _ _ after ∙ sym (and_right _ _ (false_from_ne_true _ (λ before. true≢false (sym (goes_before-transitive y o p (row_in rows y) (row_in rows o) (row_in rows p) before ahead.1) ∙ after))))
  ]
  | inr unready ↦ and_left _ _ unready ∙ sym (and_left _ _ unready)
]
  where
    ahead : (is_ready (row_in rows o) ≡ true) × (goes_before o (row_in rows o) p (row_in rows p) ≡ true)
    ahead = and_parts (is_ready (row_in rows o)) (goes_before o (row_in rows o) p (row_in rows p)) last.passes

-- where more than so many Ready rows go before a row, so many go before a Ready row
place-next : (rows : List Row) (p n : ℕ) → place_of rows p ≡ suc n → (o : ℕ) × IsAt rows n o
place-next rows p n place = go (last-exists rows (is_ahead rows p) 0 (length rows) (omega arith))
  where
    go : (o : ℕ) × IsLast rows (is_ahead rows p) 0 (length rows) o → (o : ℕ) × IsAt rows n o
    go found = (
      found.0,
      record {
        ready = (and_parts (is_ready (row_in rows found.0)) (goes_before found.0 (row_in rows found.0) p (row_in rows p)) found.1.passes).0;
        place = omega (
          arith,
          count_by-one (is_ahead rows p) (is_ahead rows found.0) 0 (length rows) found.0 found.1.from found.1.passes
              (and_right (is_ready (row_in rows found.0)) _ (goes_before-irreflexive found.0 (row_in rows found.0))) (is_ahead-last rows p found.0 found.1),
        );
      },
    )

-- each place up to that of a Ready row is one of a Ready row
pub place-below : (rows : List Row) (n p k : ℕ) → IsAt rows n p → k ≤ n → (o : ℕ) × IsAt rows k o
place-below rows zero p k at below = (p, record { ready = at.ready; place = omega arith })
place-below rows (suc n) p k at below = elim (cases_eq k (suc n)) [
  | inl e ↦ (p, record { ready = at.ready; place = at.place ∙ sym e })
  | inr other ↦ let next = place-next rows p n at.place in place-below rows n next.0 k next.1 (omega arith)
]

-- where a row is Ready, no Ready row goes before one that is Ready
pub place-first : (rows : List Row) (p : ℕ) → is_ready (row_in rows p) ≡ true → (o : ℕ) × IsInFirst 1 rows o
place-first rows p ready = go (place-below rows (place_of rows p) p 0 (record { ready = ready; place = refl }) (omega arith))
  where
    go : (o : ℕ) × IsAt rows 0 o → (o : ℕ) × IsInFirst 1 rows o
    go found = (found.0, record { ready = found.1.ready; early = omega (arith, found.1.place) })

-- what `find` finds among numbers passes
find-passes : (f : ℕ → Bool) (a n p : ℕ) → find f (range_with_len a n) ≡ Some p → f p ≡ true
find-passes f a zero p found = cc
find-passes f a (suc n) p found = elim (cases_Bool (f a)) [
  | inl here ↦ subst (λ x. f x ≡ true) (same_Some a p (sym (cond-true (f a) (Some a) (find f (range_with_len (a + 1) n)) here) ∙ found)) here
  | inr fails ↦ find-passes f (a + 1) n p (sym (cond-false (f a) (Some a) (find f (range_with_len (a + 1) n)) fails) ∙ found)
]

-- `find` finds the one number that passes
find-one : (f : ℕ → Bool) (a n p : ℕ) → IsFrom a n p → f p ≡ true → ((x : ℕ) → f x ≡ true → x ≡ p) → find f (range_with_len a n) ≡ Some p
find-one f a zero p from passes one = absurd (omega arith)
find-one f a (suc n) p from passes one = elim (cases_Bool (f a)) [
  | inl here ↦ cond-true (f a) (Some a) (find f (range_with_len (a + 1) n)) here ∙ ap Some (one a here)
  | inr fails ↦ cond-false (f a) (Some a) (find f (range_with_len (a + 1) n)) fails ∙ find-one f (a + 1) n p (omega (arith, later), omega arith) passes one
]
  where
    later : f a ≡ false → a ≢ p
    later fails e = true≢false (sym passes ∙ (sym (ap f e) ∙ fails))

-- the Ready row at a place is at this place
pub ready_at-says : (rows : List Row) (n p : ℕ) → ready_at rows n ≡ Some p → IsAt rows n p
ready_at-says rows n p found = let both = and_parts (is_ready (row_in rows p)) (place_of rows p == n) (find-passes (λ p. is_ready (row_in rows p) && (place_of rows p == n)) 0 (length rows) p found) in
    record { ready = both.0; place = eqb-true (place_of rows p) n both.1 }

-- a Ready row at a place is the one there
pub ready_at-finds : (rows : List Row) (n p : ℕ) → IsAt rows n p → ready_at rows n ≡ Some p
ready_at-finds rows n p at = find-one (λ p. is_ready (row_in rows p) && (place_of rows p == n)) 0 (length rows) p (omega arith, omega (arith, ready-exists rows p at.ready))
    (and_from _ _ at.ready (eq-eqb (place_of rows p) n at.place)) one
  where
    one : (x : ℕ) → (is_ready (row_in rows x) && (place_of rows x == n)) ≡ true → x ≡ p
    one x passes = let both = and_parts (is_ready (row_in rows x)) (place_of rows x == n) passes in
        place-apart rows x p both.0 at.ready (eqb-true (place_of rows x) n both.1 ∙ sym at.place)

-- where there is no Ready row at a place, there is none at the next
ready_at-none : (rows : List Row) (n : ℕ) → ready_at rows n ≡ None → ready_at rows (n + 1) ≡ None
ready_at-none rows n none = go (ready_at rows (n + 1)) refl
  where
    go : (found : Option ℕ) → ready_at rows (n + 1) ≡ found → ready_at rows (n + 1) ≡ None
    go None e = e
    go (Some p) e = let at = ready_at-says rows (n + 1) p e in let below = place-below rows (n + 1) p n at (omega arith) in
        absurd (none-some below.0 (sym none ∙ ready_at-finds rows n below.0 below.1))

-- where nothing follows nothing, nothing is left after nothing
filter_map-none : (f : ℕ → Option ℕ) (a n : ℕ) → ((x : ℕ) → f x ≡ None → f (x + 1) ≡ None) → f a ≡ None → filter_map f (range_with_len a n) ≡ []
filter_map-none f a zero stays none = refl
filter_map-none f a (suc n) stays none = rw none (filter_map-none f (a + 1) n stays (stays a none))

-- nothing follows nothing
filter_map-gone : (f : ℕ → Option ℕ) (a i : ℕ) → ((x : ℕ) → f x ≡ None → f (x + 1) ≡ None) → f a ≡ None → f (a + i) ≡ None
filter_map-gone f a zero stays none = subst (λ x. f x ≡ None) (omega arith) none
filter_map-gone f a (suc i) stays none = subst (λ x. f x ≡ None) (omega arith) (stays (a + i) (filter_map-gone f a i stays none))

-- a place of a list with this first element
slice_get-cons : (f : ℕ → Option ℕ) (a i x : ℕ) (rest : List ℕ) → f a ≡ Some x → ((j : ℕ) → j < i → slice_get rest j ≡ f (a + 1 + j)) → slice_get (x ∷ rest) i ≡ f (a + i)
slice_get-cons f a zero x rest e later = sym e ∙ ap f (omega arith)
slice_get-cons f a (suc i) x rest e later = later i (omega arith) ∙ ap f (omega arith)

-- where nothing follows nothing, the list of what numbers give has at each place what its number gives
filter_map-at : (f : ℕ → Option ℕ) (a n i : ℕ) → ((x : ℕ) → f x ≡ None → f (x + 1) ≡ None) → i < n → slice_get (filter_map f (range_with_len a n)) i ≡ f (a + i)
filter_map-at f a zero i stays below = absurd (omega arith)
filter_map-at f a (suc n) i stays below = go (f a) refl (λ j under. filter_map-at f (a + 1) n j stays (omega arith))
  where
    go : (given : Option ℕ) → f a ≡ given → ((j : ℕ) → j < i → slice_get (filter_map f (range_with_len (a + 1) n)) j ≡ f (a + 1 + j)) → slice_get (filter_map f (range_with_len a (suc n))) i ≡ f (a + i)
    go None e later = rw (e, filter_map-none f (a + 1) n stays (stays a e)) (sym (filter_map-gone f a i stays e))
    go (Some x) e later = rw e (slice_get-cons f a i x (filter_map f (range_with_len (a + 1) n)) e later)

-- the list of what numbers give isn't longer than that of the numbers
length-filter_map : (f : ℕ → Option ℕ) (a n : ℕ) → length (filter_map f (range_with_len a n)) ≤ n
length-filter_map f a zero = omega arith
length-filter_map f a (suc n) = go (f a) (filter_map f (range_with_len (a + 1) n)) (length-filter_map f (a + 1) n)
  where
    go : (given : Option ℕ) (rest : List ℕ) → length rest ≤ n → length (cons_option given rest) ≤ suc n
    go None rest few = omega arith
    go (Some x) rest few = omega arith

-- the list of the first rows has at each place the Ready row there
pub first-at : (lanes : ℕ) (rows : List Row) (i : ℕ) → i < lanes → slice_get (first lanes rows) i ≡ ready_at rows i
first-at lanes rows i below = filter_map-at (ready_at rows) 0 lanes i (ready_at-none rows) below ∙ ap (ready_at rows) (omega arith)

-- there are no more first rows than lanes
pub first-few : (lanes : ℕ) (rows : List Row) → length (first lanes rows) ≤ lanes
first-few lanes rows = length-filter_map (ready_at rows) 0 lanes

-- what stands at a place of the list is the Ready row there
pub first-says : (lanes : ℕ) (rows : List Row) (i p : ℕ) → slice_get (first lanes rows) i ≡ Some p → (i < lanes) × IsAt rows i p
first-says lanes rows i p found = (below, ready_at-says rows i p (sym (first-at lanes rows i below) ∙ found))
  where
    below : i < lanes
    below = omega (arith, slice_get_within (first lanes rows) i p found, first-few lanes rows)

-- the list has a Ready row at its place
pub first-finds : (lanes : ℕ) (rows : List Row) (p : ℕ) → IsInFirst lanes rows p → slice_get (first lanes rows) (place_of rows p) ≡ Some p
first-finds lanes rows p early = first-at lanes rows (place_of rows p) early.early ∙ ready_at-finds rows (place_of rows p) p (record { ready = early.ready; place = refl })

-- a place of a list with an element there
slice_get-at : (xs : List ℕ) (i p : ℕ) → i < length xs → get_or xs i p ≡ p → slice_get xs i ≡ Some p
slice_get-at xs i p within same = slice_get-get_or xs i p within ∙ ap Some same

-- the list has the first rows and no others
pub first-members : (lanes : ℕ) (rows : List Row) (p : ℕ) → Contains (first lanes rows) p ↔ IsInFirst lanes rows p
first-members lanes rows p = (into, back)
  where
    into : Contains (first lanes rows) p → IsInFirst lanes rows p
    into there = let says = first-says lanes rows there.0 p (slice_get-at (first lanes rows) there.0 p there.1 there.2) in
        record { ready = says.1.ready; early = omega arith }

    back : IsInFirst lanes rows p → Contains (first lanes rows) p
    back early = let found = first-finds lanes rows p early in
        (place_of rows p, slice_get_within (first lanes rows) (place_of rows p) p found, get_or_from_slice_get (first lanes rows) (place_of rows p) p p found)

-- no process stands at two places of the list
pub first-once : (lanes : ℕ) (rows : List Row) (i j p : ℕ) → slice_get (first lanes rows) i ≡ Some p → slice_get (first lanes rows) j ≡ Some p → i ≡ j
first-once lanes rows i j p one two = sym (first-says lanes rows i p one).1.place ∙ (first-says lanes rows j p two).1.place

-- a process that stands before another in the list goes before it
pub first-sorted : (lanes : ℕ) (rows : List Row) (i j p o : ℕ) → slice_get (first lanes rows) i ≡ Some p → slice_get (first lanes rows) j ≡ Some o → i < j → goes_before p (row_in rows p) o (row_in rows o) ≡ true
first-sorted lanes rows i j p o one two below = let a = (first-says lanes rows i p one).1 in let b = (first-says lanes rows j o two).1 in
    place-before rows p o b.ready (omega (arith, a.place, b.place))
