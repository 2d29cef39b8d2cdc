-- Lists of processes that are sorted by the order of their rows.
use Rattle.std.proofs.Common.{◌≡◌, ℕ, zero, suc, ◌+◌, ◌<◌, ◌≤◌, ◌⊎◌, inl, inr, Bool, true, false, cond, List, [], ◌∷◌, length, filter, count_by, slice_get, Some, refl, sym, ◌∙◌, ap, subst, arith}
use Rattle.std.specs.List.{range_with_len}
use Rattle.std.proofs.lemmas.Bool.{and_right, cases_eq, cond_both, true≢false}
use Rattle.std.proofs.lemmas.Option.{same_Some, slice_get_within}
use Rattle.exec_model.specs.declared.row.Row.{Row}
use Rattle.exec_model.specs.Order.{goes_before, is_ahead, place_of}
use Rattle.exec_model.specs.Rows.{row_in, is_ready}
use Rattle.exec_model.proofs.Ordering.{IsFrom, count_by-more, goes_before-irreflexive, ready-exists}

-- the process is one of these
abbrev pub Has : List ℕ → ℕ → Type 0
Has [] o = ⊥
Has (p ∷ processes) o = (o ≡ p) ⊎ Has processes o

-- what stands at a place of a list is one of its elements
pub Has-at : (xs : List ℕ) (k o : ℕ) → slice_get xs k ≡ Some o → Has xs o
Has-at [] k o e = absurd (omega (arith, slice_get_within [] k o e))
Has-at (x ∷ xs) zero o e = inl (sym (same_Some x o e))
Has-at (x ∷ xs) (suc k) o e = inr (Has-at xs k o e)

-- an element that passes is left by a filter
pub Has-filter : (f : ℕ → Bool) (xs : List ℕ) (o : ℕ) → f o ≡ true → Has xs o → Has (filter f xs) o
Has-filter f [] o passes there = absurd there
Has-filter f (x ∷ xs) o passes (inl same) = cond_both (f x) (x ∷ filter f xs) (filter f xs) (λ ys. Has ys o) (λ e. inl same) (λ e. absurd (true≢false (sym passes ∙ (ap f same ∙ e))))
Has-filter f (x ∷ xs) o passes (inr later) = cond_both (f x) (x ∷ filter f xs) (filter f xs) (λ ys. Has ys o) (λ e. inr (Has-filter f xs o passes later)) (λ e. Has-filter f xs o passes later)

filtered_here : (f : ℕ → Bool) (x o : ℕ) (ys : List ℕ) → f x ≡ true → (Has ys o → f o ≡ true) → Has (x ∷ ys) o → f o ≡ true
filtered_here f x o ys passes later (inl same) = ap f same ∙ passes
filtered_here f x o ys passes later (inr there) = later there

-- what a filter leaves passes
pub Has-filtered : (f : ℕ → Bool) (xs : List ℕ) (o : ℕ) → Has (filter f xs) o → f o ≡ true
Has-filtered f [] o there = absurd there
Has-filtered f (x ∷ xs) o there =
    cond_both (f x) (x ∷ filter f xs) (filter f xs) (λ ys. Has ys o → f o ≡ true) (λ e. filtered_here f x o (filter f xs) e (Has-filtered f xs o)) (λ e. Has-filtered f xs o) there

-- a filter leaves no more
pub length-filtered : (f : ℕ → Bool) (xs : List ℕ) → length (filter f xs) ≤ length xs
length-filtered f [] = omega arith
length-filtered f (x ∷ xs) =
    let few : length (filter f xs) ≤ length xs = length-filtered f xs in
    cond_both (f x) (x ∷ filter f xs) (filter f xs) (λ ys. length ys ≤ suc (length xs)) (λ e. omega (arith, few)) (λ e. omega (arith, few))

-- the process goes before each of these
abbrev pub GoesFirst : List Row → ℕ → List ℕ → Type 0
GoesFirst rows p [] = Unit {0}
GoesFirst rows p (o ∷ others) = (goes_before p (row_in rows p) o (row_in rows o) ≡ true) × GoesFirst rows p others

-- each process goes before those behind it
abbrev pub IsSorted : List Row → List ℕ → Type 0
IsSorted rows [] = Unit {0}
IsSorted rows (p ∷ processes) = GoesFirst rows p processes × IsSorted rows processes

-- so before any of them
pub GoesFirst-Has : (rows : List Row) (p : ℕ) (others : List ℕ) (o : ℕ) → GoesFirst rows p others → Has others o → goes_before p (row_in rows p) o (row_in rows o) ≡ true
GoesFirst-Has rows p [] o before there = absurd there
GoesFirst-Has rows p (x ∷ others) o before (inl same) = subst (λ y. goes_before p (row_in rows p) y (row_in rows y) ≡ true) (sym same) before.0
GoesFirst-Has rows p (x ∷ others) o before (inr later) = GoesFirst-Has rows p others o before.1 later

GoesFirst-filter : (rows : List Row) (f : ℕ → Bool) (p : ℕ) (xs : List ℕ) → GoesFirst rows p xs → GoesFirst rows p (filter f xs)
GoesFirst-filter rows f p [] before = tt
GoesFirst-filter rows f p (x ∷ xs) before =
    cond_both (f x) (x ∷ filter f xs) (filter f xs) (GoesFirst rows p) (λ e. (before.0, GoesFirst-filter rows f p xs before.1)) (λ e. GoesFirst-filter rows f p xs before.1)

-- a filter leaves a sorted list sorted
pub IsSorted-filter : (rows : List Row) (f : ℕ → Bool) (xs : List ℕ) → IsSorted rows xs → IsSorted rows (filter f xs)
IsSorted-filter rows f [] sorted = tt
IsSorted-filter rows f (x ∷ xs) sorted =
    cond_both (f x) (x ∷ filter f xs) (filter f xs) (IsSorted rows) (λ e. (GoesFirst-filter rows f x xs sorted.0, IsSorted-filter rows f xs sorted.1)) (λ e. IsSorted-filter rows f xs sorted.1)

GoesFirst-from : (rows : List Row) (p : ℕ) (xs : List ℕ) → ((k o : ℕ) → slice_get xs k ≡ Some o → goes_before p (row_in rows p) o (row_in rows o) ≡ true) → GoesFirst rows p xs
GoesFirst-from rows p [] before = tt
GoesFirst-from rows p (x ∷ xs) before = (before 0 x refl, GoesFirst-from rows p xs (λ k o e. before (suc k) o e))

-- a list is sorted where the process at a lower place goes before that at a higher one
pub IsSorted-from : (rows : List Row) (xs : List ℕ) → ((i j p o : ℕ) → slice_get xs i ≡ Some p → slice_get xs j ≡ Some o → i < j → goes_before p (row_in rows p) o (row_in rows o) ≡ true) → IsSorted rows xs
IsSorted-from rows [] before = tt
IsSorted-from rows (x ∷ xs) before = (
  GoesFirst-from rows x xs (λ k o e. before 0 (suc k) x o refl e (omega arith)),
  IsSorted-from rows xs (λ i j p o e e' below. before (suc i) (suc j) p o e e' (omega arith)),
)

at_most_one : (b : Bool) → cond b 1 0 ≤ 1
at_most_one true = omega arith
at_most_one false = omega arith

count_by-few : (f : ℕ → Bool) (a n : ℕ) → count_by f (range_with_len a n) ≤ n
count_by-few f a zero = omega arith
count_by-few f a (suc n) = omega (arith, count_by-more f a n, at_most_one (f a), count_by-few f (a + 1) n)

count_by-fewer : (f : ℕ → Bool) (a n x : ℕ) → IsFrom a n x → f x ≡ false → count_by f (range_with_len a n) < n
count_by-fewer f a zero x from fails = absurd (omega arith)
count_by-fewer f a (suc n) x from fails = elim (cases_eq x a) [
  | inl here ↦ omega (arith, count_by-more f a n, ap {B = ℕ} (λ b. cond b 1 0) (subst (λ y. f y ≡ false) here fails), count_by-few f (a + 1) n)
  | inr other ↦ omega (arith, count_by-more f a n, at_most_one (f a), count_by-fewer f (a + 1) n x (omega arith, omega arith) fails)
]

-- fewer rows go before a Ready row than there are
pub place_of-few : (rows : List Row) (p : ℕ) → is_ready (row_in rows p) ≡ true → place_of rows p < length rows
place_of-few rows p ready =
    count_by-fewer (is_ahead rows p) 0 (length rows) p (omega arith, omega (arith, ready-exists rows p ready)) (and_right (is_ready (row_in rows p)) _ (goes_before-irreflexive p (row_in rows p)))
