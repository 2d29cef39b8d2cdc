-- The first places that are found are the first ones.
use Rattle.std.proofs.Common.{◌≡◌, ◌∙◌, ◌==◌, ◌<◌, ◌≤◌, ◌-◌, ◌+◌, ℕ, zero, suc, Bool, true, false, List, [], ◌∷◌, ◌++◌, length, replicate, Option, Some, None, slice_get, slice_set, slice_index_or, unwrap_or, if◌then◌else◌, refl, sym, ap, subst, arith, eqb-true, append-nil}
use Rattle.std.specs.List.{position, position_from}
use Rattle.std.proofs.lemmas.Bool.{eqb-false}
use Rattle.std.proofs.lemmas.Iterator.Adapters.{position_from-zero}
use Rattle.std.proofs.lemmas.List.{get_or-set_same, get_or-set_other, length-append, length-replicate}
use Rattle.std.proofs.lemmas.Option.{unwrap_or-slice_get}
use Rattle.hal_meaning.specs.Places.{Place}
use Rattle.hal_meaning.specs.ReportNames.{first_place}
use Rattle.hal_gen_expr.specs.FirstPlaces.{number_at, held, given, with_place, with_places}

-- numbers that reach a phrase already
pub long_enough : (numbers : List (Option ℕ)) (k : ℕ) → suc k ≤ length numbers → numbers ≡ held numbers k
long_enough numbers k h =
    let none : suc k - length numbers ≡ 0 = omega arith in
    sym (ap (λ (n : ℕ). numbers ++ replicate n None) none ∙ append-nil numbers)

held_length : (numbers : List (Option ℕ)) (k : ℕ) → k < length (held numbers k)
held_length numbers k = omega (arith, length-append numbers (replicate (suc k - length numbers) None), length-replicate {A = Option ℕ} (suc k - length numbers) None)

none_given : (n k : ℕ) → number_at (replicate n None) k ≡ None
none_given zero k = refl
none_given (suc n) zero = refl
none_given (suc n) (suc k) = none_given n k

none_more : (numbers : List (Option ℕ)) (n k : ℕ) → number_at (numbers ++ replicate n None) k ≡ number_at numbers k
none_more [] n k = none_given n k
none_more (one ∷ numbers) n zero = refl
none_more (one ∷ numbers) n (suc k) = none_more numbers n k

-- a number of its own, or else this one
abbrev or_else : Option ℕ → Option ℕ → Option ℕ
or_else o other = elim o [ None ↦ other | Some n ↦ Some n ]

or_some : (o : Option ℕ) (n : ℕ) (other : Option ℕ) → or_else (Some (unwrap_or o n)) other ≡ or_else o (Some n)
or_some None n other = refl
or_some (Some m) n other = refl

set_at : (numbers : List (Option ℕ)) (q k : ℕ) (one : Option ℕ) → q < length numbers → (b : Bool) → (q == k) ≡ b → number_at (slice_set numbers q one) k ≡ (if b then one else number_at numbers k)
set_at numbers q k one h true is =
    unwrap_or-slice_get (slice_set numbers q one) k None ∙ subst (λ (i : ℕ). slice_index_or (slice_set numbers q one) i None ≡ one) (eqb-true q k is) (get_or-set_same numbers q one None h)
set_at numbers q k one h false is =
    unwrap_or-slice_get (slice_set numbers q one) k None ∙ get_or-set_other numbers q k one None (λ same. eqb-false q k is (sym same)) ∙ sym (unwrap_or-slice_get numbers k None)

by_owner : (numbers : List (Option ℕ)) (q k n : ℕ) (other : Option ℕ) (b : Bool) → (q == k) ≡ b
    → or_else (if b then Some (unwrap_or (number_at (held numbers q) q) n) else number_at (held numbers q) k) other ≡ or_else (number_at numbers k) (if b then Some n else other)
by_owner numbers q k n other true is =
    ap (λ i. or_else (Some (unwrap_or (number_at (held numbers q) i) n)) other) (eqb-true q k is)
    ∙ ap (λ o. or_else (Some (unwrap_or o n)) other) (none_more numbers (suc q - length numbers) k) ∙ or_some (number_at numbers k) n other
by_owner numbers q k n other false is = ap (λ o. or_else o other) (none_more numbers (suc q - length numbers) k)

place_at : (numbers : List (Option ℕ)) (q k n : ℕ) (other : Option ℕ) → or_else (number_at (given (held numbers q) q n) k) other ≡ or_else (number_at numbers k) (if q == k then Some n else other)
place_at numbers q k n other =
    ap (λ o. or_else o other) (set_at (held numbers q) q k (Some (unwrap_or (number_at (held numbers q) q) n)) (held_length numbers q) (q == k) refl)
    ∙ by_owner numbers q k n other (q == k) refl

or_none : (o : Option ℕ) → o ≡ or_else o None
or_none None = refl
or_none (Some n) = refl

places_at : (numbers : List (Option ℕ)) (n : ℕ) (places : List Place) (k : ℕ)
    → number_at (with_places numbers n places) k ≡ or_else (number_at numbers k) (position_from (λ (p : Place). p.owner == k) n places)
unfolding with_places
places_at numbers n [] k = or_none (number_at numbers k)
places_at numbers n (p ∷ places) k =
    places_at (with_place numbers n p) (n + 1) places k
    ∙ place_at numbers p.owner k n (position_from (λ (q : Place). q.owner == k) (n + 1) places)

pub all_found : (places : List Place) (k : ℕ) → unwrap_or (number_at (with_places [] 0 places) k) 0 ≡ first_place places k
all_found places k =
    ap (λ (o : Option ℕ). unwrap_or o 0) (places_at [] 0 places k ∙ sym (position_from-zero (λ (p : Place). p.owner == k) places))
