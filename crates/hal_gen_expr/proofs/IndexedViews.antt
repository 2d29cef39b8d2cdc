-- What the table of views has finds each view.
use Rattle.std.proofs.Common.{◌≡◌, ◌∙◌, ◌==◌, ◌<◌, ◌+◌, ℕ, zero, suc, Bool, true, false, List, [], ◌∷◌, ◌++◌, length, Option, Some, None, slice_get, slice_set, slice_index_or, unwrap_or, if◌then◌else◌, refl, sym, ap, subst, arith, rules, eqb-true, append_assoc, length-append, ◌*◌}
use Rattle.std.proofs.lemmas.Bool.{and_parts, eq-eqb}
use Rattle.hal_code.specs.declared.row.Base.{Base}
use Rattle.hal_code.specs.declared.row.Base.TheVariants as base
use Rattle.std.specs.List.{list_any, position, position_from}
use Rattle.std.specs.Prelude.{Result, Ok, Err, OnOk, is_err, is_some, ◌&&◌, ◌||◌}
use Rattle.std.proofs.lemmas.Bool.{eqb-false}
use Rattle.std.proofs.lemmas.Iterator.Adapters.{position_from-zero}
use Rattle.std.proofs.lemmas.List.{get_or-set_same, get_or-set_other}
use Rattle.std.proofs.lemmas.Option.{unwrap_or-slice_get}
use Rattle.hal_code.specs.declared.row.View.{View}
use Rattle.hal_code.specs.declared.row.Dimension.{Dimension}
use Rattle.hal_values.specs.declared.value.Kind.{Kind}
use Rattle.hal_gen_expr.specs.Numbering.{same_base, same_rows, gives_cell, gives_area, is_cell_view, is_area_view}
use Rattle.hal_gen_expr.specs.ViewSlots.{slot_of, numbers_at, noted, numbers_from, IsIndexed, AreSame, AreNoted, is_at, first_at}

pub nothing_indexed : IsIndexed [] []
unfolding numbers_from
nothing_indexed s = refl

-- a number is noted in its slot alone
set_at : (table : List (List ℕ)) (s k : ℕ) (ns : List ℕ) → s < length table → (b : Bool) → (s == k) ≡ b → numbers_at (slice_set table s ns) k ≡ (if b then ns else numbers_at table k)
set_at table s k ns h true is =
    unwrap_or-slice_get (slice_set table s ns) k [] ∙ subst (λ (i : ℕ). slice_index_or (slice_set table s ns) i [] ≡ ns) (eqb-true s k is) (get_or-set_same table s ns [] h)
set_at table s k ns h false is =
    unwrap_or-slice_get (slice_set table s ns) k [] ∙ get_or-set_other table s k ns [] (λ same. eqb-false s k is (sym same)) ∙ sym (unwrap_or-slice_get table k [])

by_slot : (one table : List (List ℕ)) (s k n : ℕ) → AreSame one table → (b : Bool) → (s == k) ≡ b
    → (if b then numbers_at table s ++ (n ∷ []) else numbers_at table k) ≡ (if b then numbers_at one k ++ (n ∷ []) else numbers_at one k)
by_slot one table s k n same true is = ap (λ i. numbers_at table i ++ (n ∷ [])) (eqb-true s k is) ∙ ap (λ ns. ns ++ (n ∷ [])) (sym (same k))
by_slot one table s k n same false is = sym (same k)

pub noted_same : (one table other : List (List ℕ)) (s n : ℕ) → AreSame one table → s < length table → other ≡ noted table s n → AreNoted s n one other
noted_same one table other s n same h is k =
    ap (λ t. numbers_at t k) is ∙ set_at table s k (numbers_at table s ++ (n ∷ [])) h (s == k) refl ∙ by_slot one table s k n same (s == k) refl

-- a view more
with_front : (c b : Bool) (n m k : ℕ) (xs ys : List ℕ) → m ≡ k → xs ≡ (if b then ys ++ (m ∷ []) else ys)
    → (if c then n ∷ xs else xs) ≡ (if b then (if c then n ∷ ys else ys) ++ (k ∷ []) else (if c then n ∷ ys else ys))
with_front true true n m k xs ys same is = ap (λ l. n ∷ l) (is ∙ ap (λ i. ys ++ (i ∷ [])) same)
with_front true false n m k xs ys same is = ap (λ l. n ∷ l) is
with_front false true n m k xs ys same is = is ∙ ap (λ i. ys ++ (i ∷ [])) same
with_front false false n m k xs ys same is = is

alone : (b : Bool) (n k : ℕ) → n ≡ k → (if b then n ∷ [] else []) ≡ (if b then [] ++ (k ∷ []) else [])
alone true n k same = ap (λ i. i ∷ []) same
alone false n k same = refl

numbers_push : (s n : ℕ) (views : List View) (v : View) → numbers_from s n (views ++ (v ∷ [])) ≡ (if slot_of v.base == s then numbers_from s n views ++ ((n + length views) ∷ []) else numbers_from s n views)
unfolding numbers_from
numbers_push s n [] v = alone (slot_of v.base == s) n (n + 0) (omega arith)
numbers_push s n (w ∷ views) v =
    with_front (slot_of w.base == s) (slot_of v.base == s) n ((n + 1) + length views) (n + suc (length views)) (numbers_from s (n + 1) (views ++ (v ∷ []))) (numbers_from s (n + 1) views) (omega arith) (numbers_push s (n + 1) views v)

pub push_indexed : (views : List View) (table more : List (List ℕ)) (v : View) → IsIndexed views table → AreNoted (slot_of v.base) (length views) table more → IsIndexed (views ++ (v ∷ [])) more
push_indexed views table more v indexed noting s =
    let same : length views ≡ 0 + length views = omega arith in
    noting s
    ∙ ap (λ ns. if slot_of v.base == s then ns ++ (length views ∷ []) else ns) (indexed s)
    ∙ ap (λ (n : ℕ). if slot_of v.base == s then numbers_from s 0 views ++ (n ∷ []) else numbers_from s 0 views) same
    ∙ sym (numbers_push s 0 views v)

-- what holds where there is no error
pub without_error : {X E : Type 0} (r : Result X E) (P : Type 0) → is_err r ≡ false → OnOk r P → P
without_error (Ok x) P no_error p = p
without_error (Err e) P no_error p = search (rules, no_error)

pub same_indexed : (views : List View) (table more : List (List ℕ)) → IsIndexed views table → AreSame table more → IsIndexed views more
same_indexed views table more indexed same s = sym (same s) ∙ indexed s

-- what is found is the first one
at_seam : (test : View → Bool) (front : List View) (v : View) (views : List View) → is_at test (front ++ (v ∷ views)) (length front) ≡ test v
at_seam test [] v views = refl
at_seam test (w ∷ front) v views = at_seam test front v views

chosen : (test : View → Bool) (all : List View) (n : ℕ) (rest : List ℕ) (other : Option ℕ) (slotted passes : Bool) → is_at test all n ≡ passes → (passes ≡ true → slotted ≡ true) → first_at test all rest ≡ other
    → first_at test all (if slotted then n ∷ rest else rest) ≡ (if passes then Some n else other)
unfolding first_at
chosen test all n rest other true true is so_is rests = ap (λ b. if b then Some n else first_at test all rest) is
chosen test all n rest other true false is so_is rests = ap (λ b. if b then Some n else first_at test all rest) is ∙ rests
chosen test all n rest other false true is so_is rests = search (rules, so_is refl)
chosen test all n rest other false false is so_is rests = rests

first_from : (test : View → Bool) (s : ℕ) → ((v : View) → test v ≡ true → slot_of v.base ≡ s) → (front views : List View)
    → first_at test (front ++ views) (numbers_from s (length front) views) ≡ position_from test (length front) views
unfolding first_at numbers_from
first_from test s so front [] = refl
first_from test s so front (v ∷ views) =
    chosen test (front ++ (v ∷ views)) (length front) (numbers_from s (length front + 1) views) (position_from test (length front + 1) views) (slot_of v.base == s) (test v) (at_seam test front v views)
    (λ passes. eq-eqb (slot_of v.base) s (so v passes))
    (ap (λ all. first_at test all (numbers_from s (length front + 1) views)) (sym (append_assoc front (v ∷ []) views))
    ∙ ap (λ n. first_at test ((front ++ (v ∷ [])) ++ views) (numbers_from s n views)) (sym (length-append front (v ∷ [])))
    ∙ first_from test s so (front ++ (v ∷ [])) views
    ∙ ap (λ n. position_from test n views) (length-append front (v ∷ [])))

pub found : (test : View → Bool) (s : ℕ) → ((v : View) → test v ≡ true → slot_of v.base ≡ s) → (views : List View) (table : List (List ℕ)) → IsIndexed views table
    → first_at test views (numbers_at table s) ≡ position test views
found test s so views table indexed = ap (first_at test views) (indexed s) ∙ first_from test s so [] views ∙ sym (position_from-zero test views)

-- views with the same base have the same slot
pub same_slot : (one from : Base) → same_base one from ≡ true → slot_of one ≡ slot_of from
same_slot (base.Shared n) (base.Shared m) is = ap (λ k. k * 3) (eqb-true n m is)
same_slot (base.Shared n) (base.Own m) is = search (rules, is)
same_slot (base.Shared n) (base.Through at m) is = search (rules, is)
same_slot (base.Shared n) (base.Other b m) is = search (rules, is)
same_slot (base.Own n) (base.Own m) is = ap (λ k. k * 3 + 1) (eqb-true n m is)
same_slot (base.Own n) (base.Shared m) is = search (rules, is)
same_slot (base.Own n) (base.Through at m) is = search (rules, is)
same_slot (base.Own n) (base.Other b m) is = search (rules, is)
same_slot (base.Through at n) (base.Through other m) is = ap (λ k. k * 3 + 2) (eqb-true at other (and_parts (at == other) (n == m) is).0)
same_slot (base.Through at n) (base.Shared m) is = search (rules, is)
same_slot (base.Through at n) (base.Own m) is = search (rules, is)
same_slot (base.Through at n) (base.Other b m) is = search (rules, is)
same_slot (base.Other b n) (base.Shared m) is = search (rules, is)
same_slot (base.Other b n) (base.Own m) is = search (rules, is)
same_slot (base.Other b n) (base.Through at m) is = search (rules, is)
same_slot (base.Other b n) (base.Other c m) is = search (rules, is)

pub cell_slot : (from : Base) (rows : List Dimension) (kind : Kind) (v : View) → is_cell_view from rows kind v ≡ true → slot_of v.base ≡ slot_of from
cell_slot from rows kind v is = same_slot v.base from (and_parts (same_base v.base from) (same_rows v.dimensions rows && gives_cell kind v.target) is).0

pub area_slot : (from : Base) (rows : List Dimension) (shape : ℕ) (v : View) → is_area_view from rows shape v ≡ true → slot_of v.base ≡ slot_of from
area_slot from rows shape v is = same_slot v.base from (and_parts (same_base v.base from) (same_rows v.dimensions rows && gives_area shape v.target) is).0

-- one is found where there is one
any_from : (test : View → Bool) (n : ℕ) (views : List View) → is_some (position_from test n views) ≡ list_any test views
any_from test n [] = refl
any_from test n (v ∷ views) = any_one (test v) n (position_from test (n + 1) views) (list_any test views) (any_from test (n + 1) views)
  where
    any_one : (b : Bool) (n : ℕ) (o : Option ℕ) (rest : Bool) → is_some o ≡ rest → is_some (if b then Some n else o) ≡ (b || rest)
    any_one true n o rest is = refl
    any_one false n o rest is = is

pub any_found : (test : View → Bool) (views : List View) → is_some (position test views) ≡ list_any test views
any_found test views = ap is_some (position_from-zero test views) ∙ any_from test 0 views
