-- The kinds of data with a shape have one number among the shapes of an image.
use Rattle.std.specs.Prelude.{◌≡◌, ◌<◌, ◌≤◌, ℕ, zero, suc, ◌+◌, not, nat_lt, Bool, true, false, ◌||◌, List, [], ◌∷◌, ◌++◌, cond, length, map, Some, None, slice_get, unwrap_or, if◌then◌else◌}
use Rattle.std.specs.List.{list_any, position_or_len, sum_by}
use Rattle.std.specs.Option.{option_and_then}
use Rattle.std.proofs.Common.{refl, sym, ap, subst, ◌∙◌, inl, inr, arith}
use Rattle.std.proofs.lemmas.Bool.{lt-ltb}
use Rattle.std.proofs.lemmas.List.Sums.{sum_by-cons}
use Rattle.hal_scope.specs.Rules.{IsAmong}
use Rattle.hal_values.specs.declared.value.Kind.{Kind}
use Rattle.hal_code.specs.declared.row.Run.{Run}
use Rattle.hal_code.specs.Images.{expanded, row_count}
use Rattle.hal_meaning.specs.Calls.{parameter_named}
use Rattle.hal_meaning.specs.Elements.{Shape, times, kinds_of}
use Rattle.hal_meaning.specs.Sets.{Set}
use Rattle.hal_gen_expr.specs.Leaves.{is_nil}
use Rattle.hal_gen_expr.specs.Numbering.{below, most, same_runs, shape_in}
use Rattle.hal_gen_expr.specs.Shapes.{run_of, runs_of}
use Rattle.hal_gen_expr.proofs.Shaped.{kinds_found}
use Rattle.hal_link.specs.Shapes.{Shapes, with_runs, shapes_of}
use Rattle.hal_fit_calls.specs.Each.{Each}
use Rattle.hal_fit_calls.proofs.Each.{each_append}
use Rattle.hal_right_images.proofs.rows.Adding.{shapes_added}
use Rattle.hal_right_images.proofs.rows.Referring.{HaveRuns}
use Rattle.hal_right_images.proofs.rows.Strict.{AreJoined, AreStrict, alike, runs_joined, strict, strict_same}

-- no shape is the same as a later one
abbrev AreApart : Shapes → Type 0
AreApart [] = Unit {0}
AreApart (x ∷ xs) = Each (λ y. same_runs x y ≡ false) xs × AreApart xs

abbrev pub HasRun : List (Run Kind) → Type 0
HasRun runs = is_nil runs ≡ false

-- shapes of joined runs, each there once
pub record AreKept (shapes : Shapes) : Type 0 where
  pub joined : Each AreJoined shapes
  pub some : Each HasRun shapes
  apart : AreApart shapes

or_none : (a b : Bool) → (a || b) ≡ false → (a ≡ false) × (b ≡ false)
or_none true b is = absurd (cc)
or_none false b is = (refl, is)

apart_more : (shapes : Shapes) (runs : List (Run Kind)) → AreApart shapes → list_any (λ found. same_runs found runs) shapes ≡ false → AreApart (shapes ++ (runs ∷ []))
apart_more [] runs apart none = (tt, tt)
apart_more (x ∷ xs) runs apart none =
    let both = or_none (same_runs x runs) (list_any (λ found. same_runs found runs) xs) none in
    (each_append (λ y. same_runs x y ≡ false) xs (runs ∷ []) apart.0 (both.0, tt), apart_more xs runs apart.1 both.1)

runs_kept : (shapes : Shapes) (runs : List (Run Kind)) → AreKept shapes → AreJoined runs → AreKept (with_runs shapes runs)
runs_kept shapes runs kept joined_so = by (is_nil runs) refl (list_any (λ found. same_runs found runs) shapes) refl where
  by : (nil : Bool) → is_nil runs ≡ nil → (any : Bool) → list_any (λ found. same_runs found runs) shapes ≡ any → AreKept (if nil || any then shapes else shapes ++ (runs ∷ []))
  by true is any found = kept
  by false is true found = kept
  by false is false found =
      record {
        joined = each_append AreJoined shapes (runs ∷ []) kept.joined (joined_so, tt);
        some = each_append HasRun shapes (runs ∷ []) kept.some (is, tt);
        apart = apart_more shapes runs kept.apart found;
      }

pub shapes_kept : (s : Set) → AreKept (shapes_of s)
shapes_kept s =
    shapes_added s AreKept
    (λ shapes unit name kept.
    let shape = (parameter_named s unit name).shape in
    runs_kept shapes (runs_of shape) kept (runs_joined [] (times (unwrap_or shape.copies 1) (map run_of shape.components)) tt))
    (record { joined = tt; some = tt; apart = tt })

-- one of them has no more rows than all
abbrev rows_in : Shapes → ℕ
rows_in shapes = sum_by (λ (runs : List (Run Kind)). row_count runs) shapes

pub one_counted : (shapes : Shapes) (k : ℕ) (runs : List (Run Kind)) → slice_get shapes k ≡ Some runs → row_count runs ≤ rows_in shapes
one_counted [] k runs is = absurd (cc)
one_counted (x ∷ xs) zero runs is =
    let sum = sum_by-cons (λ (one : List (Run Kind)). row_count one) x xs in
    let same = ap (λ (one : List (Run Kind)). row_count one) (let here : x ≡ runs = cc in here) in
    omega (arith, sum, same)
one_counted (x ∷ xs) (suc k) runs is =
    let sum = sum_by-cons (λ (one : List (Run Kind)). row_count one) x xs in
    let rest = one_counted xs k runs is in
    omega (arith, sum, rest)

has_row : (runs : List (Run Kind)) → AreJoined runs → HasRun runs → 0 < row_count runs
has_row [] are some = absurd (cc)
has_row (one ∷ []) are some = omega (arith, are)
has_row (one ∷ next ∷ runs) are some = let first = are.0 in omega (arith, first)

few_shapes : (shapes : Shapes) → Each AreJoined shapes → Each HasRun shapes → length shapes ≤ rows_in shapes
few_shapes [] joined some = omega arith
few_shapes (x ∷ xs) joined some =
    let sum = sum_by-cons (λ (one : List (Run Kind)). row_count one) x xs in
    let first = has_row x joined.0 some.0 in
    let rest = few_shapes xs joined.1 some.1 in
    omega (arith, sum, first, rest)

pub each_at : {X : Type 0} (P : X → Type 0) (xs : List X) (k : ℕ) (x : X) → Each P xs → slice_get xs k ≡ Some x → P x
each_at P [] k x each is = absurd (cc)
each_at P (y ∷ xs) zero x each is = subst P (let same : y ≡ x = cc in same) each.0
each_at P (y ∷ xs) (suc k) x each is = each_at P xs k x each.1 is

-- the same runs are at the same place
same_place : (shapes : Shapes) (j k : ℕ) (runs : List (Run Kind)) → AreApart shapes → same_runs runs runs ≡ true → slice_get shapes j ≡ Some runs → slice_get shapes k ≡ Some runs → j ≡ k
same_place [] j k runs apart itself one other = absurd (cc)
same_place (x ∷ xs) zero zero runs apart itself one other = refl
same_place (x ∷ xs) zero (suc k) runs apart itself one other =
    let not_same = each_at (λ y. same_runs x y ≡ false) xs k runs apart.0 other in
    let here : x ≡ runs = cc in
    let so = subst (λ z. same_runs z runs ≡ false) here not_same in
    absurd (cc)
same_place (x ∷ xs) (suc j) zero runs apart itself one other =
    let not_same = each_at (λ y. same_runs x y ≡ false) xs j runs apart.0 one in
    let here : x ≡ runs = cc in
    let so = subst (λ z. same_runs z runs ≡ false) here not_same in
    absurd (cc)
same_place (x ∷ xs) (suc j) (suc k) runs apart itself one other = ap suc (same_place xs j k runs apart.1 itself one other)

-- where one member alone passes a test, it is the first
only_first : {X : Type 0} (test : X → Bool) (xs : List X) (k : ℕ) (x : X) → slice_get xs k ≡ Some x → test x ≡ true → ((j : ℕ) (y : X) → slice_get xs j ≡ Some y → test y ≡ true → j ≡ k)
    → position_or_len test xs ≡ k
only_first test [] k x is passes only = absurd (cc)
only_first test (y ∷ xs) zero x is passes only =
    let here : test y ≡ true = subst (λ z. test z ≡ true) (let same : x ≡ y = cc in same) passes in
    ap (λ b. cond (not b) (1 + position_or_len test xs) 0) here
only_first test (y ∷ xs) (suc k) x is passes only = by (test y) refl (only_first test xs k x is passes (λ j z at so. let next = only (suc j) z at so in omega (arith, next))) where
  by : (b : Bool) → test y ≡ b → position_or_len test xs ≡ k → position_or_len test (y ∷ xs) ≡ suc k
  by true so rest = absurd (let first = only 0 y refl so in omega (arith, first))
  by false isnt rest = ap (λ b. cond (not b) (1 + position_or_len test xs) 0) isnt ∙ (let next : 1 + position_or_len test xs ≡ suc k = omega (arith, rest) in next)

within : {X : Type 0} (xs : List X) (k : ℕ) (x : X) → slice_get xs k ≡ Some x → k < length xs
within [] k x is = absurd (cc)
within (y ∷ xs) zero x is = omega arith
within (y ∷ xs) (suc k) x is = let rest = within xs k x is in omega (arith, rest)

-- where runs are, or some that are the same
pub record HasSame (runs : List (Run Kind)) (shapes : Shapes) : Type 0 where
  pub place : ℕ
  pub found : List (Run Kind)
  pub there : slice_get shapes place ≡ Some found
  pub same : same_runs found runs ≡ true

same_later : (runs x : List (Run Kind)) (xs : Shapes) → HasSame runs xs → HasSame runs (x ∷ xs)
same_later runs x xs one = record { place = suc one.place; found = one.found; there = one.there; same = one.same }

any_same : (runs : List (Run Kind)) (shapes : Shapes) → list_any (λ found. same_runs found runs) shapes ≡ true → HasSame runs shapes
any_same runs [] is = absurd (cc)
any_same runs (x ∷ xs) is = by (same_runs x runs) refl is (any_same runs xs) where
  by : (b : Bool) → same_runs x runs ≡ b → (b || list_any (λ found. same_runs found runs) xs) ≡ true → (list_any (λ found. same_runs found runs) xs ≡ true → HasSame runs xs) → HasSame runs (x ∷ xs)
  by true same any later = record { place = zero; found = x; there = refl; same = same }
  by false other any later = same_later runs x xs (later any)

pub place_of : {X : Type 0} (xs : List X) (x : X) → IsAmong x xs → (k : ℕ) × (slice_get xs k ≡ Some x)
place_of [] x among = absurd among
place_of (y ∷ xs) x (inl same) = (zero, ap Some (sym same))
place_of (y ∷ xs) x (inr later) = let found = place_of xs x later in (suc found.0, found.1)

module _ (shapes : Shapes) (kept : AreKept shapes) (few : rows_in shapes ≤ 1048576) where
  found_strict : (k : ℕ) (runs : List (Run Kind)) → slice_get shapes k ≡ Some runs → AreStrict runs
  found_strict k runs is = let rows = one_counted shapes k runs is in strict runs (each_at AreJoined shapes k runs kept.joined is) (omega (arith, rows, few))

  found_alike : (k : ℕ) (runs : List (Run Kind)) → slice_get shapes k ≡ Some runs → same_runs runs runs ≡ true
  found_alike k runs is = let rows = one_counted shapes k runs is in alike runs (omega (arith, rows, few))

  pub has_same : (runs : List (Run Kind)) → HaveRuns runs shapes → HasSame runs shapes
  has_same runs (inl among) = let at = place_of shapes runs among in record { place = at.0; found = runs; there = at.1; same = found_alike at.0 runs at.1 }
  has_same runs (inr any) = any_same runs shapes any

  -- a shape with these kinds is the one that is found
  pub shape_found : (form : Shape) → HaveRuns (runs_of form) shapes → (shape : ℕ) (runs : List (Run Kind)) → slice_get shapes shape ≡ Some runs → expanded runs ≡ kinds_of form → shape_in shapes (runs_of form) ≡ Some shape
  shape_found form have shape runs there kinds =
      let one = has_same (runs_of form) have in
      let its : one.found ≡ runs = same_kinds one.place one.found one.there one.same in
      let passes : same_runs runs (runs_of form) ≡ true = subst (λ x. same_runs x (runs_of form) ≡ true) its one.same in
      let first = only_first (λ found. same_runs found (runs_of form)) shapes shape runs there passes
      (λ j y at so. same_place shapes j shape runs kept.apart (found_alike shape runs there) (at ∙ ap Some (same_kinds j y at so)) there) in
      let low = within shapes shape runs there in
      let long = few_shapes shapes kept.joined kept.some in
      ap (λ n. option_and_then (below most) (cond (nat_lt n (length shapes)) (Some n) None)) first
      ∙ (ap (λ b. option_and_then (below most) (cond b (Some shape) None)) (lt-ltb shape (length shapes) low)
      ∙ ap (λ b. if b then Some shape else None) (lt-ltb shape most (omega (arith, low, long, few)))) where
        same_kinds : (k : ℕ) (found : List (Run Kind)) → slice_get shapes k ≡ Some found → same_runs found (runs_of form) ≡ true → found ≡ runs
        same_kinds k found at same = strict_same found runs (found_strict k found at) (found_strict shape runs there) (kinds_found found form same ∙ sym kinds)
