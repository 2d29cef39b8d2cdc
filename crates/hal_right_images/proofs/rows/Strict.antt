-- Runs of which no two neighbours can be joined: there is one list of them alone for each list of kinds.
use Rattle.std.specs.Prelude.{◌≡◌, ◌<◌, ◌≤◌, ◌⊎◌, ℕ, zero, suc, ◌+◌, ◌==◌, nat_le, nat_lt, Bool, true, false, ◌&&◌, List, [], ◌∷◌, ◌++◌, replicate, if◌then◌else◌}
use Rattle.std.proofs.Common.{refl, sym, ap, subst, ◌∙◌, inl, inr, arith}
use Rattle.std.proofs.lemmas.Bool.{and_from, eq-eqb, le-leb, leb-true, lt-ltb}
use Rattle.hal_values.specs.declared.value.Kind.{Kind}
use Rattle.hal_code.specs.declared.row.Run.{Run}
use Rattle.hal_code.specs.Images.{expanded, row_count}
use Rattle.hal_code.specs.Sorts.{same_kind}
use Rattle.hal_runs.specs.Joined.{joins, longer, with_some, with_run}
use Rattle.hal_runs.specs.Joined as joined
use Rattle.hal_gen_expr.specs.Numbering.{most, same_run, same_runs}
use Rattle.hal_fit_layout.proofs.Memory.{kind_alike}

-- runs have rows, and no two neighbours join
abbrev pub AreJoined : List (Run Kind) → Type 0
AreJoined [] = Unit {0}
AreJoined (one ∷ []) = 0 < one.repeat
AreJoined (one ∷ next ∷ runs) = (0 < one.repeat) × (joins same_kind one next ≡ false) × AreJoined (next ∷ runs)

-- runs have rows, and no two neighbours have the same kind
abbrev pub AreStrict : List (Run Kind) → Type 0
AreStrict [] = Unit {0}
AreStrict (one ∷ []) = 0 < one.repeat
AreStrict (one ∷ next ∷ runs) = (0 < one.repeat) × (same_kind one.row next.row ≡ false) × AreStrict (next ∷ runs)

both_or : (a b : Bool) → (a && b) ≡ false → (a ≡ false) ⊎ (b ≡ false)
both_or true b is = inr is
both_or false b is = inl refl

first_false : (a b : Bool) → a ≡ false → (a && b) ≡ false
first_false true b is = absurd (cc)
first_false false b is = refl

second_false : (a b : Bool) → b ≡ false → (a && b) ≡ false
second_false true b is = is
second_false false b is = refl

beyond : (m n : ℕ) → nat_le m 4294967295 ≡ false → m ≤ n → nat_le n 4294967295 ≡ false
beyond m n is less = by (nat_le n 4294967295) refl where
  by : (b : Bool) → nat_le n 4294967295 ≡ b → nat_le n 4294967295 ≡ false
  by false isnt = isnt
  by true low =
      let most_of = leb-true n 4294967295 low in
      let so = le-leb m 4294967295 (omega (arith, most_of, less)) in
      absurd (cc)

-- a run that doesn't join one doesn't join it where that one is longer
still_apart : (one next : Run Kind) (more : ℕ) → joins same_kind one next ≡ false → joins same_kind one (longer next more) ≡ false
still_apart one next more is = by (both_or (same_kind one.row next.row) (nat_le (one.repeat + next.repeat) 4294967295) is) where
  by : (same_kind one.row next.row ≡ false) ⊎ (nat_le (one.repeat + next.repeat) 4294967295 ≡ false) → joins same_kind one (longer next more) ≡ false
  by (inl kinds) = first_false (same_kind one.row next.row) (nat_le (one.repeat + (next.repeat + more)) 4294967295) kinds
  by (inr counts) = second_false (same_kind one.row next.row) (nat_le (one.repeat + (next.repeat + more)) 4294967295) (beyond (one.repeat + next.repeat) (one.repeat + (next.repeat + more)) counts (omega arith))

two_joined : (one run : Run Kind) (b : Bool) → joins same_kind one run ≡ b → 0 < one.repeat → 0 < run.repeat → AreJoined (if b then longer one run.repeat ∷ [] else one ∷ run ∷ [])
two_joined one run true is first second = omega (arith, first)
two_joined one run false is first second = (first, is, second)

behind_joined : (one next run : Run Kind) (b : Bool) → joins same_kind next run ≡ b → 0 < one.repeat → joins same_kind one next ≡ false → 0 < next.repeat → 0 < run.repeat
    → AreJoined (one ∷ (if b then longer next run.repeat ∷ [] else next ∷ run ∷ []))
behind_joined one next run true is first apart second third = (first, still_apart one next run.repeat apart, omega (arith, second))
behind_joined one next run false is first apart second third = (first, apart, (second, is, third))

some_joined : (runs : List (Run Kind)) (run : Run Kind) → AreJoined runs → 0 < run.repeat → AreJoined (with_some same_kind runs run)
unfolding with_some
some_joined [] run are some = some
some_joined (one ∷ []) run are some = two_joined one run (joins same_kind one run) refl are some
some_joined (one ∷ next ∷ []) run are some = behind_joined one next run (joins same_kind next run) refl are.0 are.1 are.2 some
some_joined (one ∷ next ∷ third ∷ runs) run are some = (are.0, are.1, some_joined (next ∷ third ∷ runs) run are.2 some)

pub positive : (n : ℕ) → (n == 0) ≡ false → 0 < n
positive zero is = absurd (cc)
positive (suc n) is = omega arith

run_joined : (runs : List (Run Kind)) (run : Run Kind) → AreJoined runs → AreJoined (with_run same_kind runs run)
run_joined runs run are = by (run.repeat == 0) refl where
  by : (b : Bool) → (run.repeat == 0) ≡ b → AreJoined (if b then runs else with_some same_kind runs run)
  by true is = are
  by false is = some_joined runs run are (positive run.repeat is)

pub runs_joined : (runs more : List (Run Kind)) → AreJoined runs → AreJoined (joined.with_runs same_kind runs more)
unfolding joined.with_runs
runs_joined runs [] are = are
runs_joined runs (run ∷ more) are = runs_joined (with_run same_kind runs run) more (run_joined runs run are)

-- where there are few rows, neighbours that don't join have other kinds
pub strict : (runs : List (Run Kind)) → AreJoined runs → row_count runs ≤ 4294967295 → AreStrict runs
strict [] are few = tt
strict (one ∷ []) are few = are
strict (one ∷ next ∷ runs) are few =
    (are.0, by (both_or (same_kind one.row next.row) (nat_le (one.repeat + next.repeat) 4294967295) are.1), strict (next ∷ runs) are.2 (omega (arith, few))) where
      by : (same_kind one.row next.row ≡ false) ⊎ (nat_le (one.repeat + next.repeat) 4294967295 ≡ false) → same_kind one.row next.row ≡ false
      by (inl kinds) = kinds
      by (inr counts) = let low = le-leb (one.repeat + next.repeat) 4294967295 (omega (arith, few)) in absurd (cc)

-- how many kinds at the beginning are this one
abbrev led : Kind → List Kind → ℕ
led k [] = 0
led k (x ∷ xs) = if same_kind k x then suc (led k xs) else 0

led_more : (k : Kind) (n : ℕ) (xs : List Kind) → led k (replicate n k ++ xs) ≡ n + led k xs
led_more k zero xs = omega arith
led_more k (suc n) xs =
    ap (λ b. if b then suc (led k (replicate n k ++ xs)) else 0) (kind_alike k)
    ∙ (let rest = led_more k n xs in let next : suc (led k (replicate n k ++ xs)) ≡ suc n + led k xs = omega (arith, rest) in next)

led_none : (one : Run Kind) (runs : List (Run Kind)) → AreStrict (one ∷ runs) → led one.row (expanded runs) ≡ 0
led_none one [] are = refl
led_none one (next ∷ []) are = of_next next.repeat are.2 where
  of_next : (n : ℕ) → 0 < n → led one.row (replicate n next.row ++ []) ≡ 0
  of_next zero some = absurd (omega (arith, some))
  of_next (suc n) some = ap (λ b. if b then suc (led one.row (replicate n next.row ++ [])) else 0) are.1
led_none one (next ∷ third ∷ runs) are = of_next next.repeat are.2.0 where
  of_next : (n : ℕ) → 0 < n → led one.row (replicate n next.row ++ expanded (third ∷ runs)) ≡ 0
  of_next zero some = absurd (omega (arith, some))
  of_next (suc n) some = ap (λ b. if b then suc (led one.row (replicate n next.row ++ expanded (third ∷ runs))) else 0) are.1

first_some : (one : Run Kind) (runs : List (Run Kind)) → AreStrict (one ∷ runs) → 0 < one.repeat
first_some one [] are = are
first_some one (next ∷ runs) are = are.0

others_strict : (one : Run Kind) (runs : List (Run Kind)) → AreStrict (one ∷ runs) → AreStrict runs
others_strict one [] are = tt
others_strict one (next ∷ runs) are = are.2

-- the first kind of runs that have rows
opens_with : (n : ℕ) (k : Kind) (xs : List Kind) → 0 < n → (more : List Kind) × (replicate n k ++ xs ≡ k ∷ more)
opens_with zero k xs some = absurd (omega (arith, some))
opens_with (suc n) k xs some = (replicate n k ++ xs, refl)

behind_same : (n : ℕ) (k : Kind) (xs ys : List Kind) → replicate n k ++ xs ≡ replicate n k ++ ys → xs ≡ ys
behind_same zero k xs ys is = is
behind_same (suc n) k xs ys is = behind_same n k xs ys (let rest : replicate n k ++ xs ≡ replicate n k ++ ys = cc in rest)

none_some : (n : ℕ) (k : Kind) (xs : List Kind) → 0 < n → replicate n k ++ xs ≡ [] → ⊥
none_some n k xs some is = let first = opens_with n k xs some in let more = first.1 in absurd (cc)

-- strict runs with the same kinds are the same
pub strict_same : (runs others : List (Run Kind)) → AreStrict runs → AreStrict others → expanded runs ≡ expanded others → runs ≡ others
strict_same [] [] are also is = refl
strict_same [] (other ∷ others) are also is = absurd (none_some other.repeat other.row (expanded others) (first_some other others also) (sym is))
strict_same (one ∷ runs) [] are also is = absurd (none_some one.repeat one.row (expanded runs) (first_some one runs are) is)
strict_same (one ∷ runs) (other ∷ others) are also is =
    let first = opens_with one.repeat one.row (expanded runs) (first_some one runs are) in
    let second = opens_with other.repeat other.row (expanded others) (first_some other others also) in
    let opening = first.1 in
    let opening_too = second.1 in
    let kind : one.row ≡ other.row = cc in
    let at : replicate one.repeat one.row ++ expanded runs ≡ replicate other.repeat one.row ++ expanded others = is ∙ ap (λ k. replicate other.repeat k ++ expanded others) (sym kind) in
    let none = led_none one runs are in
    let none_too : led one.row (expanded others) ≡ 0 = subst (λ k. led k (expanded others) ≡ 0) (sym kind) (led_none other others also) in
    let long = led_more one.row one.repeat (expanded runs) in
    let long_too = led_more one.row other.repeat (expanded others) in
    let counts = ap (led one.row) at in
    let count : one.repeat ≡ other.repeat = omega (arith, none, none_too, long, long_too, counts) in
    let rest : expanded runs ≡ expanded others = behind_same one.repeat one.row (expanded runs) (expanded others) (at ∙ ap (λ n. replicate n one.row ++ expanded others) (sym count)) in
    ap (λ n. let run : Run Kind = record { repeat = n; row = one.row } in run ∷ runs) count
    ∙ (ap (λ k. let run : Run Kind = record { repeat = other.repeat; row = k } in run ∷ runs) kind
    ∙ ap (λ l. other ∷ l) (strict_same runs others (others_strict one runs are) (others_strict other others also) rest))

-- few runs are the same as themselves
pub alike : (runs : List (Run Kind)) → row_count runs < most → same_runs runs runs ≡ true
alike [] few = refl
alike (one ∷ runs) few =
    and_from (same_run one one) (same_runs runs runs)
    (and_from (one.repeat == one.repeat) (nat_lt one.repeat most && same_kind one.row one.row) (eq-eqb one.repeat one.repeat refl)
    (and_from (nat_lt one.repeat most) (same_kind one.row one.row) (lt-ltb one.repeat most (omega (arith, few))) (kind_alike one.row))) (alike runs (omega (arith, few)))
