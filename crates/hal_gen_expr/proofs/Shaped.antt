-- A shape that is found has the kinds of the cells of its data.
use Rattle.std.specs.Prelude.{◌≡◌, ◌<◌, ℕ, zero, suc, ◌==◌, min, map, nat_lt, Bool, true, false, ◌&&◌, List, [], ◌∷◌, ◌++◌, replicate, flat_map, unwrap_or, if◌then◌else◌}
use Rattle.std.proofs.Common.{refl, sym, ap, ◌∙◌, arith}
use Rattle.std.proofs.lemmas.Bool.{eqb-true, ltb-true, and_parts}
use Rattle.hal_values.specs.declared.value.Kind.{Kind}
use Rattle.hal_values.specs.declared.value.Kind.TheVariants as kind
use Rattle.hal_code.specs.declared.row.Run.{Run}
use Rattle.hal_code.specs.Images.{expanded}
use Rattle.hal_code.specs.Sorts.{same_kind}
use Rattle.hal_meaning.specs.Elements.{Component, Shape, count, times, kinds_of_component, kinds_of}
use Rattle.hal_runs.specs.Joined.{joins, longer, with_some, with_run, with_runs}
use Rattle.hal_runs.proofs.Expanded.{joined_expanded}
use Rattle.hal_runs.proofs.Same.{kind_same}
use Rattle.hal_gen_expr.specs.Elements.{counted}
use Rattle.hal_gen_expr.specs.Numbering.{most, same_run, same_runs}
use Rattle.hal_gen_expr.specs.Shapes.{run_of, runs_of}
use Rattle.hal_gen_expr.proofs.Growing.{append_append}

-- no count of these runs is at the limit
abbrev Counted : List (Run Kind) → Type 0
Counted [] = Unit {0}
Counted (run ∷ runs) = (run.repeat < most) × Counted runs

both_counted : (xs ys : List (Run Kind)) → Counted (xs ++ ys) → Counted xs × Counted ys
both_counted [] ys are = (tt, are)
both_counted (x ∷ xs) ys are = let late = both_counted xs ys are.1 in ((are.0, late.0), late.1)

run_is : (one other : Run Kind) → same_run one other ≡ true → (one ≡ other) × (other.repeat < most)
run_is one other is =
    let parts = and_parts (one.repeat == other.repeat) (nat_lt other.repeat most && same_kind one.row other.row) is in
    let late = and_parts (nat_lt other.repeat most) (same_kind one.row other.row) parts.1 in (
      ap (λ n. let run : Run Kind = record { repeat = n; row = one.row } in run) (eqb-true one.repeat other.repeat parts.0)
          ∙ ap (λ k. let run : Run Kind = record { repeat = other.repeat; row = k } in run) (kind_same one.row other.row late.1),
      ltb-true other.repeat most late.0,
    )

runs_are : (found wanted : List (Run Kind)) → same_runs found wanted ≡ true → (found ≡ wanted) × Counted wanted
runs_are [] [] is = (refl, tt)
runs_are (one ∷ ones) (other ∷ others) is =
    let parts = and_parts (same_run one other) (same_runs ones others) is in
    let first = run_is one other parts.0 in
    let late = runs_are ones others parts.1 in
    (ap (λ run. run ∷ ones) first.0 ∙ ap (λ runs. other ∷ runs) late.0, (first.1, late.1))
runs_are [] (other ∷ others) is = absurd (cc)
runs_are (one ∷ ones) [] is = absurd (cc)

both_expanded : (xs ys : List (Run Kind)) → expanded (xs ++ ys) ≡ expanded xs ++ expanded ys
both_expanded [] ys = refl
both_expanded (x ∷ xs) ys = ap (λ ks. replicate x.repeat x.row ++ ks) (both_expanded xs ys) ∙ sym (append_append (replicate x.repeat x.row) (expanded xs) (expanded ys))

exact : (n : ℕ) → min n counted < most → min n counted ≡ n
exact n less = omega (arith, less)

copy_expanded : (components : List Component) → Counted (map run_of components) → expanded (map run_of components) ≡ flat_map kinds_of_component components
copy_expanded [] are = refl
copy_expanded (c ∷ cs) are =
    ap (λ n. replicate n c.kind ++ expanded (map run_of cs)) (exact (count c) are.0) ∙ ap (λ ks. replicate (count c) c.kind ++ ks) (copy_expanded cs are.1)

copies_expanded : (n : ℕ) (components : List Component) → Counted (times n (map run_of components)) → expanded (times n (map run_of components)) ≡ times n (flat_map kinds_of_component components)
copies_expanded zero components are = refl
copies_expanded (suc n) components are =
    let parts = both_counted (map run_of components) (times n (map run_of components)) are in
    both_expanded (map run_of components) (times n (map run_of components))
    ∙ (ap (λ ks. ks ++ expanded (times n (map run_of components))) (copy_expanded components parts.0)
    ∙ ap (λ ks. flat_map kinds_of_component components ++ ks) (copies_expanded n components parts.1))

some_by : (one run : Run Kind) (b : Bool) → Counted (if b then longer one run.repeat ∷ [] else one ∷ run ∷ []) → Counted (one ∷ []) × (run.repeat < most)
some_by one run true are = ((omega (arith, are.0), tt), omega (arith, are.0))
some_by one run false are = ((are.0, tt), are.1.0)

some_counted : (runs : List (Run Kind)) (run : Run Kind) → Counted (with_some same_kind runs run) → Counted runs × (run.repeat < most)
unfolding with_some
some_counted [] run are = (tt, are.0)
some_counted (one ∷ []) run are = some_by one run (joins same_kind one run) are
some_counted (one ∷ next ∷ runs) run are = let late = some_counted (next ∷ runs) run are.1 in ((are.0, late.0), late.1)

run_by : (runs : List (Run Kind)) (run : Run Kind) (b : Bool) → (run.repeat == 0) ≡ b → Counted (if b then runs else with_some same_kind runs run) → Counted runs × (run.repeat < most)
run_by runs run true is are = (are, omega (arith, eqb-true run.repeat 0 is))
run_by runs run false is are = some_counted runs run are

-- where no count of joined runs is at the limit, none was
joined_counted : (runs more : List (Run Kind)) → Counted (with_runs same_kind runs more) → Counted runs × Counted more
unfolding with_runs
joined_counted runs [] are = (are, tt)
joined_counted runs (run ∷ more) are =
    let late = joined_counted (with_run same_kind runs run) more are in
    let first = run_by runs run (run.repeat == 0) refl late.0 in
    (first.0, (first.1, late.1))

pub kinds_found : (found : List (Run Kind)) (shape : Shape) → same_runs found (runs_of shape) ≡ true → expanded found ≡ kinds_of shape
kinds_found found shape is =
    let are = runs_are found (runs_of shape) is in
    let list = times (unwrap_or shape.copies 1) (map run_of shape.components) in
    ap expanded are.0 ∙ joined_expanded same_kind kind_same list ∙ copies_expanded (unwrap_or shape.copies 1) shape.components (joined_counted [] list are.1).1
