-- Joined runs have the rows that they had.
use Rattle.std.specs.Prelude.{◌≡◌, ℕ, zero, suc, ◌+◌, ◌==◌, nat_le, Bool, true, false, ◌&&◌, List, [], ◌∷◌, ◌++◌, replicate, if◌then◌else◌}
use Rattle.std.proofs.Common.{refl, sym, ap, ◌∙◌, arith, append-nil, append_assoc}
use Rattle.std.proofs.lemmas.Bool.{eqb-true, and_parts}
use Rattle.hal_code.specs.declared.row.Run.{Run}
use Rattle.hal_code.specs.Images.{expanded}
use Rattle.hal_runs.specs.Joined.{alone, joins, longer, with_some, with_run, with_runs, with_rows, rows_joined, runs_joined}

-- rows behind runs, of which the last one stands apart
pub some_behind : {T : Type 0} (same : T → T → Bool) (front : List (Run T)) (last run : Run T) → with_some same (front ++ (last ∷ [])) run ≡ front ++ with_some same (last ∷ []) run
unfolding with_some
some_behind same [] last run = refl
some_behind same (one ∷ []) last run = refl
some_behind same (one ∷ next ∷ front) last run = ap (λ runs. one ∷ runs) (some_behind same (next ∷ front) last run)

-- some runs, and then more
pub runs_behind : {T : Type 0} (same : T → T → Bool) (runs some more : List (Run T)) → with_runs same runs (some ++ more) ≡ with_runs same (with_runs same runs some) more
unfolding with_runs
runs_behind same runs [] more = refl
runs_behind same runs (run ∷ some) more = runs_behind same (with_run same runs run) some more

more_of : {T : Type 0} (n m : ℕ) (row : T) → replicate (n + m) row ≡ replicate n row ++ replicate m row
more_of zero m row = let same : zero + m ≡ m = omega (arith) in ap (λ k. replicate k row) same
more_of (suc n) m row = let same : suc n + m ≡ suc (n + m) = omega (arith) in ap (λ k. replicate k row) same ∙ ap (λ rows. row ∷ rows) (more_of n m row)

module _ {T : Type 0} (same : T → T → Bool) (is_same : (x y : T) → same x y ≡ true → x ≡ y) where
  last_by : (one run : Run T) (b : Bool) → joins same one run ≡ b → expanded (if b then longer one run.repeat ∷ [] else one ∷ run ∷ []) ≡ replicate one.repeat one.row ++ replicate run.repeat run.row
  last_by one run true is =
      let row : one.row ≡ run.row = is_same one.row run.row (and_parts (same one.row run.row) (nat_le (one.repeat + run.repeat) 4294967295) is).0 in
      append-nil (replicate (one.repeat + run.repeat) one.row) ∙ more_of one.repeat run.repeat one.row ∙ ap (λ r. replicate one.repeat one.row ++ replicate run.repeat r) row
  last_by one run false is = ap (λ rows. replicate one.repeat one.row ++ rows) (append-nil (replicate run.repeat run.row))

  pub some_expanded : (runs : List (Run T)) (run : Run T) → expanded (with_some same runs run) ≡ expanded runs ++ replicate run.repeat run.row
  unfolding with_some
  some_expanded [] run = append-nil (replicate run.repeat run.row)
  some_expanded (one ∷ []) run =
      last_by one run (joins same one run) refl ∙ ap (λ rows. rows ++ replicate run.repeat run.row) (sym (append-nil (replicate one.repeat one.row)))
  some_expanded (one ∷ next ∷ runs) run =
      ap (λ rows. replicate one.repeat one.row ++ rows) (some_expanded (next ∷ runs) run)
      ∙ sym (append_assoc (replicate one.repeat one.row) (expanded (next ∷ runs)) (replicate run.repeat run.row))

  run_by : (runs : List (Run T)) (run : Run T) (b : Bool) → (run.repeat == 0) ≡ b → expanded (if b then runs else with_some same runs run) ≡ expanded runs ++ replicate run.repeat run.row
  run_by runs run true is =
      let none : run.repeat ≡ 0 = eqb-true run.repeat 0 is in
      sym (ap (λ n. expanded runs ++ replicate n run.row) none ∙ append-nil (expanded runs))
  run_by runs run false is = some_expanded runs run

  pub run_expanded : (runs : List (Run T)) (run : Run T) → expanded (with_run same runs run) ≡ expanded runs ++ replicate run.repeat run.row
  run_expanded runs run = run_by runs run (run.repeat == 0) refl

  runs_expanded : (runs more : List (Run T)) → expanded (with_runs same runs more) ≡ expanded runs ++ expanded more
  unfolding with_runs
  runs_expanded runs [] = sym (append-nil (expanded runs))
  runs_expanded runs (run ∷ more) =
      runs_expanded (with_run same runs run) more ∙ ap (λ rows. rows ++ expanded more) (run_expanded runs run)
      ∙ append_assoc (expanded runs) (replicate run.repeat run.row) (expanded more)

  rows_expanded : (runs : List (Run T)) (rows : List T) → expanded (with_rows same runs rows) ≡ expanded runs ++ rows
  unfolding with_rows
  rows_expanded runs [] = sym (append-nil (expanded runs))
  rows_expanded runs (row ∷ rows) =
      rows_expanded (with_run same runs (alone row)) rows ∙ ap (λ list. list ++ rows) (run_expanded runs (alone row)) ∙ append_assoc (expanded runs) (row ∷ []) rows

  -- joined runs have the same rows
  pub joined_expanded : (runs : List (Run T)) → expanded (runs_joined same runs) ≡ expanded runs
  joined_expanded runs = runs_expanded [] runs

  -- and rows that are joined are those
  pub rows_again : (rows : List T) → expanded (rows_joined same rows) ≡ rows
  rows_again rows = rows_expanded [] rows
