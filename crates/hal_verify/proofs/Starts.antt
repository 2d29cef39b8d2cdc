-- Where runs begin.
use Rattle.std.specs.Prelude.{◌≡◌, ℕ, zero, suc, ◌+◌, ◌-◌, ◌<◌, ◌≤◌, min, List, [], ◌∷◌, drop, take, length, Some, slice_get}
use Rattle.std.proofs.Common.{ap, sym, ◌∙◌, arith}
use Rattle.hal_code.specs.declared.row.Run.{Run}
use Rattle.hal_code.specs.Images.{expanded, row_count}
use Rattle.hal_verify.specs.Starts.{starts_of}
use Rattle.hal_verify.specs.declared.room.Room.{Room}
use Rattle.hal_verify.proofs.Cursors.{drop_past}
use Rattle.hal_verify.proofs.Capped.{one_more}

first_number : (n s : ℕ) → Some n ≡ Some s → n ≡ s
first_number n s is = cc

start_at : (runs : List (Run Room)) (n i s : ℕ) → n ≤ 18446744073709551615 → slice_get (starts_of n runs) i ≡ Some s → s ≡ min (n + row_count (take i runs)) 18446744073709551615
start_at [] n i s small there = absurd (cc)
start_at (run ∷ runs) n zero s small there = sym (first_number n s there) ∙ omega (arith, small)
start_at (run ∷ runs) n (suc i) s small there =
    start_at runs (min (n + run.repeat) 18446744073709551615) i s (omega arith) there ∙ one_more n run.repeat (row_count (take i runs)) 18446744073709551615

same_drop : (n m : ℕ) (rooms : List Room) → n ≡ m → drop n rooms ≡ drop m rooms
same_drop n m rooms is = ap (λ k. drop k rooms) is

behind_runs : (runs : List (Run Room)) (i n : ℕ) → row_count (take i runs) ≤ n → drop (n - row_count (take i runs)) (expanded (drop i runs)) ≡ drop n (expanded runs)
behind_runs runs zero n before = same_drop (n - 0) n (expanded runs) (omega arith)
behind_runs [] (suc i) n before = same_drop (n - 0) n [] (omega arith)
behind_runs (run ∷ runs) (suc i) n before =
    same_drop (n - (run.repeat + row_count (take i runs))) ((n - run.repeat) - row_count (take i runs)) (expanded (drop i runs)) (omega arith)
    ∙ behind_runs runs i (n - run.repeat) (omega (arith, before))
    ∙ sym (drop_past n run.repeat run.row (expanded runs) (omega (arith, before)))

-- from the beginning of a run on
pub at_start : (runs : List (Run Room)) (i s n : ℕ) → slice_get (starts_of 0 runs) i ≡ Some s → s ≤ n → n < 18446744073709551615
    → drop (n - s) (expanded (drop i runs)) ≡ drop n (expanded runs)
at_start runs i s n there before small =
    let is : s ≡ row_count (take i runs) = omega (arith, start_at runs 0 i s (omega arith) there, before, small) in
    ap (λ k. drop (n - k) (expanded (drop i runs))) is ∙ behind_runs runs i n (omega (arith, is, before))

-- such a run is there
pub run_within : (runs : List (Run Room)) (n i s : ℕ) → slice_get (starts_of n runs) i ≡ Some s → i < length runs
run_within [] n i s there = absurd (cc)
run_within (run ∷ runs) n zero s there = omega arith
run_within (run ∷ runs) n (suc i) s there = omega (arith, run_within runs (min (n + run.repeat) 18446744073709551615) i s there)
