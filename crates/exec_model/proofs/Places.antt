-- The loops over processes that count and find.
use Rattle.std.proofs.Common.{◌≡◌, ℕ, suc, ◌+◌, ◌-◌, ◌<◌, Bool, true, false, cond, List, length, count_by, ap, subst, refl, arith}
use Rattle.std.specs.List.{range_with_len}
use Rattle.exec_model.specs.declared.row.Row.{Row}
use Rattle.exec_model.specs.Order.{IsInFirst}
use Rattle.exec_model.specs.Rows.{row_in, is_ready}
use Rattle.exec_model.proofs.Families.{left_of}
use Rattle.exec_model.proofs.Ordering.{count_by-more, place-first, ready-exists}

-- one number more is counted, where it passes the test
pub count-step : (test : ℕ → Bool) (n i p count new whole : ℕ) (b : Bool) → i < n → p ≡ i → test p ≡ b → new ≡ count + cond b 1 0
    → count + count_by test (range_with_len i (n - i)) ≡ whole → new + count_by test (range_with_len (i + 1) (n - (i + 1))) ≡ whole
count-step test n i p count new whole b lt is passes grown before =
    let here : cond (test i) 1 0 ≡ cond b 1 0 = ap {B = ℕ} (λ v. cond v 1 0) (subst (λ k. test k ≡ b) is passes) in
    let split : count_by test (range_with_len i (n - i)) ≡ count_by test (range_with_len i (suc (n - (i + 1)))) = ap (λ k. count_by test (range_with_len i k)) (left_of n i lt) in
    let more : count_by test (range_with_len i (suc (n - (i + 1)))) ≡ cond (test i) 1 0 + count_by test (range_with_len (i + 1) (n - (i + 1))) = count_by-more test i (n - (i + 1)) in
    omega (arith, here, split, more, grown, before)

-- where none is the first, none is Ready
pub none-ready : (rows : List Row) → ((p : ℕ) → p < length rows → IsInFirst 1 rows p → ⊥) → (p : ℕ) → is_ready (row_in rows p) ≡ false
none-ready rows none p = go (is_ready (row_in rows p)) refl where
  go : (b : Bool) → is_ready (row_in rows p) ≡ b → is_ready (row_in rows p) ≡ false
  go false e = e
  go true e = let found = place-first rows p e in absurd (none found.0 (ready-exists rows found.0 found.1.ready) found.1)
