-- One step of the loops over fathers and over processes.
use Rattle.std.proofs.Common.{◌≡◌, ℕ, zero, suc, ◌+◌, ◌-◌, ◌<◌, Bool, true, false, ◌||◌, cond, List, [], ◌∷◌, ◌++◌, filter, Option, ap, sym, ◌∙◌, subst, arith, append_assoc}
use Rattle.std.specs.List.{range_with_len}
use Rattle.exec_model.specs.declared.row.Row.{Row}
use Rattle.exec_model.specs.Killing.{leads, father_in, is_process}

-- a number that isn't at the end leaves one more
pub left_of : (n i : ℕ) → i < n → n - i ≡ suc (n - (i + 1))
left_of n i lt = omega arith

-- fathers lead there in as many steps, where the process isn't the one
pub leads-step : (n i : ℕ) (rows : List Row) (at : Option ℕ) (to : ℕ) → i < n → is_process to at ≡ false → leads (n - (i + 1)) rows (father_in rows at) to ≡ leads (n - i) rows at to
leads-step n i rows at to lt other =
    sym (ap (λ k. leads k rows at to) (left_of n i lt) ∙ ap (λ b. b || leads (n - (i + 1)) rows (father_in rows at) to) other)

-- where it is, they lead there
pub leads-here : (n : ℕ) (rows : List Row) (at : Option ℕ) (to : ℕ) → is_process to at ≡ true → leads n rows at to ≡ true
leads-here zero rows at to here = here
leads-here (suc n) rows at to here = ap (λ b. b || leads n rows (father_in rows at) to) here

-- the numbers from one on, which isn't at the end
pub range-step : (n i : ℕ) → i < n → range_with_len i (n - i) ≡ i ∷ range_with_len (i + 1) (n - (i + 1))
range-step n i lt = ap (range_with_len i) (left_of n i lt)

-- the rest of a filter, from one on, which isn't at the end
filter-step : (test : ℕ → Bool) (n i : ℕ) (b : Bool) → i < n → test i ≡ b → filter test (range_with_len i (n - i)) ≡ cond b (i ∷ filter test (range_with_len (i + 1) (n - (i + 1)))) (filter test (range_with_len (i + 1) (n - (i + 1))))
filter-step test n i b lt is = ap (filter test) (range-step n i lt) ∙ ap (λ v. cond v (i ∷ filter test (range_with_len (i + 1) (n - (i + 1)))) (filter test (range_with_len (i + 1) (n - (i + 1))))) is

-- a number that passes the test goes to the front
pub filter-taken : (test : ℕ → Bool) (n i p : ℕ) (front members whole : List ℕ) → i < n → p ≡ i → test p ≡ true → members ≡ front ++ p ∷ [] → front ++ filter test (range_with_len i (n - i)) ≡ whole
    → members ++ filter test (range_with_len (i + 1) (n - (i + 1))) ≡ whole
filter-taken test n i p front members whole lt is passes grown before =
    ap (λ xs. xs ++ filter test (range_with_len (i + 1) (n - (i + 1)))) (grown ∙ ap (λ k. front ++ k ∷ []) is)
    ∙ append_assoc front (i ∷ []) (filter test (range_with_len (i + 1) (n - (i + 1))))
    ∙ ap (λ xs. front ++ xs) (sym (filter-step test n i true lt (subst (λ k. test k ≡ true) is passes)))
    ∙ before

-- one that doesn't is left out
pub filter-left : (test : ℕ → Bool) (n i p : ℕ) (front members whole : List ℕ) → i < n → p ≡ i → test p ≡ false → members ≡ front → front ++ filter test (range_with_len i (n - i)) ≡ whole
    → members ++ filter test (range_with_len (i + 1) (n - (i + 1))) ≡ whole
filter-left test n i p front members whole lt is fails same before =
    ap (λ xs. xs ++ filter test (range_with_len (i + 1) (n - (i + 1)))) same
    ∙ ap (λ xs. front ++ xs) (sym (filter-step test n i false lt (subst (λ k. test k ≡ false) is fails)))
    ∙ before
