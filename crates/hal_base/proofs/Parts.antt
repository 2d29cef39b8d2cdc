-- What the first separator says of the parts between separators.
use Rattle.std.proofs.Common.{◌≡◌, ℕ, ◌+◌, ◌<◌, ◌≤◌, Bool, true, false, List, [], ◌∷◌, length, take, drop, refl, ap, ◌∙◌, subst, arith, nat_lt, cond, Some, None}
use Rattle.std.specs.List.{position, position_or_len, slice_split, onto_first}
use Rattle.std.proofs.lemmas.List.Splits.{slice_split-cons_no, slice_split_first, length-slice_split}
use Rattle.std.proofs.lemmas.Bool.Decides.{nat_tests}

position-none : (n m : ℕ) → cond (nat_lt n m) (Some n) None ≡ None → m ≤ n
position-none n m e = grind (arith, nat_tests)

position-some : (n m i : ℕ) → cond (nat_lt n m) (Some n) None ≡ Some i → (n < m) × (n ≡ i)
position-some n m i e = grind (arith, nat_tests)

module _ (separates : ℕ → Bool) where
  slice_split-whole : (text : List ℕ) → length text ≤ position_or_len separates text → slice_split separates text ≡ text ∷ []
  slice_split-whole [] e = refl
  slice_split-whole (b ∷ text) e = elim (separates b) as (λ t. separates b ≡ t → slice_split separates (b ∷ text) ≡ (b ∷ text) ∷ []) [
    | true ↦ λ yes. absurd (omega (arith, rw yes at e))
    | false ↦ λ no. slice_split-cons_no separates b text no ∙ ap (onto_first b) (slice_split-whole text (omega (arith, rw no at e)))
  ] refl

  -- a text with no separator is one part
  pub slice_split-none : (text : List ℕ) → position separates text ≡ None → slice_split separates text ≡ text ∷ []
  slice_split-none text e = slice_split-whole text (position-none _ _ e)

  -- the first part ends at the first separator
  pub slice_split-some : (text : List ℕ) (end : ℕ) → position separates text ≡ Some end → slice_split separates text ≡ take end text ∷ slice_split separates (drop (end + 1) text)
  slice_split-some text end e =
      let at = position-some _ _ end e in
      subst (λ n. slice_split separates text ≡ take n text ∷ slice_split separates (drop (n + 1) text)) at.1 (slice_split_first separates text 0 at.0)

  -- there is always a part
  pub slice_split-some_part : (text : List ℕ) → 0 < length (slice_split separates text)
  slice_split-some_part text = omega (arith, length-slice_split separates text)
