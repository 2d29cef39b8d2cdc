-- That no process is told many answers.
use Rattle.std.proofs.Common.{◌≡◌, ℕ, ◌+◌, ◌==◌, ◌<◌, ◌≤◌, length, get_or, drop, drop-cons, add-one, ◌⊎◌, inl, inr, Bool, true, false, cond, List, [], ◌∷◌, count_by, ap, sym, ◌∙◌, subst, refl, arith}
use Rattle.std.proofs.lemmas.Bool.{eqb-true}
use Rattle.std.proofs.lemmas.List.Sums.{sum_by-cons}
use Rattle.exec_model.specs.declared.told.Told.{Told}
use Rattle.exec_model.specs.Telling.{is_for, TellsFew}

-- each process that these answers are for is told at most so many of the whole
abbrev pub EachFew : ℕ → List Told → List Told → Type 0
EachFew most whole [] = Unit {0}
EachFew most whole (given ∷ others) = (count_by (is_for given.process) whole ≤ most) × EachFew most whole others

-- a process is told none of these, or at most so many of the whole
few-or_none : (most p : ℕ) (whole told : List Told) → EachFew most whole told → (count_by (is_for p) told ≡ 0) ⊎ (count_by (is_for p) whole ≤ most)
few-or_none most p whole [] few = inl refl
few-or_none most p whole (given ∷ others) few = go (given.process == p) refl (few-or_none most p whole others few.1) where
  go : (b : Bool) → (given.process == p) ≡ b → (count_by (is_for p) others ≡ 0) ⊎ (count_by (is_for p) whole ≤ most) → (count_by (is_for p) (given ∷ others) ≡ 0) ⊎ (count_by (is_for p) whole ≤ most)
  go true e rest = inr (subst (λ k. count_by (is_for k) whole ≤ most) (eqb-true given.process p e) few.0)
  go false e (inl none) = inl (sum_by-cons (λ (o : Told). cond (is_for p o) 1 0) given others ∙ ap {B = ℕ} (λ b. cond b 1 0 + count_by (is_for p) others) e ∙ omega (arith, none))
  go false e (inr small) = inr small

-- no process is told more, where none of those that are told is
pub TellsFew-from : (most : ℕ) (told : List Told) → EachFew most told told → TellsFew most told
TellsFew-from most told few p = go (few-or_none most p told told few) where
  go : (count_by (is_for p) told ≡ 0) ⊎ (count_by (is_for p) told ≤ most) → count_by (is_for p) told ≤ most
  go (inl none) = omega (arith, none)
  go (inr small) = small

-- one answer more at the front
pub EachFew-drop : (most i : ℕ) (whole told : List Told) (given : Told) → i < length told → given ≡ get_or told i given → count_by (is_for given.process) whole ≤ most → EachFew most whole (drop (i + 1) told) → EachFew most whole (drop i told)
EachFew-drop most i whole told given lt is small rest =
    subst (EachFew most whole) (sym (drop-cons told i given lt)) (subst (λ (t : Told). count_by (is_for t.process) whole ≤ most) is small, subst (λ k. EachFew most whole (drop k told)) (add-one i) rest)
