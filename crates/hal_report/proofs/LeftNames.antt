-- The elements of names, structure by structure.
use Rattle.std.proofs.Common.{◌≡◌, ◌≢◌, ℕ, zero, suc, ◌+◌, ◌≤◌, ◌==◌, inl, inr, List, ◌∷◌, ◌++◌, length, take, drop, None, ap, ap₂, sym, ◌∙◌, append_assoc, length-drop, add-one, arith}
use Rattle.std.proofs.lemmas.Bool.{cases_Bool, cond-true, cond-false, eqb-true, eq-eqb}
use Rattle.hal_values.specs.declared.tables.ReportName.{ReportName}
use Rattle.hal_values.specs.ReportElements.{Element, copy_elements, structure_rest, structure_elements, elements_in}

-- the elements that are still to be added, with those that stand there, are the whole
abbrev pub AreLeft : List ReportName → List Element → List Element → Type 0
AreLeft rest shown whole = (n : ℕ) × (length rest ≤ n) × (shown ++ elements_in n rest ≡ whole)

first_plain : (n : ℕ) (named : ReportName) (others : List ReportName) → named.copies ≡ 0 → elements_in (suc n) (named ∷ others) ≡ copy_elements None named ++ elements_in n others
first_plain n named others none = cond-true (named.copies == 0) _ _ (eq-eqb named.copies 0 none)

first_structure : (n : ℕ) (named : ReportName) (others : List ReportName) → named.copies ≢ 0
    → elements_in (suc n) (named ∷ others) ≡ structure_elements named.copies (named ∷ take (structure_rest named others) others) ++ elements_in n (drop (structure_rest named others) others)
first_structure n named others some = elim (cases_Bool (named.copies == 0)) [
  | inl none ↦ absurd (some (eqb-true named.copies 0 none))
  | inr copies ↦ cond-false (named.copies == 0) _ _ copies
]

pub AreLeft-plain : (rest others : List ReportName) (named : ReportName) (shown new whole : List Element) → rest ≡ named ∷ others → named.copies ≡ 0 → new ≡ shown ++ copy_elements None named
    → AreLeft rest shown whole → AreLeft others new whole
AreLeft-plain rest others named shown new whole is none grown (zero, few, e) = absurd (omega (arith, ap length is, few))
AreLeft-plain rest others named shown new whole is none grown (suc n, few, e) = (
  n,
  omega (arith, ap length is, few),
  ap (λ s. s ++ elements_in n others) grown
      ∙ (append_assoc shown (copy_elements None named) (elements_in n others)
      ∙ (ap (λ r. shown ++ r) (sym (first_plain n named others none)) ∙ (ap (λ r. shown ++ elements_in (suc n) r) (sym is) ∙ e))),
)

pub AreLeft-structure : (rest others within later : List ReportName) (named : ReportName) (k : ℕ) (shown new whole : List Element) → rest ≡ named ∷ others → named.copies ≢ 0 → k ≡ structure_rest named others
    → within ≡ take (k + 1) rest → later ≡ drop (k + 1) rest → new ≡ shown ++ structure_elements named.copies within → AreLeft rest shown whole → AreLeft later new whole
AreLeft-structure rest others within later named k shown new whole is some count front back grown (zero, few, e) = absurd (omega (arith, ap length is, few))
AreLeft-structure rest others within later named k shown new whole is some count front back grown (suc n, few, e) =
    let number : k + 1 ≡ suc (structure_rest named others) = ap (λ j. j + 1) count ∙ add-one (structure_rest named others) in
    let group : within ≡ named ∷ take (structure_rest named others) others = front ∙ ap₂ take number is in
    let left : later ≡ drop (structure_rest named others) others = back ∙ ap₂ drop number is in (
      n,
      omega (arith, ap length is, few, ap length left, length-drop (structure_rest named others) others),
      ap₂ (λ (s : List Element) (r : List ReportName). s ++ elements_in n r) (grown ∙ ap (λ g. shown ++ structure_elements named.copies g) group) left
          ∙ (append_assoc shown (structure_elements named.copies (named ∷ take (structure_rest named others) others)) (elements_in n (drop (structure_rest named others) others))
          ∙ (ap (λ r. shown ++ r) (sym (first_structure n named others some)) ∙ (ap (λ r. shown ++ elements_in (suc n) r) (sym is) ∙ e))),
    )
