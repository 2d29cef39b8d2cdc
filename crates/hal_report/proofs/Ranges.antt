-- One number more of a range, and one bit more of a word.
use Rattle.std.proofs.Common.{◌≡◌, ℕ, suc, ◌+◌, ◌-◌, ◌<◌, ◌/◌, ◌%◌, ◌^◌, List, [], ◌∷◌, ◌++◌, map, flat_map, ap, sym, subst, ◌∙◌, append_assoc}
use Rattle.std.specs.List.{range_with_len}
use Rattle.hal_values.specs.BitTexts.{bits_text}
use Rattle.exec_model.proofs.Families.{range-step}

-- what a number gives is put after what those before it gave
pub flat_map-next : {B : Type 0} (f : ℕ → List B) (n i : ℕ) (text new whole : List B) → i < n → text ++ flat_map f (range_with_len i (n - i)) ≡ whole → new ≡ text ++ f i
    → new ++ flat_map f (range_with_len (i + 1) (n - (i + 1))) ≡ whole
flat_map-next f n i text new whole there before grown =
    let rest = range_with_len (i + 1) (n - (i + 1)) in
    ap (λ t. t ++ flat_map f rest) grown ∙ (append_assoc text (f i) (flat_map f rest) ∙ (ap (λ r. text ++ flat_map f r) (sym (range-step n i there)) ∙ before))

-- the same where each number gives one
pub map-next : {B : Type 0} (f : ℕ → B) (n i : ℕ) (text new whole : List B) → i < n → text ++ map f (range_with_len i (n - i)) ≡ whole → new ≡ text ++ f i ∷ []
    → new ++ map f (range_with_len (i + 1) (n - (i + 1))) ≡ whole
map-next f n i text new whole there before grown =
    let rest = range_with_len (i + 1) (n - (i + 1)) in
    ap (λ t. t ++ map f rest) grown ∙ (append_assoc text (f i ∷ []) (map f rest) ∙ (ap (λ r. text ++ map f r) (sym (range-step n i there)) ∙ before))

-- the next bit of a word
pub bits-next : (text new whole : List ℕ) (rest k word bit : ℕ) → rest ≡ suc k → bit ≡ (word / 2 ^ k) % 2 → new ≡ text ++ (48 + bit) ∷ [] → text ++ bits_text rest word ≡ whole → new ++ bits_text k word ≡ whole
bits-next text new whole rest k word bit one is grown before =
    let opened : text ++ (48 + (word / 2 ^ k) % 2) ∷ bits_text k word ≡ whole = subst (λ (r : ℕ). text ++ bits_text r word ≡ whole) one before in
    ap (λ (t : List ℕ). t ++ bits_text k word) grown ∙ (append_assoc text ((48 + bit) ∷ []) (bits_text k word) ∙ (ap (λ (b : ℕ). text ++ (48 + b) ∷ bits_text k word) is ∙ opened))
