-- Places of a list that grows, or of which one is set.
use Rattle.std.proofs.Common.{◌≡◌, ◌<◌, ◌≤◌, ◌⊎◌, ℕ, zero, suc, inl, inr, List, [], ◌∷◌, ◌++◌, length, get_or, reverse, slice_get, slice_set, Option, Some, None, is_some, true, false, All, refl, sym, ap, subst, arith}
use Rattle.std.proofs.lemmas.List.{reverse-append}
use Rattle.std.proofs.lemmas.List.Elements.{All-append, All-cons, All-head, All-nil, All-tail}

pub get_more : {A : Type 0} (list more : List A) (i : ℕ) (one : A) → slice_get list i ≡ Some one → slice_get (list ++ more) i ≡ Some one
get_more [] more i one is = let no : None ≡ Some one = is in absurd (cc)
get_more (x ∷ list) more zero one is = is
get_more (x ∷ list) more (suc i) one is = get_more list more i one is

pub get_end : {A : Type 0} (list : List A) (last : A) → slice_get (list ++ last ∷ []) (length list) ≡ Some last
get_end [] last = refl
get_end (x ∷ list) last = get_end list last

-- a place of a longer list is a place of the list, or the last one
pub get_cases : {A : Type 0} (list : List A) (last : A) (i : ℕ) (one : A) → slice_get (list ++ last ∷ []) i ≡ Some one → (slice_get list i ≡ Some one) ⊎ ((i ≡ length list) × (one ≡ last))
get_cases [] last zero one is = let same : last ≡ one = cc in inr (refl, sym same)
get_cases [] last (suc i) one is = let no : None ≡ Some one = is in absurd (cc)
get_cases (x ∷ list) last zero one is = inl is
get_cases (x ∷ list) last (suc i) one is = elim (get_cases list last i one is) [
  | inl before ↦ inl before
  | inr here ↦ inr (ap suc here.0, here.1)
]

pub get_within : {A : Type 0} (list : List A) (i : ℕ) (one : A) → slice_get list i ≡ Some one → i < length list
get_within [] i one is = let no : None ≡ Some one = is in absurd (cc)
get_within (x ∷ list) zero one is = omega arith
get_within (x ∷ list) (suc i) one is = omega (arith, get_within list i one is)

pub get_there : {A : Type 0} (list : List A) (i : ℕ) → i < length list → (one : A) × (slice_get list i ≡ Some one)
get_there [] i within = absurd (omega (arith, within))
get_there (x ∷ list) zero within = (x, refl)
get_there (x ∷ list) (suc i) within = get_there list i (omega (arith, within))

pub get_known : {A : Type 0} (list : List A) (i : ℕ) (one : A) → i < length list → one ≡ get_or list i one → slice_get list i ≡ Some one
get_known [] i one within is = absurd (omega (arith, within))
get_known (x ∷ list) zero one within is = ap Some (sym is)
get_known (x ∷ list) (suc i) one within is = get_known list i one (omega (arith, within)) is

-- places before the last one
pub get_before : {A : Type 0} (list : List A) (last : A) (i : ℕ) → i < length list → slice_get (list ++ last ∷ []) i ≡ slice_get list i
get_before [] last i within = absurd (omega (arith, within))
get_before (x ∷ list) last zero within = refl
get_before (x ∷ list) last (suc i) within = get_before list last i (omega (arith, within))

-- one place is set
pub set_past : {A : Type 0} (list : List A) (i : ℕ) (one : A) → length list ≤ i → slice_set list i one ≡ list
set_past {A = A} [] i one past = refl
set_past {A = A} (x ∷ list) zero one past = absurd (omega (arith, past))
set_past {A = A} (x ∷ list) (suc i) one past = ap (λ (rest : List A). x ∷ rest) (set_past list i one (omega (arith, past)))

pub set_here : {A : Type 0} (list : List A) (i : ℕ) (one : A) → i < length list → slice_get (slice_set list i one) i ≡ Some one
set_here [] i one within = absurd (omega (arith, within))
set_here (x ∷ list) zero one within = refl
set_here (x ∷ list) (suc i) one within = set_here list i one (omega (arith, within))

pub set_other : {A : Type 0} (list : List A) (i j : ℕ) (one : A) → (i ≡ j → ⊥) → slice_get (slice_set list i one) j ≡ slice_get list j
set_other [] i j one other = refl
set_other (x ∷ list) zero zero one other = absurd (other refl)
set_other (x ∷ list) zero (suc j) one other = refl
set_other (x ∷ list) (suc i) zero one other = refl
set_other (x ∷ list) (suc i) (suc j) one other = set_other list i j one (λ same. other (ap suc same))

pub all_at : {A : Type 0} (P : A → Type 0) (list : List A) (i : ℕ) (one : A) → All P list → slice_get list i ≡ Some one → P one
all_at P [] i one all is = let no : None ≡ Some one = is in absurd (cc)
all_at P (x ∷ list) zero one all is = let same : x ≡ one = cc in subst P same (All-head P x list all)
all_at P (x ∷ list) (suc i) one all is = all_at P list i one (All-tail P x list all) is

pub all_set : {A : Type 0} (P : A → Type 0) (list : List A) (i : ℕ) (one : A) → All P list → P one → All P (slice_set list i one)
all_set P [] i one all is = all
all_set P (x ∷ list) zero one all is = All-cons P one list is (All-tail P x list all)
all_set P (x ∷ list) (suc i) one all is = All-cons P x (slice_set list i one) (All-head P x list all) (all_set P list i one (All-tail P x list all) is)

-- the list without its last place
pub all_front : {A : Type 0} (P : A → Type 0) (list : List A) (last : A) → All P (list ++ last ∷ []) → All P list
all_front P [] last all = All-nil P
all_front P (x ∷ list) last all = All-cons P x list (All-head P x (list ++ last ∷ []) all) (all_front P list last (All-tail P x (list ++ last ∷ []) all))

pub all_last : {A : Type 0} (P : A → Type 0) (list : List A) (last : A) → All P (list ++ last ∷ []) → P last
all_last P [] last all = All-head P last [] all
all_last P (x ∷ list) last all = all_last P list last (All-tail P x (list ++ last ∷ []) all)

pub all_turned : {A : Type 0} (P : A → Type 0) (list : List A) → All P list → All P (reverse list)
all_turned P [] all = all
all_turned P (x ∷ list) all =
    subst (All P) (sym (reverse-append (x ∷ []) list))
    (All-append P (reverse list) (x ∷ []) (all_turned P list (All-tail P x list all)) (All-cons P x [] (All-head P x list all) (All-nil P)))

pub none_known : {A : Type 0} (one : Option A) → is_some one ≡ false → one ≡ None
none_known None is = refl
none_known (Some value) is = let no : true ≡ false = is in absurd (cc)
