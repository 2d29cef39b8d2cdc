-- Which outline each block is of.
use Rattle.std.specs.Prelude.{◌≡◌, ◌≤◌, ◌<◌, ◌⊎◌, ℕ, zero, suc, ◌+◌, ◌==◌, Bool, true, false, ◌||◌, List, [], ◌∷◌, length, Some, slice_get}
use Rattle.std.specs.List.{list_any}
use Rattle.std.proofs.Common.{refl, ap, subst, ◌∙◌, inl, inr, arith}
use Rattle.std.proofs.lemmas.Bool.{ne_eqb}
use Rattle.std.proofs.lemmas.Bool.Decides.{eqb_tells}
use Rattle.hal_meaning.specs.Sets.{Set}
use Rattle.hal_code.specs.declared.row.Process.{Process}
use Rattle.hal_link.specs.Outlines.{Outline, own_block, block_of}
use Rattle.hal_link.specs.Linking.{processes_from}
use Rattle.hal_link.proofs.Outlined.{Laid}

-- what stands in a list
pub named_there : {T : Type 0} (xs : List T) (p : ℕ) → p < length xs → (x : T) × (slice_get xs p ≡ Some x)
named_there [] p less = absurd (omega (arith, less))
named_there (x ∷ xs) zero less = (x, refl)
named_there (x ∷ xs) (suc p) less = named_there xs p (omega (arith, less))

-- the number behind the blocks of outlines whose first one is this
abbrev pub end_of : ℕ → List Outline → ℕ
end_of first [] = first
end_of first (o ∷ os) = end_of (own_block o + 1) os

-- what lies between two numbers
pub beyond : (m n : ℕ) → m ≤ n → (k : ℕ) × (n ≡ m + k)
beyond zero n less = (n, omega arith)
beyond (suc m) zero less = absurd (omega (arith, less))
beyond (suc m) (suc n) less = let later = beyond m n (omega (arith, less)) in let is = later.1 in (later.0, omega (arith, is))

-- the block with this number is an outline's own, or that of a unit of it
abbrev pub IsIn : Outline → ℕ → Type 0
IsIn o number = (number ≡ own_block o) ⊎ ((k : ℕ) × (unit : ℕ) × (slice_get o.called k ≡ Some unit) × (number ≡ o.first + k))

pub record Owned (os : List Outline) (number : ℕ) : Type 0 where
  pub place : ℕ
  pub outline : Outline
  pub there : slice_get os place ≡ Some outline
  pub is : IsIn outline number

below : (m n : ℕ) → m ≤ n → (m ≡ n → ⊥) → m < n
below zero zero least not = absurd (not refl)
below zero (suc n) least not = omega arith
below (suc m) zero least not = absurd (omega (arith, least))
below (suc m) (suc n) least not = let later = below m n (omega (arith, least)) (λ same. not (ap suc same)) in omega (arith, later)

-- one of the first outline
unit_in : (o : Outline) (number k : ℕ) → number ≡ o.first + k → k ≤ length o.called → (number ≡ own_block o → ⊥) → IsIn o number
unit_in o number k is least not =
    let named = named_there o.called k (below k (length o.called) least (λ same. not (omega (arith, is, same)))) in
    inr (k, named.0, named.1, is)

in_first : (o : Outline) (number : ℕ) → o.first ≤ number → number < own_block o + 1 → IsIn o number
in_first o number from to = by (eqb_tells number (own_block o)) where
  by : (((number == own_block o) ≡ true) × (number ≡ own_block o)) ⊎ (((number == own_block o) ≡ false) × (number ≡ own_block o → ⊥)) → IsIn o number
  by (inl told) = inl told.1
  by (inr told) = let further = beyond o.first number from in let is = further.1 in unit_in o number further.0 is (omega (arith, is, to)) told.1

split : (m n : ℕ) → (m ≤ n) ⊎ (n < m)
split zero n = inl (omega arith)
split (suc m) zero = inr (omega arith)
split (suc m) (suc n) = further (split m n) where
  further : (m ≤ n) ⊎ (n < m) → (suc m ≤ suc n) ⊎ (suc n < suc m)
  further (inl less) = inl (omega (arith, less))
  further (inr more) = inr (omega (arith, more))

owner_by : (first : ℕ) (o : Outline) (os : List Outline) (number : ℕ) → o.first ≡ first → first ≤ number → (own_block o + 1 ≤ number) ⊎ (number < own_block o + 1)
    → (own_block o + 1 ≤ number → Owned os number) → Owned (o ∷ os) number
owner_by first o os number starts from (inl more) later =
    let behind = later more in
    record { place = suc behind.place; outline = behind.outline; there = behind.there; is = behind.is }
owner_by first o os number starts from (inr less) later = record { place = zero; outline = o; there = refl; is = in_first o number (omega (arith, starts, from)) less }

pub owner : (first : ℕ) (os : List Outline) (number : ℕ) → Laid first os → first ≤ number → number < end_of first os → Owned os number
owner first [] number laid from to = absurd (omega (arith, from, to))
owner first (o ∷ os) number laid from to = owner_by first o os number laid.0 from (split (own_block o + 1) number) (λ more. owner (own_block o + 1) os number laid.1 more to)

-- outlines begin behind those before them
after_first : (first : ℕ) (os : List Outline) (q : ℕ) (r : Outline) → Laid first os → slice_get os q ≡ Some r → first ≤ r.first
after_first first [] q r laid is = absurd (cc)
after_first first (o ∷ os) zero r laid is =
    let same : o ≡ r = cc in
    let starts = laid.0 in
    subst (λ (x : Outline). first ≤ x.first) same (omega (arith, starts))
after_first first (o ∷ os) (suc q) r laid is =
    let later = after_first (own_block o + 1) os q r laid.1 is in
    let starts = laid.0 in
    omega (arith, later, starts)

-- the block of a unit that is called is no process's own
pub apart : (first : ℕ) (os : List Outline) (p q : ℕ) (o r : Outline) (k : ℕ) → Laid first os → slice_get os p ≡ Some o → slice_get os q ≡ Some r → k < length o.called → own_block r ≡ o.first + k → ⊥
apart first [] p q o r k laid is also less same = absurd (cc)
apart first (x ∷ os) zero zero o r k laid is also less same =
    let one : r ≡ o = cc in
    let equal : own_block r ≡ own_block o = ap (λ (y : Outline). own_block y) one in
    omega (arith, less, same, equal)
apart first (x ∷ os) zero (suc q) o r k laid is also less same =
    let one : x ≡ o = cc in
    let later = subst (λ (y : Outline). own_block y + 1 ≤ r.first) one (after_first (own_block x + 1) os q r laid.1 also) in
    omega (arith, less, same, later)
apart first (x ∷ os) (suc p) zero o r k laid is also less same =
    let one : x ≡ r = cc in
    let later = subst (λ (y : Outline). own_block y + 1 ≤ o.first) one (after_first (own_block x + 1) os p o laid.1 is) in
    omega (arith, same, later)
apart first (x ∷ os) (suc p) (suc q) o r k laid is also less same = apart (own_block x + 1) os p q o r k laid.1 is also less same

true_first : (a b : Bool) → a ≡ true → (a || b) ≡ true
true_first true b is = refl
true_first false b is = absurd (cc)

true_later : (a b : Bool) → b ≡ true → (a || b) ≡ true
true_later true b is = refl
true_later false b is = is

both_false : (a b : Bool) → a ≡ false → b ≡ false → (a || b) ≡ false
both_false false b is also = also
both_false true b is also = absurd (cc)

pub same_number : (n : ℕ) → (n == n) ≡ true
same_number n = by (eqb_tells n n) where
  by : (((n == n) ≡ true) × (n ≡ n)) ⊎ (((n == n) ≡ false) × (n ≡ n → ⊥)) → (n == n) ≡ true
  by (inl told) = told.0
  by (inr told) = absurd (told.1 refl)

-- the block of a process is one of those of the image's processes
pub own_among : (s : Set) (os : List Outline) (p : ℕ) (names : List (List ℕ)) (q : ℕ) → q < length names → list_any (λ (r : Process). r.block == block_of os (p + q)) (processes_from s os p names) ≡ true
own_among s os p [] q less = absurd (omega (arith, less))
own_among s os p (name ∷ names) zero less =
    let here : p ≡ p + zero = omega arith in
    true_first (block_of os p == block_of os (p + zero)) (list_any (λ (r : Process). r.block == block_of os (p + zero)) (processes_from s os (suc p) names))
    (subst (λ m. (block_of os p == block_of os m) ≡ true) here (same_number (block_of os p)))
own_among s os p (name ∷ names) (suc q) less =
    let further : suc p + q ≡ p + suc q = omega arith in
    true_later (block_of os p == block_of os (p + suc q)) (list_any (λ (r : Process). r.block == block_of os (p + suc q)) (processes_from s os (suc p) names))
    (subst (λ m. list_any (λ (r : Process). r.block == block_of os m) (processes_from s os (suc p) names) ≡ true) further (own_among s os (suc p) names q (omega (arith, less))))

-- one that is none of them isn't
pub none_among : (s : Set) (os : List Outline) (p : ℕ) (names : List (List ℕ)) (b : ℕ) → ((q : ℕ) → q < length names → block_of os (p + q) ≡ b → ⊥)
    → list_any (λ (r : Process). r.block == b) (processes_from s os p names) ≡ false
none_among s os p [] b others = refl
none_among s os p (name ∷ names) b others =
    let here : p + zero ≡ p = omega arith in
    both_false (block_of os p == b) (list_any (λ (r : Process). r.block == b) (processes_from s os (suc p) names))
    (ne_eqb (block_of os p) b (λ same. others zero (omega arith) (ap (block_of os) here ∙ same)))
    (none_among s os (suc p) names b (λ q less same. let further : p + suc q ≡ suc p + q = omega arith in others (suc q) (omega (arith, less)) (ap (block_of os) further ∙ same)))
