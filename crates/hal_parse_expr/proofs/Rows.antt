-- Lists: what is read as often as it can be.
use Rattle.std.proofs.Common.{◌≡◌, ℕ, zero, suc, ◌≤◌, ◌⊎◌, inl, inr, List, [], ◌∷◌, length, Some, refl, ap, arith}
use Rattle.hal_grammar.specs.Words.{Words}
use Rattle.hal_grammar.specs.GoesOn.{strength}
use Rattle.hal_grammar.proofs.Outcomes.{Ends, ends_here}
use Rattle.hal_parse_expr.specs.Reading.{Read, Reader, followed, listed, many, all}
use Rattle.hal_parse_expr.proofs.Shortening.{Shortens, all_keeps, all_more}
use Rattle.hal_parse_expr.proofs.Readings.{Holds, holds_none, holds, Reaches, reaches, Reads, met}
use Rattle.hal_parse_expr.proofs.Combining.{followed_at, followed_reaches}

listed_sound : {X : Type 0} {Q : Words → X → Words → Type 0} (P : List X → Words → Words → Type 0) → ((a : Words) → P [] a a) →
    ((x : X) (xs : List X) (b m a : Words) → Q b x m → P xs m a → P (x ∷ xs) b a) → (others : Words → List X × Words) → ((rest : Words) → P (others rest).0 rest (others rest).1) →
    (words : Words) {o : Read X} → Holds (Q words) o → P (listed others words o).0 words (listed others words o).1
unfolding listed
listed_sound P nil cons others s words holds_none = nil words
listed_sound P nil cons others s words (holds q) = cons _ _ _ _ _ q (s _)

many_sound : {X : Type 0} {Q : Words → X → Words → Type 0} (read : Reader X) (P : List X → Words → Words → Type 0) → ((a : Words) → P [] a a) →
    ((x : X) (xs : List X) (b m a : Words) → Q b x m → P xs m a → P (x ∷ xs) b a) → ((words : Words) → Holds (Q words) (read words)) → (k : ℕ) (words : Words) →
    P (many read k words).0 words (many read k words).1
unfolding many
many_sound read P nil cons h zero words = nil words
many_sound read P nil cons h (suc k) words = listed_sound P nil cons (many read k) (many_sound read P nil cons h k) words (h words)

-- what holds of the empty list, and of each longer one, holds of what is read
pub all_sound : {X : Type 0} {Q : Words → X → Words → Type 0} (read : Reader X) (P : List X → Words → Words → Type 0) → ((a : Words) → P [] a a) →
    ((x : X) (xs : List X) (b m a : Words) → Q b x m → P xs m a → P (x ∷ xs) b a) → ((words : Words) → Holds (Q words) (read words)) → (words : Words) →
    P (all read words).0 words (all read words).1
unfolding all
all_sound read P nil cons h words = many_sound read P nil cons h (length words) words

-- a list goes on behind its first phrase
pub all_from : {X : Type 0} (read : Reader X) → Shortens read → {k : ℕ} {b m : Words} {x : X} → read b ≡ Some (x, m) → length (all read m).1 ≤ k → length (all read b).1 ≤ k
all_from read short {b = b} {m = m} {x = x} e l = omega (arith, ap (λ l. length l.1) (all_more read short b x m e))

all_reaches_in : {X : Type 0} (read : Reader X) → Shortens read → {k : ℕ} {b : Words} {o : Read X} → read b ≡ o → Reaches k o → length (all read b).1 ≤ k
all_reaches_in read short e (reaches {f = f} l) = all_from read short e (omega (arith, all_keeps read short f.1))

-- it reaches as far as its first phrase
pub all_reaches : {X : Type 0} (read : Reader X) → Shortens read → {k : ℕ} {b : Words} → Reaches k (read b) → length (all read b).1 ≤ k
all_reaches read short r = all_reaches_in read short refl r

-- a phrase, and then a list that ends at `a`
pub all_step : {X : Type 0} {R : X → Words → Words → Type 0} {depth : X → ℕ} {n c : ℕ} (read : Reader X) → Reads R depth n c read → {x : X} {b m a : Words} → R x b m → depth x ≤ n →
    Ends c m a → length (all read m).1 ≤ length a → length (all read b).1 ≤ length a
all_step {c = c} read r {b = b} {m = m} {a = a} d l ends far = by ends.first
  where
    by : (m ≡ a) ⊎ (strength m ≤ c) → length (all read b).1 ≤ length a
    by (inl e) = omega (arith, all_reaches read r.short (r.reach _ _ _ d l), ap length e)
    by (inr h) = all_from read r.short (met r d l h) far

-- the same where the list stands behind a phrase of another kind
pub first_then : {X Y Z : Type 0} {R : X → Words → Words → Type 0} {depth : X → ℕ} {n c : ℕ} (first : Reader X) (more : Reader Y) (build : X → List Y → Z) → Reads R depth n c first → Shortens more →
    {x : X} {b m a : Words} → R x b m → depth x ≤ n → Ends c m a → length (all more m).1 ≤ length a →
    Reaches (length a) (followed (first b) (λ t rest. Some (build t (all more rest).0, (all more rest).1)))
first_then {Z = Z} {c = c} first more build r short {b = b} {m = m} {a = a} d l ends far = by ends.first
  where
    by : (m ≡ a) ⊎ (strength m ≤ c) → Reaches {X = Z} (length a) (followed (first b) (λ t rest. Some (build t (all more rest).0, (all more rest).1)))
    by (inl e) = followed_reaches (r.reach _ _ _ d l) (λ t rest h. reaches (omega (arith, all_keeps more short rest, h, ap length e)))
    by (inr h) = followed_at _ (met r d l h) (reaches far)

-- the same of a phrase alone
pub first_alone : {X Y Z : Type 0} {R : X → Words → Words → Type 0} {depth : X → ℕ} {n c : ℕ} (first : Reader X) (more : Reader Y) (build : X → List Y → Z) → Reads R depth n c first → Shortens more →
    {x : X} {b a : Words} → R x b a → depth x ≤ n → Reaches (length a) (followed (first b) (λ t rest. Some (build t (all more rest).0, (all more rest).1)))
first_alone first more build r short {a = a} d l = first_then first more build r short d l ends_here (all_keeps more short a)
