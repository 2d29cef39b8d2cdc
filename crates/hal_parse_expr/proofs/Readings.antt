-- What readers find, and how far they reach.
use Rattle.std.proofs.Common.{◌≡◌, ℕ, ◌<◌, ◌≤◌, ◌⊎◌, inl, inr, length, Some, None, sym, subst, arith}
use Rattle.hal_grammar.specs.Words.{Words}
use Rattle.hal_grammar.specs.GoesOn.{strength, Outcome, same, sooner, later}
use Rattle.hal_parse_expr.specs.Reading.{Read, Reader}
use Rattle.hal_parse_expr.specs.Best.{BestOf, nothing, found}
use Rattle.hal_parse_expr.proofs.Shortening.{Shortens}

-- if anything was found, this holds of it
pub data Holds {X : Type 0} (P : X → Words → Type 0) : Read X → Type 0 where
  holds_none : Holds P None
  holds : {f : X × Words} → P f.0 f.1 → Holds P (Some f)

-- something was found that leaves so many words at most
pub data Reaches {X : Type 0} (k : ℕ) : Read X → Type 0 where
  reaches : {f : X × Words} → length f.1 ≤ k → Reaches k (Some f)

-- these words spell it, and it is nested at most so deep
pub record Phrase {X : Type 0} (R : X → Words → Words → Type 0) (depth : X → ℕ) (n : ℕ) (words : Words) (x : X) (after : Words) : Type 0 where
  pub spells : R x words after
  pub shallow : depth x ≤ n

-- such phrases go on with words that are stronger than `c` alone
abbrev pub IsOneUp : {X : Type 0} → (X → Words → Words → Type 0) → ℕ → Type 0
IsOneUp {X = X} R c = (x y : X) (words a b : Words) → R x words a → R y words b → Outcome c x a y b

-- the reader gives the longest phrase of this nesting
pub record Reads {X : Type 0} (R : X → Words → Words → Type 0) (depth : X → ℕ) (n c : ℕ) (read : Reader X) : Type 0 where
  pub sound : (words : Words) → Holds (Phrase R depth n words) (read words)
  pub reach : (y : X) (words rest : Words) → R y words rest → depth y ≤ n → Reaches (length rest) (read words)
  pub one : IsOneUp R c
  pub short : Shortens read

pub weaker_holds : {X : Type 0} {P Q : X → Words → Type 0} {o : Read X} → Holds P o → ((x : X) (rest : Words) → P x rest → Q x rest) → Holds Q o
weaker_holds holds_none g = holds_none
weaker_holds (holds p) g = holds (g _ _ p)

found_same : {c : ℕ} {X : Type 0} {x y : X} {a b : Words} → Outcome c x a y b → strength b ≤ c → length a ≤ length b → ◌≡◌ {A = Read X} (Some (x, a)) (Some (y, b))
found_same (same e f) h l = cc
found_same (sooner g m) h l = absurd (omega arith)
found_same (later g m) h l = absurd (omega arith)

met_in : {X : Type 0} {R : X → Words → Words → Type 0} {depth : X → ℕ} {n c : ℕ} {y : X} {words rest : Words} {o : Read X} → IsOneUp R c → R y words rest → strength rest ≤ c →
    Holds (Phrase R depth n words) o → Reaches (length rest) o → o ≡ Some (y, rest)
met_in one d h holds_none r = elim r [ ]
met_in one d h (holds p) (reaches l) = found_same (one _ _ _ _ _ p.spells d) h l

-- a phrase that ends at a word with which it doesn't go on is the one that is found
pub met : {X : Type 0} {R : X → Words → Words → Type 0} {depth : X → ℕ} {n c : ℕ} {read : Reader X} → Reads R depth n c read → {y : X} {words rest : Words} → R y words rest → depth y ≤ n →
    strength rest ≤ c → read words ≡ Some (y, rest)
met r d l h = met_in r.one d h (r.sound _) (r.reach _ _ _ d l)

only_in : {c : ℕ} {X : Type 0} {x y : X} {a b : Words} → Outcome c x a y b → Reaches {X = X} (length b) (Some (x, a)) → ((y ≡ x) × (b ≡ a)) ⊎ ((c < strength b) × (length a < length b))
only_in (same e f) r = inl (sym e, sym f)
only_in (sooner g m) (reaches l) = absurd (omega arith)
only_in (later g m) r = inr (g, m)

not_reached : {X : Type 0} {k : ℕ} → Reaches {X = X} k None → ⊥
not_reached r = elim r [ ]

best_in : {X : Type 0} {R : X → Words → Words → Type 0} {depth : X → ℕ} {n c : ℕ} {words : Words} {o : Read X} → IsOneUp R c → Holds (Phrase R depth n words) o →
    ((y : X) (rest : Words) → R y words rest → depth y ≤ n → Reaches (length rest) o) → BestOf R depth n c words o
best_in one holds_none r = nothing (λ y rest d l. not_reached (r y rest d l))
best_in one (holds p) r = found (record { reads = p.spells; shallow = p.shallow; only = λ y rest d l. only_in (one _ y _ _ rest p.spells d) (r y rest d l) })

-- such a reader gives the best phrase
pub best : {X : Type 0} {R : X → Words → Words → Type 0} {depth : X → ℕ} {n c : ℕ} {read : Reader X} → Reads R depth n c read → (words : Words) → BestOf R depth n c words (read words)
best r words = best_in r.one (r.sound words) (λ y rest d l. r.reach y words rest d l)

-- what is known to be found is reached
pub reached : {X : Type 0} {k : ℕ} {o : Read X} {x : X} {a : Words} → o ≡ Some (x, a) → length a ≤ k → Reaches k o
reached {k = k} e l = subst (λ o. Reaches k o) (sym e) (reaches l)
