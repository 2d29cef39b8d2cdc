-- Lists of phrases whose numbers are their places, and in which blocks begin before what is in them; phrase by phrase.
use Rattle.std.proofs.Common.{◌≡◌, ◌<◌, ◌≤◌, ◌+◌, ℕ, suc, List, [], ◌∷◌, ◌++◌, length, Option, Some, None, refl, subst, arith, le_refl, length-append}
use Rattle.hal_phrases.specs.declared.around.Around.{Around}
use Rattle.hal_phrases.specs.Phrases.{Node, Phrase, phrase, add, gathered_each, gathered_any}
use Rattle.hal_names.specs.Means.{prefaces_of}

-- what is said of the phrase at a place
abbrev pub Fits : ℕ → Phrase → Type 0
Fits k p = (p.number ≡ k) × (prefaces_of p.node ≡ None → p.around.block < k)

-- the same of the phrases from this place on
abbrev pub AreFrom : ℕ → List Phrase → Type 0
AreFrom k [] = Unit {0}
AreFrom k (p ∷ ps) = Fits k p × AreFrom (suc k) ps

-- the phrases so far, where this block is open
pub record IsOpen (block : ℕ) (d : List Phrase) : Type 0 where
  pub counted : AreFrom 0 d
  pub within : block < length d

-- phrases are added that stand in this block
pub record IsStep (block : ℕ) (d e : List Phrase) : Type 0 where
  pub keeps : IsOpen block d → IsOpen block e
  pub grows : length d ≤ length e

one_behind : (k : ℕ) (d : List Phrase) (p : Phrase) → AreFrom k d → Fits (k + length d) p → AreFrom k (d ++ (p ∷ []))
one_behind k [] p before fits = (subst (λ n. Fits n p) (omega (arith)) fits, tt)
one_behind k (x ∷ d) p before fits = (before.0, one_behind (suc k) d p before.1 (subst (λ n. Fits n p) (omega (arith)) fits))

pub counted_behind : (d : List Phrase) (p : Phrase) → AreFrom 0 d → Fits (length d) p → AreFrom 0 (d ++ (p ∷ []))
counted_behind d p before fits = one_behind 0 d p before (subst (λ n. Fits n p) (omega (arith)) fits)

pub longer : (d : List Phrase) (p : Phrase) → length d < length (d ++ (p ∷ []))
longer d p = omega (arith, length-append d (p ∷ []))

pub no_step : (block : ℕ) (d : List Phrase) → IsStep block d d
no_step block d = record { keeps = λ before. before; grows = le_refl (length d) }

pub then_ : {block : ℕ} {d e f : List Phrase} → IsStep block d e → IsStep block e f → IsStep block d f
then_ first second = record {
  keeps = λ before. second.keeps (first.keeps before);
  grows = omega (arith, first.grows, second.grows);
}

-- a phrase in this block
pub one : (d : List Phrase) (a : Around) (n : Node) → IsStep a.block d (add d a n)
one d a n = record {
  keeps = λ before. record {
    counted = counted_behind d (phrase (length d) a n) before.counted (refl, λ none. before.within);
    within = omega (arith, before.within, longer d (phrase (length d) a n));
  };
  grows = omega (arith, longer d (phrase (length d) a n));
}

-- phrases in this block, and then some in the block that the first of them opens
pub within_ : {block : ℕ} {d e f : List Phrase} → IsStep block d e → length d < length e → IsStep (length d) e f → IsStep block d f
within_ {d = d} outer more inner = record {
  keeps = λ before.
      let first = outer.keeps before in
      let last = inner.keeps (record { counted = first.counted; within = more }) in
      record { counted = last.counted; within = omega (arith, first.within, inner.grows) };
  grows = omega (arith, outer.grows, inner.grows);
}

-- a phrase in this block, and those of the block that it opens
pub opening : (d : List Phrase) (a : Around) (n : Node) (f : List Phrase) → IsStep (length d) (add d a n) f → IsStep a.block d f
opening d a n f inner = within_ (one d a n) (longer d (phrase (length d) a n)) inner

pub each : {X : Type 0} (block : ℕ) (step : List Phrase → X → List Phrase) → ((d : List Phrase) (x : X) → IsStep block d (step d x)) → (d : List Phrase) (xs : List X)
    → IsStep block d (gathered_each step d xs)
each block step steps d [] = no_step block d
each block step steps d (x ∷ xs) = then_ (steps d x) (each block step steps (step d x) xs)

pub any : {X : Type 0} (block : ℕ) (step : List Phrase → X → List Phrase) → ((d : List Phrase) (x : X) → IsStep block d (step d x)) → (d : List Phrase) (o : Option X)
    → IsStep block d (gathered_any step d o)
any block step steps d None = no_step block d
any block step steps d (Some x) = steps d x
