-- What follows from outcomes.
use Rattle.std.proofs.Common.{◌≡◌, ℕ, ◌<◌, ◌≤◌, ◌⊎◌, inl, inr, [], ◌∷◌, length, refl, ap, sym, ◌∙◌, subst, arith}
use Rattle.hal_base.specs.declared.refusal.Place.{Place}
use Rattle.hal_words.specs.declared.word.Token.{Token}
use Rattle.hal_grammar.specs.Words.{Words, At}
use Rattle.hal_grammar.specs.GoesOn.{strength, Outcome, same, sooner, later}

-- words stand at one place
pub same_place : {p q : Place} (words : Words) → At p words → At q words → p ≡ q
same_place [] h k = absurd h
same_place (first ∷ words) h k = sym h ∙ k

-- a phrase that begins at words begins at words that are the same
pub back : {X : Type 0} (R : X → Words → Words → Type 0) {x : X} {a b c : Words} → a ≡ b → R x b c → R x a c
back R {x = x} {c = c} e d = subst (λ w. R x w c) (sym e) d

-- the same of a phrase of two trees
pub back₂ : {X Y : Type 0} (R : X → Y → Words → Words → Type 0) {x : X} {y : Y} {a b c : Words} → a ≡ b → R x y b c → R x y a c
back₂ R {x = x} {y = y} {c = c} e d = subst (λ w. R x y w c) (sym e) d

-- words that are the same go on with the same words
pub tail_same : {v w : Token} {a b : Words} → v ∷ a ≡ w ∷ b → a ≡ b
tail_same e = cc

pub weaken : {c k : ℕ} {X : Type 0} {x y : X} {a b : Words} → c ≤ k → Outcome k x a y b → Outcome c x a y b
weaken le (same e f) = same e f
weaken le (sooner h l) = sooner (omega arith) l
weaken le (later h l) = later (omega arith) l

-- the same of what two trees make
pub made : {c k : ℕ} {X Y : Type 0} {x y : X} {z w : Y} {a b : Words} → c ≤ k → (x ≡ y → z ≡ w) → Outcome k x a y b → Outcome c z a w b
made le f (same e g) = same (f e) g
made le f (sooner h l) = sooner (omega arith) l
made le f (later h l) = later (omega arith) l

-- both end at words with which they don't go on
pub until : {k : ℕ} {X : Type 0} {x y : X} {a b : Words} → Outcome k x a y b → strength a ≤ k → strength b ≤ k → (x ≡ y) × (a ≡ b)
until (same e f) h i = (e, f)
until (sooner g l) h i = absurd (omega arith)
until (later g l) h i = absurd (omega arith)

-- the first one goes on behind `m`, the second one doesn't
pub longer_left : {c k : ℕ} {X Y : Type 0} {x y : X} {z w : Y} {m a b : Words} → Outcome k x m y b → strength m ≤ k → c < strength m → length a < length m → Outcome c z a w b
longer_left (same e f) h i l = later (omega (arith, ap strength f)) (omega (arith, ap length f))
longer_left (sooner g n) h i l = absurd (omega arith)
longer_left (later g n) h i l = later (omega arith) (omega arith)

-- the second one goes on behind `m`, the first one doesn't
pub longer_right : {c k : ℕ} {X Y : Type 0} {x y : X} {z w : Y} {m a b : Words} → Outcome k x a y m → strength m ≤ k → c < strength m → length b < length m → Outcome c z a w b
longer_right (same e f) h i l = sooner (omega (arith, ap strength f)) (omega (arith, ap length f))
longer_right (sooner g n) h i l = sooner (omega arith) (omega arith)
longer_right (later g n) h i l = absurd (omega arith)

-- a list that begins at `m` and ends at `a` is empty, or begins with a word of this strength at most
pub record Ends (k : ℕ) (m a : Words) : Type 0 where
  pub first : (m ≡ a) ⊎ (strength m ≤ k)
  pub size : length a ≤ length m

pub ends_here : {k : ℕ} {a : Words} → Ends k a a
ends_here = record { first = inl refl; size = omega arith }

pub ends_later : {k : ℕ} {m a : Words} → strength m ≤ k → length a < length m → Ends k m a
ends_later h l = record { first = inr h; size = omega arith }

-- a phrase, and then a list
pub item_then : {c k : ℕ} {X Y : Type 0} {x y : X} {z w : Y} {m n a b : Words} → c ≤ k → Outcome k x m y n → Ends k m a → Ends k n b →
    (x ≡ y → m ≡ n → Outcome c z a w b) → Outcome c z a w b
item_then le (same e f) ends ends' go = go e f
item_then {c = c} {k = k} {z = z} {w = w} {m = m} {n = n} {a = a} {b = b} le (sooner g l) ends ends' go = by ends.first
  where
    by : (m ≡ a) ⊎ (strength m ≤ k) → Outcome c z a w b
    by (inl e) = sooner (omega (arith, ap strength e)) (omega (arith, ap length e, ends'.size))
    by (inr h) = absurd (omega arith)
item_then {c = c} {k = k} {z = z} {w = w} {m = m} {n = n} {a = a} {b = b} le (later g l) ends ends' go = by ends'.first
  where
    by : (n ≡ b) ⊎ (strength n ≤ k) → Outcome c z a w b
    by (inl e) = later (omega (arith, ap strength e)) (omega (arith, ap length e, ends.size))
    by (inr h) = absurd (omega arith)

-- two trees up to the same end are one
pub same_end : {c : ℕ} {X : Type 0} {x y : X} {a : Words} → Outcome c x a y a → x ≡ y
same_end o = go o refl
  where
    go : {c : ℕ} {X : Type 0} {x y : X} {a b : Words} → Outcome c x a y b → a ≡ b → x ≡ y
    go (same e f) g = e
    go (sooner h l) g = absurd (omega (arith, ap length g))
    go (later h l) g = absurd (omega (arith, ap length g))
