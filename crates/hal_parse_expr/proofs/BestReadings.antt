-- What a best reading says of a phrase that ends at a word with which it doesn't go on.
use Rattle.std.proofs.Common.{◌≡◌, ℕ, ◌<◌, ◌≤◌, ◌⊎◌, inl, inr, ◌∷◌, length, Some, None, sym, ◌∙◌, subst, arith}
use Rattle.hal_base.specs.declared.refusal.Place.{Place}
use Rattle.hal_words.specs.declared.reserved.Reserved.{Reserved}
use Rattle.hal_words.specs.declared.word.Symbol.{Symbol}
use Rattle.hal_words.specs.declared.word.Word.{Word}
use Rattle.hal_grammar.specs.Words.{Words, token, reserved_then, symbol_then}
use Rattle.hal_grammar.specs.GoesOn.{strength}
use Rattle.hal_parse_expr.specs.Reading.{Read, before_symbol, before}
use Rattle.hal_parse_expr.specs.Best.{Best, BestOf, nothing, found}
use Rattle.hal_parse_expr.proofs.Readings.{Holds, holds_none, holds, Phrase}
use Rattle.hal_parse_expr.proofs.ReadBefore.{Before, before_it, before_symbol_sound, before_sound, before_symbol_equals, before_equals}

-- such a phrase is the best one
pub until : {X : Type 0} {R : X → Words → Words → Type 0} {depth : X → ℕ} {n c : ℕ} {words : Words} {x : X} {after : Words} → Best R depth n c words x after →
    {y : X} {rest : Words} → R y words rest → depth y ≤ n → strength rest ≤ c → (y ≡ x) × (rest ≡ after)
until {c = c} {x = x} {after = after} b {y = y} {rest = rest} d l h = by (b.only y rest d l)
  where
    by : ((y ≡ x) × (rest ≡ after)) ⊎ ((c < strength rest) × (length after < length rest)) → (y ≡ x) × (rest ≡ after)
    by (inl e) = e
    by (inr g) = absurd (omega (arith, g.0))

read_same : {X : Type 0} {x y : X} {a b : Words} → x ≡ y → a ≡ b → ◌≡◌ {A = Read X} (Some (y, b)) (Some (x, a))
read_same e f = cc

-- it is what is read
pub read_until : {X : Type 0} {R : X → Words → Words → Type 0} {depth : X → ℕ} {n c : ℕ} {words : Words} {o : Read X} → BestOf R depth n c words o →
    {y : X} {rest : Words} → R y words rest → depth y ≤ n → strength rest ≤ c → o ≡ Some (y, rest)
read_until (nothing w) d l h = absurd (w _ _ d l)
read_until (found b) d l h = let e = until b d l h in read_same e.0 e.1

-- and what is read is such a phrase
pub read_holds : {X : Type 0} {R : X → Words → Words → Type 0} {depth : X → ℕ} {n c : ℕ} {words : Words} {o : Read X} → BestOf R depth n c words o → Holds (Phrase R depth n words) o
read_holds (nothing w) = holds_none
read_holds (found b) = holds (record { spells = b.reads; shallow = b.shallow })

some_holds : {X : Type 0} {P : X → Words → Type 0} {f : X × Words} → Holds P (Some f) → P f.0 f.1
some_holds (holds p) = p

-- what is known to be found is as it holds of whatever is found
pub holds_at : {X : Type 0} {P : X → Words → Type 0} {o : Read X} {x : X} {after : Words} → Holds P o → o ≡ Some (x, after) → P x after
holds_at {P = P} h e = some_holds (subst (λ o. Holds P o) e h)

pub read_back : {X : Type 0} {R : X → Words → Words → Type 0} {depth : X → ℕ} {n c : ℕ} {words : Words} {o : Read X} → BestOf R depth n c words o → {x : X} {after : Words} → o ≡ Some (x, after) →
    R x words after × (depth x ≤ n)
read_back b e = let p = holds_at (read_holds b) e in (p.spells, p.shallow)

-- the same before a symbol: the phrase that the symbol follows is what is read
pub read_before_symbol : {X : Type 0} {R : X → Words → Words → Type 0} {depth : X → ℕ} {n c : ℕ} {words : Words} {o : Read X} → BestOf R depth n c words o →
    {s : Symbol} {p : Place} {y : X} {rest : Words} → R y words (symbol_then s p rest) → depth y ≤ n → strength (symbol_then s p rest) ≤ c → before_symbol s o ≡ Some (y, rest)
read_before_symbol b {s = s} {p = p} {rest = rest} d l h = before_symbol_equals s p rest (read_until b d l h)

place_behind : {X : Type 0} {R : X → Words → Words → Type 0} {w : Word} {x : X} {words after : Words} → Before w R x words after → (p : Place) × R x words (token w p ∷ after)
place_behind (before_it {p = p} d) = (p, d)

pub before_symbol_back : {X : Type 0} {R : X → Words → Words → Type 0} {depth : X → ℕ} {n c : ℕ} {words : Words} {o : Read X} → BestOf R depth n c words o →
    {s : Symbol} {x : X} {after : Words} → before_symbol s o ≡ Some (x, after) → (p : Place) × R x words (symbol_then s p after) × (depth x ≤ n)
before_symbol_back b {s = s} e =
    let p = holds_at (before_symbol_sound s (read_holds b)) e in
    let q = place_behind p.spells in (q.0, q.1, p.shallow)

-- the same before a reserved word
pub read_before : {X : Type 0} {R : X → Words → Words → Type 0} {depth : X → ℕ} {n c : ℕ} {words : Words} {o : Read X} → BestOf R depth n c words o →
    {r : Reserved} {p : Place} {y : X} {rest : Words} → R y words (reserved_then r p rest) → depth y ≤ n → strength (reserved_then r p rest) ≤ c → before r o ≡ Some (y, rest)
read_before b {r = r} {p = p} {rest = rest} d l h = before_equals r p rest (read_until b d l h)

pub before_back : {X : Type 0} {R : X → Words → Words → Type 0} {depth : X → ℕ} {n c : ℕ} {words : Words} {o : Read X} → BestOf R depth n c words o →
    {r : Reserved} {x : X} {after : Words} → before r o ≡ Some (x, after) → (p : Place) × R x words (reserved_then r p after) × (depth x ≤ n)
before_back b {r = r} e =
    let p = holds_at (before_sound r (read_holds b)) e in
    let q = place_behind p.spells in (q.0, q.1, p.shallow)

-- where none is read before the symbol, no such phrase stands there
pub none_before_symbol : {X : Type 0} {R : X → Words → Words → Type 0} {depth : X → ℕ} {n c : ℕ} {words : Words} {o : Read X} → BestOf R depth n c words o →
    {s : Symbol} → before_symbol s o ≡ None → {p : Place} {y : X} {rest : Words} → R y words (symbol_then s p rest) → depth y ≤ n → strength (symbol_then s p rest) ≤ c → ⊥
none_before_symbol b e d l h = let f = sym e ∙ read_before_symbol b d l h in cc

pub none_before : {X : Type 0} {R : X → Words → Words → Type 0} {depth : X → ℕ} {n c : ℕ} {words : Words} {o : Read X} → BestOf R depth n c words o →
    {r : Reserved} → before r o ≡ None → {p : Place} {y : X} {rest : Words} → R y words (reserved_then r p rest) → depth y ≤ n → strength (reserved_then r p rest) ≤ c → ⊥
none_before b e d l h = let f = sym e ∙ read_before b d l h in cc
