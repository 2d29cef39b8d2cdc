-- What the laws of expressions say of those that stand in declarations and statements.
use Rattle.std.proofs.Common.{◌≡◌, ℕ, ◌<◌, ◌≤◌, ◌⊎◌, inl, inr, length, Some, ap₂, sym, arith}
use Rattle.hal_grammar.specs.Expressions.{Expression, Expressions, Reference, nesting, nesting_of_all, nesting_of_reference}
use Rattle.hal_grammar.specs.Words.{Words}
use Rattle.hal_grammar.specs.GoesOn.{strength}
use Rattle.hal_grammar.specs.SpellsExpressions.{SpellsExpression, SpellsExpressions, SpellsReference}
use Rattle.hal_parse_expr.specs.Reading.{Read}
use Rattle.hal_parse_expr.specs.ReadingExpressions.{expression_at, expressions_at, reference_at}
use Rattle.hal_parse_expr.proofs.BestPhrases.{expression_best, expressions_best, reference_best}
use Rattle.hal_parse_expr.specs.Best.{BestOf, nothing, found}
use Rattle.hal_parse_expr.proofs.Readings.{Holds, holds_none, holds}

best_gives : {X : Type 0} {R : X → Words → Words → Type 0} {depth : X → ℕ} {n c : ℕ} {words : Words} {o : Read X} → BestOf R depth n c words o →
    Holds (λ x rest. R x words rest × (depth x ≤ n)) o
best_gives (nothing f) = holds_none
best_gives (found b) = holds (b.reads, b.shallow)

best_is : {X : Type 0} {R : X → Words → Words → Type 0} {depth : X → ℕ} {n c : ℕ} {words : Words} {o : Read X} {x : X} {rest : Words} → BestOf R depth n c words o → R x words rest →
    depth x ≤ n → strength rest ≤ c → o ≡ Some (x, rest)
best_is {x = x} {rest = rest} (nothing f) d l h = absurd (f x rest d l)
best_is {X = X} {c = c} {x = x} {rest = rest} (found {f = f} b) d l h = go (b.only x rest d l)
  where
    go : ((x ≡ f.0) × (rest ≡ f.1)) ⊎ ((c < strength rest) × (length f.1 < length rest)) → Some f ≡ Some (x, rest)
    go (inl e) = ap₂ (λ (y : X) (r : Words). Some (y, r)) (sym e.0) (sym e.1)
    go (inr e) = absurd (omega (arith, e.0, h))

-- an expression that is nested so deep at most
abbrev pub ExpressionOf : ℕ → Expression → Words → Words → Type 0
ExpressionOf n t b a = SpellsExpression t b a × (nesting t ≤ n)

-- what is read is spelled, and nested so deep at most
pub expression_gives : (n : ℕ) (words : Words) → Holds (λ t rest. ExpressionOf n t words rest) (expression_at n words)
expression_gives n words = best_gives (expression_best n words)

pub expressions_gives : (n : ℕ) (words : Words) → Holds (λ ts rest. SpellsExpressions ts words rest × (nesting_of_all ts ≤ n)) (expressions_at n words)
expressions_gives n words = best_gives (expressions_best n words)

pub reference_gives : (n : ℕ) (words : Words) → Holds (λ x rest. SpellsReference x words rest × (nesting_of_reference x ≤ n)) (reference_at n words)
reference_gives n words = best_gives (reference_best n words)

-- a phrase that ends where none of its kind goes on is the one that is read
pub expression_is : (n : ℕ) {t : Expression} {words rest : Words} → SpellsExpression t words rest → nesting t ≤ n → strength rest ≤ 2 → expression_at n words ≡ Some (t, rest)
expression_is n {words = words} d l h = best_is (expression_best n words) d l h

pub expressions_are : (n : ℕ) {ts : Expressions} {words rest : Words} → SpellsExpressions ts words rest → nesting_of_all ts ≤ n → strength rest ≤ 0 → expressions_at n words ≡ Some (ts, rest)
expressions_are n {words = words} d l h = best_is (expressions_best n words) d l h

pub reference_is : (n : ℕ) {x : Reference} {words rest : Words} → SpellsReference x words rest → nesting_of_reference x ≤ n → strength rest ≤ 9 → reference_at n words ≡ Some (x, rest)
reference_is n {words = words} d l h = best_is (reference_best n words) d l h
