-- Lists of expressions and of references, as the code gathers them.
use Rattle.std.proofs.Common.{◌≡◌, ◌≢◌, ℕ, zero, suc, ◌-◌, List, [], ◌∷◌, Some, None, refl, ap, arith}
use Rattle.hal_words.specs.declared.word.Symbol.TheVariants as symbol
use Rattle.hal_grammar.specs.Expressions.{Expression}
use Rattle.hal_grammar.specs.Statements.{Listed}
use Rattle.hal_grammar.specs.Words.{Words}
use Rattle.hal_parse_expr.specs.Reading.{before_symbol, all, after_comma}
use Rattle.hal_parse_expr.specs.ReadingExpressions.{expression_at, expressions, primary_at}
use Rattle.hal_parse_expr.proofs.Loops.{with_front}
use Rattle.hal_parse_expr.proofs.Shortening.{Shortens}
use Rattle.hal_parse_expr.proofs.ShorteningExpressions.{expression_shortens}
use Rattle.hal_parse_expr.proofs.ShorteningPrimaries.{primary_shortens}
use Rattle.hal_parse_statements.specs.ReadingStatements.{listed_from, references_at, references_closed}

-- an expression leaves fewer words
pub expression_at_shortens : (n : ℕ) → Shortens (expression_at n)
unfolding expression_at
expression_at_shortens n = expression_shortens (primary_at n) (primary_shortens n)

-- the values of a loop's variable
pub listed_read : (n : ℕ) (words : Words) {after : Words} {t : Expression} {ts : List Expression} → (ts, after) ≡ with_front (t ∷ []) (all (after_comma (expression_at n)) words) →
    Some (Listed (expressions ts), after) ≡ listed_from n t words
unfolding listed_from expressions
listed_read n words h = ap (λ l. Some (Listed (expressions l.0), l.1)) h

-- references with a parenthesis behind them, by the number of levels that are left
pub closed_none : (n : ℕ) (words : Words) → n ≡ 0 → references_closed n words ≡ None
unfolding references_closed
closed_none zero words e = refl
closed_none (suc n) words e = absurd (omega (arith, e))

pub closed_some : (n : ℕ) (words : Words) → n ≢ 0 → references_closed n words ≡ before_symbol symbol.RightParenthesis (references_at (n - 1) words)
unfolding references_closed
closed_some zero words h = absurd (h refl)
closed_some (suc n) words h = let e : n ≡ suc n - 1 = omega arith in ap (λ k. before_symbol symbol.RightParenthesis (references_at k words)) e
