-- The readers of what stands in parentheses, one level deeper.
use Rattle.std.proofs.Common.{ℕ, ◌≤◌, ◌+◌, length, Option, arith}
use Rattle.hal_base.specs.declared.refusal.Place.{Place}
use Rattle.hal_words.specs.declared.word.Symbol.TheVariants as symbol
use Rattle.hal_words.specs.declared.word.Word.TheVariants as word
use Rattle.hal_grammar.specs.Expressions.{Expression, Expressions, nesting, nesting_of_all}
use Rattle.hal_grammar.specs.Words.{Words, symbol_then}
use Rattle.hal_grammar.specs.SpellsExpressions.{SpellsExpression, SpellsExpressions}
use Rattle.hal_parse_expr.specs.Reading.{Reader}
use Rattle.hal_parse_expr.specs.ReadingExpressions.{expression_of, expressions_of, closed}
use Rattle.hal_parse_expr.proofs.Readings.{Holds, holds_none, Reaches, Phrase, weaker_holds, reached}
use Rattle.hal_parse_expr.proofs.ReadFactors.{Primaries}
use Rattle.hal_parse_expr.proofs.ReadExpressions.{expression_reads}
use Rattle.hal_parse_expr.proofs.ReadLists.{expressions_reads}
use Rattle.hal_parse_expr.proofs.ReadBefore.{Before, before_symbol_sound, met_symbol}
use Rattle.hal_parse_expr.proofs.ReadReferences.{Lower, lowest, lower}

-- phrases that a parenthesis ends, one level deeper
abbrev Closed : {X : Type 0} (R : X → Words → Words → Type 0) (depth : X → ℕ) (n : ℕ) → Words → X → Words → Type 0
Closed R depth n words = Phrase (Before (word.Symbol symbol.RightParenthesis) R) (λ x. depth x + 1) n words

closed_sound : {X : Type 0} {R : X → Words → Words → Type 0} {depth : X → ℕ} {n : ℕ} (read : Reader Expression → Reader X) →
    ((m : ℕ) (primary : Reader Expression) → Primaries m primary → (words : Words) → Holds (Phrase R depth m words) (read primary words)) → {deeper : Option (Reader Expression)} → Lower n deeper → (words : Words) →
    Holds (Closed R depth n words) (closed read deeper words)
unfolding closed
closed_sound read s lowest words = holds_none
closed_sound read s (lower {n = m} {read = primary} h) words =
    weaker_holds (before_symbol_sound symbol.RightParenthesis (s m primary h words)) (λ x a p. record { spells = p.spells; shallow = omega (arith, p.shallow) })

pub closed_expression : {n : ℕ} {deeper : Option (Reader Expression)} → Lower n deeper → (words : Words) → Holds (Closed SpellsExpression nesting n words) (closed expression_of deeper words)
closed_expression h words = closed_sound expression_of (λ m primary g. (expression_reads primary g).sound) h words

pub closed_expressions : {n : ℕ} {deeper : Option (Reader Expression)} → Lower n deeper → (words : Words) → Holds (Closed SpellsExpressions nesting_of_all n words) (closed expressions_of deeper words)
closed_expressions h words = closed_sound expressions_of (λ m primary g. (expressions_reads primary g).sound) h words

pub expression_closed : {n : ℕ} {deeper : Option (Reader Expression)} → Lower n deeper → {t : Expression} {r : Place} {b a : Words} → SpellsExpression t b (symbol_then symbol.RightParenthesis r a) →
    nesting t + 1 ≤ n → Reaches (length a) (closed expression_of deeper b)
unfolding closed
expression_closed lowest d l = absurd (omega arith)
expression_closed (lower {read = primary} h) d l = reached (met_symbol (expression_of primary) (expression_reads primary h) d (omega arith) (omega arith)) (omega arith)

pub expressions_closed : {n : ℕ} {deeper : Option (Reader Expression)} → Lower n deeper → {ts : Expressions} {r : Place} {b a : Words} → SpellsExpressions ts b (symbol_then symbol.RightParenthesis r a) →
    nesting_of_all ts + 1 ≤ n → Reaches (length a) (closed expressions_of deeper b)
unfolding closed
expressions_closed lowest d l = absurd (omega arith)
expressions_closed (lower {read = primary} h) d l = reached (met_symbol (expressions_of primary) (expressions_reads primary h) d (omega arith) (omega arith)) (omega arith)
