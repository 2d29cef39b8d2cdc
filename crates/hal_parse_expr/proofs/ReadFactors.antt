-- The reader of factors.
use Rattle.std.proofs.Common.{ℕ, ◌≤◌, length, arith}
use Rattle.hal_words.specs.declared.word.Symbol.TheVariants as symbol
use Rattle.hal_words.specs.declared.word.Word.TheVariants as word
use Rattle.hal_grammar.specs.Expressions.{Expression, Power, nesting, place_of}
use Rattle.hal_grammar.specs.Words.{Words}
use Rattle.hal_grammar.specs.SpellsExpressions.{both, comparison, cat, sum, term, factor, SpellsFactor, primary, powered, SpellsPrimary}
use Rattle.hal_grammar.proofs.OneExpression.{one_factor}
use Rattle.hal_grammar.proofs.PlacedExpressions.{expression_placed}
use Rattle.hal_parse_expr.specs.Reading.{Reader}
use Rattle.hal_parse_expr.specs.ReadingExpressions.{factor_of}
use Rattle.hal_parse_expr.proofs.Shortening.{weaker}
use Rattle.hal_parse_expr.proofs.ShorteningExpressions.{factor_shortens}
use Rattle.hal_parse_expr.proofs.Readings.{Holds, Reaches, Phrase, Reads, met}
use Rattle.hal_parse_expr.proofs.Combining.{followed_holds, tail_holds, followed_at, followed_reaches, tail_reaches, tail_keeps}
use Rattle.hal_parse_expr.proofs.ReadRows.{Behind, behind_it, behind_symbol}

-- the reader of primaries that are nested at most so deep
abbrev pub Primaries : ℕ → Reader Expression → Type 0
Primaries n read = Reads SpellsPrimary nesting n 9 read

powered_in : {n : ℕ} {t u : Expression} {b m a : Words} → Phrase SpellsPrimary nesting n b t m → Behind (word.Symbol symbol.Power) SpellsPrimary u m a → nesting u ≤ n →
    Phrase SpellsFactor nesting n b (Power (place_of t) t u) a
powered_in p (behind_it e) l =
    record { spells = powered (expression_placed (both (comparison (cat (sum (term (factor (primary p.spells)))))))) p.spells e; shallow = omega (arith, p.shallow) }

pub factor_sound : {n : ℕ} (read : Reader Expression) → Primaries n read → (words : Words) → Holds (Phrase SpellsFactor nesting n words) (factor_of read words)
unfolding factor_of
factor_sound read h words = followed_holds (h.sound words) (λ t rest p. tail_holds _ t rest (record { spells = primary p.spells; shallow = p.shallow })
    ((behind_symbol read h symbol.Power).sound rest) (λ u after q. powered_in p q.spells q.shallow))

pub factor_reach : {n : ℕ} (read : Reader Expression) → Primaries n read → {t : Expression} {b a : Words} → SpellsFactor t b a → nesting t ≤ n → Reaches (length a) (factor_of read b)
unfolding factor_of
factor_reach read h (primary d) l =
    followed_reaches (h.reach _ _ _ d l) (λ t rest k. tail_keeps _ t rest _ k (weaker _ _ (omega arith) _ ((behind_symbol read h symbol.Power).short rest)))
factor_reach read h (powered i d e) l =
    followed_at _ (met h d (omega arith) (omega arith)) (tail_reaches _ _ _ ((behind_symbol read h symbol.Power).reach _ _ _ (behind_it e) (omega arith)))

pub factor_reads : {n : ℕ} (read : Reader Expression) → Primaries n read → Reads SpellsFactor nesting n 8 (factor_of read)
factor_reads read h = record {
  sound = factor_sound read h;
  reach = λ t b a d l. factor_reach read h d l;
  one = λ t u w a b d e. one_factor d e;
  short = factor_shortens read h.short;
}
