-- The reader of places in a subscript.
use Rattle.std.proofs.Common.{◌≡◌, ℕ, ◌≤◌, length, Some, None, arith}
use Rattle.hal_base.specs.declared.refusal.Place.{Place}
use Rattle.hal_words.specs.declared.word.Symbol.TheVariants as symbol
use Rattle.hal_words.specs.declared.word.Word.TheVariants as word
use Rattle.hal_grammar.specs.Expressions.{Expression, Position, FromBeginning, FromEnd, nesting_of_position}
use Rattle.hal_grammar.specs.Words.{Words, begins, BeginsSymbol}
use Rattle.hal_grammar.specs.SpellsExpressions.{SpellsSum, SpellsPosition, from_beginning, from_end}
use Rattle.hal_grammar.proofs.Beginnings.{sum_strong}
use Rattle.hal_grammar.proofs.OneExpression.{one_position}
use Rattle.hal_parse_expr.specs.Reading.{Read, Reader, followed, all}
use Rattle.hal_parse_expr.specs.ReadingExpressions.{terms, signed_term, from_end as end_of, position_of}
use Rattle.hal_parse_expr.proofs.FirstWords.{PastOf, is_past, not_past, past_symbol_of, past_symbol_none, past_symbol_here}
use Rattle.hal_parse_expr.proofs.ShorteningExpressions.{position_shortens}
use Rattle.hal_parse_expr.proofs.Readings.{Holds, holds_none, holds, Reaches, reaches, Phrase, Reads}
use Rattle.hal_parse_expr.proofs.Combining.{made_holds, or_holds, followed_at, made_reaches, or_reaches, or_other}
use Rattle.hal_parse_expr.proofs.Equations.{followed_none}
use Rattle.hal_parse_expr.proofs.ReadFactors.{Primaries}
use Rattle.hal_parse_expr.proofs.ReadSums.{sum_reads, terms_sound, terms_far}

end_in : {n : ℕ} (read : Reader Expression) → Primaries n read → {words : Words} {o : Read Place} → PastOf (word.Symbol symbol.Number) words o →
    Holds (Phrase SpellsPosition nesting_of_position n words) (followed o (λ p rest. Some (FromEnd p (terms (all (signed_term read) rest).0), (all (signed_term read) rest).1)))
unfolding followed
end_in read h (is_past {rest = rest}) = let q = terms_sound read h rest in holds (record { spells = from_end q.spells; shallow = q.shallow })
end_in read h (not_past n) = holds_none

position_sound : {n : ℕ} (read : Reader Expression) → Primaries n read → (words : Words) → Holds (Phrase SpellsPosition nesting_of_position n words) (position_of read words)
unfolding position_of end_of
position_sound read h words = or_holds (end_in read h (past_symbol_of symbol.Number words))
    (made_holds FromBeginning ((sum_reads read h).sound words) (λ t a p. record { spells = from_beginning p.spells; shallow = p.shallow }))

number_first : {t : Expression} {b a : Words} → SpellsSum t b a → BeginsSymbol symbol.Number b → ⊥
number_first d begins = absurd (omega (arith, sum_strong d))

not_from_end : (read : Reader Expression) {t : Expression} {b a : Words} → SpellsSum t b a → end_of read b ≡ None
unfolding end_of
not_from_end read {b = b} d = followed_none _ (past_symbol_none symbol.Number b (number_first d))

end_reach : {n : ℕ} (read : Reader Expression) → Primaries n read → {x : Position} {b a : Words} → SpellsPosition x b a → nesting_of_position x ≤ n → Reaches (length a) (position_of read b)
unfolding position_of end_of
end_reach read h (from_beginning d) l = or_other (not_from_end read d) (made_reaches _ ((sum_reads read h).reach _ _ _ d l))
end_reach read h (from_end {p = p} {before = b} d) l = or_reaches _ (followed_at _ (past_symbol_here symbol.Number p b) (reaches (terms_far read h d l)))

pub position_reads : {n : ℕ} (read : Reader Expression) → Primaries n read → Reads SpellsPosition nesting_of_position n 6 (position_of read)
position_reads read h = record {
  sound = position_sound read h;
  reach = λ x b a d l. end_reach read h d l;
  one = λ x y w a b d e. one_position d e;
  short = position_shortens read h.short;
}
