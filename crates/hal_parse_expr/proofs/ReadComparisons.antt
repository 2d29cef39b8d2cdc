-- The reader of comparisons.
use Rattle.std.proofs.Common.{ℕ, ◌≤◌, length, arith}
use Rattle.hal_grammar.specs.Leaves.{Relation}
use Rattle.hal_grammar.specs.Expressions.{Expression, Compare, nesting, place_of}
use Rattle.hal_grammar.specs.Words.{Words}
use Rattle.hal_grammar.specs.SpellsExpressions.{SpellsRelation, both, comparison, SpellsComparison, cat, compared, SpellsCat}
use Rattle.hal_grammar.proofs.Beginnings.{relation_strength}
use Rattle.hal_grammar.proofs.OneExpression.{one_comparison}
use Rattle.hal_grammar.proofs.PlacedExpressions.{expression_placed}
use Rattle.hal_parse_expr.specs.Reading.{Reader}
use Rattle.hal_parse_expr.specs.ReadingExpressions.{related, comparison_of}
use Rattle.hal_parse_expr.proofs.Shortening.{weaker}
use Rattle.hal_parse_expr.proofs.ShorteningExpressions.{related_shortens, comparison_shortens}
use Rattle.hal_parse_expr.proofs.Readings.{Holds, Reaches, Phrase, Reads, met}
use Rattle.hal_parse_expr.proofs.Combining.{made_holds, followed_holds, tail_holds, followed_at, followed_reaches, made_reaches, tail_reaches, tail_keeps}
use Rattle.hal_parse_expr.proofs.ReadRelations.{relation_sound, relation_here}
use Rattle.hal_parse_expr.proofs.ReadFactors.{Primaries}
use Rattle.hal_parse_expr.proofs.ReadCats.{cat_reads}

-- a relation and what stands behind it
data SpellsRelated : Relation × Expression → Words → Words → Type 0 where
  related_so : {r : Relation} {t : Expression} {before middle after : Words} → SpellsRelation r before middle → SpellsCat t middle after → SpellsRelated (r, t) before after

related_sound : {n : ℕ} (read : Reader Expression) → Primaries n read → (words : Words) → Holds (Phrase SpellsRelated (λ f. nesting f.1) n words) (related read words)
unfolding related
related_sound read h words = followed_holds (relation_sound words) (λ r rest d. made_holds _ ((cat_reads read h).sound rest) (λ t a p. record { spells = related_so d p.spells; shallow = p.shallow }))

related_reach : {n : ℕ} (read : Reader Expression) → Primaries n read → {r : Relation} {t : Expression} {b m a : Words} → SpellsRelation r b m → SpellsCat t m a → nesting t ≤ n →
    Reaches (length a) (related read b)
unfolding related
related_reach read h r d l = followed_at _ (relation_here r) (made_reaches _ ((cat_reads read h).reach _ _ _ d l))

compared_in : {n : ℕ} {t : Expression} {f : Relation × Expression} {b m a : Words} → Phrase SpellsCat nesting n b t m → SpellsRelated f m a → nesting f.1 ≤ n →
    Phrase SpellsComparison nesting n b (Compare (place_of t) t f.0 f.1) a
compared_in p (related_so r e) l = record { spells = compared (expression_placed (both (comparison (cat p.spells)))) p.spells r e; shallow = omega (arith, p.shallow) }

comparison_sound : {n : ℕ} (read : Reader Expression) → Primaries n read → (words : Words) → Holds (Phrase SpellsComparison nesting n words) (comparison_of read words)
unfolding comparison_of
comparison_sound read h words = followed_holds ((cat_reads read h).sound words) (λ t rest p. tail_holds _ t rest (record { spells = cat p.spells; shallow = p.shallow })
    (related_sound read h rest) (λ f after q. compared_in p q.spells q.shallow))

comparison_reach : {n : ℕ} (read : Reader Expression) → Primaries n read → {t : Expression} {b a : Words} → SpellsComparison t b a → nesting t ≤ n → Reaches (length a) (comparison_of read b)
unfolding comparison_of
comparison_reach read h (cat d) l =
    followed_reaches ((cat_reads read h).reach _ _ _ d l) (λ t rest k. tail_keeps _ t rest _ k (weaker _ _ (omega arith) (related read rest) (related_shortens read h.short rest)))
comparison_reach read h (compared i d r e) l =
    followed_at _ (met (cat_reads read h) d (omega arith) (omega (arith, relation_strength r))) (tail_reaches _ _ _ (related_reach read h r e (omega arith)))

pub comparison_reads : {n : ℕ} (read : Reader Expression) → Primaries n read → Reads SpellsComparison nesting n 4 (comparison_of read)
comparison_reads read h = record {
  sound = comparison_sound read h;
  reach = λ t b a d l. comparison_reach read h d l;
  one = λ t u w a b d e. one_comparison d e;
  short = comparison_shortens read h.short;
}
