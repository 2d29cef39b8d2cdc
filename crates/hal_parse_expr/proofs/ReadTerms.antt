-- The reader of terms.
use Rattle.std.proofs.Common.{◌≡◌, ℕ, ◌≤◌, length, Some, None, refl, sym, subst, arith}
use Rattle.hal_base.specs.declared.refusal.Place.{Place}
use Rattle.hal_words.specs.declared.reserved.Reserved.TheVariants as reserved
use Rattle.hal_words.specs.declared.word.Word.TheVariants as word
use Rattle.hal_grammar.specs.Expressions.{Expression, Product, Expressions, NoExpressions, MoreExpressions, nesting, nesting_of_all}
use Rattle.hal_grammar.specs.Words.{Words, BeginsReserved}
use Rattle.hal_grammar.specs.SpellsExpressions.{both, comparison, cat, sum, term, SpellsTerm, factor, multiplied, SpellsFactors, no_factors, more_factors, SpellsFactor}
use Rattle.hal_grammar.specs.GoesOn.{Outcome}
use Rattle.hal_grammar.proofs.Beginnings.{factors_ends}
use Rattle.hal_grammar.proofs.OneExpression.{one_term, one_factor}
use Rattle.hal_grammar.proofs.PlacedExpressions.{expression_placed}
use Rattle.hal_parse_expr.specs.Reading.{Read, Reader, all}
use Rattle.hal_parse_expr.specs.ReadingExpressions.{factor_of, further_factor, row_of, row_at, term_of}
use Rattle.hal_parse_expr.proofs.FirstWords.{PastOf, is_past, not_past, past_of, past_none}
use Rattle.hal_parse_expr.proofs.Shortening.{all_keeps}
use Rattle.hal_parse_expr.proofs.ShorteningExpressions.{further_factor_shortens, term_shortens}
use Rattle.hal_parse_expr.proofs.Readings.{Holds, holds_none, Reaches, Phrase, Reads, weaker_holds}
use Rattle.hal_parse_expr.proofs.Rows.{all_step, first_then, first_alone}
use Rattle.hal_parse_expr.proofs.ReadRows.{IsRow, row_sound}
use Rattle.hal_parse_expr.proofs.ReadFactors.{Primaries, factor_sound, factor_reach, factor_reads}

-- a factor that doesn't begin with NOT
data FurtherFactor : Expression → Words → Words → Type 0 where
  not_negated : {t : Expression} {before after : Words} → ¬ BeginsReserved reserved.Not before → SpellsFactor t before after → FurtherFactor t before after

further_in : {n : ℕ} {words : Words} {o : Read Place} {r : Read Expression} → PastOf (word.Reserved reserved.Not) words o → Holds (Phrase SpellsFactor nesting n words) r →
    Holds (Phrase FurtherFactor nesting n words) (elim o [ None ↦ r | Some f ↦ None ])
further_in is_past h = holds_none
further_in (not_past m) h = weaker_holds h (λ t a p. record { spells = not_negated m p.spells; shallow = p.shallow })

further_sound : {n : ℕ} (read : Reader Expression) → Primaries n read → (words : Words) → Holds (Phrase FurtherFactor nesting n words) (further_factor read words)
unfolding further_factor
further_sound read h words = further_in (past_of reserved.Not words) (factor_sound read h words)

further_reach : {n : ℕ} (read : Reader Expression) → Primaries n read → {t : Expression} {b a : Words} → FurtherFactor t b a → nesting t ≤ n → Reaches (length a) (further_factor read b)
unfolding further_factor
further_reach read h {b = b} {a = a} (not_negated m d) l =
    subst (λ o. Reaches (length a) (elim o [ None ↦ factor_of read b | Some f ↦ None ])) (sym (past_none reserved.Not b m)) (factor_reach read h d l)

one_further_factor : {t u : Expression} {b a c : Words} → FurtherFactor t b a → FurtherFactor u b c → Outcome 8 t a u c
one_further_factor (not_negated m d) (not_negated k e) = one_factor d e

further_reads : {n : ℕ} (read : Reader Expression) → Primaries n read → Reads FurtherFactor nesting n 8 (further_factor read)
further_reads read h = record {
  sound = further_sound read h;
  reach = λ t b a d l. further_reach read h d l;
  one = λ t u w a b d e. one_further_factor d e;
  short = further_factor_shortens read h.short;
}

factors_then : {t : Expression} {ts : Expressions} {b m a : Words} → FurtherFactor t b m → SpellsFactors ts m a → SpellsFactors (MoreExpressions t ts) b a
factors_then (not_negated m d) ds = more_factors m d ds

factors_ended : {b a : Words} → SpellsFactors NoExpressions b a → b ≡ a
factors_ended no_factors = refl

product : IsRow Product SpellsFactor FurtherFactor SpellsTerm SpellsFactors
product = record {
  alone = λ t b a d. factor d;
  row = λ t u us b m a d ds. multiplied (expression_placed (both (comparison (cat (sum (term (factor d))))))) d ds;
  deep = λ p t us. refl;
  ended = λ b a d. factors_ended d;
  nil = λ a. no_factors;
  cons = λ t ts b m a d ds. factors_then d ds;
}

factors_far : {n : ℕ} (read : Reader Expression) → Primaries n read → {ts : Expressions} {b a : Words} → SpellsFactors ts b a → nesting_of_all ts ≤ n → length (all (further_factor read) b).1 ≤ length a
factors_far read h {a = a} no_factors l = all_keeps (further_factor read) (further_factor_shortens read h.short) a
factors_far read h (more_factors m d ds) l = all_step (further_factor read) (further_reads read h) (not_negated m d) (omega arith) (factors_ends ds) (factors_far read h ds (omega arith))

term_reach : {n : ℕ} (read : Reader Expression) → Primaries n read → {t : Expression} {b a : Words} → SpellsTerm t b a → nesting t ≤ n → Reaches (length a) (term_of read b)
unfolding term_of row_at
term_reach read h (factor d) l = first_alone _ _ (row_of Product) (factor_reads read h) (further_factor_shortens read h.short) d l
term_reach read h (multiplied i d ds) l =
    first_then _ _ (row_of Product) (factor_reads read h) (further_factor_shortens read h.short) d (omega arith) (factors_ends ds) (factors_far read h ds (omega arith))

pub term_reads : {n : ℕ} (read : Reader Expression) → Primaries n read → Reads SpellsTerm nesting n 7 (term_of read)
unfolding term_of
term_reads read h = record {
  sound = row_sound (factor_of read) (further_factor read) product (factor_reads read h) (further_reads read h);
  reach = λ t b a d l. term_reach read h d l;
  one = λ t u w a b d e. one_term d e;
  short = term_shortens read h.short;
}
