-- The readers of chains of AND and of expressions.
use Rattle.std.proofs.Common.{◌≡◌, ℕ, ◌≤◌, length, refl, arith}
use Rattle.hal_words.specs.declared.reserved.Reserved.TheVariants as reserved
use Rattle.hal_words.specs.declared.word.Word.TheVariants as word
use Rattle.hal_grammar.specs.Expressions.{Expression, Or, And, Expressions, NoExpressions, MoreExpressions, nesting, nesting_of_all}
use Rattle.hal_grammar.specs.Words.{Words}
use Rattle.hal_grammar.specs.SpellsExpressions.{SpellsExpression, both, ors, SpellsOrs, no_or, or_more, SpellsBoth, comparison, ands, SpellsAnds, no_and, and_more, SpellsComparison}
use Rattle.hal_grammar.proofs.Beginnings.{ors_ends, ands_ends}
use Rattle.hal_grammar.proofs.OneExpression.{one_expression, one_both}
use Rattle.hal_grammar.proofs.PlacedExpressions.{expression_placed}
use Rattle.hal_parse_expr.specs.Reading.{Reader, all}
use Rattle.hal_parse_expr.specs.ReadingExpressions.{row_of, row_at, behind, comparison_of, both_of, expression_of}
use Rattle.hal_parse_expr.proofs.Shortening.{all_keeps}
use Rattle.hal_parse_expr.proofs.ShorteningExpressions.{both_shortens, expression_shortens}
use Rattle.hal_parse_expr.proofs.Readings.{Reaches, Reads}
use Rattle.hal_parse_expr.proofs.Rows.{all_step, first_then, first_alone}
use Rattle.hal_parse_expr.proofs.ReadRows.{Behind, behind_it, IsRow, row_sound}
use Rattle.hal_parse_expr.proofs.ReadFactors.{Primaries}
use Rattle.hal_parse_expr.proofs.ReadCats.{behind_reads}
use Rattle.hal_parse_expr.proofs.ReadComparisons.{comparison_reads}

ands_then : {t : Expression} {ts : Expressions} {b m a : Words} → Behind (word.Reserved reserved.And) SpellsComparison t b m → SpellsAnds ts m a → SpellsAnds (MoreExpressions t ts) b a
ands_then (behind_it d) ds = and_more d ds

ands_ended : {b a : Words} → SpellsAnds NoExpressions b a → b ≡ a
ands_ended no_and = refl

ands_row : IsRow And SpellsComparison (Behind (word.Reserved reserved.And) SpellsComparison) SpellsBoth SpellsAnds
ands_row = record {
  alone = λ t b a d. comparison d;
  row = λ t u us b m a d ds. ands (expression_placed (both (comparison d))) d ds;
  deep = λ p t us. refl;
  ended = λ b a d. ands_ended d;
  nil = λ a. no_and;
  cons = λ t ts b m a d ds. ands_then d ds;
}

further_comparisons : {n : ℕ} (read : Reader Expression) → Primaries n read → Reads (Behind (word.Reserved reserved.And) SpellsComparison) nesting n 4 (behind reserved.And (comparison_of read))
further_comparisons read h = behind_reads (comparison_of read) (comparison_reads read h) reserved.And

ands_far : {n : ℕ} (read : Reader Expression) → Primaries n read → {ts : Expressions} {b a : Words} → SpellsAnds ts b a → nesting_of_all ts ≤ n →
    length (all (behind reserved.And (comparison_of read)) b).1 ≤ length a
ands_far read h {a = a} no_and l = all_keeps _ (further_comparisons read h).short a
ands_far read h (and_more d ds) l = all_step _ (further_comparisons read h) (behind_it d) (omega arith) (ands_ends ds) (ands_far read h ds (omega arith))

both_reach : {n : ℕ} (read : Reader Expression) → Primaries n read → {t : Expression} {b a : Words} → SpellsBoth t b a → nesting t ≤ n → Reaches (length a) (both_of read b)
unfolding both_of row_at
both_reach read h (comparison d) l = first_alone _ _ (row_of And) (comparison_reads read h) (further_comparisons read h).short d l
both_reach read h (ands i d ds) l =
    first_then _ _ (row_of And) (comparison_reads read h) (further_comparisons read h).short d (omega arith) (ands_ends ds) (ands_far read h ds (omega arith))

pub both_reads : {n : ℕ} (read : Reader Expression) → Primaries n read → Reads SpellsBoth nesting n 3 (both_of read)
unfolding both_of
both_reads read h = record {
  sound = row_sound (comparison_of read) (behind reserved.And (comparison_of read)) ands_row (comparison_reads read h) (further_comparisons read h);
  reach = λ t b a d l. both_reach read h d l;
  one = λ t u w a b d e. one_both d e;
  short = both_shortens read h.short;
}

ors_then : {t : Expression} {ts : Expressions} {b m a : Words} → Behind (word.Reserved reserved.Or) SpellsBoth t b m → SpellsOrs ts m a → SpellsOrs (MoreExpressions t ts) b a
ors_then (behind_it d) ds = or_more d ds

ors_ended : {b a : Words} → SpellsOrs NoExpressions b a → b ≡ a
ors_ended no_or = refl

ors_row : IsRow Or SpellsBoth (Behind (word.Reserved reserved.Or) SpellsBoth) SpellsExpression SpellsOrs
ors_row = record {
  alone = λ t b a d. both d;
  row = λ t u us b m a d ds. ors (expression_placed (both d)) d ds;
  deep = λ p t us. refl;
  ended = λ b a d. ors_ended d;
  nil = λ a. no_or;
  cons = λ t ts b m a d ds. ors_then d ds;
}

further_boths : {n : ℕ} (read : Reader Expression) → Primaries n read → Reads (Behind (word.Reserved reserved.Or) SpellsBoth) nesting n 3 (behind reserved.Or (both_of read))
further_boths read h = behind_reads (both_of read) (both_reads read h) reserved.Or

ors_far : {n : ℕ} (read : Reader Expression) → Primaries n read → {ts : Expressions} {b a : Words} → SpellsOrs ts b a → nesting_of_all ts ≤ n →
    length (all (behind reserved.Or (both_of read)) b).1 ≤ length a
ors_far read h {a = a} no_or l = all_keeps _ (further_boths read h).short a
ors_far read h (or_more d ds) l = all_step _ (further_boths read h) (behind_it d) (omega arith) (ors_ends ds) (ors_far read h ds (omega arith))

expression_reach : {n : ℕ} (read : Reader Expression) → Primaries n read → {t : Expression} {b a : Words} → SpellsExpression t b a → nesting t ≤ n → Reaches (length a) (expression_of read b)
unfolding expression_of row_at
expression_reach read h (both d) l = first_alone _ _ (row_of Or) (both_reads read h) (further_boths read h).short d l
expression_reach read h (ors i d ds) l = first_then _ _ (row_of Or) (both_reads read h) (further_boths read h).short d (omega arith) (ors_ends ds) (ors_far read h ds (omega arith))

pub expression_reads : {n : ℕ} (read : Reader Expression) → Primaries n read → Reads SpellsExpression nesting n 2 (expression_of read)
unfolding expression_of
expression_reads read h = record {
  sound = row_sound (both_of read) (behind reserved.Or (both_of read)) ors_row (both_reads read h) (further_boths read h);
  reach = λ t b a d l. expression_reach read h d l;
  one = λ t u w a b d e. one_expression d e;
  short = expression_shortens read h.short;
}
