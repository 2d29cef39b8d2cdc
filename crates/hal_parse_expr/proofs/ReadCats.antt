-- The reader of chains of CAT.
use Rattle.std.proofs.Common.{◌≡◌, ℕ, ◌≤◌, length, refl, arith}
use Rattle.hal_words.specs.declared.reserved.Reserved.{Reserved}
use Rattle.hal_words.specs.declared.reserved.Reserved.TheVariants as reserved
use Rattle.hal_words.specs.declared.word.Word.TheVariants as word
use Rattle.hal_grammar.specs.Expressions.{Expression, Cat, Expressions, NoExpressions, MoreExpressions, nesting, nesting_of_all}
use Rattle.hal_grammar.specs.Words.{Words}
use Rattle.hal_grammar.specs.SpellsExpressions.{both, comparison, cat, SpellsCat, sum, joined, SpellsCats, no_cat, cat_more, SpellsSum}
use Rattle.hal_grammar.proofs.Beginnings.{cats_ends}
use Rattle.hal_grammar.proofs.OneExpression.{one_cat}
use Rattle.hal_grammar.proofs.PlacedExpressions.{expression_placed}
use Rattle.hal_parse_expr.specs.Reading.{Reader, all}
use Rattle.hal_parse_expr.specs.ReadingExpressions.{row_of, row_at, sum_of, behind, cat_of}
use Rattle.hal_parse_expr.proofs.Shortening.{all_keeps}
use Rattle.hal_parse_expr.proofs.ShorteningExpressions.{cat_shortens}
use Rattle.hal_parse_expr.proofs.Readings.{Reaches, Reads}
use Rattle.hal_parse_expr.proofs.Rows.{all_step, first_then, first_alone}
use Rattle.hal_parse_expr.proofs.ReadRows.{Behind, behind_it, behind_reserved, IsRow, row_sound}
use Rattle.hal_parse_expr.proofs.ReadFactors.{Primaries}
use Rattle.hal_parse_expr.proofs.ReadSums.{sum_reads}

pub behind_reads : {R : Expression → Words → Words → Type 0} {n c : ℕ} (read : Reader Expression) → Reads R nesting n c read → (r : Reserved) → Reads (Behind (word.Reserved r) R) nesting n c (behind r read)
unfolding behind
behind_reads read h r = behind_reserved read h r

cats_then : {t : Expression} {ts : Expressions} {b m a : Words} → Behind (word.Reserved reserved.Cat) SpellsSum t b m → SpellsCats ts m a → SpellsCats (MoreExpressions t ts) b a
cats_then (behind_it d) ds = cat_more d ds

cats_ended : {b a : Words} → SpellsCats NoExpressions b a → b ≡ a
cats_ended no_cat = refl

cats_row : IsRow Cat SpellsSum (Behind (word.Reserved reserved.Cat) SpellsSum) SpellsCat SpellsCats
cats_row = record {
  alone = λ t b a d. sum d;
  row = λ t u us b m a d ds. joined (expression_placed (both (comparison (cat (sum d))))) d ds;
  deep = λ p t us. refl;
  ended = λ b a d. cats_ended d;
  nil = λ a. no_cat;
  cons = λ t ts b m a d ds. cats_then d ds;
}

further_sums : {n : ℕ} (read : Reader Expression) → Primaries n read → Reads (Behind (word.Reserved reserved.Cat) SpellsSum) nesting n 6 (behind reserved.Cat (sum_of read))
further_sums read h = behind_reads (sum_of read) (sum_reads read h) reserved.Cat

cats_far : {n : ℕ} (read : Reader Expression) → Primaries n read → {ts : Expressions} {b a : Words} → SpellsCats ts b a → nesting_of_all ts ≤ n →
    length (all (behind reserved.Cat (sum_of read)) b).1 ≤ length a
cats_far read h {a = a} no_cat l = all_keeps _ (further_sums read h).short a
cats_far read h (cat_more d ds) l = all_step _ (further_sums read h) (behind_it d) (omega arith) (cats_ends ds) (cats_far read h ds (omega arith))

cat_reach : {n : ℕ} (read : Reader Expression) → Primaries n read → {t : Expression} {b a : Words} → SpellsCat t b a → nesting t ≤ n → Reaches (length a) (cat_of read b)
unfolding cat_of row_at
cat_reach read h (sum d) l = first_alone _ _ (row_of Cat) (sum_reads read h) (further_sums read h).short d l
cat_reach read h (joined i d ds) l = first_then _ _ (row_of Cat) (sum_reads read h) (further_sums read h).short d (omega arith) (cats_ends ds) (cats_far read h ds (omega arith))

pub cat_reads : {n : ℕ} (read : Reader Expression) → Primaries n read → Reads SpellsCat nesting n 5 (cat_of read)
unfolding cat_of
cat_reads read h = record {
  sound = row_sound (sum_of read) (behind reserved.Cat (sum_of read)) cats_row (sum_reads read h) (further_sums read h);
  reach = λ t b a d l. cat_reach read h d l;
  one = λ t u w a b d e. one_cat d e;
  short = cat_shortens read h.short;
}
