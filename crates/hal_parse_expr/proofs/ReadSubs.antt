-- The reader of one subscript: every place, one place, a range or a portion.
use Rattle.std.proofs.Common.{◌≡◌, ℕ, ◌≤◌, length, None, arith}
use Rattle.hal_base.specs.declared.refusal.Place.{Place}
use Rattle.hal_words.specs.declared.reserved.Reserved.TheVariants as reserved
use Rattle.hal_words.specs.declared.word.Symbol.TheVariants as symbol
use Rattle.hal_words.specs.declared.word.Word.TheVariants as word
use Rattle.hal_grammar.specs.Expressions.{Expression, Sub, Every, One, Range, Portion, Position, FromBeginning, FromEnd, nesting_of_sub, nesting_of_position}
use Rattle.hal_grammar.specs.Words.{Words, begins, BeginsReserved, BeginsSymbol}
use Rattle.hal_grammar.specs.SpellsExpressions.{SpellsSum, SpellsSub, every_place, one_place, range, portion, SpellsPosition, from_beginning}
use Rattle.hal_grammar.proofs.Beginnings.{position_not_star}
use Rattle.hal_grammar.proofs.OneExpression.{one_sub}
use Rattle.hal_parse_expr.specs.Reading.{Read, Reader, made_of}
use Rattle.hal_parse_expr.specs.ReadingExpressions.{position_of, to_position, at_position, range_from, portion_from, every_at, sub_of}
use Rattle.hal_parse_expr.proofs.FirstWords.{PastOf, is_past, not_past, past_symbol_of, past_none, past_symbol_none, past_symbol_here}
use Rattle.hal_parse_expr.proofs.Shortening.{weaker, made_below}
use Rattle.hal_parse_expr.proofs.ShorteningExpressions.{sub_shortens}
use Rattle.hal_parse_expr.proofs.Readings.{Holds, holds_none, holds, Reaches, Phrase, Reads, met, reached}
use Rattle.hal_parse_expr.proofs.Combining.{made_holds, followed_holds, tail_holds, or_holds, followed_at, followed_reaches, made_reaches, or_reaches, or_other, or_either, tail_reaches, tail_keeps}
use Rattle.hal_parse_expr.proofs.Equations.{followed_none, made_equals, made_none}
use Rattle.hal_parse_expr.proofs.ReadRows.{Behind, behind_it, behind_reserved}
use Rattle.hal_parse_expr.proofs.ReadFactors.{Primaries}
use Rattle.hal_parse_expr.proofs.ReadPositions.{position_reads}

to_reads : {n : ℕ} (read : Reader Expression) → Primaries n read → Reads (Behind (word.Reserved reserved.To) SpellsPosition) nesting_of_position n 6 (to_position read)
unfolding to_position
to_reads read h = behind_reserved (position_of read) (position_reads read h) reserved.To

at_reads : {n : ℕ} (read : Reader Expression) → Primaries n read → Reads (Behind (word.Reserved reserved.At) SpellsPosition) nesting_of_position n 6 (at_position read)
unfolding at_position
at_reads read h = behind_reserved (position_of read) (position_reads read h) reserved.At

range_in : {n : ℕ} {x y : Position} {b m a : Words} → Phrase SpellsPosition nesting_of_position n b x m → Behind (word.Reserved reserved.To) SpellsPosition y m a → nesting_of_position y ≤ n →
    Phrase SpellsSub nesting_of_sub n b (Range x y) a
range_in p (behind_it e) l = record { spells = range p.spells e; shallow = omega (arith, p.shallow) }

range_sound : {n : ℕ} (read : Reader Expression) → Primaries n read → {x : Position} {b : Words} (m : Words) → Phrase SpellsPosition nesting_of_position n b x m →
    Holds (Phrase SpellsSub nesting_of_sub n b) (range_from read x m)
unfolding range_from
range_sound read h {x = x} m p = tail_holds _ (One x) m (record { spells = one_place p.spells; shallow = p.shallow }) ((to_reads read h).sound m) (λ y a q. range_in p q.spells q.shallow)

sum_of_position : {t : Expression} {b a : Words} → SpellsPosition (FromBeginning t) b a → SpellsSum t b a
sum_of_position (from_beginning d) = d

portion_in : {n : ℕ} {t : Expression} {y : Position} {b m a : Words} → Phrase SpellsPosition nesting_of_position n b (FromBeginning t) m → Behind (word.Reserved reserved.At) SpellsPosition y m a →
    nesting_of_position y ≤ n → Phrase SpellsSub nesting_of_sub n b (Portion t y) a
portion_in p (behind_it e) l = record { spells = portion (sum_of_position p.spells) e; shallow = omega (arith, p.shallow) }

portion_sound : {n : ℕ} (read : Reader Expression) → Primaries n read → (x : Position) {b : Words} (m : Words) → Phrase SpellsPosition nesting_of_position n b x m →
    Holds (Phrase SpellsSub nesting_of_sub n b) (portion_from read x m)
unfolding portion_from
portion_sound read h (FromEnd q ts) m p = range_sound read h m p
portion_sound read h (FromBeginning t) m p = or_holds (made_holds _ ((at_reads read h).sound m) (λ y a q. portion_in p q.spells q.shallow)) (range_sound read h m p)

every_in : {n : ℕ} {words : Words} {o : Read Place} → PastOf (word.Symbol symbol.Star) words o → Holds (Phrase SpellsSub nesting_of_sub n words) (made_of Every o)
unfolding made_of
every_in is_past = holds (record { spells = every_place; shallow = omega arith })
every_in (not_past n) = holds_none

sub_sound : {n : ℕ} (read : Reader Expression) → Primaries n read → (words : Words) → Holds (Phrase SpellsSub nesting_of_sub n words) (sub_of read words)
unfolding sub_of every_at
sub_sound read h words = or_holds (every_in (past_symbol_of symbol.Star words)) (followed_holds ((position_reads read h).sound words) (λ x rest p. portion_sound read h x rest p))

star_first : {x : Position} {b a : Words} → SpellsPosition x b a → BeginsSymbol symbol.Star b → ⊥
star_first d begins = position_not_star d

not_every : {x : Position} {b a : Words} → SpellsPosition x b a → every_at b ≡ None
unfolding every_at
not_every {b = b} d = made_none _ (past_symbol_none symbol.Star b (star_first d))

range_keeps : {n : ℕ} (read : Reader Expression) → Primaries n read → (x : Position) (m : Words) {k : ℕ} → length m ≤ k → Reaches k (range_from read x m)
unfolding range_from
range_keeps read h x m l = tail_keeps _ _ m _ l (weaker _ _ (omega arith) (to_position read m) ((to_reads read h).short m))

portion_keeps : {n : ℕ} (read : Reader Expression) → Primaries n read → (x : Position) (m : Words) {k : ℕ} → length m ≤ k → Reaches k (portion_from read x m)
unfolding portion_from
portion_keeps read h (FromEnd q ts) m l = range_keeps read h (FromEnd q ts) m l
portion_keeps read h (FromBeginning t) m l =
    or_either _ (made_below _ _ (at_position read m) (weaker _ _ (omega arith) (at_position read m) ((at_reads read h).short m))) (range_keeps read h (FromBeginning t) m l)

range_far : {n : ℕ} (read : Reader Expression) → Primaries n read → (x : Position) {y : Position} {m a : Words} → Behind (word.Reserved reserved.To) SpellsPosition y m a → nesting_of_position y ≤ n →
    Reaches (length a) (range_from read x m)
unfolding range_from
range_far read h x d l = tail_reaches _ _ _ ((to_reads read h).reach _ _ _ d l)

to_first : {y : Position} {m a : Words} → Behind (word.Reserved reserved.To) SpellsPosition y m a → BeginsReserved reserved.At m → ⊥
to_first (behind_it d) k = elim k [ ]

not_at : (read : Reader Expression) {y : Position} {m a : Words} → Behind (word.Reserved reserved.To) SpellsPosition y m a → at_position read m ≡ None
unfolding at_position
not_at read {m = m} d = followed_none _ (past_none reserved.At m (to_first d))

portion_range : {n : ℕ} (read : Reader Expression) → Primaries n read → (x : Position) {y : Position} {m a : Words} → Behind (word.Reserved reserved.To) SpellsPosition y m a → nesting_of_position y ≤ n →
    Reaches (length a) (portion_from read x m)
unfolding portion_from
portion_range read h (FromEnd q ts) d l = range_far read h (FromEnd q ts) d l
portion_range read h (FromBeginning t) d l = or_other (made_none _ (not_at read d)) (range_far read h (FromBeginning t) d l)

portion_far : {n : ℕ} (read : Reader Expression) → Primaries n read → (t : Expression) {y : Position} {m a : Words} → Behind (word.Reserved reserved.At) SpellsPosition y m a → nesting_of_position y ≤ n →
    Reaches (length a) (portion_from read (FromBeginning t) m)
unfolding portion_from
portion_far read h t d l = or_reaches _ (made_reaches _ ((at_reads read h).reach _ _ _ d l))

sub_reach : {n : ℕ} (read : Reader Expression) → Primaries n read → {x : Sub} {b a : Words} → SpellsSub x b a → nesting_of_sub x ≤ n → Reaches (length a) (sub_of read b)
unfolding sub_of every_at
sub_reach read h (every_place {p = p} {after = a}) l = or_reaches _ (reached (made_equals _ (past_symbol_here symbol.Star p a)) (omega arith))
sub_reach read h (one_place d) l = or_other (not_every d) (followed_reaches ((position_reads read h).reach _ _ _ d l) (λ x rest k. portion_keeps read h x rest k))
sub_reach read h (range d e) l =
    or_other (not_every d) (followed_at _ (met (position_reads read h) d (omega arith) (omega arith)) (portion_range read h _ (behind_it e) (omega arith)))
sub_reach read h (portion d e) l =
    or_other (not_every (from_beginning d)) (followed_at _ (met (position_reads read h) (from_beginning d) (omega arith) (omega arith)) (portion_far read h _ (behind_it e) (omega arith)))

pub sub_reads : {n : ℕ} (read : Reader Expression) → Primaries n read → Reads SpellsSub nesting_of_sub n 1 (sub_of read)
sub_reads read h = record {
  sound = sub_sound read h;
  reach = λ x b a d l. sub_reach read h d l;
  one = λ x y w a b d e. one_sub d e;
  short = sub_shortens read h.short;
}
