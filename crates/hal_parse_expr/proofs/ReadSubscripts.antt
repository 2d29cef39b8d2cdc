-- The reader of subscripts that are parted by commas.
use Rattle.std.proofs.Common.{◌≡◌, ℕ, ◌≤◌, List, [], ◌∷◌, length, refl, ap, subst, arith}
use Rattle.hal_base.specs.declared.refusal.Place.{Place}
use Rattle.hal_words.specs.declared.word.Symbol.TheVariants as symbol
use Rattle.hal_grammar.specs.Expressions.{Expression, Subscripts, NoSubscripts, MoreSubscripts, Sub, nesting_of_subscripts, nesting_of_sub}
use Rattle.hal_grammar.specs.Words.{Words, symbol_then}
use Rattle.hal_grammar.specs.SpellsExpressions.{SpellsSubscripts, last_subscript, more_subscripts, SpellsSub}
use Rattle.hal_grammar.proofs.Shorter.{subscripts_shorter}
use Rattle.hal_grammar.proofs.OneExpression.{one_subscripts}
use Rattle.hal_parse_expr.specs.Reading.{Reader, all, after_comma}
use Rattle.hal_parse_expr.specs.ReadingExpressions.{subscripts, sub_of, subs_of}
use Rattle.hal_parse_expr.proofs.ShorteningExpressions.{subs_shortens}
use Rattle.hal_parse_expr.proofs.Readings.{Holds, Reaches, Phrase, Reads}
use Rattle.hal_parse_expr.proofs.Combining.{made_holds, made_reaches}
use Rattle.hal_parse_expr.proofs.ReadFactors.{Primaries}
use Rattle.hal_parse_expr.proofs.ReadLists.{IsParted, listed_as, parted_sound, parted_last, parted_more, comma_last, comma_more}
use Rattle.hal_parse_expr.proofs.ReadSubs.{sub_reads}

parted_subscripts : IsParted nesting_of_sub nesting_of_subscripts NoSubscripts MoreSubscripts SpellsSub SpellsSubscripts
parted_subscripts = record {
  last = λ x b a d. last_subscript d;
  more = λ x z p b m a d ds. more_subscripts d ds;
  none_deep = refl;
  deep = λ x z. refl;
}

listed_subscripts : (xs : List Sub) → listed_as NoSubscripts MoreSubscripts xs ≡ subscripts xs
unfolding subscripts
listed_subscripts [] = refl
listed_subscripts (x ∷ xs) = ap (λ us. MoreSubscripts x us) (listed_subscripts xs)

subs_sound : {n : ℕ} (read : Reader Expression) → Primaries n read → (words : Words) → Holds (Phrase SpellsSubscripts nesting_of_subscripts n words) (subs_of read words)
unfolding subs_of
subs_sound {n = n} read h words = made_holds _ (parted_sound parted_subscripts (sub_of read) (sub_reads read h) words)
    (λ f a p. subst (λ us. Phrase SpellsSubscripts nesting_of_subscripts n words (MoreSubscripts f.0 us) a) (listed_subscripts f.1) p)

subs_far : {n : ℕ} (read : Reader Expression) → Primaries n read → {xs : Subscripts} (p : Place) {b a : Words} → SpellsSubscripts xs b a → nesting_of_subscripts xs ≤ n →
    length (all (after_comma (sub_of read)) (symbol_then symbol.Comma p b)).1 ≤ length a
subs_far read h p (last_subscript d) l = comma_last (sub_of read) (sub_reads read h) p d (omega arith)
subs_far read h p {a = a} (more_subscripts {p = q} d ds) l =
    comma_more (sub_of read) (sub_reads read h) (omega arith) p a d (omega arith) (subscripts_shorter ds) (subs_far read h q ds (omega arith))

subs_reach : {n : ℕ} (read : Reader Expression) → Primaries n read → {xs : Subscripts} {b a : Words} → SpellsSubscripts xs b a → nesting_of_subscripts xs ≤ n → Reaches (length a) (subs_of read b)
unfolding subs_of
subs_reach read h (last_subscript d) l = made_reaches _ (parted_last (sub_of read) (sub_reads read h) d (omega arith))
subs_reach read h {a = a} (more_subscripts {p = q} d ds) l =
    made_reaches _ (parted_more (sub_of read) (sub_reads read h) (omega arith) a d (omega arith) (subscripts_shorter ds) (subs_far read h q ds (omega arith)))

pub subs_reads : {n : ℕ} (read : Reader Expression) → Primaries n read → Reads SpellsSubscripts nesting_of_subscripts n 0 (subs_of read)
subs_reads read h = record {
  sound = subs_sound read h;
  reach = λ xs b a d l. subs_reach read h d l;
  one = λ x y w a b d e. one_subscripts d e;
  short = subs_shortens read h.short;
}
