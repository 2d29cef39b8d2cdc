-- The readers of phrases that are parted by commas, and of those that a parenthesis ends.
use Rattle.std.proofs.Common.{◌≡◌, ℕ, ◌<◌, ◌≤◌, List, [], ◌∷◌, length, max, refl, ap, subst, arith}
use Rattle.hal_base.specs.declared.refusal.Place.{Place}
use Rattle.hal_words.specs.declared.word.Symbol.TheVariants as symbol
use Rattle.hal_words.specs.declared.word.Word.TheVariants as word
use Rattle.hal_grammar.specs.Expressions.{Expression, Expressions, NoExpressions, MoreExpressions, nesting, nesting_of_all}
use Rattle.hal_grammar.specs.Words.{Words, symbol_then}
use Rattle.hal_grammar.specs.SpellsExpressions.{SpellsExpression, SpellsExpressions, last_expression, more_expressions}
use Rattle.hal_grammar.proofs.Outcomes.{ends_here, ends_later}
use Rattle.hal_grammar.proofs.Shorter.{expressions_shorter}
use Rattle.hal_grammar.proofs.OneExpression.{one_expressions}
use Rattle.hal_parse_expr.specs.Reading.{Reader, all, after_comma, parted}
use Rattle.hal_parse_expr.specs.ReadingExpressions.{expressions, expression_of, expressions_of}
use Rattle.hal_parse_expr.proofs.Shortening.{all_keeps}
use Rattle.hal_parse_expr.proofs.ShorteningExpressions.{expressions_shortens}
use Rattle.hal_parse_expr.proofs.Readings.{Holds, holds, Reaches, Phrase, Reads}
use Rattle.hal_parse_expr.proofs.Combining.{made_holds, followed_holds, made_reaches}
use Rattle.hal_parse_expr.proofs.Rows.{all_sound, all_step, first_then, first_alone}
use Rattle.hal_parse_expr.proofs.ReadRows.{Behind, behind_it, behind_symbol}
use Rattle.hal_parse_expr.proofs.ReadFactors.{Primaries}
use Rattle.hal_parse_expr.proofs.ReadExpressions.{expression_reads}

pub comma_reads : {X : Type 0} {R : X → Words → Words → Type 0} {depth : X → ℕ} {n c : ℕ} (read : Reader X) → Reads R depth n c read →
    Reads (Behind (word.Symbol symbol.Comma) R) depth n c (after_comma read)
unfolding after_comma
comma_reads read h = behind_symbol read h symbol.Comma

-- lists `L` of phrases `R` that are parted by commas
pub record IsParted {X Z : Type 0} (depth : X → ℕ) (deepest : Z → ℕ) (empty : Z) (add : X → Z → Z) (R : X → Words → Words → Type 0) (L : Z → Words → Words → Type 0) : Type 0 where
  pub last : (x : X) (b a : Words) → R x b a → L (add x empty) b a
  pub more : (x : X) (z : Z) (p : Place) (b m a : Words) → R x b (symbol_then symbol.Comma p m) → L z m a → L (add x z) b a
  pub none_deep : deepest empty ≡ 0
  pub deep : (x : X) (z : Z) → deepest (add x z) ≡ max (depth x) (deepest z)

-- a list, as a list of the grammar
abbrev pub listed_as : {X Z : Type 0} → Z → (X → Z → Z) → List X → Z
listed_as empty add [] = empty
listed_as empty add (x ∷ xs) = add x (listed_as empty add xs)

-- whatever phrase ends at `words`, with it the list is one up to `after`
Continued : {X Z : Type 0} (depth : X → ℕ) (deepest : Z → ℕ) (add : X → Z → Z) (R : X → Words → Words → Type 0) (L : Z → Words → Words → Type 0) (n : ℕ) → Z → Words → Words → Type 0
Continued {X = X} depth deepest add R L n z words after = (x : X) (b : Words) → R x b words → depth x ≤ n → Phrase L deepest n b (add x z) after

comma_then : {X Z : Type 0} {depth : X → ℕ} {deepest : Z → ℕ} {empty : Z} {add : X → Z → Z} {R : X → Words → Words → Type 0} {L : Z → Words → Words → Type 0} {n : ℕ} →
    IsParted depth deepest empty add R L → {x : X} {b m : Words} (z : Z) (a : Words) → Behind (word.Symbol symbol.Comma) R x b m → depth x ≤ n → Continued depth deepest add R L n z m a →
    Continued depth deepest add R L n (add x z) b a
unfolding Continued
comma_then {add = add} r {x = x} z a (behind_it {before = b} d) k f y w e l =
    let q = f x b d k in record { spells = r.more _ _ _ _ _ _ e q.spells; shallow = omega (arith, r.deep y (add x z), q.shallow) }

commas_sound : {X Z : Type 0} {depth : X → ℕ} {deepest : Z → ℕ} {empty : Z} {add : X → Z → Z} {R : X → Words → Words → Type 0} {L : Z → Words → Words → Type 0} {n c : ℕ} →
    IsParted depth deepest empty add R L → (read : Reader X) → Reads R depth n c read → (words : Words) →
    Continued depth deepest add R L n (listed_as empty add (all (after_comma read) words).0) words (all (after_comma read) words).1
unfolding Continued
commas_sound {depth = depth} {deepest = deepest} {empty = empty} {add = add} {R = R} {L = L} {n = n} r read h words =
    all_sound (after_comma read) (λ xs b a. Continued depth deepest add R L n (listed_as empty add xs) b a)
    (λ a x b d l. record { spells = r.last _ _ _ d; shallow = omega (arith, r.deep x empty, r.none_deep) })
    (λ x xs b m a q p. comma_then r (listed_as empty add xs) a q.spells q.shallow p) (comma_reads read h).sound words

-- what is read is such a list
pub parted_sound : {X Z : Type 0} {depth : X → ℕ} {deepest : Z → ℕ} {empty : Z} {add : X → Z → Z} {R : X → Words → Words → Type 0} {L : Z → Words → Words → Type 0} {n c : ℕ} →
    IsParted depth deepest empty add R L → (read : Reader X) → Reads R depth n c read → (words : Words) →
    Holds (λ f a. Phrase L deepest n words (add f.0 (listed_as empty add f.1)) a) (parted read words)
unfolding parted Continued
parted_sound r read h words = followed_holds (h.sound words) (λ x rest p. holds (commas_sound r read h rest x words p.spells p.shallow))

-- and it reaches as far as any other: the last one of a list, and one that a comma follows
pub parted_last : {X : Type 0} {R : X → Words → Words → Type 0} {depth : X → ℕ} {n c : ℕ} (read : Reader X) → Reads R depth n c read → {x : X} {b a : Words} → R x b a → depth x ≤ n →
    Reaches (length a) (parted read b)
unfolding parted
parted_last read h d l = first_alone read (after_comma read) (λ x xs. (x, xs)) h (comma_reads read h).short d l

pub parted_more : {X : Type 0} {R : X → Words → Words → Type 0} {depth : X → ℕ} {n c : ℕ} (read : Reader X) → Reads R depth n c read → 1 ≤ c → {x : X} {p : Place} {b m : Words} (a : Words) →
    R x b (symbol_then symbol.Comma p m) → depth x ≤ n → length a < length m → length (all (after_comma read) (symbol_then symbol.Comma p m)).1 ≤ length a → Reaches (length a) (parted read b)
unfolding parted
parted_more read h w a d l k far = first_then read (after_comma read) (λ x xs. (x, xs)) h (comma_reads read h).short d l (ends_later (omega arith) (omega arith)) far

-- how far the phrases behind a comma reach
pub comma_last : {X : Type 0} {R : X → Words → Words → Type 0} {depth : X → ℕ} {n c : ℕ} (read : Reader X) → Reads R depth n c read → {x : X} (p : Place) {b a : Words} → R x b a → depth x ≤ n →
    length (all (after_comma read) (symbol_then symbol.Comma p b)).1 ≤ length a
comma_last read h p {a = a} d l = all_step (after_comma read) (comma_reads read h) (behind_it {p = p} d) l ends_here (all_keeps (after_comma read) (comma_reads read h).short a)

pub comma_more : {X : Type 0} {R : X → Words → Words → Type 0} {depth : X → ℕ} {n c : ℕ} (read : Reader X) → Reads R depth n c read → 1 ≤ c → {x : X} (p : Place) {q : Place} {b m : Words} (a : Words) →
    R x b (symbol_then symbol.Comma q m) → depth x ≤ n → length a < length m → length (all (after_comma read) (symbol_then symbol.Comma q m)).1 ≤ length a →
    length (all (after_comma read) (symbol_then symbol.Comma p b)).1 ≤ length a
comma_more read h w p a d l k far = all_step (after_comma read) (comma_reads read h) (behind_it {p = p} d) l (ends_later (omega arith) (omega arith)) far

parted_expressions : IsParted nesting nesting_of_all NoExpressions MoreExpressions SpellsExpression SpellsExpressions
parted_expressions = record {
  last = λ x b a d. last_expression d;
  more = λ x z p b m a d ds. more_expressions d ds;
  none_deep = refl;
  deep = λ x z. refl;
}

listed_expressions : (ts : List Expression) → listed_as NoExpressions MoreExpressions ts ≡ expressions ts
unfolding expressions
listed_expressions [] = refl
listed_expressions (t ∷ ts) = ap (λ us. MoreExpressions t us) (listed_expressions ts)

expressions_sound : {n : ℕ} (read : Reader Expression) → Primaries n read → (words : Words) → Holds (Phrase SpellsExpressions nesting_of_all n words) (expressions_of read words)
unfolding expressions_of
expressions_sound {n = n} read h words = made_holds _ (parted_sound parted_expressions (expression_of read) (expression_reads read h) words)
    (λ f a p. subst (λ us. Phrase SpellsExpressions nesting_of_all n words (MoreExpressions f.0 us) a) (listed_expressions f.1) p)

expressions_far : {n : ℕ} (read : Reader Expression) → Primaries n read → {ts : Expressions} (p : Place) {b a : Words} → SpellsExpressions ts b a → nesting_of_all ts ≤ n →
    length (all (after_comma (expression_of read)) (symbol_then symbol.Comma p b)).1 ≤ length a
expressions_far read h p (last_expression d) l = comma_last (expression_of read) (expression_reads read h) p d (omega arith)
expressions_far read h p {a = a} (more_expressions {p = q} d ds) l =
    comma_more (expression_of read) (expression_reads read h) (omega arith) p a d (omega arith) (expressions_shorter ds) (expressions_far read h q ds (omega arith))

expressions_reach : {n : ℕ} (read : Reader Expression) → Primaries n read → {ts : Expressions} {b a : Words} → SpellsExpressions ts b a → nesting_of_all ts ≤ n → Reaches (length a) (expressions_of read b)
unfolding expressions_of
expressions_reach read h (last_expression d) l = made_reaches _ (parted_last (expression_of read) (expression_reads read h) d (omega arith))
expressions_reach read h {a = a} (more_expressions {p = q} d ds) l =
    made_reaches _ (parted_more (expression_of read) (expression_reads read h) (omega arith) a d (omega arith) (expressions_shorter ds) (expressions_far read h q ds (omega arith)))

pub expressions_reads : {n : ℕ} (read : Reader Expression) → Primaries n read → Reads SpellsExpressions nesting_of_all n 0 (expressions_of read)
expressions_reads read h = record {
  sound = expressions_sound read h;
  reach = λ ts b a d l. expressions_reach read h d l;
  one = λ t u w a b d e. one_expressions d e;
  short = expressions_shortens read h.short;
}
