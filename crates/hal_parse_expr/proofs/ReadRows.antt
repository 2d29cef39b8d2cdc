-- The readers of phrases behind a word, and of rows: phrases one after another, or one alone.
use Rattle.std.proofs.Common.{◌≡◌, ℕ, ◌≤◌, List, [], ◌∷◌, length, max, subst, arith}
use Rattle.hal_base.specs.declared.refusal.Place.{Place}
use Rattle.hal_words.specs.declared.reserved.Reserved.{Reserved}
use Rattle.hal_words.specs.declared.word.Symbol.{Symbol}
use Rattle.hal_words.specs.declared.word.Word.{Word}
use Rattle.hal_words.specs.declared.word.Word.TheVariants as word
use Rattle.hal_grammar.specs.Expressions.{Expression, Expressions, NoExpressions, MoreExpressions, nesting, nesting_of_all, place_of}
use Rattle.hal_grammar.specs.Words.{Words, token}
use Rattle.hal_grammar.specs.GoesOn.{Outcome}
use Rattle.hal_parse_expr.specs.Reading.{Read, Reader, followed, past, past_symbol, all}
use Rattle.hal_parse_expr.specs.ReadingExpressions.{expressions, row_of, row_at}
use Rattle.hal_parse_expr.proofs.FirstWords.{PastOf, is_past, not_past, past_of, past_symbol_of, past_here, past_symbol_here}
use Rattle.hal_parse_expr.proofs.Shortening.{weaker, followed_below, past_shortens, symbol_shortens}
use Rattle.hal_parse_expr.proofs.Readings.{Holds, holds_none, holds, Reaches, Phrase, IsOneUp, Reads, weaker_holds}
use Rattle.hal_parse_expr.proofs.Combining.{followed_holds, followed_at}
use Rattle.hal_parse_expr.proofs.Rows.{all_sound}

-- a word, and such a phrase behind it
pub data Behind {X : Type 0} (w : Word) (R : X → Words → Words → Type 0) : X → Words → Words → Type 0 where
  behind_it : {p : Place} {x : X} {before after : Words} → R x before after → Behind w R x (token w p ∷ before) after

behind_in : {X : Type 0} {R : X → Words → Words → Type 0} {depth : X → ℕ} {n : ℕ} {w : Word} (read : Reader X) → ((words : Words) → Holds (Phrase R depth n words) (read words)) →
    {words : Words} {o : Read Place} → PastOf w words o → Holds (Phrase (Behind w R) depth n words) (followed o (λ p rest. read rest))
unfolding followed
behind_in read s (is_past {rest = rest}) = weaker_holds (s rest) (λ x a p. record { spells = behind_it p.spells; shallow = p.shallow })
behind_in read s (not_past n) = holds_none

inside : {X : Type 0} {R : X → Words → Words → Type 0} {v w : Word} {p : Place} {y : X} {b a : Words} → Behind w R y (token v p ∷ b) a → R y b a
inside (behind_it d) = d

one_behind : {X : Type 0} {R : X → Words → Words → Type 0} {c : ℕ} {w : Word} → IsOneUp R c → {x y : X} {words a b : Words} → Behind w R x words a → Behind w R y words b → Outcome c x a y b
one_behind one (behind_it d) e = one _ _ _ _ _ d (inside e)

reserved_reach : {X : Type 0} {R : X → Words → Words → Type 0} {depth : X → ℕ} {n c : ℕ} (read : Reader X) → Reads R depth n c read → (r : Reserved) → {y : X} {words rest : Words} →
    Behind (word.Reserved r) R y words rest → depth y ≤ n → Reaches (length rest) (followed (past r words) (λ p after. read after))
reserved_reach read h r (behind_it {p = p} {before = b} d) l = followed_at _ (past_here r p b) (h.reach _ _ _ d l)

symbol_reach : {X : Type 0} {R : X → Words → Words → Type 0} {depth : X → ℕ} {n c : ℕ} (read : Reader X) → Reads R depth n c read → (s : Symbol) → {y : X} {words rest : Words} →
    Behind (word.Symbol s) R y words rest → depth y ≤ n → Reaches (length rest) (followed (past_symbol s words) (λ p after. read after))
symbol_reach read h s (behind_it {p = p} {before = b} d) l = followed_at _ (past_symbol_here s p b) (h.reach _ _ _ d l)

-- behind a reserved word
pub behind_reserved : {X : Type 0} {R : X → Words → Words → Type 0} {depth : X → ℕ} {n c : ℕ} (read : Reader X) → Reads R depth n c read → (r : Reserved) →
    Reads (Behind (word.Reserved r) R) depth n c (λ words. followed (past r words) (λ p rest. read rest))
behind_reserved read h r = record {
  sound = λ words. behind_in read h.sound (past_of r words);
  reach = λ y words rest d l. reserved_reach read h r d l;
  one = λ x y words a b d e. one_behind h.one d e;
  short = λ words. followed_below _ _ (past r words) _ (past_shortens r words) (λ p rest l. weaker _ _ (omega arith) (read rest) (h.short rest));
}

-- behind a symbol
pub behind_symbol : {X : Type 0} {R : X → Words → Words → Type 0} {depth : X → ℕ} {n c : ℕ} (read : Reader X) → Reads R depth n c read → (s : Symbol) →
    Reads (Behind (word.Symbol s) R) depth n c (λ words. followed (past_symbol s words) (λ p rest. read rest))
behind_symbol read h s = record {
  sound = λ words. behind_in read h.sound (past_symbol_of s words);
  reach = λ y words rest d l. symbol_reach read h s d l;
  one = λ x y words a b d e. one_behind h.one d e;
  short = λ words. followed_below _ _ (past_symbol s words) _ (symbol_shortens s words) (λ p rest l. weaker _ _ (omega arith) (read rest) (h.short rest));
}

-- a row `T`: phrases `S` and, behind the first one, a list `L` of phrases `M`, or one phrase alone
pub record IsRow (make : Place → Expression → Expressions → Expression) (S M T : Expression → Words → Words → Type 0) (L : Expressions → Words → Words → Type 0) : Type 0 where
  pub alone : (t : Expression) (b a : Words) → S t b a → T t b a
  pub row : (t u : Expression) (us : Expressions) (b m a : Words) → S t b m → L (MoreExpressions u us) m a → T (make (place_of t) t (MoreExpressions u us)) b a
  pub deep : (p : Place) (t : Expression) (us : Expressions) → nesting (make p t us) ≡ max (nesting t) (nesting_of_all us)
  pub ended : (b a : Words) → L NoExpressions b a → b ≡ a
  pub nil : (a : Words) → L NoExpressions a a
  pub cons : (t : Expression) (ts : Expressions) (b m a : Words) → M t b m → L ts m a → L (MoreExpressions t ts) b a

rest_sound : {make : Place → Expression → Expressions → Expression} {S M T : Expression → Words → Words → Type 0} {L : Expressions → Words → Words → Type 0} {n c : ℕ} (more : Reader Expression) →
    IsRow make S M T L → Reads M nesting n c more → (words : Words) → Phrase L nesting_of_all n words (expressions (all more words).0) (all more words).1
unfolding expressions
rest_sound {L = L} {n = n} more r h words =
    all_sound more (λ ts b a. Phrase L nesting_of_all n b (expressions ts) a) (λ a. record { spells = r.nil a; shallow = omega arith })
    (λ x xs b m a q p. record { spells = r.cons _ _ _ _ _ q.spells p.spells; shallow = omega (arith, q.shallow, p.shallow) }) h.sound words

row_in : {make : Place → Expression → Expressions → Expression} {S M T : Expression → Words → Words → Type 0} {L : Expressions → Words → Words → Type 0} {n : ℕ} {t : Expression} {b m a : Words} →
    IsRow make S M T L → (us : List Expression) → Phrase S nesting n b t m → Phrase L nesting_of_all n m (expressions us) a → Phrase T nesting n b (row_of make t us) a
unfolding expressions row_of
row_in {S = S} {t = t} {b = b} r [] p q = record { spells = r.alone _ _ _ (subst (λ w. S t b w) (r.ended _ _ q.spells) p.spells); shallow = p.shallow }
row_in {t = t} r (u ∷ us) p q = record { spells = r.row _ _ _ _ _ _ p.spells q.spells; shallow = omega (arith, r.deep (place_of t) t (expressions (u ∷ us)), p.shallow, q.shallow) }

-- what a row's reader finds is a row
pub row_sound : {make : Place → Expression → Expressions → Expression} {S M T : Expression → Words → Words → Type 0} {L : Expressions → Words → Words → Type 0} {n c k : ℕ}
    (first more : Reader Expression) → IsRow make S M T L → Reads S nesting n c first → Reads M nesting n k more → (words : Words) → Holds (Phrase T nesting n words) (row_at make first more words)
unfolding row_at
row_sound first more r h g words = followed_holds (h.sound words) (λ t rest p. holds (row_in r (all more rest).0 p (rest_sound more r g rest)))
