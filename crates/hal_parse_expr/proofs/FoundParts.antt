-- What is read of the three parts of a subscript, up to the parenthesis, is spelled there.
use Rattle.std.proofs.Common.{◌≡◌, ℕ, ◌≤◌, None, arith}
use Rattle.hal_base.specs.declared.refusal.Place.{Place}
use Rattle.hal_words.specs.declared.word.Symbol.TheVariants as symbol
use Rattle.hal_words.specs.declared.word.Word.TheVariants as word
use Rattle.hal_grammar.specs.Expressions.{Expression, Subscripts, NoSubscripts, nesting_of_subscripts}
use Rattle.hal_grammar.specs.Words.{Words, symbol_then, begins, BeginsSymbol}
use Rattle.hal_grammar.specs.SpellsExpressions.{SpellsCopies, copies_then, no_copies, SpellsArrays, arrays_then, no_arrays, SpellsComponents, components_then, no_components, SpellsSubscripts}
use Rattle.hal_grammar.proofs.Beginnings.{subscripts_not_right}
use Rattle.hal_parse_expr.specs.Reading.{Read, Reader, made_of, decided, past_symbol}
use Rattle.hal_parse_expr.specs.ReadingExpressions.{Parts, components_of, arrays_then as arrays_behind, arrays_of, copies_then as copies_behind, parts_of}
use Rattle.hal_parse_expr.proofs.FirstWords.{PastOf, is_past, not_past, past_symbol_of, past_symbol_none}
use Rattle.hal_parse_expr.proofs.Readings.{Holds, holds_none, holds, Phrase, weaker_holds}
use Rattle.hal_parse_expr.proofs.Combining.{made_holds, followed_holds, or_holds}
use Rattle.hal_parse_expr.proofs.ReadFactors.{Primaries}
use Rattle.hal_parse_expr.proofs.ReadBefore.{Before, before_it, before_symbol_sound}
use Rattle.hal_parse_expr.proofs.ReadSubscripts.{subs_reads}

right_first : {xs : Subscripts} {b a : Words} → SpellsSubscripts xs b a → BeginsSymbol symbol.RightParenthesis b → ⊥
right_first d begins = subscripts_not_right d

pub not_right : {xs : Subscripts} {b a : Words} → SpellsSubscripts xs b a → past_symbol symbol.RightParenthesis b ≡ None
not_right {b = b} d = past_symbol_none symbol.RightParenthesis b (right_first d)

-- the third part, and the parenthesis behind it
abbrev ClosedComponents : ℕ → Words → Subscripts → Words → Type 0
ClosedComponents n words = Phrase (Before (word.Symbol symbol.RightParenthesis) SpellsComponents) nesting_of_subscripts n words

no_components_in : (n : ℕ) {words : Words} {o : Read Place} → PastOf (word.Symbol symbol.RightParenthesis) words o → Holds (ClosedComponents n words) (made_of (λ p. NoSubscripts) o)
unfolding made_of
no_components_in n is_past = holds (record { spells = before_it no_components; shallow = omega arith })
no_components_in n (not_past m) = holds_none

components_in : {xs : Subscripts} {b a : Words} → Before (word.Symbol symbol.RightParenthesis) SpellsSubscripts xs b a → Before (word.Symbol symbol.RightParenthesis) SpellsComponents xs b a
components_in (before_it d) = before_it (components_then d)

components_sound : {n : ℕ} (read : Reader Expression) → Primaries n read → (words : Words) → Holds (ClosedComponents n words) (components_of read words)
unfolding components_of
components_sound {n = n} read h words = or_holds (no_components_in n (past_symbol_of symbol.RightParenthesis words))
    (weaker_holds (before_symbol_sound symbol.RightParenthesis ((subs_reads read h).sound words)) (λ xs a p. record { spells = components_in p.spells; shallow = p.shallow }))

-- the second and the third part, and the parenthesis behind them
data ClosedArrays (copies : Subscripts) (n : ℕ) (words : Words) : Parts → Words → Type 0 where
  closed_arrays : {xs ys : Subscripts} {r : Place} {after : Words} → SpellsArrays xs ys words (symbol_then symbol.RightParenthesis r after) → nesting_of_subscripts xs ≤ n → nesting_of_subscripts ys ≤ n →
      ClosedArrays copies n words (copies, xs, ys) after

colon_then : {copies : Subscripts} {n : ℕ} {xs ys : Subscripts} {p : Place} {b m a : Words} → SpellsSubscripts xs b (symbol_then symbol.Colon p m) → nesting_of_subscripts xs ≤ n →
    Before (word.Symbol symbol.RightParenthesis) SpellsComponents ys m a → nesting_of_subscripts ys ≤ n → ClosedArrays copies n b (copies, xs, ys) a
colon_then d l (before_it e) k = closed_arrays (arrays_then d e) l k

colon_in : {copies : Subscripts} {n : ℕ} (read : Reader Expression) → Primaries n read → {xs : Subscripts} {b m : Words} {o : Read Place} → SpellsSubscripts xs b m → nesting_of_subscripts xs ≤ n →
    PastOf (word.Symbol symbol.Colon) m o → {other : Read Parts} → Holds (ClosedArrays copies n b) other →
    Holds (ClosedArrays copies n b) (decided o (λ p after. made_of (λ ys. (copies, xs, ys)) (components_of read after)) other)
unfolding decided
colon_in read h d l (is_past {rest = rest}) g = made_holds _ (components_sound read h rest) (λ ys a q. colon_then d l q.spells q.shallow)
colon_in read h d l (not_past n) g = g

right_in : {copies : Subscripts} {n : ℕ} {xs : Subscripts} {b m : Words} {o : Read Place} → SpellsSubscripts xs b m → nesting_of_subscripts xs ≤ n →
    PastOf (word.Symbol symbol.RightParenthesis) m o → Holds (ClosedArrays copies n b) (made_of (λ p. (copies, NoSubscripts, xs)) o)
unfolding made_of
right_in d l is_past = holds (closed_arrays (no_arrays (components_then d)) (omega arith) l)
right_in d l (not_past n) = holds_none

behind_sound : {copies : Subscripts} {n : ℕ} (read : Reader Expression) → Primaries n read → {xs : Subscripts} {b m : Words} → SpellsSubscripts xs b m → nesting_of_subscripts xs ≤ n →
    Holds (ClosedArrays copies n b) (arrays_behind read copies xs m)
unfolding arrays_behind
behind_sound read h {m = m} d l = colon_in read h d l (past_symbol_of symbol.Colon m) (right_in d l (past_symbol_of symbol.RightParenthesis m))

no_arrays_in : {copies : Subscripts} {n : ℕ} {b : Words} {o : Read Place} → PastOf (word.Symbol symbol.RightParenthesis) b o →
    Holds (ClosedArrays copies n b) (made_of (λ p. (copies, NoSubscripts, NoSubscripts)) o)
unfolding made_of
no_arrays_in is_past = holds (closed_arrays (no_arrays no_components) (omega arith) (omega arith))
no_arrays_in (not_past n) = holds_none

arrays_sound : {copies : Subscripts} {n : ℕ} (read : Reader Expression) → Primaries n read → (words : Words) → Holds (ClosedArrays copies n words) (arrays_of read copies words)
unfolding arrays_of
arrays_sound read h words = or_holds (no_arrays_in (past_symbol_of symbol.RightParenthesis words))
    (followed_holds ((subs_reads read h).sound words) (λ xs rest p. behind_sound read h p.spells p.shallow))

-- the three parts, and the parenthesis behind them
pub data ClosedParts (n : ℕ) (words : Words) : Parts → Words → Type 0 where
  closed_parts : {cs xs ys : Subscripts} {r : Place} {after : Words} → ¬ BeginsSymbol symbol.RightParenthesis words → SpellsCopies cs xs ys words (symbol_then symbol.RightParenthesis r after) →
      nesting_of_subscripts cs ≤ n → nesting_of_subscripts xs ≤ n → nesting_of_subscripts ys ≤ n → ClosedParts n words (cs, xs, ys) after

semicolon_then : {n : ℕ} {cs : Subscripts} {f : Parts} {p : Place} {b m a : Words} → SpellsSubscripts cs b (symbol_then symbol.Semicolon p m) → nesting_of_subscripts cs ≤ n →
    ClosedArrays cs n m f a → ClosedParts n b f a
semicolon_then d l (closed_arrays e j k) = closed_parts (right_first d) (copies_then d e) l j k

semicolon_in : {n : ℕ} (read : Reader Expression) → Primaries n read → {cs : Subscripts} {b m : Words} {o : Read Place} → SpellsSubscripts cs b m → nesting_of_subscripts cs ≤ n →
    PastOf (word.Symbol symbol.Semicolon) m o → {other : Read Parts} → Holds (ClosedParts n b) other → Holds (ClosedParts n b) (decided o (λ p after. arrays_of read cs after) other)
unfolding decided
semicolon_in read h d l (is_past {rest = rest}) g = weaker_holds (arrays_sound read h rest) (λ f a e. semicolon_then d l e)
semicolon_in read h d l (not_past n) g = g

without_copies : {n : ℕ} {f : Parts} {b a : Words} → ¬ BeginsSymbol symbol.RightParenthesis b → ClosedArrays NoSubscripts n b f a → ClosedParts n b f a
without_copies m (closed_arrays e j k) = closed_parts m (no_copies e) (omega arith) j k

copies_sound : {n : ℕ} (read : Reader Expression) → Primaries n read → {xs : Subscripts} {b m : Words} → SpellsSubscripts xs b m → nesting_of_subscripts xs ≤ n →
    Holds (ClosedParts n b) (copies_behind read xs m)
unfolding copies_behind
copies_sound read h {m = m} d l = semicolon_in read h d l (past_symbol_of symbol.Semicolon m) (weaker_holds (behind_sound read h d l) (λ f a e. without_copies (right_first d) e))

pub parts_sound : {n : ℕ} (read : Reader Expression) → Primaries n read → (words : Words) → Holds (ClosedParts n words) (parts_of read words)
unfolding parts_of
parts_sound read h words = followed_holds ((subs_reads read h).sound words) (λ xs rest p. copies_sound read h p.spells p.shallow)
