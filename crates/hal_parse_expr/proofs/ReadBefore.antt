-- The readers of phrases that a word must follow.
use Rattle.std.proofs.Common.{◌≡◌, ℕ, ◌≤◌, ◌∷◌, Some}
use Rattle.hal_base.specs.declared.refusal.Place.{Place}
use Rattle.hal_words.specs.declared.reserved.Reserved.{Reserved}
use Rattle.hal_words.specs.declared.word.Symbol.{Symbol}
use Rattle.hal_words.specs.declared.word.Word.{Word}
use Rattle.hal_words.specs.declared.word.Word.TheVariants as word
use Rattle.hal_grammar.specs.Words.{Words, token, reserved_then, symbol_then}
use Rattle.hal_grammar.specs.GoesOn.{strength}
use Rattle.hal_parse_expr.specs.Reading.{Read, Reader, made_of, before_symbol, before}
use Rattle.hal_parse_expr.proofs.FirstWords.{PastOf, is_past, not_past, past_of, past_symbol_of, past_here, past_symbol_here}
use Rattle.hal_parse_expr.proofs.Readings.{Holds, holds_none, holds, Phrase, Reads, met}
use Rattle.hal_parse_expr.proofs.Combining.{followed_holds}
use Rattle.hal_parse_expr.proofs.Equations.{followed_equals, made_equals}

-- such a phrase, and a word behind it
pub data Before {X : Type 0} (w : Word) (R : X → Words → Words → Type 0) : X → Words → Words → Type 0 where
  before_it : {p : Place} {x : X} {words after : Words} → R x words (token w p ∷ after) → Before w R x words after

before_in : {X : Type 0} {R : X → Words → Words → Type 0} {depth : X → ℕ} {n : ℕ} {w : Word} {words rest : Words} {x : X} {o : Read Place} → Phrase R depth n words x rest → PastOf w rest o →
    Holds (Phrase (Before w R) depth n words) (made_of (λ p. x) o)
unfolding made_of
before_in p is_past = holds (record { spells = before_it p.spells; shallow = p.shallow })
before_in p (not_past n) = holds_none

-- what is found is such a phrase
pub before_symbol_sound : {X : Type 0} {R : X → Words → Words → Type 0} {depth : X → ℕ} {n : ℕ} {words : Words} {o : Read X} (s : Symbol) → Holds (Phrase R depth n words) o →
    Holds (Phrase (Before (word.Symbol s) R) depth n words) (before_symbol s o)
unfolding before_symbol
before_symbol_sound s h = followed_holds h (λ x rest p. before_in p (past_symbol_of s rest))

pub before_sound : {X : Type 0} {R : X → Words → Words → Type 0} {depth : X → ℕ} {n : ℕ} {words : Words} {o : Read X} (r : Reserved) → Holds (Phrase R depth n words) o →
    Holds (Phrase (Before (word.Reserved r) R) depth n words) (before r o)
unfolding before
before_sound r h = followed_holds h (λ x rest p. before_in p (past_of r rest))

-- what ends at the word is found
pub before_symbol_equals : {X : Type 0} {o : Read X} {x : X} (s : Symbol) (p : Place) (a : Words) → o ≡ Some (x, symbol_then s p a) → before_symbol s o ≡ Some (x, a)
unfolding before_symbol
before_symbol_equals s p a e = followed_equals _ e (made_equals _ (past_symbol_here s p a))

pub before_equals : {X : Type 0} {o : Read X} {x : X} (r : Reserved) (p : Place) (a : Words) → o ≡ Some (x, reserved_then r p a) → before r o ≡ Some (x, a)
unfolding before
before_equals r p a e = followed_equals _ e (made_equals _ (past_here r p a))

-- a phrase that such a symbol follows is the one that is found
pub met_symbol : {X : Type 0} {R : X → Words → Words → Type 0} {depth : X → ℕ} {n c : ℕ} (read : Reader X) → Reads R depth n c read → {s : Symbol} {p : Place} {y : X} {words rest : Words} →
    R y words (symbol_then s p rest) → depth y ≤ n → strength (symbol_then s p rest) ≤ c → before_symbol s (read words) ≡ Some (y, rest)
met_symbol read r {s = s} {p = p} {rest = rest} d l h = before_symbol_equals s p rest (met r d l h)

pub met_reserved : {X : Type 0} {R : X → Words → Words → Type 0} {depth : X → ℕ} {n c : ℕ} (read : Reader X) → Reads R depth n c read → {s : Reserved} {p : Place} {y : X} {words rest : Words} →
    R y words (reserved_then s p rest) → depth y ≤ n → strength (reserved_then s p rest) ≤ c → before s (read words) ≡ Some (y, rest)
met_reserved read r {s = s} {p = p} {rest = rest} d l h = before_equals s p rest (met r d l h)
