-- What the readers of first words give: the words begin so.
use Rattle.std.proofs.Common.{◌≡◌, [], ◌∷◌, None, refl}
use Rattle.hal_base.specs.declared.refusal.Place.{Place}
use Rattle.hal_words.specs.declared.reserved.Reserved.{Reserved}
use Rattle.hal_words.specs.declared.word.Symbol.{Symbol}
use Rattle.hal_words.specs.declared.word.Symbol.TheVariants as symbol
use Rattle.hal_words.specs.declared.word.Word.{Word}
use Rattle.hal_words.specs.declared.word.Word.TheVariants as word
use Rattle.hal_grammar.specs.Words.{Words, token, reserved_then, symbol_then, name_then, integer_then, BeginsWith, BeginsReserved, BeginsSymbol}
use Rattle.hal_parse_expr.specs.Reading.{Read, Reader, past, past_symbol, name_at, integer_at, before_symbol, before}
use Rattle.hal_parse_declarations.specs.ReadingDeclarations.{in_parentheses}
use Rattle.hal_parse_expr.proofs.FirstWords.{PastOf, is_past, not_past, past_of, past_symbol_of}
use Rattle.hal_parse_expr.proofs.Readings.{Holds, holds_none, holds}
use Rattle.hal_parse_expr.proofs.Combining.{followed_holds, made_holds}

begins_so : {w : Word} {words : Words} {o : Read Place} → PastOf w words o → Holds (λ p rest. words ≡ token w p ∷ rest) o
begins_so is_past = holds refl
begins_so (not_past n) = holds_none

-- the words begin with this reserved word
pub past_gives : (r : Reserved) (words : Words) → Holds (λ p rest. words ≡ reserved_then r p rest) (past r words)
past_gives r words = begins_so (past_of r words)

-- the words begin with this symbol
pub symbol_gives : (s : Symbol) (words : Words) → Holds (λ p rest. words ≡ symbol_then s p rest) (past_symbol s words)
symbol_gives s words = begins_so (past_symbol_of s words)

begins_not : {w : Word} {words : Words} {o : Read Place} → PastOf w words o → o ≡ None → ¬ BeginsWith w words
begins_not is_past e = λ d. cc
begins_not (not_past n) e = n

-- the words don't begin so
pub not_begun : (r : Reserved) (words : Words) → past r words ≡ None → ¬ BeginsReserved r words
not_begun r words e = begins_not (past_of r words) e

pub not_begun_symbol : (s : Symbol) (words : Words) → past_symbol s words ≡ None → ¬ BeginsSymbol s words
not_begun_symbol s words e = begins_not (past_symbol_of s words) e

name_word : (w : Word) (p : Place) (rest : Words) → Holds (λ x after. token w p ∷ rest ≡ name_then x.name x.place after) (name_at (token w p ∷ rest))
unfolding name_at
name_word (word.Name n) p rest = holds refl
name_word other p rest = holds_none

-- the words begin with this name
pub name_gives : (words : Words) → Holds (λ x rest. words ≡ name_then x.name x.place rest) (name_at words)
unfolding name_at
name_gives [] = holds_none
name_gives (first ∷ rest) = name_word first.word first.place rest

integer_word : (w : Word) (p : Place) (rest : Words) → Holds (λ f after. token w p ∷ rest ≡ integer_then f.1 f.0 after) (integer_at (token w p ∷ rest))
unfolding integer_at
integer_word (word.Integer n) p rest = holds refl
integer_word other p rest = holds_none

-- the words begin with this integer
pub integer_gives : (words : Words) → Holds (λ f rest. words ≡ integer_then f.1 f.0 rest) (integer_at words)
unfolding integer_at
integer_gives [] = holds_none
integer_gives (first ∷ rest) = integer_word first.word first.place rest

-- a phrase that a symbol follows
pub gives_before_symbol : {X : Type 0} {P Q : X → Words → Type 0} {o : Read X} (s : Symbol) → Holds P o →
    ((x : X) (p : Place) (rest : Words) → P x (symbol_then s p rest) → Q x rest) → Holds Q (before_symbol s o)
unfolding before_symbol
gives_before_symbol {P = P} s g f = followed_holds g (λ x rest h. made_holds _ (symbol_gives s rest) (λ p after e. f x p after (rw e at h)))

-- a phrase that a reserved word follows
pub gives_before : {X : Type 0} {P Q : X → Words → Type 0} {o : Read X} (r : Reserved) → Holds P o →
    ((x : X) (p : Place) (rest : Words) → P x (reserved_then r p rest) → Q x rest) → Holds Q (before r o)
unfolding before
gives_before {P = P} r g f = followed_holds g (λ x rest h. made_holds _ (past_gives r rest) (λ p after e. f x p after (rw e at h)))

-- a phrase in parentheses
pub data Enclosed {X : Type 0} (P : X → Words → Words → Type 0) (x : X) : Words → Words → Type 0 where
  enclosed_so : {p q : Place} {inside after : Words} → P x inside (symbol_then symbol.RightParenthesis q after) → Enclosed P x (symbol_then symbol.LeftParenthesis p inside) after

pub gives_enclosed : {X : Type 0} {P : X → Words → Words → Type 0} (read : Reader X) (words : Words) → ((rest : Words) → Holds (λ x after. P x rest after) (read rest)) →
    Holds (λ x after. Enclosed P x words after) (in_parentheses read words)
unfolding in_parentheses
gives_enclosed {P = P} read words g =
    followed_holds (symbol_gives symbol.LeftParenthesis words)
    (λ p rest e. gives_before_symbol symbol.RightParenthesis (g rest) (λ x q after h. rw e (let r : Enclosed P x (symbol_then symbol.LeftParenthesis p rest) after = enclosed_so h in r)))

-- a phrase and a symbol behind it
pub data Ended {X : Type 0} (s : Symbol) (P : X → Words → Words → Type 0) (x : X) (before after : Words) : Type 0 where
  ended : {q : Place} → P x before (symbol_then s q after) → Ended s P x before after

pub gives_ended : {X : Type 0} {P : X → Words → Words → Type 0} {o : Read X} (s : Symbol) (words : Words) → Holds (λ x rest. P x words rest) o → Holds (λ x rest. Ended s P x words rest) (before_symbol s o)
gives_ended s words g = gives_before_symbol s g (λ x q rest h. ended h)
