-- The readers of names, integers, signs and literals.
use Rattle.std.proofs.Common.{◌≡◌, ℕ, List, [], ◌∷◌, length, Option, Some, None, refl, arith}
use Rattle.hal_base.specs.declared.refusal.Place.{Place}
use Rattle.hal_words.specs.declared.reserved.Reserved.TheVariants as reserved
use Rattle.hal_words.specs.declared.word.Symbol.TheVariants as symbol
use Rattle.hal_words.specs.declared.word.Word.{Word}
use Rattle.hal_words.specs.declared.word.Word.TheVariants as word
use Rattle.hal_grammar.specs.Leaves.{Naming, naming, Sign, LiteralValue}
use Rattle.hal_grammar.specs.Words.{Words, token, name_then, integer_then}
use Rattle.hal_grammar.specs.SpellsExpressions.{SpellsSign, plus, minus, SpellsLiteral, integer, text, bits, true_bit, false_bit, on_bit, off_bit}
use Rattle.hal_grammar.proofs.Beginnings.{Opening, Opening-unsigned, sign_strength}
use Rattle.hal_parse_expr.specs.Reading.{Read, name_at, integer_at}
use Rattle.hal_parse_expr.specs.ReadingExpressions.{sign_of, sign_at, literal_of}
use Rattle.hal_parse_expr.proofs.Readings.{Holds, holds_none, holds, Reaches, reaches}

-- a name at the front
pub data IsName : Words → Naming → Words → Type 0 where
  is_name : {n : List ℕ} {p : Place} {rest : Words} → IsName (name_then n p rest) (naming p n) rest

-- an integer at the front
pub data IsInteger : Words → Place × ℕ → Words → Type 0 where
  is_integer : {n : ℕ} {p : Place} {rest : Words} → IsInteger (integer_then n p rest) (p, n) rest

-- a sign at the front
pub data IsSign : Words → Place × Sign → Words → Type 0 where
  is_sign : {s : Sign} {p : Place} {words rest : Words} → SpellsSign s p words rest → IsSign words (p, s) rest

name_word : (w : Word) (p : Place) (rest : Words) → Holds (IsName (token w p ∷ rest)) (name_at (token w p ∷ rest))
unfolding name_at
name_word (word.Name n) p rest = holds is_name
name_word other p rest = holds_none

pub name_sound : (words : Words) → Holds (IsName words) (name_at words)
unfolding name_at
name_sound [] = holds_none
name_sound (first ∷ rest) = name_word first.word first.place rest

pub name_here : (n : List ℕ) (p : Place) (rest : Words) → name_at (name_then n p rest) ≡ Some (naming p n, rest)
unfolding name_at
name_here n p rest = refl

integer_word : (w : Word) (p : Place) (rest : Words) → Holds (IsInteger (token w p ∷ rest)) (integer_at (token w p ∷ rest))
unfolding integer_at
integer_word (word.Integer n) p rest = holds is_integer
integer_word other p rest = holds_none

pub integer_sound : (words : Words) → Holds (IsInteger words) (integer_at words)
unfolding integer_at
integer_sound [] = holds_none
integer_sound (first ∷ rest) = integer_word first.word first.place rest

sign_word : (w : Word) (p : Place) (rest : Words) → Holds (IsSign (token w p ∷ rest)) (sign_at (token w p ∷ rest))
unfolding sign_at sign_of
sign_word (word.Symbol symbol.Plus) p rest = holds (is_sign plus)
sign_word (word.Symbol symbol.Minus) p rest = holds (is_sign minus)
sign_word (word.Symbol s) p rest = holds_none
sign_word other p rest = holds_none

pub sign_sound : (words : Words) → Holds (IsSign words) (sign_at words)
unfolding sign_at
sign_sound [] = holds_none
sign_sound (first ∷ rest) = sign_word first.word first.place rest

pub sign_here : {s : Sign} {p : Place} {b a : Words} → SpellsSign s p b a → sign_at b ≡ Some ((p, s), a)
unfolding sign_at sign_of
sign_here plus = refl
sign_here minus = refl

unsigned_in : {words : Words} {o : Read (Place × Sign)} → Opening words → Holds (IsSign words) o → o ≡ None
unsigned_in h holds_none = refl
unsigned_in h (holds (is_sign s)) = absurd (Opening-unsigned h (sign_strength s))

-- what begins a factor is no sign
pub unsigned : (words : Words) → Opening words → sign_at words ≡ None
unsigned words h = unsigned_in h (sign_sound words)

-- the literal that a word is
pub data LiteralOf (w : Word) : Option LiteralValue → Type 0 where
  no_literal : LiteralOf w None
  is_literal : {l : LiteralValue} → ((p : Place) (rest : Words) → SpellsLiteral l p (token w p ∷ rest) rest) → LiteralOf w (Some l)

pub literal_sound : (w : Word) → LiteralOf w (literal_of w)
unfolding literal_of
literal_sound (word.Integer n) = is_literal (λ p rest. integer)
literal_sound (word.Text t) = is_literal (λ p rest. text)
literal_sound (word.Bits len word) = is_literal (λ p rest. bits)
literal_sound (word.Reserved reserved.True) = is_literal (λ p rest. true_bit)
literal_sound (word.Reserved reserved.False) = is_literal (λ p rest. false_bit)
literal_sound (word.Reserved reserved.On) = is_literal (λ p rest. on_bit)
literal_sound (word.Reserved reserved.Off) = is_literal (λ p rest. off_bit)
literal_sound (word.Reserved r) = no_literal
literal_sound other = no_literal

pub reached_name : (n : List ℕ) (p : Place) (rest : Words) → Reaches (length rest) (name_at (name_then n p rest))
unfolding name_at
reached_name n p rest = reaches (omega arith)
