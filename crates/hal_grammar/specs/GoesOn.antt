-- With which words an expression goes on.
use Rattle.std.specs.Prelude.{◌≡◌, ℕ, ◌<◌, [], ◌∷◌, length}
use Rattle.hal_words.specs.declared.reserved.Reserved.{Reserved}
use Rattle.hal_words.specs.declared.reserved.Reserved.TheVariants as reserved
use Rattle.hal_words.specs.declared.word.Symbol.{Symbol}
use Rattle.hal_words.specs.declared.word.Symbol.TheVariants as symbol
use Rattle.hal_words.specs.declared.word.Word.{Word}
use Rattle.hal_words.specs.declared.word.Word.TheVariants as word
use Rattle.hal_grammar.specs.Words.{Words}

-- how strongly a reserved word binds what stands before it: TO and AT, OR, AND, a comparison, CAT; a word that begins a factor
abbrev pub reserved_strength : Reserved → ℕ
reserved_strength reserved.To = 2
reserved_strength reserved.At = 2
reserved_strength reserved.Or = 3
reserved_strength reserved.And = 4
reserved_strength reserved.Not = 5
reserved_strength reserved.Cat = 6
reserved_strength reserved.Integer = 8
reserved_strength reserved.Bit = 8
reserved_strength reserved.Character = 8
reserved_strength reserved.True = 8
reserved_strength reserved.False = 8
reserved_strength reserved.On = 8
reserved_strength reserved.Off = 8
reserved_strength other = 0

-- the same of a symbol: the comma, a comparison, a sign, what begins a factor, the power, a subscript, the point
abbrev pub symbol_strength : Symbol → ℕ
symbol_strength symbol.Comma = 1
symbol_strength symbol.Equals = 5
symbol_strength symbol.Less = 5
symbol_strength symbol.Greater = 5
symbol_strength symbol.AtMost = 5
symbol_strength symbol.AtLeast = 5
symbol_strength symbol.Plus = 7
symbol_strength symbol.Minus = 7
symbol_strength symbol.LeftParenthesis = 8
symbol_strength symbol.Power = 9
symbol_strength symbol.Dollar = 10
symbol_strength symbol.Point = 11
symbol_strength other = 0

-- the same of a word
abbrev pub word_strength : Word → ℕ
word_strength (word.Reserved r) = reserved_strength r
word_strength (word.Name n) = 8
word_strength (word.Integer n) = 8
word_strength (word.Decimal n) = 8
word_strength (word.Text t) = 8
word_strength (word.Bits len bits) = 8
word_strength (word.Symbol s) = symbol_strength s

-- the same of the first of the words
abbrev pub strength : Words → ℕ
strength [] = 0
strength (first ∷ words) = word_strength first.word

-- of two trees that the same words spell, the one up to `a` and the other up to `b`: they are one and end at one place, or one of them ends sooner, at
-- a word that is stronger than `c`
pub data Outcome (c : ℕ) {X : Type 0} (x : X) (a : Words) (y : X) (b : Words) : Type 0 where
  same : x ≡ y → a ≡ b → Outcome c x a y b
  sooner : c < strength a → length b < length a → Outcome c x a y b
  later : c < strength b → length a < length b → Outcome c x a y b
