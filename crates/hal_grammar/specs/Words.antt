-- Words where they stand, and what they begin with.
use Rattle.std.specs.Prelude.{◌≡◌, ℕ, List, [], ◌∷◌}
use Rattle.hal_base.specs.declared.refusal.Place.{Place}
use Rattle.hal_words.specs.declared.reserved.Reserved.{Reserved}
use Rattle.hal_words.specs.declared.word.Symbol.{Symbol}
use Rattle.hal_words.specs.declared.word.Word.{Word}
use Rattle.hal_words.specs.declared.word.Word.TheVariants as word
use Rattle.hal_words.specs.declared.word.Token.{Token}

-- words one after another
abbrev pub Words : Type 0
Words = List Token

-- a word at a place
abbrev pub token : Word → Place → Token
token w p = record { word = w; place = p }

-- a reserved word at a place, before more words
abbrev pub reserved_then : Reserved → Place → Words → Words
reserved_then r p words = token (word.Reserved r) p ∷ words

-- a symbol at a place, before more words
abbrev pub symbol_then : Symbol → Place → Words → Words
symbol_then s p words = token (word.Symbol s) p ∷ words

-- a name at a place, before more words
abbrev pub name_then : List ℕ → Place → Words → Words
name_then n p words = token (word.Name n) p ∷ words

-- an integer at a place, before more words
abbrev pub integer_then : ℕ → Place → Words → Words
integer_then n p words = token (word.Integer n) p ∷ words

-- the first of the words stands at this place
abbrev pub At : Place → Words → Type 0
At p [] = ⊥
At p (first ∷ words) = first.place ≡ p

-- the words begin with this one
pub data BeginsWith (w : Word) : Words → Type 0 where
  begins : {p : Place} {words : Words} → BeginsWith w (token w p ∷ words)

-- the words begin with this reserved word
abbrev pub BeginsReserved : Reserved → Words → Type 0
BeginsReserved r words = BeginsWith (word.Reserved r) words

-- the words begin with this symbol
abbrev pub BeginsSymbol : Symbol → Words → Type 0
BeginsSymbol s words = BeginsWith (word.Symbol s) words
