-- With which words the phrases begin that may follow a part that is left out.
use Rattle.std.proofs.Common.{◌≡◌, ℕ, [], ◌∷◌, refl}
use Rattle.hal_words.specs.declared.reserved.Reserved.{Reserved}
use Rattle.hal_words.specs.declared.reserved.Reserved.TheVariants as reserved
use Rattle.hal_words.specs.declared.word.Symbol.{Symbol}
use Rattle.hal_words.specs.declared.word.Symbol.TheVariants as symbol
use Rattle.hal_words.specs.declared.word.Word.{Word}
use Rattle.hal_words.specs.declared.word.Word.TheVariants as word
use Rattle.hal_grammar.specs.Words.{Words, BeginsWith, begins}

-- one number for each word that begins a part that may be left out, and 0 for the others
abbrev pub reserved_code : Reserved → ℕ
reserved_code reserved.Assign = 1
reserved_code reserved.While = 2
reserved_code reserved.Until = 3
reserved_code reserved.By = 4
reserved_code reserved.Temporary = 5
reserved_code reserved.At = 6
reserved_code reserved.In = 7
reserved_code reserved.On = 8
reserved_code reserved.Priority = 9
reserved_code reserved.Dependent = 10
reserved_code reserved.Repeat = 11
reserved_code reserved.Every = 12
reserved_code reserved.After = 13
reserved_code reserved.Declare = 14
reserved_code reserved.Structure = 15
reserved_code other = 0

abbrev pub symbol_code : Symbol → ℕ
symbol_code symbol.LeftParenthesis = 21
symbol_code symbol.Plus = 22
symbol_code symbol.Minus = 23
symbol_code symbol.Dollar = 24
symbol_code symbol.Comma = 25
symbol_code other = 0

abbrev pub word_code : Word → ℕ
word_code (word.Reserved r) = reserved_code r
word_code (word.Name n) = 0
word_code (word.Integer n) = 0
word_code (word.Decimal n) = 0
word_code (word.Text t) = 0
word_code (word.Bits len pattern) = 0
word_code (word.Symbol s) = symbol_code s

abbrev pub code : Words → ℕ
code [] = 0
code (first ∷ words) = word_code first.word

pub begins_code : {w : Word} {b : Words} → BeginsWith w b → code b ≡ word_code w
begins_code begins = refl
