-- The text of a worked unit and its words, with their columns counted by hand.
use Rattle.std.specs.Prelude.{ℕ, List, [], ◌∷◌, codes}
use Rattle.hal_words.specs.declared.reserved.Reserved.{Reserved}
use Rattle.hal_words.specs.declared.reserved.Reserved.TheVariants as reserved
use Rattle.hal_words.specs.declared.word.Symbol.{Symbol}
use Rattle.hal_words.specs.declared.word.Symbol.TheVariants as symbol
use Rattle.hal_words.specs.declared.word.Word.TheVariants as word
use Rattle.hal_words.specs.declared.word.Token.{Token}
use Rattle.hal_grammar.specs.Words.{Words, token}
use Rattle.worked_rows.specs.Columns.{column}

-- the text of HELLO
abbrev pub hello_text : List ℕ
hello_text = codes " HELLO: PROGRAM; DECLARE N INTEGER INITIAL(40); N = N + 2; WRITE(6) N; CLOSE HELLO;"

-- a reserved word in a column
abbrev pub keyword : Reserved → ℕ → Token
keyword r number = token (word.Reserved r) (column number)

-- a name in a column
abbrev pub named : List ℕ → ℕ → Token
named name number = token (word.Name name) (column number)

-- a number in a column
abbrev pub written : ℕ → ℕ → Token
written value number = token (word.Integer value) (column number)

-- a symbol in a column
abbrev pub mark : Symbol → ℕ → Token
mark s number = token (word.Symbol s) (column number)

-- the words of HELLO
abbrev pub hello_tokens : Words
hello_tokens =
    named (codes "HELLO") 2 ∷ mark symbol.Colon 7 ∷ keyword reserved.Program 9 ∷ mark symbol.Semicolon 16
    ∷ keyword reserved.Declare 18 ∷ named (codes "N") 26 ∷ keyword reserved.Integer 28
    ∷ keyword reserved.Initial 36 ∷ mark symbol.LeftParenthesis 43 ∷ written 40 44 ∷ mark symbol.RightParenthesis 46 ∷ mark symbol.Semicolon 47
    ∷ named (codes "N") 49 ∷ mark symbol.Equals 51 ∷ named (codes "N") 53 ∷ mark symbol.Plus 55 ∷ written 2 57 ∷ mark symbol.Semicolon 58
    ∷ keyword reserved.Write 60 ∷ mark symbol.LeftParenthesis 65 ∷ written 6 66 ∷ mark symbol.RightParenthesis 67 ∷ named (codes "N") 69 ∷ mark symbol.Semicolon 70
    ∷ keyword reserved.Close 72 ∷ named (codes "HELLO") 78 ∷ mark symbol.Semicolon 83
    ∷ []
