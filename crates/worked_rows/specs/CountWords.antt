-- The text of the worked unit with a group, and its words with their columns.
use Rattle.std.specs.Prelude.{ℕ, List, [], ◌∷◌, codes}
use Rattle.hal_words.specs.declared.reserved.Reserved.TheVariants as reserved
use Rattle.hal_words.specs.declared.word.Symbol.TheVariants as symbol
use Rattle.hal_grammar.specs.Words.{Words}
use Rattle.worked_rows.specs.HelloWords.{keyword, named, written, mark}

-- the text of the unit
abbrev pub count_text : List ℕ
count_text = codes " P: PROGRAM; DECLARE N INTEGER; DO WHILE N < 3; N = N + 1; IF N = 2 THEN WRITE(6) N; END; CLOSE P;"

-- its words
abbrev pub count_tokens : Words
count_tokens =
    named (codes "P") 2 ∷ mark symbol.Colon 3 ∷ keyword reserved.Program 5 ∷ mark symbol.Semicolon 12
    ∷ keyword reserved.Declare 14 ∷ named (codes "N") 22 ∷ keyword reserved.Integer 24 ∷ mark symbol.Semicolon 31
    ∷ keyword reserved.Do 33 ∷ keyword reserved.While 36 ∷ named (codes "N") 42 ∷ mark symbol.Less 44 ∷ written 3 46 ∷ mark symbol.Semicolon 47
    ∷ named (codes "N") 49 ∷ mark symbol.Equals 51 ∷ named (codes "N") 53 ∷ mark symbol.Plus 55 ∷ written 1 57 ∷ mark symbol.Semicolon 58
    ∷ keyword reserved.If 60 ∷ named (codes "N") 63 ∷ mark symbol.Equals 65 ∷ written 2 67 ∷ keyword reserved.Then 69
    ∷ keyword reserved.Write 74 ∷ mark symbol.LeftParenthesis 79 ∷ written 6 80 ∷ mark symbol.RightParenthesis 81 ∷ named (codes "N") 83 ∷ mark symbol.Semicolon 84
    ∷ keyword reserved.End 86 ∷ mark symbol.Semicolon 89 ∷ keyword reserved.Close 91 ∷ named (codes "P") 97 ∷ mark symbol.Semicolon 98
    ∷ []
