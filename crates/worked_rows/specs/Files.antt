-- The files of the worked units, written by hand.
use Rattle.std.specs.Prelude.{ℕ, [], ◌∷◌, Some, None, codes}
use Rattle.hal_grammar.specs.Leaves.{naming, Plus, Equal, Less, Integer}
use Rattle.hal_grammar.specs.Expressions.{Expression, Compare, Sum, Literal, Referred, NoExpressions, MoreExpressions, NoTerms, MoreTerms, Reference, Refers, Unsubscripted}
use Rattle.hal_grammar.specs.Declarations.{IntegerKind, Value, NoInitials, MoreInitials, Typed, InitialValues, declared_of, Declare}
use Rattle.hal_grammar.specs.Statements.{While, Statement, Labelled, Assignment, If, DoLoop, Write, NoAlternative, Groups, NoStatements, MoreStatements}
use Rattle.hal_grammar.specs.Units.{Program, BlockOf, NoElements, StatementFirst, File, file_of}
use Rattle.worked_rows.specs.Columns.{column}

-- the variable N in a column
abbrev pub variable : ℕ → Reference
variable number = Refers (column number) (codes "N") [] Unsubscripted

-- a number in a column
abbrev pub literal : ℕ → ℕ → Expression
literal value number = Literal (column number) (Integer value)

-- an assignment to N of N and a number more: the columns of the target, the variable, the sign and the number
abbrev pub raised : ℕ → ℕ → ℕ → ℕ → ℕ → Statement
raised target left sign right value =
    Labelled [] (Assignment (column target) (variable target ∷ []) (Sum (column left) None (Referred (variable left)) (MoreTerms (column sign) Plus (literal value right) NoTerms)))

-- a WRITE of N to channel 6: the columns of the word, the channel and the variable
abbrev pub shown : ℕ → ℕ → ℕ → Statement
shown word channel item = Labelled [] (Write (column word) (literal 6 channel) (MoreExpressions (Referred (variable item)) NoExpressions))

-- ` HELLO: PROGRAM; DECLARE N INTEGER INITIAL(40); N = N + 2; WRITE(6) N; CLOSE HELLO;`
abbrev pub hello_file : File
hello_file =
    file_of [] (BlockOf (naming (column 2) (codes "HELLO")) (Program (column 9))
    (Declare (column 18) []
    (declared_of (naming (column 26) (codes "N")) (Typed (IntegerKind (column 28)) ∷ InitialValues (column 36) (MoreInitials (Value (literal 40 44)) NoInitials) ∷ []) ∷ []) ∷ [])
    (StatementFirst (raised 49 53 55 57 2) (StatementFirst (shown 60 66 69) NoElements))
    (Some (naming (column 78) (codes "HELLO"))))

-- ` P: PROGRAM; DECLARE N INTEGER; DO WHILE N < 3; N = N + 1; IF N = 2 THEN WRITE(6) N; END; CLOSE P;`
abbrev pub count_file : File
count_file =
    file_of [] (BlockOf (naming (column 2) (codes "P")) (Program (column 5))
    (Declare (column 14) [] (declared_of (naming (column 22) (codes "N")) (Typed (IntegerKind (column 24)) ∷ []) ∷ []) ∷ [])
    (StatementFirst
    (Labelled [] (DoLoop (column 33) (While (column 36) (Compare (column 42) (Referred (variable 42)) Less (literal 3 46)))
    (Groups
    (MoreStatements (raised 49 53 55 57 1)
    (MoreStatements (Labelled [] (If (column 60) (Compare (column 63) (Referred (variable 63)) Equal (literal 2 67)) (shown 74 80 83) NoAlternative)) NoStatements))
    None)))
    NoElements)
    (Some (naming (column 97) (codes "P"))))
