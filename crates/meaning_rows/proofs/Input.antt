-- Rows of input.txt, written by tools/meaning_rows.
use Rattle.std.specs.Prelude.{◌≡◌, ℕ, List, [], ◌∷◌, Option, Some, None, true, false, codes}
use Rattle.std.specs.Fmt.{digits}
use Rattle.std.proofs.Common.{refl, inl, inr}
use Rattle.hal_grammar.specs.Leaves.{Plus, Minus, Equal, Less, Greater, AtMost, AtLeast, NotEqual, NotLess, NotGreater, ToInteger, ToBits, ToText, Integer, Text, Bits, True, False, On, Off}
use Rattle.hal_grammar.specs.Expressions.{Or, And, Compare, Cat, Sum, Product, Power, Not, Literal, Decimal, Referred, Called, Convert, Parenthesis, Refers, Unsubscripted, ByName, ByInteger, ByParts, Every, One, Range, Portion, FromBeginning, FromEnd}
use Rattle.hal_grammar.specs.Declarations.{Single, Double, Latched, Static, Automatic, Dense, Aligned, IntegerKind, BooleanKind, EventKind, BitKind, CharacterKind, StructureKind, Value, LiteralTimes, NameTimes, ListTimes, Dimensions, Typed, Marked, LockGroup, LockAny, InitialValues, ConstantValues, declared_of, part_of, Declare, Structure}
use Rattle.hal_grammar.specs.Statements.{While, Until, Stepped, Listed, EveryError, GroupErrors, OneError, Signal, Set, Reset, eventful, System, Ignore, StartAt, StartIn, StartOn, Cyclic, CyclicEvery, CyclicAfter, scheduling, Labelled, Null, Assignment, If, Do, DoCase, DoLoop, DoFor, Exit, Repeat, Return, Call, Read, Write, Update, Scheduled, Cancel, Terminate, Wait, WaitUntil, WaitForDependent, WaitFor, Event, UpdatePriority, OnErrorStatement, OnErrorResponse, OffError, SendError, NoAlternative, Otherwise, Groups}
use Rattle.hal_grammar.specs.Units.{Reentrant, Exclusive, SinglePrecision, DoublePrecision, NoKind, HasKind, Program, Compool, Task, Procedure, Function, BlockOf, template_of, Include, Templates, File, file_of}
use Rattle.exec_model.specs.declared.script.ScriptLine.TheVariants as line
use Rattle.meaning_rows.specs.Trees.{o, nm, es, ts, ss, is, st, el}
use Rattle.meaning_rows.specs.Playing.{reported}
use Rattle.hal_words.specs.Reserved as words_reserved
use Rattle.hal_phrases.specs.GatheredDeclarations as phrases_gathereddeclarations
use Rattle.hal_phrases.specs.GatheredExpressions as phrases_gatheredexpressions
use Rattle.hal_phrases.specs.GatheredStatements as phrases_gatheredstatements
use Rattle.hal_phrases.specs.GatheredUnits as phrases_gatheredunits
use Rattle.hal_phrases.specs.Members as phrases_members
use Rattle.hal_names.specs.Declarations as names_declarations
use Rattle.hal_names.specs.Keys as names_keys
use Rattle.hal_names.specs.Means as names_means
use Rattle.hal_names.specs.Tasks as names_tasks
use Rattle.hal_scope.specs.Builtins as scope_builtins
use Rattle.hal_scope.specs.Components as scope_components
use Rattle.hal_scope.specs.Labels as scope_labels
use Rattle.hal_scope.specs.Repeated as scope_repeated
use Rattle.hal_scope.specs.Rules as scope_rules
use Rattle.hal_scope.specs.Sorts as scope_sorts
use Rattle.hal_scope.specs.Uses as scope_uses
use Rattle.hal_kinds.specs.Attributes as kinds_attributes
use Rattle.hal_kinds.specs.Classes as kinds_classes
use Rattle.hal_kinds.specs.Data as kinds_data
use Rattle.hal_kinds.specs.Subscripts as kinds_subscripts
use Rattle.hal_constants.specs.Constants as constants_constants
use Rattle.hal_constants.specs.Known as constants_known
use Rattle.hal_constants.specs.Naming as constants_naming
use Rattle.hal_constants.specs.Operands as constants_operands
use Rattle.hal_constants.specs.Results as constants_results
use Rattle.hal_states.specs.OfKinds as states_ofkinds

-- input 1: error 1:4 caught, DO FOR TEMPORARY TO, EXIT label, text component at
abbrev row1 : List File
row1 = ((file_of ([]) (BlockOf (nm (codes "P")) (Program o) ((Declare o ([]) ((declared_of (nm (codes "B")) ((Dimensions o (es ((Literal o (Integer 2)) ∷ (Literal o (Integer 3)) ∷ []))) ∷ (Typed (IntegerKind o)) ∷ (InitialValues o (is ((Value (Literal o (Integer 2))) ∷ (Value (Literal o (Integer 2))) ∷ (Value (Called o (codes "LENGTH") (es ((Literal o (Text (codes " PAD "))) ∷ [])))) ∷ (Value (Called o (codes "LENGTH") (es ((Literal o (Text (codes "LONGER TEXT"))) ∷ [])))) ∷ (Value (Called o (codes "ABS") (es ((Sum o (Some Minus) (Literal o (Integer 0)) (ts ([]))) ∷ [])))) ∷ (Value (Literal o (Integer 1))) ∷ []))) ∷ [])) ∷ [])) ∷ (Declare o ([]) ((declared_of (nm (codes "R")) ((Typed (CharacterKind o (Literal o (Integer 6)))) ∷ (InitialValues o (is ((Value (Sum o (Some Minus) (Literal o (Integer 40)) (ts ([])))) ∷ []))) ∷ [])) ∷ [])) ∷ (Declare o ([]) ((declared_of (nm (codes "N")) ((Typed (BitKind o (Literal o (Integer 16)))) ∷ (InitialValues o (is ((Value (Convert o ToBits (Literal o (Integer 255)))) ∷ []))) ∷ [])) ∷ [])) ∷ (Declare o ([]) ((declared_of (nm (codes "I")) ((Typed (IntegerKind o)) ∷ [])) ∷ [])) ∷ (Declare o ([]) ((declared_of (nm (codes "I2")) ((Typed (IntegerKind o)) ∷ [])) ∷ [])) ∷ []) (el ((inr (Labelled ([]) (Assignment o ((Refers o (codes "B") ([]) (ByParts o (ss ([])) (ss ([])) (ss ((One (FromBeginning (Literal o (Integer 1)))) ∷ (One (FromBeginning (Literal o (Integer 1)))) ∷ [])))) ∷ (Refers o (codes "B") ([]) (ByParts o (ss ([])) (ss ([])) (ss ((One (FromEnd o (ts ([])))) ∷ (One (FromBeginning (Literal o (Integer 1)))) ∷ [])))) ∷ []) (Referred (Refers o (codes "I") ([]) Unsubscripted))))) ∷ (inr (Labelled ((nm (codes "M")) ∷ []) (Assignment o ((Refers o (codes "N") ([]) Unsubscripted) ∷ (Refers o (codes "N") ([]) Unsubscripted) ∷ []) (And o (Called o (codes "ODD") (es ((Sum o None (Literal o (Integer 12)) (ts ((Minus, (Referred (Refers o (codes "B") ([]) (ByParts o (ss ([])) (ss ([])) (ss ((One (FromBeginning (Literal o (Integer 1)))) ∷ (One (FromBeginning (Literal o (Integer 2)))) ∷ [])))))) ∷ []))) ∷ []))) (es ((Not o (Called o (codes "XOR") (es ((Referred (Refers o (codes "N") ([]) (ByParts o (ss ([])) (ss ([])) (ss ((One (FromBeginning (Literal o (Integer 8)))) ∷ []))))) ∷ (Referred (Refers o (codes "N") ([]) (ByParts o (ss ([])) (ss ([])) (ss ((Portion (Literal o (Integer 1)) (FromBeginning (Literal o (Integer 10)))) ∷ []))))) ∷ [])))) ∷ [])))))) ∷ (inr (Labelled ([]) (DoFor o true (nm (codes "X2")) (Stepped (Literal o (Integer 7)) (Literal o (Integer 3)) None) None (Groups (st ((Labelled ([]) (Assignment o ((Refers o (codes "B") ([]) (ByParts o (ss ([])) (ss ([])) (ss ((One (FromBeginning (Literal o (Integer 1)))) ∷ (One (FromBeginning (Referred (Refers o (codes "X2") ([]) Unsubscripted)))) ∷ [])))) ∷ []) (Power o (Literal o (Integer 100)) (Literal o (Integer 3))))) ∷ [])) None)))) ∷ (inr (Labelled ((nm (codes "L")) ∷ []) (DoCase o (Literal o (Integer 100)) (Otherwise (Labelled ([]) (Write o (Literal o (Integer 31)) (es ((Called o (codes "SHR") (es ((Referred (Refers o (codes "I2") ([]) Unsubscripted)) ∷ (Literal o (Integer 0)) ∷ []))) ∷ []))))) (Groups (st ((Labelled ([]) (Read o (Literal o (Integer 5)) ((Refers o (codes "N") ([]) Unsubscripted) ∷ (Refers o (codes "B") ([]) (ByParts o (ss ([])) (ss ([])) (ss ((One (FromBeginning (Sum o None (Called o (codes "MOD") (es ((Literal o (Integer 4)) ∷ (Literal o (Integer 2)) ∷ []))) (ts ((Plus, (Literal o (Integer 1))) ∷ []))))) ∷ (One (FromBeginning (Literal o (Integer 2)))) ∷ [])))) ∷ (Refers o (codes "R") ([]) Unsubscripted) ∷ []))) ∷ (Labelled ([]) (If o (Compare o (Convert o ToBits (Literal o (Integer 31))) Equal (Parenthesis o (Or o (Referred (Refers o (codes "N") ([]) Unsubscripted)) (es ((Literal o False) ∷ []))))) (Labelled ([]) (Exit o (Some (nm (codes "L"))))) NoAlternative)) ∷ [])) (Some (nm (codes "L"))))))) ∷ (inr (Labelled ([]) (Assignment o ((Refers o (codes "B") ([]) (ByParts o (ss ([])) (ss ([])) (ss ((One (FromBeginning (Literal o (Integer 2)))) ∷ (One (FromEnd o (ts ([])))) ∷ [])))) ∷ []) (Called o (codes "INDEX") (es ((Called o (codes "RJUST") (es ((Cat o (Referred (Refers o (codes "R") ([]) Unsubscripted)) (es ((Referred (Refers o (codes "R") ([]) (ByParts o (ss ([])) (ss ([])) (ss ((Portion (Literal o (Integer 2)) (FromBeginning (Literal o (Integer 1)))) ∷ []))))) ∷ []))) ∷ (Literal o (Integer 2)) ∷ []))) ∷ (Referred (Refers o (codes "R") ([]) Unsubscripted)) ∷ [])))))) ∷ (inr (Labelled ([]) (Assignment o ((Refers o (codes "I") ([]) Unsubscripted) ∷ []) (Literal o (Integer 0))))) ∷ (inr (Labelled ([]) (OnErrorStatement o (GroupErrors o o 1) (Labelled ([]) (Do o (Groups (st ((Labelled ([]) (Assignment o ((Refers o (codes "I") ([]) Unsubscripted) ∷ []) (Sum o None (Referred (Refers o (codes "I") ([]) Unsubscripted)) (ts ((Plus, (Literal o (Integer 1))) ∷ []))))) ∷ (Labelled ([]) (Write o (Literal o (Integer 6)) (es ((Literal o (Text (codes "ERROR"))) ∷ (Referred (Refers o (codes "ERRGRP") ([]) Unsubscripted)) ∷ (Referred (Refers o (codes "ERRNUM") ([]) Unsubscripted)) ∷ (Referred (Refers o (codes "I") ([]) Unsubscripted)) ∷ [])))) ∷ [])) None)))))) ∷ (inr (Labelled ([]) (If o (Compare o (Referred (Refers o (codes "I") ([]) Unsubscripted)) Less (Literal o (Integer 3))) (Labelled ([]) (Do o (Groups (st ((Labelled ([]) (Write o (Literal o (Integer 6)) (es ((Referred (Refers o (codes "R") ([]) (ByParts o (ss ([])) (ss ([])) (ss ((Range (FromBeginning (Literal o (Integer 0))) (FromBeginning (Literal o (Integer 2)))) ∷ []))))) ∷ [])))) ∷ [])) None))) NoAlternative))) ∷ (inr (Labelled ([]) (Write o (Literal o (Integer 31)) (es ((Sum o None (Literal o (Integer 2)) (ts ((Minus, (Referred (Refers o (codes "B") ([]) (ByParts o (ss ([])) (ss ([])) (ss ((One (FromBeginning (Literal o (Integer 1)))) ∷ (One (FromBeginning (Literal o (Integer 3)))) ∷ [])))))) ∷ (Plus, (Literal o (Integer 2147483647))) ∷ []))) ∷ (Literal o (Text (codes " PAD "))) ∷ (Parenthesis o (Cat o (Referred (Refers o (codes "R") ([]) Unsubscripted)) (es ((Literal o (Text (codes "lower"))) ∷ [])))) ∷ (Convert o ToInteger (And o (Referred (Refers o (codes "N") ([]) Unsubscripted)) (es ((Literal o (Bits 8 60)) ∷ [])))) ∷ []))))) ∷ (inr (Labelled ([]) (Write o (Literal o (Integer 6)) (es ((Referred (Refers o (codes "R") ([]) Unsubscripted)) ∷ []))))) ∷ [])) (Some (nm (codes "P"))))) ∷ [])

abbrev Says1 : Type 0
Says1 = reported 400 row1 ((line.Input 0 ((codes "40000") ∷ (codes "") ∷ (codes "IT'S") ∷ (codes "0110") ∷ (codes "") ∷ (codes "") ∷ (codes "O") ∷ (codes "NEIL") ∷ [])) ∷ (line.Run 600) ∷ []) ≡ codes "31: 0\n6: ERROR 1 4 1\n6: ERROR 1 4 2\n6: ERROR 1 4 3\n31: 2147483644  PAD  -40lower 0\n6: -40\nend P 0 closed 1\nP.B$(1,1) = 0\nP.B$(1,2) = 2\nP.B$(1,3) = 5\nP.B$(2,1) = 0\nP.B$(2,2) = 0\nP.B$(2,3) = 0\nP.R = '-40'\nP.N = 0000000000000000\nP.I = 3\nP.I2 = 0\n"

-- input 8: CALL ASSIGN, error 3:3 SYSTEM, PROCEDURE, error 3:1 IGNORE
abbrev row2 : List File
row2 = ((file_of ([]) (BlockOf (nm (codes "P")) (Program o) ((Declare o ([]) ((declared_of (nm (codes "OUT")) ((Typed (IntegerKind o)) ∷ (ConstantValues o (is ((Value (Literal o (Integer 6))) ∷ []))) ∷ [])) ∷ [])) ∷ (Structure o (nm (codes "S")) ((part_of o 1 (nm (codes "C")) ((Typed (BitKind o (Literal o (Integer 8)))) ∷ [])) ∷ (part_of o 1 (nm (codes "C2")) ((Typed (IntegerKind o)) ∷ [])) ∷ [])) ∷ (Declare o ([]) ((declared_of (nm (codes "R")) ((Typed (CharacterKind o (Literal o (Integer 6)))) ∷ [])) ∷ (declared_of (nm (codes "N")) ((Typed (BitKind o (Literal o (Integer 3)))) ∷ (InitialValues o (is ((Value (Literal o (Bits 3 5))) ∷ []))) ∷ [])) ∷ (declared_of (nm (codes "Z")) ((Typed (StructureKind o (codes "S") None)) ∷ (InitialValues o (is ((Value (Convert o ToBits (Literal o (Integer 5)))) ∷ (Value (Called o (codes "LENGTH") (es ((Literal o (Text (codes "lower"))) ∷ [])))) ∷ []))) ∷ [])) ∷ [])) ∷ (Declare o ([]) ((declared_of (nm (codes "I")) ((Typed (IntegerKind o)) ∷ [])) ∷ [])) ∷ (Declare o ([]) ((declared_of (nm (codes "I2")) ((Typed (IntegerKind o)) ∷ [])) ∷ [])) ∷ []) (el ((inl (BlockOf (nm (codes "Q")) (Procedure o ((nm (codes "A")) ∷ []) ((nm (codes "B")) ∷ (nm (codes "B2")) ∷ []) None) ((Declare o ([]) ((declared_of (nm (codes "A")) ((Typed (BitKind o (Literal o (Integer 8)))) ∷ [])) ∷ (declared_of (nm (codes "B")) ((Typed (BitKind o (Literal o (Integer 3)))) ∷ [])) ∷ [])) ∷ (Declare o ([]) ((declared_of (nm (codes "B2")) ((Typed (BitKind o (Literal o (Integer 3)))) ∷ [])) ∷ [])) ∷ []) (el ((inr (Labelled ([]) (OnErrorResponse o EveryError Ignore None))) ∷ (inr (Labelled ([]) (Read o (Literal o (Integer 5)) ((Refers o (codes "R") ([]) Unsubscripted) ∷ (Refers o (codes "R") ([]) Unsubscripted) ∷ (Refers o (codes "Z") ((nm (codes "C2")) ∷ []) Unsubscripted) ∷ [])))) ∷ [])) (Some (nm (codes "Q"))))) ∷ (inr (Labelled ([]) (Read o (Literal o (Integer 5)) ((Refers o (codes "R") ([]) Unsubscripted) ∷ (Refers o (codes "R") ([]) (ByParts o (ss ([])) (ss ([])) (ss ((Range (FromBeginning (Literal o (Integer 2))) (FromBeginning (Literal o (Integer 1)))) ∷ [])))) ∷ [])))) ∷ (inr (Labelled ((nm (codes "M")) ∷ []) (Write o (Referred (Refers o (codes "OUT") ([]) Unsubscripted)) (es ((Referred (Refers o (codes "N") ([]) Unsubscripted)) ∷ (Literal o (Bits 6 15)) ∷ (Power o (Parenthesis o (Power o (Literal o (Integer 4)) (Literal o (Integer 2)))) (Literal o (Integer 2))) ∷ []))))) ∷ (inr (Labelled ([]) (Assignment o ((Refers o (codes "Z") ((nm (codes "C")) ∷ []) (ByParts o (ss ([])) (ss ([])) (ss ((Range (FromBeginning (Literal o (Integer 7))) (FromBeginning (Literal o (Integer 8)))) ∷ [])))) ∷ (Refers o (codes "N") ([]) Unsubscripted) ∷ (Refers o (codes "N") ([]) Unsubscripted) ∷ []) (Or o (Convert o ToBits (Product o (Literal o (Integer 31)) (es ((Literal o (Integer 2)) ∷ [])))) (es ((And o (Cat o (Literal o (Bits 8 60)) (es ((Literal o Off) ∷ []))) (es ((Parenthesis o (Literal o (Bits 3 5))) ∷ []))) ∷ [])))))) ∷ (inr (Labelled ([]) (Assignment o ((Refers o (codes "Z") ((nm (codes "C")) ∷ []) Unsubscripted) ∷ (Refers o (codes "N") ([]) Unsubscripted) ∷ []) (Cat o (Parenthesis o (And o (Cat o (Referred (Refers o (codes "Z") ((nm (codes "C")) ∷ []) (ByParts o (ss ([])) (ss ([])) (ss ((Portion (Literal o (Integer 1)) (FromBeginning (Literal o (Integer 8)))) ∷ []))))) (es ((Literal o (Bits 5 19)) ∷ []))) (es ((Literal o True) ∷ [])))) (es ((Called o (codes "XOR") (es ((Referred (Refers o (codes "Z") ((nm (codes "C")) ∷ []) (ByParts o (ss ([])) (ss ([])) (ss ((Range (FromBeginning (Literal o (Integer 7))) (FromEnd o (ts ([])))) ∷ []))))) ∷ (Parenthesis o (Referred (Refers o (codes "N") ([]) (ByParts o (ss ([])) (ss ([])) (ss ((Portion (Literal o (Integer 2)) (FromBeginning (Literal o (Integer 1)))) ∷ [])))))) ∷ []))) ∷ [])))))) ∷ (inr (Labelled ([]) (Assignment o ((Refers o (codes "N") ([]) Unsubscripted) ∷ []) (Convert o ToBits (Called o (codes "DIV") (es ((Product o (Referred (Refers o (codes "I2") ([]) Unsubscripted)) (es ((Literal o (Integer 7)) ∷ []))) ∷ (Literal o (Integer 255)) ∷ []))))))) ∷ (inr (Labelled ([]) (Read o (Literal o (Integer 5)) ((Refers o (codes "Z") ((nm (codes "C2")) ∷ []) Unsubscripted) ∷ (Refers o (codes "Z") ((nm (codes "C2")) ∷ []) Unsubscripted) ∷ [])))) ∷ (inr (Labelled ([]) (Read o (Literal o (Integer 5)) ((Refers o (codes "Z") ((nm (codes "C2")) ∷ []) Unsubscripted) ∷ (Refers o (codes "R") ([]) Unsubscripted) ∷ [])))) ∷ (inr (Labelled ([]) (Call o (nm (codes "Q")) (es ((Or o (Referred (Refers o (codes "N") ([]) Unsubscripted)) (es ((Referred (Refers o (codes "N") ([]) (ByParts o (ss ([])) (ss ([])) (ss ((Portion (Literal o (Integer 3)) (FromBeginning (Literal o (Integer 1)))) ∷ []))))) ∷ []))) ∷ [])) ((Refers o (codes "N") ([]) Unsubscripted) ∷ (Refers o (codes "N") ([]) Unsubscripted) ∷ [])))) ∷ (inr (Labelled ([]) (Write o (Literal o (Integer 6)) (es ((Referred (Refers o (codes "ERRGRP") ([]) Unsubscripted)) ∷ (Referred (Refers o (codes "ERRNUM") ([]) Unsubscripted)) ∷ []))))) ∷ (inr (Labelled ([]) (Assignment o ((Refers o (codes "R") ([]) Unsubscripted) ∷ (Refers o (codes "R") ([]) Unsubscripted) ∷ []) (Called o (codes "TRIM") (es ((Called o (codes "TRIM") (es ((Called o (codes "TRIM") (es ((Referred (Refers o (codes "R") ([]) Unsubscripted)) ∷ []))) ∷ []))) ∷ [])))))) ∷ (inr (Labelled ([]) (Assignment o ((Refers o (codes "Z") ((nm (codes "C2")) ∷ []) Unsubscripted) ∷ []) (Product o (Called o (codes "INDEX") (es ((Called o (codes "RJUST") (es ((Literal o (Text (codes "LONGER TEXT"))) ∷ (Literal o (Integer 0)) ∷ []))) ∷ (Called o (codes "LJUST") (es ((Referred (Refers o (codes "R") ([]) Unsubscripted)) ∷ (Literal o (Integer 10)) ∷ []))) ∷ []))) (es ((Literal o (Integer 1)) ∷ [])))))) ∷ (inr (Labelled ([]) (Write o (Literal o (Integer 6)) (es ((Referred (Refers o (codes "Z") ((nm (codes "C2")) ∷ []) Unsubscripted)) ∷ (Called o (codes "INDEX") (es ((Parenthesis o (Referred (Refers o (codes "R") ([]) Unsubscripted))) ∷ (Called o (codes "LJUST") (es ((Referred (Refers o (codes "R") ([]) Unsubscripted)) ∷ (Literal o (Integer 2)) ∷ []))) ∷ []))) ∷ []))))) ∷ (inr (Labelled ([]) (Write o (Literal o (Integer 6)) (es ((Power o (Parenthesis o (Called o (codes "SIGNUM") (es ((Referred (Refers o (codes "I2") ([]) Unsubscripted)) ∷ [])))) (Literal o (Integer 2))) ∷ (Called o (codes "I2") (es ((Literal o (Integer 3)) ∷ []))) ∷ []))))) ∷ (inr (Labelled ([]) (OnErrorResponse o (OneError o o 3 o 1) Ignore None))) ∷ (inr (Labelled ([]) (Read o (Literal o (Integer 5)) ((Refers o (codes "Z") ((nm (codes "C2")) ∷ []) Unsubscripted) ∷ (Refers o (codes "Z") ((nm (codes "C2")) ∷ []) Unsubscripted) ∷ (Refers o (codes "Z") ((nm (codes "C2")) ∷ []) Unsubscripted) ∷ [])))) ∷ (inr (Labelled ([]) (Write o (Literal o (Integer 6)) (es ((Referred (Refers o (codes "ERRGRP") ([]) Unsubscripted)) ∷ (Referred (Refers o (codes "ERRNUM") ([]) Unsubscripted)) ∷ []))))) ∷ (inr (Labelled ([]) (Write o (Literal o (Integer 6)) (es ((Called o (codes "RJUST") (es ((Literal o (Text (codes "12"))) ∷ (Literal o (Integer 250)) ∷ []))) ∷ (Called o (codes "LJUST") (es ((Literal o (Text (codes "12"))) ∷ (Literal o (Integer 251)) ∷ []))) ∷ (Called o (codes "RJUST") (es ((Literal o (Text (codes "IT'S"))) ∷ (Literal o (Integer 255)) ∷ []))) ∷ (Called o (codes "RJUST") (es ((Literal o (Text (codes "AB"))) ∷ (Literal o (Integer 251)) ∷ []))) ∷ []))))) ∷ (inr (Labelled ([]) (Write o (Literal o (Integer 6)) (es ((Referred (Refers o (codes "Z") ((nm (codes "C2")) ∷ []) Unsubscripted)) ∷ (Referred (Refers o (codes "Z") ((nm (codes "C")) ∷ []) Unsubscripted)) ∷ (Referred (Refers o (codes "I2") ([]) Unsubscripted)) ∷ []))))) ∷ [])) (Some (nm (codes "P"))))) ∷ [])

abbrev Says2 : Type 0
Says2 = reported 400 row2 ((line.Input 5 ((codes "+5") ∷ (codes "99999999999") ∷ (codes "7") ∷ (codes "+5") ∷ (codes "+5") ∷ (codes "3") ∷ (codes "+5") ∷ (codes "3") ∷ (codes "1") ∷ [])) ∷ (line.Input 0 ((codes "101") ∷ (codes "XYZ") ∷ (codes "O") ∷ (codes "NEIL") ∷ [])) ∷ (line.Run 7) ∷ (line.Tick 1000) ∷ (line.Run 600) ∷ []) ≡ codes "6: 101 001111 256\n6: 0 0\n6: 0 0\n6: 0 0\n6: 3 1\nend P 1000 error 3:3 0\nP.R = '3'\nP.N = 000\nP.Z.C = 00000101\nP.Z.C2 = 0\nP.I = 0\nP.I2 = 0\n"

-- input 21: EXIT, EXIT label, DO CASE ELSE, operation =
abbrev row3 : List File
row3 = ((file_of ([]) (BlockOf (nm (codes "P")) (Program o) ((Declare o ([]) ((declared_of (nm (codes "OUT")) ((Typed (IntegerKind o)) ∷ (ConstantValues o (is ((Value (Literal o (Integer 6))) ∷ []))) ∷ [])) ∷ [])) ∷ (Declare o ((Typed (IntegerKind o)) ∷ []) ((declared_of (nm (codes "R")) ((InitialValues o (is ((Value (Literal o (Integer 100))) ∷ []))) ∷ [])) ∷ [])) ∷ (Declare o ([]) ((declared_of (nm (codes "N")) ((Typed (BitKind o (Literal o (Integer 8)))) ∷ (InitialValues o (is ((Value (Literal o True)) ∷ []))) ∷ [])) ∷ (declared_of (nm (codes "R2")) ((Typed (CharacterKind o (Literal o (Integer 6)))) ∷ [])) ∷ [])) ∷ (Declare o ([]) ((declared_of (nm (codes "I")) ((Typed (IntegerKind o)) ∷ [])) ∷ [])) ∷ (Declare o ([]) ((declared_of (nm (codes "I2")) ((Typed (IntegerKind o)) ∷ [])) ∷ [])) ∷ []) (el ((inr (Labelled ([]) (OnErrorResponse o (OneError o o 1 o 7) System None))) ∷ (inr (Labelled ([]) (Write o (Literal o (Integer 6)) (es ((Referred (Refers o (codes "I2") ([]) Unsubscripted)) ∷ (Referred (Refers o (codes "R") ([]) Unsubscripted)) ∷ (Referred (Refers o (codes "R2") ([]) Unsubscripted)) ∷ []))))) ∷ (inr (Labelled ([]) (Assignment o ((Refers o (codes "N") ([]) (ByParts o (ss ([])) (ss ([])) (ss ((Portion (Literal o (Integer 1)) (FromBeginning (Sum o None (Called o (codes "MOD") (es ((Referred (Refers o (codes "R") ([]) Unsubscripted)) ∷ (Literal o (Integer 8)) ∷ []))) (ts ((Plus, (Literal o (Integer 1))) ∷ []))))) ∷ [])))) ∷ []) (Called o (codes "XOR") (es ((Cat o (Referred (Refers o (codes "N") ([]) Unsubscripted)) (es ((Called o (codes "XOR") (es ((Referred (Refers o (codes "N") ([]) (ByParts o (ss ([])) (ss ([])) (ss ((One (FromBeginning (Literal o (Integer 3)))) ∷ []))))) ∷ (Literal o (Bits 7 100)) ∷ []))) ∷ []))) ∷ (Or o (Cat o (Literal o (Bits 3 5)) (es ((Referred (Refers o (codes "N") ([]) Unsubscripted)) ∷ []))) (es ((Convert o ToBits (Literal o (Integer 2))) ∷ []))) ∷ [])))))) ∷ (inr (Labelled ([]) (Assignment o ((Refers o (codes "R2") ([]) Unsubscripted) ∷ []) (Referred (Refers o (codes "R2") ([]) Unsubscripted))))) ∷ (inr (Labelled ([]) (Write o (Literal o (Integer 6)) (es ((Referred (Refers o (codes "ERRGRP") ([]) Unsubscripted)) ∷ (Referred (Refers o (codes "ERRNUM") ([]) Unsubscripted)) ∷ []))))) ∷ (inr (Labelled ([]) (Assignment o ((Refers o (codes "R") ([]) Unsubscripted) ∷ (Refers o (codes "R") ([]) Unsubscripted) ∷ (Refers o (codes "R") ([]) Unsubscripted) ∷ []) (Called o (codes "R") (es ((Literal o (Integer 3)) ∷ [])))))) ∷ (inr (Labelled ([]) (Read o (Literal o (Integer 0)) ((Refers o (codes "R2") ([]) Unsubscripted) ∷ (Refers o (codes "R") ([]) Unsubscripted) ∷ [])))) ∷ (inr (Labelled ((nm (codes "L")) ∷ []) (Do o (Groups (st ((Labelled ([]) (DoCase o (Literal o (Integer 1000)) (Otherwise (Labelled ([]) (Write o (Referred (Refers o (codes "OUT") ([]) Unsubscripted)) (es ((Cat o (Parenthesis o (And o (Referred (Refers o (codes "N") ([]) Unsubscripted)) (es ((Literal o (Bits 4 6)) ∷ [])))) (es ((Referred (Refers o (codes "N") ([]) Unsubscripted)) ∷ []))) ∷ (Convert o ToText (Referred (Refers o (codes "N") ([]) (ByParts o (ss ([])) (ss ([])) (ss ((One (FromBeginning (Literal o (Integer 8)))) ∷ [])))))) ∷ []))))) (Groups (st ((Labelled ((nm (codes "M")) ∷ []) (If o (And o (Compare o (Referred (Refers o (codes "I2") ([]) Unsubscripted)) AtLeast (Referred (Refers o (codes "I2") ([]) Unsubscripted))) (es ((Compare o (Literal o (Text (codes "A"))) Equal (Referred (Refers o (codes "R2") ([]) Unsubscripted))) ∷ []))) (Labelled ([]) (Exit o (Some (nm (codes "L"))))) NoAlternative)) ∷ [])) None))) ∷ [])) None)))) ∷ (inr (Labelled ([]) (DoCase o (Literal o (Integer 1000)) (Otherwise (Labelled ([]) (Assignment o ((Refers o (codes "N") ([]) Unsubscripted) ∷ []) (And o (Convert o ToBits (Referred (Refers o (codes "R") ([]) Unsubscripted))) (es ((Not o (Parenthesis o (Or o (Literal o (Bits 6 15)) (es ((Referred (Refers o (codes "N") ([]) Unsubscripted)) ∷ []))))) ∷ [])))))) (Groups (st ((Labelled ([]) (Assignment o ((Refers o (codes "R2") ([]) Unsubscripted) ∷ []) (Cat o (Called o (codes "RJUST") (es ((Convert o ToText (Literal o (Text (codes "IT'S")))) ∷ (Literal o (Integer 0)) ∷ []))) (es ((Parenthesis o (Convert o ToText (Referred (Refers o (codes "I") ([]) Unsubscripted)))) ∷ []))))) ∷ (Labelled ([]) (If o (Compare o (Sum o None (Literal o (Integer 31)) (ts ((Minus, (Literal o (Integer 5))) ∷ []))) Less (Sum o None (Literal o (Integer 4)) (ts ((Minus, (Literal o (Integer 1))) ∷ [])))) (Labelled ([]) (Exit o None)) NoAlternative)) ∷ (Labelled ([]) (Write o (Literal o (Integer 6)) (es ((Sum o None (Called o (codes "ABS") (es ((Literal o (Integer 4)) ∷ []))) (ts ((Plus, (Literal o (Integer 4))) ∷ []))) ∷ (Not o (Called o (codes "ODD") (es ((Referred (Refers o (codes "R") ([]) Unsubscripted)) ∷ [])))) ∷ [])))) ∷ [])) None)))) ∷ [])) (Some (nm (codes "P"))))) ∷ [])

abbrev Says3 : Type 0
Says3 = reported 400 row3 ((line.Input 0 ((codes "0") ∷ (codes "-12") ∷ (codes "40000") ∷ (codes "7") ∷ (codes "0110") ∷ (codes "O") ∷ (codes "NEIL") ∷ (codes "XYZ") ∷ [])) ∷ (line.Input 0 ((codes "40000") ∷ (codes "40000") ∷ (codes "40000") ∷ (codes "101") ∷ (codes "101") ∷ (codes "40000") ∷ [])) ∷ (line.Run 600) ∷ []) ≡ codes "6: 0 100 \n6: 0 0\n6: 0000000000001001 1\nend P 0 closed 1\nP.R = -12\nP.N = 11110000\nP.R2 = '0'\nP.I = 0\nP.I2 = 0\n"

-- input 46: text component at, SHL, ON ERROR SYSTEM, DIV
abbrev row4 : List File
row4 = ((file_of ([]) (BlockOf (nm (codes "P")) (Program o) ((Declare o ([]) ((declared_of (nm (codes "N")) ((Typed (BitKind o (Literal o (Integer 32)))) ∷ (InitialValues o (is ((Value (Literal o (Bits 4 15))) ∷ []))) ∷ [])) ∷ [])) ∷ (Declare o ([]) ((declared_of (nm (codes "R2")) ((Typed (CharacterKind o (Literal o (Integer 6)))) ∷ [])) ∷ [])) ∷ (Declare o ([]) ((declared_of (nm (codes "R")) ((Typed (IntegerKind o)) ∷ (InitialValues o (is ((Value (Called o (codes "LENGTH") (es ((Literal o (Text (codes "XYZ"))) ∷ [])))) ∷ []))) ∷ [])) ∷ [])) ∷ (Declare o ([]) ((declared_of (nm (codes "I")) ((Typed (IntegerKind o)) ∷ [])) ∷ [])) ∷ (Declare o ([]) ((declared_of (nm (codes "I2")) ((Typed (IntegerKind o)) ∷ [])) ∷ [])) ∷ []) (el ((inr (Labelled ([]) (OnErrorResponse o (OneError o o 3 o 2) System None))) ∷ (inr (Labelled ([]) (Assignment o ((Refers o (codes "N") ([]) Unsubscripted) ∷ (Refers o (codes "N") ([]) Unsubscripted) ∷ []) (Cat o (Referred (Refers o (codes "N") ([]) Unsubscripted)) (es ((Referred (Refers o (codes "N") ([]) Unsubscripted)) ∷ [])))))) ∷ (inr (Labelled ([]) (Assignment o ((Refers o (codes "R") ([]) Unsubscripted) ∷ (Refers o (codes "R") ([]) Unsubscripted) ∷ []) (Literal o (Integer 10))))) ∷ (inr (Labelled ([]) (OnErrorResponse o (GroupErrors o o 3) System None))) ∷ (inr (Labelled ([]) (Assignment o ((Refers o (codes "R2") ([]) Unsubscripted) ∷ (Refers o (codes "R2") ([]) Unsubscripted) ∷ []) (Referred (Refers o (codes "R2") ([]) Unsubscripted))))) ∷ (inr (Labelled ([]) (Write o (Literal o (Integer 6)) (es ((Referred (Refers o (codes "N") ([]) Unsubscripted)) ∷ []))))) ∷ (inr (Labelled ([]) (Assignment o ((Refers o (codes "R2") ([]) Unsubscripted) ∷ []) (Convert o ToText (Power o (Parenthesis o (Called o (codes "INDEX") (es ((Referred (Refers o (codes "R2") ([]) Unsubscripted)) ∷ (Referred (Refers o (codes "R2") ([]) Unsubscripted)) ∷ [])))) (Literal o (Integer 3))))))) ∷ (inr (Labelled ((nm (codes "M")) ∷ []) (Assignment o ((Refers o (codes "R2") ([]) Unsubscripted) ∷ (Refers o (codes "R2") ([]) Unsubscripted) ∷ (Refers o (codes "R2") ([]) Unsubscripted) ∷ []) (Referred (Refers o (codes "ERRNUM") ([]) Unsubscripted))))) ∷ (inr (Labelled ([]) (Assignment o ((Refers o (codes "R") ([]) Unsubscripted) ∷ (Refers o (codes "R") ([]) Unsubscripted) ∷ []) (Convert o ToInteger (Or o (Convert o ToBits (Literal o (Integer 100))) (es ((Not o (Literal o (Bits 3 5))) ∷ []))))))) ∷ (inr (Labelled ([]) (Write o (Literal o (Integer 6)) (es ((Called o (codes "DIV") (es ((Product o (Referred (Refers o (codes "I2") ([]) Unsubscripted)) (es ((Literal o (Integer 32768)) ∷ []))) ∷ (Literal o (Integer 7)) ∷ []))) ∷ (Referred (Refers o (codes "I2") ([]) Unsubscripted)) ∷ []))))) ∷ (inr (Labelled ([]) (Assignment o ((Refers o (codes "R2") ([]) Unsubscripted) ∷ []) (Cat o (Called o (codes "LJUST") (es ((Referred (Refers o (codes "R2") ([]) Unsubscripted)) ∷ (Literal o (Integer 5)) ∷ []))) (es ((Convert o ToText (And o (Referred (Refers o (codes "N") ([]) Unsubscripted)) (es ((Referred (Refers o (codes "N") ([]) Unsubscripted)) ∷ [])))) ∷ [])))))) ∷ (inr (Labelled ([]) (Write o (Literal o (Integer 31)) (es ((Cat o (Literal o (Text (codes "LONGER TEXT"))) (es ((Parenthesis o (Literal o (Text (codes "IT'S")))) ∷ []))) ∷ (Called o (codes "SHR") (es ((Called o (codes "SHL") (es ((Referred (Refers o (codes "I2") ([]) Unsubscripted)) ∷ (Literal o (Integer 0)) ∷ []))) ∷ (Literal o (Integer 7)) ∷ []))) ∷ []))))) ∷ (inr (Labelled ([]) (Assignment o ((Refers o (codes "R2") ([]) (ByParts o (ss ([])) (ss ([])) (ss ((Portion (Literal o (Integer 1)) (FromEnd o (ts ([])))) ∷ [])))) ∷ (Refers o (codes "R2") ([]) Unsubscripted) ∷ []) (Called o (codes "TRIM") (es ((Referred (Refers o (codes "R2") ([]) Unsubscripted)) ∷ [])))))) ∷ (inr (Labelled ([]) (Write o (Literal o (Integer 6)) (es ((Referred (Refers o (codes "N") ([]) Unsubscripted)) ∷ (Referred (Refers o (codes "R") ([]) Unsubscripted)) ∷ (Referred (Refers o (codes "I2") ([]) Unsubscripted)) ∷ []))))) ∷ (inr (Labelled ([]) (Assignment o ((Refers o (codes "R2") ([]) Unsubscripted) ∷ (Refers o (codes "R2") ([]) (ByInteger o o 2)) ∷ (Refers o (codes "R2") ([]) Unsubscripted) ∷ []) (Cat o (Called o (codes "RJUST") (es ((Convert o ToText (Referred (Refers o (codes "I") ([]) Unsubscripted))) ∷ (Literal o (Integer 0)) ∷ []))) (es ((Parenthesis o (Cat o (Literal o (Integer 1000)) (es ((Literal o (Text (codes "+05"))) ∷ (Sum o None (Literal o (Integer 1)) (ts ((Plus, (Literal o (Integer 1000))) ∷ []))) ∷ [])))) ∷ [])))))) ∷ (inr (Labelled ([]) (Write o (Literal o (Integer 6)) (es ((Called o (codes "MOD") (es ((Referred (Refers o (codes "I2") ([]) Unsubscripted)) ∷ (Literal o (Integer 1000)) ∷ []))) ∷ (Not o (Parenthesis o (And o (Referred (Refers o (codes "N") ([]) Unsubscripted)) (es ((Referred (Refers o (codes "N") ([]) Unsubscripted)) ∷ []))))) ∷ (Not o (Parenthesis o (Referred (Refers o (codes "N") ([]) Unsubscripted)))) ∷ []))))) ∷ [])) (Some (nm (codes "P"))))) ∷ [])

abbrev Says4 : Type 0
Says4 = reported 400 row4 ((line.Input 5 ((codes "40000") ∷ (codes "XYZ") ∷ (codes "O") ∷ (codes "NEIL ") ∷ (codes "A") ∷ (codes "B") ∷ (codes " 101, 99999999999,") ∷ (codes "A") ∷ (codes "B") ∷ [])) ∷ (line.Run 600) ∷ []) ≡ codes "6: 00000000000000000000000000001111\n6: 0 0\n31: LONGER TEXTIT'S 0\n6: 00000000000000000000000000001111 102 0\n6: 0 11111111111111111111111111110000 11111111111111111111111111110000\nend P 0 closed 1\nP.N = 00000000000000000000000000001111\nP.R2 = '1000+0'\nP.R = 102\nP.I = 0\nP.I2 = 0\n"

pub all_say : Says1 × Says2 × Says3 × Says4
unfolding digits words_reserved.reserved_words words_reserved.left_out_words phrases_gathereddeclarations.gathered_kind phrases_gathereddeclarations.gathered_initial phrases_gathereddeclarations.gathered_initials phrases_gathereddeclarations.gathered_attribute phrases_gathereddeclarations.gathered_item phrases_gathereddeclarations.still_open phrases_gathereddeclarations.innermost phrases_gathereddeclarations.is_bottom phrases_gathereddeclarations.gathered_part phrases_gathereddeclarations.gathered_parts phrases_gathereddeclarations.gathered_declaration phrases_gatheredexpressions.gathered phrases_gatheredexpressions.gathered_all phrases_gatheredexpressions.gathered_terms phrases_gatheredexpressions.gathered_reference phrases_gatheredexpressions.gathered_subscript phrases_gatheredexpressions.gathered_subs phrases_gatheredexpressions.gathered_sub phrases_gatheredexpressions.gathered_position phrases_gatheredstatements.gathered_guard phrases_gatheredstatements.gathered_span phrases_gatheredstatements.gathered_start phrases_gatheredstatements.gathered_cycle phrases_gatheredstatements.gathered_limit phrases_gatheredstatements.gathered_schedule phrases_gatheredstatements.begun_for phrases_gatheredstatements.around_for phrases_gatheredstatements.gathered_statement phrases_gatheredstatements.gathered_basic phrases_gatheredstatements.gathered_alternative phrases_gatheredstatements.gathered_group phrases_gatheredstatements.gathered_statements phrases_gatheredunits.gathered_returns phrases_gatheredunits.gathered_head phrases_gatheredunits.gathered_block phrases_gatheredunits.gathered_elements phrases_gatheredunits.around_template phrases_gatheredunits.gathered_template phrases_gatheredunits.gathered_preface phrases_gatheredunits.gathered_prefaces phrases_gatheredunits.name_of_block phrases_gatheredunits.gathered_file phrases_gatheredunits.phrases_of phrases_members.gathered_member phrases_members.gathered_members names_declarations.is_declaring names_declarations.with_places names_declarations.with_all_chosen names_keys.declared_at names_keys.same_space names_keys.same_key names_keys.own names_means.is_compool_unit names_means.unit_named names_means.given_by names_means.shown names_means.shown_by names_means.included names_means.included_before names_means.prefaces_of names_means.nearest names_tasks.with_homes scope_builtins.builtins scope_components.has_path scope_components.is_structure scope_components.type_has scope_components.has_component scope_components.lacks_in scope_components.lacks scope_labels.is_label_of scope_labels.misclosed scope_labels.is_loop scope_labels.group_around scope_labels.misled scope_labels.astray scope_repeated.given scope_repeated.is_of_block scope_repeated.twice scope_repeated.declares_one_there scope_repeated.declarations_of scope_repeated.included_twice scope_repeated.is_item scope_repeated.undeclared scope_rules.fault scope_rules.first_fault scope_sorts.type_in scope_sorts.type_among scope_sorts.sort_of_type scope_sorts.sort_of_head scope_sorts.sort_of scope_sorts.usage_of scope_sorts.use_of_reference scope_sorts.used scope_uses.unknown scope_uses.is_eventful scope_uses.is_nil scope_uses.refers_to_event scope_uses.holds_event scope_uses.hold_event scope_uses.limit_of scope_uses.limit_around scope_uses.misused kinds_attributes.count_of kinds_attributes.no_more kinds_attributes.sizes_in kinds_attributes.sizes_among kinds_attributes.initial_in kinds_attributes.initial_among kinds_attributes.constant_in kinds_attributes.constant_among kinds_attributes.same_mark kinds_attributes.is_mark kinds_classes.class_of_result kinds_classes.class_of_returns kinds_classes.class_of_head kinds_classes.class_of_form kinds_classes.class_of_builtin kinds_classes.class_at kinds_classes.class_of_reference kinds_classes.class_of_function kinds_classes.class_of_called_head kinds_classes.class_of_called kinds_classes.class_of_literal kinds_classes.class_of_conversion kinds_classes.beside kinds_classes.joined kinds_classes.enclosed kinds_classes.class_of kinds_classes.class_beside kinds_classes.class_joined kinds_data.class_of_type kinds_data.has_copies kinds_data.dimensions_of kinds_data.data_of kinds_data.part_data kinds_data.part_under kinds_data.data_at_part kinds_data.component_of kinds_data.component_data kinds_data.data_at kinds_data.is_event_type kinds_data.is_structure_type kinds_subscripts.subscript_count kinds_subscripts.is_many kinds_subscripts.are_many kinds_subscripts.parts_chosen kinds_subscripts.choice_of kinds_subscripts.is_structure_class constants_constants.operation_of_sign constants_constants.signed constants_constants.operation_of_conversion constants_constants.raised_to constants_constants.raised constants_constants.is_none constants_constants.factor_at constants_constants.constant_of constants_constants.folded constants_constants.summed constants_constants.computed constants_constants.computed_second constants_constants.multiplied constants_constants.referred constants_constants.subscripted constants_constants.component_of constants_constants.component_by constants_constants.place_of constants_known.size_of_integer constants_known.size_of_value constants_known.size_of constants_known.bits_kind constants_known.text_kind constants_known.kind_of constants_known.kind_of_type constants_known.gives_none constants_known.give_none constants_known.only_of constants_known.only_with constants_known.kept constants_known.fitted constants_known.only_in constants_known.declared_value constants_known.round constants_known.is_file constants_known.is_pooled constants_known.rounds constants_naming.constant_known constants_naming.constant_at constants_naming.literal_constant constants_naming.operation_of constants_operands.takes_one constants_operands.takes_two constants_operands.is_storable constants_operands.has_components constants_results.worth constants_results.worse constants_results.apply_one constants_results.apply_two constants_results.component_at constants_results.component_to constants_results.component_from constants_results.picked_one constants_results.picked_to constants_results.picked_from states_ofkinds.is_of
all_say = (refl, refl, refl, refl)
