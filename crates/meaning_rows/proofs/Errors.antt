-- Rows of errors.txt, written by tools/meaning_rows.
use Rattle.std.specs.Prelude.{◌≡◌, ℕ, List, [], ◌∷◌, Option, Some, None, true, false, codes}
use Rattle.std.specs.Fmt.{digits}
use Rattle.std.proofs.Common.{refl, inl, inr}
use Rattle.hal_grammar.specs.Leaves.{Plus, Minus, Equal, Less, Greater, AtMost, AtLeast, NotEqual, NotLess, NotGreater, ToInteger, ToBits, ToText, Integer, Text, Bits, True, False, On, Off}
use Rattle.hal_grammar.specs.Expressions.{Or, And, Compare, Cat, Sum, Product, Power, Not, Literal, Decimal, Referred, Called, Convert, Parenthesis, Refers, Unsubscripted, ByName, ByInteger, ByParts, Every, One, Range, Portion, FromBeginning, FromEnd}
use Rattle.hal_grammar.specs.Declarations.{Single, Double, Latched, Static, Automatic, Dense, Aligned, IntegerKind, BooleanKind, EventKind, BitKind, CharacterKind, StructureKind, Value, LiteralTimes, NameTimes, ListTimes, Dimensions, Typed, Marked, LockGroup, LockAny, InitialValues, ConstantValues, declared_of, part_of, Declare, Structure}
use Rattle.hal_grammar.specs.Statements.{While, Until, Stepped, Listed, EveryError, GroupErrors, OneError, Signal, Set, Reset, eventful, System, Ignore, StartAt, StartIn, StartOn, Cyclic, CyclicEvery, CyclicAfter, scheduling, Labelled, Null, Assignment, If, Do, DoCase, DoLoop, DoFor, Exit, Repeat, Return, Call, Read, Write, Update, Scheduled, Cancel, Terminate, Wait, WaitUntil, WaitForDependent, WaitFor, Event, UpdatePriority, OnErrorStatement, OnErrorResponse, OffError, SendError, NoAlternative, Otherwise, Groups}
use Rattle.hal_grammar.specs.Units.{Reentrant, Exclusive, SinglePrecision, DoublePrecision, NoKind, HasKind, Program, Compool, Task, Procedure, Function, BlockOf, template_of, Include, Templates, File, file_of}
use Rattle.exec_model.specs.declared.script.ScriptLine.TheVariants as line
use Rattle.meaning_rows.specs.Trees.{o, nm, es, ts, ss, is, st, el}
use Rattle.meaning_rows.specs.Playing.{reported}
use Rattle.hal_words.specs.Reserved as words_reserved
use Rattle.hal_phrases.specs.GatheredDeclarations as phrases_gathereddeclarations
use Rattle.hal_phrases.specs.GatheredExpressions as phrases_gatheredexpressions
use Rattle.hal_phrases.specs.GatheredStatements as phrases_gatheredstatements
use Rattle.hal_phrases.specs.GatheredUnits as phrases_gatheredunits
use Rattle.hal_phrases.specs.Members as phrases_members
use Rattle.hal_names.specs.Declarations as names_declarations
use Rattle.hal_names.specs.Keys as names_keys
use Rattle.hal_names.specs.Means as names_means
use Rattle.hal_names.specs.Tasks as names_tasks
use Rattle.hal_scope.specs.Builtins as scope_builtins
use Rattle.hal_scope.specs.Components as scope_components
use Rattle.hal_scope.specs.Labels as scope_labels
use Rattle.hal_scope.specs.Repeated as scope_repeated
use Rattle.hal_scope.specs.Rules as scope_rules
use Rattle.hal_scope.specs.Sorts as scope_sorts
use Rattle.hal_scope.specs.Uses as scope_uses
use Rattle.hal_kinds.specs.Attributes as kinds_attributes
use Rattle.hal_kinds.specs.Classes as kinds_classes
use Rattle.hal_kinds.specs.Data as kinds_data
use Rattle.hal_kinds.specs.Subscripts as kinds_subscripts
use Rattle.hal_constants.specs.Constants as constants_constants
use Rattle.hal_constants.specs.Known as constants_known
use Rattle.hal_constants.specs.Naming as constants_naming
use Rattle.hal_constants.specs.Operands as constants_operands
use Rattle.hal_constants.specs.Results as constants_results
use Rattle.hal_states.specs.OfKinds as states_ofkinds

-- errors 1: EXIT, text component at, bit component at, operation <=
abbrev row1 : List File
row1 = ((file_of ([]) (BlockOf (nm (codes "P")) (Program o) ((Declare o ([]) ((declared_of (nm (codes "K")) ((Typed (CharacterKind o (Literal o (Integer 10)))) ∷ (ConstantValues o (is ((Value (Called o (codes "LJUST") (es ((Literal o (Text (codes "XYZ"))) ∷ (Literal o (Integer 4)) ∷ [])))) ∷ []))) ∷ [])) ∷ [])) ∷ (Declare o ([]) ((declared_of (nm (codes "R")) ((Typed (IntegerKind o)) ∷ (Marked o Single) ∷ [])) ∷ [])) ∷ (Declare o ([]) ((declared_of (nm (codes "R2")) ((Typed (BitKind o (Literal o (Integer 4)))) ∷ [])) ∷ (declared_of (nm (codes "N")) ((Typed (CharacterKind o (Literal o (Integer 3)))) ∷ (InitialValues o (is ((Value (Cat o (Literal o (Text (codes "LONGER TEXT"))) (es ((Literal o (Text (codes "XYZ"))) ∷ [])))) ∷ []))) ∷ [])) ∷ [])) ∷ (Declare o ([]) ((declared_of (nm (codes "I")) ((Typed (IntegerKind o)) ∷ [])) ∷ [])) ∷ (Declare o ([]) ((declared_of (nm (codes "I2")) ((Typed (IntegerKind o)) ∷ [])) ∷ [])) ∷ []) (el ((inr (Labelled ([]) (Write o (Literal o (Integer 6)) (es ((Literal o (Integer 1)) ∷ (Referred (Refers o (codes "R2") ([]) Unsubscripted)) ∷ []))))) ∷ (inr (Labelled ([]) (Assignment o ((Refers o (codes "N") ([]) (ByParts o (ss ([])) (ss ([])) (ss ((One (FromBeginning (Literal o (Integer 1)))) ∷ [])))) ∷ (Refers o (codes "N") ([]) Unsubscripted) ∷ []) (Called o (codes "TRIM") (es ((Convert o ToText (Cat o (Referred (Refers o (codes "I") ([]) Unsubscripted)) (es ((Referred (Refers o (codes "N") ([]) (ByParts o (ss ([])) (ss ([])) (ss ((One (FromEnd o (ts ((Minus, (Literal o (Integer 1))) ∷ [])))) ∷ []))))) ∷ [])))) ∷ [])))))) ∷ (inr (Labelled ([]) (Write o (Literal o (Integer 6)) (es ((Called o (codes "ABS") (es ((Sum o None (Referred (Refers o (codes "I") ([]) Unsubscripted)) (ts ((Minus, (Referred (Refers o (codes "R") ([]) Unsubscripted))) ∷ []))) ∷ []))) ∷ (Cat o (Literal o (Text (codes "A"))) (es ((Referred (Refers o (codes "K") ([]) Unsubscripted)) ∷ (Called o (codes "TRIM") (es ((Referred (Refers o (codes "N") ([]) Unsubscripted)) ∷ []))) ∷ []))) ∷ (Convert o ToText (Parenthesis o (Referred (Refers o (codes "N") ([]) (ByParts o (ss ([])) (ss ([])) (ss ((Portion (Literal o (Integer 2)) (FromBeginning (Literal o (Integer 1)))) ∷ []))))))) ∷ (Sum o (Some Minus) (Referred (Refers o (codes "I2") ([]) Unsubscripted)) (ts ([]))) ∷ []))))) ∷ (inr (Labelled ([]) (Assignment o ((Refers o (codes "N") ([]) Unsubscripted) ∷ []) (Called o (codes "LJUST") (es ((Cat o (Called o (codes "RJUST") (es ((Referred (Refers o (codes "N") ([]) Unsubscripted)) ∷ (Literal o (Integer 5)) ∷ []))) (es ((Parenthesis o (Cat o (Referred (Refers o (codes "N") ([]) Unsubscripted)) (es ((Parenthesis o (Sum o None (Called o (codes "ABS") (es ((Referred (Refers o (codes "R") ([]) Unsubscripted)) ∷ []))) (ts ((Minus, (Literal o (Integer 1))) ∷ [])))) ∷ [])))) ∷ []))) ∷ (Literal o (Integer 0)) ∷ [])))))) ∷ (inr (Labelled ([]) (Write o (Literal o (Integer 6)) (es ((Referred (Refers o (codes "ERRGRP") ([]) Unsubscripted)) ∷ (Referred (Refers o (codes "ERRNUM") ([]) Unsubscripted)) ∷ []))))) ∷ (inr (Labelled ([]) (Assignment o ((Refers o (codes "R2") ([]) (ByParts o (ss ([])) (ss ([])) (ss ((Portion (Literal o (Integer 2)) (FromBeginning (Literal o (Integer 1)))) ∷ [])))) ∷ (Refers o (codes "R2") ([]) Unsubscripted) ∷ []) (And o (Convert o ToBits (Referred (Refers o (codes "ERRNUM") ([]) Unsubscripted))) (es ((Referred (Refers o (codes "R2") ([]) Unsubscripted)) ∷ [])))))) ∷ (inr (Labelled ([]) (Assignment o ((Refers o (codes "R") ([]) Unsubscripted) ∷ (Refers o (codes "R") ([]) Unsubscripted) ∷ (Refers o (codes "R") ([]) Unsubscripted) ∷ []) (Parenthesis o (Sum o None (Called o (codes "ABS") (es ((Referred (Refers o (codes "R") ([]) Unsubscripted)) ∷ []))) (ts ((Minus, (Literal o (Integer 1))) ∷ []))))))) ∷ (inr (Labelled ([]) (Do o (Groups (st ((Labelled ([]) (OnErrorResponse o (GroupErrors o o 7) Ignore None)) ∷ (Labelled ([]) (Assignment o ((Refers o (codes "R") ([]) Unsubscripted) ∷ (Refers o (codes "R") ([]) Unsubscripted) ∷ (Refers o (codes "R") ([]) Unsubscripted) ∷ []) (Referred (Refers o (codes "I2") ([]) Unsubscripted)))) ∷ [])) None)))) ∷ (inr (Labelled ([]) (Do o (Groups (st ((Labelled ([]) (Assignment o ((Refers o (codes "R2") ([]) (ByParts o (ss ([])) (ss ([])) (ss ((Portion (Literal o (Integer 1)) (FromBeginning (Sum o None (Called o (codes "MOD") (es ((Literal o (Integer 31)) ∷ (Literal o (Integer 4)) ∷ []))) (ts ((Plus, (Literal o (Integer 1))) ∷ []))))) ∷ [])))) ∷ (Refers o (codes "R2") ([]) Unsubscripted) ∷ (Refers o (codes "R2") ([]) Unsubscripted) ∷ []) (Referred (Refers o (codes "R2") ([]) Unsubscripted)))) ∷ (Labelled ([]) (Assignment o ((Refers o (codes "R") ([]) Unsubscripted) ∷ (Refers o (codes "R") ([]) Unsubscripted) ∷ []) (Called o (codes "LENGTH") (es ((Cat o (Product o (Literal o (Integer 4)) (es ((Referred (Refers o (codes "R") ([]) Unsubscripted)) ∷ []))) (es ((Called o (codes "TRIM") (es ((Referred (Refers o (codes "N") ([]) Unsubscripted)) ∷ []))) ∷ []))) ∷ []))))) ∷ (Labelled ([]) (If o (And o (Parenthesis o (Compare o (Parenthesis o (Sum o None (Called o (codes "ABS") (es ((Referred (Refers o (codes "R") ([]) Unsubscripted)) ∷ []))) (ts ((Minus, (Literal o (Integer 1))) ∷ [])))) NotGreater (Literal o (Integer 2)))) (es ((Parenthesis o (Compare o (Referred (Refers o (codes "R2") ([]) Unsubscripted)) NotEqual (Literal o (Bits 5 19)))) ∷ []))) (Labelled ([]) (Exit o None)) NoAlternative)) ∷ [])) None)))) ∷ [])) (Some (nm (codes "P"))))) ∷ [])

abbrev Says1 : Type 0
Says1 = reported 400 row1 ((line.Run 600) ∷ []) ≡ codes "6: 1 0000\n6: 0 AXYZ 0O 0O 0\n6: 0 0\nend P 0 closed 1\nP.R = 1\nP.R2 = 0000\nP.N = ''\nP.I = 0\nP.I2 = 0\n"

-- errors 6: DO UNTIL, error 1:1 IGNORE, error 1:2 IGNORE, DO FOR TO
abbrev row2 : List File
row2 = ((file_of ([]) (BlockOf (nm (codes "P")) (Program o) ((Declare o ([]) ((declared_of (nm (codes "K")) ((Typed (CharacterKind o (Literal o (Integer 3)))) ∷ (ConstantValues o (is ((Value (Called o (codes "LJUST") (es ((Literal o (Text (codes "XYZ"))) ∷ (Literal o (Integer 4)) ∷ [])))) ∷ []))) ∷ [])) ∷ [])) ∷ (Structure o (nm (codes "S")) ((part_of o 1 (nm (codes "C")) ((Typed (CharacterKind o (Literal o (Integer 1)))) ∷ [])) ∷ (part_of o 1 (nm (codes "C2")) ((Dimensions o (es ((Literal o (Integer 3)) ∷ []))) ∷ (Typed (BitKind o (Literal o (Integer 8)))) ∷ [])) ∷ [])) ∷ (Declare o ([]) ((declared_of (nm (codes "Z")) ((Typed (StructureKind o (codes "S") (Some (Literal o (Integer 2))))) ∷ [])) ∷ [])) ∷ (Declare o ([]) ((declared_of (nm (codes "N")) ((Typed (IntegerKind o)) ∷ (InitialValues o (is ((Value (Literal o (Integer 255))) ∷ []))) ∷ [])) ∷ [])) ∷ (Declare o ([]) ((declared_of (nm (codes "B")) ((Typed (IntegerKind o)) ∷ (Marked o Double) ∷ [])) ∷ [])) ∷ (Declare o ([]) ((declared_of (nm (codes "I")) ((Typed (IntegerKind o)) ∷ [])) ∷ [])) ∷ (Declare o ([]) ((declared_of (nm (codes "I2")) ((Typed (IntegerKind o)) ∷ [])) ∷ [])) ∷ []) (el ((inr (Labelled ([]) (OnErrorResponse o (GroupErrors o o 1) Ignore None))) ∷ (inr (Labelled ([]) (Assignment o ((Refers o (codes "Z") ((nm (codes "C")) ∷ []) (ByParts o (ss ((One (FromBeginning (Literal o (Integer 1)))) ∷ [])) (ss ([])) (ss ((Portion (Literal o (Integer 2)) (FromBeginning (Literal o (Integer 1)))) ∷ [])))) ∷ []) (Product o (Called o (codes "DIV") (es ((Referred (Refers o (codes "I") ([]) Unsubscripted)) ∷ (Literal o (Integer 1)) ∷ []))) (es ((Literal o (Integer 12)) ∷ [])))))) ∷ (inr (Labelled ([]) (Assignment o ((Refers o (codes "I2") ([]) Unsubscripted) ∷ []) (Literal o (Integer 0))))) ∷ (inr (Labelled ([]) (DoLoop o (Until o (Compare o (Referred (Refers o (codes "I2") ([]) Unsubscripted)) AtLeast (Literal o (Integer 2)))) (Groups (st ((Labelled ([]) (Assignment o ((Refers o (codes "I2") ([]) Unsubscripted) ∷ []) (Sum o None (Referred (Refers o (codes "I2") ([]) Unsubscripted)) (ts ((Plus, (Literal o (Integer 1))) ∷ []))))) ∷ (Labelled ([]) (Write o (Literal o (Integer 6)) (es ((Cat o (Parenthesis o (And o (Literal o True) (es ((Literal o False) ∷ [])))) (es ((Literal o True) ∷ []))) ∷ (Referred (Refers o (codes "K") ([]) Unsubscripted)) ∷ (Referred (Refers o (codes "Z") ((nm (codes "C2")) ∷ []) (ByParts o (ss ((One (FromBeginning (Literal o (Integer 2)))) ∷ [])) (ss ([])) (ss ((One (FromBeginning (Literal o (Integer 3)))) ∷ []))))) ∷ [])))) ∷ [])) None)))) ∷ (inr (Labelled ((nm (codes "L")) ∷ []) (DoFor o false (nm (codes "N")) (Stepped (Literal o (Integer 0)) (Literal o (Integer 2)) None) None (Groups (st ((Labelled ([]) (OnErrorResponse o (GroupErrors o o 1) Ignore None)) ∷ [])) (Some (nm (codes "L"))))))) ∷ (inr (Labelled ([]) (Assignment o ((Refers o (codes "Z") ((nm (codes "C")) ∷ []) (ByParts o (ss ((One (FromBeginning (Called o (codes "N") (es ((Literal o (Integer 2147483647)) ∷ []))))) ∷ [])) (ss ([])) (ss ([])))) ∷ []) (Sum o None (Literal o (Integer 1)) (ts ((Minus, (Literal o (Integer 2147483647))) ∷ (Minus, (Literal o (Integer 1))) ∷ [])))))) ∷ (inr (Labelled ([]) (Assignment o ((Refers o (codes "B") ([]) Unsubscripted) ∷ (Refers o (codes "B") ([]) Unsubscripted) ∷ (Refers o (codes "B") ([]) Unsubscripted) ∷ []) (Called o (codes "LENGTH") (es ((Referred (Refers o (codes "Z") ((nm (codes "C")) ∷ []) (ByParts o (ss ((One (FromEnd o (ts ((Minus, (Literal o (Integer 1))) ∷ [])))) ∷ [])) (ss ([])) (ss ([]))))) ∷ [])))))) ∷ (inr (Labelled ([]) (Assignment o ((Refers o (codes "N") ([]) Unsubscripted) ∷ (Refers o (codes "B") ([]) Unsubscripted) ∷ []) (Called o (codes "DIV") (es ((Sum o None (Referred (Refers o (codes "I2") ([]) Unsubscripted)) (ts ((Plus, (Literal o (Integer 2))) ∷ (Plus, (Literal o (Integer 0))) ∷ []))) ∷ (Literal o (Integer 0)) ∷ [])))))) ∷ (inr (Labelled ([]) (OnErrorResponse o (GroupErrors o o 1) Ignore None))) ∷ (inr (Labelled ([]) (Write o (Literal o (Integer 6)) (es ((Referred (Refers o (codes "Z") ((nm (codes "C")) ∷ []) (ByParts o (ss ((One (FromBeginning (Literal o (Integer 1)))) ∷ [])) (ss ([])) (ss ([]))))) ∷ []))))) ∷ (inr (Labelled ([]) (OnErrorResponse o EveryError Ignore None))) ∷ (inr (Labelled ([]) (Assignment o ((Refers o (codes "Z") ((nm (codes "C")) ∷ []) (ByParts o (ss ((One (FromBeginning (Literal o (Integer 2)))) ∷ [])) (ss ([])) (ss ([])))) ∷ []) (Referred (Refers o (codes "Z") ((nm (codes "C")) ∷ []) (ByParts o (ss ((One (FromBeginning (Literal o (Integer 1)))) ∷ [])) (ss ([])) (ss ([])))))))) ∷ (inr (Labelled ([]) (Write o (Literal o (Integer 6)) (es ((Referred (Refers o (codes "I2") ([]) Unsubscripted)) ∷ (Referred (Refers o (codes "I2") ([]) Unsubscripted)) ∷ []))))) ∷ (inl (BlockOf (nm (codes "F")) (Function o ((nm (codes "A")) ∷ []) (HasKind (CharacterKind o (Literal o (Integer 5))) None) None) ((Declare o ([]) ((declared_of (nm (codes "A")) ((Typed (BitKind o (Literal o (Integer 3)))) ∷ [])) ∷ [])) ∷ (Declare o ([]) ((declared_of (nm (codes "J")) ((Typed (IntegerKind o)) ∷ (Marked o Automatic) ∷ [])) ∷ [])) ∷ []) (el ((inr (Labelled ([]) (Assignment o ((Refers o (codes "Z") ((nm (codes "C")) ∷ []) (ByParts o (ss ((One (FromBeginning (Literal o (Integer 1)))) ∷ [])) (ss ([])) (ss ((One (FromEnd o (ts ((Minus, (Literal o (Integer 1))) ∷ [])))) ∷ [])))) ∷ (Refers o (codes "Z") ((nm (codes "C")) ∷ []) (ByParts o (ss ((One (FromBeginning (Literal o (Integer 3)))) ∷ [])) (ss ([])) (ss ((Portion (Literal o (Integer 2)) (FromBeginning (Literal o (Integer 1)))) ∷ [])))) ∷ []) (Parenthesis o (Cat o (Called o (codes "LJUST") (es ((Referred (Refers o (codes "Z") ((nm (codes "C")) ∷ []) (ByParts o (ss ((One (FromBeginning (Literal o (Integer 2)))) ∷ [])) (ss ([])) (ss ([]))))) ∷ (Literal o (Integer 8)) ∷ []))) (es ((Called o (codes "RJUST") (es ((Referred (Refers o (codes "K") ([]) Unsubscripted)) ∷ (Literal o (Integer 100)) ∷ []))) ∷ []))))))) ∷ (inr (Labelled ([]) (Return o (Some (Cat o (Parenthesis o (Referred (Refers o (codes "K") ([]) Unsubscripted))) (es ((Sum o None (Referred (Refers o (codes "J") ([]) Unsubscripted)) (ts ((Minus, (Referred (Refers o (codes "I") ([]) Unsubscripted))) ∷ []))) ∷ []))))))) ∷ [])) (Some (nm (codes "F"))))) ∷ [])) (Some (nm (codes "P"))))) ∷ [])

abbrev Says2 : Type 0
Says2 = reported 400 row2 ((line.Run 600) ∷ []) ≡ codes "6: 01 XYZ 00000000\n6: 01 XYZ 00000000\n6: \n6: 2 2\nend P 0 closed 1\nP.Z.C$(1;) = ''\nP.Z.C2$(1;1) = 00000000\nP.Z.C2$(1;2) = 00000000\nP.Z.C2$(1;3) = 00000000\nP.Z.C$(2;) = ''\nP.Z.C2$(2;1) = 00000000\nP.Z.C2$(2;2) = 00000000\nP.Z.C2$(2;3) = 00000000\nP.N = 0\nP.B = 0\nP.I = 0\nP.I2 = 2\n"

-- errors 18: DO FOR TEMPORARY list, error 1:2 SYSTEM, DO FOR UNTIL, n#value
abbrev row3 : List File
row3 = ((file_of ([]) (BlockOf (nm (codes "P")) (Program o) ((Structure o (nm (codes "S")) ((part_of o 1 (nm (codes "C")) ((Typed (CharacterKind o (Literal o (Integer 10)))) ∷ [])) ∷ (part_of o 1 (nm (codes "C2")) ((Dimensions o (es ((Literal o (Integer 2)) ∷ (Literal o (Integer 2)) ∷ []))) ∷ (Typed (BitKind o (Literal o (Integer 8)))) ∷ [])) ∷ [])) ∷ (Declare o ([]) ((declared_of (nm (codes "R")) ((Typed (IntegerKind o)) ∷ (InitialValues o (is ((Value (Power o (Literal o (Integer 2)) (Literal o (Integer 3)))) ∷ []))) ∷ [])) ∷ (declared_of (nm (codes "T")) ((Typed (BitKind o (Literal o (Integer 5)))) ∷ [])) ∷ [])) ∷ (Declare o ([]) ((declared_of (nm (codes "Z")) ((Typed (StructureKind o (codes "S") (Some (Literal o (Integer 2))))) ∷ (InitialValues o (is ((ListTimes o 2 (is ((Value (Cat o (Literal o (Text (codes "LONGER TEXT"))) (es ((Literal o (Text (codes "AB"))) ∷ [])))) ∷ (Value (Not o (Literal o (Bits 4 15)))) ∷ (Value (Or o (Literal o (Bits 3 5)) (es ((Literal o (Bits 4 6)) ∷ [])))) ∷ (Value (Not o (Literal o (Bits 4 15)))) ∷ (Value (Literal o Off)) ∷ []))) ∷ []))) ∷ [])) ∷ (declared_of (nm (codes "N")) ((Typed (CharacterKind o (Literal o (Integer 10)))) ∷ (InitialValues o (is ((Value (Convert o ToText (Literal o (Integer 7)))) ∷ []))) ∷ [])) ∷ [])) ∷ (Declare o ([]) ((declared_of (nm (codes "B")) ((Dimensions o (es ((Literal o (Integer 2)) ∷ (Literal o (Integer 3)) ∷ []))) ∷ (Typed (CharacterKind o (Literal o (Integer 6)))) ∷ (InitialValues o (is ((Value (Literal o (Text (codes "AB")))) ∷ (LiteralTimes o 5 None o (Text (codes "+05"))) ∷ []))) ∷ [])) ∷ [])) ∷ (Declare o ([]) ((declared_of (nm (codes "I")) ((Typed (IntegerKind o)) ∷ [])) ∷ [])) ∷ (Declare o ([]) ((declared_of (nm (codes "I2")) ((Typed (IntegerKind o)) ∷ [])) ∷ [])) ∷ []) (el ((inl (BlockOf (nm (codes "F")) (Function o ((nm (codes "A")) ∷ (nm (codes "A2")) ∷ []) (HasKind (BooleanKind o) None) None) ((Declare o ([]) ((declared_of (nm (codes "A")) ((Typed (IntegerKind o)) ∷ (Marked o Double) ∷ [])) ∷ (declared_of (nm (codes "A2")) ((Typed (IntegerKind o)) ∷ [])) ∷ [])) ∷ (Declare o ([]) ((declared_of (nm (codes "V")) ((Dimensions o (es ((Literal o (Integer 2)) ∷ []))) ∷ (Typed (IntegerKind o)) ∷ (Marked o Double) ∷ [])) ∷ [])) ∷ []) (el ((inr (Labelled ([]) (OnErrorStatement o (GroupErrors o o 7) (Labelled ([]) (Assignment o ((Refers o (codes "R") ([]) Unsubscripted) ∷ (Refers o (codes "R") ([]) Unsubscripted) ∷ (Refers o (codes "V") ([]) (ByParts o (ss ([])) (ss ([])) (ss ((One (FromEnd o (ts ([])))) ∷ [])))) ∷ []) (Referred (Refers o (codes "I2") ([]) Unsubscripted))))))) ∷ (inr (Labelled ([]) (Return o (Some (Not o (Not o (Referred (Refers o (codes "T") ([]) (ByParts o (ss ([])) (ss ([])) (ss ((Range (FromBeginning (Literal o (Integer 1))) (FromEnd o (ts ([])))) ∷ []))))))))))) ∷ [])) (Some (nm (codes "F"))))) ∷ (inr (Labelled ([]) (Write o (Literal o (Integer 0)) (es ((Cat o (Referred (Refers o (codes "I") ([]) Unsubscripted)) (es ((Literal o (Text (codes "lower"))) ∷ (Parenthesis o (Cat o (Referred (Refers o (codes "R") ([]) Unsubscripted)) (es ((Literal o (Text (codes "LONGER TEXT"))) ∷ [])))) ∷ []))) ∷ (Literal o (Integer 7)) ∷ []))))) ∷ (inr (Labelled ((nm (codes "L")) ∷ []) (DoFor o true (nm (codes "X")) (Listed (es ((Literal o (Integer 32768)) ∷ (Literal o (Integer 255)) ∷ []))) (Some (Until o (Not o (Referred (Refers o (codes "T") ([]) Unsubscripted))))) (Groups (st ((Labelled ([]) (OffError o (GroupErrors o o 3))) ∷ [])) (Some (nm (codes "L"))))))) ∷ (inr (Labelled ([]) (OnErrorResponse o (OneError o o 1 o 4) Ignore None))) ∷ (inr (Labelled ([]) (Write o (Literal o (Integer 31)) (es ((Referred (Refers o (codes "I") ([]) Unsubscripted)) ∷ (Parenthesis o (Referred (Refers o (codes "I") ([]) Unsubscripted))) ∷ []))))) ∷ (inr (Labelled ([]) (OnErrorResponse o (OneError o o 1 o 6) System None))) ∷ (inr (Labelled ((nm (codes "L2")) ∷ []) (DoFor o false (nm (codes "I2")) (Stepped (Literal o (Integer 2)) (Literal o (Integer 1)) (Some (Literal o (Integer 2)))) (Some (Until o (Compare o (Called o (codes "SIZE") (es ((Referred (Refers o (codes "B") ([]) Unsubscripted)) ∷ []))) Equal (Literal o (Integer 7))))) (Groups (st ((Labelled ([]) (Write o (Literal o (Integer 6)) (es ((Referred (Refers o (codes "N") ([]) Unsubscripted)) ∷ [])))) ∷ [])) (Some (nm (codes "L2"))))))) ∷ (inr (Labelled ([]) (OnErrorStatement o (GroupErrors o o 7) (Labelled ([]) (Assignment o ((Refers o (codes "Z") ((nm (codes "C2")) ∷ []) (ByParts o (ss ((One (FromBeginning (Literal o (Integer 1)))) ∷ [])) (ss ((One (FromBeginning (Literal o (Integer 1)))) ∷ (One (FromBeginning (Literal o (Integer 1)))) ∷ [])) (ss ((One (FromBeginning (Sum o None (Called o (codes "MOD") (es ((Referred (Refers o (codes "I") ([]) Unsubscripted)) ∷ (Literal o (Integer 8)) ∷ []))) (ts ((Plus, (Literal o (Integer 1))) ∷ []))))) ∷ [])))) ∷ []) (Not o (Called o (codes "F") (es ((Sum o (Some Plus) (Referred (Refers o (codes "I2") ([]) Unsubscripted)) (ts ([]))) ∷ (Convert o ToInteger (Literal o (Text (codes "-007")))) ∷ []))))))))) ∷ (inr (Labelled ([]) (Assignment o ((Refers o (codes "R") ([]) Unsubscripted) ∷ (Refers o (codes "R") ([]) Unsubscripted) ∷ (Refers o (codes "R") ([]) Unsubscripted) ∷ []) (Sum o (Some Plus) (Called o (codes "SHR") (es ((Called o (codes "I") (es ((Referred (Refers o (codes "I") ([]) Unsubscripted)) ∷ []))) ∷ (Literal o (Integer 0)) ∷ []))) (ts ([])))))) ∷ (inr (Labelled ([]) (Assignment o ((Refers o (codes "B") ([]) (ByParts o (ss ([])) (ss ([])) (ss ((One (FromBeginning (Literal o (Integer 2)))) ∷ (One (FromBeginning (Sum o None (Called o (codes "MOD") (es ((Called o (codes "REMAINDER") (es ((Literal o (Integer 0)) ∷ (Literal o (Integer 255)) ∷ []))) ∷ (Literal o (Integer 3)) ∷ []))) (ts ((Plus, (Literal o (Integer 1))) ∷ []))))) ∷ [])))) ∷ (Refers o (codes "N") ([]) Unsubscripted) ∷ []) (Called o (codes "RJUST") (es ((Convert o ToText (Called o (codes "LENGTH") (es ((Literal o (Text (codes "lower"))) ∷ [])))) ∷ (Literal o (Integer 0)) ∷ [])))))) ∷ (inr (Labelled ([]) (Assignment o ((Refers o (codes "R") ([]) Unsubscripted) ∷ (Refers o (codes "R") ([]) Unsubscripted) ∷ (Refers o (codes "R") ([]) Unsubscripted) ∷ []) (Referred (Refers o (codes "I") ([]) Unsubscripted))))) ∷ (inr (Labelled ([]) (Null o))) ∷ (inr (Labelled ([]) (Null o))) ∷ (inr (Labelled ([]) (OffError o (OneError o o 1 o 3)))) ∷ (inr (Labelled ([]) (Assignment o ((Refers o (codes "R") ([]) Unsubscripted) ∷ []) (Called o (codes "MOD") (es ((Referred (Refers o (codes "I") ([]) Unsubscripted)) ∷ (Sum o None (Literal o (Integer 1)) (ts ((Minus, (Literal o (Integer 1))) ∷ []))) ∷ [])))))) ∷ (inr (Labelled ([]) (Write o (Literal o (Integer 6)) (es ((Referred (Refers o (codes "B") ([]) (ByParts o (ss ([])) (ss ([])) (ss ((One (FromBeginning (Literal o (Integer 1)))) ∷ (One (FromBeginning (Literal o (Integer 1)))) ∷ []))))) ∷ []))))) ∷ [])) (Some (nm (codes "P"))))) ∷ [])

abbrev Says3 : Type 0
Says3 = reported 400 row3 ((line.Run 600) ∷ []) ≡ codes "0: 0lower8LONGER TEXT 7\n31: 0 0\nend P 0 error 1:2 0\nP.R = 0\nP.T = 00000\nP.Z.C$(1;) = 'LONGER TEX'\nP.Z.C2$(1;1,1) = 00000000\nP.Z.C2$(1;1,2) = 00000111\nP.Z.C2$(1;2,1) = 00000000\nP.Z.C2$(1;2,2) = 00000000\nP.Z.C$(2;) = 'LONGER TEX'\nP.Z.C2$(2;1,1) = 00000000\nP.Z.C2$(2;1,2) = 00000111\nP.Z.C2$(2;2,1) = 00000000\nP.Z.C2$(2;2,2) = 00000000\nP.N = ''\nP.B$(1,1) = 'AB'\nP.B$(1,2) = '+05'\nP.B$(1,3) = '+05'\nP.B$(2,1) = ''\nP.B$(2,2) = '+05'\nP.B$(2,3) = '+05'\nP.I = 0\nP.I2 = 2\nP.F.V$(1) = 0\nP.F.V$(2) = 0\n"

-- errors 45: error of SEND ERROR caught, PROCEDURE REENTRANT, n#(..), SHL
abbrev row4 : List File
row4 = ((file_of ([]) (BlockOf (nm (codes "P")) (Program o) ((Declare o ([]) ((declared_of (nm (codes "B")) ((Typed (BitKind o (Literal o (Integer 8)))) ∷ (InitialValues o (is ((Value (Or o (Literal o (Bits 7 100)) (es ((Literal o (Bits 7 100)) ∷ [])))) ∷ []))) ∷ [])) ∷ (declared_of (nm (codes "N")) ((Typed (CharacterKind o (Literal o (Integer 3)))) ∷ (InitialValues o (is ((Value (Convert o ToText (Sum o (Some Minus) (Literal o (Integer 12)) (ts ([]))))) ∷ []))) ∷ [])) ∷ [])) ∷ (Declare o ([]) ((declared_of (nm (codes "T")) ((Dimensions o (es ((Literal o (Integer 2)) ∷ []))) ∷ (Typed (IntegerKind o)) ∷ (Marked o Double) ∷ (InitialValues o (is ((ListTimes o 2 (is ((Value (Called o (codes "SHL") (es ((Literal o (Integer 1)) ∷ (Literal o (Integer 7)) ∷ [])))) ∷ []))) ∷ []))) ∷ [])) ∷ [])) ∷ (Declare o ([]) ((declared_of (nm (codes "I")) ((Typed (IntegerKind o)) ∷ [])) ∷ [])) ∷ (Declare o ([]) ((declared_of (nm (codes "I2")) ((Typed (IntegerKind o)) ∷ [])) ∷ [])) ∷ []) (el ((inr (Labelled ([]) (Assignment o ((Refers o (codes "N") ([]) (ByParts o (ss ([])) (ss ([])) (ss ((One (FromEnd o (ts ((Minus, (Literal o (Integer 1))) ∷ [])))) ∷ [])))) ∷ (Refers o (codes "N") ([]) Unsubscripted) ∷ []) (Cat o (Called o (codes "LJUST") (es ((Referred (Refers o (codes "N") ([]) Unsubscripted)) ∷ (Referred (Refers o (codes "I") ([]) Unsubscripted)) ∷ []))) (es ((Referred (Refers o (codes "N") ([]) Unsubscripted)) ∷ [])))))) ∷ (inr (Labelled ([]) (OffError o (GroupErrors o o 7)))) ∷ (inr (Labelled ([]) (Assignment o ((Refers o (codes "I") ([]) Unsubscripted) ∷ []) (Literal o (Integer 0))))) ∷ (inr (Labelled ([]) (OnErrorStatement o EveryError (Labelled ([]) (Do o (Groups (st ((Labelled ([]) (Assignment o ((Refers o (codes "I") ([]) Unsubscripted) ∷ []) (Sum o None (Referred (Refers o (codes "I") ([]) Unsubscripted)) (ts ((Plus, (Literal o (Integer 1))) ∷ []))))) ∷ (Labelled ([]) (Write o (Literal o (Integer 6)) (es ((Literal o (Text (codes "ERROR"))) ∷ (Referred (Refers o (codes "ERRGRP") ([]) Unsubscripted)) ∷ (Referred (Refers o (codes "ERRNUM") ([]) Unsubscripted)) ∷ (Referred (Refers o (codes "I") ([]) Unsubscripted)) ∷ [])))) ∷ (Labelled ([]) (Assignment o ((Refers o (codes "N") ([]) Unsubscripted) ∷ (Refers o (codes "N") ([]) Unsubscripted) ∷ (Refers o (codes "N") ([]) Unsubscripted) ∷ []) (Cat o (Parenthesis o (Cat o (Referred (Refers o (codes "N") ([]) Unsubscripted)) (es ((Referred (Refers o (codes "N") ([]) Unsubscripted)) ∷ [])))) (es ((Sum o None (Referred (Refers o (codes "I2") ([]) Unsubscripted)) (ts ((Minus, (Literal o (Integer 1))) ∷ (Plus, (Parenthesis o (Sum o None (Literal o (Integer 1)) (ts ((Minus, (Referred (Refers o (codes "I") ([]) Unsubscripted))) ∷ []))))) ∷ []))) ∷ []))))) ∷ [])) None)))))) ∷ (inr (Labelled ([]) (If o (Compare o (Referred (Refers o (codes "I") ([]) Unsubscripted)) Less (Literal o (Integer 1))) (Labelled ([]) (Do o (Groups (st ((Labelled ([]) (SendError o o 255 o 255)) ∷ [])) None))) NoAlternative))) ∷ (inr (Labelled ([]) (Write o (Product o (Literal o (Integer 2)) (es ((Literal o (Integer 3)) ∷ []))) (es ((Power o (Referred (Refers o (codes "T") ([]) (ByInteger o o 2))) (Literal o (Integer 2))) ∷ (Literal o (Integer 4)) ∷ (Referred (Refers o (codes "I2") ([]) Unsubscripted)) ∷ []))))) ∷ (inr (Labelled ([]) (Write o (Literal o (Integer 6)) (es ((Referred (Refers o (codes "I") ([]) Unsubscripted)) ∷ (Referred (Refers o (codes "B") ([]) Unsubscripted)) ∷ (Referred (Refers o (codes "N") ([]) Unsubscripted)) ∷ []))))) ∷ (inl (BlockOf (nm (codes "Q")) (Procedure o ((nm (codes "A")) ∷ (nm (codes "A2")) ∷ []) ([]) (Some (Reentrant o))) ((Declare o ([]) ((declared_of (nm (codes "A")) ((Typed (IntegerKind o)) ∷ (Marked o Single) ∷ [])) ∷ (declared_of (nm (codes "A2")) ((Typed (IntegerKind o)) ∷ [])) ∷ [])) ∷ []) (el ((inr (Labelled ([]) (Assignment o ((Refers o (codes "T") ([]) (ByParts o (ss ([])) (ss ([])) (ss ((One (FromBeginning (Sum o None (Called o (codes "MOD") (es ((Referred (Refers o (codes "I2") ([]) Unsubscripted)) ∷ (Literal o (Integer 2)) ∷ []))) (ts ((Plus, (Literal o (Integer 1))) ∷ []))))) ∷ [])))) ∷ []) (Sum o None (Convert o ToInteger (Literal o Off)) (ts ((Plus, (Literal o (Integer 255))) ∷ (Minus, (Literal o (Integer 12))) ∷ [])))))) ∷ [])) (Some (nm (codes "Q"))))) ∷ [])) (Some (nm (codes "P"))))) ∷ [])

abbrev Says4 : Type 0
Says4 = reported 400 row4 ((line.Run 10) ∷ (line.Tick 1000) ∷ (line.Run 600) ∷ []) ≡ codes "6: ERROR 255 255 1\n6: 16384 4 0\n6: 1 01100100 -12\nend P 0 closed 1\nP.B = 01100100\nP.N = '-12'\nP.T$(1) = 128\nP.T$(2) = 128\nP.I = 1\nP.I2 = 0\n"

-- errors 81: error 1:2 SYSTEM, error of SEND ERROR caught, text component all, XOR
abbrev row5 : List File
row5 = ((file_of ([]) (BlockOf (nm (codes "P")) (Program o) ((Structure o (nm (codes "S")) ((part_of o 1 (nm (codes "C")) ((Typed (BitKind o (Literal o (Integer 5)))) ∷ [])) ∷ (part_of o 1 (nm (codes "C2")) ((Dimensions o (es ((Literal o (Integer 4)) ∷ []))) ∷ (Typed (BitKind o (Literal o (Integer 3)))) ∷ [])) ∷ [])) ∷ (Declare o ([]) ((declared_of (nm (codes "Z")) ((Typed (StructureKind o (codes "S") None)) ∷ [])) ∷ (declared_of (nm (codes "N")) ((Typed (BitKind o (Literal o (Integer 3)))) ∷ [])) ∷ [])) ∷ (Declare o ([]) ((declared_of (nm (codes "R2")) ((Typed (CharacterKind o (Literal o (Integer 6)))) ∷ (InitialValues o (is ((Value (Called o (codes "LJUST") (es ((Literal o (Text (codes " PAD "))) ∷ (Literal o (Integer 4)) ∷ [])))) ∷ []))) ∷ [])) ∷ [])) ∷ (Declare o ([]) ((declared_of (nm (codes "R")) ((Typed (IntegerKind o)) ∷ (InitialValues o (is ((Value (Literal o (Integer 2))) ∷ []))) ∷ [])) ∷ [])) ∷ (Declare o ([]) ((declared_of (nm (codes "I")) ((Typed (IntegerKind o)) ∷ [])) ∷ [])) ∷ (Declare o ([]) ((declared_of (nm (codes "I2")) ((Typed (IntegerKind o)) ∷ [])) ∷ [])) ∷ []) (el ((inr (Labelled ([]) (OnErrorResponse o (OneError o o 1 o 2) System None))) ∷ (inr (Labelled ([]) (OnErrorResponse o (OneError o o 1 o 4) Ignore None))) ∷ (inr (Labelled ([]) (Write o (Literal o (Integer 6)) (es ((Referred (Refers o (codes "R2") ([]) (ByParts o (ss ([])) (ss ([])) (ss ((Range (FromBeginning (Literal o (Integer 3))) (FromBeginning (Literal o (Integer 1)))) ∷ []))))) ∷ []))))) ∷ (inr (Labelled ([]) (Write o (Literal o (Integer 6)) (es ((Referred (Refers o (codes "I2") ([]) Unsubscripted)) ∷ (Referred (Refers o (codes "N") ([]) Unsubscripted)) ∷ []))))) ∷ (inr (Labelled ((nm (codes "M")) ∷ []) (Assignment o ((Refers o (codes "R2") ([]) Unsubscripted) ∷ []) (Referred (Refers o (codes "I2") ([]) Unsubscripted))))) ∷ (inr (Labelled ([]) (Assignment o ((Refers o (codes "R2") ([]) Unsubscripted) ∷ []) (Literal o (Text (codes "AB")))))) ∷ (inr (Labelled ([]) (Assignment o ((Refers o (codes "I") ([]) Unsubscripted) ∷ []) (Literal o (Integer 0))))) ∷ (inr (Labelled ([]) (OnErrorStatement o EveryError (Labelled ([]) (Do o (Groups (st ((Labelled ([]) (Assignment o ((Refers o (codes "I") ([]) Unsubscripted) ∷ []) (Sum o None (Referred (Refers o (codes "I") ([]) Unsubscripted)) (ts ((Plus, (Literal o (Integer 1))) ∷ []))))) ∷ (Labelled ([]) (Write o (Literal o (Integer 6)) (es ((Literal o (Text (codes "ERROR"))) ∷ (Referred (Refers o (codes "ERRGRP") ([]) Unsubscripted)) ∷ (Referred (Refers o (codes "ERRNUM") ([]) Unsubscripted)) ∷ (Referred (Refers o (codes "I") ([]) Unsubscripted)) ∷ [])))) ∷ [])) None)))))) ∷ (inr (Labelled ([]) (If o (Compare o (Referred (Refers o (codes "I") ([]) Unsubscripted)) Less (Literal o (Integer 2))) (Labelled ([]) (Do o (Groups (st ((Labelled ([]) (SendError o o 255 o 255)) ∷ [])) None))) NoAlternative))) ∷ (inr (Labelled ([]) (Write o (Literal o (Integer 6)) (es ((Called o (codes "DIV") (es ((Referred (Refers o (codes "R") ([]) Unsubscripted)) ∷ (Product o (Literal o (Integer 0)) (es ((Literal o (Integer 5)) ∷ []))) ∷ []))) ∷ (Referred (Refers o (codes "ERRNUM") ([]) Unsubscripted)) ∷ []))))) ∷ (inr (Labelled ([]) (Write o (Literal o (Integer 6)) (es ((Referred (Refers o (codes "Z") ((nm (codes "C")) ∷ []) Unsubscripted)) ∷ (Referred (Refers o (codes "N") ([]) Unsubscripted)) ∷ (Referred (Refers o (codes "R") ([]) Unsubscripted)) ∷ []))))) ∷ (inl (BlockOf (nm (codes "F")) (Function o ((nm (codes "A")) ∷ []) (HasKind (IntegerKind o) (Some (DoublePrecision o))) None) ((Declare o ([]) ((declared_of (nm (codes "A")) ((Typed (BitKind o (Literal o (Integer 3)))) ∷ [])) ∷ [])) ∷ (Declare o ([]) ((declared_of (nm (codes "J")) ((Typed (IntegerKind o)) ∷ [])) ∷ [])) ∷ []) (el ((inr (Labelled ([]) (Write o (Literal o (Integer 31)) (es ((Cat o (Literal o (Integer 1)) (es ((Literal o (Text (codes "lower"))) ∷ []))) ∷ []))))) ∷ (inl (BlockOf (nm (codes "Q")) (Procedure o ([]) ([]) None) ((Declare o ([]) ((declared_of (nm (codes "J2")) ((Typed (IntegerKind o)) ∷ (Marked o Automatic) ∷ [])) ∷ [])) ∷ []) (el ((inr (Labelled ([]) (Write o (Literal o (Integer 6)) (es ((Cat o (Literal o (Text (codes ""))) (es ((Referred (Refers o (codes "I") ([]) Unsubscripted)) ∷ []))) ∷ (Referred (Refers o (codes "ERRNUM") ([]) Unsubscripted)) ∷ (Cat o (Referred (Refers o (codes "J") ([]) Unsubscripted)) (es ((Referred (Refers o (codes "R2") ([]) (ByParts o (ss ([])) (ss ([])) (ss ((Every o) ∷ []))))) ∷ (Sum o None (Literal o (Integer 100)) (ts ((Plus, (Referred (Refers o (codes "J") ([]) Unsubscripted))) ∷ []))) ∷ []))) ∷ (Called o (codes "XOR") (es ((Or o (Literal o Off) (es ((Referred (Refers o (codes "Z") ((nm (codes "C")) ∷ []) Unsubscripted)) ∷ []))) ∷ (Not o (Referred (Refers o (codes "Z") ((nm (codes "C2")) ∷ []) (ByParts o (ss ([])) (ss ((One (FromBeginning (Literal o (Integer 9)))) ∷ [])) (ss ((Range (FromBeginning (Literal o (Integer 3))) (FromEnd o (ts ([])))) ∷ [])))))) ∷ []))) ∷ []))))) ∷ [])) (Some (nm (codes "Q"))))) ∷ [])) (Some (nm (codes "F"))))) ∷ [])) (Some (nm (codes "P"))))) ∷ [])

abbrev Says5 : Type 0
Says5 = reported 400 row5 ((line.Run 1) ∷ (line.Tick 1000) ∷ (line.Run 600) ∷ []) ≡ codes "6: A\n6: 0 000\n6: ERROR 255 255 1\n6: ERROR 255 255 2\nend P 1000 error 1:2 0\nP.Z.C = 00000\nP.Z.C2$(1) = 000\nP.Z.C2$(2) = 000\nP.Z.C2$(3) = 000\nP.Z.C2$(4) = 000\nP.N = 000\nP.R2 = 'AB'\nP.R = 2\nP.I = 2\nP.I2 = 0\nP.F.J = 0\n"

-- errors 111: error 3:3 SYSTEM, error 1:5 caught, DO FOR TEMPORARY TO, error 1:5 IGNORE
abbrev row6 : List File
row6 = ((file_of ([]) (BlockOf (nm (codes "P")) (Program o) ((Declare o ([]) ((declared_of (nm (codes "R2")) ((Typed (CharacterKind o (Literal o (Integer 6)))) ∷ (InitialValues o (is ((Value (Cat o (Literal o (Text (codes "IT'S"))) (es ((Literal o (Text (codes "IT'S"))) ∷ [])))) ∷ []))) ∷ [])) ∷ (declared_of (nm (codes "R")) ((Typed (IntegerKind o)) ∷ [])) ∷ (declared_of (nm (codes "N")) ((Dimensions o (es ((Literal o (Integer 3)) ∷ []))) ∷ (Typed (BitKind o (Literal o (Integer 8)))) ∷ (InitialValues o (is ((Value (Literal o (Bits 3 5))) ∷ []))) ∷ [])) ∷ [])) ∷ (Declare o ([]) ((declared_of (nm (codes "I2")) ((Typed (IntegerKind o)) ∷ [])) ∷ [])) ∷ []) (el ((inl (BlockOf (nm (codes "F")) (Function o ([]) (HasKind (CharacterKind o (Literal o (Integer 5))) None) None) ([]) (el ((inr (Labelled ([]) (OnErrorResponse o (OneError o o 1 o 5) Ignore None))) ∷ (inr (Labelled ([]) (Write o (Literal o (Integer 6)) (es ((Convert o ToInteger (Literal o (Text (codes "IT'S")))) ∷ []))))) ∷ (inr (Labelled ([]) (Write o (Literal o (Integer 6)) (es ((Referred (Refers o (codes "ERRGRP") ([]) Unsubscripted)) ∷ (Referred (Refers o (codes "ERRNUM") ([]) Unsubscripted)) ∷ []))))) ∷ (inr (Labelled ([]) (Null o))) ∷ (inr (Labelled ([]) (Null o))) ∷ (inr (Labelled ([]) (Return o (Some (Cat o (Literal o (Text (codes "lower"))) (es ((Parenthesis o (Cat o (Referred (Refers o (codes "R2") ([]) Unsubscripted)) (es ((Literal o (Integer 65536)) ∷ [])))) ∷ []))))))) ∷ [])) (Some (nm (codes "F"))))) ∷ (inr (Labelled ([]) (Assignment o ((Refers o (codes "R2") ([]) (ByParts o (ss ([])) (ss ([])) (ss ((One (FromBeginning (Literal o (Integer 2)))) ∷ [])))) ∷ []) (Referred (Refers o (codes "R2") ([]) Unsubscripted))))) ∷ (inr (Labelled ((nm (codes "M")) ∷ (nm (codes "L")) ∷ []) (DoFor o true (nm (codes "X")) (Stepped (Literal o (Integer 1)) (Sum o None (Literal o (Integer 3)) (ts ((Minus, (Parenthesis o (Sum o None (Referred (Refers o (codes "R") ([]) Unsubscripted)) (ts ((Plus, (Literal o (Integer 2))) ∷ []))))) ∷ []))) None) None (Groups (st ((Labelled ([]) (Assignment o ((Refers o (codes "R2") ([]) Unsubscripted) ∷ []) (Referred (Refers o (codes "F") ([]) Unsubscripted)))) ∷ [])) (Some (nm (codes "L"))))))) ∷ (inr (Labelled ([]) (OnErrorResponse o (GroupErrors o o 1) Ignore None))) ∷ (inr (Labelled ([]) (Write o (Literal o (Integer 6)) (es ((Called o (codes "REMAINDER") (es ((Sum o None (Referred (Refers o (codes "I2") ([]) Unsubscripted)) (ts ((Minus, (Referred (Refers o (codes "I2") ([]) Unsubscripted))) ∷ []))) ∷ (Product o (Literal o (Integer 0)) (es ((Literal o (Integer 5)) ∷ []))) ∷ []))) ∷ []))))) ∷ (inr (Labelled ([]) (OffError o (OneError o o 1 o 4)))) ∷ (inr (Labelled ([]) (Assignment o ((Refers o (codes "I2") ([]) Unsubscripted) ∷ []) (Literal o (Integer 0))))) ∷ (inr (Labelled ([]) (OnErrorStatement o (GroupErrors o o 1) (Labelled ([]) (Do o (Groups (st ((Labelled ([]) (Assignment o ((Refers o (codes "I2") ([]) Unsubscripted) ∷ []) (Sum o None (Referred (Refers o (codes "I2") ([]) Unsubscripted)) (ts ((Plus, (Literal o (Integer 1))) ∷ []))))) ∷ (Labelled ([]) (Write o (Literal o (Integer 6)) (es ((Literal o (Text (codes "ERROR"))) ∷ (Referred (Refers o (codes "ERRGRP") ([]) Unsubscripted)) ∷ (Referred (Refers o (codes "ERRNUM") ([]) Unsubscripted)) ∷ (Referred (Refers o (codes "I2") ([]) Unsubscripted)) ∷ [])))) ∷ (Labelled ([]) (Assignment o ((Refers o (codes "N") ([]) (ByParts o (ss ([])) (ss ((One (FromBeginning (Literal o (Integer 1)))) ∷ [])) (ss ((Every o) ∷ [])))) ∷ []) (And o (Referred (Refers o (codes "N") ([]) (ByParts o (ss ([])) (ss ((One (FromBeginning (Literal o (Integer 3)))) ∷ [])) (ss ((Range (FromBeginning (Literal o (Integer 6))) (FromBeginning (Literal o (Integer 8)))) ∷ []))))) (es ((Parenthesis o (Or o (Cat o (Referred (Refers o (codes "N") ([]) (ByInteger o o 2))) (es ((Referred (Refers o (codes "N") ([]) (ByParts o (ss ([])) (ss ([])) (ss ((One (FromBeginning (Literal o (Integer 2)))) ∷ []))))) ∷ []))) (es ((Not o (Literal o (Bits 5 19))) ∷ [])))) ∷ []))))) ∷ [])) None)))))) ∷ (inr (Labelled ([]) (If o (Compare o (Referred (Refers o (codes "I2") ([]) Unsubscripted)) Less (Literal o (Integer 1))) (Labelled ([]) (Do o (Groups (st ((Labelled ([]) (Write o (Literal o (Integer 6)) (es ((Convert o ToInteger (Literal o (Text (codes "1 2")))) ∷ (Referred (Refers o (codes "ERRNUM") ([]) Unsubscripted)) ∷ [])))) ∷ [])) None))) NoAlternative))) ∷ (inr (Labelled ([]) (Write o (Literal o (Integer 6)) (es ((Referred (Refers o (codes "I2") ([]) Unsubscripted)) ∷ []))))) ∷ (inr (Labelled ([]) (Write o (Literal o (Integer 6)) (es ((Called o (codes "LJUST") (es ((Literal o (Text (codes "A"))) ∷ (Literal o (Integer 250)) ∷ []))) ∷ (Called o (codes "LJUST") (es ((Literal o (Text (codes "lower"))) ∷ (Literal o (Integer 255)) ∷ []))) ∷ (Called o (codes "LJUST") (es ((Literal o (Text (codes "AB"))) ∷ (Literal o (Integer 255)) ∷ []))) ∷ (Called o (codes "RJUST") (es ((Literal o (Text (codes "IT'S"))) ∷ (Literal o (Integer 250)) ∷ []))) ∷ []))))) ∷ (inr (Labelled ([]) (Write o (Literal o (Integer 6)) (es ((Referred (Refers o (codes "R") ([]) Unsubscripted)) ∷ (Referred (Refers o (codes "I2") ([]) Unsubscripted)) ∷ []))))) ∷ [])) (Some (nm (codes "P"))))) ∷ [])

abbrev Says6 : Type 0
Says6 = reported 400 row6 ((line.Run 10) ∷ (line.Tick 1) ∷ (line.Run 600) ∷ []) ≡ codes "6: 0\n6: 1 5\n6: 0\n6: ERROR 1 5 1\n6: 1\nend P 0 error 3:3 0\nP.R2 = 'lowerI'\nP.R = 0\nP.N$(1) = 00000101\nP.N$(2) = 00000101\nP.N$(3) = 00000101\nP.I2 = 1\n"

-- errors 141: DO FOR TEMPORARY TO, DO FOR BY, DO FOR TO, array subscript all left out
abbrev row7 : List File
row7 = ((file_of ([]) (BlockOf (nm (codes "P")) (Program o) ((Declare o ([]) ((declared_of (nm (codes "R")) ((Typed (BitKind o (Literal o (Integer 4)))) ∷ (InitialValues o (is ((Value (Literal o (Bits 3 5))) ∷ []))) ∷ [])) ∷ (declared_of (nm (codes "B")) ((Typed (IntegerKind o)) ∷ [])) ∷ (declared_of (nm (codes "T")) ((Dimensions o (es ((Literal o (Integer 2)) ∷ []))) ∷ (Typed (CharacterKind o (Literal o (Integer 1)))) ∷ (InitialValues o (is ((Value (Convert o ToText (Sum o (Some Minus) (Literal o (Integer 12)) (ts ([]))))) ∷ []))) ∷ [])) ∷ [])) ∷ (Declare o ([]) ((declared_of (nm (codes "N")) ((Typed (IntegerKind o)) ∷ (Marked o Single) ∷ (InitialValues o (is ((Value (Called o (codes "ABS") (es ((Sum o (Some Minus) (Literal o (Integer 3)) (ts ([]))) ∷ [])))) ∷ []))) ∷ [])) ∷ [])) ∷ (Declare o ([]) ((declared_of (nm (codes "I")) ((Typed (IntegerKind o)) ∷ [])) ∷ [])) ∷ (Declare o ([]) ((declared_of (nm (codes "I2")) ((Typed (IntegerKind o)) ∷ [])) ∷ [])) ∷ []) (el ((inl (BlockOf (nm (codes "Q")) (Procedure o ((nm (codes "A")) ∷ (nm (codes "A2")) ∷ []) ((nm (codes "B2")) ∷ (nm (codes "B3")) ∷ []) None) ((Declare o ([]) ((declared_of (nm (codes "A")) ((Typed (CharacterKind o (Literal o (Integer 1)))) ∷ [])) ∷ [])) ∷ (Declare o ([]) ((declared_of (nm (codes "A2")) ((Typed (IntegerKind o)) ∷ [])) ∷ (declared_of (nm (codes "B2")) ((Typed (CharacterKind o (Literal o (Integer 1)))) ∷ [])) ∷ (declared_of (nm (codes "B3")) ((Typed (IntegerKind o)) ∷ (Marked o Double) ∷ [])) ∷ [])) ∷ []) (el ((inr (Labelled ([]) (Assignment o ((Refers o (codes "T") ([]) (ByParts o (ss ([])) (ss ([])) (ss ((One (FromBeginning (Literal o (Integer 2)))) ∷ [])))) ∷ []) (Cat o (Referred (Refers o (codes "A") ([]) Unsubscripted)) (es ((Convert o ToText (Literal o (Text (codes "IT'S")))) ∷ [])))))) ∷ (inr (Labelled ([]) (OnErrorStatement o (OneError o o 1 o 6) (Labelled ([]) (Assignment o ((Refers o (codes "T") ([]) (ByParts o (ss ([])) (ss ([])) (ss ((One (FromBeginning (Literal o (Integer 1)))) ∷ [])))) ∷ (Refers o (codes "B2") ([]) Unsubscripted) ∷ (Refers o (codes "T") ([]) (ByParts o (ss ([])) (ss ([])) (ss ((One (FromBeginning (Sum o None (Called o (codes "MOD") (es ((Sum o None (Literal o (Integer 7)) (ts ((Minus, (Referred (Refers o (codes "I2") ([]) Unsubscripted))) ∷ []))) ∷ (Literal o (Integer 2)) ∷ []))) (ts ((Plus, (Literal o (Integer 1))) ∷ []))))) ∷ [])))) ∷ []) (Convert o ToText (Referred (Refers o (codes "A") ([]) Unsubscripted)))))))) ∷ (inr (Labelled ([]) (Assignment o ((Refers o (codes "B2") ([]) Unsubscripted) ∷ []) (Referred (Refers o (codes "A") ([]) Unsubscripted))))) ∷ [])) (Some (nm (codes "Q"))))) ∷ (inr (Labelled ([]) (OnErrorResponse o (GroupErrors o o 7) System None))) ∷ (inr (Labelled ([]) (DoCase o (Sum o None (Called o (codes "MOD") (es ((Referred (Refers o (codes "I2") ([]) Unsubscripted)) ∷ (Literal o (Integer 3)) ∷ []))) (ts ((Plus, (Literal o (Integer 1))) ∷ []))) NoAlternative (Groups (st ((Labelled ([]) (Assignment o ((Refers o (codes "B") ([]) Unsubscripted) ∷ []) (Sum o None (Called o (codes "SIZE") (es ((Referred (Refers o (codes "T") ([]) Unsubscripted)) ∷ []))) (ts ((Minus, (Literal o (Integer 0))) ∷ []))))) ∷ (Labelled ([]) (DoFor o true (nm (codes "X")) (Stepped (Literal o (Integer 4)) (Literal o (Integer 2)) None) None (Groups (st ((Labelled ([]) (Write o (Literal o (Integer 6)) (es ((Or o (Cat o (Referred (Refers o (codes "R") ([]) Unsubscripted)) (es ((Referred (Refers o (codes "R") ([]) (ByParts o (ss ([])) (ss ([])) (ss ((Range (FromBeginning (Literal o (Integer 1))) (FromBeginning (Literal o (Integer 3)))) ∷ []))))) ∷ []))) (es ((Cat o (Referred (Refers o (codes "R") ([]) Unsubscripted)) (es ((Literal o (Bits 4 15)) ∷ []))) ∷ []))) ∷ (Parenthesis o (Not o (Referred (Refers o (codes "R") ([]) Unsubscripted)))) ∷ [])))) ∷ (Labelled ([]) (OnErrorResponse o (GroupErrors o o 1) Ignore None)) ∷ [])) None))) ∷ (Labelled ([]) (Assignment o ((Refers o (codes "T") ([]) (ByParts o (ss ([])) (ss ([])) (ss ((One (FromBeginning (Literal o (Integer 3)))) ∷ [])))) ∷ []) (Cat o (Referred (Refers o (codes "T") ([]) (ByParts o (ss ([])) (ss ((One (FromBeginning (Sum o None (Called o (codes "MOD") (es ((Referred (Refers o (codes "N") ([]) Unsubscripted)) ∷ (Literal o (Integer 2)) ∷ []))) (ts ((Plus, (Literal o (Integer 1))) ∷ []))))) ∷ [])) (ss ((One (FromEnd o (ts ((Minus, (Literal o (Integer 1))) ∷ [])))) ∷ []))))) (es ((Referred (Refers o (codes "I") ([]) Unsubscripted)) ∷ (Called o (codes "LJUST") (es ((Parenthesis o (Literal o (Text (codes "XYZ")))) ∷ (Referred (Refers o (codes "N") ([]) Unsubscripted)) ∷ []))) ∷ []))))) ∷ [])) None)))) ∷ (inr (Labelled ([]) (Assignment o ((Refers o (codes "T") ([]) (ByParts o (ss ([])) (ss ([])) (ss ((One (FromEnd o (ts ((Minus, (Literal o (Integer 0))) ∷ [])))) ∷ [])))) ∷ []) (Cat o (Referred (Refers o (codes "T") ([]) (ByParts o (ss ([])) (ss ([])) (ss ((One (FromBeginning (Literal o (Integer 2)))) ∷ []))))) (es ((Literal o (Text (codes " PAD "))) ∷ (Product o (Referred (Refers o (codes "N") ([]) Unsubscripted)) (es ((Referred (Refers o (codes "I") ([]) Unsubscripted)) ∷ []))) ∷ (Parenthesis o (Cat o (Referred (Refers o (codes "T") ([]) (ByParts o (ss ([])) (ss ([])) (ss ((One (FromBeginning (Literal o (Integer 1)))) ∷ []))))) (es ((Referred (Refers o (codes "T") ([]) (ByParts o (ss ([])) (ss ((One (FromBeginning (Literal o (Integer 2)))) ∷ [])) (ss ([]))))) ∷ (Convert o ToText (Literal o (Bits 4 6))) ∷ [])))) ∷ [])))))) ∷ (inr (Labelled ([]) (Assignment o ((Refers o (codes "B") ([]) Unsubscripted) ∷ []) (Sum o None (Called o (codes "SIZE") (es ((Referred (Refers o (codes "T") ([]) Unsubscripted)) ∷ []))) (ts ((Minus, (Literal o (Integer 2))) ∷ [])))))) ∷ (inr (Labelled ([]) (Write o (Literal o (Integer 31)) (es ((Called o (codes "ODD") (es ((Product o (Literal o (Integer 31)) (es ((Referred (Refers o (codes "B") ([]) Unsubscripted)) ∷ []))) ∷ []))) ∷ []))))) ∷ (inr (Labelled ([]) (OffError o (GroupErrors o o 1)))) ∷ (inr (Labelled ([]) (Write o (Literal o (Integer 6)) (es ((Referred (Refers o (codes "ERRGRP") ([]) Unsubscripted)) ∷ (Referred (Refers o (codes "ERRNUM") ([]) Unsubscripted)) ∷ []))))) ∷ (inr (Labelled ([]) (DoFor o false (nm (codes "N")) (Stepped (Literal o (Integer 1)) (Literal o (Integer 3)) (Some (Sum o (Some Minus) (Literal o (Integer 1)) (ts ([]))))) None (Groups (st ((Labelled ([]) (Write o (Literal o (Integer 6)) (es ((Referred (Refers o (codes "ERRGRP") ([]) Unsubscripted)) ∷ (Referred (Refers o (codes "ERRNUM") ([]) Unsubscripted)) ∷ [])))) ∷ (Labelled ([]) (Write o (Literal o (Integer 6)) (es ((Referred (Refers o (codes "ERRGRP") ([]) Unsubscripted)) ∷ (Referred (Refers o (codes "ERRNUM") ([]) Unsubscripted)) ∷ [])))) ∷ [])) None)))) ∷ [])) (Some (nm (codes "P"))))) ∷ [])

abbrev Says7 : Type 0
Says7 = reported 400 row7 ((line.Run 9) ∷ (line.Tick 500) ∷ (line.Run 600) ∷ []) ≡ codes "31: 0\n6: 0 0\nend P 0 closed 1\nP.R = 0101\nP.B = 0\nP.T$(1) = '-'\nP.T$(2) = '-'\nP.N = 1\nP.I = 0\nP.I2 = 0\n"

pub all_say : Says1 × Says2 × Says3 × Says4 × Says5 × Says6 × Says7
unfolding digits words_reserved.reserved_words words_reserved.left_out_words phrases_gathereddeclarations.gathered_kind phrases_gathereddeclarations.gathered_initial phrases_gathereddeclarations.gathered_initials phrases_gathereddeclarations.gathered_attribute phrases_gathereddeclarations.gathered_item phrases_gathereddeclarations.still_open phrases_gathereddeclarations.innermost phrases_gathereddeclarations.is_bottom phrases_gathereddeclarations.gathered_part phrases_gathereddeclarations.gathered_parts phrases_gathereddeclarations.gathered_declaration phrases_gatheredexpressions.gathered phrases_gatheredexpressions.gathered_all phrases_gatheredexpressions.gathered_terms phrases_gatheredexpressions.gathered_reference phrases_gatheredexpressions.gathered_subscript phrases_gatheredexpressions.gathered_subs phrases_gatheredexpressions.gathered_sub phrases_gatheredexpressions.gathered_position phrases_gatheredstatements.gathered_guard phrases_gatheredstatements.gathered_span phrases_gatheredstatements.gathered_start phrases_gatheredstatements.gathered_cycle phrases_gatheredstatements.gathered_limit phrases_gatheredstatements.gathered_schedule phrases_gatheredstatements.begun_for phrases_gatheredstatements.around_for phrases_gatheredstatements.gathered_statement phrases_gatheredstatements.gathered_basic phrases_gatheredstatements.gathered_alternative phrases_gatheredstatements.gathered_group phrases_gatheredstatements.gathered_statements phrases_gatheredunits.gathered_returns phrases_gatheredunits.gathered_head phrases_gatheredunits.gathered_block phrases_gatheredunits.gathered_elements phrases_gatheredunits.around_template phrases_gatheredunits.gathered_template phrases_gatheredunits.gathered_preface phrases_gatheredunits.gathered_prefaces phrases_gatheredunits.name_of_block phrases_gatheredunits.gathered_file phrases_gatheredunits.phrases_of phrases_members.gathered_member phrases_members.gathered_members names_declarations.is_declaring names_declarations.with_places names_declarations.with_all_chosen names_keys.declared_at names_keys.same_space names_keys.same_key names_keys.own names_means.is_compool_unit names_means.unit_named names_means.given_by names_means.shown names_means.shown_by names_means.included names_means.included_before names_means.prefaces_of names_means.nearest names_tasks.with_homes scope_builtins.builtins scope_components.has_path scope_components.is_structure scope_components.type_has scope_components.has_component scope_components.lacks_in scope_components.lacks scope_labels.is_label_of scope_labels.misclosed scope_labels.is_loop scope_labels.group_around scope_labels.misled scope_labels.astray scope_repeated.given scope_repeated.is_of_block scope_repeated.twice scope_repeated.declares_one_there scope_repeated.declarations_of scope_repeated.included_twice scope_repeated.is_item scope_repeated.undeclared scope_rules.fault scope_rules.first_fault scope_sorts.type_in scope_sorts.type_among scope_sorts.sort_of_type scope_sorts.sort_of_head scope_sorts.sort_of scope_sorts.usage_of scope_sorts.use_of_reference scope_sorts.used scope_uses.unknown scope_uses.is_eventful scope_uses.is_nil scope_uses.refers_to_event scope_uses.holds_event scope_uses.hold_event scope_uses.limit_of scope_uses.limit_around scope_uses.misused kinds_attributes.count_of kinds_attributes.no_more kinds_attributes.sizes_in kinds_attributes.sizes_among kinds_attributes.initial_in kinds_attributes.initial_among kinds_attributes.constant_in kinds_attributes.constant_among kinds_attributes.same_mark kinds_attributes.is_mark kinds_classes.class_of_result kinds_classes.class_of_returns kinds_classes.class_of_head kinds_classes.class_of_form kinds_classes.class_of_builtin kinds_classes.class_at kinds_classes.class_of_reference kinds_classes.class_of_function kinds_classes.class_of_called_head kinds_classes.class_of_called kinds_classes.class_of_literal kinds_classes.class_of_conversion kinds_classes.beside kinds_classes.joined kinds_classes.enclosed kinds_classes.class_of kinds_classes.class_beside kinds_classes.class_joined kinds_data.class_of_type kinds_data.has_copies kinds_data.dimensions_of kinds_data.data_of kinds_data.part_data kinds_data.part_under kinds_data.data_at_part kinds_data.component_of kinds_data.component_data kinds_data.data_at kinds_data.is_event_type kinds_data.is_structure_type kinds_subscripts.subscript_count kinds_subscripts.is_many kinds_subscripts.are_many kinds_subscripts.parts_chosen kinds_subscripts.choice_of kinds_subscripts.is_structure_class constants_constants.operation_of_sign constants_constants.signed constants_constants.operation_of_conversion constants_constants.raised_to constants_constants.raised constants_constants.is_none constants_constants.factor_at constants_constants.constant_of constants_constants.folded constants_constants.summed constants_constants.computed constants_constants.computed_second constants_constants.multiplied constants_constants.referred constants_constants.subscripted constants_constants.component_of constants_constants.component_by constants_constants.place_of constants_known.size_of_integer constants_known.size_of_value constants_known.size_of constants_known.bits_kind constants_known.text_kind constants_known.kind_of constants_known.kind_of_type constants_known.gives_none constants_known.give_none constants_known.only_of constants_known.only_with constants_known.kept constants_known.fitted constants_known.only_in constants_known.declared_value constants_known.round constants_known.is_file constants_known.is_pooled constants_known.rounds constants_naming.constant_known constants_naming.constant_at constants_naming.literal_constant constants_naming.operation_of constants_operands.takes_one constants_operands.takes_two constants_operands.is_storable constants_operands.has_components constants_results.worth constants_results.worse constants_results.apply_one constants_results.apply_two constants_results.component_at constants_results.component_to constants_results.component_from constants_results.picked_one constants_results.picked_to constants_results.picked_from states_ofkinds.is_of
all_say = (refl, refl, refl, refl, refl, refl, refl)
