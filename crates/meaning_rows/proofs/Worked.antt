-- Rows of worked.txt, written by tools/meaning_rows.
use Rattle.std.specs.Prelude.{◌≡◌, ℕ, List, [], ◌∷◌, Option, Some, None, true, false, codes}
use Rattle.std.specs.Fmt.{digits}
use Rattle.std.proofs.Common.{refl, inl, inr}
use Rattle.hal_grammar.specs.Leaves.{Plus, Minus, Equal, Less, Greater, AtMost, AtLeast, NotEqual, NotLess, NotGreater, ToInteger, ToBits, ToText, Integer, Text, Bits, True, False, On, Off}
use Rattle.hal_grammar.specs.Expressions.{Or, And, Compare, Cat, Sum, Product, Power, Not, Literal, Decimal, Referred, Called, Convert, Parenthesis, Refers, Unsubscripted, ByName, ByInteger, ByParts, Every, One, Range, Portion, FromBeginning, FromEnd}
use Rattle.hal_grammar.specs.Declarations.{Single, Double, Latched, Static, Automatic, Dense, Aligned, IntegerKind, BooleanKind, EventKind, BitKind, CharacterKind, StructureKind, Value, LiteralTimes, NameTimes, ListTimes, Dimensions, Typed, Marked, LockGroup, LockAny, InitialValues, ConstantValues, declared_of, part_of, Declare, Structure}
use Rattle.hal_grammar.specs.Statements.{While, Until, Stepped, Listed, EveryError, GroupErrors, OneError, Signal, Set, Reset, eventful, System, Ignore, StartAt, StartIn, StartOn, Cyclic, CyclicEvery, CyclicAfter, scheduling, Labelled, Null, Assignment, If, Do, DoCase, DoLoop, DoFor, Exit, Repeat, Return, Call, Read, Write, Update, Scheduled, Cancel, Terminate, Wait, WaitUntil, WaitForDependent, WaitFor, Event, UpdatePriority, OnErrorStatement, OnErrorResponse, OffError, SendError, NoAlternative, Otherwise, Groups}
use Rattle.hal_grammar.specs.Units.{Reentrant, Exclusive, SinglePrecision, DoublePrecision, NoKind, HasKind, Program, Compool, Task, Procedure, Function, BlockOf, template_of, Include, Templates, File, file_of}
use Rattle.exec_model.specs.declared.script.ScriptLine.TheVariants as line
use Rattle.meaning_rows.specs.Trees.{o, nm, es, ts, ss, is, st, el}
use Rattle.meaning_rows.specs.Playing.{reported}
use Rattle.hal_words.specs.Reserved as words_reserved
use Rattle.hal_phrases.specs.GatheredDeclarations as phrases_gathereddeclarations
use Rattle.hal_phrases.specs.GatheredExpressions as phrases_gatheredexpressions
use Rattle.hal_phrases.specs.GatheredStatements as phrases_gatheredstatements
use Rattle.hal_phrases.specs.GatheredUnits as phrases_gatheredunits
use Rattle.hal_phrases.specs.Members as phrases_members
use Rattle.hal_names.specs.Declarations as names_declarations
use Rattle.hal_names.specs.Keys as names_keys
use Rattle.hal_names.specs.Means as names_means
use Rattle.hal_names.specs.Tasks as names_tasks
use Rattle.hal_scope.specs.Builtins as scope_builtins
use Rattle.hal_scope.specs.Components as scope_components
use Rattle.hal_scope.specs.Labels as scope_labels
use Rattle.hal_scope.specs.Repeated as scope_repeated
use Rattle.hal_scope.specs.Rules as scope_rules
use Rattle.hal_scope.specs.Sorts as scope_sorts
use Rattle.hal_scope.specs.Uses as scope_uses
use Rattle.hal_kinds.specs.Attributes as kinds_attributes
use Rattle.hal_kinds.specs.Classes as kinds_classes
use Rattle.hal_kinds.specs.Data as kinds_data
use Rattle.hal_kinds.specs.Subscripts as kinds_subscripts
use Rattle.hal_constants.specs.Constants as constants_constants
use Rattle.hal_constants.specs.Known as constants_known
use Rattle.hal_constants.specs.Naming as constants_naming
use Rattle.hal_constants.specs.Operands as constants_operands
use Rattle.hal_constants.specs.Results as constants_results
use Rattle.hal_states.specs.OfKinds as states_ofkinds

-- an overflow ends the process
abbrev row1 : List File
row1 = ((file_of ([]) (BlockOf (nm (codes "P")) (Program o) ((Declare o ([]) ((declared_of (nm (codes "N")) ((Typed (IntegerKind o)) ∷ (InitialValues o (is ((Value (Literal o (Integer 32767))) ∷ []))) ∷ [])) ∷ [])) ∷ []) (el ((inr (Labelled ([]) (Assignment o ((Refers o (codes "N") ([]) Unsubscripted) ∷ []) (Sum o None (Referred (Refers o (codes "N") ([]) Unsubscripted)) (ts ((Plus, (Literal o (Integer 1))) ∷ [])))))) ∷ (inr (Labelled ([]) (Write o (Literal o (Integer 6)) (es ((Referred (Refers o (codes "N") ([]) Unsubscripted)) ∷ []))))) ∷ [])) (Some (nm (codes "P"))))) ∷ [])

abbrev Says1 : Type 0
Says1 = reported 400 row1 ((line.Run 10) ∷ []) ≡ codes "end P 0 error 1:1 0\nP.N = 32767\n"

-- an ignored overflow gives the nearest bound
abbrev row2 : List File
row2 = ((file_of ([]) (BlockOf (nm (codes "P")) (Program o) ((Declare o ([]) ((declared_of (nm (codes "N")) ((Typed (IntegerKind o)) ∷ (InitialValues o (is ((Value (Literal o (Integer 32767))) ∷ []))) ∷ [])) ∷ [])) ∷ []) (el ((inr (Labelled ([]) (OnErrorResponse o (OneError o o 1 o 1) Ignore None))) ∷ (inr (Labelled ([]) (Assignment o ((Refers o (codes "N") ([]) Unsubscripted) ∷ []) (Sum o None (Referred (Refers o (codes "N") ([]) Unsubscripted)) (ts ((Plus, (Literal o (Integer 1))) ∷ [])))))) ∷ (inr (Labelled ([]) (Write o (Literal o (Integer 6)) (es ((Referred (Refers o (codes "N") ([]) Unsubscripted)) ∷ []))))) ∷ [])) (Some (nm (codes "P"))))) ∷ [])

abbrev Says2 : Type 0
Says2 = reported 400 row2 ((line.Run 10) ∷ []) ≡ codes "6: 32767\nend P 0 closed 1\nP.N = 32767\n"

-- the last place, the one before, and none
abbrev row3 : List File
row3 = ((file_of ([]) (BlockOf (nm (codes "P")) (Program o) ((Declare o ([]) ((declared_of (nm (codes "A")) ((Dimensions o (es ((Literal o (Integer 3)) ∷ []))) ∷ (Typed (IntegerKind o)) ∷ (InitialValues o (is ((Value (Literal o (Integer 5))) ∷ (Value (Literal o (Integer 6))) ∷ (Value (Literal o (Integer 7))) ∷ []))) ∷ [])) ∷ [])) ∷ []) (el ((inr (Labelled ([]) (Write o (Literal o (Integer 6)) (es ((Referred (Refers o (codes "A") ([]) (ByParts o (ss ([])) (ss ([])) (ss ((One (FromEnd o (ts ([])))) ∷ []))))) ∷ (Referred (Refers o (codes "A") ([]) (ByParts o (ss ([])) (ss ([])) (ss ((One (FromEnd o (ts ((Minus, (Literal o (Integer 1))) ∷ [])))) ∷ []))))) ∷ []))))) ∷ (inr (Labelled ([]) (Write o (Literal o (Integer 6)) (es ((Referred (Refers o (codes "A") ([]) (ByParts o (ss ([])) (ss ([])) (ss ((One (FromBeginning (Literal o (Integer 0)))) ∷ []))))) ∷ []))))) ∷ [])) (Some (nm (codes "P"))))) ∷ [])

abbrev Says3 : Type 0
Says3 = reported 400 row3 ((line.Run 10) ∷ []) ≡ codes "6: 7 6\nend P 0 error 1:3 0\nP.A$(1) = 5\nP.A$(2) = 6\nP.A$(3) = 7\n"

-- a text is cut, and has parts
abbrev row4 : List File
row4 = ((file_of ([]) (BlockOf (nm (codes "P")) (Program o) ((Declare o ([]) ((declared_of (nm (codes "C")) ((Typed (CharacterKind o (Literal o (Integer 3)))) ∷ [])) ∷ [])) ∷ []) (el ((inr (Labelled ([]) (Assignment o ((Refers o (codes "C") ([]) Unsubscripted) ∷ []) (Literal o (Text (codes "ABCDE")))))) ∷ (inr (Labelled ([]) (Write o (Literal o (Integer 6)) (es ((Referred (Refers o (codes "C") ([]) Unsubscripted)) ∷ (Referred (Refers o (codes "C") ([]) (ByParts o (ss ([])) (ss ([])) (ss ((Range (FromBeginning (Literal o (Integer 2))) (FromBeginning (Literal o (Integer 3)))) ∷ []))))) ∷ []))))) ∷ (inr (Labelled ([]) (Write o (Literal o (Integer 6)) (es ((Referred (Refers o (codes "C") ([]) (ByParts o (ss ([])) (ss ([])) (ss ((Range (FromBeginning (Literal o (Integer 2))) (FromBeginning (Literal o (Integer 9)))) ∷ []))))) ∷ []))))) ∷ [])) (Some (nm (codes "P"))))) ∷ [])

abbrev Says4 : Type 0
Says4 = reported 400 row4 ((line.Run 10) ∷ []) ≡ codes "6: ABC BC\nend P 0 error 1:4 0\nP.C = 'ABC'\n"

-- a statement action leaves a called block
abbrev row5 : List File
row5 = ((file_of ([]) (BlockOf (nm (codes "P")) (Program o) ((Declare o ([]) ((declared_of (nm (codes "K")) ((Typed (IntegerKind o)) ∷ [])) ∷ [])) ∷ []) (el ((inr (Labelled ([]) (OnErrorStatement o (OneError o o 1 o 2) (Labelled ([]) (Write o (Literal o (Integer 6)) (es ((Literal o (Text (codes "CAUGHT"))) ∷ (Referred (Refers o (codes "ERRGRP") ([]) Unsubscripted)) ∷ (Referred (Refers o (codes "ERRNUM") ([]) Unsubscripted)) ∷ []))))))) ∷ (inr (Labelled ([]) (Assignment o ((Refers o (codes "K") ([]) Unsubscripted) ∷ []) (Sum o None (Referred (Refers o (codes "K") ([]) Unsubscripted)) (ts ((Plus, (Literal o (Integer 1))) ∷ [])))))) ∷ (inr (Labelled ([]) (If o (Compare o (Referred (Refers o (codes "K") ([]) Unsubscripted)) Equal (Literal o (Integer 1))) (Labelled ([]) (Call o (nm (codes "Q")) (es ([])) ([]))) NoAlternative))) ∷ (inr (Labelled ([]) (Write o (Literal o (Integer 6)) (es ((Referred (Refers o (codes "K") ([]) Unsubscripted)) ∷ []))))) ∷ (inl (BlockOf (nm (codes "Q")) (Procedure o ([]) ([]) None) ((Declare o ([]) ((declared_of (nm (codes "Z")) ((Typed (IntegerKind o)) ∷ [])) ∷ [])) ∷ []) (el ((inr (Labelled ([]) (Assignment o ((Refers o (codes "Z") ([]) Unsubscripted) ∷ []) (Called o (codes "DIV") (es ((Literal o (Integer 7)) ∷ (Referred (Refers o (codes "Z") ([]) Unsubscripted)) ∷ [])))))) ∷ (inr (Labelled ([]) (Write o (Literal o (Integer 6)) (es ((Literal o (Text (codes "NO"))) ∷ []))))) ∷ [])) (Some (nm (codes "Q"))))) ∷ [])) (Some (nm (codes "P"))))) ∷ [])

abbrev Says5 : Type 0
Says5 = reported 400 row5 ((line.Run 20) ∷ []) ≡ codes "6: CAUGHT 1 2\n6: 2\nend P 0 closed 1\nP.K = 2\nP.Q.Z = 0\n"

-- the latest block's entry goes before
abbrev row6 : List File
row6 = ((file_of ([]) (BlockOf (nm (codes "P")) (Program o) ([]) (el ((inr (Labelled ([]) (OnErrorStatement o (GroupErrors o o 1) (Labelled ([]) (Write o (Literal o (Integer 6)) (es ((Literal o (Text (codes "OUTER"))) ∷ []))))))) ∷ (inr (Labelled ([]) (Call o (nm (codes "Q")) (es ([])) ([])))) ∷ (inl (BlockOf (nm (codes "Q")) (Procedure o ([]) ([]) None) ((Declare o ([]) ((declared_of (nm (codes "Z")) ((Typed (IntegerKind o)) ∷ (InitialValues o (is ((Value (Literal o (Integer 9))) ∷ []))) ∷ [])) ∷ [])) ∷ []) (el ((inr (Labelled ([]) (OnErrorResponse o (OneError o o 1 o 2) Ignore None))) ∷ (inr (Labelled ([]) (Assignment o ((Refers o (codes "Z") ([]) Unsubscripted) ∷ []) (Called o (codes "DIV") (es ((Literal o (Integer 7)) ∷ (Literal o (Integer 0)) ∷ [])))))) ∷ (inr (Labelled ([]) (Write o (Literal o (Integer 6)) (es ((Referred (Refers o (codes "Z") ([]) Unsubscripted)) ∷ []))))) ∷ [])) (Some (nm (codes "Q"))))) ∷ [])) (Some (nm (codes "P"))))) ∷ [])

abbrev Says6 : Type 0
Says6 = reported 400 row6 ((line.Run 20) ∷ []) ≡ codes "6: 0\nend P 0 closed 1\nP.Q.Z = 0\n"

-- a template stands for the COMPOOL's data
abbrev row7 : List File
row7 = ((file_of ([]) (BlockOf (nm (codes "POOL")) (Compool o) ((Declare o ([]) ((declared_of (nm (codes "G")) ((Typed (IntegerKind o)) ∷ [])) ∷ [])) ∷ []) (el ([])) (Some (nm (codes "POOL"))))) ∷ (file_of ((Include o (nm (codes "POOL"))) ∷ []) (BlockOf (nm (codes "P")) (Program o) ([]) (el ((inr (Labelled ([]) (Assignment o ((Refers o (codes "G") ([]) Unsubscripted) ∷ []) (Literal o (Integer 3))))) ∷ [])) (Some (nm (codes "P"))))) ∷ [])

abbrev Says7 : Type 0
Says7 = reported 400 row7 ((line.Run 10) ∷ []) ≡ codes "end P 0 closed 1\nPOOL.G = 3\n"

-- a written template stands for the COMPOOL's data too
abbrev row8 : List File
row8 = ((file_of ([]) (BlockOf (nm (codes "POOL")) (Compool o) ((Declare o ([]) ((declared_of (nm (codes "F")) ((Typed (IntegerKind o)) ∷ [])) ∷ (declared_of (nm (codes "G")) ((Typed (IntegerKind o)) ∷ (InitialValues o (is ((Value (Literal o (Integer 4))) ∷ []))) ∷ [])) ∷ [])) ∷ []) (el ([])) (Some (nm (codes "POOL"))))) ∷ (file_of ((Templates (template_of (nm (codes "POOL")) (Compool o) ((Declare o ([]) ((declared_of (nm (codes "F")) ((Typed (IntegerKind o)) ∷ [])) ∷ (declared_of (nm (codes "G")) ((Typed (IntegerKind o)) ∷ [])) ∷ [])) ∷ []) (Some (nm (codes "POOL"))))) ∷ []) (BlockOf (nm (codes "P")) (Program o) ([]) (el ((inr (Labelled ([]) (Assignment o ((Refers o (codes "G") ([]) Unsubscripted) ∷ []) (Sum o None (Referred (Refers o (codes "G") ([]) Unsubscripted)) (ts ((Plus, (Literal o (Integer 3))) ∷ [])))))) ∷ [])) (Some (nm (codes "P"))))) ∷ [])

abbrev Says8 : Type 0
Says8 = reported 400 row8 ((line.Run 10) ∷ []) ≡ codes "end P 0 closed 1\nPOOL.F = 0\nPOOL.G = 7\n"

-- LOCK data go to a LOCK(*) parameter
abbrev row9 : List File
row9 = ((file_of ([]) (BlockOf (nm (codes "P")) (Program o) ((Declare o ([]) ((declared_of (nm (codes "K")) ((Typed (IntegerKind o)) ∷ (LockGroup o (Literal o (Integer 1))) ∷ [])) ∷ [])) ∷ []) (el ((inr (Labelled ((nm (codes "U")) ∷ []) (Update o (st ((Labelled ([]) (Call o (nm (codes "ADD")) (es ([])) ((Refers o (codes "K") ([]) Unsubscripted) ∷ []))) ∷ [])) (Some (nm (codes "U")))))) ∷ (inl (BlockOf (nm (codes "ADD")) (Procedure o ([]) ((nm (codes "X")) ∷ []) None) ((Declare o ([]) ((declared_of (nm (codes "X")) ((Typed (IntegerKind o)) ∷ (LockAny o) ∷ [])) ∷ [])) ∷ []) (el ((inr (Labelled ([]) (Assignment o ((Refers o (codes "X") ([]) Unsubscripted) ∷ []) (Sum o None (Referred (Refers o (codes "X") ([]) Unsubscripted)) (ts ((Plus, (Literal o (Integer 1))) ∷ [])))))) ∷ [])) (Some (nm (codes "ADD"))))) ∷ [])) (Some (nm (codes "P"))))) ∷ [])

abbrev Says9 : Type 0
Says9 = reported 9 row9 ((line.Run 10) ∷ []) ≡ codes "end P 0 closed 1\nP.K = 1\n"

-- SCHEDULE of an active process, ignored
abbrev row10 : List File
row10 = ((file_of ([]) (BlockOf (nm (codes "P")) (Program o) ([]) (el ((inr (Labelled ([]) (OnErrorResponse o (OneError o o 2 o 1) Ignore None))) ∷ (inr (Labelled ([]) (Scheduled o (scheduling (nm (codes "T")) None (Some (Literal o (Integer 40))) false None None)))) ∷ (inr (Labelled ([]) (Scheduled o (scheduling (nm (codes "T")) None (Some (Literal o (Integer 40))) false None None)))) ∷ (inr (Labelled ([]) (WaitFor o (Not o (Referred (Refers o (codes "T") ([]) Unsubscripted)))))) ∷ (inr (Labelled ([]) (Write o (Literal o (Integer 6)) (es ((Literal o (Text (codes "AGAIN"))) ∷ []))))) ∷ (inr (Labelled ([]) (Scheduled o (scheduling (nm (codes "T")) None (Some (Literal o (Integer 40))) false None None)))) ∷ (inl (BlockOf (nm (codes "T")) (Task o) ([]) (el ((inr (Labelled ([]) (Write o (Literal o (Integer 6)) (es ((Literal o (Text (codes "T"))) ∷ []))))) ∷ [])) (Some (nm (codes "T"))))) ∷ [])) (Some (nm (codes "P"))))) ∷ [])

abbrev Says10 : Type 0
Says10 = reported 400 row10 ((line.Run 50) ∷ []) ≡ codes "6: T\n6: AGAIN\n6: T\nend P.T 0 closed 1\nend P 0 closed 1\nend P.T 0 closed 1\n"

-- SCHEDULE of an active process
abbrev row11 : List File
row11 = ((file_of ([]) (BlockOf (nm (codes "P")) (Program o) ([]) (el ((inr (Labelled ([]) (Scheduled o (scheduling (nm (codes "T")) None (Some (Literal o (Integer 40))) false None None)))) ∷ (inr (Labelled ([]) (Scheduled o (scheduling (nm (codes "T")) None (Some (Literal o (Integer 40))) false None None)))) ∷ (inr (Labelled ([]) (WaitFor o (Not o (Referred (Refers o (codes "T") ([]) Unsubscripted)))))) ∷ (inr (Labelled ([]) (Write o (Literal o (Integer 6)) (es ((Literal o (Text (codes "AGAIN"))) ∷ []))))) ∷ (inr (Labelled ([]) (Scheduled o (scheduling (nm (codes "T")) None (Some (Literal o (Integer 40))) false None None)))) ∷ (inl (BlockOf (nm (codes "T")) (Task o) ([]) (el ((inr (Labelled ([]) (Write o (Literal o (Integer 6)) (es ((Literal o (Text (codes "T"))) ∷ []))))) ∷ [])) (Some (nm (codes "T"))))) ∷ [])) (Some (nm (codes "P"))))) ∷ [])

abbrev Says11 : Type 0
Says11 = reported 400 row11 ((line.Run 50) ∷ []) ≡ codes "6: T\nend P 0 error 2:1 0\nend P.T 0 closed 1\n"

-- EVERY counts from the cycle's start
abbrev row12 : List File
row12 = ((file_of ([]) (BlockOf (nm (codes "P")) (Program o) ((Declare o ([]) ((declared_of (nm (codes "N")) ((Typed (IntegerKind o)) ∷ [])) ∷ [])) ∷ []) (el ((inr (Labelled ([]) (Scheduled o (scheduling (nm (codes "T")) None (Some (Literal o (Integer 40))) false (Some (CyclicEvery o (Decimal o 40))) None)))) ∷ (inl (BlockOf (nm (codes "T")) (Task o) ([]) (el ((inr (Labelled ([]) (Assignment o ((Refers o (codes "N") ([]) Unsubscripted) ∷ []) (Sum o None (Referred (Refers o (codes "N") ([]) Unsubscripted)) (ts ((Plus, (Literal o (Integer 1))) ∷ [])))))) ∷ (inr (Labelled ([]) (Write o (Literal o (Integer 6)) (es ((Referred (Refers o (codes "N") ([]) Unsubscripted)) ∷ (Referred (Refers o (codes "RUNTIME") ([]) Unsubscripted)) ∷ []))))) ∷ [])) (Some (nm (codes "T"))))) ∷ [])) (Some (nm (codes "P"))))) ∷ [])

abbrev Says12 : Type 0
Says12 = reported 400 row12 ((line.Run 100) ∷ (line.Tick 200) ∷ (line.Run 100) ∷ []) ≡ codes "6: 1 0\n6: 2 0\n6: 3 0\n6: 4 0\n6: 5 0\n6: 6 0\nend P 0 closed 1\nlive P.T\nP.N = 6\n"

-- an unlatched event is TRUE while it is signalled
abbrev row13 : List File
row13 = ((file_of ([]) (BlockOf (nm (codes "P")) (Program o) ((Declare o ([]) ((declared_of (nm (codes "E")) ((Typed (EventKind o)) ∷ [])) ∷ (declared_of (nm (codes "F")) ((Typed (EventKind o)) ∷ (Marked o Latched) ∷ (InitialValues o (is ((Value (Literal o True)) ∷ []))) ∷ [])) ∷ [])) ∷ []) (el ((inr (Labelled ([]) (Scheduled o (scheduling (nm (codes "A")) None (Some (Literal o (Integer 60))) false None None)))) ∷ (inr (Labelled ([]) (Scheduled o (scheduling (nm (codes "B")) None (Some (Literal o (Integer 60))) false None None)))) ∷ (inr (Labelled ([]) (Event (eventful o Signal (nm (codes "E")))))) ∷ (inr (Labelled ([]) (Write o (Literal o (Integer 6)) (es ((Referred (Refers o (codes "E") ([]) Unsubscripted)) ∷ (Referred (Refers o (codes "F") ([]) Unsubscripted)) ∷ []))))) ∷ (inl (BlockOf (nm (codes "A")) (Task o) ([]) (el ((inr (Labelled ([]) (WaitFor o (Referred (Refers o (codes "E") ([]) Unsubscripted))))) ∷ (inr (Labelled ([]) (Write o (Literal o (Integer 6)) (es ((Literal o (Text (codes "A"))) ∷ []))))) ∷ [])) (Some (nm (codes "A"))))) ∷ (inl (BlockOf (nm (codes "B")) (Task o) ([]) (el ((inr (Labelled ([]) (WaitFor o (And o (Referred (Refers o (codes "E") ([]) Unsubscripted)) (es ((Not o (Referred (Refers o (codes "F") ([]) Unsubscripted))) ∷ [])))))) ∷ (inr (Labelled ([]) (Write o (Literal o (Integer 6)) (es ((Literal o (Text (codes "B"))) ∷ []))))) ∷ [])) (Some (nm (codes "B"))))) ∷ [])) (Some (nm (codes "P"))))) ∷ [])

abbrev Says13 : Type 0
Says13 = reported 400 row13 ((line.Run 50) ∷ []) ≡ codes "6: A\n6: 0 1\nend P.A 0 closed 1\nend P 0 closed 1\nlive P.B\nP.F = 1\n"

-- CANCEL of cycles, before, between and within
abbrev row14 : List File
row14 = ((file_of ([]) (BlockOf (nm (codes "P")) (Program o) ([]) (el ((inr (Labelled ([]) (Scheduled o (scheduling (nm (codes "A")) None (Some (Literal o (Integer 60))) false (Some (CyclicEvery o (Literal o (Integer 1)))) None)))) ∷ (inr (Labelled ([]) (Scheduled o (scheduling (nm (codes "B")) (Some (StartIn o (Literal o (Integer 5)))) (Some (Literal o (Integer 60))) false (Some (CyclicEvery o (Literal o (Integer 1)))) None)))) ∷ (inr (Labelled ([]) (Scheduled o (scheduling (nm (codes "C")) None (Some (Literal o (Integer 60))) false (Some (CyclicEvery o (Literal o (Integer 1)))) None)))) ∷ (inr (Labelled ([]) (Cancel o ((nm (codes "A")) ∷ (nm (codes "B")) ∷ (nm (codes "C")) ∷ [])))) ∷ (inl (BlockOf (nm (codes "A")) (Task o) ([]) (el ([])) (Some (nm (codes "A"))))) ∷ (inl (BlockOf (nm (codes "B")) (Task o) ([]) (el ([])) (Some (nm (codes "B"))))) ∷ (inl (BlockOf (nm (codes "C")) (Task o) ([]) (el ((inr (Labelled ([]) (Wait o (Decimal o 500)))) ∷ (inr (Labelled ([]) (Write o (Literal o (Integer 6)) (es ((Literal o (Text (codes "C"))) ∷ []))))) ∷ [])) (Some (nm (codes "C"))))) ∷ [])) (Some (nm (codes "P"))))) ∷ [])

abbrev Says14 : Type 0
Says14 = reported 400 row14 ((line.Run 100) ∷ (line.Tick 500) ∷ (line.Run 100) ∷ []) ≡ codes "6: C\nend P.A 0 cancelled 1\nend P.B 0 cancelled 0\nend P 0 closed 1\nend P.C 500 cancelled 1\n"

-- TERMINATE of oneself ends the dependents
abbrev row15 : List File
row15 = ((file_of ([]) (BlockOf (nm (codes "P")) (Program o) ((Declare o ([]) ((declared_of (nm (codes "K")) ((Typed (IntegerKind o)) ∷ (LockGroup o (Literal o (Integer 1))) ∷ [])) ∷ [])) ∷ []) (el ((inr (Labelled ([]) (Scheduled o (scheduling (nm (codes "D")) None None true None None)))) ∷ (inr (Labelled ([]) (Terminate o ([])))) ∷ (inl (BlockOf (nm (codes "D")) (Task o) ([]) (el ((inr (Labelled ((nm (codes "U")) ∷ []) (Update o (st ((Labelled ([]) (Assignment o ((Refers o (codes "K") ([]) Unsubscripted) ∷ []) (Sum o None (Referred (Refers o (codes "K") ([]) Unsubscripted)) (ts ((Plus, (Literal o (Integer 1))) ∷ []))))) ∷ (Labelled ([]) (Assignment o ((Refers o (codes "K") ([]) Unsubscripted) ∷ []) (Sum o None (Referred (Refers o (codes "K") ([]) Unsubscripted)) (ts ((Plus, (Literal o (Integer 1))) ∷ []))))) ∷ [])) (Some (nm (codes "U")))))) ∷ (inr (Labelled ([]) (Write o (Literal o (Integer 6)) (es ((Literal o (Text (codes "NO"))) ∷ []))))) ∷ [])) (Some (nm (codes "D"))))) ∷ [])) (Some (nm (codes "P"))))) ∷ [])

abbrev Says15 : Type 0
Says15 = reported 9 row15 ((line.Run 10) ∷ []) ≡ codes "end P.D 0 terminated 0\nend P 0 terminated 0\nP.K = 0\n"

-- two tasks count in UPDATE blocks
abbrev row16 : List File
row16 = ((file_of ([]) (BlockOf (nm (codes "P")) (Program o) ((Declare o ([]) ((declared_of (nm (codes "K")) ((Typed (IntegerKind o)) ∷ (LockGroup o (Literal o (Integer 1))) ∷ [])) ∷ [])) ∷ []) (el ((inr (Labelled ([]) (Scheduled o (scheduling (nm (codes "A")) None None false None None)))) ∷ (inr (Labelled ([]) (Scheduled o (scheduling (nm (codes "B")) None None false None None)))) ∷ (inl (BlockOf (nm (codes "A")) (Task o) ((Declare o ([]) ((declared_of (nm (codes "I")) ((Typed (IntegerKind o)) ∷ [])) ∷ [])) ∷ []) (el ((inr (Labelled ([]) (DoFor o false (nm (codes "I")) (Stepped (Literal o (Integer 1)) (Literal o (Integer 4)) None) None (Groups (st ((Labelled ((nm (codes "U")) ∷ []) (Update o (st ((Labelled ([]) (Assignment o ((Refers o (codes "K") ([]) Unsubscripted) ∷ []) (Sum o None (Referred (Refers o (codes "K") ([]) Unsubscripted)) (ts ((Plus, (Literal o (Integer 1))) ∷ []))))) ∷ [])) (Some (nm (codes "U"))))) ∷ [])) None)))) ∷ [])) (Some (nm (codes "A"))))) ∷ (inl (BlockOf (nm (codes "B")) (Task o) ((Declare o ([]) ((declared_of (nm (codes "I")) ((Typed (IntegerKind o)) ∷ [])) ∷ [])) ∷ []) (el ((inr (Labelled ([]) (DoFor o false (nm (codes "I")) (Stepped (Literal o (Integer 1)) (Literal o (Integer 4)) None) None (Groups (st ((Labelled ((nm (codes "U")) ∷ []) (Update o (st ((Labelled ([]) (Assignment o ((Refers o (codes "K") ([]) Unsubscripted) ∷ []) (Sum o None (Referred (Refers o (codes "K") ([]) Unsubscripted)) (ts ((Plus, (Literal o (Integer 1))) ∷ []))))) ∷ [])) (Some (nm (codes "U"))))) ∷ [])) None)))) ∷ [])) (Some (nm (codes "B"))))) ∷ [])) (Some (nm (codes "P"))))) ∷ [])

abbrev Says16 : Type 0
Says16 = reported 9 row16 ((line.Run 1000) ∷ []) ≡ codes "end P 0 closed 1\nend P.A 0 closed 1\nend P.B 0 closed 1\nP.K = 8\nP.A.I = 4\nP.B.I = 4\n"

-- data are read from a channel
abbrev row17 : List File
row17 = ((file_of ([]) (BlockOf (nm (codes "P")) (Program o) ((Declare o ([]) ((declared_of (nm (codes "N")) ((Typed (IntegerKind o)) ∷ [])) ∷ (declared_of (nm (codes "C")) ((Typed (CharacterKind o (Literal o (Integer 4)))) ∷ [])) ∷ [])) ∷ []) (el ((inr (Labelled ([]) (Read o (Literal o (Integer 5)) ((Refers o (codes "N") ([]) Unsubscripted) ∷ (Refers o (codes "C") ([]) Unsubscripted) ∷ [])))) ∷ (inr (Labelled ([]) (Write o (Literal o (Integer 6)) (es ((Referred (Refers o (codes "N") ([]) Unsubscripted)) ∷ (Referred (Refers o (codes "C") ([]) Unsubscripted)) ∷ []))))) ∷ (inr (Labelled ([]) (Read o (Literal o (Integer 5)) ((Refers o (codes "N") ([]) Unsubscripted) ∷ [])))) ∷ [])) (Some (nm (codes "P"))))) ∷ [])

abbrev Says17 : Type 0
Says17 = reported 400 row17 ((line.Input 5 ((codes "-12") ∷ (codes "A B") ∷ [])) ∷ (line.Run 20) ∷ []) ≡ codes "6: -12 A B\nend P 0 error 3:1 0\nP.N = -12\nP.C = 'A B'\n"

-- the turns of an UPDATE block are used up
abbrev row18 : List File
row18 = ((file_of ([]) (BlockOf (nm (codes "P")) (Program o) ((Declare o ([]) ((declared_of (nm (codes "N")) ((Typed (IntegerKind o)) ∷ (Marked o Double) ∷ (LockGroup o (Literal o (Integer 2))) ∷ [])) ∷ [])) ∷ []) (el ((inr (Labelled ((nm (codes "U")) ∷ []) (Update o (st ((Labelled ([]) (DoLoop o (While o (Literal o True)) (Groups (st ((Labelled ([]) (Assignment o ((Refers o (codes "N") ([]) Unsubscripted) ∷ []) (Sum o None (Referred (Refers o (codes "N") ([]) Unsubscripted)) (ts ((Plus, (Literal o (Integer 1))) ∷ []))))) ∷ [])) None))) ∷ [])) (Some (nm (codes "U")))))) ∷ [])) (Some (nm (codes "P"))))) ∷ [])

abbrev Says18 : Type 0
Says18 = reported 7 row18 ((line.Run 10) ∷ []) ≡ codes "end P 0 error 1:8 0\nP.N = 7\n"

-- after an ignored 1:8 the loop is left, and the call isn't made
abbrev row19 : List File
row19 = ((file_of ([]) (BlockOf (nm (codes "P")) (Program o) ((Declare o ([]) ((declared_of (nm (codes "N")) ((Typed (IntegerKind o)) ∷ (Marked o Double) ∷ (LockGroup o (Literal o (Integer 2))) ∷ [])) ∷ [])) ∷ []) (el ((inr (Labelled ((nm (codes "U")) ∷ []) (Update o (st ((Labelled ([]) (OnErrorResponse o (OneError o o 1 o 8) Ignore None)) ∷ (Labelled ([]) (DoLoop o (While o (Literal o True)) (Groups (st ((Labelled ([]) (Assignment o ((Refers o (codes "N") ([]) Unsubscripted) ∷ []) (Sum o None (Referred (Refers o (codes "N") ([]) Unsubscripted)) (ts ((Plus, (Literal o (Integer 1))) ∷ []))))) ∷ [])) None))) ∷ (Labelled ([]) (Call o (nm (codes "Q")) (es ([])) ([]))) ∷ [])) (Some (nm (codes "U")))))) ∷ (inl (BlockOf (nm (codes "Q")) (Procedure o ([]) ([]) None) ([]) (el ((inr (Labelled ([]) (Assignment o ((Refers o (codes "N") ([]) Unsubscripted) ∷ []) (Literal o (Integer 0))))) ∷ [])) (Some (nm (codes "Q"))))) ∷ [])) (Some (nm (codes "P"))))) ∷ [])

abbrev Says19 : Type 0
Says19 = reported 5 row19 ((line.Run 10) ∷ []) ≡ codes "end P 0 closed 1\nP.N = 5\n"

-- a statement action of the UPDATE block is passed over once its turns are used up
abbrev row20 : List File
row20 = ((file_of ([]) (BlockOf (nm (codes "P")) (Program o) ((Declare o ([]) ((declared_of (nm (codes "K")) ((Typed (IntegerKind o)) ∷ [])) ∷ (declared_of (nm (codes "N")) ((Typed (IntegerKind o)) ∷ (LockGroup o (Literal o (Integer 2))) ∷ [])) ∷ [])) ∷ []) (el ((inr (Labelled ([]) (OnErrorStatement o (OneError o o 1 o 8) (Labelled ([]) (Assignment o ((Refers o (codes "K") ([]) Unsubscripted) ∷ []) (Literal o (Integer 1))))))) ∷ (inr (Labelled ([]) (If o (Compare o (Referred (Refers o (codes "K") ([]) Unsubscripted)) Equal (Literal o (Integer 0))) (Labelled ((nm (codes "U")) ∷ []) (Update o (st ((Labelled ([]) (OnErrorStatement o (OneError o o 1 o 8) (Labelled ([]) (Assignment o ((Refers o (codes "N") ([]) Unsubscripted) ∷ []) (Literal o (Integer 100)))))) ∷ (Labelled ([]) (DoLoop o (While o (Literal o True)) (Groups (st ((Labelled ([]) (Assignment o ((Refers o (codes "N") ([]) Unsubscripted) ∷ []) (Sum o None (Referred (Refers o (codes "N") ([]) Unsubscripted)) (ts ((Plus, (Literal o (Integer 1))) ∷ []))))) ∷ [])) None))) ∷ [])) (Some (nm (codes "U"))))) NoAlternative))) ∷ (inr (Labelled ([]) (Write o (Literal o (Integer 6)) (es ((Referred (Refers o (codes "K") ([]) Unsubscripted)) ∷ []))))) ∷ [])) (Some (nm (codes "P"))))) ∷ [])

abbrev Says20 : Type 0
Says20 = reported 3 row20 ((line.Run 10) ∷ []) ≡ codes "6: 1\nend P 0 closed 1\nP.K = 1\nP.N = 3\n"

-- an error that leaves an UPDATE block completes it
abbrev row21 : List File
row21 = ((file_of ([]) (BlockOf (nm (codes "P")) (Program o) ((Declare o ([]) ((declared_of (nm (codes "K")) ((Typed (IntegerKind o)) ∷ [])) ∷ (declared_of (nm (codes "N")) ((Typed (IntegerKind o)) ∷ (LockGroup o (Literal o (Integer 2))) ∷ [])) ∷ [])) ∷ []) (el ((inr (Labelled ([]) (OnErrorStatement o (OneError o o 1 o 2) (Labelled ([]) (Assignment o ((Refers o (codes "K") ([]) Unsubscripted) ∷ []) (Sum o None (Referred (Refers o (codes "K") ([]) Unsubscripted)) (ts ((Plus, (Literal o (Integer 1))) ∷ [])))))))) ∷ (inr (Labelled ([]) (If o (Compare o (Referred (Refers o (codes "K") ([]) Unsubscripted)) Equal (Literal o (Integer 0))) (Labelled ((nm (codes "U")) ∷ []) (Update o (st ((Labelled ([]) (Assignment o ((Refers o (codes "N") ([]) Unsubscripted) ∷ []) (Literal o (Integer 4)))) ∷ (Labelled ([]) (Assignment o ((Refers o (codes "N") ([]) Unsubscripted) ∷ []) (Called o (codes "DIV") (es ((Literal o (Integer 1)) ∷ (Literal o (Integer 0)) ∷ []))))) ∷ (Labelled ([]) (Assignment o ((Refers o (codes "N") ([]) Unsubscripted) ∷ []) (Literal o (Integer 5)))) ∷ [])) (Some (nm (codes "U"))))) NoAlternative))) ∷ [])) (Some (nm (codes "P"))))) ∷ [])

abbrev Says21 : Type 0
Says21 = reported 9 row21 ((line.Run 12) ∷ []) ≡ codes "end P 0 closed 1\nP.K = 1\nP.N = 4\n"

-- signs, powers and products
abbrev row22 : List File
row22 = ((file_of ([]) (BlockOf (nm (codes "P")) (Program o) ([]) (el ((inr (Labelled ([]) (Write o (Literal o (Integer 6)) (es ((Product o (Literal o (Integer 2)) (es ((Parenthesis o (Sum o None (Literal o (Integer 3)) (ts ((Plus, (Literal o (Integer 4))) ∷ [])))) ∷ (Literal o (Integer 5)) ∷ []))) ∷ (Sum o (Some Minus) (Power o (Literal o (Integer 2)) (Literal o (Integer 2))) (ts ([]))) ∷ []))))) ∷ (inr (Labelled ([]) (Write o (Literal o (Integer 6)) (es ((Called o (codes "MOD") (es ((Sum o (Some Minus) (Literal o (Integer 7)) (ts ([]))) ∷ (Literal o (Integer 3)) ∷ []))) ∷ (Called o (codes "DIV") (es ((Sum o (Some Minus) (Literal o (Integer 7)) (ts ([]))) ∷ (Literal o (Integer 3)) ∷ []))) ∷ (Called o (codes "REMAINDER") (es ((Sum o (Some Minus) (Literal o (Integer 7)) (ts ([]))) ∷ (Literal o (Integer 3)) ∷ []))) ∷ (Cat o (Literal o (Bits 2 1)) (es ((Literal o (Bits 4 15)) ∷ []))) ∷ []))))) ∷ [])) (Some (nm (codes "P"))))) ∷ [])

abbrev Says22 : Type 0
Says22 = reported 400 row22 ((line.Run 9) ∷ []) ≡ codes "6: 70 -4\n6: 2 -2 -1 011111\nend P 0 closed 1\n"

-- a process gives way
abbrev row23 : List File
row23 = ((file_of ([]) (BlockOf (nm (codes "P")) (Program o) ([]) (el ((inr (Labelled ([]) (Scheduled o (scheduling (nm (codes "A")) None None false None None)))) ∷ (inr (Labelled ([]) (Scheduled o (scheduling (nm (codes "B")) None None false None None)))) ∷ (inl (BlockOf (nm (codes "A")) (Task o) ([]) (el ((inr (Labelled ([]) (Write o (Literal o (Integer 6)) (es ((Literal o (Text (codes "A1"))) ∷ []))))) ∷ (inr (Labelled ([]) (Write o (Literal o (Integer 6)) (es ((Literal o (Text (codes "A2"))) ∷ []))))) ∷ [])) (Some (nm (codes "A"))))) ∷ (inl (BlockOf (nm (codes "B")) (Task o) ([]) (el ((inr (Labelled ([]) (Write o (Literal o (Integer 6)) (es ((Literal o (Text (codes "B1"))) ∷ []))))) ∷ [])) (Some (nm (codes "B"))))) ∷ [])) (Some (nm (codes "P"))))) ∷ [])

abbrev Says23 : Type 0
Says23 = reported 400 row23 ((line.Run 6) ∷ (line.Preempt (codes "P.A")) ∷ (line.Run 100) ∷ []) ≡ codes "6: A1\n6: B1\n6: A2\nend P 0 closed 1\nend P.B 0 closed 1\nend P.A 0 closed 1\n"

-- a loop with a condition in it
abbrev row24 : List File
row24 = ((file_of ([]) (BlockOf (nm (codes "P")) (Program o) ((Declare o ([]) ((declared_of (nm (codes "N")) ((Typed (IntegerKind o)) ∷ [])) ∷ [])) ∷ []) (el ((inr (Labelled ([]) (DoLoop o (While o (Compare o (Referred (Refers o (codes "N") ([]) Unsubscripted)) Less (Literal o (Integer 3)))) (Groups (st ((Labelled ([]) (Assignment o ((Refers o (codes "N") ([]) Unsubscripted) ∷ []) (Sum o None (Referred (Refers o (codes "N") ([]) Unsubscripted)) (ts ((Plus, (Literal o (Integer 1))) ∷ []))))) ∷ (Labelled ([]) (If o (Compare o (Referred (Refers o (codes "N") ([]) Unsubscripted)) Equal (Literal o (Integer 2))) (Labelled ([]) (Write o (Literal o (Integer 6)) (es ((Referred (Refers o (codes "N") ([]) Unsubscripted)) ∷ [])))) NoAlternative)) ∷ [])) None)))) ∷ [])) (Some (nm (codes "P"))))) ∷ [])

abbrev Says24 : Type 0
Says24 = reported 400 row24 ((line.Run 3) ∷ (line.Tick 5) ∷ (line.Run 10) ∷ []) ≡ codes "6: 2\nend P 5 closed 1\nP.N = 3\n"

-- components of copies
abbrev row25 : List File
row25 = ((file_of ([]) (BlockOf (nm (codes "P")) (Program o) ((Structure o (nm (codes "S")) ((part_of o 1 (nm (codes "A")) ((Typed (IntegerKind o)) ∷ [])) ∷ (part_of o 1 (nm (codes "B")) ((Typed (CharacterKind o (Literal o (Integer 2)))) ∷ [])) ∷ [])) ∷ (Declare o ([]) ((declared_of (nm (codes "Z")) ((Typed (StructureKind o (codes "S") (Some (Literal o (Integer 2))))) ∷ [])) ∷ [])) ∷ []) (el ((inr (Labelled ([]) (Assignment o ((Refers o (codes "Z") ((nm (codes "A")) ∷ []) (ByParts o (ss ((One (FromBeginning (Literal o (Integer 2)))) ∷ [])) (ss ([])) (ss ([])))) ∷ []) (Literal o (Integer 7))))) ∷ (inr (Labelled ([]) (Assignment o ((Refers o (codes "Z") ((nm (codes "B")) ∷ []) (ByParts o (ss ((One (FromEnd o (ts ([])))) ∷ [])) (ss ([])) (ss ([])))) ∷ []) (Literal o (Text (codes "XYZ")))))) ∷ (inr (Labelled ([]) (Write o (Literal o (Integer 6)) (es ((Referred (Refers o (codes "Z") ((nm (codes "A")) ∷ []) (ByParts o (ss ((One (FromBeginning (Literal o (Integer 2)))) ∷ [])) (ss ([])) (ss ([]))))) ∷ (Referred (Refers o (codes "Z") ((nm (codes "B")) ∷ []) (ByParts o (ss ((One (FromBeginning (Literal o (Integer 2)))) ∷ [])) (ss ([])) (ss ([]))))) ∷ []))))) ∷ [])) (Some (nm (codes "P"))))) ∷ [])

abbrev Says25 : Type 0
Says25 = reported 400 row25 ((line.Run 9) ∷ []) ≡ codes "6: 7 XY\nend P 0 closed 1\nP.Z.A$(1;) = 0\nP.Z.B$(1;) = ''\nP.Z.A$(2;) = 7\nP.Z.B$(2;) = 'XY'\n"

-- DO FOR in both forms, a FUNCTION, and DO CASE out of range
abbrev row26 : List File
row26 = ((file_of ([]) (BlockOf (nm (codes "P")) (Program o) ((Declare o ([]) ((declared_of (nm (codes "I")) ((Typed (IntegerKind o)) ∷ [])) ∷ (declared_of (nm (codes "S")) ((Typed (IntegerKind o)) ∷ [])) ∷ [])) ∷ []) (el ((inr (Labelled ([]) (DoFor o false (nm (codes "I")) (Stepped (Literal o (Integer 1)) (Literal o (Integer 9)) (Some (Literal o (Integer 4)))) None (Groups (st ((Labelled ([]) (Assignment o ((Refers o (codes "S") ([]) Unsubscripted) ∷ []) (Sum o None (Referred (Refers o (codes "S") ([]) Unsubscripted)) (ts ((Plus, (Referred (Refers o (codes "I") ([]) Unsubscripted))) ∷ []))))) ∷ [])) None)))) ∷ (inr (Labelled ([]) (Write o (Literal o (Integer 6)) (es ((Referred (Refers o (codes "S") ([]) Unsubscripted)) ∷ (Referred (Refers o (codes "I") ([]) Unsubscripted)) ∷ []))))) ∷ (inr (Labelled ([]) (DoFor o true (nm (codes "K")) (Listed (es ((Literal o (Integer 3)) ∷ (Literal o (Integer 1)) ∷ []))) None (Groups (st ((Labelled ([]) (Assignment o ((Refers o (codes "S") ([]) Unsubscripted) ∷ []) (Called o (codes "F") (es ((Referred (Refers o (codes "K") ([]) Unsubscripted)) ∷ []))))) ∷ (Labelled ([]) (DoCase o (Referred (Refers o (codes "S") ([]) Unsubscripted)) NoAlternative (Groups (st ((Labelled ([]) (Write o (Literal o (Integer 6)) (es ((Literal o (Text (codes "ONE"))) ∷ [])))) ∷ (Labelled ([]) (Write o (Literal o (Integer 6)) (es ((Literal o (Text (codes "TWO"))) ∷ [])))) ∷ [])) None))) ∷ [])) None)))) ∷ (inl (BlockOf (nm (codes "F")) (Function o ((nm (codes "X")) ∷ []) (HasKind (IntegerKind o) None) None) ((Declare o ([]) ((declared_of (nm (codes "X")) ((Typed (IntegerKind o)) ∷ [])) ∷ [])) ∷ []) (el ((inr (Labelled ([]) (Return o (Some (Referred (Refers o (codes "X") ([]) Unsubscripted)))))) ∷ [])) (Some (nm (codes "F"))))) ∷ [])) (Some (nm (codes "P"))))) ∷ [])

abbrev Says26 : Type 0
Says26 = reported 400 row26 ((line.Run 50) ∷ []) ≡ codes "6: 15 9\nend P 0 error 1:6 0\nP.I = 9\nP.S = 3\n"

-- OFF ERROR takes an entry back
abbrev row27 : List File
row27 = ((file_of ([]) (BlockOf (nm (codes "P")) (Program o) ([]) (el ((inr (Labelled ([]) (OnErrorStatement o (GroupErrors o o 7) (Labelled ([]) (Write o (Literal o (Integer 6)) (es ((Literal o (Text (codes "SEVEN"))) ∷ (Referred (Refers o (codes "ERRNUM") ([]) Unsubscripted)) ∷ []))))))) ∷ (inr (Labelled ([]) (If o (Compare o (Referred (Refers o (codes "ERRGRP") ([]) Unsubscripted)) Equal (Literal o (Integer 0))) (Labelled ([]) (Call o (nm (codes "Q")) (es ([])) ([]))) NoAlternative))) ∷ (inl (BlockOf (nm (codes "Q")) (Procedure o ([]) ([]) None) ([]) (el ((inr (Labelled ([]) (OnErrorResponse o (OneError o o 7 o 2) Ignore None))) ∷ (inr (Labelled ([]) (OffError o (OneError o o 7 o 2)))) ∷ (inr (Labelled ([]) (SendError o o 7 o 2))) ∷ (inr (Labelled ([]) (Write o (Literal o (Integer 6)) (es ((Literal o (Text (codes "NO"))) ∷ []))))) ∷ [])) (Some (nm (codes "Q"))))) ∷ [])) (Some (nm (codes "P"))))) ∷ [])

abbrev Says27 : Type 0
Says27 = reported 400 row27 ((line.Run 20) ∷ []) ≡ codes "6: SEVEN 2\nend P 0 closed 1\n"

-- a guard ends the cycles
abbrev row28 : List File
row28 = ((file_of ([]) (BlockOf (nm (codes "P")) (Program o) ([]) (el ((inr (Labelled ([]) (Scheduled o (scheduling (nm (codes "T")) None (Some (Literal o (Integer 60))) false (Some (CyclicEvery o (Literal o (Integer 1)))) (Some (Until o (Literal o (Integer 2)))))))) ∷ (inl (BlockOf (nm (codes "T")) (Task o) ([]) (el ((inr (Labelled ([]) (Write o (Literal o (Integer 6)) (es ((Referred (Refers o (codes "RUNTIME") ([]) Unsubscripted)) ∷ []))))) ∷ [])) (Some (nm (codes "T"))))) ∷ [])) (Some (nm (codes "P"))))) ∷ [])

abbrev Says28 : Type 0
Says28 = reported 400 row28 ((line.Run 20) ∷ (line.Tick 1000) ∷ (line.Run 20) ∷ (line.Tick 1000) ∷ (line.Run 20) ∷ []) ≡ codes "6: 0\n6: 1\nend P 0 closed 1\nend P.T 2000 cancelled 2\n"

-- a FUNCTION that reaches its CLOSE gives its zero value where that is ignored
abbrev row29 : List File
row29 = ((file_of ([]) (BlockOf (nm (codes "P")) (Program o) ((Declare o ([]) ((declared_of (nm (codes "C")) ((Typed (CharacterKind o (Literal o (Integer 3)))) ∷ (InitialValues o (is ((Value (Literal o (Text (codes "ABC")))) ∷ []))) ∷ [])) ∷ [])) ∷ []) (el ((inr (Labelled ([]) (OnErrorResponse o (OneError o o 1 o 7) Ignore None))) ∷ (inr (Labelled ([]) (Assignment o ((Refers o (codes "C") ([]) Unsubscripted) ∷ []) (Cat o (Referred (Refers o (codes "F") ([]) Unsubscripted)) (es ((Literal o (Text (codes "X"))) ∷ [])))))) ∷ (inr (Labelled ([]) (Write o (Literal o (Integer 6)) (es ((Referred (Refers o (codes "C") ([]) Unsubscripted)) ∷ (Sum o None (Referred (Refers o (codes "G") ([]) Unsubscripted)) (ts ((Plus, (Literal o (Integer 1))) ∷ []))) ∷ []))))) ∷ (inl (BlockOf (nm (codes "F")) (Function o ([]) (HasKind (CharacterKind o (Literal o (Integer 3))) None) None) ([]) (el ((inr (Labelled ([]) (OnErrorResponse o (OneError o o 1 o 7) Ignore None))) ∷ [])) (Some (nm (codes "F"))))) ∷ (inl (BlockOf (nm (codes "G")) (Function o ([]) (HasKind (IntegerKind o) None) None) ([]) (el ([])) (Some (nm (codes "G"))))) ∷ [])) (Some (nm (codes "P"))))) ∷ [])

abbrev Says29 : Type 0
Says29 = reported 400 row29 ((line.Run 20) ∷ []) ≡ codes "6: X 1\nend P 0 closed 1\nP.C = 'X'\n"

-- AUTOMATIC data begin anew, STATIC data are kept
abbrev row30 : List File
row30 = ((file_of ([]) (BlockOf (nm (codes "P")) (Program o) ([]) (el ((inr (Labelled ([]) (Call o (nm (codes "Q")) (es ([])) ([])))) ∷ (inr (Labelled ([]) (Call o (nm (codes "Q")) (es ([])) ([])))) ∷ (inl (BlockOf (nm (codes "Q")) (Procedure o ([]) ([]) None) ((Declare o ([]) ((declared_of (nm (codes "A")) ((Typed (IntegerKind o)) ∷ (Marked o Automatic) ∷ (InitialValues o (is ((Value (Literal o (Integer 5))) ∷ []))) ∷ [])) ∷ [])) ∷ (Declare o ([]) ((declared_of (nm (codes "S")) ((Typed (IntegerKind o)) ∷ (InitialValues o (is ((Value (Literal o (Integer 5))) ∷ []))) ∷ [])) ∷ [])) ∷ []) (el ((inr (Labelled ([]) (Assignment o ((Refers o (codes "A") ([]) Unsubscripted) ∷ []) (Sum o None (Referred (Refers o (codes "A") ([]) Unsubscripted)) (ts ((Plus, (Literal o (Integer 1))) ∷ [])))))) ∷ (inr (Labelled ([]) (Assignment o ((Refers o (codes "S") ([]) Unsubscripted) ∷ []) (Sum o None (Referred (Refers o (codes "S") ([]) Unsubscripted)) (ts ((Plus, (Literal o (Integer 1))) ∷ [])))))) ∷ (inr (Labelled ([]) (Write o (Literal o (Integer 6)) (es ((Referred (Refers o (codes "A") ([]) Unsubscripted)) ∷ (Referred (Refers o (codes "S") ([]) Unsubscripted)) ∷ []))))) ∷ [])) (Some (nm (codes "Q"))))) ∷ [])) (Some (nm (codes "P"))))) ∷ [])

abbrev Says30 : Type 0
Says30 = reported 400 row30 ((line.Run 20) ∷ []) ≡ codes "6: 6 6\n6: 6 7\nend P 0 closed 1\nP.Q.S = 7\n"

-- a REENTRANT block's STATIC data are shared, its AUTOMATIC data each process's own
abbrev row31 : List File
row31 = ((file_of ([]) (BlockOf (nm (codes "P")) (Program o) ([]) (el ((inr (Labelled ([]) (Scheduled o (scheduling (nm (codes "T")) None (Some (Literal o (Integer 60))) false None None)))) ∷ (inr (Labelled ([]) (Call o (nm (codes "Q")) (es ([])) ([])))) ∷ (inl (BlockOf (nm (codes "T")) (Task o) ([]) (el ((inr (Labelled ([]) (Call o (nm (codes "Q")) (es ([])) ([])))) ∷ [])) (Some (nm (codes "T"))))) ∷ (inl (BlockOf (nm (codes "Q")) (Procedure o ([]) ([]) (Some (Reentrant o))) ((Declare o ([]) ((declared_of (nm (codes "A")) ((Typed (IntegerKind o)) ∷ (Marked o Automatic) ∷ [])) ∷ [])) ∷ (Declare o ([]) ((declared_of (nm (codes "S")) ((Typed (IntegerKind o)) ∷ [])) ∷ [])) ∷ []) (el ((inr (Labelled ([]) (Assignment o ((Refers o (codes "A") ([]) Unsubscripted) ∷ []) (Sum o None (Referred (Refers o (codes "A") ([]) Unsubscripted)) (ts ((Plus, (Literal o (Integer 1))) ∷ [])))))) ∷ (inr (Labelled ([]) (Assignment o ((Refers o (codes "S") ([]) Unsubscripted) ∷ []) (Sum o None (Referred (Refers o (codes "S") ([]) Unsubscripted)) (ts ((Plus, (Literal o (Integer 1))) ∷ [])))))) ∷ (inr (Labelled ([]) (Write o (Literal o (Integer 6)) (es ((Referred (Refers o (codes "A") ([]) Unsubscripted)) ∷ (Referred (Refers o (codes "S") ([]) Unsubscripted)) ∷ []))))) ∷ [])) (Some (nm (codes "Q"))))) ∷ [])) (Some (nm (codes "P"))))) ∷ [])

abbrev Says31 : Type 0
Says31 = reported 400 row31 ((line.Run 30) ∷ []) ≡ codes "6: 1 1\n6: 1 2\nend P.T 0 closed 1\nend P 0 closed 1\nP.Q.S = 2\n"

-- an array and a structure as arguments, and an ASSIGN parameter
abbrev row32 : List File
row32 = ((file_of ([]) (BlockOf (nm (codes "P")) (Program o) ((Structure o (nm (codes "S")) ((part_of o 1 (nm (codes "A")) ((Typed (IntegerKind o)) ∷ [])) ∷ (part_of o 1 (nm (codes "B")) ((Dimensions o (es ((Literal o (Integer 2)) ∷ []))) ∷ (Typed (IntegerKind o)) ∷ [])) ∷ [])) ∷ (Declare o ([]) ((declared_of (nm (codes "Z")) ((Typed (StructureKind o (codes "S") None)) ∷ [])) ∷ (declared_of (nm (codes "N")) ((Typed (IntegerKind o)) ∷ [])) ∷ [])) ∷ []) (el ((inr (Labelled ([]) (Assignment o ((Refers o (codes "Z") ((nm (codes "A")) ∷ []) Unsubscripted) ∷ []) (Literal o (Integer 1))))) ∷ (inr (Labelled ([]) (Assignment o ((Refers o (codes "Z") ((nm (codes "B")) ∷ []) (ByInteger o o 1)) ∷ []) (Literal o (Integer 2))))) ∷ (inr (Labelled ([]) (Assignment o ((Refers o (codes "Z") ((nm (codes "B")) ∷ []) (ByInteger o o 2)) ∷ []) (Literal o (Integer 3))))) ∷ (inr (Labelled ([]) (Call o (nm (codes "Q")) (es ((Referred (Refers o (codes "Z") ([]) Unsubscripted)) ∷ (Referred (Refers o (codes "Z") ((nm (codes "B")) ∷ []) Unsubscripted)) ∷ [])) ((Refers o (codes "N") ([]) Unsubscripted) ∷ [])))) ∷ (inr (Labelled ([]) (Write o (Literal o (Integer 6)) (es ((Referred (Refers o (codes "N") ([]) Unsubscripted)) ∷ []))))) ∷ (inl (BlockOf (nm (codes "Q")) (Procedure o ((nm (codes "X")) ∷ (nm (codes "Y")) ∷ []) ((nm (codes "R")) ∷ []) None) ((Declare o ([]) ((declared_of (nm (codes "X")) ((Typed (StructureKind o (codes "S") None)) ∷ [])) ∷ (declared_of (nm (codes "Y")) ((Dimensions o (es ((Literal o (Integer 2)) ∷ []))) ∷ (Typed (IntegerKind o)) ∷ [])) ∷ (declared_of (nm (codes "R")) ((Typed (IntegerKind o)) ∷ [])) ∷ [])) ∷ []) (el ((inr (Labelled ([]) (Assignment o ((Refers o (codes "R") ([]) Unsubscripted) ∷ []) (Sum o None (Product o (Referred (Refers o (codes "X") ((nm (codes "A")) ∷ []) Unsubscripted)) (es ((Literal o (Integer 100)) ∷ []))) (ts ((Plus, (Product o (Referred (Refers o (codes "X") ((nm (codes "B")) ∷ []) (ByInteger o o 2))) (es ((Literal o (Integer 10)) ∷ [])))) ∷ (Plus, (Referred (Refers o (codes "Y") ([]) (ByInteger o o 1)))) ∷ [])))))) ∷ [])) (Some (nm (codes "Q"))))) ∷ [])) (Some (nm (codes "P"))))) ∷ [])

abbrev Says32 : Type 0
Says32 = reported 400 row32 ((line.Run 20) ∷ []) ≡ codes "6: 132\nend P 0 closed 1\nP.Z.A = 1\nP.Z.B$(1) = 2\nP.Z.B$(2) = 3\nP.N = 132\n"

-- a FUNCTION in a subscript, and in a receiver's
abbrev row33 : List File
row33 = ((file_of ([]) (BlockOf (nm (codes "P")) (Program o) ((Declare o ([]) ((declared_of (nm (codes "A")) ((Dimensions o (es ((Literal o (Integer 3)) ∷ []))) ∷ (Typed (IntegerKind o)) ∷ [])) ∷ [])) ∷ []) (el ((inr (Labelled ([]) (Assignment o ((Refers o (codes "A") ([]) (ByParts o (ss ([])) (ss ([])) (ss ((One (FromBeginning (Called o (codes "F") (es ((Literal o (Integer 1)) ∷ []))))) ∷ [])))) ∷ []) (Literal o (Integer 5))))) ∷ (inr (Labelled ([]) (Write o (Literal o (Integer 6)) (es ((Referred (Refers o (codes "A") ([]) (ByParts o (ss ([])) (ss ([])) (ss ((One (FromBeginning (Called o (codes "F") (es ((Literal o (Integer 1)) ∷ []))))) ∷ []))))) ∷ (Referred (Refers o (codes "A") ([]) (ByParts o (ss ([])) (ss ([])) (ss ((One (FromBeginning (Called o (codes "F") (es ((Literal o (Integer 2)) ∷ []))))) ∷ []))))) ∷ []))))) ∷ (inl (BlockOf (nm (codes "F")) (Function o ((nm (codes "X")) ∷ []) (HasKind (IntegerKind o) None) None) ((Declare o ([]) ((declared_of (nm (codes "X")) ((Typed (IntegerKind o)) ∷ [])) ∷ [])) ∷ []) (el ((inr (Labelled ([]) (Return o (Some (Sum o None (Referred (Refers o (codes "X") ([]) Unsubscripted)) (ts ((Plus, (Literal o (Integer 1))) ∷ []))))))) ∷ [])) (Some (nm (codes "F"))))) ∷ [])) (Some (nm (codes "P"))))) ∷ [])

abbrev Says33 : Type 0
Says33 = reported 400 row33 ((line.Run 20) ∷ []) ≡ codes "6: 5 0\nend P 0 closed 1\nP.A$(1) = 0\nP.A$(2) = 5\nP.A$(3) = 0\n"

-- a TEMPORARY hides a variable
abbrev row34 : List File
row34 = ((file_of ([]) (BlockOf (nm (codes "P")) (Program o) ((Declare o ([]) ((declared_of (nm (codes "K")) ((Typed (IntegerKind o)) ∷ (InitialValues o (is ((Value (Literal o (Integer 9))) ∷ []))) ∷ [])) ∷ [])) ∷ []) (el ((inr (Labelled ([]) (DoFor o true (nm (codes "K")) (Stepped (Literal o (Integer 1)) (Literal o (Integer 2)) None) None (Groups (st ((Labelled ([]) (Write o (Literal o (Integer 6)) (es ((Referred (Refers o (codes "K") ([]) Unsubscripted)) ∷ [])))) ∷ [])) None)))) ∷ (inr (Labelled ([]) (Write o (Literal o (Integer 6)) (es ((Referred (Refers o (codes "K") ([]) Unsubscripted)) ∷ []))))) ∷ [])) (Some (nm (codes "P"))))) ∷ [])

abbrev Says34 : Type 0
Says34 = reported 400 row34 ((line.Run 20) ∷ []) ≡ codes "6: 1\n6: 2\n6: 9\nend P 0 closed 1\nP.K = 9\n"

-- EXIT and REPEAT of an outer group
abbrev row35 : List File
row35 = ((file_of ([]) (BlockOf (nm (codes "P")) (Program o) ((Declare o ([]) ((declared_of (nm (codes "I")) ((Typed (IntegerKind o)) ∷ [])) ∷ (declared_of (nm (codes "J")) ((Typed (IntegerKind o)) ∷ [])) ∷ [])) ∷ []) (el ((inr (Labelled ((nm (codes "A")) ∷ []) (DoFor o false (nm (codes "I")) (Stepped (Literal o (Integer 1)) (Literal o (Integer 3)) None) None (Groups (st ((Labelled ([]) (DoFor o false (nm (codes "J")) (Stepped (Literal o (Integer 1)) (Literal o (Integer 3)) None) None (Groups (st ((Labelled ([]) (If o (Compare o (Referred (Refers o (codes "J") ([]) Unsubscripted)) Equal (Literal o (Integer 2))) (Labelled ([]) (Repeat o (Some (nm (codes "A"))))) NoAlternative)) ∷ (Labelled ([]) (If o (Compare o (Referred (Refers o (codes "I") ([]) Unsubscripted)) Equal (Literal o (Integer 3))) (Labelled ([]) (Exit o (Some (nm (codes "A"))))) NoAlternative)) ∷ (Labelled ([]) (Write o (Literal o (Integer 6)) (es ((Referred (Refers o (codes "I") ([]) Unsubscripted)) ∷ (Referred (Refers o (codes "J") ([]) Unsubscripted)) ∷ [])))) ∷ [])) None))) ∷ [])) None)))) ∷ (inr (Labelled ([]) (Write o (Literal o (Integer 6)) (es ((Literal o (Text (codes "END"))) ∷ []))))) ∷ [])) (Some (nm (codes "P"))))) ∷ [])

abbrev Says35 : Type 0
Says35 = reported 400 row35 ((line.Run 40) ∷ []) ≡ codes "6: 1 1\n6: 2 1\n6: END\nend P 0 closed 1\nP.I = 3\nP.J = 1\n"

-- UNTIL is tested after the first turn
abbrev row36 : List File
row36 = ((file_of ([]) (BlockOf (nm (codes "P")) (Program o) ((Declare o ([]) ((declared_of (nm (codes "N")) ((Typed (IntegerKind o)) ∷ [])) ∷ [])) ∷ []) (el ((inr (Labelled ([]) (DoLoop o (Until o (Compare o (Referred (Refers o (codes "N") ([]) Unsubscripted)) Greater (Literal o (Integer 1)))) (Groups (st ((Labelled ([]) (Assignment o ((Refers o (codes "N") ([]) Unsubscripted) ∷ []) (Sum o None (Referred (Refers o (codes "N") ([]) Unsubscripted)) (ts ((Plus, (Literal o (Integer 1))) ∷ []))))) ∷ (Labelled ([]) (Write o (Literal o (Integer 6)) (es ((Referred (Refers o (codes "N") ([]) Unsubscripted)) ∷ [])))) ∷ [])) None)))) ∷ (inr (Labelled ([]) (DoLoop o (Until o (Literal o True)) (Groups (st ((Labelled ([]) (Write o (Literal o (Integer 6)) (es ((Literal o (Text (codes "ONCE"))) ∷ [])))) ∷ [])) None)))) ∷ [])) (Some (nm (codes "P"))))) ∷ [])

abbrev Says36 : Type 0
Says36 = reported 400 row36 ((line.Run 20) ∷ []) ≡ codes "6: 1\n6: 2\n6: ONCE\nend P 0 closed 1\nP.N = 2\n"

-- DO FOR with UNTIL, backwards, and of no turn
abbrev row37 : List File
row37 = ((file_of ([]) (BlockOf (nm (codes "P")) (Program o) ((Declare o ([]) ((declared_of (nm (codes "I")) ((Typed (IntegerKind o)) ∷ [])) ∷ [])) ∷ []) (el ((inr (Labelled ([]) (DoFor o false (nm (codes "I")) (Stepped (Literal o (Integer 5)) (Literal o (Integer 1)) (Some (Sum o (Some Minus) (Literal o (Integer 2)) (ts ([]))))) (Some (Until o (Compare o (Referred (Refers o (codes "I") ([]) Unsubscripted)) Equal (Literal o (Integer 3))))) (Groups (st ((Labelled ([]) (Write o (Literal o (Integer 6)) (es ((Referred (Refers o (codes "I") ([]) Unsubscripted)) ∷ [])))) ∷ [])) None)))) ∷ (inr (Labelled ([]) (Write o (Literal o (Integer 6)) (es ((Referred (Refers o (codes "I") ([]) Unsubscripted)) ∷ []))))) ∷ (inr (Labelled ([]) (DoFor o false (nm (codes "I")) (Stepped (Literal o (Integer 2)) (Literal o (Integer 1)) None) None (Groups (st ((Labelled ([]) (Write o (Literal o (Integer 6)) (es ((Literal o (Text (codes "NO"))) ∷ [])))) ∷ [])) None)))) ∷ (inr (Labelled ([]) (Write o (Literal o (Integer 6)) (es ((Referred (Refers o (codes "I") ([]) Unsubscripted)) ∷ []))))) ∷ [])) (Some (nm (codes "P"))))) ∷ [])

abbrev Says37 : Type 0
Says37 = reported 400 row37 ((line.Run 20) ∷ []) ≡ codes "6: 5\n6: 3\n6: 2\nend P 0 closed 1\nP.I = 2\n"

-- ELSE of DO CASE
abbrev row38 : List File
row38 = ((file_of ([]) (BlockOf (nm (codes "P")) (Program o) ((Declare o ([]) ((declared_of (nm (codes "N")) ((Typed (IntegerKind o)) ∷ [])) ∷ [])) ∷ []) (el ((inr (Labelled ([]) (DoFor o false (nm (codes "N")) (Stepped (Literal o (Integer 0)) (Literal o (Integer 2)) None) None (Groups (st ((Labelled ([]) (DoCase o (Referred (Refers o (codes "N") ([]) Unsubscripted)) (Otherwise (Labelled ([]) (Write o (Literal o (Integer 6)) (es ((Literal o (Text (codes "ELSE"))) ∷ (Referred (Refers o (codes "N") ([]) Unsubscripted)) ∷ []))))) (Groups (st ((Labelled ([]) (Write o (Literal o (Integer 6)) (es ((Literal o (Text (codes "ONE"))) ∷ [])))) ∷ (Labelled ([]) (Do o (Groups (st ((Labelled ([]) (Write o (Literal o (Integer 6)) (es ((Literal o (Text (codes "TWO"))) ∷ [])))) ∷ [])) None))) ∷ [])) None))) ∷ [])) None)))) ∷ [])) (Some (nm (codes "P"))))) ∷ [])

abbrev Says38 : Type 0
Says38 = reported 400 row38 ((line.Run 20) ∷ []) ≡ codes "6: ELSE 0\n6: ONE\n6: TWO\nend P 0 closed 1\nP.N = 2\n"

-- conditions beside bits
abbrev row39 : List File
row39 = ((file_of ([]) (BlockOf (nm (codes "P")) (Program o) ((Declare o ([]) ((declared_of (nm (codes "B")) ((Typed (BitKind o (Literal o (Integer 4)))) ∷ (InitialValues o (is ((Value (Literal o (Bits 4 4))) ∷ []))) ∷ [])) ∷ (declared_of (nm (codes "N")) ((Typed (IntegerKind o)) ∷ [])) ∷ [])) ∷ []) (el ((inr (Labelled ([]) (If o (And o (Parenthesis o (Compare o (Referred (Refers o (codes "N") ([]) Unsubscripted)) Equal (Literal o (Integer 0)))) (es ((Referred (Refers o (codes "B") ([]) Unsubscripted)) ∷ []))) (Labelled ([]) (Write o (Literal o (Integer 6)) (es ((Literal o (Text (codes "YES"))) ∷ (And o (Referred (Refers o (codes "B") ([]) Unsubscripted)) (es ((Literal o (Bits 3 6)) ∷ []))) ∷ (Not o (Referred (Refers o (codes "B") ([]) Unsubscripted))) ∷ [])))) NoAlternative))) ∷ (inr (Labelled ([]) (If o (Referred (Refers o (codes "B") ([]) Unsubscripted)) (Labelled ([]) (Write o (Literal o (Integer 6)) (es ((Literal o (Text (codes "BITS"))) ∷ [])))) NoAlternative))) ∷ [])) (Some (nm (codes "P"))))) ∷ [])

abbrev Says39 : Type 0
Says39 = reported 400 row39 ((line.Run 20) ∷ []) ≡ codes "6: YES 0100 1011\n6: BITS\nend P 0 closed 1\nP.B = 0100\nP.N = 0\n"

-- a component of a receiver is replaced
abbrev row40 : List File
row40 = ((file_of ([]) (BlockOf (nm (codes "P")) (Program o) ((Declare o ([]) ((declared_of (nm (codes "C")) ((Typed (CharacterKind o (Literal o (Integer 5)))) ∷ (InitialValues o (is ((Value (Literal o (Text (codes "ABCDE")))) ∷ []))) ∷ [])) ∷ (declared_of (nm (codes "B")) ((Typed (BitKind o (Literal o (Integer 4)))) ∷ [])) ∷ [])) ∷ []) (el ((inr (Labelled ([]) (Assignment o ((Refers o (codes "C") ([]) (ByParts o (ss ([])) (ss ([])) (ss ((Range (FromBeginning (Literal o (Integer 2))) (FromBeginning (Literal o (Integer 3)))) ∷ [])))) ∷ []) (Literal o (Text (codes "X")))))) ∷ (inr (Labelled ([]) (Assignment o ((Refers o (codes "B") ([]) (ByInteger o o 3)) ∷ []) (Literal o True)))) ∷ (inr (Labelled ([]) (Assignment o ((Refers o (codes "C") ([]) (ByParts o (ss ([])) (ss ([])) (ss ((Portion (Literal o (Integer 2)) (FromBeginning (Literal o (Integer 4)))) ∷ [])))) ∷ []) (Literal o (Integer 7))))) ∷ (inr (Labelled ([]) (Write o (Literal o (Integer 6)) (es ((Referred (Refers o (codes "C") ([]) Unsubscripted)) ∷ (Referred (Refers o (codes "B") ([]) Unsubscripted)) ∷ []))))) ∷ [])) (Some (nm (codes "P"))))) ∷ [])

abbrev Says40 : Type 0
Says40 = reported 400 row40 ((line.Run 20) ∷ []) ≡ codes "6: AX 7  0010\nend P 0 closed 1\nP.C = 'AX 7 '\nP.B = 0010\n"

-- errors with IGNORE: the values of the table
abbrev row41 : List File
row41 = ((file_of ([]) (BlockOf (nm (codes "P")) (Program o) ((Declare o ([]) ((declared_of (nm (codes "A")) ((Dimensions o (es ((Literal o (Integer 2)) ∷ []))) ∷ (Typed (IntegerKind o)) ∷ (InitialValues o (is ((Value (Literal o (Integer 1))) ∷ (Value (Literal o (Integer 2))) ∷ []))) ∷ [])) ∷ (declared_of (nm (codes "C")) ((Typed (CharacterKind o (Literal o (Integer 3)))) ∷ (InitialValues o (is ((Value (Literal o (Text (codes "ABC")))) ∷ []))) ∷ [])) ∷ [])) ∷ []) (el ((inr (Labelled ([]) (OnErrorResponse o EveryError Ignore None))) ∷ (inr (Labelled ([]) (Write o (Literal o (Integer 6)) (es ((Referred (Refers o (codes "A") ([]) (ByParts o (ss ([])) (ss ([])) (ss ((One (FromBeginning (Literal o (Integer 9)))) ∷ []))))) ∷ (Referred (Refers o (codes "C") ([]) (ByParts o (ss ([])) (ss ([])) (ss ((Range (FromBeginning (Literal o (Integer 0))) (FromBeginning (Literal o (Integer 9)))) ∷ []))))) ∷ (Called o (codes "DIV") (es ((Literal o (Integer 1)) ∷ (Literal o (Integer 0)) ∷ []))) ∷ (Convert o ToInteger (Literal o (Text (codes "X")))) ∷ (Sum o None (Literal o (Integer 2147483647)) (ts ((Plus, (Literal o (Integer 1))) ∷ []))) ∷ (Called o (codes "SHL") (es ((Literal o (Integer 1)) ∷ (Literal o (Integer 40)) ∷ []))) ∷ []))))) ∷ [])) (Some (nm (codes "P"))))) ∷ [])

abbrev Says41 : Type 0
Says41 = reported 400 row41 ((line.Run 20) ∷ []) ≡ codes "6: 2 ABC 0 0 2147483647 2147483647\nend P 0 closed 1\nP.A$(1) = 1\nP.A$(2) = 2\nP.C = 'ABC'\n"

-- READ of a datum of another kind, ignored
abbrev row42 : List File
row42 = ((file_of ([]) (BlockOf (nm (codes "P")) (Program o) ((Declare o ([]) ((declared_of (nm (codes "N")) ((Typed (IntegerKind o)) ∷ (InitialValues o (is ((Value (Literal o (Integer 7))) ∷ []))) ∷ [])) ∷ (declared_of (nm (codes "M")) ((Typed (IntegerKind o)) ∷ [])) ∷ [])) ∷ []) (el ((inr (Labelled ([]) (OnErrorResponse o (GroupErrors o o 3) Ignore None))) ∷ (inr (Labelled ([]) (Read o (Literal o (Integer 1)) ((Refers o (codes "N") ([]) Unsubscripted) ∷ (Refers o (codes "M") ([]) Unsubscripted) ∷ (Refers o (codes "N") ([]) Unsubscripted) ∷ [])))) ∷ (inr (Labelled ([]) (Write o (Literal o (Integer 6)) (es ((Referred (Refers o (codes "N") ([]) Unsubscripted)) ∷ (Referred (Refers o (codes "M") ([]) Unsubscripted)) ∷ []))))) ∷ [])) (Some (nm (codes "P"))))) ∷ [])

abbrev Says42 : Type 0
Says42 = reported 400 row42 ((line.Input 1 ((codes "X") ∷ (codes "5") ∷ [])) ∷ (line.Run 20) ∷ []) ≡ codes "6: 7 5\nend P 0 closed 1\nP.N = 7\nP.M = 5\n"

-- UPDATE PRIORITY outside its range
abbrev row43 : List File
row43 = ((file_of ([]) (BlockOf (nm (codes "P")) (Program o) ([]) (el ((inr (Labelled ([]) (OnErrorResponse o (OneError o o 2 o 4) Ignore None))) ∷ (inr (Labelled ([]) (UpdatePriority o None (Literal o (Integer 999))))) ∷ (inr (Labelled ([]) (Scheduled o (scheduling (nm (codes "T")) None (Some (Sum o (Some Minus) (Literal o (Integer 5)) (ts ([])))) false None None)))) ∷ (inr (Labelled ([]) (Write o (Literal o (Integer 6)) (es ((Literal o (Text (codes "P"))) ∷ []))))) ∷ (inl (BlockOf (nm (codes "T")) (Task o) ([]) (el ((inr (Labelled ([]) (Write o (Literal o (Integer 6)) (es ((Literal o (Text (codes "T"))) ∷ []))))) ∷ [])) (Some (nm (codes "T"))))) ∷ [])) (Some (nm (codes "P"))))) ∷ [])

abbrev Says43 : Type 0
Says43 = reported 400 row43 ((line.Run 20) ∷ []) ≡ codes "6: P\n6: T\nend P 0 closed 1\nend P.T 0 closed 1\n"

-- ON ERROR with an event
abbrev row44 : List File
row44 = ((file_of ([]) (BlockOf (nm (codes "P")) (Program o) ((Declare o ([]) ((declared_of (nm (codes "E")) ((Typed (EventKind o)) ∷ (Marked o Latched) ∷ [])) ∷ [])) ∷ []) (el ((inr (Labelled ([]) (OnErrorResponse o (OneError o o 1 o 2) Ignore (Some (eventful o Set (nm (codes "E"))))))) ∷ (inr (Labelled ([]) (Write o (Literal o (Integer 6)) (es ((Called o (codes "DIV") (es ((Literal o (Integer 1)) ∷ (Literal o (Integer 0)) ∷ []))) ∷ (Referred (Refers o (codes "E") ([]) Unsubscripted)) ∷ []))))) ∷ [])) (Some (nm (codes "P"))))) ∷ [])

abbrev Says44 : Type 0
Says44 = reported 400 row44 ((line.Run 20) ∷ []) ≡ codes "6: 0 1\nend P 0 closed 1\nP.E = 1\n"

pub all_say : Says1 × Says2 × Says3 × Says4 × Says5 × Says6 × Says7 × Says8 × Says9 × Says10 × Says11 × Says12 × Says13 × Says14 × Says15 × Says16 × Says17 × Says18 × Says19 × Says20 × Says21 × Says22 × Says23 × Says24 × Says25 × Says26 × Says27 × Says28 × Says29 × Says30 × Says31 × Says32 × Says33 × Says34 × Says35 × Says36 × Says37 × Says38 × Says39 × Says40 × Says41 × Says42 × Says43 × Says44
unfolding digits words_reserved.reserved_words words_reserved.left_out_words phrases_gathereddeclarations.gathered_kind phrases_gathereddeclarations.gathered_initial phrases_gathereddeclarations.gathered_initials phrases_gathereddeclarations.gathered_attribute phrases_gathereddeclarations.gathered_item phrases_gathereddeclarations.still_open phrases_gathereddeclarations.innermost phrases_gathereddeclarations.is_bottom phrases_gathereddeclarations.gathered_part phrases_gathereddeclarations.gathered_parts phrases_gathereddeclarations.gathered_declaration phrases_gatheredexpressions.gathered phrases_gatheredexpressions.gathered_all phrases_gatheredexpressions.gathered_terms phrases_gatheredexpressions.gathered_reference phrases_gatheredexpressions.gathered_subscript phrases_gatheredexpressions.gathered_subs phrases_gatheredexpressions.gathered_sub phrases_gatheredexpressions.gathered_position phrases_gatheredstatements.gathered_guard phrases_gatheredstatements.gathered_span phrases_gatheredstatements.gathered_start phrases_gatheredstatements.gathered_cycle phrases_gatheredstatements.gathered_limit phrases_gatheredstatements.gathered_schedule phrases_gatheredstatements.begun_for phrases_gatheredstatements.around_for phrases_gatheredstatements.gathered_statement phrases_gatheredstatements.gathered_basic phrases_gatheredstatements.gathered_alternative phrases_gatheredstatements.gathered_group phrases_gatheredstatements.gathered_statements phrases_gatheredunits.gathered_returns phrases_gatheredunits.gathered_head phrases_gatheredunits.gathered_block phrases_gatheredunits.gathered_elements phrases_gatheredunits.around_template phrases_gatheredunits.gathered_template phrases_gatheredunits.gathered_preface phrases_gatheredunits.gathered_prefaces phrases_gatheredunits.name_of_block phrases_gatheredunits.gathered_file phrases_gatheredunits.phrases_of phrases_members.gathered_member phrases_members.gathered_members names_declarations.is_declaring names_declarations.with_places names_declarations.with_all_chosen names_keys.declared_at names_keys.same_space names_keys.same_key names_keys.own names_means.is_compool_unit names_means.unit_named names_means.given_by names_means.shown names_means.shown_by names_means.included names_means.included_before names_means.prefaces_of names_means.nearest names_tasks.with_homes scope_builtins.builtins scope_components.has_path scope_components.is_structure scope_components.type_has scope_components.has_component scope_components.lacks_in scope_components.lacks scope_labels.is_label_of scope_labels.misclosed scope_labels.is_loop scope_labels.group_around scope_labels.misled scope_labels.astray scope_repeated.given scope_repeated.is_of_block scope_repeated.twice scope_repeated.declares_one_there scope_repeated.declarations_of scope_repeated.included_twice scope_repeated.is_item scope_repeated.undeclared scope_rules.fault scope_rules.first_fault scope_sorts.type_in scope_sorts.type_among scope_sorts.sort_of_type scope_sorts.sort_of_head scope_sorts.sort_of scope_sorts.usage_of scope_sorts.use_of_reference scope_sorts.used scope_uses.unknown scope_uses.is_eventful scope_uses.is_nil scope_uses.refers_to_event scope_uses.holds_event scope_uses.hold_event scope_uses.limit_of scope_uses.limit_around scope_uses.misused kinds_attributes.count_of kinds_attributes.no_more kinds_attributes.sizes_in kinds_attributes.sizes_among kinds_attributes.initial_in kinds_attributes.initial_among kinds_attributes.constant_in kinds_attributes.constant_among kinds_attributes.same_mark kinds_attributes.is_mark kinds_classes.class_of_result kinds_classes.class_of_returns kinds_classes.class_of_head kinds_classes.class_of_form kinds_classes.class_of_builtin kinds_classes.class_at kinds_classes.class_of_reference kinds_classes.class_of_function kinds_classes.class_of_called_head kinds_classes.class_of_called kinds_classes.class_of_literal kinds_classes.class_of_conversion kinds_classes.beside kinds_classes.joined kinds_classes.enclosed kinds_classes.class_of kinds_classes.class_beside kinds_classes.class_joined kinds_data.class_of_type kinds_data.has_copies kinds_data.dimensions_of kinds_data.data_of kinds_data.part_data kinds_data.part_under kinds_data.data_at_part kinds_data.component_of kinds_data.component_data kinds_data.data_at kinds_data.is_event_type kinds_data.is_structure_type kinds_subscripts.subscript_count kinds_subscripts.is_many kinds_subscripts.are_many kinds_subscripts.parts_chosen kinds_subscripts.choice_of kinds_subscripts.is_structure_class constants_constants.operation_of_sign constants_constants.signed constants_constants.operation_of_conversion constants_constants.raised_to constants_constants.raised constants_constants.is_none constants_constants.factor_at constants_constants.constant_of constants_constants.folded constants_constants.summed constants_constants.computed constants_constants.computed_second constants_constants.multiplied constants_constants.referred constants_constants.subscripted constants_constants.component_of constants_constants.component_by constants_constants.place_of constants_known.size_of_integer constants_known.size_of_value constants_known.size_of constants_known.bits_kind constants_known.text_kind constants_known.kind_of constants_known.kind_of_type constants_known.gives_none constants_known.give_none constants_known.only_of constants_known.only_with constants_known.kept constants_known.fitted constants_known.only_in constants_known.declared_value constants_known.round constants_known.is_file constants_known.is_pooled constants_known.rounds constants_naming.constant_known constants_naming.constant_at constants_naming.literal_constant constants_naming.operation_of constants_operands.takes_one constants_operands.takes_two constants_operands.is_storable constants_operands.has_components constants_results.worth constants_results.worse constants_results.apply_one constants_results.apply_two constants_results.component_at constants_results.component_to constants_results.component_from constants_results.picked_one constants_results.picked_to constants_results.picked_from states_ofkinds.is_of
all_say = (refl, refl, refl, refl, refl, refl, refl, refl, refl, refl, refl, refl, refl, refl, refl, refl, refl, refl, refl, refl, refl, refl, refl, refl, refl, refl, refl, refl, refl, refl, refl, refl, refl, refl, refl, refl, refl, refl, refl, refl, refl, refl, refl, refl)
