-- Rows of processes.txt, written by tools/meaning_rows.
use Rattle.std.specs.Prelude.{◌≡◌, ℕ, List, [], ◌∷◌, Option, Some, None, true, false, codes}
use Rattle.std.specs.Fmt.{digits}
use Rattle.std.proofs.Common.{refl, inl, inr}
use Rattle.hal_grammar.specs.Leaves.{Plus, Minus, Equal, Less, Greater, AtMost, AtLeast, NotEqual, NotLess, NotGreater, ToInteger, ToBits, ToText, Integer, Text, Bits, True, False, On, Off}
use Rattle.hal_grammar.specs.Expressions.{Or, And, Compare, Cat, Sum, Product, Power, Not, Literal, Decimal, Referred, Called, Convert, Parenthesis, Refers, Unsubscripted, ByName, ByInteger, ByParts, Every, One, Range, Portion, FromBeginning, FromEnd}
use Rattle.hal_grammar.specs.Declarations.{Single, Double, Latched, Static, Automatic, Dense, Aligned, IntegerKind, BooleanKind, EventKind, BitKind, CharacterKind, StructureKind, Value, LiteralTimes, NameTimes, ListTimes, Dimensions, Typed, Marked, LockGroup, LockAny, InitialValues, ConstantValues, declared_of, part_of, Declare, Structure}
use Rattle.hal_grammar.specs.Statements.{While, Until, Stepped, Listed, EveryError, GroupErrors, OneError, Signal, Set, Reset, eventful, System, Ignore, StartAt, StartIn, StartOn, Cyclic, CyclicEvery, CyclicAfter, scheduling, Labelled, Null, Assignment, If, Do, DoCase, DoLoop, DoFor, Exit, Repeat, Return, Call, Read, Write, Update, Scheduled, Cancel, Terminate, Wait, WaitUntil, WaitForDependent, WaitFor, Event, UpdatePriority, OnErrorStatement, OnErrorResponse, OffError, SendError, NoAlternative, Otherwise, Groups}
use Rattle.hal_grammar.specs.Units.{Reentrant, Exclusive, SinglePrecision, DoublePrecision, NoKind, HasKind, Program, Compool, Task, Procedure, Function, BlockOf, template_of, Include, Templates, File, file_of}
use Rattle.exec_model.specs.declared.script.ScriptLine.TheVariants as line
use Rattle.meaning_rows.specs.Trees.{o, nm, es, ts, ss, is, st, el}
use Rattle.meaning_rows.specs.Playing.{reported}
use Rattle.hal_words.specs.Reserved as words_reserved
use Rattle.hal_phrases.specs.GatheredDeclarations as phrases_gathereddeclarations
use Rattle.hal_phrases.specs.GatheredExpressions as phrases_gatheredexpressions
use Rattle.hal_phrases.specs.GatheredStatements as phrases_gatheredstatements
use Rattle.hal_phrases.specs.GatheredUnits as phrases_gatheredunits
use Rattle.hal_phrases.specs.Members as phrases_members
use Rattle.hal_names.specs.Declarations as names_declarations
use Rattle.hal_names.specs.Keys as names_keys
use Rattle.hal_names.specs.Means as names_means
use Rattle.hal_names.specs.Tasks as names_tasks
use Rattle.hal_scope.specs.Builtins as scope_builtins
use Rattle.hal_scope.specs.Components as scope_components
use Rattle.hal_scope.specs.Labels as scope_labels
use Rattle.hal_scope.specs.Repeated as scope_repeated
use Rattle.hal_scope.specs.Rules as scope_rules
use Rattle.hal_scope.specs.Sorts as scope_sorts
use Rattle.hal_scope.specs.Uses as scope_uses
use Rattle.hal_kinds.specs.Attributes as kinds_attributes
use Rattle.hal_kinds.specs.Classes as kinds_classes
use Rattle.hal_kinds.specs.Data as kinds_data
use Rattle.hal_kinds.specs.Subscripts as kinds_subscripts
use Rattle.hal_constants.specs.Constants as constants_constants
use Rattle.hal_constants.specs.Known as constants_known
use Rattle.hal_constants.specs.Naming as constants_naming
use Rattle.hal_constants.specs.Operands as constants_operands
use Rattle.hal_constants.specs.Results as constants_results
use Rattle.hal_states.specs.OfKinds as states_ofkinds

-- processes 1: CANCEL of oneself, RESET, error 2:1 IGNORE, CANCEL of a list
abbrev row1 : List File
row1 = ((file_of ([]) (BlockOf (nm (codes "P")) (Program o) ((Declare o ([]) ((declared_of (nm (codes "OUT")) ((Typed (IntegerKind o)) ∷ (ConstantValues o (is ((Value (Literal o (Integer 6))) ∷ []))) ∷ [])) ∷ [])) ∷ (Declare o ([]) ((declared_of (nm (codes "K")) ((Typed (CharacterKind o (Literal o (Integer 4)))) ∷ (ConstantValues o (is ((Value (Convert o ToText (Literal o (Integer 7)))) ∷ []))) ∷ [])) ∷ [])) ∷ (Declare o ([]) ((declared_of (nm (codes "N")) ((Typed (IntegerKind o)) ∷ (Marked o Single) ∷ (InitialValues o (is ((Value (Sum o None (Product o (Literal o (Integer 100)) (es ((Literal o (Integer 2)) ∷ []))) (ts ((Minus, (Literal o (Integer 3))) ∷ [])))) ∷ []))) ∷ [])) ∷ [])) ∷ (Declare o ([]) ((declared_of (nm (codes "R")) ((Typed (BitKind o (Literal o (Integer 4)))) ∷ [])) ∷ [])) ∷ (Declare o ([]) ((declared_of (nm (codes "B")) ((Dimensions o (es ((Literal o (Integer 4)) ∷ []))) ∷ (Typed (CharacterKind o (Literal o (Integer 6)))) ∷ (InitialValues o (is ((Value (Convert o ToText (Literal o (Integer 7)))) ∷ []))) ∷ [])) ∷ [])) ∷ (Declare o ([]) ((declared_of (nm (codes "E")) ((Typed (EventKind o)) ∷ (Marked o Latched) ∷ [])) ∷ [])) ∷ (Declare o ([]) ((declared_of (nm (codes "I2")) ((Typed (IntegerKind o)) ∷ [])) ∷ [])) ∷ []) (el ((inr (Labelled ([]) (Scheduled o (scheduling (nm (codes "T")) None (Some (Literal o (Integer 40))) false None None)))) ∷ (inr (Labelled ([]) (Scheduled o (scheduling (nm (codes "T2")) None (Some (Literal o (Integer 60))) true None None)))) ∷ (inr (Labelled ([]) (OnErrorResponse o (OneError o o 2 o 1) Ignore None))) ∷ (inr (Labelled ([]) (Write o (Referred (Refers o (codes "OUT") ([]) Unsubscripted)) (es ((Called o (codes "ODD") (es ((Convert o ToInteger (Referred (Refers o (codes "R") ([]) Unsubscripted))) ∷ []))) ∷ (Called o (codes "REMAINDER") (es ((Called o (codes "N") (es ((Literal o (Integer 7)) ∷ []))) ∷ (Literal o (Integer 5)) ∷ []))) ∷ []))))) ∷ (inr (Labelled ([]) (Write o (Literal o (Integer 6)) (es ((Literal o (Text (codes "12"))) ∷ (Cat o (Called o (codes "LJUST") (es ((Referred (Refers o (codes "K") ([]) Unsubscripted)) ∷ (Referred (Refers o (codes "I2") ([]) Unsubscripted)) ∷ []))) (es ((Called o (codes "N") (es ((Referred (Refers o (codes "I2") ([]) Unsubscripted)) ∷ []))) ∷ []))) ∷ []))))) ∷ (inl (BlockOf (nm (codes "F")) (Function o ((nm (codes "A")) ∷ []) (HasKind (BooleanKind o) None) (Some (Reentrant o))) ((Declare o ([]) ((declared_of (nm (codes "A")) ((Dimensions o (es ((Literal o (Integer 2)) ∷ (Literal o (Integer 3)) ∷ []))) ∷ (Typed (BitKind o (Literal o (Integer 16)))) ∷ [])) ∷ [])) ∷ []) (el ((inr (Labelled ([]) (Assignment o ((Refers o (codes "B") ([]) (ByParts o (ss ([])) (ss ([])) (ss ((One (FromBeginning (Literal o (Integer 1)))) ∷ [])))) ∷ (Refers o (codes "B") ([]) (ByParts o (ss ([])) (ss ([])) (ss ((One (FromBeginning (Sum o None (Called o (codes "MOD") (es ((Called o (codes "LENGTH") (es ((Literal o (Text (codes "A"))) ∷ []))) ∷ (Literal o (Integer 4)) ∷ []))) (ts ((Plus, (Literal o (Integer 1))) ∷ []))))) ∷ [])))) ∷ []) (Convert o ToText (Convert o ToText (Convert o ToBits (Referred (Refers o (codes "N") ([]) Unsubscripted)))))))) ∷ (inr (Labelled ([]) (Cancel o ((nm (codes "T2")) ∷ (nm (codes "T2")) ∷ [])))) ∷ (inr (Labelled ([]) (Cancel o ([])))) ∷ (inr (Labelled ([]) (Return o (Some (Or o (And o (Referred (Refers o (codes "A") ([]) (ByParts o (ss ([])) (ss ([])) (ss ((One (FromBeginning (Literal o (Integer 2)))) ∷ (One (FromBeginning (Literal o (Integer 1)))) ∷ []))))) (es ((Referred (Refers o (codes "A") ([]) (ByParts o (ss ([])) (ss ([])) (ss ((One (FromBeginning (Literal o (Integer 1)))) ∷ (One (FromBeginning (Literal o (Integer 3)))) ∷ []))))) ∷ []))) (es ((And o (Literal o (Bits 7 100)) (es ((Literal o (Bits 4 6)) ∷ []))) ∷ []))))))) ∷ [])) None)) ∷ (inl (BlockOf (nm (codes "T")) (Task o) ((Declare o ([]) ((declared_of (nm (codes "J2")) ((Typed (IntegerKind o)) ∷ [])) ∷ [])) ∷ []) (el ((inr (Labelled ([]) (If o (Compare o (Called o (codes "ABS") (es ((Referred (Refers o (codes "ERRNUM") ([]) Unsubscripted)) ∷ []))) NotEqual (Literal o (Integer 0))) (Labelled ([]) (Event (eventful o Reset (nm (codes "E"))))) (Otherwise (Labelled ([]) (Write o (Referred (Refers o (codes "OUT") ([]) Unsubscripted)) (es ((Sum o None (Referred (Refers o (codes "N") ([]) Unsubscripted)) (ts ((Minus, (Literal o (Integer 2))) ∷ (Minus, (Literal o (Integer 100))) ∷ []))) ∷ (Cat o (Convert o ToText (Referred (Refers o (codes "R") ([]) Unsubscripted))) (es ((Called o (codes "REMAINDER") (es ((Literal o (Integer 31)) ∷ (Literal o (Integer 7)) ∷ []))) ∷ []))) ∷ (Cat o (Literal o (Bits 3 5)) (es ((Referred (Refers o (codes "R") ([]) (ByParts o (ss ([])) (ss ([])) (ss ((Every o) ∷ []))))) ∷ []))) ∷ (Literal o True) ∷ [])))))))) ∷ (inr (Labelled ([]) (Write o (Literal o (Integer 6)) (es ((Literal o (Text (codes "T"))) ∷ (Referred (Refers o (codes "RUNTIME") ([]) Unsubscripted)) ∷ []))))) ∷ [])) (Some (nm (codes "T"))))) ∷ (inl (BlockOf (nm (codes "T2")) (Task o) ([]) (el ((inr (Labelled ([]) (OnErrorResponse o (OneError o o 2 o 2) System None))) ∷ (inr (Labelled ([]) (OnErrorResponse o (OneError o o 2 o 1) Ignore None))) ∷ (inr (Labelled ([]) (Scheduled o (scheduling (nm (codes "P")) None None false None None)))) ∷ (inr (Labelled ([]) (Write o (Literal o (Integer 6)) (es ((Referred (Refers o (codes "ERRGRP") ([]) Unsubscripted)) ∷ (Referred (Refers o (codes "ERRNUM") ([]) Unsubscripted)) ∷ []))))) ∷ [])) (Some (nm (codes "T2"))))) ∷ [])) (Some (nm (codes "P"))))) ∷ [])

abbrev Says1 : Type 0
Says1 = reported 400 row1 ((line.Run 12) ∷ (line.Tick 300) ∷ (line.Run 3) ∷ (line.Tick 500) ∷ (line.Run 60) ∷ (line.Tick 10) ∷ (line.Run 60) ∷ (line.Tick 250) ∷ (line.Run 80) ∷ []) ≡ codes "6: 2 1\n6: 0 4\n6: 12 0\n6: 95 00003 1010000 1\n6: T 0\nend P.T2 0 closed 1\nend P 300 closed 1\nend P.T 800 closed 1\nP.N = 197\nP.R = 0000\nP.B$(1) = '7'\nP.B$(2) = '7'\nP.B$(3) = '7'\nP.B$(4) = '7'\nP.E = 0\nP.I2 = 0\nP.T.J2 = 0\n"

-- processes 4: error of SEND ERROR IGNORE, error 2:4 SYSTEM, DO CASE, SEND ERROR
abbrev row2 : List File
row2 = ((file_of ([]) (BlockOf (nm (codes "P")) (Program o) ((Declare o ([]) ((declared_of (nm (codes "OUT")) ((Typed (IntegerKind o)) ∷ (ConstantValues o (is ((Value (Literal o (Integer 6))) ∷ []))) ∷ [])) ∷ [])) ∷ (Declare o ([]) ((declared_of (nm (codes "N")) ((Typed (IntegerKind o)) ∷ (InitialValues o (is ((Value (Power o (Literal o (Integer 2)) (Literal o (Integer 2)))) ∷ []))) ∷ [])) ∷ (declared_of (nm (codes "R")) ((Typed (BitKind o (Literal o (Integer 4)))) ∷ (InitialValues o (is ((Value (Called o (codes "ODD") (es ((Literal o (Integer 7)) ∷ [])))) ∷ []))) ∷ [])) ∷ (declared_of (nm (codes "R2")) ((Typed (CharacterKind o (Literal o (Integer 6)))) ∷ (InitialValues o (is ((Value (Called o (codes "LJUST") (es ((Literal o (Text (codes "HELLO"))) ∷ (Literal o (Integer 4)) ∷ [])))) ∷ []))) ∷ [])) ∷ [])) ∷ (Declare o ([]) ((declared_of (nm (codes "I")) ((Typed (IntegerKind o)) ∷ [])) ∷ [])) ∷ (Declare o ([]) ((declared_of (nm (codes "I2")) ((Typed (IntegerKind o)) ∷ [])) ∷ [])) ∷ []) (el ((inr (Labelled ([]) (OnErrorResponse o (OneError o o 2 o 5) Ignore None))) ∷ (inr (Labelled ((nm (codes "L")) ∷ []) (DoCase o (Sum o None (Called o (codes "MOD") (es ((Product o (Parenthesis o (Sum o None (Called o (codes "ABS") (es ((Referred (Refers o (codes "N") ([]) Unsubscripted)) ∷ []))) (ts ((Minus, (Literal o (Integer 1))) ∷ [])))) (es ((Literal o (Integer 3)) ∷ []))) ∷ (Literal o (Integer 3)) ∷ []))) (ts ((Plus, (Literal o (Integer 1))) ∷ []))) NoAlternative (Groups (st ((Labelled ([]) (Write o (Referred (Refers o (codes "OUT") ([]) Unsubscripted)) (es ((Convert o ToInteger (Convert o ToText (Sum o None (Referred (Refers o (codes "N") ([]) Unsubscripted)) (ts ((Plus, (Literal o (Integer 12))) ∷ []))))) ∷ (And o (Called o (codes "XOR") (es ((Referred (Refers o (codes "R") ([]) Unsubscripted)) ∷ (Literal o (Bits 3 5)) ∷ []))) (es ((Called o (codes "XOR") (es ((Referred (Refers o (codes "R") ([]) Unsubscripted)) ∷ (Literal o (Bits 6 15)) ∷ []))) ∷ []))) ∷ (Cat o (Parenthesis o (Or o (Referred (Refers o (codes "R") ([]) Unsubscripted)) (es ((Literal o (Bits 3 5)) ∷ [])))) (es ((Called o (codes "XOR") (es ((Referred (Refers o (codes "R") ([]) (ByParts o (ss ([])) (ss ([])) (ss ((Range (FromBeginning (Literal o (Integer 1))) (FromEnd o (ts ([])))) ∷ []))))) ∷ (Referred (Refers o (codes "R") ([]) (ByParts o (ss ([])) (ss ([])) (ss ((Range (FromBeginning (Literal o (Integer 3))) (FromEnd o (ts ([])))) ∷ []))))) ∷ []))) ∷ []))) ∷ (Called o (codes "TRIM") (es ((Literal o (Text (codes "12"))) ∷ []))) ∷ [])))) ∷ (Labelled ([]) (Assignment o ((Refers o (codes "R2") ([]) Unsubscripted) ∷ []) (Cat o (Called o (codes "RJUST") (es ((Referred (Refers o (codes "R2") ([]) Unsubscripted)) ∷ (Parenthesis o (Sum o None (Called o (codes "ABS") (es ((Referred (Refers o (codes "N") ([]) Unsubscripted)) ∷ []))) (ts ((Minus, (Literal o (Integer 1))) ∷ [])))) ∷ []))) (es ((Called o (codes "RJUST") (es ((Literal o (Text (codes ""))) ∷ (Parenthesis o (Sum o None (Called o (codes "ABS") (es ((Referred (Refers o (codes "N") ([]) Unsubscripted)) ∷ []))) (ts ((Minus, (Literal o (Integer 1))) ∷ [])))) ∷ []))) ∷ []))))) ∷ [])) (Some (nm (codes "L"))))))) ∷ (inr (Labelled ([]) (OnErrorResponse o (OneError o o 255 o 255) Ignore None))) ∷ (inr (Labelled ([]) (SendError o o 255 o 255))) ∷ (inr (Labelled ([]) (Write o (Literal o (Integer 6)) (es ((Referred (Refers o (codes "I") ([]) Unsubscripted)) ∷ (Referred (Refers o (codes "I2") ([]) Unsubscripted)) ∷ (Referred (Refers o (codes "R") ([]) Unsubscripted)) ∷ []))))) ∷ (inr (Labelled ([]) (Write o (Literal o (Integer 6)) (es ((Referred (Refers o (codes "I2") ([]) Unsubscripted)) ∷ (And o (Parenthesis o (Or o (Referred (Refers o (codes "R") ([]) Unsubscripted)) (es ((Referred (Refers o (codes "R") ([]) Unsubscripted)) ∷ [])))) (es ((Parenthesis o (And o (Referred (Refers o (codes "R") ([]) (ByParts o (ss ([])) (ss ([])) (ss ((Range (FromBeginning (Literal o (Integer 4))) (FromEnd o (ts ([])))) ∷ []))))) (es ((Referred (Refers o (codes "R") ([]) Unsubscripted)) ∷ [])))) ∷ []))) ∷ (Referred (Refers o (codes "I2") ([]) Unsubscripted)) ∷ []))))) ∷ (inr (Labelled ([]) (UpdatePriority o None (Sum o (Some Minus) (Literal o (Integer 1)) (ts ([])))))) ∷ (inr (Labelled ([]) (Write o (Literal o (Integer 6)) (es ((Referred (Refers o (codes "R") ([]) Unsubscripted)) ∷ []))))) ∷ (inl (BlockOf (nm (codes "T")) (Task o) ((Declare o ([]) ((declared_of (nm (codes "J")) ((Typed (IntegerKind o)) ∷ [])) ∷ [])) ∷ []) (el ((inr (Labelled ([]) (Assignment o ((Refers o (codes "J") ([]) Unsubscripted) ∷ []) (Literal o (Integer 0))))) ∷ (inr (Labelled ([]) (OnErrorStatement o (GroupErrors o o 2) (Labelled ([]) (Do o (Groups (st ((Labelled ([]) (Assignment o ((Refers o (codes "J") ([]) Unsubscripted) ∷ []) (Sum o None (Referred (Refers o (codes "J") ([]) Unsubscripted)) (ts ((Plus, (Literal o (Integer 1))) ∷ []))))) ∷ (Labelled ([]) (Write o (Literal o (Integer 6)) (es ((Literal o (Text (codes "ERROR"))) ∷ (Referred (Refers o (codes "ERRGRP") ([]) Unsubscripted)) ∷ (Referred (Refers o (codes "ERRNUM") ([]) Unsubscripted)) ∷ (Referred (Refers o (codes "J") ([]) Unsubscripted)) ∷ [])))) ∷ (Labelled ([]) (Assignment o ((Refers o (codes "R2") ([]) (ByParts o (ss ([])) (ss ([])) (ss ((Range (FromBeginning (Literal o (Integer 1))) (FromBeginning (Literal o (Integer 2)))) ∷ [])))) ∷ []) (Cat o (Referred (Refers o (codes "R2") ([]) (ByParts o (ss ([])) (ss ([])) (ss ((One (FromEnd o (ts ((Minus, (Literal o (Integer 1))) ∷ [])))) ∷ []))))) (es ((Parenthesis o (Cat o (Called o (codes "RJUST") (es ((Literal o (Text (codes " PAD "))) ∷ (Literal o (Integer 2)) ∷ []))) (es ((Parenthesis o (Cat o (Referred (Refers o (codes "R2") ([]) Unsubscripted)) (es ((Referred (Refers o (codes "R2") ([]) Unsubscripted)) ∷ [])))) ∷ [])))) ∷ []))))) ∷ [])) None)))))) ∷ (inr (Labelled ([]) (If o (Compare o (Referred (Refers o (codes "J") ([]) Unsubscripted)) Less (Literal o (Integer 1))) (Labelled ([]) (Do o (Groups (st ((Labelled ([]) (Terminate o ((nm (codes "P")) ∷ []))) ∷ [])) None))) NoAlternative))) ∷ (inr (Labelled ([]) (SendError o o 1 o 5))) ∷ [])) (Some (nm (codes "T"))))) ∷ [])) (Some (nm (codes "P"))))) ∷ [])

abbrev Says2 : Type 0
Says2 = reported 400 row2 ((line.Run 60) ∷ (line.Preempt (codes "P")) ∷ (line.Tick 300) ∷ (line.Run 80) ∷ []) ≡ codes "6: 16 000100 01010000 12\n6: 0 0 0001\n6: 0 0001 0\nend P 0 error 2:4 0\nP.N = 4\nP.R = 0001\nP.R2 = 'HELL'\nP.I = 0\nP.I2 = 0\nP.T.J = 0\n"

-- processes 9: SCHEDULE IN, DO FOR list, ON ERROR SYSTEM, SHR
abbrev row3 : List File
row3 = ((file_of ([]) (BlockOf (nm (codes "P")) (Program o) ((Declare o ([]) ((declared_of (nm (codes "N")) ((Typed (BitKind o (Literal o (Integer 8)))) ∷ (InitialValues o (is ((Value (Cat o (Literal o Off) (es ((Literal o (Bits 4 6)) ∷ [])))) ∷ []))) ∷ [])) ∷ [])) ∷ (Declare o ([]) ((declared_of (nm (codes "R2")) ((Typed (CharacterKind o (Literal o (Integer 6)))) ∷ (InitialValues o (is ((Value (Cat o (Literal o (Text (codes "HELLO"))) (es ((Literal o (Text (codes "lower"))) ∷ [])))) ∷ []))) ∷ [])) ∷ [])) ∷ (Declare o ([]) ((declared_of (nm (codes "R")) ((Typed (IntegerKind o)) ∷ (InitialValues o (is ((Value (Called o (codes "MOD") (es ((Sum o (Some Minus) (Literal o (Integer 5)) (ts ([]))) ∷ (Literal o (Integer 7)) ∷ [])))) ∷ []))) ∷ [])) ∷ [])) ∷ (Declare o ([]) ((declared_of (nm (codes "I2")) ((Typed (IntegerKind o)) ∷ [])) ∷ [])) ∷ []) (el ((inr (Labelled ([]) (Scheduled o (scheduling (nm (codes "T2")) None (Some (Literal o (Integer 60))) false (Some (CyclicAfter o (Decimal o 500))) None)))) ∷ (inr (Labelled ([]) (Scheduled o (scheduling (nm (codes "T3")) None (Some (Literal o (Integer 70))) false (Some (CyclicEvery o (Literal o (Integer 1)))) None)))) ∷ (inr (Labelled ([]) (OnErrorResponse o (OneError o o 2 o 2) System None))) ∷ (inr (Labelled ([]) (Write o (Literal o (Integer 6)) (es ((Referred (Refers o (codes "N") ([]) Unsubscripted)) ∷ (Referred (Refers o (codes "N") ([]) Unsubscripted)) ∷ (Referred (Refers o (codes "N") ([]) Unsubscripted)) ∷ []))))) ∷ (inr (Labelled ([]) (Write o (Literal o (Integer 0)) (es ((Referred (Refers o (codes "R2") ([]) Unsubscripted)) ∷ (Referred (Refers o (codes "ERRNUM") ([]) Unsubscripted)) ∷ []))))) ∷ (inl (BlockOf (nm (codes "T")) (Task o) ([]) (el ((inr (Labelled ([]) (Write o (Literal o (Integer 6)) (es ((Sum o None (Referred (Refers o (codes "I2") ([]) Unsubscripted)) (ts ((Plus, (Parenthesis o (Product o (Literal o (Integer 2)) (es ((Referred (Refers o (codes "R") ([]) Unsubscripted)) ∷ []))))) ∷ (Plus, (Literal o (Integer 2))) ∷ []))) ∷ (Parenthesis o (Cat o (Referred (Refers o (codes "R") ([]) Unsubscripted)) (es ((Literal o (Text (codes "+05"))) ∷ [])))) ∷ (Parenthesis o (Parenthesis o (Referred (Refers o (codes "R2") ([]) (ByParts o (ss ([])) (ss ([])) (ss ((Range (FromBeginning (Literal o (Integer 2))) (FromEnd o (ts ([])))) ∷ []))))))) ∷ (Called o (codes "ODD") (es ((Sum o None (Literal o (Integer 2)) (ts ((Minus, (Literal o (Integer 2))) ∷ []))) ∷ []))) ∷ []))))) ∷ (inr (Labelled ([]) (Assignment o ((Refers o (codes "R2") ([]) Unsubscripted) ∷ (Refers o (codes "R2") ([]) Unsubscripted) ∷ []) (Cat o (Literal o (Text (codes " PAD "))) (es ((Referred (Refers o (codes "ERRNUM") ([]) Unsubscripted)) ∷ [])))))) ∷ (inr (Labelled ([]) (Write o (Literal o (Integer 0)) (es ((Product o (Literal o (Integer 2)) (es ((Literal o (Integer 0)) ∷ []))) ∷ (Referred (Refers o (codes "R") ([]) Unsubscripted)) ∷ (Called o (codes "RJUST") (es ((Convert o ToText (Parenthesis o (Product o (Literal o (Integer 2)) (es ((Referred (Refers o (codes "R") ([]) Unsubscripted)) ∷ []))))) ∷ (Literal o (Integer 0)) ∷ []))) ∷ (Product o (Literal o (Integer 7)) (es ((Literal o (Integer 2)) ∷ []))) ∷ []))))) ∷ [])) (Some (nm (codes "T"))))) ∷ (inl (BlockOf (nm (codes "T2")) (Task o) ((Declare o ([]) ((declared_of (nm (codes "J2")) ((Typed (IntegerKind o)) ∷ [])) ∷ [])) ∷ []) (el ((inr (Labelled ([]) (OnErrorResponse o (OneError o o 3 o 3) Ignore None))) ∷ (inr (Labelled ([]) (Assignment o ((Refers o (codes "R") ([]) Unsubscripted) ∷ []) (Sum o None (Called o (codes "ABS") (es ((Referred (Refers o (codes "R") ([]) Unsubscripted)) ∷ []))) (ts ((Minus, (Convert o ToInteger (Literal o (Text (codes "+5"))))) ∷ [])))))) ∷ (inr (Labelled ([]) (Write o (Literal o (Integer 31)) (es ((Not o (Not o (Referred (Refers o (codes "N") ([]) Unsubscripted)))) ∷ (Convert o ToInteger (Literal o (Text (codes "-007")))) ∷ []))))) ∷ (inr (Labelled ([]) (DoFor o false (nm (codes "J2")) (Listed (es ((Called o (codes "SHR") (es ((Literal o (Integer 5)) ∷ (Literal o (Integer 0)) ∷ []))) ∷ (Called o (codes "LENGTH") (es ((Referred (Refers o (codes "R2") ([]) Unsubscripted)) ∷ []))) ∷ []))) None (Groups (st ((Labelled ([]) (Write o (Literal o (Integer 31)) (es ((And o (Cat o (Literal o (Bits 8 60)) (es ((Referred (Refers o (codes "N") ([]) Unsubscripted)) ∷ []))) (es ((Called o (codes "ODD") (es ((Referred (Refers o (codes "J2") ([]) Unsubscripted)) ∷ []))) ∷ []))) ∷ (Called o (codes "RJUST") (es ((Convert o ToText (Referred (Refers o (codes "R2") ([]) (ByParts o (ss ([])) (ss ([])) (ss ((One (FromEnd o (ts ([])))) ∷ [])))))) ∷ (Referred (Refers o (codes "J2") ([]) Unsubscripted)) ∷ []))) ∷ [])))) ∷ [])) None)))) ∷ (inr (Labelled ([]) (Write o (Literal o (Integer 6)) (es ((Literal o (Text (codes "T2"))) ∷ []))))) ∷ [])) (Some (nm (codes "T2"))))) ∷ (inl (BlockOf (nm (codes "T3")) (Task o) ([]) (el ((inr (Labelled ([]) (Scheduled o (scheduling (nm (codes "T")) (Some (StartIn o (Decimal o 3000))) (Some (Literal o (Integer 60))) true None None)))) ∷ (inr (Labelled ([]) (Write o (Literal o (Integer 6)) (es ((Literal o (Text (codes "T3"))) ∷ (Referred (Refers o (codes "RUNTIME") ([]) Unsubscripted)) ∷ []))))) ∷ [])) (Some (nm (codes "T3"))))) ∷ [])) (Some (nm (codes "P"))))) ∷ [])

abbrev Says3 : Type 0
Says3 = reported 400 row3 ((line.Run 7) ∷ (line.Tick 1000) ∷ (line.Run 60) ∷ (line.Tick 300) ∷ (line.Run 25) ∷ (line.Tick 300) ∷ (line.Run 25) ∷ (line.Tick 300) ∷ (line.Run 80) ∷ []) ≡ codes "31: 00000110 -7\n31: 0000000000000000     l\n31: 0000000000000000      l\n6: T2\n6: T3 1\n6: 00000110 00000110 00000110\n0: HELLOl 0\n31: 00000110 -7\n31: 0000000000000000     l\n31: 0000000000000000      l\n6: T2\nend P 1000 closed 1\nlive P.T\nlive P.T2\nlive P.T3\nP.N = 00000110\nP.R2 = 'HELLOl'\nP.R = -2\nP.I2 = 0\nP.T2.J2 = 6\n"

-- processes 22: PROCEDURE, WAIT FOR DEPENDENT, DO CASE, bit component all
abbrev row4 : List File
row4 = ((file_of ([]) (BlockOf (nm (codes "P")) (Program o) ((Declare o ([]) ((declared_of (nm (codes "K")) ((Typed (IntegerKind o)) ∷ (ConstantValues o (is ((Value (Power o (Literal o (Integer 2)) (Literal o (Integer 3)))) ∷ []))) ∷ [])) ∷ [])) ∷ (Declare o ([]) ((declared_of (nm (codes "R")) ((Typed (CharacterKind o (Literal o (Integer 6)))) ∷ [])) ∷ [])) ∷ (Declare o ([]) ((declared_of (nm (codes "N")) ((Typed (BitKind o (Literal o (Integer 32)))) ∷ [])) ∷ [])) ∷ (Declare o ([]) ((declared_of (nm (codes "B")) ((Typed (IntegerKind o)) ∷ (Marked o Double) ∷ (InitialValues o (is ((Value (Called o (codes "ABS") (es ((Sum o (Some Minus) (Literal o (Integer 2)) (ts ([]))) ∷ [])))) ∷ []))) ∷ [])) ∷ [])) ∷ (Declare o ([]) ((declared_of (nm (codes "T3")) ((Typed (BitKind o (Literal o (Integer 3)))) ∷ (InitialValues o (is ((Value (Literal o (Bits 5 19))) ∷ []))) ∷ [])) ∷ [])) ∷ (Declare o ([]) ((declared_of (nm (codes "I")) ((Typed (IntegerKind o)) ∷ [])) ∷ [])) ∷ []) (el ((inr (Labelled ([]) (Scheduled o (scheduling (nm (codes "T")) None (Some (Literal o (Integer 60))) false (Some (CyclicAfter o (Decimal o 500))) None)))) ∷ (inr (Labelled ([]) (Write o (Literal o (Integer 6)) (es ((Referred (Refers o (codes "ERRGRP") ([]) Unsubscripted)) ∷ (Referred (Refers o (codes "ERRNUM") ([]) Unsubscripted)) ∷ []))))) ∷ (inr (Labelled ([]) (Write o (Literal o (Integer 31)) (es ((Sum o None (Called o (codes "INDEX") (es ((Literal o (Text (codes "HELLO"))) ∷ (Referred (Refers o (codes "R") ([]) Unsubscripted)) ∷ []))) (ts ((Minus, (Literal o (Integer 31))) ∷ []))) ∷ (Product o (Parenthesis o (Sum o None (Referred (Refers o (codes "B") ([]) Unsubscripted)) (ts ((Plus, (Referred (Refers o (codes "I") ([]) Unsubscripted))) ∷ [])))) (es ((Literal o (Integer 4)) ∷ []))) ∷ (Called o (codes "LJUST") (es ((Called o (codes "LJUST") (es ((Referred (Refers o (codes "R") ([]) Unsubscripted)) ∷ (Literal o (Integer 5)) ∷ []))) ∷ (Literal o (Integer 0)) ∷ []))) ∷ []))))) ∷ (inr (Labelled ([]) (Scheduled o (scheduling (nm (codes "T")) None None false None None)))) ∷ (inr (Labelled ([]) (Write o (Literal o (Integer 6)) (es ((Referred (Refers o (codes "I") ([]) Unsubscripted)) ∷ (Referred (Refers o (codes "I") ([]) Unsubscripted)) ∷ (Referred (Refers o (codes "I") ([]) Unsubscripted)) ∷ []))))) ∷ (inl (BlockOf (nm (codes "Q")) (Procedure o ((nm (codes "A")) ∷ []) ((nm (codes "B2")) ∷ []) None) ((Declare o ([]) ((declared_of (nm (codes "A")) ((Typed (IntegerKind o)) ∷ (Marked o Single) ∷ [])) ∷ [])) ∷ (Declare o ([]) ((declared_of (nm (codes "B2")) ((Typed (BitKind o (Literal o (Integer 32)))) ∷ [])) ∷ [])) ∷ (Declare o ([]) ((declared_of (nm (codes "V")) ((Typed (CharacterKind o (Literal o (Integer 1)))) ∷ (InitialValues o (is ((Value (Called o (codes "LJUST") (es ((Literal o (Text (codes " PAD "))) ∷ (Literal o (Integer 4)) ∷ [])))) ∷ []))) ∷ [])) ∷ [])) ∷ []) (el ((inr (Labelled ([]) (Assignment o ((Refers o (codes "R") ([]) (ByParts o (ss ([])) (ss ([])) (ss ((One (FromBeginning (Literal o (Integer 2)))) ∷ [])))) ∷ []) (Cat o (Called o (codes "TRIM") (es ((Referred (Refers o (codes "R") ([]) Unsubscripted)) ∷ []))) (es ((Called o (codes "SIGNUM") (es ((Sum o None (Referred (Refers o (codes "I") ([]) Unsubscripted)) (ts ((Plus, (Literal o (Integer 4))) ∷ []))) ∷ []))) ∷ [])))))) ∷ (inr (Labelled ([]) (SendError o o 2 o 1))) ∷ (inr (Labelled ([]) (If o (Compare o (Called o (codes "INDEX") (es ((Cat o (Referred (Refers o (codes "V") ([]) Unsubscripted)) (es ((Referred (Refers o (codes "V") ([]) Unsubscripted)) ∷ []))) ∷ (Parenthesis o (Referred (Refers o (codes "V") ([]) (ByParts o (ss ([])) (ss ([])) (ss ((Portion (Literal o (Integer 2)) (FromBeginning (Literal o (Integer 1)))) ∷ [])))))) ∷ []))) Greater (Convert o ToInteger (Referred (Refers o (codes "N") ([]) (ByParts o (ss ([])) (ss ([])) (ss ((Range (FromBeginning (Literal o (Integer 17))) (FromEnd o (ts ([])))) ∷ []))))))) (Labelled ((nm (codes "L")) ∷ []) (DoCase o (Sum o None (Called o (codes "MOD") (es ((Referred (Refers o (codes "K") ([]) Unsubscripted)) ∷ (Literal o (Integer 3)) ∷ []))) (ts ((Plus, (Literal o (Integer 1))) ∷ []))) NoAlternative (Groups (st ((Labelled ([]) (Assignment o ((Refers o (codes "N") ([]) Unsubscripted) ∷ []) (Referred (Refers o (codes "T3") ([]) (ByParts o (ss ([])) (ss ([])) (ss ((Every o) ∷ []))))))) ∷ [])) (Some (nm (codes "L")))))) (Otherwise (Labelled ([]) (Assignment o ((Refers o (codes "B") ([]) Unsubscripted) ∷ (Refers o (codes "B") ([]) Unsubscripted) ∷ (Refers o (codes "B") ([]) Unsubscripted) ∷ []) (Sum o None (Called o (codes "MOD") (es ((Called o (codes "MOD") (es ((Referred (Refers o (codes "B") ([]) Unsubscripted)) ∷ (Literal o (Integer 4)) ∷ []))) ∷ (Literal o (Integer 100)) ∷ []))) (ts ((Plus, (Literal o (Integer 1000))) ∷ []))))))))) ∷ [])) (Some (nm (codes "Q"))))) ∷ (inl (BlockOf (nm (codes "T")) (Task o) ([]) (el ((inr (Labelled ((nm (codes "M")) ∷ []) (Write o (Literal o (Integer 6)) (es ((Cat o (Referred (Refers o (codes "R") ([]) (ByParts o (ss ([])) (ss ([])) (ss ((Portion (Literal o (Integer 2)) (FromBeginning (Literal o (Integer 1)))) ∷ []))))) (es ((Literal o (Integer 2)) ∷ (Referred (Refers o (codes "R") ([]) Unsubscripted)) ∷ []))) ∷ (Literal o (Integer 1)) ∷ []))))) ∷ [])) (Some (nm (codes "T"))))) ∷ (inl (BlockOf (nm (codes "T2")) (Task o) ([]) (el ((inr (Labelled ([]) (WaitForDependent o))) ∷ (inr (Labelled ([]) (Write o (Literal o (Integer 6)) (es ((Referred (Refers o (codes "R") ([]) Unsubscripted)) ∷ (Referred (Refers o (codes "T3") ([]) Unsubscripted)) ∷ (Referred (Refers o (codes "K") ([]) Unsubscripted)) ∷ []))))) ∷ (inr (Labelled ([]) (Scheduled o (scheduling (nm (codes "T")) None (Some (Literal o (Integer 40))) false None (Some (Until o (And o (Parenthesis o (Or o (Referred (Refers o (codes "T") ([]) Unsubscripted)) (es ((Not o (Referred (Refers o (codes "T") ([]) Unsubscripted))) ∷ [])))) (es ((Referred (Refers o (codes "T") ([]) Unsubscripted)) ∷ []))))))))) ∷ [])) (Some (nm (codes "T2"))))) ∷ [])) (Some (nm (codes "P"))))) ∷ [])

abbrev Says4 : Type 0
Says4 = reported 400 row4 ((line.Run 25) ∷ (line.Preempt (codes "P.T2")) ∷ (line.Tick 2500) ∷ (line.Run 12) ∷ (line.Tick 1000) ∷ (line.Run 80) ∷ []) ≡ codes "6: 0 0\n31: -31 8 \n6: 0 0 0\nend P.T 0 error 1:4 0\nend P 0 closed 1\nend P.T 0 error 1:4 0\nP.R = ''\nP.N = 00000000000000000000000000000000\nP.B = 2\nP.T3 = 011\nP.I = 0\nP.Q.V = ' '\n"

-- processes 56: error 2:3 IGNORE, text component all, ON ERROR IGNORE AND SET, error 1:4 SYSTEM
abbrev row5 : List File
row5 = ((file_of ([]) (BlockOf (nm (codes "P")) (Program o) ((Declare o ([]) ((declared_of (nm (codes "R2")) ((Typed (CharacterKind o (Literal o (Integer 6)))) ∷ (InitialValues o (is ((Value (Literal o (Integer 7))) ∷ []))) ∷ [])) ∷ [])) ∷ (Declare o ([]) ((declared_of (nm (codes "R")) ((Typed (IntegerKind o)) ∷ (InitialValues o (is ((Value (Power o (Literal o (Integer 2)) (Literal o (Integer 5)))) ∷ []))) ∷ [])) ∷ [])) ∷ (Declare o ([]) ((declared_of (nm (codes "N")) ((Typed (BitKind o (Literal o (Integer 8)))) ∷ (InitialValues o (is ((Value (Literal o (Bits 1 1))) ∷ []))) ∷ [])) ∷ [])) ∷ (Declare o ([]) ((declared_of (nm (codes "E2")) ((Typed (EventKind o)) ∷ (Marked o Latched) ∷ (InitialValues o (is ((Value (Literal o True)) ∷ []))) ∷ [])) ∷ [])) ∷ (Declare o ([]) ((declared_of (nm (codes "I")) ((Typed (IntegerKind o)) ∷ [])) ∷ [])) ∷ (Declare o ([]) ((declared_of (nm (codes "I2")) ((Typed (IntegerKind o)) ∷ [])) ∷ [])) ∷ []) (el ((inl (BlockOf (nm (codes "T2")) (Task o) ([]) (el ((inr (Labelled ([]) (OnErrorResponse o (OneError o o 2 o 1) Ignore None))) ∷ (inr (Labelled ([]) (Assignment o ((Refers o (codes "R2") ([]) Unsubscripted) ∷ (Refers o (codes "R2") ([]) (ByParts o (ss ([])) (ss ([])) (ss ((Range (FromEnd o (ts ((Minus, (Literal o (Integer 1))) ∷ []))) (FromEnd o (ts ([])))) ∷ [])))) ∷ (Refers o (codes "R2") ([]) Unsubscripted) ∷ []) (Referred (Refers o (codes "R2") ([]) (ByParts o (ss ([])) (ss ([])) (ss ((Every o) ∷ [])))))))) ∷ (inr (Labelled ([]) (Write o (Literal o (Integer 6)) (es ((Literal o (Text (codes "T2"))) ∷ (Referred (Refers o (codes "RUNTIME") ([]) Unsubscripted)) ∷ []))))) ∷ [])) (Some (nm (codes "T2"))))) ∷ (inl (BlockOf (nm (codes "T3")) (Task o) ((Declare o ([]) ((declared_of (nm (codes "J4")) ((Typed (IntegerKind o)) ∷ [])) ∷ [])) ∷ []) (el ((inr (Labelled ([]) (OnErrorResponse o (OneError o o 2 o 4) Ignore None))) ∷ (inr (Labelled ([]) (Write o (Literal o (Integer 6)) (es ((Product o (Parenthesis o (Sum o None (Referred (Refers o (codes "J4") ([]) Unsubscripted)) (ts ((Plus, (Literal o (Integer 255))) ∷ [])))) (es ((Referred (Refers o (codes "J4") ([]) Unsubscripted)) ∷ []))) ∷ []))))) ∷ (inr (Labelled ([]) (Assignment o ((Refers o (codes "R") ([]) Unsubscripted) ∷ []) (Literal o (Integer 31))))) ∷ (inr (Labelled ([]) (OnErrorResponse o (GroupErrors o o 2) Ignore None))) ∷ (inr (Labelled ([]) (Terminate o ((nm (codes "T2")) ∷ [])))) ∷ (inr (Labelled ([]) (Write o (Literal o (Integer 6)) (es ((Literal o (Text (codes "T3"))) ∷ []))))) ∷ [])) (Some (nm (codes "T3"))))) ∷ (inr (Labelled ([]) (Scheduled o (scheduling (nm (codes "T2")) None (Some (Literal o (Integer 50))) false None None)))) ∷ (inr (Labelled ([]) (Scheduled o (scheduling (nm (codes "T3")) None (Some (Literal o (Integer 60))) false None None)))) ∷ (inr (Labelled ([]) (OnErrorResponse o (OneError o o 2 o 3) Ignore (Some (eventful o Set (nm (codes "E2"))))))) ∷ (inr (Labelled ([]) (Write o (Product o (Literal o (Integer 2)) (es ((Literal o (Integer 3)) ∷ []))) (es ((Called o (codes "R") (es ((Product o (Literal o (Integer 4)) (es ((Referred (Refers o (codes "I2") ([]) Unsubscripted)) ∷ []))) ∷ []))) ∷ (Cat o (Referred (Refers o (codes "I") ([]) Unsubscripted)) (es ((Literal o (Text (codes "HELLO"))) ∷ (Convert o ToText (Referred (Refers o (codes "N") ([]) Unsubscripted))) ∷ []))) ∷ (Cat o (Convert o ToText (Referred (Refers o (codes "N") ([]) Unsubscripted))) (es ((Convert o ToText (Referred (Refers o (codes "R2") ([]) Unsubscripted))) ∷ []))) ∷ []))))) ∷ (inr (Labelled ([]) (Write o (Literal o (Integer 6)) (es ((Referred (Refers o (codes "R2") ([]) Unsubscripted)) ∷ (Referred (Refers o (codes "N") ([]) Unsubscripted)) ∷ (Referred (Refers o (codes "I2") ([]) Unsubscripted)) ∷ []))))) ∷ (inl (BlockOf (nm (codes "T")) (Task o) ([]) (el ((inr (Labelled ([]) (OnErrorResponse o (GroupErrors o o 2) Ignore None))) ∷ (inr (Labelled ([]) (UpdatePriority o (Some (nm (codes "P"))) (Literal o (Integer 70))))) ∷ (inr (Labelled ([]) (Event (eventful o Set (nm (codes "E2")))))) ∷ [])) (Some (nm (codes "T"))))) ∷ [])) (Some (nm (codes "P"))))) ∷ [])

abbrev Says5 : Type 0
Says5 = reported 400 row5 ((line.Run 7) ∷ (line.Tick 500) ∷ (line.Run 80) ∷ []) ≡ codes "6: 0\n6: T3\n6: 0 0HELLO00000001 000000017\n6: 7 00000001 0\nend P.T3 500 closed 1\nend P 500 closed 1\nend P.T2 500 error 1:4 0\nP.R2 = '7'\nP.R = 31\nP.N = 00000001\nP.E2 = 1\nP.I = 0\nP.I2 = 0\nP.T3.J4 = 0\n"

-- processes 91: SCHEDULE REPEAT alone, ON ERROR IGNORE AND RESET, ON ERROR of all, PROCEDURE REENTRANT
abbrev row6 : List File
row6 = ((file_of ([]) (BlockOf (nm (codes "P")) (Program o) ((Declare o ([]) ((declared_of (nm (codes "R")) ((Typed (CharacterKind o (Literal o (Integer 6)))) ∷ [])) ∷ (declared_of (nm (codes "N")) ((Dimensions o (es ((Literal o (Integer 3)) ∷ []))) ∷ (Typed (BitKind o (Literal o (Integer 16)))) ∷ [])) ∷ (declared_of (nm (codes "B")) ((Dimensions o (es ((Literal o (Integer 2)) ∷ []))) ∷ (Typed (IntegerKind o)) ∷ (Marked o Double) ∷ [])) ∷ [])) ∷ (Declare o ([]) ((declared_of (nm (codes "E")) ((Typed (EventKind o)) ∷ (Marked o Latched) ∷ (InitialValues o (is ((Value (Literal o True)) ∷ []))) ∷ [])) ∷ [])) ∷ (Declare o ([]) ((declared_of (nm (codes "E2")) ((Typed (EventKind o)) ∷ [])) ∷ [])) ∷ (Declare o ([]) ((declared_of (nm (codes "E3")) ((Typed (EventKind o)) ∷ [])) ∷ [])) ∷ []) (el ((inr (Labelled ([]) (Scheduled o (scheduling (nm (codes "T")) None (Some (Literal o (Integer 60))) false (Some (CyclicAfter o (Decimal o 500))) None)))) ∷ (inr (Labelled ([]) (Scheduled o (scheduling (nm (codes "T2")) None (Some (Literal o (Integer 40))) false None None)))) ∷ (inr (Labelled ([]) (Scheduled o (scheduling (nm (codes "T3")) None (Some (Literal o (Integer 40))) false (Some (CyclicEvery o (Literal o (Integer 1)))) None)))) ∷ (inr (Labelled ([]) (OnErrorResponse o (OneError o o 7 o 1) Ignore (Some (eventful o Reset (nm (codes "E"))))))) ∷ (inr (Labelled ([]) (Write o (Product o (Literal o (Integer 2)) (es ((Literal o (Integer 3)) ∷ []))) (es ((Convert o ToInteger (Cat o (Literal o (Bits 4 6)) (es ((Referred (Refers o (codes "N") ([]) (ByParts o (ss ([])) (ss ([])) (ss ((One (FromBeginning (Literal o (Integer 2)))) ∷ []))))) ∷ [])))) ∷ (Called o (codes "SHR") (es ((Convert o ToInteger (Literal o (Text (codes "-007")))) ∷ (Literal o (Integer 4)) ∷ []))) ∷ (Called o (codes "TRIM") (es ((Convert o ToText (Referred (Refers o (codes "R") ([]) Unsubscripted))) ∷ []))) ∷ []))))) ∷ (inr (Labelled ([]) (Write o (Literal o (Integer 6)) (es ((Referred (Refers o (codes "N") ([]) (ByInteger o o 3))) ∷ (Referred (Refers o (codes "N") ([]) (ByParts o (ss ([])) (ss ([])) (ss ((One (FromBeginning (Literal o (Integer 1)))) ∷ []))))) ∷ (Referred (Refers o (codes "N") ([]) (ByInteger o o 3))) ∷ []))))) ∷ (inl (BlockOf (nm (codes "Q")) (Procedure o ((nm (codes "A")) ∷ []) ((nm (codes "B2")) ∷ []) (Some (Reentrant o))) ((Declare o ([]) ((declared_of (nm (codes "A")) ((Dimensions o (es ((Literal o (Integer 2)) ∷ (Literal o (Integer 3)) ∷ []))) ∷ (Typed (BitKind o (Literal o (Integer 32)))) ∷ [])) ∷ [])) ∷ (Declare o ([]) ((declared_of (nm (codes "B2")) ((Typed (CharacterKind o (Literal o (Integer 4)))) ∷ [])) ∷ [])) ∷ []) (el ((inr (Labelled ([]) (OnErrorResponse o (OneError o o 2 o 4) Ignore None))) ∷ (inr (Labelled ([]) (UpdatePriority o None (Literal o (Integer 256))))) ∷ (inr (Labelled ([]) (Write o (Literal o (Integer 6)) (es ((Referred (Refers o (codes "ERRGRP") ([]) Unsubscripted)) ∷ (Referred (Refers o (codes "ERRNUM") ([]) Unsubscripted)) ∷ []))))) ∷ [])) (Some (nm (codes "Q"))))) ∷ (inl (BlockOf (nm (codes "T")) (Task o) ([]) (el ((inr (Labelled ([]) (OnErrorResponse o EveryError Ignore (Some (eventful o Signal (nm (codes "E3"))))))) ∷ (inr (Labelled ([]) (Write o (Literal o (Integer 0)) (es ((Convert o ToInteger (Literal o (Text (codes "12")))) ∷ []))))) ∷ [])) (Some (nm (codes "T"))))) ∷ (inl (BlockOf (nm (codes "T2")) (Task o) ([]) (el ((inr (Labelled ([]) (Scheduled o (scheduling (nm (codes "T3")) None (Some (Literal o (Integer 70))) false (Some (CyclicEvery o (Literal o (Integer 2)))) None)))) ∷ (inr (Labelled ([]) (Assignment o ((Refers o (codes "B") ([]) (ByInteger o o 1)) ∷ []) (Power o (Literal o (Integer 2)) (Literal o (Integer 0)))))) ∷ (inr (Labelled ([]) (Write o (Literal o (Integer 6)) (es ((Literal o (Text (codes "T2"))) ∷ []))))) ∷ [])) (Some (nm (codes "T2"))))) ∷ (inl (BlockOf (nm (codes "T3")) (Task o) ([]) (el ((inr (Labelled ([]) (Scheduled o (scheduling (nm (codes "T2")) None None false (Some (Cyclic o)) None)))) ∷ [])) (Some (nm (codes "T3"))))) ∷ [])) (Some (nm (codes "P"))))) ∷ [])

abbrev Says6 : Type 0
Says6 = reported 400 row6 ((line.Run 7) ∷ (line.Tick 2500) ∷ (line.Run 3) ∷ (line.Run 7) ∷ (line.Preempt (codes "P.T")) ∷ (line.Run 80) ∷ []) ≡ codes "0: 12\n0: 12\n6: 393216 -1 \n6: 0000000000000000 0000000000000000 0000000000000000\nend P 2500 closed 1\nend P.T2 2500 error 2:1 0\nend P.T2 2500 error 2:1 0\nend P.T2 2500 error 2:1 0\nend P.T2 2500 error 2:1 0\nlive P.T\nlive P.T3\nP.R = ''\nP.N$(1) = 0000000000000000\nP.N$(2) = 0000000000000000\nP.N$(3) = 0000000000000000\nP.B$(1) = 0\nP.B$(2) = 0\nP.E = 1\n"

-- processes 131: error 1:1 SYSTEM, FUNCTION, ON ERROR SYSTEM AND SIGNAL, error 2:1 IGNORE
abbrev row7 : List File
row7 = ((file_of ([]) (BlockOf (nm (codes "P")) (Program o) ((Declare o ([]) ((declared_of (nm (codes "R")) ((Typed (CharacterKind o (Literal o (Integer 6)))) ∷ (InitialValues o (is ((Value (Literal o (Text (codes "IT'S")))) ∷ []))) ∷ [])) ∷ (declared_of (nm (codes "B")) ((Typed (IntegerKind o)) ∷ (InitialValues o (is ((Value (Convert o ToInteger (Literal o (Bits 8 7)))) ∷ []))) ∷ [])) ∷ [])) ∷ (Declare o ([]) ((declared_of (nm (codes "T3")) ((Typed (IntegerKind o)) ∷ (Marked o Double) ∷ (InitialValues o (is ((Value (Called o (codes "SHL") (es ((Literal o (Integer 1)) ∷ (Literal o (Integer 0)) ∷ [])))) ∷ []))) ∷ [])) ∷ [])) ∷ (Declare o ([]) ((declared_of (nm (codes "E3")) ((Typed (EventKind o)) ∷ [])) ∷ [])) ∷ (Declare o ([]) ((declared_of (nm (codes "I")) ((Typed (IntegerKind o)) ∷ [])) ∷ [])) ∷ (Declare o ([]) ((declared_of (nm (codes "I2")) ((Typed (IntegerKind o)) ∷ [])) ∷ [])) ∷ []) (el ((inl (BlockOf (nm (codes "F")) (Function o ((nm (codes "A")) ∷ (nm (codes "A2")) ∷ []) (HasKind (IntegerKind o) (Some (DoublePrecision o))) None) ((Declare o ([]) ((declared_of (nm (codes "A")) ((Typed (IntegerKind o)) ∷ [])) ∷ (declared_of (nm (codes "A2")) ((Typed (CharacterKind o (Literal o (Integer 6)))) ∷ [])) ∷ [])) ∷ []) (el ((inr (Labelled ([]) (Assignment o ((Refers o (codes "T3") ([]) Unsubscripted) ∷ (Refers o (codes "B") ([]) Unsubscripted) ∷ (Refers o (codes "T3") ([]) Unsubscripted) ∷ []) (Product o (Literal o (Integer 4)) (es ((Parenthesis o (Referred (Refers o (codes "I2") ([]) Unsubscripted))) ∷ [])))))) ∷ (inr (Labelled ([]) (Return o (Some (Called o (codes "INDEX") (es ((Called o (codes "TRIM") (es ((Literal o (Text (codes "LONGER TEXT"))) ∷ []))) ∷ (Convert o ToText (Referred (Refers o (codes "B") ([]) Unsubscripted))) ∷ []))))))) ∷ [])) (Some (nm (codes "F"))))) ∷ (inr (Labelled ([]) (Scheduled o (scheduling (nm (codes "T")) None (Some (Literal o (Integer 50))) true None None)))) ∷ (inr (Labelled ([]) (Scheduled o (scheduling (nm (codes "T2")) None (Some (Literal o (Integer 60))) true None None)))) ∷ (inr (Labelled ([]) (OnErrorResponse o (GroupErrors o o 3) Ignore (Some (eventful o Signal (nm (codes "E3"))))))) ∷ (inr (Labelled ([]) (Scheduled o (scheduling (nm (codes "T2")) None (Some (Literal o (Integer 80))) true None (Some (Until o (Literal o (Integer 2)))))))) ∷ (inr (Labelled ([]) (Write o (Product o (Literal o (Integer 2)) (es ((Literal o (Integer 3)) ∷ []))) (es ((Called o (codes "F") (es ((Referred (Refers o (codes "B") ([]) Unsubscripted)) ∷ (Called o (codes "RJUST") (es ((Referred (Refers o (codes "R") ([]) Unsubscripted)) ∷ (Literal o (Integer 2)) ∷ []))) ∷ []))) ∷ (Literal o (Integer 7)) ∷ []))))) ∷ (inr (Labelled ([]) (Write o (Literal o (Integer 0)) (es ((Sum o None (Product o (Literal o (Integer 12)) (es ((Literal o (Integer 2147483647)) ∷ []))) (ts ((Plus, (Literal o (Integer 1))) ∷ []))) ∷ (Called o (codes "ODD") (es ((Called o (codes "F") (es ((Called o (codes "F") (es ((Called o (codes "INDEX") (es ((Referred (Refers o (codes "R") ([]) Unsubscripted)) ∷ (Referred (Refers o (codes "R") ([]) Unsubscripted)) ∷ []))) ∷ (Referred (Refers o (codes "R") ([]) Unsubscripted)) ∷ []))) ∷ (Called o (codes "LJUST") (es ((Literal o (Text (codes "LONGER TEXT"))) ∷ (Literal o (Integer 2)) ∷ []))) ∷ []))) ∷ []))) ∷ []))))) ∷ (inl (BlockOf (nm (codes "T")) (Task o) ([]) (el ((inr (Labelled ([]) (OnErrorResponse o (GroupErrors o o 2) System (Some (eventful o Signal (nm (codes "E3"))))))) ∷ (inr (Labelled ([]) (OnErrorStatement o (OneError o o 1 o 1) (Labelled ([]) (Do o (Groups (st ((Labelled ([]) (Write o (Literal o (Integer 6)) (es ((Referred (Refers o (codes "B") ([]) Unsubscripted)) ∷ [])))) ∷ (Labelled ([]) (Write o (Literal o (Integer 6)) (es ((Literal o (Text (codes "ERROR"))) ∷ (Referred (Refers o (codes "ERRGRP") ([]) Unsubscripted)) ∷ (Referred (Refers o (codes "ERRNUM") ([]) Unsubscripted)) ∷ [])))) ∷ [])) None)))))) ∷ (inr (Labelled ([]) (Assignment o ((Refers o (codes "R") ([]) (ByInteger o o 1)) ∷ []) (Product o (Literal o (Integer 0)) (es ((Literal o (Integer 12)) ∷ [])))))) ∷ [])) (Some (nm (codes "T"))))) ∷ (inl (BlockOf (nm (codes "T2")) (Task o) ([]) (el ((inr (Labelled ([]) (OnErrorResponse o (OneError o o 2 o 1) Ignore None))) ∷ (inr (Labelled ([]) (Scheduled o (scheduling (nm (codes "P")) None (Some (Literal o (Integer 20))) false None None)))) ∷ (inr (Labelled ([]) (Write o (Literal o (Integer 6)) (es ((Literal o (Text (codes "T2"))) ∷ (Referred (Refers o (codes "RUNTIME") ([]) Unsubscripted)) ∷ []))))) ∷ [])) (Some (nm (codes "T2"))))) ∷ [])) (Some (nm (codes "P"))))) ∷ [])

abbrev Says7 : Type 0
Says7 = reported 400 row7 ((line.Run 60) ∷ (line.Preempt (codes "P.T2")) ∷ (line.Run 12) ∷ (line.Run 3) ∷ (line.Tick 500) ∷ (line.Run 80) ∷ []) ≡ codes "6: T2 0\n6: T2 0\n6: 0 7\nend P.T2 0 closed 1\nend P.T2 0 closed 1\nend P.T 0 terminated 0\nend P 0 error 1:1 0\nP.R = 'IT''S'\nP.B = 0\nP.T3 = 0\nP.I = 0\nP.I2 = 0\n"

-- processes 171: ON ERROR SYSTEM AND SET, SCHEDULE IN, SCHEDULE ON, error 2:1 IGNORE
abbrev row8 : List File
row8 = ((file_of ([]) (BlockOf (nm (codes "P")) (Program o) ((Structure o (nm (codes "S")) ((part_of o 1 (nm (codes "C")) ((Dimensions o (es ((Literal o (Integer 2)) ∷ (Literal o (Integer 1)) ∷ (Literal o (Integer 2)) ∷ []))) ∷ (Typed (IntegerKind o)) ∷ [])) ∷ (part_of o 1 (nm (codes "C2")) ((Typed (IntegerKind o)) ∷ [])) ∷ [])) ∷ (Declare o ([]) ((declared_of (nm (codes "N")) ((Typed (CharacterKind o (Literal o (Integer 6)))) ∷ [])) ∷ [])) ∷ (Declare o ([]) ((declared_of (nm (codes "R")) ((Typed (BitKind o (Literal o (Integer 4)))) ∷ (InitialValues o (is ((Value (Called o (codes "ODD") (es ((Literal o (Integer 7)) ∷ [])))) ∷ []))) ∷ [])) ∷ (declared_of (nm (codes "Z")) ((Typed (StructureKind o (codes "S") (Some (Literal o (Integer 2))))) ∷ (InitialValues o (is ((Value (Sum o None (Literal o (Integer 12)) (ts ((Plus, (Literal o (Integer 1))) ∷ [])))) ∷ []))) ∷ [])) ∷ [])) ∷ (Declare o ([]) ((declared_of (nm (codes "E")) ((Typed (EventKind o)) ∷ [])) ∷ [])) ∷ (Declare o ([]) ((declared_of (nm (codes "E2")) ((Typed (EventKind o)) ∷ (Marked o Latched) ∷ (InitialValues o (is ((Value (Literal o True)) ∷ []))) ∷ [])) ∷ [])) ∷ (Declare o ([]) ((declared_of (nm (codes "I")) ((Typed (IntegerKind o)) ∷ [])) ∷ [])) ∷ (Declare o ([]) ((declared_of (nm (codes "I2")) ((Typed (IntegerKind o)) ∷ [])) ∷ [])) ∷ []) (el ((inr (Labelled ([]) (Scheduled o (scheduling (nm (codes "T")) None (Some (Literal o (Integer 40))) false (Some (CyclicAfter o (Decimal o 500))) None)))) ∷ (inr (Labelled ([]) (OnErrorResponse o (OneError o o 2 o 1) Ignore None))) ∷ (inr (Labelled ([]) (Assignment o ((Refers o (codes "Z") ((nm (codes "C2")) ∷ []) (ByParts o (ss ((One (FromBeginning (Sum o None (Called o (codes "MOD") (es ((Referred (Refers o (codes "Z") ((nm (codes "C2")) ∷ []) (ByParts o (ss ((One (FromBeginning (Sum o None (Called o (codes "MOD") (es ((Referred (Refers o (codes "Z") ((nm (codes "C2")) ∷ []) (ByParts o (ss ((One (FromBeginning (Literal o (Integer 1)))) ∷ [])) (ss ([])) (ss ([]))))) ∷ (Literal o (Integer 2)) ∷ []))) (ts ((Plus, (Literal o (Integer 1))) ∷ []))))) ∷ [])) (ss ([])) (ss ([]))))) ∷ (Literal o (Integer 2)) ∷ []))) (ts ((Plus, (Literal o (Integer 1))) ∷ []))))) ∷ [])) (ss ([])) (ss ([])))) ∷ []) (Called o (codes "I") (es ((Literal o (Integer 10)) ∷ [])))))) ∷ (inr (Labelled ([]) (Assignment o ((Refers o (codes "N") ([]) Unsubscripted) ∷ []) (Literal o (Text (codes "")))))) ∷ (inr (Labelled ([]) (Write o (Literal o (Integer 0)) (es ((Parenthesis o (Convert o ToText (Literal o (Integer 0)))) ∷ (Literal o (Bits 6 15)) ∷ (Called o (codes "XOR") (es ((Called o (codes "ODD") (es ((Literal o (Integer 31)) ∷ []))) ∷ (Referred (Refers o (codes "P") ([]) Unsubscripted)) ∷ []))) ∷ (And o (Cat o (Referred (Refers o (codes "R") ([]) Unsubscripted)) (es ((Referred (Refers o (codes "R") ([]) (ByInteger o o 2))) ∷ []))) (es ((Cat o (Referred (Refers o (codes "R") ([]) Unsubscripted)) (es ((Literal o True) ∷ []))) ∷ []))) ∷ []))))) ∷ (inr (Labelled ((nm (codes "M")) ∷ []) (If o (Compare o (Called o (codes "INDEX") (es ((Parenthesis o (Referred (Refers o (codes "N") ([]) Unsubscripted))) ∷ (Called o (codes "LJUST") (es ((Literal o (Text (codes " PAD "))) ∷ (Literal o (Integer 8)) ∷ []))) ∷ []))) AtMost (Literal o (Integer 2))) (Labelled ([]) (Do o (Groups (st ((Labelled ([]) (OnErrorResponse o EveryError System (Some (eventful o Set (nm (codes "E2")))))) ∷ [])) None))) NoAlternative))) ∷ (inr (Labelled ([]) (Scheduled o (scheduling (nm (codes "T")) (Some (StartOn o (Referred (Refers o (codes "E") ([]) Unsubscripted)))) None false None None)))) ∷ (inr (Labelled ([]) (Write o (Literal o (Integer 31)) (es ((Called o (codes "REMAINDER") (es ((Literal o (Integer 255)) ∷ (Literal o (Integer 2)) ∷ []))) ∷ (Called o (codes "I") (es ((Called o (codes "I") (es ((Literal o (Integer 3)) ∷ []))) ∷ []))) ∷ []))))) ∷ (inr (Labelled ([]) (If o (Compare o (Referred (Refers o (codes "R") ([]) (ByParts o (ss ([])) (ss ([])) (ss ((Range (FromBeginning (Literal o (Integer 1))) (FromEnd o (ts ([])))) ∷ []))))) Equal (Referred (Refers o (codes "R") ([]) Unsubscripted))) (Labelled ([]) (Assignment o ((Refers o (codes "Z") ((nm (codes "C2")) ∷ []) (ByParts o (ss ((One (FromBeginning (Literal o (Integer 2)))) ∷ [])) (ss ([])) (ss ([])))) ∷ (Refers o (codes "Z") ((nm (codes "C")) ∷ []) (ByParts o (ss ((One (FromBeginning (Literal o (Integer 1)))) ∷ [])) (ss ([])) (ss ((One (FromBeginning (Sum o None (Called o (codes "MOD") (es ((Called o (codes "SHR") (es ((Referred (Refers o (codes "Z") ((nm (codes "C2")) ∷ []) (ByParts o (ss ((One (FromBeginning (Literal o (Integer 1)))) ∷ [])) (ss ([])) (ss ([]))))) ∷ (Literal o (Integer 0)) ∷ []))) ∷ (Literal o (Integer 2)) ∷ []))) (ts ((Plus, (Literal o (Integer 1))) ∷ []))))) ∷ (One (FromBeginning (Literal o (Integer 1)))) ∷ (One (FromBeginning (Literal o (Integer 2)))) ∷ [])))) ∷ []) (Referred (Refers o (codes "Z") ((nm (codes "C2")) ∷ []) (ByParts o (ss ((One (FromEnd o (ts ([])))) ∷ [])) (ss ([])) (ss ([]))))))) (Otherwise (Labelled ([]) (Write o (Literal o (Integer 6)) (es ((Cat o (Called o (codes "INDEX") (es ((Literal o (Text (codes "IT'S"))) ∷ (Referred (Refers o (codes "N") ([]) (ByParts o (ss ([])) (ss ([])) (ss ((One (FromBeginning (Literal o (Integer 1)))) ∷ []))))) ∷ []))) (es ((Called o (codes "LJUST") (es ((Literal o (Text (codes "+05"))) ∷ (Literal o (Integer 0)) ∷ []))) ∷ []))) ∷ (Called o (codes "INDEX") (es ((Referred (Refers o (codes "N") ([]) Unsubscripted)) ∷ (Called o (codes "RJUST") (es ((Literal o (Text (codes "IT'S"))) ∷ (Literal o (Integer 2)) ∷ []))) ∷ []))) ∷ (And o (Referred (Refers o (codes "R") ([]) (ByParts o (ss ([])) (ss ([])) (ss ((Portion (Literal o (Integer 1)) (FromBeginning (Literal o (Integer 3)))) ∷ []))))) (es ((Literal o (Bits 1 1)) ∷ []))) ∷ (Referred (Refers o (codes "I2") ([]) Unsubscripted)) ∷ [])))))))) ∷ (inl (BlockOf (nm (codes "T")) (Task o) ([]) (el ((inr (Labelled ([]) (If o (Called o (codes "XOR") (es ((Or o (Referred (Refers o (codes "R") ([]) Unsubscripted)) (es ((Literal o (Bits 6 15)) ∷ []))) ∷ (And o (Literal o True) (es ((Referred (Refers o (codes "R") ([]) Unsubscripted)) ∷ []))) ∷ []))) (Labelled ([]) (Scheduled o (scheduling (nm (codes "T")) (Some (StartIn o (Sum o None (Referred (Refers o (codes "Z") ((nm (codes "C2")) ∷ []) (ByParts o (ss ((One (FromBeginning (Literal o (Integer 1)))) ∷ [])) (ss ([])) (ss ([]))))) (ts ((Plus, (Referred (Refers o (codes "I2") ([]) Unsubscripted))) ∷ []))))) None false None None))) NoAlternative))) ∷ (inr (Labelled ([]) (Scheduled o (scheduling (nm (codes "T")) None (Some (Literal o (Integer 20))) false (Some (CyclicAfter o (Sum o None (Literal o (Integer 7)) (ts ((Minus, (Literal o (Integer 2))) ∷ []))))) None)))) ∷ (inr (Labelled ([]) (Assignment o ((Refers o (codes "N") ([]) Unsubscripted) ∷ (Refers o (codes "N") ([]) Unsubscripted) ∷ (Refers o (codes "N") ([]) (ByParts o (ss ([])) (ss ([])) (ss ((Portion (Literal o (Integer 1)) (FromEnd o (ts ([])))) ∷ [])))) ∷ []) (Literal o (Integer 5))))) ∷ [])) (Some (nm (codes "T"))))) ∷ [])) (Some (nm (codes "P"))))) ∷ [])

abbrev Says8 : Type 0
Says8 = reported 400 row8 ((line.Run 25) ∷ (line.Tick 300) ∷ (line.Run 80) ∷ []) ≡ codes "0: 0 001111 0 00010\n31: 1 0\nend P 0 closed 1\nend P.T 300 error 2:1 0\nP.N = ''\nP.R = 0001\nP.Z.C$(1;1,1,1) = 13\nP.Z.C$(1;1,1,2) = 13\nP.Z.C$(1;2,1,1) = 13\nP.Z.C$(1;2,1,2) = 0\nP.Z.C2$(1;) = 13\nP.Z.C$(2;1,1,1) = 13\nP.Z.C$(2;1,1,2) = 13\nP.Z.C$(2;2,1,1) = 13\nP.Z.C$(2;2,1,2) = 13\nP.Z.C2$(2;) = 0\nP.E2 = 1\nP.I = 0\nP.I2 = 0\n"

pub all_say : Says1 × Says2 × Says3 × Says4 × Says5 × Says6 × Says7 × Says8
unfolding digits words_reserved.reserved_words words_reserved.left_out_words phrases_gathereddeclarations.gathered_kind phrases_gathereddeclarations.gathered_initial phrases_gathereddeclarations.gathered_initials phrases_gathereddeclarations.gathered_attribute phrases_gathereddeclarations.gathered_item phrases_gathereddeclarations.still_open phrases_gathereddeclarations.innermost phrases_gathereddeclarations.is_bottom phrases_gathereddeclarations.gathered_part phrases_gathereddeclarations.gathered_parts phrases_gathereddeclarations.gathered_declaration phrases_gatheredexpressions.gathered phrases_gatheredexpressions.gathered_all phrases_gatheredexpressions.gathered_terms phrases_gatheredexpressions.gathered_reference phrases_gatheredexpressions.gathered_subscript phrases_gatheredexpressions.gathered_subs phrases_gatheredexpressions.gathered_sub phrases_gatheredexpressions.gathered_position phrases_gatheredstatements.gathered_guard phrases_gatheredstatements.gathered_span phrases_gatheredstatements.gathered_start phrases_gatheredstatements.gathered_cycle phrases_gatheredstatements.gathered_limit phrases_gatheredstatements.gathered_schedule phrases_gatheredstatements.begun_for phrases_gatheredstatements.around_for phrases_gatheredstatements.gathered_statement phrases_gatheredstatements.gathered_basic phrases_gatheredstatements.gathered_alternative phrases_gatheredstatements.gathered_group phrases_gatheredstatements.gathered_statements phrases_gatheredunits.gathered_returns phrases_gatheredunits.gathered_head phrases_gatheredunits.gathered_block phrases_gatheredunits.gathered_elements phrases_gatheredunits.around_template phrases_gatheredunits.gathered_template phrases_gatheredunits.gathered_preface phrases_gatheredunits.gathered_prefaces phrases_gatheredunits.name_of_block phrases_gatheredunits.gathered_file phrases_gatheredunits.phrases_of phrases_members.gathered_member phrases_members.gathered_members names_declarations.is_declaring names_declarations.with_places names_declarations.with_all_chosen names_keys.declared_at names_keys.same_space names_keys.same_key names_keys.own names_means.is_compool_unit names_means.unit_named names_means.given_by names_means.shown names_means.shown_by names_means.included names_means.included_before names_means.prefaces_of names_means.nearest names_tasks.with_homes scope_builtins.builtins scope_components.has_path scope_components.is_structure scope_components.type_has scope_components.has_component scope_components.lacks_in scope_components.lacks scope_labels.is_label_of scope_labels.misclosed scope_labels.is_loop scope_labels.group_around scope_labels.misled scope_labels.astray scope_repeated.given scope_repeated.is_of_block scope_repeated.twice scope_repeated.declares_one_there scope_repeated.declarations_of scope_repeated.included_twice scope_repeated.is_item scope_repeated.undeclared scope_rules.fault scope_rules.first_fault scope_sorts.type_in scope_sorts.type_among scope_sorts.sort_of_type scope_sorts.sort_of_head scope_sorts.sort_of scope_sorts.usage_of scope_sorts.use_of_reference scope_sorts.used scope_uses.unknown scope_uses.is_eventful scope_uses.is_nil scope_uses.refers_to_event scope_uses.holds_event scope_uses.hold_event scope_uses.limit_of scope_uses.limit_around scope_uses.misused kinds_attributes.count_of kinds_attributes.no_more kinds_attributes.sizes_in kinds_attributes.sizes_among kinds_attributes.initial_in kinds_attributes.initial_among kinds_attributes.constant_in kinds_attributes.constant_among kinds_attributes.same_mark kinds_attributes.is_mark kinds_classes.class_of_result kinds_classes.class_of_returns kinds_classes.class_of_head kinds_classes.class_of_form kinds_classes.class_of_builtin kinds_classes.class_at kinds_classes.class_of_reference kinds_classes.class_of_function kinds_classes.class_of_called_head kinds_classes.class_of_called kinds_classes.class_of_literal kinds_classes.class_of_conversion kinds_classes.beside kinds_classes.joined kinds_classes.enclosed kinds_classes.class_of kinds_classes.class_beside kinds_classes.class_joined kinds_data.class_of_type kinds_data.has_copies kinds_data.dimensions_of kinds_data.data_of kinds_data.part_data kinds_data.part_under kinds_data.data_at_part kinds_data.component_of kinds_data.component_data kinds_data.data_at kinds_data.is_event_type kinds_data.is_structure_type kinds_subscripts.subscript_count kinds_subscripts.is_many kinds_subscripts.are_many kinds_subscripts.parts_chosen kinds_subscripts.choice_of kinds_subscripts.is_structure_class constants_constants.operation_of_sign constants_constants.signed constants_constants.operation_of_conversion constants_constants.raised_to constants_constants.raised constants_constants.is_none constants_constants.factor_at constants_constants.constant_of constants_constants.folded constants_constants.summed constants_constants.computed constants_constants.computed_second constants_constants.multiplied constants_constants.referred constants_constants.subscripted constants_constants.component_of constants_constants.component_by constants_constants.place_of constants_known.size_of_integer constants_known.size_of_value constants_known.size_of constants_known.bits_kind constants_known.text_kind constants_known.kind_of constants_known.kind_of_type constants_known.gives_none constants_known.give_none constants_known.only_of constants_known.only_with constants_known.kept constants_known.fitted constants_known.only_in constants_known.declared_value constants_known.round constants_known.is_file constants_known.is_pooled constants_known.rounds constants_naming.constant_known constants_naming.constant_at constants_naming.literal_constant constants_naming.operation_of constants_operands.takes_one constants_operands.takes_two constants_operands.is_storable constants_operands.has_components constants_results.worth constants_results.worse constants_results.apply_one constants_results.apply_two constants_results.component_at constants_results.component_to constants_results.component_from constants_results.picked_one constants_results.picked_to constants_results.picked_from states_ofkinds.is_of
all_say = (refl, refl, refl, refl, refl, refl, refl, refl)
