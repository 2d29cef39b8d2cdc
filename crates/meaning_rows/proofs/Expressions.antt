-- Rows of expressions.txt, written by tools/meaning_rows.
use Rattle.std.specs.Prelude.{◌≡◌, ℕ, List, [], ◌∷◌, Option, Some, None, true, false, codes}
use Rattle.std.specs.Fmt.{digits}
use Rattle.std.proofs.Common.{refl, inl, inr}
use Rattle.hal_grammar.specs.Leaves.{Plus, Minus, Equal, Less, Greater, AtMost, AtLeast, NotEqual, NotLess, NotGreater, ToInteger, ToBits, ToText, Integer, Text, Bits, True, False, On, Off}
use Rattle.hal_grammar.specs.Expressions.{Or, And, Compare, Cat, Sum, Product, Power, Not, Literal, Decimal, Referred, Called, Convert, Parenthesis, Refers, Unsubscripted, ByName, ByInteger, ByParts, Every, One, Range, Portion, FromBeginning, FromEnd}
use Rattle.hal_grammar.specs.Declarations.{Single, Double, Latched, Static, Automatic, Dense, Aligned, IntegerKind, BooleanKind, EventKind, BitKind, CharacterKind, StructureKind, Value, LiteralTimes, NameTimes, ListTimes, Dimensions, Typed, Marked, LockGroup, LockAny, InitialValues, ConstantValues, declared_of, part_of, Declare, Structure}
use Rattle.hal_grammar.specs.Statements.{While, Until, Stepped, Listed, EveryError, GroupErrors, OneError, Signal, Set, Reset, eventful, System, Ignore, StartAt, StartIn, StartOn, Cyclic, CyclicEvery, CyclicAfter, scheduling, Labelled, Null, Assignment, If, Do, DoCase, DoLoop, DoFor, Exit, Repeat, Return, Call, Read, Write, Update, Scheduled, Cancel, Terminate, Wait, WaitUntil, WaitForDependent, WaitFor, Event, UpdatePriority, OnErrorStatement, OnErrorResponse, OffError, SendError, NoAlternative, Otherwise, Groups}
use Rattle.hal_grammar.specs.Units.{Reentrant, Exclusive, SinglePrecision, DoublePrecision, NoKind, HasKind, Program, Compool, Task, Procedure, Function, BlockOf, template_of, Include, Templates, File, file_of}
use Rattle.exec_model.specs.declared.script.ScriptLine.TheVariants as line
use Rattle.meaning_rows.specs.Trees.{o, nm, es, ts, ss, is, st, el}
use Rattle.meaning_rows.specs.Playing.{reported}
use Rattle.hal_words.specs.Reserved as words_reserved
use Rattle.hal_phrases.specs.GatheredDeclarations as phrases_gathereddeclarations
use Rattle.hal_phrases.specs.GatheredExpressions as phrases_gatheredexpressions
use Rattle.hal_phrases.specs.GatheredStatements as phrases_gatheredstatements
use Rattle.hal_phrases.specs.GatheredUnits as phrases_gatheredunits
use Rattle.hal_phrases.specs.Members as phrases_members
use Rattle.hal_names.specs.Declarations as names_declarations
use Rattle.hal_names.specs.Keys as names_keys
use Rattle.hal_names.specs.Means as names_means
use Rattle.hal_names.specs.Tasks as names_tasks
use Rattle.hal_scope.specs.Builtins as scope_builtins
use Rattle.hal_scope.specs.Components as scope_components
use Rattle.hal_scope.specs.Labels as scope_labels
use Rattle.hal_scope.specs.Repeated as scope_repeated
use Rattle.hal_scope.specs.Rules as scope_rules
use Rattle.hal_scope.specs.Sorts as scope_sorts
use Rattle.hal_scope.specs.Uses as scope_uses
use Rattle.hal_kinds.specs.Attributes as kinds_attributes
use Rattle.hal_kinds.specs.Classes as kinds_classes
use Rattle.hal_kinds.specs.Data as kinds_data
use Rattle.hal_kinds.specs.Subscripts as kinds_subscripts
use Rattle.hal_constants.specs.Constants as constants_constants
use Rattle.hal_constants.specs.Known as constants_known
use Rattle.hal_constants.specs.Naming as constants_naming
use Rattle.hal_constants.specs.Operands as constants_operands
use Rattle.hal_constants.specs.Results as constants_results
use Rattle.hal_states.specs.OfKinds as states_ofkinds

-- expressions 1: PREEMPT, text component all, error 1:2 SYSTEM, type BOOLEAN
abbrev row1 : List File
row1 = ((file_of ([]) (BlockOf (nm (codes "P")) (Program o) ((Declare o ([]) ((declared_of (nm (codes "C")) ((Dimensions o (es ((Literal o (Integer 2)) ∷ (Literal o (Integer 2)) ∷ []))) ∷ (Typed (IntegerKind o)) ∷ (InitialValues o (is ((Value (Sum o None (Product o (Literal o (Integer 7)) (es ((Literal o (Integer 2)) ∷ []))) (ts ((Minus, (Literal o (Integer 3))) ∷ [])))) ∷ []))) ∷ [])) ∷ [])) ∷ (Declare o ([]) ((declared_of (nm (codes "N")) ((Dimensions o (es ((Literal o (Integer 4)) ∷ []))) ∷ (Typed (IntegerKind o)) ∷ (Marked o Double) ∷ (InitialValues o (is ((Value (Called o (codes "ABS") (es ((Sum o (Some Minus) (Literal o (Integer 10)) (ts ([]))) ∷ [])))) ∷ []))) ∷ [])) ∷ [])) ∷ (Declare o ([]) ((declared_of (nm (codes "T")) ((Typed (BooleanKind o)) ∷ (InitialValues o (is ((Value (Cat o (Literal o (Bits 4 6)) (es ((Literal o (Bits 5 19)) ∷ [])))) ∷ []))) ∷ [])) ∷ [])) ∷ (Declare o ([]) ((declared_of (nm (codes "B")) ((Typed (CharacterKind o (Literal o (Integer 6)))) ∷ (InitialValues o (is ((Value (Cat o (Literal o (Text (codes "12"))) (es ((Literal o (Text (codes "LONGER TEXT"))) ∷ [])))) ∷ []))) ∷ [])) ∷ (declared_of (nm (codes "M")) ((Dimensions o (es ((Literal o (Integer 2)) ∷ (Literal o (Integer 1)) ∷ (Literal o (Integer 2)) ∷ []))) ∷ (Typed (BitKind o (Literal o (Integer 3)))) ∷ (InitialValues o (is ((Value (Convert o ToBits (Literal o (Integer 255)))) ∷ (Value (Literal o (Bits 3 5))) ∷ (Value (Literal o Off)) ∷ (Value (Literal o (Bits 6 15))) ∷ []))) ∷ [])) ∷ [])) ∷ (Declare o ([]) ((declared_of (nm (codes "I")) ((Typed (IntegerKind o)) ∷ [])) ∷ [])) ∷ (Declare o ([]) ((declared_of (nm (codes "I2")) ((Typed (IntegerKind o)) ∷ [])) ∷ [])) ∷ []) (el ((inr (Labelled ([]) (Assignment o ((Refers o (codes "B") ([]) (ByParts o (ss ([])) (ss ([])) (ss ((Range (FromEnd o (ts ((Minus, (Literal o (Integer 1))) ∷ []))) (FromEnd o (ts ([])))) ∷ [])))) ∷ (Refers o (codes "B") ([]) (ByParts o (ss ([])) (ss ([])) (ss ((Every o) ∷ [])))) ∷ (Refers o (codes "B") ([]) (ByParts o (ss ([])) (ss ([])) (ss ((Range (FromBeginning (Literal o (Integer 2))) (FromBeginning (Literal o (Integer 1)))) ∷ [])))) ∷ []) (Parenthesis o (Literal o (Text (codes "A"))))))) ∷ (inr (Labelled ([]) (Assignment o ((Refers o (codes "N") ([]) (ByParts o (ss ([])) (ss ([])) (ss ((One (FromBeginning (Sum o None (Called o (codes "MOD") (es ((Literal o (Integer 4)) ∷ (Literal o (Integer 4)) ∷ []))) (ts ((Plus, (Literal o (Integer 1))) ∷ []))))) ∷ [])))) ∷ []) (Called o (codes "SIGNUM") (es ((Sum o None (Convert o ToInteger (Literal o (Text (codes "+5")))) (ts ((Minus, (Literal o (Integer 255))) ∷ []))) ∷ [])))))) ∷ (inr (Labelled ([]) (Assignment o ((Refers o (codes "N") ([]) (ByParts o (ss ([])) (ss ([])) (ss ((One (FromBeginning (Literal o (Integer 1)))) ∷ [])))) ∷ []) (Called o (codes "LENGTH") (es ((Literal o (Text (codes "A"))) ∷ [])))))) ∷ (inr (Labelled ((nm (codes "M2")) ∷ []) (If o (Compare o (Sum o (Some Minus) (Called o (codes "MOD") (es ((Referred (Refers o (codes "C") ([]) (ByParts o (ss ([])) (ss ([])) (ss ((One (FromBeginning (Literal o (Integer 2)))) ∷ (One (FromBeginning (Literal o (Integer 2)))) ∷ []))))) ∷ (Referred (Refers o (codes "C") ([]) (ByParts o (ss ([])) (ss ([])) (ss ((One (FromBeginning (Literal o (Integer 1)))) ∷ (One (FromBeginning (Literal o (Integer 2)))) ∷ []))))) ∷ []))) (ts ([]))) NotEqual (Literal o (Integer 7))) (Labelled ([]) (Assignment o ((Refers o (codes "T") ([]) Unsubscripted) ∷ (Refers o (codes "M") ([]) (ByParts o (ss ([])) (ss ((One (FromBeginning (Sum o None (Called o (codes "MOD") (es ((Sum o None (Referred (Refers o (codes "I") ([]) Unsubscripted)) (ts ((Plus, (Literal o (Integer 10))) ∷ []))) ∷ (Literal o (Integer 2)) ∷ []))) (ts ((Plus, (Literal o (Integer 1))) ∷ []))))) ∷ (One (FromBeginning (Literal o (Integer 1)))) ∷ (One (FromBeginning (Literal o (Integer 2)))) ∷ [])) (ss ((One (FromBeginning (Sum o None (Called o (codes "MOD") (es ((Referred (Refers o (codes "C") ([]) (ByParts o (ss ([])) (ss ((One (FromBeginning (Literal o (Integer 2)))) ∷ (One (FromBeginning (Literal o (Integer 2)))) ∷ [])) (ss ([]))))) ∷ (Literal o (Integer 3)) ∷ []))) (ts ((Plus, (Literal o (Integer 1))) ∷ []))))) ∷ [])))) ∷ []) (Literal o Off))) NoAlternative))) ∷ (inr (Labelled ([]) (Assignment o ((Refers o (codes "B") ([]) Unsubscripted) ∷ []) (Cat o (Called o (codes "LJUST") (es ((Cat o (Literal o (Text (codes "HELLO"))) (es ((Referred (Refers o (codes "C") ([]) (ByParts o (ss ([])) (ss ([])) (ss ((One (FromBeginning (Literal o (Integer 2)))) ∷ (One (FromBeginning (Literal o (Integer 1)))) ∷ []))))) ∷ []))) ∷ (Literal o (Integer 8)) ∷ []))) (es ((Literal o (Integer 2)) ∷ [])))))) ∷ (inr (Labelled ([]) (Write o (Product o (Literal o (Integer 2)) (es ((Literal o (Integer 3)) ∷ []))) (es ((Cat o (Called o (codes "ODD") (es ((Referred (Refers o (codes "I") ([]) Unsubscripted)) ∷ []))) (es ((Parenthesis o (Or o (Referred (Refers o (codes "M") ([]) (ByParts o (ss ([])) (ss ([])) (ss ((One (FromBeginning (Literal o (Integer 2)))) ∷ (One (FromBeginning (Literal o (Integer 1)))) ∷ (One (FromBeginning (Literal o (Integer 1)))) ∷ []))))) (es ((Referred (Refers o (codes "T") ([]) Unsubscripted)) ∷ [])))) ∷ []))) ∷ []))))) ∷ (inr (Labelled ((nm (codes "M3")) ∷ []) (Assignment o ((Refers o (codes "T") ([]) Unsubscripted) ∷ []) (Referred (Refers o (codes "M") ([]) (ByParts o (ss ([])) (ss ([])) (ss ((One (FromBeginning (Literal o (Integer 2)))) ∷ (One (FromBeginning (Sum o None (Called o (codes "MOD") (es ((Convert o ToInteger (Called o (codes "ODD") (es ((Referred (Refers o (codes "I") ([]) Unsubscripted)) ∷ [])))) ∷ (Literal o (Integer 1)) ∷ []))) (ts ((Plus, (Literal o (Integer 1))) ∷ []))))) ∷ (One (FromBeginning (Sum o None (Called o (codes "MOD") (es ((Sum o None (Called o (codes "MOD") (es ((Referred (Refers o (codes "C") ([]) (ByParts o (ss ([])) (ss ([])) (ss ((One (FromBeginning (Literal o (Integer 2)))) ∷ (One (FromBeginning (Literal o (Integer 2)))) ∷ []))))) ∷ (Referred (Refers o (codes "C") ([]) (ByParts o (ss ([])) (ss ([])) (ss ((One (FromBeginning (Literal o (Integer 1)))) ∷ (One (FromBeginning (Literal o (Integer 1)))) ∷ []))))) ∷ []))) (ts ((Minus, (Called o (codes "DIV") (es ((Referred (Refers o (codes "N") ([]) (ByParts o (ss ([])) (ss ([])) (ss ((One (FromBeginning (Literal o (Integer 3)))) ∷ []))))) ∷ (Literal o (Integer 7)) ∷ [])))) ∷ []))) ∷ (Literal o (Integer 2)) ∷ []))) (ts ((Plus, (Literal o (Integer 1))) ∷ []))))) ∷ [])))))))) ∷ (inr (Labelled ([]) (Write o (Literal o (Integer 6)) (es ((Referred (Refers o (codes "I") ([]) Unsubscripted)) ∷ (Referred (Refers o (codes "N") ([]) (ByParts o (ss ([])) (ss ([])) (ss ((One (FromBeginning (Literal o (Integer 1)))) ∷ []))))) ∷ (Referred (Refers o (codes "B") ([]) Unsubscripted)) ∷ []))))) ∷ (inr (Labelled ([]) (Assignment o ((Refers o (codes "C") ([]) (ByParts o (ss ([])) (ss ([])) (ss ((One (FromBeginning (Literal o (Integer 1)))) ∷ (One (FromBeginning (Literal o (Integer 2)))) ∷ [])))) ∷ []) (Called o (codes "REMAINDER") (es ((Sum o None (Referred (Refers o (codes "C") ([]) (ByParts o (ss ([])) (ss ([])) (ss ((One (FromBeginning (Literal o (Integer 2)))) ∷ (One (FromBeginning (Literal o (Integer 1)))) ∷ []))))) (ts ((Minus, (Literal o (Integer 7))) ∷ []))) ∷ (Literal o (Integer 0)) ∷ [])))))) ∷ (inr (Labelled ([]) (Write o (Literal o (Integer 6)) (es ((Referred (Refers o (codes "N") ([]) (ByParts o (ss ([])) (ss ((One (FromBeginning (Literal o (Integer 3)))) ∷ [])) (ss ([]))))) ∷ (Referred (Refers o (codes "I2") ([]) Unsubscripted)) ∷ []))))) ∷ [])) (Some (nm (codes "P"))))) ∷ [])

abbrev Says1 : Type 0
Says1 = reported 400 row1 ((line.Run 8) ∷ (line.Tick 1000) ∷ (line.Preempt (codes "P")) ∷ (line.Run 600) ∷ []) ≡ codes "6: 0000\n6: 0 1 HELLO1\nend P 0 error 1:2 0\nP.C$(1,1) = 11\nP.C$(1,2) = 11\nP.C$(2,1) = 11\nP.C$(2,2) = 11\nP.N$(1) = 1\nP.N$(2) = 10\nP.N$(3) = 10\nP.N$(4) = 10\nP.T = 1\nP.B = 'HELLO1'\nP.M$(1,1,1) = 111\nP.M$(1,1,2) = 100\nP.M$(2,1,1) = 000\nP.M$(2,1,2) = 111\nP.I = 0\nP.I2 = 0\n"

-- expressions 4: n#(..), n#value, text component one, REMAINDER
abbrev row2 : List File
row2 = ((file_of ([]) (BlockOf (nm (codes "P")) (Program o) ((Declare o ([]) ((declared_of (nm (codes "K")) ((Dimensions o (es ((Literal o (Integer 2)) ∷ (Literal o (Integer 3)) ∷ []))) ∷ (Typed (CharacterKind o (Literal o (Integer 1)))) ∷ (ConstantValues o (is ((Value (Called o (codes "LJUST") (es ((Literal o (Text (codes "A"))) ∷ (Literal o (Integer 4)) ∷ [])))) ∷ (Value (Called o (codes "LJUST") (es ((Literal o (Text (codes "A"))) ∷ (Literal o (Integer 4)) ∷ [])))) ∷ (Value (Cat o (Literal o (Text (codes "HELLO"))) (es ((Literal o (Text (codes " PAD "))) ∷ [])))) ∷ (LiteralTimes o 3 None o (Text (codes "AB"))) ∷ []))) ∷ [])) ∷ [])) ∷ (Declare o ([]) ((declared_of (nm (codes "K2")) ((Typed (IntegerKind o)) ∷ (ConstantValues o (is ((Value (Literal o (Integer 0))) ∷ []))) ∷ [])) ∷ [])) ∷ (Structure o (nm (codes "S")) ((part_of o 1 (nm (codes "C")) ((Typed (CharacterKind o (Literal o (Integer 10)))) ∷ [])) ∷ (part_of o 1 (nm (codes "C2")) ((Dimensions o (es ((Literal o (Integer 3)) ∷ []))) ∷ (Typed (CharacterKind o (Literal o (Integer 1)))) ∷ [])) ∷ [])) ∷ (Declare o ([]) ((declared_of (nm (codes "B")) ((Dimensions o (es ((Literal o (Integer 3)) ∷ []))) ∷ (Typed (BitKind o (Literal o (Integer 5)))) ∷ (InitialValues o (is ((LiteralTimes o 2 None o (Bits 4 6)) ∷ (Value (Or o (Literal o (Bits 5 19)) (es ((Literal o (Bits 7 100)) ∷ [])))) ∷ []))) ∷ [])) ∷ [])) ∷ (Declare o ([]) ((declared_of (nm (codes "T")) ((Dimensions o (es ((Literal o (Integer 2)) ∷ (Literal o (Integer 1)) ∷ (Literal o (Integer 2)) ∷ []))) ∷ (Typed (IntegerKind o)) ∷ (InitialValues o (is ((ListTimes o 2 (is ((Value (Literal o (Integer 1))) ∷ (Value (Sum o None (Product o (Literal o (Integer 2)) (es ((Literal o (Integer 2)) ∷ []))) (ts ((Minus, (Literal o (Integer 3))) ∷ [])))) ∷ []))) ∷ []))) ∷ [])) ∷ (declared_of (nm (codes "M")) ((Typed (BitKind o (Literal o (Integer 8)))) ∷ (InitialValues o (is ((Value (Literal o True)) ∷ []))) ∷ [])) ∷ (declared_of (nm (codes "N")) ((Typed (IntegerKind o)) ∷ (Marked o Single) ∷ [])) ∷ [])) ∷ (Declare o ([]) ((declared_of (nm (codes "Z")) ((Typed (StructureKind o (codes "S") (Some (Literal o (Integer 2))))) ∷ (InitialValues o (is ((Value (Called o (codes "LJUST") (es ((Literal o (Text (codes "lower"))) ∷ (Literal o (Integer 4)) ∷ [])))) ∷ []))) ∷ [])) ∷ [])) ∷ (Declare o ([]) ((declared_of (nm (codes "I")) ((Typed (IntegerKind o)) ∷ [])) ∷ [])) ∷ (Declare o ([]) ((declared_of (nm (codes "I2")) ((Typed (IntegerKind o)) ∷ [])) ∷ [])) ∷ []) (el ((inr (Labelled ((nm (codes "M2")) ∷ []) (Write o (Literal o (Integer 6)) (es ((Referred (Refers o (codes "I2") ([]) Unsubscripted)) ∷ (Product o (Called o (codes "REMAINDER") (es ((Literal o (Integer 5)) ∷ (Literal o (Integer 7)) ∷ []))) (es ((Called o (codes "REMAINDER") (es ((Referred (Refers o (codes "I2") ([]) Unsubscripted)) ∷ (Literal o (Integer 5)) ∷ []))) ∷ []))) ∷ (Sum o None (Referred (Refers o (codes "N") ([]) Unsubscripted)) (ts ((Plus, (Literal o (Integer 1))) ∷ (Plus, (Literal o (Integer 7))) ∷ []))) ∷ (Or o (Cat o (Referred (Refers o (codes "B") ([]) (ByInteger o o 2))) (es ((Referred (Refers o (codes "M") ([]) Unsubscripted)) ∷ []))) (es ((Parenthesis o (Or o (Referred (Refers o (codes "M") ([]) Unsubscripted)) (es ((Referred (Refers o (codes "M") ([]) Unsubscripted)) ∷ [])))) ∷ []))) ∷ []))))) ∷ (inr (Labelled ([]) (Write o (Literal o (Integer 6)) (es ((Referred (Refers o (codes "B") ([]) (ByParts o (ss ([])) (ss ((One (FromEnd o (ts ((Minus, (Literal o (Integer 2))) ∷ [])))) ∷ [])) (ss ((Portion (Literal o (Integer 1)) (FromBeginning (Literal o (Integer 3)))) ∷ []))))) ∷ (Sum o None (Referred (Refers o (codes "K2") ([]) Unsubscripted)) (ts ((Plus, (Parenthesis o (Sum o None (Referred (Refers o (codes "I") ([]) Unsubscripted)) (ts ((Minus, (Referred (Refers o (codes "K2") ([]) Unsubscripted))) ∷ []))))) ∷ []))) ∷ []))))) ∷ (inr (Labelled ([]) (Write o (Literal o (Integer 0)) (es ((Parenthesis o (Called o (codes "INDEX") (es ((Literal o (Text (codes "XYZ"))) ∷ (Referred (Refers o (codes "K") ([]) (ByParts o (ss ([])) (ss ((One (FromBeginning (Literal o (Integer 2)))) ∷ (One (FromBeginning (Literal o (Integer 1)))) ∷ [])) (ss ((One (FromEnd o (ts ([])))) ∷ []))))) ∷ [])))) ∷ (Sum o None (Referred (Refers o (codes "I2") ([]) Unsubscripted)) (ts ((Plus, (Literal o (Integer 2))) ∷ (Minus, (Parenthesis o (Sum o None (Referred (Refers o (codes "T") ([]) (ByParts o (ss ([])) (ss ([])) (ss ((One (FromBeginning (Literal o (Integer 2)))) ∷ (One (FromBeginning (Literal o (Integer 1)))) ∷ (One (FromBeginning (Literal o (Integer 2)))) ∷ []))))) (ts ((Minus, (Parenthesis o (Product o (Literal o (Integer 2)) (es ((Referred (Refers o (codes "N") ([]) Unsubscripted)) ∷ []))))) ∷ []))))) ∷ []))) ∷ []))))) ∷ (inr (Labelled ([]) (Assignment o ((Refers o (codes "B") ([]) (ByParts o (ss ([])) (ss ([])) (ss ((One (FromBeginning (Literal o (Integer 2)))) ∷ [])))) ∷ []) (Referred (Refers o (codes "M") ([]) Unsubscripted))))) ∷ (inr (Labelled ([]) (Assignment o ((Refers o (codes "N") ([]) Unsubscripted) ∷ (Refers o (codes "N") ([]) Unsubscripted) ∷ []) (Literal o (Integer 100))))) ∷ [])) (Some (nm (codes "P"))))) ∷ [])

abbrev Says2 : Type 0
Says2 = reported 400 row2 ((line.Run 600) ∷ []) ≡ codes "6: 0 0 8 0011000000001\n6: 1 0\n0: 0 1\nend P 0 closed 1\nP.B$(1) = 00110\nP.B$(2) = 00001\nP.B$(3) = 10111\nP.T$(1,1,1) = 1\nP.T$(1,1,2) = 1\nP.T$(2,1,1) = 1\nP.T$(2,1,2) = 1\nP.M = 00000001\nP.N = 100\nP.Z.C$(1;) = 'lowe'\nP.Z.C2$(1;1) = 'l'\nP.Z.C2$(1;2) = 'l'\nP.Z.C2$(1;3) = 'l'\nP.Z.C$(2;) = 'lowe'\nP.Z.C2$(2;1) = 'l'\nP.Z.C2$(2;2) = 'l'\nP.Z.C2$(2;3) = 'l'\nP.I = 0\nP.I2 = 0\n"

-- expressions 16: error 1:5 SYSTEM, copy subscript all left out, sign +, n#(..)
abbrev row3 : List File
row3 = ((file_of ([]) (BlockOf (nm (codes "P")) (Program o) ((Declare o ([]) ((declared_of (nm (codes "K")) ((Dimensions o (es ((Literal o (Integer 2)) ∷ []))) ∷ (Typed (IntegerKind o)) ∷ (ConstantValues o (is ((ListTimes o 2 (is ((Value (Sum o None (Product o (Literal o (Integer 2)) (es ((Literal o (Integer 2)) ∷ []))) (ts ((Minus, (Literal o (Integer 3))) ∷ [])))) ∷ []))) ∷ []))) ∷ [])) ∷ [])) ∷ (Structure o (nm (codes "S")) ((part_of o 1 (nm (codes "C")) ((Typed (IntegerKind o)) ∷ (Marked o Double) ∷ [])) ∷ (part_of o 1 (nm (codes "G")) ([])) ∷ (part_of o 2 (nm (codes "C2")) ((Typed (BitKind o (Literal o (Integer 5)))) ∷ [])) ∷ (part_of o 2 (nm (codes "C3")) ((Typed (CharacterKind o (Literal o (Integer 4)))) ∷ [])) ∷ (part_of o 2 (nm (codes "C4")) ((Typed (BitKind o (Literal o (Integer 8)))) ∷ [])) ∷ [])) ∷ (Declare o ([]) ((declared_of (nm (codes "Z")) ((Typed (StructureKind o (codes "S") (Some (Literal o (Integer 3))))) ∷ [])) ∷ (declared_of (nm (codes "T")) ((Typed (BitKind o (Literal o (Integer 8)))) ∷ (InitialValues o (is ((Value (Or o (Literal o (Bits 3 5)) (es ((Literal o (Bits 4 6)) ∷ [])))) ∷ []))) ∷ [])) ∷ [])) ∷ (Declare o ([]) ((declared_of (nm (codes "N")) ((Typed (IntegerKind o)) ∷ [])) ∷ [])) ∷ (Declare o ([]) ((declared_of (nm (codes "I2")) ((Typed (IntegerKind o)) ∷ [])) ∷ [])) ∷ []) (el ((inr (Labelled ([]) (Do o (Groups (st ((Labelled ([]) (Assignment o ((Refers o (codes "N") ([]) Unsubscripted) ∷ []) (Called o (codes "MOD") (es ((Called o (codes "SIZE") (es ((Referred (Refers o (codes "Z") ([]) Unsubscripted)) ∷ []))) ∷ (Literal o (Integer 255)) ∷ []))))) ∷ (Labelled ([]) (Assignment o ((Refers o (codes "Z") ((nm (codes "C")) ∷ []) (ByParts o (ss ((One (FromBeginning (Sum o None (Called o (codes "MOD") (es ((Sum o (Some Plus) (Literal o (Integer 12)) (ts ([]))) ∷ (Literal o (Integer 3)) ∷ []))) (ts ((Plus, (Literal o (Integer 1))) ∷ []))))) ∷ [])) (ss ([])) (ss ([])))) ∷ []) (Sum o None (Referred (Refers o (codes "I2") ([]) Unsubscripted)) (ts ((Minus, (Power o (Literal o (Integer 12)) (Literal o (Integer 2)))) ∷ []))))) ∷ (Labelled ([]) (Write o (Literal o (Integer 6)) (es ((Referred (Refers o (codes "Z") ((nm (codes "G")) ∷ (nm (codes "C3")) ∷ []) (ByParts o (ss ((One (FromBeginning (Literal o (Integer 2)))) ∷ [])) (ss ([])) (ss ([]))))) ∷ (Referred (Refers o (codes "Z") ((nm (codes "G")) ∷ (nm (codes "C3")) ∷ []) (ByParts o (ss ((One (FromBeginning (Literal o (Integer 3)))) ∷ [])) (ss ([])) (ss ([]))))) ∷ [])))) ∷ [])) None)))) ∷ (inr (Labelled ([]) (Do o (Groups (st ((Labelled ([]) (Assignment o ((Refers o (codes "Z") ((nm (codes "G")) ∷ (nm (codes "C2")) ∷ []) (ByParts o (ss ((One (FromBeginning (Sum o None (Called o (codes "MOD") (es ((Product o (Literal o (Integer 1)) (es ((Literal o (Integer 12)) ∷ []))) ∷ (Literal o (Integer 3)) ∷ []))) (ts ((Plus, (Literal o (Integer 1))) ∷ []))))) ∷ [])) (ss ([])) (ss ([])))) ∷ (Refers o (codes "Z") ((nm (codes "G")) ∷ (nm (codes "C4")) ∷ []) (ByParts o (ss ((One (FromBeginning (Sum o None (Called o (codes "MOD") (es ((Power o (Literal o (Integer 10)) (Literal o (Integer 2))) ∷ (Literal o (Integer 3)) ∷ []))) (ts ((Plus, (Literal o (Integer 1))) ∷ []))))) ∷ [])) (ss ([])) (ss ((Range (FromBeginning (Literal o (Integer 5))) (FromBeginning (Literal o (Integer 6)))) ∷ [])))) ∷ (Refers o (codes "Z") ((nm (codes "G")) ∷ (nm (codes "C2")) ∷ []) (ByParts o (ss ((One (FromBeginning (Literal o (Integer 2)))) ∷ [])) (ss ([])) (ss ([])))) ∷ []) (Or o (Referred (Refers o (codes "T") ([]) Unsubscripted)) (es ((Not o (Called o (codes "ODD") (es ((Referred (Refers o (codes "K") ([]) (ByInteger o o 2))) ∷ [])))) ∷ []))))) ∷ [])) None)))) ∷ (inr (Labelled ([]) (Write o (Literal o (Integer 6)) (es ((Parenthesis o (Sum o None (Referred (Refers o (codes "I2") ([]) Unsubscripted)) (ts ((Plus, (Literal o (Integer 12))) ∷ [])))) ∷ (Parenthesis o (Cat o (Referred (Refers o (codes "Z") ((nm (codes "G")) ∷ (nm (codes "C4")) ∷ []) (ByParts o (ss ((One (FromBeginning (Literal o (Integer 3)))) ∷ [])) (ss ([])) (ss ([]))))) (es ((Referred (Refers o (codes "Z") ((nm (codes "G")) ∷ (nm (codes "C2")) ∷ []) (ByParts o (ss ((One (FromBeginning (Literal o (Integer 3)))) ∷ [])) (ss ([])) (ss ((One (FromBeginning (Literal o (Integer 1)))) ∷ []))))) ∷ [])))) ∷ []))))) ∷ (inr (Labelled ([]) (Write o (Literal o (Integer 6)) (es ((Parenthesis o (Referred (Refers o (codes "Z") ((nm (codes "G")) ∷ (nm (codes "C2")) ∷ []) (ByParts o (ss ((One (FromEnd o (ts ([])))) ∷ [])) (ss ([])) (ss ([])))))) ∷ (Called o (codes "ODD") (es ((Sum o None (Referred (Refers o (codes "K") ([]) (ByParts o (ss ([])) (ss ([])) (ss ((One (FromBeginning (Literal o (Integer 2)))) ∷ []))))) (ts ((Plus, (Literal o (Integer 255))) ∷ []))) ∷ []))) ∷ []))))) ∷ (inr (Labelled ([]) (Write o (Literal o (Integer 6)) (es ((Convert o ToInteger (Literal o (Text (codes "X")))) ∷ []))))) ∷ (inr (Labelled ([]) (Write o (Literal o (Integer 6)) (es ((Referred (Refers o (codes "Z") ((nm (codes "C")) ∷ []) (ByParts o (ss ((One (FromBeginning (Literal o (Integer 1)))) ∷ [])) (ss ([])) (ss ([]))))) ∷ []))))) ∷ [])) (Some (nm (codes "P"))))) ∷ [])

abbrev Says3 : Type 0
Says3 = reported 400 row3 ((line.Run 600) ∷ []) ≡ codes "6:  \n6: 12 000000000\n6: 00000 0\nend P 0 error 1:5 0\nP.Z.C$(1;) = -144\nP.Z.G.C2$(1;) = 00111\nP.Z.G.C3$(1;) = ''\nP.Z.G.C4$(1;) = 00000000\nP.Z.C$(2;) = 0\nP.Z.G.C2$(2;) = 00111\nP.Z.G.C3$(2;) = ''\nP.Z.G.C4$(2;) = 00001100\nP.Z.C$(3;) = 0\nP.Z.G.C2$(3;) = 00000\nP.Z.G.C3$(3;) = ''\nP.Z.G.C4$(3;) = 00000000\nP.T = 00000111\nP.N = 3\nP.I2 = 0\n"

-- expressions 30: error 1:2 SYSTEM, sign +, text component one, bit component one
abbrev row4 : List File
row4 = ((file_of ([]) (BlockOf (nm (codes "P")) (Program o) ((Declare o ([]) ((declared_of (nm (codes "OUT")) ((Typed (IntegerKind o)) ∷ (ConstantValues o (is ((Value (Literal o (Integer 6))) ∷ []))) ∷ [])) ∷ [])) ∷ (Declare o ([]) ((declared_of (nm (codes "C")) ((Typed (CharacterKind o (Literal o (Integer 1)))) ∷ (InitialValues o (is ((Value (Literal o (Text (codes "IT'S")))) ∷ []))) ∷ [])) ∷ [])) ∷ (Declare o ([]) ((declared_of (nm (codes "T")) ((Dimensions o (es ((Literal o (Integer 3)) ∷ []))) ∷ (Typed (CharacterKind o (Literal o (Integer 6)))) ∷ [])) ∷ [])) ∷ (Declare o ([]) ((declared_of (nm (codes "M")) ((Typed (CharacterKind o (Literal o (Integer 3)))) ∷ (InitialValues o (is ((Value (Cat o (Literal o (Text (codes "-7"))) (es ((Literal o (Text (codes "A"))) ∷ [])))) ∷ []))) ∷ [])) ∷ (declared_of (nm (codes "N")) ((Typed (IntegerKind o)) ∷ (Marked o Single) ∷ (InitialValues o (is ((Value (Called o (codes "ABS") (es ((Sum o (Some Minus) (Literal o (Integer 255)) (ts ([]))) ∷ [])))) ∷ []))) ∷ [])) ∷ (declared_of (nm (codes "B")) ((Typed (BitKind o (Literal o (Integer 32)))) ∷ [])) ∷ [])) ∷ (Declare o ([]) ((declared_of (nm (codes "I")) ((Typed (IntegerKind o)) ∷ [])) ∷ [])) ∷ (Declare o ([]) ((declared_of (nm (codes "I2")) ((Typed (IntegerKind o)) ∷ [])) ∷ [])) ∷ []) (el ((inr (Labelled ([]) (Assignment o ((Refers o (codes "C") ([]) Unsubscripted) ∷ (Refers o (codes "M") ([]) Unsubscripted) ∷ (Refers o (codes "T") ([]) (ByParts o (ss ([])) (ss ([])) (ss ((One (FromEnd o (ts ([])))) ∷ [])))) ∷ []) (Called o (codes "LJUST") (es ((Cat o (Parenthesis o (Referred (Refers o (codes "M") ([]) Unsubscripted))) (es ((Referred (Refers o (codes "T") ([]) (ByParts o (ss ([])) (ss ([])) (ss ((One (FromBeginning (Literal o (Integer 2)))) ∷ []))))) ∷ []))) ∷ (Literal o (Integer 5)) ∷ [])))))) ∷ (inr (Labelled ([]) (Write o (Literal o (Integer 6)) (es ((Not o (Called o (codes "ODD") (es ((Literal o (Integer 100)) ∷ [])))) ∷ (Convert o ToInteger (Literal o (Text (codes "+5")))) ∷ (Cat o (Parenthesis o (Or o (Literal o (Bits 3 5)) (es ((Referred (Refers o (codes "B") ([]) Unsubscripted)) ∷ [])))) (es ((Not o (Literal o (Bits 3 5))) ∷ []))) ∷ (Called o (codes "LJUST") (es ((Literal o (Text (codes "XYZ"))) ∷ (Literal o (Integer 8)) ∷ []))) ∷ []))))) ∷ (inr (Labelled ((nm (codes "M2")) ∷ []) (Assignment o ((Refers o (codes "C") ([]) Unsubscripted) ∷ []) (Referred (Refers o (codes "M") ([]) (ByParts o (ss ([])) (ss ([])) (ss ((One (FromBeginning (Literal o (Integer 1)))) ∷ [])))))))) ∷ (inr (Labelled ([]) (Write o (Literal o (Integer 6)) (es ((Referred (Refers o (codes "T") ([]) (ByParts o (ss ([])) (ss ((One (FromBeginning (Literal o (Integer 3)))) ∷ [])) (ss ([]))))) ∷ []))))) ∷ (inr (Labelled ([]) (Write o (Referred (Refers o (codes "OUT") ([]) Unsubscripted)) (es ((Product o (Called o (codes "INDEX") (es ((Literal o (Text (codes "-7"))) ∷ (Referred (Refers o (codes "T") ([]) (ByParts o (ss ([])) (ss ((One (FromBeginning (Literal o (Integer 3)))) ∷ [])) (ss ([]))))) ∷ []))) (es ((Parenthesis o (Parenthesis o (Sum o None (Called o (codes "ABS") (es ((Referred (Refers o (codes "N") ([]) Unsubscripted)) ∷ []))) (ts ((Minus, (Literal o (Integer 1))) ∷ []))))) ∷ []))) ∷ (Convert o ToInteger (Called o (codes "ODD") (es ((Literal o (Integer 10)) ∷ [])))) ∷ (Referred (Refers o (codes "B") ([]) (ByParts o (ss ([])) (ss ([])) (ss ((One (FromBeginning (Literal o (Integer 3)))) ∷ []))))) ∷ []))))) ∷ (inr (Labelled ([]) (Write o (Referred (Refers o (codes "OUT") ([]) Unsubscripted)) (es ((Cat o (Parenthesis o (Referred (Refers o (codes "T") ([]) (ByParts o (ss ([])) (ss ([])) (ss ((One (FromBeginning (Literal o (Integer 1)))) ∷ [])))))) (es ((Sum o (Some Plus) (Referred (Refers o (codes "I2") ([]) Unsubscripted)) (ts ([]))) ∷ []))) ∷ (Called o (codes "LENGTH") (es ((Called o (codes "LJUST") (es ((Referred (Refers o (codes "M") ([]) Unsubscripted)) ∷ (Literal o (Integer 2)) ∷ []))) ∷ []))) ∷ []))))) ∷ (inr (Labelled ([]) (Assignment o ((Refers o (codes "T") ([]) (ByParts o (ss ([])) (ss ((One (FromEnd o (ts ((Minus, (Literal o (Integer 1))) ∷ [])))) ∷ [])) (ss ([])))) ∷ []) (Called o (codes "INDEX") (es ((Referred (Refers o (codes "T") ([]) (ByParts o (ss ([])) (ss ([])) (ss ((One (FromBeginning (Sum o None (Called o (codes "MOD") (es ((Referred (Refers o (codes "I2") ([]) Unsubscripted)) ∷ (Literal o (Integer 3)) ∷ []))) (ts ((Plus, (Literal o (Integer 1))) ∷ []))))) ∷ []))))) ∷ (Cat o (Literal o (Text (codes "IT'S"))) (es ((Referred (Refers o (codes "N") ([]) Unsubscripted)) ∷ []))) ∷ [])))))) ∷ (inr (Labelled ((nm (codes "M3")) ∷ []) (Write o (Referred (Refers o (codes "OUT") ([]) Unsubscripted)) (es ((Sum o None (Referred (Refers o (codes "N") ([]) Unsubscripted)) (ts ((Minus, (Literal o (Integer 5))) ∷ (Minus, (Literal o (Integer 7))) ∷ []))) ∷ (Parenthesis o (Or o (Referred (Refers o (codes "B") ([]) Unsubscripted)) (es ((Referred (Refers o (codes "B") ([]) (ByParts o (ss ([])) (ss ([])) (ss ((One (FromBeginning (Literal o (Integer 10)))) ∷ []))))) ∷ [])))) ∷ []))))) ∷ (inr (Labelled ([]) (Assignment o ((Refers o (codes "N") ([]) Unsubscripted) ∷ []) (Called o (codes "DIV") (es ((Product o (Referred (Refers o (codes "I") ([]) Unsubscripted)) (es ((Literal o (Integer 5)) ∷ []))) ∷ (Product o (Literal o (Integer 0)) (es ((Literal o (Integer 5)) ∷ []))) ∷ [])))))) ∷ (inr (Labelled ([]) (Write o (Literal o (Integer 6)) (es ((Referred (Refers o (codes "T") ([]) (ByParts o (ss ([])) (ss ([])) (ss ((One (FromBeginning (Literal o (Integer 3)))) ∷ []))))) ∷ (Referred (Refers o (codes "T") ([]) (ByParts o (ss ([])) (ss ([])) (ss ((One (FromBeginning (Literal o (Integer 1)))) ∷ []))))) ∷ []))))) ∷ [])) (Some (nm (codes "P"))))) ∷ [])

abbrev Says4 : Type 0
Says4 = reported 400 row4 ((line.Run 600) ∷ []) ≡ codes "6: 1 5 00000000000000000000000000101010 XYZ     \n6: -7A  \n6: 0 0 0\n6: 0 2\n6: 243 00000000000000000000000000000000\nend P 0 error 1:2 0\nP.C = '-'\nP.T$(1) = ''\nP.T$(2) = '0'\nP.T$(3) = '-7A  '\nP.M = '-7A'\nP.N = 255\nP.B = 00000000000000000000000000000000\nP.I = 0\nP.I2 = 0\n"

-- expressions 51: operation >=, REMAINDER, TICK, IF ELSE
abbrev row5 : List File
row5 = ((file_of ([]) (BlockOf (nm (codes "P")) (Program o) ((Declare o ([]) ((declared_of (nm (codes "K")) ((Typed (IntegerKind o)) ∷ (Marked o Double) ∷ (ConstantValues o (is ((Value (Sum o None (Literal o (Integer 1000)) (ts ((Plus, (Literal o (Integer 1))) ∷ [])))) ∷ []))) ∷ [])) ∷ [])) ∷ (Declare o ([]) ((declared_of (nm (codes "K2")) ((Typed (CharacterKind o (Literal o (Integer 10)))) ∷ (ConstantValues o (is ((Value (Convert o ToText (Literal o (Integer 7)))) ∷ []))) ∷ [])) ∷ [])) ∷ (Structure o (nm (codes "S")) ((part_of o 1 (nm (codes "C")) ((Typed (IntegerKind o)) ∷ (Marked o Dense) ∷ [])) ∷ (part_of o 1 (nm (codes "C2")) ((Typed (CharacterKind o (Literal o (Integer 4)))) ∷ (Marked o Dense) ∷ [])) ∷ [])) ∷ (Declare o ([]) ((declared_of (nm (codes "R")) ((Typed (BitKind o (Literal o (Integer 4)))) ∷ [])) ∷ [])) ∷ (Declare o ([]) ((declared_of (nm (codes "Z")) ((Typed (StructureKind o (codes "S") (Some (Literal o (Integer 2))))) ∷ [])) ∷ [])) ∷ (Declare o ([]) ((declared_of (nm (codes "T")) ((Typed (IntegerKind o)) ∷ (Marked o Double) ∷ (InitialValues o (is ((Value (Called o (codes "ABS") (es ((Sum o (Some Minus) (Literal o (Integer 1)) (ts ([]))) ∷ [])))) ∷ []))) ∷ [])) ∷ [])) ∷ (Declare o ([]) ((declared_of (nm (codes "N")) ((Typed (IntegerKind o)) ∷ (Marked o Double) ∷ (InitialValues o (is ((Value (Called o (codes "LENGTH") (es ((Literal o (Text (codes "+05"))) ∷ [])))) ∷ []))) ∷ [])) ∷ [])) ∷ (Declare o ([]) ((declared_of (nm (codes "M")) ((Dimensions o (es ((Literal o (Integer 2)) ∷ []))) ∷ (Typed (CharacterKind o (Literal o (Integer 3)))) ∷ [])) ∷ [])) ∷ (Declare o ([]) ((declared_of (nm (codes "B")) ((Typed (IntegerKind o)) ∷ (Marked o Double) ∷ (InitialValues o (is ((Value (Referred (Refers o (codes "K") ([]) Unsubscripted))) ∷ []))) ∷ [])) ∷ [])) ∷ (Declare o ([]) ((declared_of (nm (codes "I")) ((Typed (IntegerKind o)) ∷ [])) ∷ [])) ∷ []) (el ((inr (Labelled ((nm (codes "M2")) ∷ []) (Write o (Literal o (Integer 6)) (es ((Parenthesis o (Convert o ToText (Referred (Refers o (codes "R") ([]) Unsubscripted)))) ∷ (Sum o None (Referred (Refers o (codes "B") ([]) Unsubscripted)) (ts ((Minus, (Parenthesis o (Sum o None (Referred (Refers o (codes "T") ([]) Unsubscripted)) (ts ((Plus, (Literal o (Integer 2))) ∷ []))))) ∷ (Minus, (Literal o (Integer 3))) ∷ []))) ∷ (Called o (codes "ODD") (es ((Sum o (Some Minus) (Referred (Refers o (codes "N") ([]) Unsubscripted)) (ts ([]))) ∷ []))) ∷ []))))) ∷ (inr (Labelled ([]) (Assignment o ((Refers o (codes "B") ([]) Unsubscripted) ∷ (Refers o (codes "B") ([]) Unsubscripted) ∷ (Refers o (codes "Z") ((nm (codes "C")) ∷ []) (ByParts o (ss ((One (FromEnd o (ts ([])))) ∷ [])) (ss ([])) (ss ([])))) ∷ []) (Convert o ToInteger (Literal o (Text (codes "12"))))))) ∷ (inr (Labelled ([]) (If o (Compare o (Called o (codes "REMAINDER") (es ((Called o (codes "ABS") (es ((Literal o (Integer 100)) ∷ []))) ∷ (Literal o (Integer 1)) ∷ []))) AtLeast (Called o (codes "MOD") (es ((Product o (Literal o (Integer 100)) (es ((Literal o (Integer 7)) ∷ []))) ∷ (Literal o (Integer 100)) ∷ [])))) (Labelled ([]) (Do o (Groups (st ((Labelled ([]) (If o (Compare o (Convert o ToText (Parenthesis o (Literal o True))) AtLeast (Called o (codes "LJUST") (es ((Cat o (Literal o (Text (codes ""))) (es ((Referred (Refers o (codes "Z") ((nm (codes "C")) ∷ []) (ByParts o (ss ((One (FromBeginning (Literal o (Integer 1)))) ∷ [])) (ss ([])) (ss ([]))))) ∷ []))) ∷ (Literal o (Integer 10)) ∷ [])))) (Labelled ([]) (Do o (Groups (st ((Labelled ([]) (Write o (Literal o (Integer 0)) (es ((Product o (Parenthesis o (Sum o None (Literal o (Integer 10)) (ts ((Plus, (Literal o (Integer 10))) ∷ [])))) (es ((Called o (codes "LENGTH") (es ((Referred (Refers o (codes "M") ([]) (ByInteger o o 2))) ∷ []))) ∷ []))) ∷ (Sum o None (Called o (codes "LENGTH") (es ((Literal o (Text (codes "+05"))) ∷ []))) (ts ((Plus, (Parenthesis o (Sum o None (Referred (Refers o (codes "T") ([]) Unsubscripted)) (ts ((Minus, (Literal o (Integer 7))) ∷ []))))) ∷ []))) ∷ (Literal o (Text (codes "-7"))) ∷ [])))) ∷ (Labelled ([]) (Assignment o ((Refers o (codes "M") ([]) (ByParts o (ss ([])) (ss ([])) (ss ((One (FromEnd o (ts ([])))) ∷ [])))) ∷ []) (Cat o (Referred (Refers o (codes "Z") ((nm (codes "C2")) ∷ []) (ByParts o (ss ((One (FromBeginning (Literal o (Integer 1)))) ∷ [])) (ss ([])) (ss ([]))))) (es ((Convert o ToText (Not o (Referred (Refers o (codes "R") ([]) (ByParts o (ss ([])) (ss ([])) (ss ((Range (FromBeginning (Literal o (Integer 2))) (FromBeginning (Literal o (Integer 3)))) ∷ []))))))) ∷ []))))) ∷ [])) None))) NoAlternative)) ∷ [])) None))) (Otherwise (Labelled ([]) (Write o (Literal o (Integer 6)) (es ((Called o (codes "TRIM") (es ((Referred (Refers o (codes "K2") ([]) Unsubscripted)) ∷ []))) ∷ (Sum o None (Called o (codes "K") (es ((Literal o (Integer 1000)) ∷ []))) (ts ((Minus, (Literal o (Integer 2))) ∷ []))) ∷ [])))))))) ∷ (inr (Labelled ([]) (Write o (Literal o (Integer 6)) (es ((Referred (Refers o (codes "R") ([]) Unsubscripted)) ∷ (Referred (Refers o (codes "I") ([]) Unsubscripted)) ∷ []))))) ∷ (inr (Labelled ([]) (Write o (Literal o (Integer 6)) (es ((Referred (Refers o (codes "Z") ((nm (codes "C")) ∷ []) (ByParts o (ss ((One (FromBeginning (Literal o (Integer 2)))) ∷ [])) (ss ([])) (ss ([]))))) ∷ []))))) ∷ [])) (Some (nm (codes "P"))))) ∷ [])

abbrev Says5 : Type 0
Says5 = reported 400 row5 ((line.Run 7) ∷ (line.Tick 1000) ∷ (line.Run 600) ∷ []) ≡ codes "6: 0000 995 1\n0: 0 -3 -7\n6: 0000 0\n6: 12\nend P 0 closed 1\nP.R = 0000\nP.Z.C$(1;) = 0\nP.Z.C2$(1;) = ''\nP.Z.C$(2;) = 12\nP.Z.C2$(2;) = ''\nP.T = 1\nP.N = 3\nP.M$(1) = ''\nP.M$(2) = '11'\nP.B = 12\nP.I = 0\n"

-- expressions 100: bit component all, type BOOLEAN, SIGNUM, operation =
abbrev row6 : List File
row6 = ((file_of ([]) (BlockOf (nm (codes "P")) (Program o) ((Declare o ([]) ((declared_of (nm (codes "K")) ((Typed (IntegerKind o)) ∷ (ConstantValues o (is ((Value (Sum o None (Literal o (Integer 1)) (ts ((Plus, (Literal o (Integer 1))) ∷ [])))) ∷ []))) ∷ [])) ∷ [])) ∷ (Declare o ([]) ((declared_of (nm (codes "N")) ((Typed (IntegerKind o)) ∷ (Marked o Double) ∷ (InitialValues o (is ((Value (Called o (codes "LENGTH") (es ((Literal o (Text (codes "IT'S"))) ∷ [])))) ∷ []))) ∷ [])) ∷ [])) ∷ (Declare o ([]) ((declared_of (nm (codes "T")) ((Typed (IntegerKind o)) ∷ (Marked o Double) ∷ [])) ∷ [])) ∷ (Declare o ([]) ((declared_of (nm (codes "R")) ((Typed (CharacterKind o (Literal o (Integer 6)))) ∷ (InitialValues o (is ((Value (Literal o (Text (codes "XYZ")))) ∷ []))) ∷ [])) ∷ (declared_of (nm (codes "M")) ((Typed (IntegerKind o)) ∷ (InitialValues o (is ((Value (Literal o (Integer 2))) ∷ []))) ∷ [])) ∷ [])) ∷ (Declare o ([]) ((declared_of (nm (codes "B")) ((Dimensions o (es ((Literal o (Integer 2)) ∷ (Literal o (Integer 1)) ∷ (Literal o (Integer 2)) ∷ []))) ∷ (Typed (BooleanKind o)) ∷ [])) ∷ [])) ∷ (Declare o ([]) ((declared_of (nm (codes "I2")) ((Typed (IntegerKind o)) ∷ [])) ∷ [])) ∷ []) (el ((inr (Labelled ([]) (Write o (Literal o (Integer 6)) (es ((Referred (Refers o (codes "N") ([]) Unsubscripted)) ∷ (Referred (Refers o (codes "I2") ([]) Unsubscripted)) ∷ []))))) ∷ (inr (Labelled ([]) (Assignment o ((Refers o (codes "R") ([]) Unsubscripted) ∷ []) (Convert o ToText (Called o (codes "TRIM") (es ((Convert o ToText (Literal o (Bits 6 15))) ∷ []))))))) ∷ (inr (Labelled ([]) (Assignment o ((Refers o (codes "B") ([]) (ByParts o (ss ([])) (ss ([])) (ss ((One (FromBeginning (Literal o (Integer 2)))) ∷ (One (FromBeginning (Literal o (Integer 1)))) ∷ (One (FromBeginning (Literal o (Integer 2)))) ∷ [])))) ∷ []) (Literal o (Bits 8 60))))) ∷ (inr (Labelled ((nm (codes "M2")) ∷ []) (Write o (Literal o (Integer 31)) (es ((Literal o False) ∷ (Sum o None (Called o (codes "DIV") (es ((Literal o (Integer 1)) ∷ (Literal o (Integer 12)) ∷ []))) (ts ((Plus, (Called o (codes "SHR") (es ((Referred (Refers o (codes "K") ([]) Unsubscripted)) ∷ (Literal o (Integer 1)) ∷ [])))) ∷ []))) ∷ (Referred (Refers o (codes "R") ([]) Unsubscripted)) ∷ (Sum o None (Product o (Literal o (Integer 2)) (es ((Literal o (Integer 1)) ∷ []))) (ts ((Plus, (Parenthesis o (Sum o (Some Minus) (Literal o (Integer 10)) (ts ([]))))) ∷ []))) ∷ []))))) ∷ (inr (Labelled ([]) (If o (And o (Compare o (Parenthesis o (Referred (Refers o (codes "B") ([]) (ByParts o (ss ([])) (ss ([])) (ss ((One (FromBeginning (Literal o (Integer 2)))) ∷ (One (FromBeginning (Literal o (Integer 1)))) ∷ (One (FromBeginning (Literal o (Integer 1)))) ∷ [])))))) Equal (Called o (codes "XOR") (es ((Referred (Refers o (codes "B") ([]) (ByParts o (ss ([])) (ss ((One (FromBeginning (Literal o (Integer 1)))) ∷ (One (FromBeginning (Literal o (Integer 1)))) ∷ (One (FromBeginning (Literal o (Integer 2)))) ∷ [])) (ss ([]))))) ∷ (Referred (Refers o (codes "B") ([]) (ByParts o (ss ([])) (ss ((One (FromBeginning (Literal o (Integer 2)))) ∷ (One (FromBeginning (Literal o (Integer 1)))) ∷ (One (FromBeginning (Literal o (Integer 1)))) ∷ [])) (ss ((Every o) ∷ []))))) ∷ [])))) (es ((Compare o (Product o (Literal o (Integer 1)) (es ((Literal o (Integer 7)) ∷ []))) Equal (Literal o (Integer 2147483647))) ∷ []))) (Labelled ([]) (Assignment o ((Refers o (codes "B") ([]) (ByParts o (ss ([])) (ss ([])) (ss ((One (FromBeginning (Literal o (Integer 2)))) ∷ (One (FromBeginning (Literal o (Integer 1)))) ∷ (One (FromEnd o (ts ([])))) ∷ [])))) ∷ []) (Or o (Literal o (Bits 6 15)) (es ((Referred (Refers o (codes "B") ([]) (ByParts o (ss ([])) (ss ([])) (ss ((One (FromBeginning (Literal o (Integer 1)))) ∷ (One (FromBeginning (Literal o (Integer 1)))) ∷ (One (FromBeginning (Literal o (Integer 1)))) ∷ []))))) ∷ (Cat o (Referred (Refers o (codes "B") ([]) (ByParts o (ss ([])) (ss ([])) (ss ((One (FromBeginning (Literal o (Integer 2)))) ∷ (One (FromBeginning (Literal o (Integer 1)))) ∷ (One (FromBeginning (Literal o (Integer 1)))) ∷ []))))) (es ((Literal o (Bits 1 1)) ∷ []))) ∷ (Called o (codes "ODD") (es ((Referred (Refers o (codes "I2") ([]) Unsubscripted)) ∷ []))) ∷ []))))) NoAlternative))) ∷ (inr (Labelled ([]) (Assignment o ((Refers o (codes "R") ([]) Unsubscripted) ∷ (Refers o (codes "R") ([]) Unsubscripted) ∷ (Refers o (codes "R") ([]) Unsubscripted) ∷ []) (Called o (codes "MOD") (es ((Referred (Refers o (codes "I2") ([]) Unsubscripted)) ∷ (Literal o (Integer 255)) ∷ [])))))) ∷ (inr (Labelled ([]) (If o (Or o (Referred (Refers o (codes "B") ([]) (ByParts o (ss ([])) (ss ([])) (ss ((One (FromBeginning (Sum o None (Called o (codes "MOD") (es ((Literal o (Integer 5)) ∷ (Literal o (Integer 2)) ∷ []))) (ts ((Plus, (Literal o (Integer 1))) ∷ []))))) ∷ (One (FromBeginning (Literal o (Integer 1)))) ∷ (One (FromBeginning (Literal o (Integer 1)))) ∷ []))))) (es ((Parenthesis o (Compare o (Referred (Refers o (codes "B") ([]) (ByParts o (ss ([])) (ss ([])) (ss ((One (FromBeginning (Literal o (Integer 1)))) ∷ (One (FromBeginning (Literal o (Integer 1)))) ∷ (One (FromEnd o (ts ([])))) ∷ []))))) Equal (Convert o ToBits (Referred (Refers o (codes "T") ([]) Unsubscripted))))) ∷ []))) (Labelled ((nm (codes "M3")) ∷ []) (Write o (Product o (Literal o (Integer 2)) (es ((Literal o (Integer 3)) ∷ []))) (es ((Sum o None (Product o (Literal o (Integer 1)) (es ((Referred (Refers o (codes "M") ([]) Unsubscripted)) ∷ []))) (ts ((Minus, (Literal o (Integer 5))) ∷ []))) ∷ [])))) (Otherwise (Labelled ([]) (Assignment o ((Refers o (codes "T") ([]) Unsubscripted) ∷ []) (Sum o (Some Minus) (Called o (codes "SIGNUM") (es ((Convert o ToInteger (Literal o (Text (codes "-007")))) ∷ []))) (ts ([]))))))))) ∷ (inr (Labelled ([]) (Write o (Literal o (Integer 6)) (es ((Referred (Refers o (codes "R") ([]) (ByParts o (ss ([])) (ss ([])) (ss ((Range (FromBeginning (Literal o (Integer 1))) (FromBeginning (Literal o (Integer 1)))) ∷ []))))) ∷ (Parenthesis o (Sum o (Some Minus) (Referred (Refers o (codes "K") ([]) Unsubscripted)) (ts ([])))) ∷ (Sum o None (Referred (Refers o (codes "K") ([]) Unsubscripted)) (ts ((Minus, (Referred (Refers o (codes "M") ([]) Unsubscripted))) ∷ []))) ∷ []))))) ∷ [])) (Some (nm (codes "P"))))) ∷ [])

abbrev Says6 : Type 0
Says6 = reported 400 row6 ((line.Run 600) ∷ []) ≡ codes "6: 4 0\n31: 0 1 001111 -8\n6: -3\n6: 0 -2 0\nend P 0 closed 1\nP.N = 4\nP.T = 0\nP.R = '0'\nP.M = 2\nP.B$(1,1,1) = 0\nP.B$(1,1,2) = 0\nP.B$(2,1,1) = 0\nP.B$(2,1,2) = 0\nP.I2 = 0\n"

-- expressions 151: error 1:3 SYSTEM, bit component all, n#value, operation =
abbrev row7 : List File
row7 = ((file_of ([]) (BlockOf (nm (codes "P")) (Program o) ((Declare o ([]) ((declared_of (nm (codes "K")) ((Typed (BitKind o (Literal o (Integer 5)))) ∷ (ConstantValues o (is ((Value (Literal o True)) ∷ []))) ∷ [])) ∷ [])) ∷ (Declare o ([]) ((declared_of (nm (codes "K2")) ((Typed (BitKind o (Literal o (Integer 16)))) ∷ (ConstantValues o (is ((Value (Called o (codes "ODD") (es ((Literal o (Integer 7)) ∷ [])))) ∷ []))) ∷ [])) ∷ [])) ∷ (Declare o ([]) ((declared_of (nm (codes "N")) ((Typed (BitKind o (Literal o (Integer 5)))) ∷ (InitialValues o (is ((Value (Called o (codes "ODD") (es ((Literal o (Integer 7)) ∷ [])))) ∷ []))) ∷ [])) ∷ [])) ∷ (Declare o ([]) ((declared_of (nm (codes "B")) ((Typed (IntegerKind o)) ∷ (InitialValues o (is ((Value (Called o (codes "ABS") (es ((Sum o (Some Minus) (Literal o (Integer 2)) (ts ([]))) ∷ [])))) ∷ []))) ∷ [])) ∷ (declared_of (nm (codes "T")) ((Dimensions o (es ((Literal o (Integer 2)) ∷ (Literal o (Integer 2)) ∷ []))) ∷ (Typed (CharacterKind o (Literal o (Integer 1)))) ∷ (InitialValues o (is ((Value (Literal o (Text (codes "AB")))) ∷ (LiteralTimes o 3 None o (Text (codes "AB"))) ∷ []))) ∷ [])) ∷ [])) ∷ (Declare o ([]) ((declared_of (nm (codes "I")) ((Typed (IntegerKind o)) ∷ [])) ∷ [])) ∷ (Declare o ([]) ((declared_of (nm (codes "I2")) ((Typed (IntegerKind o)) ∷ [])) ∷ [])) ∷ []) (el ((inr (Labelled ([]) (Write o (Literal o (Integer 6)) (es ((And o (Not o (Referred (Refers o (codes "N") ([]) Unsubscripted))) (es ((Convert o ToBits (Literal o (Integer 31))) ∷ []))) ∷ (Convert o ToBits (Sum o None (Literal o (Integer 7)) (ts ((Minus, (Literal o (Integer 2))) ∷ [])))) ∷ []))))) ∷ (inr (Labelled ([]) (Assignment o ((Refers o (codes "B") ([]) Unsubscripted) ∷ []) (Called o (codes "SHR") (es ((Literal o (Integer 255)) ∷ (Literal o (Integer 2)) ∷ [])))))) ∷ (inr (Labelled ([]) (If o (Compare o (Referred (Refers o (codes "K") ([]) Unsubscripted)) Equal (Parenthesis o (Or o (And o (Referred (Refers o (codes "K2") ([]) Unsubscripted)) (es ((Referred (Refers o (codes "K2") ([]) Unsubscripted)) ∷ []))) (es ((Cat o (Referred (Refers o (codes "N") ([]) Unsubscripted)) (es ((Referred (Refers o (codes "K2") ([]) (ByParts o (ss ([])) (ss ([])) (ss ((Every o) ∷ []))))) ∷ []))) ∷ []))))) (Labelled ([]) (Write o (Literal o (Integer 6)) (es ((Referred (Refers o (codes "K2") ([]) Unsubscripted)) ∷ [])))) NoAlternative))) ∷ (inr (Labelled ([]) (Assignment o ((Refers o (codes "N") ([]) Unsubscripted) ∷ (Refers o (codes "N") ([]) Unsubscripted) ∷ []) (Called o (codes "XOR") (es ((Referred (Refers o (codes "K2") ([]) (ByParts o (ss ([])) (ss ([])) (ss ((Range (FromBeginning (Literal o (Integer 2))) (FromEnd o (ts ([])))) ∷ []))))) ∷ (Or o (Referred (Refers o (codes "K2") ([]) Unsubscripted)) (es ((Called o (codes "ODD") (es ((Referred (Refers o (codes "B") ([]) Unsubscripted)) ∷ []))) ∷ []))) ∷ [])))))) ∷ (inr (Labelled ((nm (codes "M")) ∷ []) (Assignment o ((Refers o (codes "T") ([]) (ByParts o (ss ([])) (ss ([])) (ss ((One (FromBeginning (Literal o (Integer 2)))) ∷ (One (FromBeginning (Literal o (Integer 1)))) ∷ [])))) ∷ (Refers o (codes "T") ([]) (ByParts o (ss ([])) (ss ([])) (ss ((One (FromBeginning (Sum o None (Called o (codes "MOD") (es ((Called o (codes "MOD") (es ((Literal o (Integer 7)) ∷ (Literal o (Integer 7)) ∷ []))) ∷ (Literal o (Integer 2)) ∷ []))) (ts ((Plus, (Literal o (Integer 1))) ∷ []))))) ∷ (One (FromBeginning (Literal o (Integer 1)))) ∷ [])))) ∷ []) (Convert o ToText (Cat o (Sum o None (Referred (Refers o (codes "B") ([]) Unsubscripted)) (ts ((Minus, (Literal o (Integer 0))) ∷ []))) (es ((Parenthesis o (Cat o (Literal o (Text (codes "A"))) (es ((Referred (Refers o (codes "B") ([]) Unsubscripted)) ∷ [])))) ∷ []))))))) ∷ (inr (Labelled ([]) (Assignment o ((Refers o (codes "B") ([]) Unsubscripted) ∷ []) (Referred (Refers o (codes "B") ([]) Unsubscripted))))) ∷ (inr (Labelled ([]) (If o (Compare o (Called o (codes "SHR") (es ((Referred (Refers o (codes "I2") ([]) Unsubscripted)) ∷ (Literal o (Integer 1)) ∷ []))) NotEqual (Literal o (Integer 7))) (Labelled ([]) (Do o (Groups (st ((Labelled ([]) (If o (Or o (Called o (codes "XOR") (es ((Literal o (Bits 3 5)) ∷ (Literal o (Bits 6 15)) ∷ []))) (es ((Parenthesis o (Compare o (Referred (Refers o (codes "N") ([]) Unsubscripted)) Equal (Convert o ToBits (Called o (codes "MOD") (es ((Literal o (Integer 255)) ∷ (Literal o (Integer 255)) ∷ [])))))) ∷ []))) (Labelled ([]) (Write o (Literal o (Integer 6)) (es ((Literal o (Text (codes "LONGER TEXT"))) ∷ [])))) (Otherwise (Labelled ([]) (Assignment o ((Refers o (codes "T") ([]) (ByParts o (ss ([])) (ss ([])) (ss ((One (FromBeginning (Literal o (Integer 1)))) ∷ (One (FromBeginning (Literal o (Integer 2)))) ∷ [])))) ∷ (Refers o (codes "T") ([]) (ByParts o (ss ([])) (ss ([])) (ss ((One (FromBeginning (Literal o (Integer 2)))) ∷ (One (FromBeginning (Literal o (Integer 1)))) ∷ [])))) ∷ []) (Referred (Refers o (codes "T") ([]) (ByParts o (ss ([])) (ss ([])) (ss ((One (FromEnd o (ts ([])))) ∷ (One (FromEnd o (ts ((Minus, (Literal o (Integer 1))) ∷ [])))) ∷ [])))))))))) ∷ [])) None))) (Otherwise (Labelled ([]) (Assignment o ((Refers o (codes "B") ([]) Unsubscripted) ∷ (Refers o (codes "B") ([]) Unsubscripted) ∷ []) (Called o (codes "SIZE") (es ((Referred (Refers o (codes "T") ([]) Unsubscripted)) ∷ []))))))))) ∷ (inr (Labelled ([]) (Write o (Literal o (Integer 0)) (es ((Called o (codes "DIV") (es ((Power o (Referred (Refers o (codes "B") ([]) Unsubscripted)) (Literal o (Integer 2))) ∷ (Literal o (Integer 1000)) ∷ []))) ∷ []))))) ∷ (inr (Labelled ([]) (Write o (Literal o (Integer 6)) (es ((Referred (Refers o (codes "T") ([]) (ByParts o (ss ([])) (ss ([])) (ss ((One (FromEnd o (ts ((Minus, (Literal o (Integer 9))) ∷ [])))) ∷ (One (FromEnd o (ts ([])))) ∷ []))))) ∷ []))))) ∷ (inr (Labelled ([]) (Write o (Literal o (Integer 6)) (es ((Referred (Refers o (codes "K") ([]) Unsubscripted)) ∷ (Referred (Refers o (codes "K2") ([]) Unsubscripted)) ∷ []))))) ∷ [])) (Some (nm (codes "P"))))) ∷ [])

abbrev Says7 : Type 0
Says7 = reported 400 row7 ((line.Run 600) ∷ []) ≡ codes "6: 00000000000000000000000000011110 00000000000000000000000000000101\n6: LONGER TEXT\n0: 3\nend P 0 error 1:3 0\nP.N = 00000\nP.B = 63\nP.T$(1,1) = '6'\nP.T$(1,2) = 'A'\nP.T$(2,1) = '6'\nP.T$(2,2) = 'A'\nP.I = 0\nP.I2 = 0\n"

-- expressions 223: type BOOLEAN, n#value, text component one, array subscript all left out
abbrev row8 : List File
row8 = ((file_of ([]) (BlockOf (nm (codes "P")) (Program o) ((Structure o (nm (codes "S")) ((part_of o 1 (nm (codes "G")) ([])) ∷ (part_of o 2 (nm (codes "C")) ((Dimensions o (es ((Literal o (Integer 2)) ∷ (Literal o (Integer 1)) ∷ (Literal o (Integer 2)) ∷ []))) ∷ (Typed (BooleanKind o)) ∷ [])) ∷ (part_of o 1 (nm (codes "C2")) ((Typed (CharacterKind o (Literal o (Integer 10)))) ∷ [])) ∷ [])) ∷ (Declare o ([]) ((declared_of (nm (codes "T")) ((Dimensions o (es ((Literal o (Integer 2)) ∷ []))) ∷ (Typed (CharacterKind o (Literal o (Integer 6)))) ∷ [])) ∷ (declared_of (nm (codes "N")) ((Typed (CharacterKind o (Literal o (Integer 1)))) ∷ [])) ∷ (declared_of (nm (codes "Z")) ((Typed (StructureKind o (codes "S") None)) ∷ (InitialValues o (is ((Value (Or o (Literal o (Bits 8 60)) (es ((Literal o (Bits 3 5)) ∷ [])))) ∷ (Value (Convert o ToBits (Literal o (Integer 5)))) ∷ (Value (Not o (Literal o (Bits 4 15)))) ∷ (Value (Literal o (Bits 4 6))) ∷ (Value (Literal o (Text (codes "+05")))) ∷ []))) ∷ [])) ∷ [])) ∷ (Declare o ([]) ((declared_of (nm (codes "C3")) ((Dimensions o (es ((Literal o (Integer 2)) ∷ (Literal o (Integer 1)) ∷ (Literal o (Integer 2)) ∷ []))) ∷ (Typed (IntegerKind o)) ∷ (InitialValues o (is ((LiteralTimes o 2 (Some Minus) o (Integer 10)) ∷ (Value (Sum o (Some Minus) (Literal o (Integer 100)) (ts ([])))) ∷ (Value (Power o (Literal o (Integer 2)) (Literal o (Integer 2)))) ∷ []))) ∷ [])) ∷ [])) ∷ (Declare o ([]) ((declared_of (nm (codes "M")) ((Typed (CharacterKind o (Literal o (Integer 4)))) ∷ (InitialValues o (is ((Value (Literal o (Text (codes " PAD ")))) ∷ []))) ∷ [])) ∷ [])) ∷ (Declare o ([]) ((declared_of (nm (codes "B")) ((Dimensions o (es ((Literal o (Integer 2)) ∷ []))) ∷ (Typed (BitKind o (Literal o (Integer 5)))) ∷ (InitialValues o (is ((Value (Literal o True)) ∷ []))) ∷ [])) ∷ [])) ∷ (Declare o ([]) ((declared_of (nm (codes "I")) ((Typed (IntegerKind o)) ∷ [])) ∷ [])) ∷ (Declare o ([]) ((declared_of (nm (codes "I2")) ((Typed (IntegerKind o)) ∷ [])) ∷ [])) ∷ []) (el ((inr (Labelled ([]) (If o (Called o (codes "ODD") (es ((Sum o None (Referred (Refers o (codes "C3") ([]) (ByParts o (ss ([])) (ss ([])) (ss ((One (FromBeginning (Literal o (Integer 2)))) ∷ (One (FromBeginning (Literal o (Integer 1)))) ∷ (One (FromBeginning (Literal o (Integer 1)))) ∷ []))))) (ts ((Minus, (Referred (Refers o (codes "I2") ([]) Unsubscripted))) ∷ []))) ∷ []))) (Labelled ([]) (Assignment o ((Refers o (codes "C3") ([]) (ByParts o (ss ([])) (ss ([])) (ss ((One (FromEnd o (ts ((Minus, (Literal o (Integer 1))) ∷ [])))) ∷ (One (FromBeginning (Sum o None (Called o (codes "MOD") (es ((Sum o None (Referred (Refers o (codes "I2") ([]) Unsubscripted)) (ts ((Plus, (Literal o (Integer 2))) ∷ []))) ∷ (Literal o (Integer 1)) ∷ []))) (ts ((Plus, (Literal o (Integer 1))) ∷ []))))) ∷ (One (FromEnd o (ts ([])))) ∷ [])))) ∷ (Refers o (codes "C3") ([]) (ByParts o (ss ([])) (ss ([])) (ss ((One (FromBeginning (Sum o None (Called o (codes "MOD") (es ((Convert o ToInteger (Convert o ToText (Literal o (Integer 2)))) ∷ (Literal o (Integer 2)) ∷ []))) (ts ((Plus, (Literal o (Integer 1))) ∷ []))))) ∷ (One (FromBeginning (Literal o (Integer 1)))) ∷ (One (FromBeginning (Literal o (Integer 2)))) ∷ [])))) ∷ []) (Called o (codes "INDEX") (es ((Called o (codes "TRIM") (es ((Referred (Refers o (codes "N") ([]) Unsubscripted)) ∷ []))) ∷ (Called o (codes "RJUST") (es ((Cat o (Referred (Refers o (codes "I") ([]) Unsubscripted)) (es ((Referred (Refers o (codes "T") ([]) (ByInteger o o 2))) ∷ []))) ∷ (Literal o (Integer 0)) ∷ []))) ∷ []))))) NoAlternative))) ∷ (inr (Labelled ([]) (Assignment o ((Refers o (codes "B") ([]) (ByParts o (ss ([])) (ss ([])) (ss ((One (FromBeginning (Sum o None (Called o (codes "MOD") (es ((Called o (codes "SIZE") (es ((Referred (Refers o (codes "Z") ((nm (codes "G")) ∷ (nm (codes "C")) ∷ []) Unsubscripted)) ∷ []))) ∷ (Literal o (Integer 2)) ∷ []))) (ts ((Plus, (Literal o (Integer 1))) ∷ []))))) ∷ [])))) ∷ []) (Called o (codes "XOR") (es ((Cat o (Referred (Refers o (codes "B") ([]) (ByParts o (ss ([])) (ss ((One (FromBeginning (Literal o (Integer 1)))) ∷ [])) (ss ((Portion (Literal o (Integer 1)) (FromBeginning (Literal o (Integer 5)))) ∷ []))))) (es ((Referred (Refers o (codes "B") ([]) (ByParts o (ss ([])) (ss ([])) (ss ((One (FromEnd o (ts ((Minus, (Literal o (Integer 1))) ∷ [])))) ∷ []))))) ∷ []))) ∷ (Called o (codes "ODD") (es ((Sum o None (Referred (Refers o (codes "I") ([]) Unsubscripted)) (ts ((Minus, (Literal o (Integer 1000))) ∷ []))) ∷ []))) ∷ [])))))) ∷ (inr (Labelled ([]) (Write o (Literal o (Integer 31)) (es ((Called o (codes "XOR") (es ((Not o (Referred (Refers o (codes "Z") ((nm (codes "G")) ∷ (nm (codes "C")) ∷ []) (ByParts o (ss ([])) (ss ([])) (ss ((One (FromBeginning (Literal o (Integer 1)))) ∷ (One (FromBeginning (Literal o (Integer 1)))) ∷ (One (FromBeginning (Literal o (Integer 2)))) ∷ [])))))) ∷ (Cat o (Referred (Refers o (codes "Z") ((nm (codes "G")) ∷ (nm (codes "C")) ∷ []) (ByParts o (ss ([])) (ss ([])) (ss ((One (FromBeginning (Literal o (Integer 1)))) ∷ (One (FromBeginning (Literal o (Integer 1)))) ∷ (One (FromBeginning (Literal o (Integer 1)))) ∷ []))))) (es ((Referred (Refers o (codes "Z") ((nm (codes "G")) ∷ (nm (codes "C")) ∷ []) (ByParts o (ss ([])) (ss ((One (FromBeginning (Literal o (Integer 2)))) ∷ (One (FromBeginning (Literal o (Integer 1)))) ∷ (One (FromBeginning (Literal o (Integer 1)))) ∷ [])) (ss ([]))))) ∷ []))) ∷ []))) ∷ []))))) ∷ (inr (Labelled ([]) (Assignment o ((Refers o (codes "N") ([]) Unsubscripted) ∷ []) (Called o (codes "LJUST") (es ((Referred (Refers o (codes "M") ([]) (ByParts o (ss ([])) (ss ([])) (ss ((One (FromEnd o (ts ([])))) ∷ []))))) ∷ (Referred (Refers o (codes "I") ([]) Unsubscripted)) ∷ [])))))) ∷ (inr (Labelled ([]) (Assignment o ((Refers o (codes "N") ([]) Unsubscripted) ∷ []) (Parenthesis o (Referred (Refers o (codes "I2") ([]) Unsubscripted)))))) ∷ (inr (Labelled ([]) (Write o (Literal o (Integer 6)) (es ((Called o (codes "I2") (es ((Referred (Refers o (codes "I") ([]) Unsubscripted)) ∷ []))) ∷ (Literal o (Bits 5 19)) ∷ []))))) ∷ [])) (Some (nm (codes "P"))))) ∷ [])

abbrev Says8 : Type 0
Says8 = reported 400 row8 ((line.Run 600) ∷ []) ≡ codes "31: 10\n6: 0 10011\nend P 0 closed 1\nP.T$(1) = ''\nP.T$(2) = ''\nP.N = '0'\nP.Z.G.C$(1,1,1) = 1\nP.Z.G.C$(1,1,2) = 1\nP.Z.G.C$(2,1,1) = 0\nP.Z.G.C$(2,1,2) = 0\nP.Z.C2 = '+05'\nP.C3$(1,1,1) = -10\nP.C3$(1,1,2) = -10\nP.C3$(2,1,1) = -100\nP.C3$(2,1,2) = 4\nP.M = ' PAD'\nP.B$(1) = 00001\nP.B$(2) = 00001\nP.I = 0\nP.I2 = 0\n"

-- a CONSTANT is the value that is left where others stand no times
abbrev row9 : List File
row9 = ((file_of ([]) (BlockOf (nm (codes "P")) (Program o) ((Declare o ([]) ((declared_of (nm (codes "K")) ((Typed (IntegerKind o)) ∷ (ConstantValues o (is ((LiteralTimes o 0 None o (Integer 1)) ∷ (Value (Literal o (Integer 5))) ∷ []))) ∷ [])) ∷ (declared_of (nm (codes "L")) ((Typed (CharacterKind o (Literal o (Integer 3)))) ∷ (ConstantValues o (is ((ListTimes o 3 (is ((LiteralTimes o 0 None o (Text (codes "A"))) ∷ []))) ∷ (ListTimes o 1 (is ((Value (Literal o (Text (codes "BC")))) ∷ (LiteralTimes o 0 None o (Text (codes "D"))) ∷ []))) ∷ []))) ∷ [])) ∷ [])) ∷ []) (el ((inr (Labelled ([]) (Write o (Literal o (Integer 6)) (es ((Referred (Refers o (codes "K") ([]) Unsubscripted)) ∷ (Referred (Refers o (codes "L") ([]) Unsubscripted)) ∷ (Sum o None (Referred (Refers o (codes "K") ([]) Unsubscripted)) (ts ((Plus, (Literal o (Integer 1))) ∷ []))) ∷ []))))) ∷ [])) (Some (nm (codes "P"))))) ∷ [])

abbrev Says9 : Type 0
Says9 = reported 400 row9 ((line.Run 9) ∷ []) ≡ codes "6: 5 BC 6\nend P 0 closed 1\n"

-- bits that AND joins before a condition are joined as bits, and then become a condition
abbrev row10 : List File
row10 = ((file_of ([]) (BlockOf (nm (codes "P")) (Program o) ((Declare o ([]) ((declared_of (nm (codes "N")) ((Typed (IntegerKind o)) ∷ [])) ∷ [])) ∷ []) (el ((inr (Labelled ([]) (If o (And o (Literal o (Bits 2 2)) (es ((Literal o (Bits 2 1)) ∷ (Parenthesis o (Compare o (Referred (Refers o (codes "N") ([]) Unsubscripted)) Equal (Literal o (Integer 0)))) ∷ []))) (Labelled ([]) (Write o (Literal o (Integer 6)) (es ((Literal o (Integer 1)) ∷ [])))) (Otherwise (Labelled ([]) (Write o (Literal o (Integer 6)) (es ((Literal o (Integer 2)) ∷ [])))))))) ∷ (inr (Labelled ([]) (If o (And o (Literal o (Bits 2 2)) (es ((Parenthesis o (Compare o (Referred (Refers o (codes "N") ([]) Unsubscripted)) Equal (Literal o (Integer 0)))) ∷ (Literal o (Bits 2 1)) ∷ []))) (Labelled ([]) (Write o (Literal o (Integer 6)) (es ((Literal o (Integer 3)) ∷ [])))) (Otherwise (Labelled ([]) (Write o (Literal o (Integer 6)) (es ((Literal o (Integer 4)) ∷ [])))))))) ∷ (inr (Labelled ([]) (If o (Or o (Literal o (Bits 2 2)) (es ((Literal o (Bits 2 0)) ∷ (Parenthesis o (Compare o (Referred (Refers o (codes "N") ([]) Unsubscripted)) Equal (Literal o (Integer 1)))) ∷ []))) (Labelled ([]) (Write o (Literal o (Integer 6)) (es ((Literal o (Integer 5)) ∷ [])))) (Otherwise (Labelled ([]) (Write o (Literal o (Integer 6)) (es ((Literal o (Integer 6)) ∷ [])))))))) ∷ [])) (Some (nm (codes "P"))))) ∷ [])

abbrev Says10 : Type 0
Says10 = reported 400 row10 ((line.Run 9) ∷ []) ≡ codes "6: 2\n6: 3\n6: 5\nend P 0 closed 1\nP.N = 0\n"

pub all_say : Says1 × Says2 × Says3 × Says4 × Says5 × Says6 × Says7 × Says8 × Says9 × Says10
unfolding digits words_reserved.reserved_words words_reserved.left_out_words phrases_gathereddeclarations.gathered_kind phrases_gathereddeclarations.gathered_initial phrases_gathereddeclarations.gathered_initials phrases_gathereddeclarations.gathered_attribute phrases_gathereddeclarations.gathered_item phrases_gathereddeclarations.still_open phrases_gathereddeclarations.innermost phrases_gathereddeclarations.is_bottom phrases_gathereddeclarations.gathered_part phrases_gathereddeclarations.gathered_parts phrases_gathereddeclarations.gathered_declaration phrases_gatheredexpressions.gathered phrases_gatheredexpressions.gathered_all phrases_gatheredexpressions.gathered_terms phrases_gatheredexpressions.gathered_reference phrases_gatheredexpressions.gathered_subscript phrases_gatheredexpressions.gathered_subs phrases_gatheredexpressions.gathered_sub phrases_gatheredexpressions.gathered_position phrases_gatheredstatements.gathered_guard phrases_gatheredstatements.gathered_span phrases_gatheredstatements.gathered_start phrases_gatheredstatements.gathered_cycle phrases_gatheredstatements.gathered_limit phrases_gatheredstatements.gathered_schedule phrases_gatheredstatements.begun_for phrases_gatheredstatements.around_for phrases_gatheredstatements.gathered_statement phrases_gatheredstatements.gathered_basic phrases_gatheredstatements.gathered_alternative phrases_gatheredstatements.gathered_group phrases_gatheredstatements.gathered_statements phrases_gatheredunits.gathered_returns phrases_gatheredunits.gathered_head phrases_gatheredunits.gathered_block phrases_gatheredunits.gathered_elements phrases_gatheredunits.around_template phrases_gatheredunits.gathered_template phrases_gatheredunits.gathered_preface phrases_gatheredunits.gathered_prefaces phrases_gatheredunits.name_of_block phrases_gatheredunits.gathered_file phrases_gatheredunits.phrases_of phrases_members.gathered_member phrases_members.gathered_members names_declarations.is_declaring names_declarations.with_places names_declarations.with_all_chosen names_keys.declared_at names_keys.same_space names_keys.same_key names_keys.own names_means.is_compool_unit names_means.unit_named names_means.given_by names_means.shown names_means.shown_by names_means.included names_means.included_before names_means.prefaces_of names_means.nearest names_tasks.with_homes scope_builtins.builtins scope_components.has_path scope_components.is_structure scope_components.type_has scope_components.has_component scope_components.lacks_in scope_components.lacks scope_labels.is_label_of scope_labels.misclosed scope_labels.is_loop scope_labels.group_around scope_labels.misled scope_labels.astray scope_repeated.given scope_repeated.is_of_block scope_repeated.twice scope_repeated.declares_one_there scope_repeated.declarations_of scope_repeated.included_twice scope_repeated.is_item scope_repeated.undeclared scope_rules.fault scope_rules.first_fault scope_sorts.type_in scope_sorts.type_among scope_sorts.sort_of_type scope_sorts.sort_of_head scope_sorts.sort_of scope_sorts.usage_of scope_sorts.use_of_reference scope_sorts.used scope_uses.unknown scope_uses.is_eventful scope_uses.is_nil scope_uses.refers_to_event scope_uses.holds_event scope_uses.hold_event scope_uses.limit_of scope_uses.limit_around scope_uses.misused kinds_attributes.count_of kinds_attributes.no_more kinds_attributes.sizes_in kinds_attributes.sizes_among kinds_attributes.initial_in kinds_attributes.initial_among kinds_attributes.constant_in kinds_attributes.constant_among kinds_attributes.same_mark kinds_attributes.is_mark kinds_classes.class_of_result kinds_classes.class_of_returns kinds_classes.class_of_head kinds_classes.class_of_form kinds_classes.class_of_builtin kinds_classes.class_at kinds_classes.class_of_reference kinds_classes.class_of_function kinds_classes.class_of_called_head kinds_classes.class_of_called kinds_classes.class_of_literal kinds_classes.class_of_conversion kinds_classes.beside kinds_classes.joined kinds_classes.enclosed kinds_classes.class_of kinds_classes.class_beside kinds_classes.class_joined kinds_data.class_of_type kinds_data.has_copies kinds_data.dimensions_of kinds_data.data_of kinds_data.part_data kinds_data.part_under kinds_data.data_at_part kinds_data.component_of kinds_data.component_data kinds_data.data_at kinds_data.is_event_type kinds_data.is_structure_type kinds_subscripts.subscript_count kinds_subscripts.is_many kinds_subscripts.are_many kinds_subscripts.parts_chosen kinds_subscripts.choice_of kinds_subscripts.is_structure_class constants_constants.operation_of_sign constants_constants.signed constants_constants.operation_of_conversion constants_constants.raised_to constants_constants.raised constants_constants.is_none constants_constants.factor_at constants_constants.constant_of constants_constants.folded constants_constants.summed constants_constants.computed constants_constants.computed_second constants_constants.multiplied constants_constants.referred constants_constants.subscripted constants_constants.component_of constants_constants.component_by constants_constants.place_of constants_known.size_of_integer constants_known.size_of_value constants_known.size_of constants_known.bits_kind constants_known.text_kind constants_known.kind_of constants_known.kind_of_type constants_known.gives_none constants_known.give_none constants_known.only_of constants_known.only_with constants_known.kept constants_known.fitted constants_known.only_in constants_known.declared_value constants_known.round constants_known.is_file constants_known.is_pooled constants_known.rounds constants_naming.constant_known constants_naming.constant_at constants_naming.literal_constant constants_naming.operation_of constants_operands.takes_one constants_operands.takes_two constants_operands.is_storable constants_operands.has_components constants_results.worth constants_results.worse constants_results.apply_one constants_results.apply_two constants_results.component_at constants_results.component_to constants_results.component_from constants_results.picked_one constants_results.picked_to constants_results.picked_from states_ofkinds.is_of
all_say = (refl, refl, refl, refl, refl, refl, refl, refl, refl, refl)
