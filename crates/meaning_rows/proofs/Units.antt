-- Rows of units.txt, written by tools/meaning_rows.
use Rattle.std.specs.Prelude.{◌≡◌, ℕ, List, [], ◌∷◌, Option, Some, None, true, false, codes}
use Rattle.std.specs.Fmt.{digits}
use Rattle.std.proofs.Common.{refl, inl, inr}
use Rattle.hal_grammar.specs.Leaves.{Plus, Minus, Equal, Less, Greater, AtMost, AtLeast, NotEqual, NotLess, NotGreater, ToInteger, ToBits, ToText, Integer, Text, Bits, True, False, On, Off}
use Rattle.hal_grammar.specs.Expressions.{Or, And, Compare, Cat, Sum, Product, Power, Not, Literal, Decimal, Referred, Called, Convert, Parenthesis, Refers, Unsubscripted, ByName, ByInteger, ByParts, Every, One, Range, Portion, FromBeginning, FromEnd}
use Rattle.hal_grammar.specs.Declarations.{Single, Double, Latched, Static, Automatic, Dense, Aligned, IntegerKind, BooleanKind, EventKind, BitKind, CharacterKind, StructureKind, Value, LiteralTimes, NameTimes, ListTimes, Dimensions, Typed, Marked, LockGroup, LockAny, InitialValues, ConstantValues, declared_of, part_of, Declare, Structure}
use Rattle.hal_grammar.specs.Statements.{While, Until, Stepped, Listed, EveryError, GroupErrors, OneError, Signal, Set, Reset, eventful, System, Ignore, StartAt, StartIn, StartOn, Cyclic, CyclicEvery, CyclicAfter, scheduling, Labelled, Null, Assignment, If, Do, DoCase, DoLoop, DoFor, Exit, Repeat, Return, Call, Read, Write, Update, Scheduled, Cancel, Terminate, Wait, WaitUntil, WaitForDependent, WaitFor, Event, UpdatePriority, OnErrorStatement, OnErrorResponse, OffError, SendError, NoAlternative, Otherwise, Groups}
use Rattle.hal_grammar.specs.Units.{Reentrant, Exclusive, SinglePrecision, DoublePrecision, NoKind, HasKind, Program, Compool, Task, Procedure, Function, BlockOf, template_of, Include, Templates, File, file_of}
use Rattle.exec_model.specs.declared.script.ScriptLine.TheVariants as line
use Rattle.meaning_rows.specs.Trees.{o, nm, es, ts, ss, is, st, el}
use Rattle.meaning_rows.specs.Playing.{reported}
use Rattle.hal_words.specs.Reserved as words_reserved
use Rattle.hal_phrases.specs.GatheredDeclarations as phrases_gathereddeclarations
use Rattle.hal_phrases.specs.GatheredExpressions as phrases_gatheredexpressions
use Rattle.hal_phrases.specs.GatheredStatements as phrases_gatheredstatements
use Rattle.hal_phrases.specs.GatheredUnits as phrases_gatheredunits
use Rattle.hal_phrases.specs.Members as phrases_members
use Rattle.hal_names.specs.Declarations as names_declarations
use Rattle.hal_names.specs.Keys as names_keys
use Rattle.hal_names.specs.Means as names_means
use Rattle.hal_names.specs.Tasks as names_tasks
use Rattle.hal_scope.specs.Builtins as scope_builtins
use Rattle.hal_scope.specs.Components as scope_components
use Rattle.hal_scope.specs.Labels as scope_labels
use Rattle.hal_scope.specs.Repeated as scope_repeated
use Rattle.hal_scope.specs.Rules as scope_rules
use Rattle.hal_scope.specs.Sorts as scope_sorts
use Rattle.hal_scope.specs.Uses as scope_uses
use Rattle.hal_kinds.specs.Attributes as kinds_attributes
use Rattle.hal_kinds.specs.Classes as kinds_classes
use Rattle.hal_kinds.specs.Data as kinds_data
use Rattle.hal_kinds.specs.Subscripts as kinds_subscripts
use Rattle.hal_constants.specs.Constants as constants_constants
use Rattle.hal_constants.specs.Known as constants_known
use Rattle.hal_constants.specs.Naming as constants_naming
use Rattle.hal_constants.specs.Operands as constants_operands
use Rattle.hal_constants.specs.Results as constants_results
use Rattle.hal_states.specs.OfKinds as states_ofkinds

-- units 1: array subscript range, CALL ASSIGN, PROCEDURE REENTRANT, text component at
abbrev row1 : List File
row1 = ((file_of ((Include o (nm (codes "POOL"))) ∷ []) (BlockOf (nm (codes "P")) (Program o) ((Declare o ([]) ((declared_of (nm (codes "N2")) ((Dimensions o (es ((Literal o (Integer 4)) ∷ []))) ∷ (Typed (BitKind o (Literal o (Integer 16)))) ∷ [])) ∷ [])) ∷ (Declare o ([]) ((declared_of (nm (codes "B")) ((Typed (BitKind o (Literal o (Integer 32)))) ∷ [])) ∷ [])) ∷ (Declare o ([]) ((declared_of (nm (codes "I")) ((Typed (IntegerKind o)) ∷ [])) ∷ [])) ∷ (Declare o ([]) ((declared_of (nm (codes "I2")) ((Typed (IntegerKind o)) ∷ [])) ∷ [])) ∷ []) (el ((inr (Labelled ([]) (Assignment o ((Refers o (codes "Z") ((nm (codes "C2")) ∷ []) Unsubscripted) ∷ []) (Literal o (Integer 5))))) ∷ (inr (Labelled ([]) (If o (Compare o (Cat o (Called o (codes "LJUST") (es ((Literal o (Text (codes "AB"))) ∷ (Literal o (Integer 5)) ∷ []))) (es ((Called o (codes "SIZE") (es ((Referred (Refers o (codes "Z") ((nm (codes "C")) ∷ []) Unsubscripted)) ∷ []))) ∷ []))) NotGreater (Cat o (Parenthesis o (Literal o (Text (codes "-7")))) (es ((Literal o (Text (codes "HELLO"))) ∷ [])))) (Labelled ([]) (DoCase o (Convert o ToInteger (Referred (Refers o (codes "Z") ((nm (codes "C")) ∷ []) (ByParts o (ss ([])) (ss ([])) (ss ((One (FromBeginning (Literal o (Integer 1)))) ∷ (One (FromBeginning (Literal o (Integer 1)))) ∷ [])))))) NoAlternative (Groups (st ((Labelled ([]) (If o (Compare o (Referred (Refers o (codes "N2") ([]) (ByParts o (ss ([])) (ss ([])) (ss ((One (FromBeginning (Called o (codes "INDEX") (es ((Referred (Refers o (codes "N") ([]) (ByParts o (ss ([])) (ss ([])) (ss ((Range (FromEnd o (ts ((Minus, (Literal o (Integer 1))) ∷ []))) (FromEnd o (ts ([])))) ∷ []))))) ∷ (Literal o (Text (codes "AB"))) ∷ []))))) ∷ []))))) NotEqual (Convert o ToBits (Literal o (Integer 1)))) (Labelled ((nm (codes "M")) ∷ []) (Assignment o ((Refers o (codes "N") ([]) Unsubscripted) ∷ (Refers o (codes "N") ([]) Unsubscripted) ∷ []) (Cat o (Referred (Refers o (codes "N") ([]) (ByParts o (ss ([])) (ss ([])) (ss ((Range (FromBeginning (Literal o (Integer 1))) (FromBeginning (Referred (Refers o (codes "I2") ([]) Unsubscripted)))) ∷ []))))) (es ((Referred (Refers o (codes "N") ([]) (ByParts o (ss ([])) (ss ([])) (ss ((Portion (Literal o (Integer 1)) (FromEnd o (ts ([])))) ∷ []))))) ∷ (Called o (codes "DIV") (es ((Referred (Refers o (codes "I") ([]) Unsubscripted)) ∷ (Literal o (Integer 5)) ∷ []))) ∷ (Referred (Refers o (codes "I") ([]) Unsubscripted)) ∷ []))))) NoAlternative)) ∷ (Labelled ([]) (Assignment o ((Refers o (codes "Z") ((nm (codes "C2")) ∷ []) Unsubscripted) ∷ []) (Referred (Refers o (codes "Z") ((nm (codes "C2")) ∷ []) Unsubscripted)))) ∷ (Labelled ([]) (Assignment o ((Refers o (codes "Z") ((nm (codes "C2")) ∷ []) Unsubscripted) ∷ []) (Called o (codes "SHL") (es ((Sum o None (Convert o ToInteger (Referred (Refers o (codes "Z") ((nm (codes "C")) ∷ []) (ByParts o (ss ([])) (ss ([])) (ss ((One (FromBeginning (Literal o (Integer 2)))) ∷ (One (FromBeginning (Literal o (Integer 2)))) ∷ [])))))) (ts ((Minus, (Literal o (Integer 2))) ∷ []))) ∷ (Literal o (Integer 4)) ∷ []))))) ∷ [])) None))) (Otherwise (Labelled ([]) (Assignment o ((Refers o (codes "Z") ((nm (codes "C2")) ∷ []) Unsubscripted) ∷ (Refers o (codes "Z") ((nm (codes "C2")) ∷ []) Unsubscripted) ∷ (Refers o (codes "Z") ((nm (codes "C2")) ∷ []) Unsubscripted) ∷ []) (Sum o None (Literal o (Integer 1)) (ts ((Minus, (Literal o (Integer 255))) ∷ []))))))))) ∷ (inr (Labelled ((nm (codes "M2")) ∷ []) (DoCase o (Sum o None (Called o (codes "MOD") (es ((Sum o None (Referred (Refers o (codes "Z") ((nm (codes "C2")) ∷ []) Unsubscripted)) (ts ((Minus, (Literal o (Integer 1000))) ∷ []))) ∷ (Literal o (Integer 3)) ∷ []))) (ts ((Plus, (Literal o (Integer 1))) ∷ []))) NoAlternative (Groups (st ((Labelled ([]) (If o (And o (Called o (codes "ODD") (es ((Literal o (Integer 4)) ∷ []))) (es ((Parenthesis o (Compare o (Cat o (Referred (Refers o (codes "I2") ([]) Unsubscripted)) (es ((Literal o (Text (codes ""))) ∷ (Parenthesis o (Cat o (Literal o (Integer 3)) (es ((Referred (Refers o (codes "N") ([]) Unsubscripted)) ∷ [])))) ∷ []))) AtMost (Called o (codes "TRIM") (es ((Convert o ToText (Referred (Refers o (codes "N") ([]) Unsubscripted))) ∷ []))))) ∷ []))) (Labelled ([]) (Do o (Groups (st ((Labelled ([]) (If o (Compare o (Sum o (Some Minus) (Convert o ToInteger (Literal o (Text (codes "+5")))) (ts ([]))) AtMost (Parenthesis o (Called o (codes "ABS") (es ((Referred (Refers o (codes "I2") ([]) Unsubscripted)) ∷ []))))) (Labelled ([]) (Assignment o ((Refers o (codes "N") ([]) Unsubscripted) ∷ []) (Cat o (Literal o (Text (codes "AB"))) (es ((Called o (codes "INDEX") (es ((Referred (Refers o (codes "N") ([]) Unsubscripted)) ∷ (Referred (Refers o (codes "N") ([]) Unsubscripted)) ∷ []))) ∷ (Parenthesis o (Cat o (Referred (Refers o (codes "N") ([]) Unsubscripted)) (es ((Called o (codes "TRIM") (es ((Referred (Refers o (codes "N") ([]) Unsubscripted)) ∷ []))) ∷ [])))) ∷ []))))) (Otherwise (Labelled ([]) (Write o (Literal o (Integer 6)) (es ((Called o (codes "TRIM") (es ((Called o (codes "RJUST") (es ((Referred (Refers o (codes "N") ([]) Unsubscripted)) ∷ (Literal o (Integer 7)) ∷ []))) ∷ []))) ∷ (Called o (codes "RJUST") (es ((Called o (codes "TRIM") (es ((Literal o (Text (codes ""))) ∷ []))) ∷ (Literal o (Integer 5)) ∷ []))) ∷ []))))))) ∷ [])) None))) (Otherwise (Labelled ([]) (Write o (Literal o (Integer 31)) (es ((Literal o (Bits 1 1)) ∷ (Called o (codes "LJUST") (es ((Referred (Refers o (codes "N") ([]) Unsubscripted)) ∷ (Literal o (Integer 2)) ∷ []))) ∷ []))))))) ∷ (Labelled ([]) (Call o (nm (codes "Q")) (es ((Referred (Refers o (codes "N2") ([]) (ByParts o (ss ([])) (ss ([])) (ss ((Range (FromEnd o (ts ((Minus, (Literal o (Integer 2))) ∷ []))) (FromEnd o (ts ((Minus, (Literal o (Integer 0))) ∷ [])))) ∷ []))))) ∷ [])) ((Refers o (codes "Z") ((nm (codes "C")) ∷ []) Unsubscripted) ∷ []))) ∷ [])) None)))) ∷ (inr (Labelled ([]) (Write o (Literal o (Integer 6)) (es ((Referred (Refers o (codes "N") ([]) Unsubscripted)) ∷ []))))) ∷ (inr (Labelled ([]) (Write o (Literal o (Integer 6)) (es ((Referred (Refers o (codes "Z") ((nm (codes "C")) ∷ []) (ByParts o (ss ([])) (ss ([])) (ss ((One (FromBeginning (Literal o (Integer 2)))) ∷ (One (FromBeginning (Literal o (Integer 2)))) ∷ []))))) ∷ (Referred (Refers o (codes "I") ([]) Unsubscripted)) ∷ []))))) ∷ (inl (BlockOf (nm (codes "Q")) (Procedure o ((nm (codes "A")) ∷ []) ((nm (codes "B2")) ∷ []) (Some (Reentrant o))) ((Declare o ([]) ((declared_of (nm (codes "A")) ((Dimensions o (es ((Literal o (Integer 3)) ∷ []))) ∷ (Typed (BitKind o (Literal o (Integer 16)))) ∷ [])) ∷ [])) ∷ (Declare o ([]) ((declared_of (nm (codes "B2")) ((Dimensions o (es ((Literal o (Integer 2)) ∷ (Literal o (Integer 2)) ∷ []))) ∷ (Typed (BitKind o (Literal o (Integer 3)))) ∷ [])) ∷ [])) ∷ (Declare o ([]) ((declared_of (nm (codes "V2")) ((Typed (IntegerKind o)) ∷ (Marked o Double) ∷ (InitialValues o (is ((Value (Sum o None (Literal o (Integer 1000)) (ts ((Plus, (Literal o (Integer 1))) ∷ [])))) ∷ []))) ∷ [])) ∷ [])) ∷ (Declare o ([]) ((declared_of (nm (codes "J2")) ((Typed (IntegerKind o)) ∷ [])) ∷ [])) ∷ []) (el ((inr (Labelled ([]) (Assignment o ((Refers o (codes "B2") ([]) (ByParts o (ss ([])) (ss ([])) (ss ((One (FromEnd o (ts ([])))) ∷ (One (FromBeginning (Sum o None (Called o (codes "MOD") (es ((Referred (Refers o (codes "V2") ([]) Unsubscripted)) ∷ (Literal o (Integer 2)) ∷ []))) (ts ((Plus, (Literal o (Integer 1))) ∷ []))))) ∷ [])))) ∷ []) (Called o (codes "XOR") (es ((Parenthesis o (Called o (codes "ODD") (es ((Referred (Refers o (codes "I") ([]) Unsubscripted)) ∷ [])))) ∷ (Or o (Convert o ToBits (Referred (Refers o (codes "I") ([]) Unsubscripted))) (es ((Called o (codes "ODD") (es ((Referred (Refers o (codes "J2") ([]) Unsubscripted)) ∷ []))) ∷ []))) ∷ [])))))) ∷ (inr (Labelled ([]) (Assignment o ((Refers o (codes "B2") ([]) (ByParts o (ss ([])) (ss ((One (FromBeginning (Sum o None (Called o (codes "MOD") (es ((Called o (codes "SIZE") (es ((Referred (Refers o (codes "N2") ([]) Unsubscripted)) ∷ []))) ∷ (Literal o (Integer 2)) ∷ []))) (ts ((Plus, (Literal o (Integer 1))) ∷ []))))) ∷ (One (FromBeginning (Literal o (Integer 0)))) ∷ [])) (ss ([])))) ∷ []) (Literal o Off)))) ∷ (inr (Labelled ([]) (Assignment o ((Refers o (codes "N2") ([]) (ByParts o (ss ([])) (ss ((One (FromBeginning (Called o (codes "I2") (es ((Literal o (Integer 2)) ∷ []))))) ∷ [])) (ss ((Portion (Literal o (Integer 1)) (FromEnd o (ts ((Minus, (Literal o (Integer 1))) ∷ [])))) ∷ [])))) ∷ (Refers o (codes "B") ([]) Unsubscripted) ∷ []) (Referred (Refers o (codes "B") ([]) (ByParts o (ss ([])) (ss ([])) (ss ((One (FromBeginning (Literal o (Integer 7)))) ∷ [])))))))) ∷ [])) (Some (nm (codes "Q"))))) ∷ [])) (Some (nm (codes "P"))))) ∷ (file_of ([]) (BlockOf (nm (codes "POOL")) (Compool o) ((Structure o (nm (codes "S")) ((part_of o 1 (nm (codes "C")) ((Dimensions o (es ((Literal o (Integer 2)) ∷ (Literal o (Integer 2)) ∷ []))) ∷ (Typed (BitKind o (Literal o (Integer 3)))) ∷ [])) ∷ (part_of o 1 (nm (codes "C2")) ((Typed (IntegerKind o)) ∷ (Marked o Double) ∷ [])) ∷ [])) ∷ (Declare o ([]) ((declared_of (nm (codes "N")) ((Typed (CharacterKind o (Literal o (Integer 10)))) ∷ (InitialValues o (is ((Value (Literal o (Text (codes "-7")))) ∷ []))) ∷ [])) ∷ (declared_of (nm (codes "Z")) ((Typed (StructureKind o (codes "S") None)) ∷ [])) ∷ [])) ∷ []) (el ([])) (Some (nm (codes "POOL"))))) ∷ [])

abbrev Says1 : Type 0
Says1 = reported 400 row1 ((line.Run 4) ∷ (line.Tick 1) ∷ (line.Run 600) ∷ []) ≡ codes "31: 1 -7\n6: -7\n6: 000 0\nend P 1 closed 1\nP.N2$(1) = 0000000000000000\nP.N2$(2) = 0000000000000000\nP.N2$(3) = 0000000000000000\nP.N2$(4) = 0000000000000000\nP.B = 00000000000000000000000000000000\nP.I = 0\nP.I2 = 0\nP.Q.V2 = 1001\nP.Q.J2 = 0\nPOOL.N = '-7'\nPOOL.Z.C$(1,1) = 000\nPOOL.Z.C$(1,2) = 000\nPOOL.Z.C$(2,1) = 000\nPOOL.Z.C$(2,2) = 000\nPOOL.Z.C2 = -254\n"

-- units 6: array subscript all, DO FOR TEMPORARY TO, text component at, DO FOR BY
abbrev row2 : List File
row2 = ((file_of ([]) (BlockOf (nm (codes "POOL")) (Compool o) ((Declare o ([]) ((declared_of (nm (codes "OUT")) ((Typed (IntegerKind o)) ∷ (ConstantValues o (is ((Value (Literal o (Integer 6))) ∷ []))) ∷ [])) ∷ [])) ∷ (Declare o ([]) ((declared_of (nm (codes "K")) ((Typed (BitKind o (Literal o (Integer 32)))) ∷ (ConstantValues o (is ((Value (Or o (Literal o On) (es ((Literal o (Bits 3 5)) ∷ [])))) ∷ []))) ∷ [])) ∷ [])) ∷ (Structure o (nm (codes "S")) ((part_of o 1 (nm (codes "C")) ((Dimensions o (es ((Literal o (Integer 3)) ∷ []))) ∷ (Typed (CharacterKind o (Literal o (Integer 4)))) ∷ [])) ∷ (part_of o 1 (nm (codes "C2")) ((Typed (IntegerKind o)) ∷ (Marked o Double) ∷ (Marked o Dense) ∷ [])) ∷ [])) ∷ (Declare o ([]) ((declared_of (nm (codes "B")) ((Typed (CharacterKind o (Literal o (Integer 6)))) ∷ (InitialValues o (is ((Value (Literal o (Text (codes "12")))) ∷ []))) ∷ [])) ∷ [])) ∷ (Declare o ([]) ((declared_of (nm (codes "R")) ((Typed (BitKind o (Literal o (Integer 4)))) ∷ (InitialValues o (is ((Value (Literal o True)) ∷ []))) ∷ [])) ∷ [])) ∷ (Declare o ([]) ((declared_of (nm (codes "N")) ((Typed (IntegerKind o)) ∷ (InitialValues o (is ((Value (Sum o None (Literal o (Integer 7)) (ts ((Plus, (Literal o (Integer 1))) ∷ [])))) ∷ []))) ∷ [])) ∷ (declared_of (nm (codes "Z")) ((Typed (StructureKind o (codes "S") (Some (Literal o (Integer 3))))) ∷ [])) ∷ [])) ∷ []) (el ([])) (Some (nm (codes "POOL"))))) ∷ (file_of ((Include o (nm (codes "POOL"))) ∷ []) (BlockOf (nm (codes "P")) (Program o) ((Declare o ([]) ((declared_of (nm (codes "N2")) ((Typed (CharacterKind o (Literal o (Integer 3)))) ∷ [])) ∷ [])) ∷ []) (el ((inr (Labelled ([]) (Assignment o ((Refers o (codes "N") ([]) Unsubscripted) ∷ []) (Called o (codes "F") (es ((Referred (Refers o (codes "Z") ((nm (codes "C")) ∷ []) (ByParts o (ss ((One (FromBeginning (Literal o (Integer 3)))) ∷ [])) (ss ([])) (ss ([]))))) ∷ [])))))) ∷ (inr (Labelled ([]) (Assignment o ((Refers o (codes "B") ([]) Unsubscripted) ∷ []) (Called o (codes "RJUST") (es ((Called o (codes "LJUST") (es ((Literal o (Text (codes "IT'S"))) ∷ (Literal o (Integer 5)) ∷ []))) ∷ (Literal o (Integer 5)) ∷ [])))))) ∷ (inr (Labelled ([]) (Assignment o ((Refers o (codes "N2") ([]) Unsubscripted) ∷ []) (Parenthesis o (Called o (codes "F") (es ((Referred (Refers o (codes "Z") ((nm (codes "C")) ∷ []) (ByParts o (ss ((One (FromBeginning (Literal o (Integer 3)))) ∷ [])) (ss ([])) (ss ([]))))) ∷ []))))))) ∷ (inr (Labelled ([]) (Assignment o ((Refers o (codes "B") ([]) (ByParts o (ss ([])) (ss ([])) (ss ((Portion (Literal o (Integer 2)) (FromBeginning (Literal o (Integer 1)))) ∷ [])))) ∷ (Refers o (codes "B") ([]) Unsubscripted) ∷ []) (Parenthesis o (Referred (Refers o (codes "B") ([]) Unsubscripted)))))) ∷ (inr (Labelled ([]) (Assignment o ((Refers o (codes "N2") ([]) Unsubscripted) ∷ (Refers o (codes "Z") ((nm (codes "C")) ∷ []) (ByParts o (ss ((One (FromBeginning (Sum o None (Called o (codes "MOD") (es ((Called o (codes "F") (es ((Referred (Refers o (codes "Z") ((nm (codes "C")) ∷ []) (ByParts o (ss ((One (FromBeginning (Literal o (Integer 2)))) ∷ [])) (ss ([])) (ss ([]))))) ∷ []))) ∷ (Literal o (Integer 3)) ∷ []))) (ts ((Plus, (Literal o (Integer 1))) ∷ []))))) ∷ [])) (ss ([])) (ss ((One (FromBeginning (Sum o None (Called o (codes "MOD") (es ((Power o (Referred (Refers o (codes "Z") ((nm (codes "C2")) ∷ []) (ByParts o (ss ((One (FromBeginning (Literal o (Integer 1)))) ∷ [])) (ss ([])) (ss ([]))))) (Literal o (Integer 1))) ∷ (Literal o (Integer 3)) ∷ []))) (ts ((Plus, (Literal o (Integer 1))) ∷ []))))) ∷ [])))) ∷ []) (Called o (codes "F") (es ((Referred (Refers o (codes "Z") ((nm (codes "C")) ∷ []) (ByParts o (ss ((One (FromBeginning (Literal o (Integer 3)))) ∷ [])) (ss ([])) (ss ([]))))) ∷ [])))))) ∷ (inr (Labelled ([]) (Write o (Literal o (Integer 6)) (es ((Referred (Refers o (codes "N2") ([]) Unsubscripted)) ∷ (Referred (Refers o (codes "K") ([]) Unsubscripted)) ∷ (Referred (Refers o (codes "N2") ([]) Unsubscripted)) ∷ []))))) ∷ (inr (Labelled ([]) (Assignment o ((Refers o (codes "Z") ((nm (codes "C")) ∷ []) (ByParts o (ss ((One (FromBeginning (Sum o None (Called o (codes "MOD") (es ((Called o (codes "F") (es ((Referred (Refers o (codes "Z") ((nm (codes "C")) ∷ []) (ByParts o (ss ((One (FromBeginning (Sum o None (Called o (codes "MOD") (es ((Literal o (Integer 0)) ∷ (Literal o (Integer 3)) ∷ []))) (ts ((Plus, (Literal o (Integer 1))) ∷ []))))) ∷ [])) (ss ([])) (ss ([]))))) ∷ []))) ∷ (Literal o (Integer 3)) ∷ []))) (ts ((Plus, (Literal o (Integer 1))) ∷ []))))) ∷ [])) (ss ([])) (ss ((One (FromBeginning (Sum o None (Called o (codes "MOD") (es ((Called o (codes "INDEX") (es ((Referred (Refers o (codes "Z") ((nm (codes "C")) ∷ []) (ByParts o (ss ((One (FromBeginning (Literal o (Integer 3)))) ∷ [])) (ss ([])) (ss ((One (FromBeginning (Literal o (Integer 2)))) ∷ []))))) ∷ (Referred (Refers o (codes "Z") ((nm (codes "C")) ∷ []) (ByParts o (ss ((One (FromBeginning (Literal o (Integer 3)))) ∷ [])) (ss ([])) (ss ((One (FromBeginning (Literal o (Integer 1)))) ∷ []))))) ∷ []))) ∷ (Literal o (Integer 3)) ∷ []))) (ts ((Plus, (Literal o (Integer 1))) ∷ []))))) ∷ [])))) ∷ []) (Convert o ToText (Convert o ToText (Parenthesis o (Literal o (Bits 8 60)))))))) ∷ (inr (Labelled ([]) (Write o (Referred (Refers o (codes "OUT") ([]) Unsubscripted)) (es ((Referred (Refers o (codes "N2") ([]) Unsubscripted)) ∷ []))))) ∷ (inl (BlockOf (nm (codes "F")) (Function o ((nm (codes "A")) ∷ []) (HasKind (IntegerKind o) None) None) ((Declare o ([]) ((declared_of (nm (codes "A")) ((Dimensions o (es ((Literal o (Integer 3)) ∷ []))) ∷ (Typed (CharacterKind o (Literal o (Integer 4)))) ∷ [])) ∷ [])) ∷ (Declare o ([]) ((declared_of (nm (codes "V")) ((Typed (BitKind o (Literal o (Integer 8)))) ∷ (Marked o Automatic) ∷ (InitialValues o (is ((Value (Literal o (Bits 3 5))) ∷ []))) ∷ [])) ∷ [])) ∷ []) (el ((inr (Labelled ([]) (Assignment o ((Refers o (codes "V") ([]) Unsubscripted) ∷ []) (Not o (Referred (Refers o (codes "R") ([]) Unsubscripted)))))) ∷ (inr (Labelled ([]) (If o (And o (Parenthesis o (And o (Referred (Refers o (codes "R") ([]) Unsubscripted)) (es ((Referred (Refers o (codes "K") ([]) (ByParts o (ss ([])) (ss ([])) (ss ((Portion (Literal o (Integer 1)) (FromBeginning (Literal o (Integer 32)))) ∷ []))))) ∷ [])))) (es ((Parenthesis o (Compare o (Called o (codes "DIV") (es ((Literal o (Integer 0)) ∷ (Literal o (Integer 3)) ∷ []))) NotLess (Literal o (Integer 2)))) ∷ []))) (Labelled ([]) (Return o (Some (Called o (codes "SIZE") (es ((Referred (Refers o (codes "A") ([]) Unsubscripted)) ∷ [])))))) NoAlternative))) ∷ (inr (Labelled ([]) (Return o (Some (Sum o None (Parenthesis o (Referred (Refers o (codes "Z") ((nm (codes "C2")) ∷ []) (ByParts o (ss ((One (FromBeginning (Literal o (Integer 2)))) ∷ [])) (ss ([])) (ss ([])))))) (ts ((Plus, (Literal o (Integer 31))) ∷ []))))))) ∷ [])) None)) ∷ (inl (BlockOf (nm (codes "F2")) (Function o ((nm (codes "A2")) ∷ []) (HasKind (BitKind o (Literal o (Integer 4))) None) None) ((Declare o ([]) ((declared_of (nm (codes "A2")) ((Typed (BitKind o (Literal o (Integer 16)))) ∷ [])) ∷ [])) ∷ (Declare o ([]) ((declared_of (nm (codes "J2")) ((Typed (IntegerKind o)) ∷ [])) ∷ [])) ∷ []) (el ((inr (Labelled ([]) (DoFor o true (nm (codes "X")) (Stepped (Literal o (Integer 1)) (Literal o (Integer 2)) (Some (Literal o (Integer 2)))) None (Groups (st ((Labelled ([]) (Assignment o ((Refers o (codes "R") ([]) (ByParts o (ss ([])) (ss ([])) (ss ((Every o) ∷ [])))) ∷ []) (Parenthesis o (Cat o (Parenthesis o (Or o (Referred (Refers o (codes "R") ([]) (ByParts o (ss ([])) (ss ([])) (ss ((One (FromBeginning (Literal o (Integer 3)))) ∷ []))))) (es ((Referred (Refers o (codes "A2") ([]) (ByParts o (ss ([])) (ss ([])) (ss ((Range (FromBeginning (Literal o (Integer 13))) (FromEnd o (ts ([])))) ∷ []))))) ∷ [])))) (es ((Parenthesis o (And o (Literal o (Bits 5 19)) (es ((Literal o (Bits 6 15)) ∷ [])))) ∷ [])))))) ∷ [])) None)))) ∷ (inr (Labelled ([]) (Return o (Some (Or o (Literal o On) (es ((Referred (Refers o (codes "K") ([]) Unsubscripted)) ∷ []))))))) ∷ [])) (Some (nm (codes "F2"))))) ∷ [])) (Some (nm (codes "P"))))) ∷ [])

abbrev Says2 : Type 0
Says2 = reported 400 row2 ((line.Run 11) ∷ (line.Tick 1000) ∷ (line.Run 600) ∷ []) ≡ codes "6: 31 00000000000000000000000000000101 31\n6: 31\nend P 1000 closed 1\nPOOL.B = 'IT''S '\nPOOL.R = 0001\nPOOL.N = 31\nPOOL.Z.C$(1;1) = ''\nPOOL.Z.C$(1;2) = ''\nPOOL.Z.C$(1;3) = ''\nPOOL.Z.C2$(1;) = 0\nPOOL.Z.C$(2;1) = '0011'\nPOOL.Z.C$(2;2) = ''\nPOOL.Z.C$(2;3) = ''\nPOOL.Z.C2$(2;) = 0\nPOOL.Z.C$(3;1) = ''\nPOOL.Z.C$(3;2) = ''\nPOOL.Z.C$(3;3) = ''\nPOOL.Z.C2$(3;) = 0\nP.N2 = '31'\nP.F2.J2 = 0\n"

-- units 31: REPEAT, REPEAT label, DO UNTIL, EXIT label
abbrev row3 : List File
row3 = ((file_of ([]) (BlockOf (nm (codes "POOL")) (Compool o) ((Declare o ([]) ((declared_of (nm (codes "R")) ((Typed (BitKind o (Literal o (Integer 4)))) ∷ (InitialValues o (is ((Value (Not o (Literal o (Bits 4 6)))) ∷ []))) ∷ [])) ∷ (declared_of (nm (codes "N")) ((Typed (IntegerKind o)) ∷ (Marked o Double) ∷ (InitialValues o (is ((Value (Called o (codes "SHL") (es ((Literal o (Integer 1)) ∷ (Literal o (Integer 7)) ∷ [])))) ∷ []))) ∷ [])) ∷ [])) ∷ (Declare o ([]) ((declared_of (nm (codes "B")) ((Typed (CharacterKind o (Literal o (Integer 1)))) ∷ [])) ∷ [])) ∷ []) (el ([])) (Some (nm (codes "POOL"))))) ∷ (file_of ((Templates (template_of (nm (codes "POOL")) (Compool o) ((Declare o ([]) ((declared_of (nm (codes "R")) ((Typed (BitKind o (Literal o (Integer 4)))) ∷ [])) ∷ (declared_of (nm (codes "N")) ((Typed (IntegerKind o)) ∷ (Marked o Double) ∷ [])) ∷ [])) ∷ (Declare o ([]) ((declared_of (nm (codes "B")) ((Typed (CharacterKind o (Literal o (Integer 1)))) ∷ [])) ∷ [])) ∷ []) (Some (nm (codes "POOL"))))) ∷ (Templates (template_of (nm (codes "F")) (Function o ((nm (codes "A")) ∷ []) (HasKind (BooleanKind o) None) None) ((Declare o ([]) ((declared_of (nm (codes "A")) ((Typed (CharacterKind o (Literal o (Integer 6)))) ∷ [])) ∷ [])) ∷ []) (Some (nm (codes "F"))))) ∷ []) (BlockOf (nm (codes "P")) (Program o) ((Declare o ([]) ((declared_of (nm (codes "N2")) ((Dimensions o (es ((Literal o (Integer 2)) ∷ (Literal o (Integer 3)) ∷ []))) ∷ (Typed (IntegerKind o)) ∷ (Marked o Double) ∷ [])) ∷ [])) ∷ (Declare o ([]) ((declared_of (nm (codes "I")) ((Typed (IntegerKind o)) ∷ [])) ∷ [])) ∷ (Declare o ([]) ((declared_of (nm (codes "I2")) ((Typed (IntegerKind o)) ∷ [])) ∷ [])) ∷ []) (el ((inr (Labelled ([]) (Assignment o ((Refers o (codes "N2") ([]) (ByParts o (ss ([])) (ss ((One (FromBeginning (Sum o None (Called o (codes "MOD") (es ((Called o (codes "SHR") (es ((Referred (Refers o (codes "I2") ([]) Unsubscripted)) ∷ (Literal o (Integer 2)) ∷ []))) ∷ (Literal o (Integer 2)) ∷ []))) (ts ((Plus, (Literal o (Integer 1))) ∷ []))))) ∷ (One (FromBeginning (Sum o None (Called o (codes "MOD") (es ((Called o (codes "DIV") (es ((Literal o (Integer 31)) ∷ (Literal o (Integer 4)) ∷ []))) ∷ (Literal o (Integer 3)) ∷ []))) (ts ((Plus, (Literal o (Integer 1))) ∷ []))))) ∷ [])) (ss ([])))) ∷ []) (Called o (codes "INDEX") (es ((Convert o ToText (Convert o ToText (Referred (Refers o (codes "I2") ([]) Unsubscripted)))) ∷ (Referred (Refers o (codes "B") ([]) Unsubscripted)) ∷ [])))))) ∷ (inr (Labelled ([]) (Assignment o ((Refers o (codes "R") ([]) Unsubscripted) ∷ []) (Or o (And o (Literal o (Bits 4 15)) (es ((Literal o (Bits 3 5)) ∷ []))) (es ((Convert o ToBits (Referred (Refers o (codes "N") ([]) Unsubscripted))) ∷ [])))))) ∷ (inr (Labelled ([]) (Assignment o ((Refers o (codes "B") ([]) Unsubscripted) ∷ []) (Convert o ToText (Called o (codes "MOD") (es ((Called o (codes "REMAINDER") (es ((Referred (Refers o (codes "I2") ([]) Unsubscripted)) ∷ (Literal o (Integer 32768)) ∷ []))) ∷ (Literal o (Integer 255)) ∷ []))))))) ∷ (inr (Labelled ([]) (Assignment o ((Refers o (codes "B") ([]) Unsubscripted) ∷ (Refers o (codes "B") ([]) (ByParts o (ss ([])) (ss ([])) (ss ((One (FromBeginning (Literal o (Integer 1)))) ∷ [])))) ∷ []) (Called o (codes "LJUST") (es ((Cat o (Literal o (Text (codes "+05"))) (es ((Literal o (Text (codes "A"))) ∷ (Called o (codes "LJUST") (es ((Literal o (Text (codes "AB"))) ∷ (Literal o (Integer 2)) ∷ []))) ∷ []))) ∷ (Literal o (Integer 5)) ∷ [])))))) ∷ (inr (Labelled ([]) (Assignment o ((Refers o (codes "I") ([]) Unsubscripted) ∷ []) (Literal o (Integer 0))))) ∷ (inr (Labelled ((nm (codes "L5")) ∷ []) (DoLoop o (Until o (Or o (Compare o (Referred (Refers o (codes "I") ([]) Unsubscripted)) AtLeast (Literal o (Integer 1))) (es ((Compare o (Referred (Refers o (codes "I") ([]) Unsubscripted)) AtLeast (Literal o (Integer 3))) ∷ [])))) (Groups (st ((Labelled ([]) (Assignment o ((Refers o (codes "I") ([]) Unsubscripted) ∷ []) (Sum o None (Referred (Refers o (codes "I") ([]) Unsubscripted)) (ts ((Plus, (Literal o (Integer 1))) ∷ []))))) ∷ (Labelled ([]) (DoFor o true (nm (codes "X")) (Stepped (Literal o (Integer 1)) (Literal o (Integer 3)) None) None (Groups (st ((Labelled ([]) (Write o (Product o (Literal o (Integer 2)) (es ((Literal o (Integer 3)) ∷ []))) (es ((Referred (Refers o (codes "I") ([]) Unsubscripted)) ∷ [])))) ∷ (Labelled ([]) (If o (Compare o (Called o (codes "LENGTH") (es ((Literal o (Text (codes "AB"))) ∷ []))) NotGreater (Literal o (Integer 3))) (Labelled ([]) (Repeat o (Some (nm (codes "L5"))))) NoAlternative)) ∷ [])) None))) ∷ (Labelled ([]) (Assignment o ((Refers o (codes "I2") ([]) Unsubscripted) ∷ []) (Literal o (Integer 0)))) ∷ (Labelled ([]) (DoLoop o (While o (And o (Compare o (Referred (Refers o (codes "I2") ([]) Unsubscripted)) Less (Literal o (Integer 1))) (es ((Compare o (Called o (codes "I2") (es ((Literal o (Integer 2)) ∷ []))) NotGreater (Literal o (Integer 7))) ∷ [])))) (Groups (st ((Labelled ([]) (Assignment o ((Refers o (codes "I2") ([]) Unsubscripted) ∷ []) (Sum o None (Referred (Refers o (codes "I2") ([]) Unsubscripted)) (ts ((Plus, (Literal o (Integer 1))) ∷ []))))) ∷ (Labelled ([]) (Assignment o ((Refers o (codes "R") ([]) (ByParts o (ss ([])) (ss ([])) (ss ((Portion (Literal o (Integer 2)) (FromBeginning (Literal o (Integer 2)))) ∷ [])))) ∷ []) (Called o (codes "F") (es ((Convert o ToText (Literal o (Text (codes "")))) ∷ []))))) ∷ (Labelled ([]) (Assignment o ((Refers o (codes "B") ([]) Unsubscripted) ∷ []) (Product o (Literal o (Integer 5)) (es ((Literal o (Integer 1)) ∷ []))))) ∷ (Labelled ([]) (If o (Or o (Parenthesis o (Compare o (Referred (Refers o (codes "N") ([]) Unsubscripted)) Equal (Literal o (Integer 10)))) (es ((Parenthesis o (Compare o (Referred (Refers o (codes "B") ([]) (ByParts o (ss ([])) (ss ([])) (ss ((Range (FromBeginning (Literal o (Integer 1))) (FromEnd o (ts ([])))) ∷ []))))) Greater (Referred (Refers o (codes "B") ([]) Unsubscripted)))) ∷ []))) (Labelled ([]) (Repeat o None)) NoAlternative)) ∷ (Labelled ([]) (Write o (Literal o (Integer 6)) (es ((Referred (Refers o (codes "R") ([]) Unsubscripted)) ∷ (Sum o None (Product o (Referred (Refers o (codes "I") ([]) Unsubscripted)) (es ((Literal o (Integer 31)) ∷ []))) (ts ((Plus, (Literal o (Integer 3))) ∷ []))) ∷ (Literal o (Integer 32767)) ∷ (Called o (codes "RJUST") (es ((Convert o ToText (Referred (Refers o (codes "B") ([]) (ByParts o (ss ([])) (ss ([])) (ss ((One (FromEnd o (ts ([])))) ∷ [])))))) ∷ (Literal o (Integer 2)) ∷ []))) ∷ [])))) ∷ [])) None))) ∷ [])) None)))) ∷ (inr (Labelled ([]) (Write o (Literal o (Integer 6)) (es ((Referred (Refers o (codes "N2") ([]) (ByParts o (ss ([])) (ss ([])) (ss ((One (FromBeginning (Literal o (Integer 2)))) ∷ (One (FromBeginning (Literal o (Integer 2)))) ∷ []))))) ∷ (Referred (Refers o (codes "R") ([]) Unsubscripted)) ∷ []))))) ∷ (inr (Labelled ([]) (Write o (Literal o (Integer 6)) (es ((Product o (Parenthesis o (Sum o None (Referred (Refers o (codes "N2") ([]) (ByParts o (ss ([])) (ss ([])) (ss ((One (FromBeginning (Literal o (Integer 2)))) ∷ (One (FromBeginning (Literal o (Integer 2)))) ∷ []))))) (ts ((Minus, (Literal o (Integer 100))) ∷ [])))) (es ((Literal o (Integer 255)) ∷ []))) ∷ (Literal o (Text (codes "AB"))) ∷ []))))) ∷ [])) (Some (nm (codes "P"))))) ∷ (file_of ((Include o (nm (codes "POOL"))) ∷ []) (BlockOf (nm (codes "F")) (Function o ((nm (codes "A")) ∷ []) (HasKind (BooleanKind o) None) None) ((Declare o ([]) ((declared_of (nm (codes "A")) ((Typed (CharacterKind o (Literal o (Integer 6)))) ∷ [])) ∷ [])) ∷ []) (el ((inr (Labelled ((nm (codes "L")) ∷ []) (Do o (Groups (st ((Labelled ([]) (Assignment o ((Refers o (codes "B") ([]) Unsubscripted) ∷ (Refers o (codes "B") ([]) Unsubscripted) ∷ []) (Cat o (Called o (codes "LJUST") (es ((Literal o (Text (codes "-7"))) ∷ (Literal o (Integer 0)) ∷ []))) (es ((Referred (Refers o (codes "N") ([]) Unsubscripted)) ∷ (Parenthesis o (Cat o (Referred (Refers o (codes "B") ([]) Unsubscripted)) (es ((Referred (Refers o (codes "N") ([]) Unsubscripted)) ∷ (Sum o None (Literal o (Integer 31)) (ts ((Plus, (Literal o (Integer 12))) ∷ []))) ∷ [])))) ∷ []))))) ∷ (Labelled ([]) (If o (Parenthesis o (Referred (Refers o (codes "R") ([]) Unsubscripted))) (Labelled ([]) (Exit o (Some (nm (codes "L"))))) NoAlternative)) ∷ (Labelled ([]) (DoCase o (Sum o None (Called o (codes "MOD") (es ((Referred (Refers o (codes "N") ([]) Unsubscripted)) ∷ (Literal o (Integer 3)) ∷ []))) (ts ((Plus, (Literal o (Integer 1))) ∷ []))) NoAlternative (Groups (st ((Labelled ([]) (Assignment o ((Refers o (codes "N") ([]) Unsubscripted) ∷ []) (Referred (Refers o (codes "N") ([]) Unsubscripted)))) ∷ (Labelled ([]) (Assignment o ((Refers o (codes "R") ([]) Unsubscripted) ∷ []) (Or o (Cat o (Not o (Referred (Refers o (codes "R") ([]) Unsubscripted))) (es ((Literal o (Bits 3 5)) ∷ []))) (es ((Parenthesis o (And o (Referred (Refers o (codes "R") ([]) (ByParts o (ss ([])) (ss ([])) (ss ((Portion (Literal o (Integer 2)) (FromBeginning (Literal o (Integer 2)))) ∷ []))))) (es ((Referred (Refers o (codes "R") ([]) Unsubscripted)) ∷ [])))) ∷ []))))) ∷ [])) None))) ∷ [])) (Some (nm (codes "L"))))))) ∷ (inr (Labelled ([]) (Return o (Some (Not o (Parenthesis o (Or o (Referred (Refers o (codes "R") ([]) Unsubscripted)) (es ((Literal o On) ∷ []))))))))) ∷ [])) None)) ∷ [])

abbrev Says3 : Type 0
Says3 = reported 400 row3 ((line.Run 10) ∷ (line.Tick 500) ∷ (line.Run 600) ∷ []) ≡ codes "6: 1\n6: 0 0101\n6: -25500 AB\nend P 500 closed 1\nPOOL.R = 0101\nPOOL.N = 128\nPOOL.B = '+'\nP.N2$(1,1) = 0\nP.N2$(1,2) = 0\nP.N2$(1,3) = 0\nP.N2$(2,1) = 0\nP.N2$(2,2) = 0\nP.N2$(2,3) = 0\nP.I = 1\nP.I2 = 0\n"

-- units 61: array subscript all, FUNCTION REENTRANT, null statement, DO CASE ELSE
abbrev row4 : List File
row4 = ((file_of ((Templates (template_of (nm (codes "POOL")) (Compool o) ((Declare o ([]) ((declared_of (nm (codes "OUT")) ((Typed (IntegerKind o)) ∷ (ConstantValues o (is ((Value (Literal o (Integer 6))) ∷ []))) ∷ [])) ∷ [])) ∷ (Structure o (nm (codes "S")) ((part_of o 1 (nm (codes "C")) ((Typed (CharacterKind o (Literal o (Integer 3)))) ∷ [])) ∷ (part_of o 1 (nm (codes "G")) ([])) ∷ (part_of o 2 (nm (codes "C2")) ((Typed (IntegerKind o)) ∷ [])) ∷ [])) ∷ (Declare o ([]) ((declared_of (nm (codes "N")) ((Typed (IntegerKind o)) ∷ (Marked o Double) ∷ (InitialValues o (is ((Value (Sum o None (Literal o (Integer 100)) (ts ((Plus, (Literal o (Integer 1))) ∷ [])))) ∷ []))) ∷ [])) ∷ (declared_of (nm (codes "T")) ((Typed (CharacterKind o (Literal o (Integer 4)))) ∷ (InitialValues o (is ((Value (Literal o (Text (codes "IT'S")))) ∷ []))) ∷ [])) ∷ (declared_of (nm (codes "Z")) ((Typed (StructureKind o (codes "S") (Some (Literal o (Integer 3))))) ∷ [])) ∷ [])) ∷ (Declare o ([]) ((declared_of (nm (codes "B")) ((Typed (BitKind o (Literal o (Integer 32)))) ∷ (InitialValues o (is ((Value (Not o (Literal o (Bits 4 15)))) ∷ []))) ∷ [])) ∷ [])) ∷ []) (Some (nm (codes "POOL"))))) ∷ []) (BlockOf (nm (codes "P")) (Program o) ((Declare o ([]) ((declared_of (nm (codes "N2")) ((Dimensions o (es ((Literal o (Integer 2)) ∷ (Literal o (Integer 3)) ∷ []))) ∷ (Typed (IntegerKind o)) ∷ (Marked o Single) ∷ (InitialValues o (is ((Value (Literal o (Integer 7))) ∷ []))) ∷ [])) ∷ [])) ∷ (Declare o ([]) ((declared_of (nm (codes "I")) ((Typed (IntegerKind o)) ∷ [])) ∷ [])) ∷ (Declare o ([]) ((declared_of (nm (codes "I2")) ((Typed (IntegerKind o)) ∷ [])) ∷ [])) ∷ []) (el ((inl (BlockOf (nm (codes "F")) (Function o ((nm (codes "A")) ∷ (nm (codes "A2")) ∷ []) (HasKind (IntegerKind o) None) (Some (Reentrant o))) ((Declare o ([]) ((declared_of (nm (codes "A")) ((Typed (IntegerKind o)) ∷ [])) ∷ [])) ∷ (Declare o ([]) ((declared_of (nm (codes "A2")) ((Dimensions o (es ((Literal o (Integer 3)) ∷ []))) ∷ (Typed (IntegerKind o)) ∷ [])) ∷ [])) ∷ []) (el ((inr (Labelled ([]) (Null o))) ∷ (inr (Labelled ([]) (Null o))) ∷ (inr (Labelled ([]) (Assignment o ((Refers o (codes "B") ([]) Unsubscripted) ∷ (Refers o (codes "B") ([]) Unsubscripted) ∷ (Refers o (codes "B") ([]) Unsubscripted) ∷ []) (Referred (Refers o (codes "B") ([]) Unsubscripted))))) ∷ (inr (Labelled ([]) (Return o (Some (Referred (Refers o (codes "I2") ([]) Unsubscripted)))))) ∷ [])) (Some (nm (codes "F"))))) ∷ (inr (Labelled ([]) (If o (Compare o (Parenthesis o (And o (Literal o On) (es ((Called o (codes "ODD") (es ((Referred (Refers o (codes "N2") ([]) (ByParts o (ss ([])) (ss ([])) (ss ((One (FromBeginning (Literal o (Integer 1)))) ∷ (One (FromBeginning (Literal o (Integer 2)))) ∷ []))))) ∷ []))) ∷ [])))) NotEqual (Cat o (Called o (codes "XOR") (es ((Referred (Refers o (codes "B") ([]) Unsubscripted)) ∷ (Referred (Refers o (codes "B") ([]) Unsubscripted)) ∷ []))) (es ((Parenthesis o (Cat o (Referred (Refers o (codes "B") ([]) Unsubscripted)) (es ((Referred (Refers o (codes "B") ([]) Unsubscripted)) ∷ [])))) ∷ [])))) (Labelled ((nm (codes "M3")) ∷ (nm (codes "L7")) ∷ []) (Do o (Groups (st ((Labelled ((nm (codes "M")) ∷ []) (Assignment o ((Refers o (codes "N") ([]) Unsubscripted) ∷ []) (Called o (codes "LENGTH") (es ((Convert o ToText (Called o (codes "ODD") (es ((Referred (Refers o (codes "Z") ((nm (codes "G")) ∷ (nm (codes "C2")) ∷ []) (ByParts o (ss ((One (FromBeginning (Literal o (Integer 3)))) ∷ [])) (ss ([])) (ss ([]))))) ∷ [])))) ∷ []))))) ∷ (Labelled ((nm (codes "L8")) ∷ []) (DoCase o (Sum o None (Called o (codes "MOD") (es ((Sum o None (Referred (Refers o (codes "I") ([]) Unsubscripted)) (ts ((Plus, (Referred (Refers o (codes "I2") ([]) Unsubscripted))) ∷ []))) ∷ (Literal o (Integer 3)) ∷ []))) (ts ((Plus, (Literal o (Integer 1))) ∷ []))) (Otherwise (Labelled ([]) (Write o (Referred (Refers o (codes "OUT") ([]) Unsubscripted)) (es ((Referred (Refers o (codes "Z") ((nm (codes "C")) ∷ []) (ByParts o (ss ((One (FromBeginning (Literal o (Integer 1)))) ∷ [])) (ss ([])) (ss ((Range (FromBeginning (Literal o (Integer 1))) (FromBeginning (Literal o (Integer 1)))) ∷ []))))) ∷ (Or o (Convert o ToBits (Literal o (Integer 3))) (es ((Referred (Refers o (codes "B") ([]) Unsubscripted)) ∷ []))) ∷ []))))) (Groups (st ((Labelled ([]) (Assignment o ((Refers o (codes "B") ([]) Unsubscripted) ∷ (Refers o (codes "B") ([]) Unsubscripted) ∷ []) (Parenthesis o (Or o (Convert o ToBits (Referred (Refers o (codes "I2") ([]) Unsubscripted))) (es ((Referred (Refers o (codes "B") ([]) Unsubscripted)) ∷ [])))))) ∷ (Labelled ((nm (codes "M2")) ∷ []) (Assignment o ((Refers o (codes "T") ([]) Unsubscripted) ∷ []) (Convert o ToText (Referred (Refers o (codes "B") ([]) Unsubscripted))))) ∷ (Labelled ([]) (Assignment o ((Refers o (codes "Z") ((nm (codes "G")) ∷ (nm (codes "C2")) ∷ []) (ByParts o (ss ((One (FromBeginning (Literal o (Integer 2)))) ∷ [])) (ss ([])) (ss ([])))) ∷ (Refers o (codes "N2") ([]) (ByParts o (ss ([])) (ss ([])) (ss ((One (FromBeginning (Literal o (Integer 2)))) ∷ (One (FromBeginning (Sum o None (Called o (codes "MOD") (es ((Called o (codes "LENGTH") (es ((Literal o (Text (codes "-7"))) ∷ []))) ∷ (Literal o (Integer 3)) ∷ []))) (ts ((Plus, (Literal o (Integer 1))) ∷ []))))) ∷ [])))) ∷ []) (Called o (codes "F") (es ((Sum o None (Literal o (Integer 2)) (ts ((Plus, (Literal o (Integer 7))) ∷ []))) ∷ (Referred (Refers o (codes "N2") ([]) (ByParts o (ss ([])) (ss ([])) (ss ((One (FromBeginning (Sum o None (Called o (codes "MOD") (es ((Sum o None (Literal o (Integer 12)) (ts ((Plus, (Literal o (Integer 10))) ∷ (Plus, (Power o (Referred (Refers o (codes "I2") ([]) Unsubscripted)) (Literal o (Integer 3)))) ∷ []))) ∷ (Literal o (Integer 2)) ∷ []))) (ts ((Plus, (Literal o (Integer 1))) ∷ []))))) ∷ (Every o) ∷ []))))) ∷ []))))) ∷ [])) None))) ∷ (Labelled ([]) (DoCase o (Literal o (Integer 255)) (Otherwise (Labelled ([]) (Assignment o ((Refers o (codes "N2") ([]) (ByParts o (ss ([])) (ss ((One (FromBeginning (Sum o None (Called o (codes "MOD") (es ((Literal o (Integer 31)) ∷ (Literal o (Integer 2)) ∷ []))) (ts ((Plus, (Literal o (Integer 1))) ∷ []))))) ∷ (One (FromBeginning (Sum o None (Called o (codes "MOD") (es ((Convert o ToInteger (Literal o Off)) ∷ (Literal o (Integer 3)) ∷ []))) (ts ((Plus, (Literal o (Integer 1))) ∷ []))))) ∷ [])) (ss ([])))) ∷ (Refers o (codes "N") ([]) Unsubscripted) ∷ []) (Called o (codes "INDEX") (es ((Cat o (Called o (codes "F") (es ((Sum o None (Referred (Refers o (codes "I") ([]) Unsubscripted)) (ts ((Plus, (Literal o (Integer 255))) ∷ []))) ∷ (Referred (Refers o (codes "N2") ([]) (ByParts o (ss ([])) (ss ([])) (ss ((One (FromBeginning (Literal o (Integer 2)))) ∷ (Every o) ∷ []))))) ∷ []))) (es ((Parenthesis o (Cat o (Referred (Refers o (codes "Z") ((nm (codes "C")) ∷ []) (ByParts o (ss ((One (FromBeginning (Literal o (Integer 2)))) ∷ [])) (ss ([])) (ss ([]))))) (es ((Literal o (Text (codes "lower"))) ∷ [])))) ∷ []))) ∷ (Called o (codes "RJUST") (es ((Literal o (Text (codes "HELLO"))) ∷ (Literal o (Integer 2)) ∷ []))) ∷ [])))))) (Groups (st ((Labelled ([]) (Assignment o ((Refers o (codes "N2") ([]) (ByParts o (ss ([])) (ss ([])) (ss ((One (FromEnd o (ts ((Minus, (Literal o (Integer 1))) ∷ [])))) ∷ (One (FromBeginning (Sum o None (Called o (codes "MOD") (es ((Referred (Refers o (codes "Z") ((nm (codes "G")) ∷ (nm (codes "C2")) ∷ []) (ByParts o (ss ((One (FromEnd o (ts ([])))) ∷ [])) (ss ([])) (ss ([]))))) ∷ (Literal o (Integer 3)) ∷ []))) (ts ((Plus, (Literal o (Integer 1))) ∷ []))))) ∷ [])))) ∷ (Refers o (codes "Z") ((nm (codes "G")) ∷ (nm (codes "C2")) ∷ []) (ByParts o (ss ((One (FromBeginning (Literal o (Integer 2)))) ∷ [])) (ss ([])) (ss ([])))) ∷ []) (Referred (Refers o (codes "N") ([]) Unsubscripted)))) ∷ [])) None))) ∷ [])) (Some (nm (codes "L7")))))) NoAlternative))) ∷ (inr (Labelled ([]) (Write o (Literal o (Integer 6)) (es ((Referred (Refers o (codes "N") ([]) Unsubscripted)) ∷ (Referred (Refers o (codes "Z") ((nm (codes "C")) ∷ []) (ByParts o (ss ((One (FromBeginning (Literal o (Integer 1)))) ∷ [])) (ss ([])) (ss ([]))))) ∷ []))))) ∷ (inr (Labelled ([]) (Write o (Literal o (Integer 6)) (es ((Referred (Refers o (codes "N2") ([]) (ByParts o (ss ([])) (ss ([])) (ss ((One (FromBeginning (Literal o (Integer 2)))) ∷ (One (FromBeginning (Literal o (Integer 3)))) ∷ []))))) ∷ (Referred (Refers o (codes "Z") ((nm (codes "C")) ∷ []) (ByParts o (ss ((One (FromBeginning (Literal o (Integer 2)))) ∷ [])) (ss ([])) (ss ([]))))) ∷ []))))) ∷ (inl (BlockOf (nm (codes "Q")) (Procedure o ((nm (codes "A3")) ∷ (nm (codes "A4")) ∷ []) ((nm (codes "B2")) ∷ []) None) ((Declare o ([]) ((declared_of (nm (codes "A3")) ((Typed (IntegerKind o)) ∷ (Marked o Double) ∷ [])) ∷ [])) ∷ (Declare o ([]) ((declared_of (nm (codes "A4")) ((Typed (CharacterKind o (Literal o (Integer 3)))) ∷ [])) ∷ [])) ∷ (Declare o ([]) ((declared_of (nm (codes "B2")) ((Typed (IntegerKind o)) ∷ (Marked o Single) ∷ [])) ∷ [])) ∷ []) (el ((inr (Labelled ([]) (Write o (Literal o (Integer 0)) (es ((Called o (codes "F") (es ((Parenthesis o (Referred (Refers o (codes "Z") ((nm (codes "G")) ∷ (nm (codes "C2")) ∷ []) (ByParts o (ss ((One (FromBeginning (Literal o (Integer 1)))) ∷ [])) (ss ([])) (ss ([])))))) ∷ (Referred (Refers o (codes "N2") ([]) (ByParts o (ss ([])) (ss ([])) (ss ((One (FromBeginning (Sum o None (Called o (codes "MOD") (es ((Called o (codes "F") (es ((Sum o None (Referred (Refers o (codes "B2") ([]) Unsubscripted)) (ts ((Minus, (Referred (Refers o (codes "B2") ([]) Unsubscripted))) ∷ []))) ∷ (Referred (Refers o (codes "N2") ([]) (ByParts o (ss ([])) (ss ([])) (ss ((One (FromEnd o (ts ([])))) ∷ (Every o) ∷ []))))) ∷ []))) ∷ (Literal o (Integer 2)) ∷ []))) (ts ((Plus, (Literal o (Integer 1))) ∷ []))))) ∷ (Every o) ∷ []))))) ∷ []))) ∷ (And o (Parenthesis o (Or o (Literal o (Bits 5 19)) (es ((Referred (Refers o (codes "B") ([]) Unsubscripted)) ∷ [])))) (es ((Literal o On) ∷ []))) ∷ (Cat o (Referred (Refers o (codes "N") ([]) Unsubscripted)) (es ((Parenthesis o (Cat o (Referred (Refers o (codes "Z") ((nm (codes "C")) ∷ []) (ByParts o (ss ((One (FromBeginning (Literal o (Integer 1)))) ∷ [])) (ss ([])) (ss ([]))))) (es ((Referred (Refers o (codes "Z") ((nm (codes "C")) ∷ []) (ByParts o (ss ((One (FromBeginning (Literal o (Integer 1)))) ∷ [])) (ss ([])) (ss ((One (FromBeginning (Literal o (Integer 1)))) ∷ []))))) ∷ [])))) ∷ []))) ∷ (Sum o None (Called o (codes "F") (es ((Sum o None (Literal o (Integer 31)) (ts ((Plus, (Literal o (Integer 7))) ∷ []))) ∷ (Referred (Refers o (codes "N2") ([]) (ByParts o (ss ([])) (ss ([])) (ss ((One (FromBeginning (Literal o (Integer 2)))) ∷ (Every o) ∷ []))))) ∷ []))) (ts ((Plus, (Referred (Refers o (codes "I2") ([]) Unsubscripted))) ∷ []))) ∷ []))))) ∷ (inr (Labelled ([]) (Assignment o ((Refers o (codes "N") ([]) Unsubscripted) ∷ []) (Sum o None (Called o (codes "F") (es ((Literal o (Integer 5)) ∷ (Referred (Refers o (codes "N2") ([]) (ByParts o (ss ([])) (ss ([])) (ss ((One (FromBeginning (Literal o (Integer 1)))) ∷ (Every o) ∷ []))))) ∷ []))) (ts ((Plus, (Called o (codes "F") (es ((Called o (codes "F") (es ((Called o (codes "F") (es ((Literal o (Integer 31)) ∷ (Referred (Refers o (codes "N2") ([]) (ByParts o (ss ([])) (ss ([])) (ss ((One (FromEnd o (ts ([])))) ∷ (Every o) ∷ []))))) ∷ []))) ∷ (Referred (Refers o (codes "N2") ([]) (ByParts o (ss ([])) (ss ([])) (ss ((One (FromBeginning (Literal o (Integer 2)))) ∷ (Every o) ∷ []))))) ∷ []))) ∷ (Referred (Refers o (codes "N2") ([]) (ByParts o (ss ([])) (ss ([])) (ss ((One (FromBeginning (Literal o (Integer 7)))) ∷ (Every o) ∷ []))))) ∷ [])))) ∷ [])))))) ∷ (inr (Labelled ([]) (Assignment o ((Refers o (codes "B2") ([]) Unsubscripted) ∷ []) (Called o (codes "LENGTH") (es ((Referred (Refers o (codes "A4") ([]) Unsubscripted)) ∷ [])))))) ∷ [])) (Some (nm (codes "Q"))))) ∷ [])) (Some (nm (codes "P"))))) ∷ (file_of ([]) (BlockOf (nm (codes "POOL")) (Compool o) ((Declare o ([]) ((declared_of (nm (codes "OUT")) ((Typed (IntegerKind o)) ∷ (ConstantValues o (is ((Value (Literal o (Integer 6))) ∷ []))) ∷ [])) ∷ [])) ∷ (Structure o (nm (codes "S")) ((part_of o 1 (nm (codes "C")) ((Typed (CharacterKind o (Literal o (Integer 3)))) ∷ [])) ∷ (part_of o 1 (nm (codes "G")) ([])) ∷ (part_of o 2 (nm (codes "C2")) ((Typed (IntegerKind o)) ∷ [])) ∷ [])) ∷ (Declare o ([]) ((declared_of (nm (codes "N")) ((Typed (IntegerKind o)) ∷ (Marked o Double) ∷ (InitialValues o (is ((Value (Sum o None (Literal o (Integer 100)) (ts ((Plus, (Literal o (Integer 1))) ∷ [])))) ∷ []))) ∷ [])) ∷ (declared_of (nm (codes "T")) ((Typed (CharacterKind o (Literal o (Integer 4)))) ∷ (InitialValues o (is ((Value (Literal o (Text (codes "IT'S")))) ∷ []))) ∷ [])) ∷ (declared_of (nm (codes "Z")) ((Typed (StructureKind o (codes "S") (Some (Literal o (Integer 3))))) ∷ [])) ∷ [])) ∷ (Declare o ([]) ((declared_of (nm (codes "B")) ((Typed (BitKind o (Literal o (Integer 32)))) ∷ (InitialValues o (is ((Value (Not o (Literal o (Bits 4 15)))) ∷ []))) ∷ [])) ∷ [])) ∷ []) (el ([])) (Some (nm (codes "POOL"))))) ∷ [])

abbrev Says4 : Type 0
Says4 = reported 400 row4 ((line.Run 600) ∷ []) ≡ codes "6: 0 \n6: 7 \nend P 0 closed 1\nP.N2$(1,1) = 7\nP.N2$(1,2) = 7\nP.N2$(1,3) = 7\nP.N2$(2,1) = 0\nP.N2$(2,2) = 7\nP.N2$(2,3) = 7\nP.I = 0\nP.I2 = 0\nPOOL.N = 0\nPOOL.T = 'IT''S'\nPOOL.Z.C$(1;) = ''\nPOOL.Z.G.C2$(1;) = 0\nPOOL.Z.C$(2;) = ''\nPOOL.Z.G.C2$(2;) = 0\nPOOL.Z.C$(3;) = ''\nPOOL.Z.G.C2$(3;) = 0\nPOOL.B = 00000000000000000000000000000000\n"

pub all_say : Says1 × Says2 × Says3 × Says4
unfolding digits words_reserved.reserved_words words_reserved.left_out_words phrases_gathereddeclarations.gathered_kind phrases_gathereddeclarations.gathered_initial phrases_gathereddeclarations.gathered_initials phrases_gathereddeclarations.gathered_attribute phrases_gathereddeclarations.gathered_item phrases_gathereddeclarations.still_open phrases_gathereddeclarations.innermost phrases_gathereddeclarations.is_bottom phrases_gathereddeclarations.gathered_part phrases_gathereddeclarations.gathered_parts phrases_gathereddeclarations.gathered_declaration phrases_gatheredexpressions.gathered phrases_gatheredexpressions.gathered_all phrases_gatheredexpressions.gathered_terms phrases_gatheredexpressions.gathered_reference phrases_gatheredexpressions.gathered_subscript phrases_gatheredexpressions.gathered_subs phrases_gatheredexpressions.gathered_sub phrases_gatheredexpressions.gathered_position phrases_gatheredstatements.gathered_guard phrases_gatheredstatements.gathered_span phrases_gatheredstatements.gathered_start phrases_gatheredstatements.gathered_cycle phrases_gatheredstatements.gathered_limit phrases_gatheredstatements.gathered_schedule phrases_gatheredstatements.begun_for phrases_gatheredstatements.around_for phrases_gatheredstatements.gathered_statement phrases_gatheredstatements.gathered_basic phrases_gatheredstatements.gathered_alternative phrases_gatheredstatements.gathered_group phrases_gatheredstatements.gathered_statements phrases_gatheredunits.gathered_returns phrases_gatheredunits.gathered_head phrases_gatheredunits.gathered_block phrases_gatheredunits.gathered_elements phrases_gatheredunits.around_template phrases_gatheredunits.gathered_template phrases_gatheredunits.gathered_preface phrases_gatheredunits.gathered_prefaces phrases_gatheredunits.name_of_block phrases_gatheredunits.gathered_file phrases_gatheredunits.phrases_of phrases_members.gathered_member phrases_members.gathered_members names_declarations.is_declaring names_declarations.with_places names_declarations.with_all_chosen names_keys.declared_at names_keys.same_space names_keys.same_key names_keys.own names_means.is_compool_unit names_means.unit_named names_means.given_by names_means.shown names_means.shown_by names_means.included names_means.included_before names_means.prefaces_of names_means.nearest names_tasks.with_homes scope_builtins.builtins scope_components.has_path scope_components.is_structure scope_components.type_has scope_components.has_component scope_components.lacks_in scope_components.lacks scope_labels.is_label_of scope_labels.misclosed scope_labels.is_loop scope_labels.group_around scope_labels.misled scope_labels.astray scope_repeated.given scope_repeated.is_of_block scope_repeated.twice scope_repeated.declares_one_there scope_repeated.declarations_of scope_repeated.included_twice scope_repeated.is_item scope_repeated.undeclared scope_rules.fault scope_rules.first_fault scope_sorts.type_in scope_sorts.type_among scope_sorts.sort_of_type scope_sorts.sort_of_head scope_sorts.sort_of scope_sorts.usage_of scope_sorts.use_of_reference scope_sorts.used scope_uses.unknown scope_uses.is_eventful scope_uses.is_nil scope_uses.refers_to_event scope_uses.holds_event scope_uses.hold_event scope_uses.limit_of scope_uses.limit_around scope_uses.misused kinds_attributes.count_of kinds_attributes.no_more kinds_attributes.sizes_in kinds_attributes.sizes_among kinds_attributes.initial_in kinds_attributes.initial_among kinds_attributes.constant_in kinds_attributes.constant_among kinds_attributes.same_mark kinds_attributes.is_mark kinds_classes.class_of_result kinds_classes.class_of_returns kinds_classes.class_of_head kinds_classes.class_of_form kinds_classes.class_of_builtin kinds_classes.class_at kinds_classes.class_of_reference kinds_classes.class_of_function kinds_classes.class_of_called_head kinds_classes.class_of_called kinds_classes.class_of_literal kinds_classes.class_of_conversion kinds_classes.beside kinds_classes.joined kinds_classes.enclosed kinds_classes.class_of kinds_classes.class_beside kinds_classes.class_joined kinds_data.class_of_type kinds_data.has_copies kinds_data.dimensions_of kinds_data.data_of kinds_data.part_data kinds_data.part_under kinds_data.data_at_part kinds_data.component_of kinds_data.component_data kinds_data.data_at kinds_data.is_event_type kinds_data.is_structure_type kinds_subscripts.subscript_count kinds_subscripts.is_many kinds_subscripts.are_many kinds_subscripts.parts_chosen kinds_subscripts.choice_of kinds_subscripts.is_structure_class constants_constants.operation_of_sign constants_constants.signed constants_constants.operation_of_conversion constants_constants.raised_to constants_constants.raised constants_constants.is_none constants_constants.factor_at constants_constants.constant_of constants_constants.folded constants_constants.summed constants_constants.computed constants_constants.computed_second constants_constants.multiplied constants_constants.referred constants_constants.subscripted constants_constants.component_of constants_constants.component_by constants_constants.place_of constants_known.size_of_integer constants_known.size_of_value constants_known.size_of constants_known.bits_kind constants_known.text_kind constants_known.kind_of constants_known.kind_of_type constants_known.gives_none constants_known.give_none constants_known.only_of constants_known.only_with constants_known.kept constants_known.fitted constants_known.only_in constants_known.declared_value constants_known.round constants_known.is_file constants_known.is_pooled constants_known.rounds constants_naming.constant_known constants_naming.constant_at constants_naming.literal_constant constants_naming.operation_of constants_operands.takes_one constants_operands.takes_two constants_operands.is_storable constants_operands.has_components constants_results.worth constants_results.worse constants_results.apply_one constants_results.apply_two constants_results.component_at constants_results.component_to constants_results.component_from constants_results.picked_one constants_results.picked_to constants_results.picked_from states_ofkinds.is_of
all_say = (refl, refl, refl, refl)
