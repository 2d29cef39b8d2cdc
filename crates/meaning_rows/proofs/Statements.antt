-- Rows of statements.txt, written by tools/meaning_rows.
use Rattle.std.specs.Prelude.{◌≡◌, ℕ, List, [], ◌∷◌, Option, Some, None, true, false, codes}
use Rattle.std.specs.Fmt.{digits}
use Rattle.std.proofs.Common.{refl, inl, inr}
use Rattle.hal_grammar.specs.Leaves.{Plus, Minus, Equal, Less, Greater, AtMost, AtLeast, NotEqual, NotLess, NotGreater, ToInteger, ToBits, ToText, Integer, Text, Bits, True, False, On, Off}
use Rattle.hal_grammar.specs.Expressions.{Or, And, Compare, Cat, Sum, Product, Power, Not, Literal, Decimal, Referred, Called, Convert, Parenthesis, Refers, Unsubscripted, ByName, ByInteger, ByParts, Every, One, Range, Portion, FromBeginning, FromEnd}
use Rattle.hal_grammar.specs.Declarations.{Single, Double, Latched, Static, Automatic, Dense, Aligned, IntegerKind, BooleanKind, EventKind, BitKind, CharacterKind, StructureKind, Value, LiteralTimes, NameTimes, ListTimes, Dimensions, Typed, Marked, LockGroup, LockAny, InitialValues, ConstantValues, declared_of, part_of, Declare, Structure}
use Rattle.hal_grammar.specs.Statements.{While, Until, Stepped, Listed, EveryError, GroupErrors, OneError, Signal, Set, Reset, eventful, System, Ignore, StartAt, StartIn, StartOn, Cyclic, CyclicEvery, CyclicAfter, scheduling, Labelled, Null, Assignment, If, Do, DoCase, DoLoop, DoFor, Exit, Repeat, Return, Call, Read, Write, Update, Scheduled, Cancel, Terminate, Wait, WaitUntil, WaitForDependent, WaitFor, Event, UpdatePriority, OnErrorStatement, OnErrorResponse, OffError, SendError, NoAlternative, Otherwise, Groups}
use Rattle.hal_grammar.specs.Units.{Reentrant, Exclusive, SinglePrecision, DoublePrecision, NoKind, HasKind, Program, Compool, Task, Procedure, Function, BlockOf, template_of, Include, Templates, File, file_of}
use Rattle.exec_model.specs.declared.script.ScriptLine.TheVariants as line
use Rattle.meaning_rows.specs.Trees.{o, nm, es, ts, ss, is, st, el}
use Rattle.meaning_rows.specs.Playing.{reported}
use Rattle.hal_words.specs.Reserved as words_reserved
use Rattle.hal_phrases.specs.GatheredDeclarations as phrases_gathereddeclarations
use Rattle.hal_phrases.specs.GatheredExpressions as phrases_gatheredexpressions
use Rattle.hal_phrases.specs.GatheredStatements as phrases_gatheredstatements
use Rattle.hal_phrases.specs.GatheredUnits as phrases_gatheredunits
use Rattle.hal_phrases.specs.Members as phrases_members
use Rattle.hal_names.specs.Declarations as names_declarations
use Rattle.hal_names.specs.Keys as names_keys
use Rattle.hal_names.specs.Means as names_means
use Rattle.hal_names.specs.Tasks as names_tasks
use Rattle.hal_scope.specs.Builtins as scope_builtins
use Rattle.hal_scope.specs.Components as scope_components
use Rattle.hal_scope.specs.Labels as scope_labels
use Rattle.hal_scope.specs.Repeated as scope_repeated
use Rattle.hal_scope.specs.Rules as scope_rules
use Rattle.hal_scope.specs.Sorts as scope_sorts
use Rattle.hal_scope.specs.Uses as scope_uses
use Rattle.hal_kinds.specs.Attributes as kinds_attributes
use Rattle.hal_kinds.specs.Classes as kinds_classes
use Rattle.hal_kinds.specs.Data as kinds_data
use Rattle.hal_kinds.specs.Subscripts as kinds_subscripts
use Rattle.hal_constants.specs.Constants as constants_constants
use Rattle.hal_constants.specs.Known as constants_known
use Rattle.hal_constants.specs.Naming as constants_naming
use Rattle.hal_constants.specs.Operands as constants_operands
use Rattle.hal_constants.specs.Results as constants_results
use Rattle.hal_states.specs.OfKinds as states_ofkinds

-- statements 1: error 1:6 SYSTEM, FUNCTION EXCLUSIVE, REPEAT, sign +
abbrev row1 : List File
row1 = ((file_of ([]) (BlockOf (nm (codes "P")) (Program o) ((Declare o ([]) ((declared_of (nm (codes "K")) ((Typed (IntegerKind o)) ∷ (ConstantValues o (is ((Value (Called o (codes "SHL") (es ((Literal o (Integer 1)) ∷ (Literal o (Integer 0)) ∷ [])))) ∷ []))) ∷ [])) ∷ [])) ∷ (Declare o ([]) ((declared_of (nm (codes "N")) ((Typed (BitKind o (Literal o (Integer 16)))) ∷ [])) ∷ (declared_of (nm (codes "R2")) ((Typed (CharacterKind o (Literal o (Integer 6)))) ∷ [])) ∷ [])) ∷ (Declare o ([]) ((declared_of (nm (codes "R")) ((Typed (IntegerKind o)) ∷ (InitialValues o (is ((Value (Referred (Refers o (codes "K") ([]) Unsubscripted))) ∷ []))) ∷ [])) ∷ [])) ∷ (Declare o ([]) ((declared_of (nm (codes "I")) ((Typed (IntegerKind o)) ∷ [])) ∷ [])) ∷ (Declare o ([]) ((declared_of (nm (codes "I2")) ((Typed (IntegerKind o)) ∷ [])) ∷ [])) ∷ []) (el ((inr (Labelled ([]) (Assignment o ((Refers o (codes "R") ([]) Unsubscripted) ∷ (Refers o (codes "R") ([]) Unsubscripted) ∷ []) (Called o (codes "MOD") (es ((Parenthesis o (Sum o None (Referred (Refers o (codes "K") ([]) Unsubscripted)) (ts ((Minus, (Literal o (Integer 5))) ∷ [])))) ∷ (Literal o (Integer 7)) ∷ [])))))) ∷ (inr (Labelled ([]) (If o (Compare o (Product o (Called o (codes "MOD") (es ((Literal o (Integer 31)) ∷ (Literal o (Integer 255)) ∷ []))) (es ((Called o (codes "REMAINDER") (es ((Literal o (Integer 7)) ∷ (Literal o (Integer 7)) ∷ []))) ∷ []))) Less (Literal o (Integer 1))) (Labelled ([]) (Write o (Product o (Literal o (Integer 2)) (es ((Literal o (Integer 3)) ∷ []))) (es ((Parenthesis o (Called o (codes "LENGTH") (es ((Referred (Refers o (codes "R2") ([]) Unsubscripted)) ∷ [])))) ∷ [])))) NoAlternative))) ∷ (inr (Labelled ([]) (DoFor o false (nm (codes "I2")) (Stepped (Literal o (Integer 1)) (Product o (Literal o (Integer 7)) (es ((Literal o (Integer 12)) ∷ []))) None) None (Groups (st ((Labelled ([]) (Assignment o ((Refers o (codes "R2") ([]) Unsubscripted) ∷ []) (Cat o (Literal o (Text (codes "12"))) (es ((Convert o ToText (Referred (Refers o (codes "N") ([]) Unsubscripted))) ∷ (Called o (codes "SHR") (es ((Called o (codes "REMAINDER") (es ((Referred (Refers o (codes "I2") ([]) Unsubscripted)) ∷ (Literal o (Integer 2)) ∷ []))) ∷ (Literal o (Integer 0)) ∷ []))) ∷ []))))) ∷ (Labelled ([]) (If o (Compare o (Cat o (Referred (Refers o (codes "R2") ([]) Unsubscripted)) (es ((Referred (Refers o (codes "I2") ([]) Unsubscripted)) ∷ []))) NotLess (Cat o (Referred (Refers o (codes "R2") ([]) Unsubscripted)) (es ((Literal o (Integer 1)) ∷ [])))) (Labelled ([]) (Repeat o None)) NoAlternative)) ∷ [])) None)))) ∷ (inr (Labelled ([]) (Write o (Literal o (Integer 6)) (es ((Cat o (Sum o None (Referred (Refers o (codes "I2") ([]) Unsubscripted)) (ts ((Plus, (Referred (Refers o (codes "I") ([]) Unsubscripted))) ∷ []))) (es ((Parenthesis o (Cat o (Literal o (Text (codes "XYZ"))) (es ((Referred (Refers o (codes "I2") ([]) Unsubscripted)) ∷ [])))) ∷ []))) ∷ (Called o (codes "LENGTH") (es ((Convert o ToText (Literal o (Bits 3 5))) ∷ []))) ∷ (Referred (Refers o (codes "K") ([]) Unsubscripted)) ∷ []))))) ∷ (inr (Labelled ([]) (Write o (Literal o (Integer 6)) (es ((Referred (Refers o (codes "I2") ([]) Unsubscripted)) ∷ []))))) ∷ (inr (Labelled ([]) (DoCase o (Literal o (Integer 100)) NoAlternative (Groups (st ((Labelled ([]) (Null o)) ∷ (Labelled ([]) (Null o)) ∷ [])) None)))) ∷ (inr (Labelled ([]) (Write o (Literal o (Integer 6)) (es ((Referred (Refers o (codes "I") ([]) Unsubscripted)) ∷ (Referred (Refers o (codes "I") ([]) Unsubscripted)) ∷ (Referred (Refers o (codes "K") ([]) Unsubscripted)) ∷ []))))) ∷ (inl (BlockOf (nm (codes "F")) (Function o ((nm (codes "A")) ∷ []) (HasKind (IntegerKind o) None) (Some (Exclusive o))) ((Declare o ([]) ((declared_of (nm (codes "A")) ((Dimensions o (es ((Literal o (Integer 2)) ∷ []))) ∷ (Typed (IntegerKind o)) ∷ (Marked o Double) ∷ [])) ∷ [])) ∷ []) (el ((inr (Labelled ([]) (Do o (Groups (st ((Labelled ([]) (Assignment o ((Refers o (codes "R2") ([]) Unsubscripted) ∷ (Refers o (codes "R2") ([]) Unsubscripted) ∷ []) (Convert o ToText (Cat o (Convert o ToText (Referred (Refers o (codes "N") ([]) Unsubscripted))) (es ((Parenthesis o (Cat o (Referred (Refers o (codes "R2") ([]) (ByParts o (ss ([])) (ss ([])) (ss ((Range (FromBeginning (Literal o (Integer 2))) (FromBeginning (Literal o (Integer 1)))) ∷ []))))) (es ((Referred (Refers o (codes "R2") ([]) Unsubscripted)) ∷ [])))) ∷ [])))))) ∷ (Labelled ([]) (If o (Or o (And o (Compare o (Referred (Refers o (codes "K") ([]) Unsubscripted)) Equal (Literal o (Integer 7))) (es ((Compare o (Called o (codes "SIGNUM") (es ((Parenthesis o (Sum o None (Referred (Refers o (codes "K") ([]) Unsubscripted)) (ts ((Plus, (Literal o (Integer 2))) ∷ [])))) ∷ []))) Greater (Sum o (Some Plus) (Parenthesis o (Sum o None (Referred (Refers o (codes "K") ([]) Unsubscripted)) (ts ((Plus, (Literal o (Integer 2))) ∷ [])))) (ts ([])))) ∷ []))) (es ((Compare o (Called o (codes "RJUST") (es ((Literal o (Text (codes "12"))) ∷ (Literal o (Integer 0)) ∷ []))) NotEqual (Parenthesis o (Referred (Refers o (codes "R2") ([]) Unsubscripted)))) ∷ []))) (Labelled ([]) (Assignment o ((Refers o (codes "R") ([]) Unsubscripted) ∷ (Refers o (codes "R") ([]) Unsubscripted) ∷ (Refers o (codes "R") ([]) Unsubscripted) ∷ []) (Literal o (Integer 31)))) NoAlternative)) ∷ [])) None)))) ∷ [])) (Some (nm (codes "F"))))) ∷ (inl (BlockOf (nm (codes "F2")) (Function o ((nm (codes "A2")) ∷ []) (HasKind (BitKind o (Literal o (Integer 4))) None) None) ((Declare o ([]) ((declared_of (nm (codes "A2")) ((Typed (IntegerKind o)) ∷ (Marked o Single) ∷ [])) ∷ [])) ∷ (Declare o ([]) ((declared_of (nm (codes "V")) ((Dimensions o (es ((Literal o (Integer 3)) ∷ []))) ∷ (Typed (IntegerKind o)) ∷ (Marked o Single) ∷ (Marked o Automatic) ∷ [])) ∷ [])) ∷ []) (el ((inr (Labelled ([]) (Write o (Product o (Literal o (Integer 2)) (es ((Literal o (Integer 3)) ∷ []))) (es ((Sum o (Some Minus) (Parenthesis o (Sum o None (Referred (Refers o (codes "V") ([]) (ByParts o (ss ([])) (ss ([])) (ss ((One (FromBeginning (Literal o (Integer 3)))) ∷ []))))) (ts ((Plus, (Literal o (Integer 12))) ∷ [])))) (ts ([]))) ∷ (Sum o None (Called o (codes "SIZE") (es ((Referred (Refers o (codes "V") ([]) Unsubscripted)) ∷ []))) (ts ((Minus, (Literal o (Integer 5))) ∷ []))) ∷ (Sum o (Some Plus) (Parenthesis o (Sum o None (Referred (Refers o (codes "A2") ([]) Unsubscripted)) (ts ((Plus, (Literal o (Integer 2))) ∷ [])))) (ts ([]))) ∷ []))))) ∷ [])) None)) ∷ [])) (Some (nm (codes "P"))))) ∷ [])

abbrev Says1 : Type 0
Says1 = reported 400 row1 ((line.Run 600) ∷ []) ≡ codes "6: 0\n6: 84XYZ84 3 1\n6: 84\nend P 0 error 1:6 0\nP.N = 0000000000000000\nP.R2 = '120000'\nP.R = 3\nP.I = 0\nP.I2 = 84\n"

-- statements 5: FUNCTION REENTRANT, sign +, DO FOR list, EXIT
abbrev row2 : List File
row2 = ((file_of ([]) (BlockOf (nm (codes "P")) (Program o) ((Structure o (nm (codes "S")) ((part_of o 1 (nm (codes "C")) ((Typed (IntegerKind o)) ∷ [])) ∷ (part_of o 1 (nm (codes "C2")) ((Typed (IntegerKind o)) ∷ (Marked o Double) ∷ [])) ∷ [])) ∷ (Declare o ([]) ((declared_of (nm (codes "R2")) ((Typed (CharacterKind o (Literal o (Integer 6)))) ∷ [])) ∷ (declared_of (nm (codes "R")) ((Typed (BitKind o (Literal o (Integer 4)))) ∷ (InitialValues o (is ((Value (Cat o (Literal o (Bits 4 6)) (es ((Literal o (Bits 7 100)) ∷ [])))) ∷ []))) ∷ [])) ∷ (declared_of (nm (codes "N")) ((Typed (IntegerKind o)) ∷ (Marked o Double) ∷ (InitialValues o (is ((Value (Convert o ToInteger (Literal o (Bits 8 7)))) ∷ []))) ∷ [])) ∷ [])) ∷ (Declare o ([]) ((declared_of (nm (codes "Z")) ((Typed (StructureKind o (codes "S") (Some (Literal o (Integer 2))))) ∷ [])) ∷ [])) ∷ (Declare o ([]) ((declared_of (nm (codes "I")) ((Typed (IntegerKind o)) ∷ [])) ∷ [])) ∷ (Declare o ([]) ((declared_of (nm (codes "I2")) ((Typed (IntegerKind o)) ∷ [])) ∷ [])) ∷ []) (el ((inl (BlockOf (nm (codes "F")) (Function o ((nm (codes "A")) ∷ []) (HasKind (IntegerKind o) (Some (DoublePrecision o))) (Some (Reentrant o))) ((Declare o ([]) ((declared_of (nm (codes "A")) ((Typed (CharacterKind o (Literal o (Integer 6)))) ∷ [])) ∷ [])) ∷ (Declare o ([]) ((declared_of (nm (codes "J")) ((Typed (IntegerKind o)) ∷ (Marked o Automatic) ∷ [])) ∷ [])) ∷ []) (el ((inr (Labelled ([]) (Assignment o ((Refers o (codes "Z") ((nm (codes "C")) ∷ []) (ByParts o (ss ((One (FromBeginning (Sum o None (Called o (codes "MOD") (es ((Called o (codes "SHL") (es ((Referred (Refers o (codes "N") ([]) Unsubscripted)) ∷ (Literal o (Integer 2)) ∷ []))) ∷ (Literal o (Integer 2)) ∷ []))) (ts ((Plus, (Literal o (Integer 1))) ∷ []))))) ∷ [])) (ss ([])) (ss ([])))) ∷ []) (Parenthesis o (Product o (Parenthesis o (Sum o (Some Plus) (Referred (Refers o (codes "N") ([]) Unsubscripted)) (ts ([])))) (es ((Literal o (Integer 1)) ∷ []))))))) ∷ (inr (Labelled ([]) (Return o (Some (Called o (codes "I2") (es ((Parenthesis o (Literal o (Integer 5))) ∷ []))))))) ∷ [])) (Some (nm (codes "F"))))) ∷ (inr (Labelled ([]) (Write o (Literal o (Integer 6)) (es ((Called o (codes "F") (es ((Cat o (Referred (Refers o (codes "I") ([]) Unsubscripted)) (es ((Literal o (Text (codes "HELLO"))) ∷ []))) ∷ []))) ∷ []))))) ∷ (inr (Labelled ((nm (codes "L")) ∷ []) (Do o (Groups (st ((Labelled ([]) (If o (Compare o (Referred (Refers o (codes "Z") ((nm (codes "C")) ∷ []) (ByParts o (ss ((One (FromBeginning (Literal o (Integer 2)))) ∷ [])) (ss ([])) (ss ([]))))) Less (Called o (codes "REMAINDER") (es ((Literal o (Integer 10)) ∷ (Literal o (Integer 7)) ∷ [])))) (Labelled ([]) (Exit o None)) NoAlternative)) ∷ (Labelled ([]) (If o (Compare o (Parenthesis o (And o (Literal o (Bits 1 1)) (es ((Referred (Refers o (codes "R") ([]) Unsubscripted)) ∷ (Referred (Refers o (codes "R") ([]) (ByParts o (ss ([])) (ss ([])) (ss ((Portion (Literal o (Integer 3)) (FromBeginning (Literal o (Integer 2)))) ∷ []))))) ∷ [])))) Equal (Not o (Parenthesis o (Cat o (Literal o (Bits 3 5)) (es ((Referred (Refers o (codes "R") ([]) Unsubscripted)) ∷ [])))))) (Labelled ([]) (DoFor o false (nm (codes "I")) (Listed (es ((Literal o (Integer 5)) ∷ (Literal o (Integer 7)) ∷ (Literal o (Integer 4)) ∷ []))) None (Groups (st ((Labelled ([]) (Assignment o ((Refers o (codes "Z") ((nm (codes "C2")) ∷ []) (ByParts o (ss ((One (FromBeginning (Referred (Refers o (codes "I") ([]) Unsubscripted)))) ∷ [])) (ss ([])) (ss ([])))) ∷ []) (Called o (codes "F") (es ((Cat o (Literal o (Integer 1)) (es ((Referred (Refers o (codes "R2") ([]) Unsubscripted)) ∷ []))) ∷ []))))) ∷ [])) None))) NoAlternative)) ∷ [])) None)))) ∷ (inr (Labelled ([]) (Assignment o ((Refers o (codes "R2") ([]) Unsubscripted) ∷ (Refers o (codes "R2") ([]) Unsubscripted) ∷ (Refers o (codes "R2") ([]) Unsubscripted) ∷ []) (Power o (Literal o (Integer 3)) (Literal o (Integer 2)))))) ∷ (inr (Labelled ([]) (Write o (Product o (Literal o (Integer 2)) (es ((Literal o (Integer 3)) ∷ []))) (es ((Called o (codes "I") (es ((Literal o (Integer 31)) ∷ []))) ∷ (Called o (codes "LJUST") (es ((Parenthesis o (Referred (Refers o (codes "R2") ([]) Unsubscripted))) ∷ (Referred (Refers o (codes "Z") ((nm (codes "C")) ∷ []) (ByParts o (ss ((One (FromBeginning (Literal o (Integer 1)))) ∷ [])) (ss ([])) (ss ([]))))) ∷ []))) ∷ []))))) ∷ [])) (Some (nm (codes "P"))))) ∷ [])

abbrev Says2 : Type 0
Says2 = reported 400 row2 ((line.Run 600) ∷ []) ≡ codes "6: 0\n6: 0 9      \nend P 0 closed 1\nP.R2 = '9'\nP.R = 0100\nP.N = 7\nP.Z.C$(1;) = 7\nP.Z.C2$(1;) = 0\nP.Z.C$(2;) = 0\nP.Z.C2$(2;) = 0\nP.I = 0\nP.I2 = 0\n"

-- statements 10: DO CASE ELSE, array subscript all left out, SIZE, bit component at
abbrev row3 : List File
row3 = ((file_of ([]) (BlockOf (nm (codes "P")) (Program o) ((Declare o ([]) ((declared_of (nm (codes "N")) ((Typed (BitKind o (Literal o (Integer 8)))) ∷ (InitialValues o (is ((Value (Called o (codes "ODD") (es ((Literal o (Integer 7)) ∷ [])))) ∷ []))) ∷ [])) ∷ [])) ∷ (Declare o ([]) ((declared_of (nm (codes "B")) ((Typed (IntegerKind o)) ∷ (Marked o Double) ∷ (InitialValues o (is ((Value (Power o (Literal o (Integer 2)) (Literal o (Integer 5)))) ∷ []))) ∷ [])) ∷ [])) ∷ (Declare o ([]) ((declared_of (nm (codes "T")) ((Typed (CharacterKind o (Literal o (Integer 3)))) ∷ (InitialValues o (is ((Value (Cat o (Literal o (Text (codes "LONGER TEXT"))) (es ((Literal o (Text (codes "IT'S"))) ∷ [])))) ∷ []))) ∷ [])) ∷ [])) ∷ (Declare o ([]) ((declared_of (nm (codes "I")) ((Typed (IntegerKind o)) ∷ [])) ∷ [])) ∷ (Declare o ([]) ((declared_of (nm (codes "I2")) ((Typed (IntegerKind o)) ∷ [])) ∷ [])) ∷ []) (el ((inr (Labelled ([]) (Assignment o ((Refers o (codes "T") ([]) Unsubscripted) ∷ []) (Called o (codes "RJUST") (es ((Cat o (Referred (Refers o (codes "T") ([]) Unsubscripted)) (es ((Referred (Refers o (codes "T") ([]) Unsubscripted)) ∷ (Parenthesis o (Cat o (Referred (Refers o (codes "T") ([]) Unsubscripted)) (es ((Referred (Refers o (codes "I") ([]) Unsubscripted)) ∷ [])))) ∷ []))) ∷ (Literal o (Integer 5)) ∷ [])))))) ∷ (inr (Labelled ((nm (codes "M2")) ∷ []) (Assignment o ((Refers o (codes "B") ([]) Unsubscripted) ∷ []) (Sum o None (Referred (Refers o (codes "I2") ([]) Unsubscripted)) (ts ((Plus, (Literal o (Integer 12))) ∷ [])))))) ∷ (inr (Labelled ([]) (Assignment o ((Refers o (codes "T") ([]) Unsubscripted) ∷ []) (Referred (Refers o (codes "T") ([]) (ByParts o (ss ([])) (ss ([])) (ss ((Range (FromEnd o (ts ((Minus, (Literal o (Integer 1))) ∷ []))) (FromEnd o (ts ([])))) ∷ [])))))))) ∷ (inr (Labelled ((nm (codes "M4")) ∷ []) (Write o (Literal o (Integer 6)) (es ((Called o (codes "B") (es ((Referred (Refers o (codes "B") ([]) Unsubscripted)) ∷ []))) ∷ (Product o (Literal o (Integer 2)) (es ((Literal o (Integer 12)) ∷ []))) ∷ (Referred (Refers o (codes "N") ([]) (ByParts o (ss ([])) (ss ([])) (ss ((Range (FromBeginning (Literal o (Integer 1))) (FromBeginning (Literal o (Integer 8)))) ∷ []))))) ∷ []))))) ∷ (inr (Labelled ([]) (Write o (Literal o (Integer 6)) (es ((Convert o ToText (Called o (codes "XOR") (es ((Referred (Refers o (codes "N") ([]) Unsubscripted)) ∷ (Literal o (Bits 4 15)) ∷ [])))) ∷ []))))) ∷ (inr (Labelled ([]) (Write o (Literal o (Integer 6)) (es ((Referred (Refers o (codes "I2") ([]) Unsubscripted)) ∷ []))))) ∷ (inl (BlockOf (nm (codes "Q")) (Procedure o ((nm (codes "A")) ∷ (nm (codes "A2")) ∷ []) ((nm (codes "B2")) ∷ []) None) ((Declare o ([]) ((declared_of (nm (codes "A")) ((Dimensions o (es ((Literal o (Integer 2)) ∷ []))) ∷ (Typed (BitKind o (Literal o (Integer 8)))) ∷ [])) ∷ [])) ∷ (Declare o ([]) ((declared_of (nm (codes "A2")) ((Typed (IntegerKind o)) ∷ [])) ∷ [])) ∷ (Declare o ([]) ((declared_of (nm (codes "B2")) ((Typed (CharacterKind o (Literal o (Integer 3)))) ∷ [])) ∷ [])) ∷ (Declare o ([]) ((declared_of (nm (codes "V")) ((Typed (BitKind o (Literal o (Integer 3)))) ∷ (InitialValues o (is ((Value (Cat o (Literal o On) (es ((Literal o Off) ∷ [])))) ∷ []))) ∷ [])) ∷ (declared_of (nm (codes "J")) ((Typed (IntegerKind o)) ∷ (Marked o Automatic) ∷ [])) ∷ [])) ∷ []) (el ((inr (Labelled ([]) (If o (Compare o (Cat o (Convert o ToInteger (Referred (Refers o (codes "N") ([]) Unsubscripted))) (es ((Parenthesis o (Cat o (Referred (Refers o (codes "T") ([]) Unsubscripted)) (es ((Literal o (Integer 255)) ∷ [])))) ∷ []))) NotEqual (Cat o (Literal o (Text (codes "lower"))) (es ((Literal o (Text (codes " PAD "))) ∷ (Product o (Referred (Refers o (codes "B") ([]) Unsubscripted)) (es ((Referred (Refers o (codes "J") ([]) Unsubscripted)) ∷ []))) ∷ [])))) (Labelled ([]) (DoCase o (Sum o None (Called o (codes "MOD") (es ((Called o (codes "LENGTH") (es ((Referred (Refers o (codes "T") ([]) Unsubscripted)) ∷ []))) ∷ (Literal o (Integer 3)) ∷ []))) (ts ((Plus, (Literal o (Integer 1))) ∷ []))) (Otherwise (Labelled ([]) (Assignment o ((Refers o (codes "N") ([]) (ByParts o (ss ([])) (ss ([])) (ss ((Portion (Literal o (Integer 1)) (FromBeginning (Literal o (Integer 7)))) ∷ [])))) ∷ (Refers o (codes "V") ([]) Unsubscripted) ∷ (Refers o (codes "V") ([]) Unsubscripted) ∷ []) (And o (Parenthesis o (Or o (Literal o False) (es ((Referred (Refers o (codes "N") ([]) (ByParts o (ss ([])) (ss ([])) (ss ((Portion (Literal o (Integer 7)) (FromBeginning (Literal o (Integer 1)))) ∷ []))))) ∷ [])))) (es ((Parenthesis o (Referred (Refers o (codes "A") ([]) (ByParts o (ss ([])) (ss ((One (FromBeginning (Literal o (Integer 1)))) ∷ [])) (ss ((Range (FromBeginning (Literal o (Integer 6))) (FromBeginning (Literal o (Integer 8)))) ∷ [])))))) ∷ (Cat o (Not o (Referred (Refers o (codes "V") ([]) Unsubscripted))) (es ((Parenthesis o (Or o (Referred (Refers o (codes "N") ([]) (ByInteger o o 5))) (es ((Referred (Refers o (codes "V") ([]) Unsubscripted)) ∷ [])))) ∷ []))) ∷ [])))))) (Groups (st ((Labelled ([]) (Assignment o ((Refers o (codes "B") ([]) Unsubscripted) ∷ (Refers o (codes "B") ([]) Unsubscripted) ∷ (Refers o (codes "B") ([]) Unsubscripted) ∷ []) (Called o (codes "SIZE") (es ((Referred (Refers o (codes "A") ([]) Unsubscripted)) ∷ []))))) ∷ (Labelled ([]) (Assignment o ((Refers o (codes "B") ([]) Unsubscripted) ∷ []) (Referred (Refers o (codes "B") ([]) Unsubscripted)))) ∷ (Labelled ((nm (codes "M")) ∷ []) (Assignment o ((Refers o (codes "V") ([]) Unsubscripted) ∷ (Refers o (codes "V") ([]) (ByParts o (ss ([])) (ss ([])) (ss ((Range (FromBeginning (Literal o (Integer 2))) (FromEnd o (ts ([])))) ∷ [])))) ∷ []) (Literal o (Bits 3 5)))) ∷ [])) None))) NoAlternative))) ∷ [])) (Some (nm (codes "Q"))))) ∷ [])) (Some (nm (codes "P"))))) ∷ [])

abbrev Says3 : Type 0
Says3 = reported 400 row3 ((line.Run 600) ∷ []) ≡ codes "6: 144 24 00000001\n6: 00001110\n6: 0\nend P 0 closed 1\nP.N = 00000001\nP.B = 12\nP.T = 'LO'\nP.I = 0\nP.I2 = 0\nP.Q.V = 010\n"

-- statements 34: DO FOR UNTIL, FUNCTION EXCLUSIVE, DO WHILE, DO FOR BY
abbrev row4 : List File
row4 = ((file_of ([]) (BlockOf (nm (codes "P")) (Program o) ((Structure o (nm (codes "S")) ((part_of o 1 (nm (codes "C")) ((Typed (IntegerKind o)) ∷ [])) ∷ (part_of o 1 (nm (codes "C2")) ((Dimensions o (es ((Literal o (Integer 3)) ∷ []))) ∷ (Typed (CharacterKind o (Literal o (Integer 6)))) ∷ [])) ∷ [])) ∷ (Declare o ([]) ((declared_of (nm (codes "Z")) ((Typed (StructureKind o (codes "S") None)) ∷ [])) ∷ (declared_of (nm (codes "N")) ((Dimensions o (es ((Literal o (Integer 2)) ∷ (Literal o (Integer 1)) ∷ (Literal o (Integer 2)) ∷ []))) ∷ (Typed (IntegerKind o)) ∷ (Marked o Double) ∷ [])) ∷ (declared_of (nm (codes "R")) ((Typed (BitKind o (Literal o (Integer 4)))) ∷ (InitialValues o (is ((Value (Literal o (Bits 3 5))) ∷ []))) ∷ [])) ∷ [])) ∷ (Declare o ([]) ((declared_of (nm (codes "I")) ((Typed (IntegerKind o)) ∷ [])) ∷ [])) ∷ (Declare o ([]) ((declared_of (nm (codes "I2")) ((Typed (IntegerKind o)) ∷ [])) ∷ [])) ∷ []) (el ((inr (Labelled ([]) (Assignment o ((Refers o (codes "N") ([]) (ByParts o (ss ([])) (ss ([])) (ss ((One (FromBeginning (Literal o (Integer 1)))) ∷ (One (FromBeginning (Sum o None (Called o (codes "MOD") (es ((Called o (codes "F") (es ((Referred (Refers o (codes "Z") ([]) Unsubscripted)) ∷ []))) ∷ (Literal o (Integer 1)) ∷ []))) (ts ((Plus, (Literal o (Integer 1))) ∷ []))))) ∷ (One (FromBeginning (Sum o None (Called o (codes "MOD") (es ((Sum o None (Referred (Refers o (codes "I2") ([]) Unsubscripted)) (ts ((Minus, (Referred (Refers o (codes "Z") ((nm (codes "C")) ∷ []) Unsubscripted))) ∷ []))) ∷ (Literal o (Integer 2)) ∷ []))) (ts ((Plus, (Literal o (Integer 1))) ∷ []))))) ∷ [])))) ∷ []) (Sum o None (Called o (codes "SIZE") (es ((Referred (Refers o (codes "Z") ((nm (codes "C2")) ∷ []) Unsubscripted)) ∷ []))) (ts ((Plus, (Parenthesis o (Sum o None (Called o (codes "F") (es ((Referred (Refers o (codes "Z") ([]) Unsubscripted)) ∷ []))) (ts ((Plus, (Literal o (Integer 2))) ∷ []))))) ∷ [])))))) ∷ (inr (Labelled ((nm (codes "M")) ∷ []) (Assignment o ((Refers o (codes "Z") ((nm (codes "C")) ∷ []) Unsubscripted) ∷ (Refers o (codes "Z") ((nm (codes "C")) ∷ []) Unsubscripted) ∷ []) (Sum o None (Referred (Refers o (codes "I2") ([]) Unsubscripted)) (ts ((Minus, (Parenthesis o (Sum o None (Literal o (Integer 100)) (ts ((Plus, (Parenthesis o (Sum o None (Literal o (Integer 7)) (ts ((Plus, (Referred (Refers o (codes "N") ([]) (ByParts o (ss ([])) (ss ([])) (ss ((One (FromBeginning (Literal o (Integer 2)))) ∷ (One (FromBeginning (Literal o (Integer 1)))) ∷ (One (FromBeginning (Literal o (Integer 2)))) ∷ [])))))) ∷ []))))) ∷ []))))) ∷ [])))))) ∷ (inr (Labelled ([]) (Write o (Literal o (Integer 6)) (es ((Cat o (Literal o (Text (codes ""))) (es ((Literal o (Integer 2)) ∷ (Referred (Refers o (codes "Z") ((nm (codes "C")) ∷ []) Unsubscripted)) ∷ []))) ∷ (Convert o ToInteger (Called o (codes "XOR") (es ((Referred (Refers o (codes "R") ([]) Unsubscripted)) ∷ (Literal o (Bits 8 60)) ∷ [])))) ∷ []))))) ∷ (inr (Labelled ([]) (Write o (Product o (Literal o (Integer 2)) (es ((Literal o (Integer 3)) ∷ []))) (es ((Cat o (Literal o (Text (codes "IT'S"))) (es ((Referred (Refers o (codes "N") ([]) (ByParts o (ss ([])) (ss ([])) (ss ((One (FromBeginning (Literal o (Integer 1)))) ∷ (One (FromBeginning (Literal o (Integer 1)))) ∷ (One (FromBeginning (Literal o (Integer 1)))) ∷ []))))) ∷ (Called o (codes "ABS") (es ((Referred (Refers o (codes "N") ([]) (ByParts o (ss ([])) (ss ([])) (ss ((One (FromBeginning (Literal o (Integer 2)))) ∷ (One (FromBeginning (Literal o (Integer 1)))) ∷ (One (FromBeginning (Literal o (Integer 1)))) ∷ []))))) ∷ []))) ∷ []))) ∷ (Called o (codes "F") (es ((Referred (Refers o (codes "Z") ([]) Unsubscripted)) ∷ []))) ∷ (Product o (Literal o (Integer 255)) (es ((Literal o (Integer 1)) ∷ []))) ∷ []))))) ∷ (inr (Labelled ([]) (Write o (Literal o (Integer 6)) (es ((Sum o None (Called o (codes "SIZE") (es ((Referred (Refers o (codes "Z") ((nm (codes "C2")) ∷ []) Unsubscripted)) ∷ []))) (ts ((Plus, (Referred (Refers o (codes "Z") ((nm (codes "C")) ∷ []) Unsubscripted))) ∷ []))) ∷ (Referred (Refers o (codes "R") ([]) Unsubscripted)) ∷ []))))) ∷ (inr (Labelled ([]) (If o (Compare o (Called o (codes "RJUST") (es ((Cat o (Referred (Refers o (codes "I") ([]) Unsubscripted)) (es ((Referred (Refers o (codes "Z") ((nm (codes "C2")) ∷ []) (ByParts o (ss ([])) (ss ((One (FromBeginning (Literal o (Integer 3)))) ∷ [])) (ss ([]))))) ∷ []))) ∷ (Literal o (Integer 8)) ∷ []))) NotGreater (Called o (codes "LJUST") (es ((Literal o (Text (codes "LONGER TEXT"))) ∷ (Literal o (Integer 8)) ∷ [])))) (Labelled ((nm (codes "L5")) ∷ []) (DoFor o false (nm (codes "I")) (Stepped (Literal o (Integer 1)) (Literal o (Integer 2)) (Some (Literal o (Integer 2)))) (Some (Until o (Compare o (Sum o None (Referred (Refers o (codes "N") ([]) (ByParts o (ss ([])) (ss ([])) (ss ((One (FromBeginning (Literal o (Integer 2)))) ∷ (One (FromBeginning (Literal o (Integer 1)))) ∷ (One (FromBeginning (Literal o (Integer 2)))) ∷ []))))) (ts ((Minus, (Literal o (Integer 12))) ∷ []))) AtLeast (Literal o (Integer 5))))) (Groups (st ((Labelled ([]) (Write o (Literal o (Integer 6)) (es ((Called o (codes "XOR") (es ((And o (Literal o (Bits 3 5)) (es ((Referred (Refers o (codes "R") ([]) Unsubscripted)) ∷ []))) ∷ (Convert o ToBits (Referred (Refers o (codes "I") ([]) Unsubscripted))) ∷ []))) ∷ [])))) ∷ (Labelled ([]) (Assignment o ((Refers o (codes "I2") ([]) Unsubscripted) ∷ []) (Literal o (Integer 0)))) ∷ (Labelled ((nm (codes "L6")) ∷ []) (DoLoop o (While o (And o (Compare o (Referred (Refers o (codes "I2") ([]) Unsubscripted)) Less (Literal o (Integer 4))) (es ((Compare o (Parenthesis o (Literal o (Bits 4 15))) Equal (Referred (Refers o (codes "R") ([]) Unsubscripted))) ∷ [])))) (Groups (st ((Labelled ([]) (Assignment o ((Refers o (codes "I2") ([]) Unsubscripted) ∷ []) (Sum o None (Referred (Refers o (codes "I2") ([]) Unsubscripted)) (ts ((Plus, (Literal o (Integer 1))) ∷ []))))) ∷ (Labelled ([]) (Write o (Literal o (Integer 6)) (es ((Called o (codes "F") (es ((Referred (Refers o (codes "Z") ([]) Unsubscripted)) ∷ []))) ∷ (Parenthesis o (Called o (codes "RJUST") (es ((Referred (Refers o (codes "Z") ((nm (codes "C2")) ∷ []) (ByInteger o o 2))) ∷ (Literal o (Integer 0)) ∷ [])))) ∷ (Called o (codes "F") (es ((Referred (Refers o (codes "Z") ([]) Unsubscripted)) ∷ []))) ∷ [])))) ∷ (Labelled ([]) (Write o (Literal o (Integer 6)) (es ((Convert o ToInteger (Called o (codes "ODD") (es ((Referred (Refers o (codes "N") ([]) (ByParts o (ss ([])) (ss ([])) (ss ((One (FromBeginning (Literal o (Integer 1)))) ∷ (One (FromBeginning (Literal o (Integer 1)))) ∷ (One (FromBeginning (Literal o (Integer 1)))) ∷ []))))) ∷ [])))) ∷ [])))) ∷ (Labelled ([]) (Assignment o ((Refers o (codes "R") ([]) (ByParts o (ss ([])) (ss ([])) (ss ((Range (FromBeginning (Literal o (Integer 2))) (FromBeginning (Literal o (Integer 4)))) ∷ [])))) ∷ []) (Literal o (Bits 7 100)))) ∷ [])) None))) ∷ [])) None))) NoAlternative))) ∷ (inl (BlockOf (nm (codes "F")) (Function o ((nm (codes "A")) ∷ []) (HasKind (IntegerKind o) (Some (DoublePrecision o))) (Some (Exclusive o))) ((Declare o ([]) ((declared_of (nm (codes "A")) ((Typed (StructureKind o (codes "S") None)) ∷ [])) ∷ [])) ∷ (Declare o ([]) ((declared_of (nm (codes "V")) ((Dimensions o (es ((Literal o (Integer 2)) ∷ []))) ∷ (Typed (CharacterKind o (Literal o (Integer 1)))) ∷ (InitialValues o (is ((Value (Literal o (Text (codes "AB")))) ∷ []))) ∷ [])) ∷ [])) ∷ []) (el ((inr (Labelled ([]) (Assignment o ((Refers o (codes "Z") ((nm (codes "C")) ∷ []) Unsubscripted) ∷ []) (Convert o ToInteger (Convert o ToText (Called o (codes "INDEX") (es ((Referred (Refers o (codes "V") ([]) (ByParts o (ss ([])) (ss ((One (FromBeginning (Sum o None (Called o (codes "MOD") (es ((Referred (Refers o (codes "I2") ([]) Unsubscripted)) ∷ (Literal o (Integer 2)) ∷ []))) (ts ((Plus, (Literal o (Integer 1))) ∷ []))))) ∷ [])) (ss ((One (FromEnd o (ts ([])))) ∷ []))))) ∷ (Referred (Refers o (codes "A") ((nm (codes "C2")) ∷ []) (ByInteger o o 3))) ∷ [])))))))) ∷ (inr (Labelled ([]) (Return o (Some (Literal o (Integer 3)))))) ∷ [])) (Some (nm (codes "F"))))) ∷ [])) (Some (nm (codes "P"))))) ∷ [])

abbrev Says4 : Type 0
Says4 = reported 400 row4 ((line.Run 1) ∷ (line.Tick 1) ∷ (line.Run 600) ∷ []) ≡ codes "6: 2-107 57\n6: IT'S80 3 255\n6: 3 0101\n6: 00000000000000000000000000000100\nend P 1 closed 1\nP.Z.C = 0\nP.Z.C2$(1) = ''\nP.Z.C2$(2) = ''\nP.Z.C2$(3) = ''\nP.N$(1,1,1) = 8\nP.N$(1,1,2) = 0\nP.N$(2,1,1) = 0\nP.N$(2,1,2) = 0\nP.R = 0101\nP.I = 1\nP.I2 = 0\nP.F.V$(1) = 'A'\nP.F.V$(2) = 'A'\n"

-- statements 61: error 1:4 SYSTEM, text component all, PROCEDURE REENTRANT, n#(..)
abbrev row5 : List File
row5 = ((file_of ([]) (BlockOf (nm (codes "P")) (Program o) ((Declare o ([]) ((declared_of (nm (codes "OUT")) ((Typed (IntegerKind o)) ∷ (ConstantValues o (is ((Value (Literal o (Integer 6))) ∷ []))) ∷ [])) ∷ [])) ∷ (Declare o ([]) ((declared_of (nm (codes "K")) ((Dimensions o (es ((Literal o (Integer 2)) ∷ (Literal o (Integer 1)) ∷ (Literal o (Integer 2)) ∷ []))) ∷ (Typed (BooleanKind o)) ∷ (ConstantValues o (is ((Value (Called o (codes "ODD") (es ((Literal o (Integer 7)) ∷ [])))) ∷ (Value (Literal o True)) ∷ (Value (Literal o (Bits 6 15))) ∷ (Value (Or o (Literal o (Bits 3 5)) (es ((Literal o On) ∷ [])))) ∷ []))) ∷ [])) ∷ [])) ∷ (Structure o (nm (codes "S")) ((part_of o 1 (nm (codes "C")) ((Dimensions o (es ((Literal o (Integer 3)) ∷ []))) ∷ (Typed (IntegerKind o)) ∷ [])) ∷ (part_of o 1 (nm (codes "G")) ([])) ∷ (part_of o 2 (nm (codes "C2")) ((Typed (IntegerKind o)) ∷ [])) ∷ (part_of o 2 (nm (codes "C3")) ((Typed (CharacterKind o (Literal o (Integer 3)))) ∷ (Marked o Dense) ∷ [])) ∷ [])) ∷ (Declare o ([]) ((declared_of (nm (codes "B")) ((Dimensions o (es ((Literal o (Integer 2)) ∷ []))) ∷ (Typed (BooleanKind o)) ∷ (InitialValues o (is ((ListTimes o 2 (is ((Value (Called o (codes "ODD") (es ((Literal o (Integer 7)) ∷ [])))) ∷ []))) ∷ []))) ∷ [])) ∷ [])) ∷ (Declare o ([]) ((declared_of (nm (codes "T")) ((Dimensions o (es ((Literal o (Integer 2)) ∷ (Literal o (Integer 1)) ∷ (Literal o (Integer 2)) ∷ []))) ∷ (Typed (IntegerKind o)) ∷ (Marked o Single) ∷ [])) ∷ [])) ∷ (Declare o ([]) ((declared_of (nm (codes "Z")) ((Typed (StructureKind o (codes "S") None)) ∷ (InitialValues o (is ((Value (Sum o None (Literal o (Integer 2)) (ts ((Plus, (Literal o (Integer 1))) ∷ [])))) ∷ (Value (Called o (codes "SHL") (es ((Literal o (Integer 1)) ∷ (Literal o (Integer 7)) ∷ [])))) ∷ (Value (Called o (codes "MOD") (es ((Sum o (Some Minus) (Literal o (Integer 12)) (ts ([]))) ∷ (Literal o (Integer 7)) ∷ [])))) ∷ (Value (Literal o (Integer 100))) ∷ (Value (Literal o (Text (codes "A")))) ∷ []))) ∷ [])) ∷ [])) ∷ (Declare o ([]) ((declared_of (nm (codes "N")) ((Typed (BitKind o (Literal o (Integer 32)))) ∷ (InitialValues o (is ((Value (Not o (Literal o Off))) ∷ []))) ∷ [])) ∷ [])) ∷ (Declare o ([]) ((declared_of (nm (codes "I")) ((Typed (IntegerKind o)) ∷ [])) ∷ [])) ∷ []) (el ((inl (BlockOf (nm (codes "Q2")) (Procedure o ([]) ((nm (codes "B4")) ∷ (nm (codes "B5")) ∷ []) None) ((Declare o ([]) ((declared_of (nm (codes "B4")) ((Typed (IntegerKind o)) ∷ [])) ∷ [])) ∷ (Declare o ([]) ((declared_of (nm (codes "B5")) ((Typed (StructureKind o (codes "S") None)) ∷ [])) ∷ [])) ∷ []) (el ((inr (Labelled ([]) (Assignment o ((Refers o (codes "Z") ((nm (codes "C")) ∷ []) (ByParts o (ss ([])) (ss ([])) (ss ((One (FromBeginning (Literal o (Integer 3)))) ∷ [])))) ∷ []) (Called o (codes "INDEX") (es ((Cat o (Convert o ToInteger (Convert o ToText (Referred (Refers o (codes "B4") ([]) Unsubscripted)))) (es ((Called o (codes "RJUST") (es ((Referred (Refers o (codes "B5") ((nm (codes "G")) ∷ (nm (codes "C3")) ∷ []) (ByParts o (ss ([])) (ss ([])) (ss ((Every o) ∷ []))))) ∷ (Literal o (Integer 8)) ∷ []))) ∷ []))) ∷ (Referred (Refers o (codes "Z") ((nm (codes "G")) ∷ (nm (codes "C3")) ∷ []) Unsubscripted)) ∷ [])))))) ∷ (inr (Labelled ([]) (Assignment o ((Refers o (codes "N") ([]) Unsubscripted) ∷ []) (Referred (Refers o (codes "B") ([]) (ByParts o (ss ([])) (ss ((One (FromEnd o (ts ([])))) ∷ [])) (ss ((One (FromBeginning (Sum o None (Called o (codes "MOD") (es ((Referred (Refers o (codes "B5") ((nm (codes "C")) ∷ []) (ByParts o (ss ([])) (ss ([])) (ss ((One (FromBeginning (Literal o (Integer 1)))) ∷ []))))) ∷ (Literal o (Integer 1)) ∷ []))) (ts ((Plus, (Literal o (Integer 1))) ∷ []))))) ∷ [])))))))) ∷ [])) (Some (nm (codes "Q2"))))) ∷ (inr (Labelled ([]) (Write o (Referred (Refers o (codes "OUT") ([]) Unsubscripted)) (es ((Called o (codes "ODD") (es ((Power o (Referred (Refers o (codes "Z") ((nm (codes "G")) ∷ (nm (codes "C2")) ∷ []) Unsubscripted)) (Literal o (Integer 2))) ∷ []))) ∷ (Called o (codes "I") (es ((Literal o (Integer 2)) ∷ []))) ∷ []))))) ∷ (inr (Labelled ([]) (Assignment o ((Refers o (codes "Z") ((nm (codes "G")) ∷ (nm (codes "C3")) ∷ []) Unsubscripted) ∷ []) (Called o (codes "TRIM") (es ((Cat o (Literal o (Integer 2)) (es ((Referred (Refers o (codes "Z") ((nm (codes "G")) ∷ (nm (codes "C3")) ∷ []) (ByParts o (ss ([])) (ss ([])) (ss ((One (FromBeginning (Literal o (Integer 1)))) ∷ []))))) ∷ (Product o (Referred (Refers o (codes "T") ([]) (ByParts o (ss ([])) (ss ([])) (ss ((One (FromBeginning (Literal o (Integer 2)))) ∷ (One (FromBeginning (Literal o (Integer 1)))) ∷ (One (FromBeginning (Literal o (Integer 1)))) ∷ []))))) (es ((Literal o (Integer 1)) ∷ []))) ∷ []))) ∷ [])))))) ∷ (inr (Labelled ([]) (Write o (Product o (Literal o (Integer 2)) (es ((Literal o (Integer 3)) ∷ []))) (es ((Literal o (Integer 1)) ∷ (Called o (codes "SIZE") (es ((Referred (Refers o (codes "Z") ((nm (codes "C")) ∷ []) Unsubscripted)) ∷ []))) ∷ (Referred (Refers o (codes "K") ([]) (ByParts o (ss ([])) (ss ([])) (ss ((One (FromBeginning (Sum o None (Called o (codes "MOD") (es ((Convert o ToInteger (Referred (Refers o (codes "N") ([]) Unsubscripted))) ∷ (Literal o (Integer 2)) ∷ []))) (ts ((Plus, (Literal o (Integer 1))) ∷ []))))) ∷ (One (FromBeginning (Literal o (Integer 1)))) ∷ (One (FromBeginning (Sum o None (Called o (codes "MOD") (es ((Sum o None (Literal o (Integer 2)) (ts ((Minus, (Literal o (Integer 2147483647))) ∷ []))) ∷ (Literal o (Integer 2)) ∷ []))) (ts ((Plus, (Literal o (Integer 1))) ∷ []))))) ∷ []))))) ∷ []))))) ∷ (inr (Labelled ([]) (Assignment o ((Refers o (codes "Z") ((nm (codes "G")) ∷ (nm (codes "C3")) ∷ []) Unsubscripted) ∷ []) (Referred (Refers o (codes "Z") ((nm (codes "G")) ∷ (nm (codes "C3")) ∷ []) (ByParts o (ss ([])) (ss ([])) (ss ((One (FromEnd o (ts ((Minus, (Literal o (Integer 40))) ∷ [])))) ∷ [])))))))) ∷ (inr (Labelled ([]) (Write o (Literal o (Integer 6)) (es ((Referred (Refers o (codes "K") ([]) (ByParts o (ss ([])) (ss ([])) (ss ((One (FromBeginning (Literal o (Integer 1)))) ∷ (One (FromBeginning (Literal o (Integer 1)))) ∷ (One (FromBeginning (Literal o (Integer 2)))) ∷ []))))) ∷ (Referred (Refers o (codes "N") ([]) Unsubscripted)) ∷ []))))) ∷ (inl (BlockOf (nm (codes "Q")) (Procedure o ([]) ((nm (codes "B2")) ∷ (nm (codes "B3")) ∷ []) (Some (Reentrant o))) ((Declare o ([]) ((declared_of (nm (codes "B2")) ((Dimensions o (es ((Literal o (Integer 3)) ∷ []))) ∷ (Typed (IntegerKind o)) ∷ [])) ∷ (declared_of (nm (codes "B3")) ((Typed (IntegerKind o)) ∷ [])) ∷ [])) ∷ []) (el ((inr (Labelled ([]) (If o (And o (Parenthesis o (Compare o (Literal o (Integer 4)) AtLeast (Referred (Refers o (codes "T") ([]) (ByParts o (ss ([])) (ss ([])) (ss ((One (FromBeginning (Literal o (Integer 2)))) ∷ (One (FromBeginning (Literal o (Integer 1)))) ∷ (One (FromBeginning (Literal o (Integer 2)))) ∷ []))))))) (es ((Parenthesis o (Compare o (Referred (Refers o (codes "Z") ((nm (codes "C")) ∷ []) (ByParts o (ss ([])) (ss ([])) (ss ((One (FromBeginning (Literal o (Integer 3)))) ∷ []))))) AtMost (Referred (Refers o (codes "T") ([]) (ByParts o (ss ([])) (ss ([])) (ss ((One (FromBeginning (Literal o (Integer 2)))) ∷ (One (FromBeginning (Literal o (Integer 1)))) ∷ (One (FromBeginning (Literal o (Integer 1)))) ∷ []))))))) ∷ []))) (Labelled ([]) (Return o None)) NoAlternative))) ∷ [])) None)) ∷ [])) (Some (nm (codes "P"))))) ∷ [])

abbrev Says5 : Type 0
Says5 = reported 400 row5 ((line.Run 600) ∷ []) ≡ codes "6: 0 0\n6: 1 3 1\nend P 0 error 1:4 0\nP.B$(1) = 1\nP.B$(2) = 1\nP.T$(1,1,1) = 0\nP.T$(1,1,2) = 0\nP.T$(2,1,1) = 0\nP.T$(2,1,2) = 0\nP.Z.C$(1) = 3\nP.Z.C$(2) = 128\nP.Z.C$(3) = 2\nP.Z.G.C2 = 100\nP.Z.G.C3 = '2A0'\nP.N = 00000000000000000000000000000001\nP.I = 0\n"

-- statements 121: FUNCTION EXCLUSIVE, REPEAT, DO UNTIL, text component at
abbrev row6 : List File
row6 = ((file_of ([]) (BlockOf (nm (codes "P")) (Program o) ((Structure o (nm (codes "S")) ((part_of o 1 (nm (codes "C")) ((Typed (IntegerKind o)) ∷ [])) ∷ (part_of o 1 (nm (codes "C2")) ((Typed (IntegerKind o)) ∷ [])) ∷ [])) ∷ (Declare o ([]) ((declared_of (nm (codes "N")) ((Dimensions o (es ((Literal o (Integer 2)) ∷ (Literal o (Integer 3)) ∷ []))) ∷ (Typed (CharacterKind o (Literal o (Integer 10)))) ∷ [])) ∷ [])) ∷ (Declare o ([]) ((declared_of (nm (codes "R")) ((Typed (BitKind o (Literal o (Integer 4)))) ∷ (InitialValues o (is ((Value (Convert o ToBits (Literal o (Integer 255)))) ∷ []))) ∷ [])) ∷ (declared_of (nm (codes "Z")) ((Typed (StructureKind o (codes "S") (Some (Literal o (Integer 2))))) ∷ [])) ∷ [])) ∷ (Declare o ([]) ((declared_of (nm (codes "I")) ((Typed (IntegerKind o)) ∷ [])) ∷ [])) ∷ (Declare o ([]) ((declared_of (nm (codes "I2")) ((Typed (IntegerKind o)) ∷ [])) ∷ [])) ∷ []) (el ((inr (Labelled ([]) (Assignment o ((Refers o (codes "R") ([]) Unsubscripted) ∷ (Refers o (codes "R") ([]) (ByParts o (ss ([])) (ss ([])) (ss ((Range (FromBeginning (Literal o (Integer 3))) (FromBeginning (Literal o (Integer 4)))) ∷ [])))) ∷ (Refers o (codes "R") ([]) Unsubscripted) ∷ []) (Referred (Refers o (codes "R") ([]) Unsubscripted))))) ∷ (inr (Labelled ([]) (Write o (Literal o (Integer 6)) (es ((Referred (Refers o (codes "I2") ([]) Unsubscripted)) ∷ (Referred (Refers o (codes "Z") ((nm (codes "C")) ∷ []) (ByParts o (ss ((One (FromBeginning (Literal o (Integer 1)))) ∷ [])) (ss ([])) (ss ([]))))) ∷ []))))) ∷ (inr (Labelled ([]) (If o (Parenthesis o (Convert o ToBits (Referred (Refers o (codes "Z") ((nm (codes "C2")) ∷ []) (ByParts o (ss ((One (FromBeginning (Literal o (Integer 2)))) ∷ [])) (ss ([])) (ss ([]))))))) (Labelled ([]) (Do o (Groups (st ((Labelled ([]) (Assignment o ((Refers o (codes "I") ([]) Unsubscripted) ∷ []) (Literal o (Integer 0)))) ∷ (Labelled ([]) (DoLoop o (Until o (Compare o (Referred (Refers o (codes "I") ([]) Unsubscripted)) AtLeast (Literal o (Integer 2)))) (Groups (st ((Labelled ([]) (Assignment o ((Refers o (codes "I") ([]) Unsubscripted) ∷ []) (Sum o None (Referred (Refers o (codes "I") ([]) Unsubscripted)) (ts ((Plus, (Literal o (Integer 1))) ∷ []))))) ∷ (Labelled ([]) (Assignment o ((Refers o (codes "Z") ((nm (codes "C")) ∷ []) (ByParts o (ss ((One (FromBeginning (Sum o None (Called o (codes "MOD") (es ((Referred (Refers o (codes "F") ([]) Unsubscripted)) ∷ (Literal o (Integer 2)) ∷ []))) (ts ((Plus, (Literal o (Integer 1))) ∷ []))))) ∷ [])) (ss ([])) (ss ([])))) ∷ []) (Called o (codes "SHR") (es ((Sum o None (Referred (Refers o (codes "F") ([]) Unsubscripted)) (ts ((Minus, (Literal o (Integer 4))) ∷ []))) ∷ (Literal o (Integer 0)) ∷ []))))) ∷ (Labelled ([]) (If o (Compare o (Literal o (Integer 7)) Greater (Literal o (Integer 100))) (Labelled ([]) (Repeat o None)) NoAlternative)) ∷ [])) None))) ∷ [])) None))) NoAlternative))) ∷ (inr (Labelled ([]) (Write o (Literal o (Integer 6)) (es ((Referred (Refers o (codes "I") ([]) Unsubscripted)) ∷ []))))) ∷ (inl (BlockOf (nm (codes "F")) (Function o ([]) (HasKind (IntegerKind o) None) (Some (Exclusive o))) ((Declare o ([]) ((declared_of (nm (codes "J")) ((Typed (IntegerKind o)) ∷ [])) ∷ [])) ∷ []) (el ((inr (Labelled ([]) (Write o (Literal o (Integer 6)) (es ((Referred (Refers o (codes "N") ([]) (ByParts o (ss ([])) (ss ((One (FromBeginning (Literal o (Integer 2)))) ∷ (One (FromBeginning (Literal o (Integer 2)))) ∷ [])) (ss ((Portion (Literal o (Integer 1)) (FromEnd o (ts ([])))) ∷ []))))) ∷ (Referred (Refers o (codes "N") ([]) (ByParts o (ss ([])) (ss ([])) (ss ((One (FromEnd o (ts ((Minus, (Literal o (Integer 1))) ∷ [])))) ∷ (One (FromEnd o (ts ((Minus, (Literal o (Integer 1))) ∷ [])))) ∷ []))))) ∷ []))))) ∷ (inr (Labelled ([]) (Write o (Literal o (Integer 6)) (es ((Literal o (Integer 7)) ∷ (Cat o (Called o (codes "RJUST") (es ((Referred (Refers o (codes "N") ([]) (ByParts o (ss ([])) (ss ([])) (ss ((One (FromBeginning (Literal o (Integer 2)))) ∷ (One (FromBeginning (Literal o (Integer 1)))) ∷ []))))) ∷ (Literal o (Integer 8)) ∷ []))) (es ((Referred (Refers o (codes "N") ([]) (ByParts o (ss ([])) (ss ((One (FromBeginning (Sum o None (Called o (codes "MOD") (es ((Referred (Refers o (codes "Z") ((nm (codes "C2")) ∷ []) (ByParts o (ss ((One (FromBeginning (Literal o (Integer 1)))) ∷ [])) (ss ([])) (ss ([]))))) ∷ (Literal o (Integer 2)) ∷ []))) (ts ((Plus, (Literal o (Integer 1))) ∷ []))))) ∷ (One (FromBeginning (Sum o (Some Minus) (Literal o (Integer 1)) (ts ([]))))) ∷ [])) (ss ((One (FromBeginning (Literal o (Integer 1)))) ∷ []))))) ∷ []))) ∷ []))))) ∷ (inr (Labelled ([]) (If o (And o (Compare o (Literal o Off) NotEqual (Cat o (Referred (Refers o (codes "R") ([]) Unsubscripted)) (es ((Referred (Refers o (codes "R") ([]) Unsubscripted)) ∷ [])))) (es ((Compare o (Referred (Refers o (codes "I") ([]) Unsubscripted)) Equal (Sum o None (Literal o (Integer 2)) (ts ((Plus, (Referred (Refers o (codes "J") ([]) Unsubscripted))) ∷ [])))) ∷ (Compare o (Product o (Literal o (Integer 1000)) (es ((Referred (Refers o (codes "I2") ([]) Unsubscripted)) ∷ []))) NotGreater (Convert o ToInteger (Literal o On))) ∷ []))) (Labelled ([]) (Assignment o ((Refers o (codes "Z") ((nm (codes "C2")) ∷ []) (ByParts o (ss ((One (FromBeginning (Sum o None (Called o (codes "MOD") (es ((Product o (Referred (Refers o (codes "J") ([]) Unsubscripted)) (es ((Literal o (Integer 1)) ∷ []))) ∷ (Literal o (Integer 2)) ∷ []))) (ts ((Plus, (Literal o (Integer 1))) ∷ []))))) ∷ [])) (ss ([])) (ss ([])))) ∷ (Refers o (codes "Z") ((nm (codes "C2")) ∷ []) (ByParts o (ss ((One (FromBeginning (Sum o None (Called o (codes "MOD") (es ((Called o (codes "SIZE") (es ((Referred (Refers o (codes "N") ([]) Unsubscripted)) ∷ []))) ∷ (Literal o (Integer 2)) ∷ []))) (ts ((Plus, (Literal o (Integer 1))) ∷ []))))) ∷ [])) (ss ([])) (ss ([])))) ∷ (Refers o (codes "Z") ((nm (codes "C")) ∷ []) (ByParts o (ss ((One (FromEnd o (ts ((Minus, (Literal o (Integer 1))) ∷ [])))) ∷ [])) (ss ([])) (ss ([])))) ∷ []) (Convert o ToInteger (Literal o (Text (codes "-007")))))) (Otherwise (Labelled ([]) (If o (Or o (Called o (codes "ODD") (es ((Literal o (Integer 5)) ∷ []))) (es ((Convert o ToBits (Literal o (Integer 4))) ∷ []))) (Labelled ([]) (Write o (Literal o (Integer 6)) (es ((Literal o Off) ∷ [])))) NoAlternative)))))) ∷ (inr (Labelled ([]) (Return o (Some (Called o (codes "MOD") (es ((Sum o None (Referred (Refers o (codes "I") ([]) Unsubscripted)) (ts ((Minus, (Referred (Refers o (codes "I") ([]) Unsubscripted))) ∷ []))) ∷ (Literal o (Integer 7)) ∷ []))))))) ∷ [])) (Some (nm (codes "F"))))) ∷ [])) (Some (nm (codes "P"))))) ∷ [])

abbrev Says6 : Type 0
Says6 = reported 400 row6 ((line.Run 600) ∷ []) ≡ codes "6: 0 0\n6: 0\nend P 0 closed 1\nP.N$(1,1) = ''\nP.N$(1,2) = ''\nP.N$(1,3) = ''\nP.N$(2,1) = ''\nP.N$(2,2) = ''\nP.N$(2,3) = ''\nP.R = 1111\nP.Z.C$(1;) = 0\nP.Z.C2$(1;) = 0\nP.Z.C$(2;) = 0\nP.Z.C2$(2;) = 0\nP.I = 0\nP.I2 = 0\nP.F.J = 0\n"

-- statements 181: DO FOR TEMPORARY TO, RETURN, CALL ASSIGN, DO FOR BY
abbrev row7 : List File
row7 = ((file_of ([]) (BlockOf (nm (codes "P")) (Program o) ((Declare o ([]) ((declared_of (nm (codes "R")) ((Typed (BitKind o (Literal o (Integer 4)))) ∷ (InitialValues o (is ((Value (Convert o ToBits (Literal o (Integer 255)))) ∷ []))) ∷ [])) ∷ (declared_of (nm (codes "B")) ((Typed (IntegerKind o)) ∷ [])) ∷ [])) ∷ (Declare o ([]) ((declared_of (nm (codes "N")) ((Dimensions o (es ((Literal o (Integer 3)) ∷ []))) ∷ (Typed (CharacterKind o (Literal o (Integer 4)))) ∷ (InitialValues o (is ((Value (Convert o ToText (Literal o (Integer 7)))) ∷ []))) ∷ [])) ∷ [])) ∷ (Declare o ([]) ((declared_of (nm (codes "I")) ((Typed (IntegerKind o)) ∷ [])) ∷ [])) ∷ (Declare o ([]) ((declared_of (nm (codes "I2")) ((Typed (IntegerKind o)) ∷ [])) ∷ [])) ∷ []) (el ((inr (Labelled ((nm (codes "L2")) ∷ []) (Do o (Groups (st ((Labelled ([]) (Call o (nm (codes "Q")) (es ([])) ((Refers o (codes "N") ([]) (ByParts o (ss ([])) (ss ([])) (ss ((One (FromBeginning (Literal o (Integer 1)))) ∷ [])))) ∷ []))) ∷ (Labelled ([]) (If o (Compare o (Literal o (Integer 12)) NotGreater (Sum o None (Referred (Refers o (codes "B") ([]) Unsubscripted)) (ts ((Plus, (Referred (Refers o (codes "B") ([]) Unsubscripted))) ∷ [])))) (Labelled ([]) (Return o None)) NoAlternative)) ∷ [])) (Some (nm (codes "L2"))))))) ∷ (inr (Labelled ([]) (Assignment o ((Refers o (codes "N") ([]) (ByParts o (ss ([])) (ss ([])) (ss ((One (FromBeginning (Sum o None (Called o (codes "MOD") (es ((Sum o None (Literal o (Integer 7)) (ts ((Minus, (Literal o (Integer 10))) ∷ []))) ∷ (Literal o (Integer 3)) ∷ []))) (ts ((Plus, (Literal o (Integer 1))) ∷ []))))) ∷ [])))) ∷ []) (Called o (codes "SHL") (es ((Sum o None (Referred (Refers o (codes "B") ([]) Unsubscripted)) (ts ((Minus, (Referred (Refers o (codes "B") ([]) Unsubscripted))) ∷ []))) ∷ (Literal o (Integer 0)) ∷ [])))))) ∷ (inr (Labelled ([]) (Call o (nm (codes "Q")) (es ([])) ((Refers o (codes "N") ([]) (ByParts o (ss ([])) (ss ([])) (ss ((One (FromBeginning (Literal o (Integer 2)))) ∷ [])))) ∷ [])))) ∷ (inr (Labelled ((nm (codes "M")) ∷ (nm (codes "L3")) ∷ []) (Do o (Groups (st ((Labelled ([]) (Assignment o ((Refers o (codes "N") ([]) (ByParts o (ss ([])) (ss ([])) (ss ((One (FromBeginning (Sum o None (Called o (codes "MOD") (es ((Sum o None (Referred (Refers o (codes "I2") ([]) Unsubscripted)) (ts ((Plus, (Literal o (Integer 12))) ∷ []))) ∷ (Literal o (Integer 3)) ∷ []))) (ts ((Plus, (Literal o (Integer 1))) ∷ []))))) ∷ [])))) ∷ []) (Called o (codes "ABS") (es ((Sum o None (Literal o (Integer 3)) (ts ((Plus, (Referred (Refers o (codes "B") ([]) Unsubscripted))) ∷ []))) ∷ []))))) ∷ [])) (Some (nm (codes "L3"))))))) ∷ (inr (Labelled ([]) (Write o (Literal o (Integer 6)) (es ((Referred (Refers o (codes "N") ([]) (ByParts o (ss ([])) (ss ([])) (ss ((One (FromBeginning (Literal o (Integer 2)))) ∷ []))))) ∷ (Referred (Refers o (codes "I") ([]) Unsubscripted)) ∷ (Referred (Refers o (codes "R") ([]) Unsubscripted)) ∷ []))))) ∷ (inr (Labelled ([]) (Write o (Literal o (Integer 6)) (es ((Called o (codes "INDEX") (es ((Called o (codes "TRIM") (es ((Literal o (Text (codes "+05"))) ∷ []))) ∷ (Called o (codes "RJUST") (es ((Referred (Refers o (codes "N") ([]) (ByParts o (ss ([])) (ss ([])) (ss ((One (FromBeginning (Literal o (Integer 3)))) ∷ []))))) ∷ (Literal o (Integer 5)) ∷ []))) ∷ []))) ∷ []))))) ∷ (inl (BlockOf (nm (codes "Q")) (Procedure o ([]) ((nm (codes "B2")) ∷ []) None) ((Declare o ([]) ((declared_of (nm (codes "B2")) ((Typed (CharacterKind o (Literal o (Integer 4)))) ∷ [])) ∷ [])) ∷ (Declare o ([]) ((declared_of (nm (codes "J")) ((Typed (IntegerKind o)) ∷ [])) ∷ [])) ∷ []) (el ((inr (Labelled ((nm (codes "L")) ∷ []) (DoFor o true (nm (codes "X")) (Stepped (Literal o (Integer 2)) (Literal o (Integer 1)) (Some (Sum o (Some Minus) (Literal o (Integer 1)) (ts ([]))))) None (Groups (st ((Labelled ([]) (DoFor o false (nm (codes "J")) (Stepped (Literal o (Integer 2)) (Literal o (Integer 1)) None) None (Groups (st ((Labelled ([]) (Assignment o ((Refers o (codes "X") ([]) Unsubscripted) ∷ (Refers o (codes "X") ([]) Unsubscripted) ∷ (Refers o (codes "X") ([]) Unsubscripted) ∷ []) (Parenthesis o (Called o (codes "MOD") (es ((Sum o None (Referred (Refers o (codes "I") ([]) Unsubscripted)) (ts ((Plus, (Literal o (Integer 7))) ∷ []))) ∷ (Literal o (Integer 65536)) ∷ [])))))) ∷ [])) None))) ∷ (Labelled ([]) (Assignment o ((Refers o (codes "N") ([]) (ByInteger o o 1)) ∷ (Refers o (codes "B2") ([]) Unsubscripted) ∷ (Refers o (codes "B2") ([]) (ByParts o (ss ([])) (ss ([])) (ss ((One (FromBeginning (Literal o (Integer 1)))) ∷ [])))) ∷ []) (Called o (codes "LJUST") (es ((Cat o (Referred (Refers o (codes "B2") ([]) Unsubscripted)) (es ((Referred (Refers o (codes "X") ([]) Unsubscripted)) ∷ []))) ∷ (Literal o (Integer 100)) ∷ []))))) ∷ [])) (Some (nm (codes "L"))))))) ∷ [])) (Some (nm (codes "Q"))))) ∷ [])) (Some (nm (codes "P"))))) ∷ [])

abbrev Says7 : Type 0
Says7 = reported 400 row7 ((line.Run 600) ∷ []) ≡ codes "6: 72   0 1111\n6: 0\nend P 0 closed 1\nP.R = 1111\nP.B = 0\nP.N$(1) = '3'\nP.N$(2) = '72  '\nP.N$(3) = '7'\nP.I = 0\nP.I2 = 0\nP.Q.J = 2\n"

-- statements 251: PREEMPT, FUNCTION REENTRANT, operation >, TICK
abbrev row8 : List File
row8 = ((file_of ([]) (BlockOf (nm (codes "P")) (Program o) ((Declare o ([]) ((declared_of (nm (codes "K")) ((Typed (IntegerKind o)) ∷ (ConstantValues o (is ((Value (Sum o (Some Minus) (Literal o (Integer 2)) (ts ([])))) ∷ []))) ∷ [])) ∷ [])) ∷ (Declare o ([]) ((declared_of (nm (codes "N")) ((Dimensions o (es ((Literal o (Integer 2)) ∷ []))) ∷ (Typed (IntegerKind o)) ∷ [])) ∷ [])) ∷ (Declare o ([]) ((declared_of (nm (codes "R2")) ((Typed (CharacterKind o (Literal o (Integer 6)))) ∷ (InitialValues o (is ((Value (Literal o (Text (codes "")))) ∷ []))) ∷ [])) ∷ (declared_of (nm (codes "B")) ((Typed (IntegerKind o)) ∷ [])) ∷ (declared_of (nm (codes "R")) ((Typed (BitKind o (Literal o (Integer 4)))) ∷ (InitialValues o (is ((Value (Convert o ToBits (Literal o (Integer 255)))) ∷ []))) ∷ [])) ∷ [])) ∷ (Declare o ([]) ((declared_of (nm (codes "I")) ((Typed (IntegerKind o)) ∷ [])) ∷ [])) ∷ (Declare o ([]) ((declared_of (nm (codes "I2")) ((Typed (IntegerKind o)) ∷ [])) ∷ [])) ∷ []) (el ((inr (Labelled ([]) (Write o (Literal o (Integer 6)) (es ((Not o (Parenthesis o (Cat o (Referred (Refers o (codes "R") ([]) Unsubscripted)) (es ((Referred (Refers o (codes "R") ([]) Unsubscripted)) ∷ []))))) ∷ (Referred (Refers o (codes "R") ([]) Unsubscripted)) ∷ []))))) ∷ (inr (Labelled ([]) (Assignment o ((Refers o (codes "R") ([]) Unsubscripted) ∷ (Refers o (codes "R") ([]) (ByParts o (ss ([])) (ss ([])) (ss ((Range (FromBeginning (Literal o (Integer 2))) (FromBeginning (Literal o (Integer 3)))) ∷ [])))) ∷ (Refers o (codes "R") ([]) Unsubscripted) ∷ []) (Convert o ToBits (Referred (Refers o (codes "I2") ([]) Unsubscripted)))))) ∷ (inr (Labelled ([]) (Assignment o ((Refers o (codes "R") ([]) Unsubscripted) ∷ []) (Literal o (Bits 1 1))))) ∷ (inr (Labelled ((nm (codes "M")) ∷ []) (Write o (Literal o (Integer 6)) (es ((Referred (Refers o (codes "K") ([]) Unsubscripted)) ∷ []))))) ∷ (inr (Labelled ([]) (Assignment o ((Refers o (codes "R") ([]) Unsubscripted) ∷ []) (Referred (Refers o (codes "R") ([]) (ByParts o (ss ([])) (ss ([])) (ss ((One (FromBeginning (Literal o (Integer 1)))) ∷ [])))))))) ∷ (inr (Labelled ([]) (Assignment o ((Refers o (codes "R") ([]) (ByParts o (ss ([])) (ss ([])) (ss ((Portion (Literal o (Integer 1)) (FromBeginning (Literal o (Integer 1)))) ∷ [])))) ∷ []) (Cat o (Referred (Refers o (codes "R") ([]) Unsubscripted)) (es ((Called o (codes "ODD") (es ((Called o (codes "LENGTH") (es ((Referred (Refers o (codes "R2") ([]) Unsubscripted)) ∷ []))) ∷ []))) ∷ [])))))) ∷ (inr (Labelled ([]) (Write o (Product o (Literal o (Integer 2)) (es ((Literal o (Integer 3)) ∷ []))) (es ((Referred (Refers o (codes "N") ([]) (ByParts o (ss ([])) (ss ([])) (ss ((One (FromBeginning (Literal o (Integer 1)))) ∷ []))))) ∷ (Sum o None (Referred (Refers o (codes "N") ([]) (ByParts o (ss ([])) (ss ([])) (ss ((One (FromBeginning (Sum o None (Called o (codes "MOD") (es ((Referred (Refers o (codes "N") ([]) (ByParts o (ss ([])) (ss ([])) (ss ((One (FromBeginning (Literal o (Integer 2)))) ∷ []))))) ∷ (Literal o (Integer 2)) ∷ []))) (ts ((Plus, (Literal o (Integer 1))) ∷ []))))) ∷ []))))) (ts ((Minus, (Literal o (Integer 32767))) ∷ []))) ∷ []))))) ∷ (inr (Labelled ([]) (If o (Or o (Compare o (Convert o ToInteger (Literal o (Text (codes "12")))) Equal (Called o (codes "I") (es ((Referred (Refers o (codes "I2") ([]) Unsubscripted)) ∷ [])))) (es ((Compare o (Convert o ToInteger (Literal o (Text (codes "12")))) Greater (Literal o (Integer 1))) ∷ []))) (Labelled ([]) (Assignment o ((Refers o (codes "R") ([]) Unsubscripted) ∷ (Refers o (codes "R") ([]) Unsubscripted) ∷ []) (And o (Called o (codes "ODD") (es ((Referred (Refers o (codes "I2") ([]) Unsubscripted)) ∷ []))) (es ((Cat o (Referred (Refers o (codes "R") ([]) Unsubscripted)) (es ((Convert o ToBits (Referred (Refers o (codes "B") ([]) Unsubscripted))) ∷ []))) ∷ []))))) NoAlternative))) ∷ (inl (BlockOf (nm (codes "F")) (Function o ([]) (HasKind (IntegerKind o) None) (Some (Reentrant o))) ([]) (el ((inr (Labelled ([]) (Assignment o ((Refers o (codes "R2") ([]) (ByParts o (ss ([])) (ss ([])) (ss ((Range (FromBeginning (Literal o (Integer 1))) (FromBeginning (Literal o (Integer 1)))) ∷ [])))) ∷ []) (Called o (codes "LJUST") (es ((Cat o (Convert o ToText (Referred (Refers o (codes "K") ([]) Unsubscripted))) (es ((Referred (Refers o (codes "N") ([]) (ByParts o (ss ([])) (ss ([])) (ss ((One (FromBeginning (Literal o (Integer 1)))) ∷ []))))) ∷ []))) ∷ (Literal o (Integer 2)) ∷ [])))))) ∷ (inr (Labelled ([]) (Return o (Some (Sum o None (Product o (Referred (Refers o (codes "I") ([]) Unsubscripted)) (es ((Literal o (Integer 1)) ∷ []))) (ts ((Plus, (Called o (codes "I") (es ((Referred (Refers o (codes "I") ([]) Unsubscripted)) ∷ [])))) ∷ []))))))) ∷ [])) (Some (nm (codes "F"))))) ∷ [])) (Some (nm (codes "P"))))) ∷ [])

abbrev Says8 : Type 0
Says8 = reported 400 row8 ((line.Run 5) ∷ (line.Tick 1000) ∷ (line.Preempt (codes "P")) ∷ (line.Run 600) ∷ []) ≡ codes "6: 00000000 1111\n6: -2\n6: 0 -32767\nend P 0 closed 1\nP.N$(1) = 0\nP.N$(2) = 0\nP.R2 = ''\nP.B = 0\nP.R = 0000\nP.I = 0\nP.I2 = 0\n"

pub all_say : Says1 × Says2 × Says3 × Says4 × Says5 × Says6 × Says7 × Says8
unfolding digits words_reserved.reserved_words words_reserved.left_out_words phrases_gathereddeclarations.gathered_kind phrases_gathereddeclarations.gathered_initial phrases_gathereddeclarations.gathered_initials phrases_gathereddeclarations.gathered_attribute phrases_gathereddeclarations.gathered_item phrases_gathereddeclarations.still_open phrases_gathereddeclarations.innermost phrases_gathereddeclarations.is_bottom phrases_gathereddeclarations.gathered_part phrases_gathereddeclarations.gathered_parts phrases_gathereddeclarations.gathered_declaration phrases_gatheredexpressions.gathered phrases_gatheredexpressions.gathered_all phrases_gatheredexpressions.gathered_terms phrases_gatheredexpressions.gathered_reference phrases_gatheredexpressions.gathered_subscript phrases_gatheredexpressions.gathered_subs phrases_gatheredexpressions.gathered_sub phrases_gatheredexpressions.gathered_position phrases_gatheredstatements.gathered_guard phrases_gatheredstatements.gathered_span phrases_gatheredstatements.gathered_start phrases_gatheredstatements.gathered_cycle phrases_gatheredstatements.gathered_limit phrases_gatheredstatements.gathered_schedule phrases_gatheredstatements.begun_for phrases_gatheredstatements.around_for phrases_gatheredstatements.gathered_statement phrases_gatheredstatements.gathered_basic phrases_gatheredstatements.gathered_alternative phrases_gatheredstatements.gathered_group phrases_gatheredstatements.gathered_statements phrases_gatheredunits.gathered_returns phrases_gatheredunits.gathered_head phrases_gatheredunits.gathered_block phrases_gatheredunits.gathered_elements phrases_gatheredunits.around_template phrases_gatheredunits.gathered_template phrases_gatheredunits.gathered_preface phrases_gatheredunits.gathered_prefaces phrases_gatheredunits.name_of_block phrases_gatheredunits.gathered_file phrases_gatheredunits.phrases_of phrases_members.gathered_member phrases_members.gathered_members names_declarations.is_declaring names_declarations.with_places names_declarations.with_all_chosen names_keys.declared_at names_keys.same_space names_keys.same_key names_keys.own names_means.is_compool_unit names_means.unit_named names_means.given_by names_means.shown names_means.shown_by names_means.included names_means.included_before names_means.prefaces_of names_means.nearest names_tasks.with_homes scope_builtins.builtins scope_components.has_path scope_components.is_structure scope_components.type_has scope_components.has_component scope_components.lacks_in scope_components.lacks scope_labels.is_label_of scope_labels.misclosed scope_labels.is_loop scope_labels.group_around scope_labels.misled scope_labels.astray scope_repeated.given scope_repeated.is_of_block scope_repeated.twice scope_repeated.declares_one_there scope_repeated.declarations_of scope_repeated.included_twice scope_repeated.is_item scope_repeated.undeclared scope_rules.fault scope_rules.first_fault scope_sorts.type_in scope_sorts.type_among scope_sorts.sort_of_type scope_sorts.sort_of_head scope_sorts.sort_of scope_sorts.usage_of scope_sorts.use_of_reference scope_sorts.used scope_uses.unknown scope_uses.is_eventful scope_uses.is_nil scope_uses.refers_to_event scope_uses.holds_event scope_uses.hold_event scope_uses.limit_of scope_uses.limit_around scope_uses.misused kinds_attributes.count_of kinds_attributes.no_more kinds_attributes.sizes_in kinds_attributes.sizes_among kinds_attributes.initial_in kinds_attributes.initial_among kinds_attributes.constant_in kinds_attributes.constant_among kinds_attributes.same_mark kinds_attributes.is_mark kinds_classes.class_of_result kinds_classes.class_of_returns kinds_classes.class_of_head kinds_classes.class_of_form kinds_classes.class_of_builtin kinds_classes.class_at kinds_classes.class_of_reference kinds_classes.class_of_function kinds_classes.class_of_called_head kinds_classes.class_of_called kinds_classes.class_of_literal kinds_classes.class_of_conversion kinds_classes.beside kinds_classes.joined kinds_classes.enclosed kinds_classes.class_of kinds_classes.class_beside kinds_classes.class_joined kinds_data.class_of_type kinds_data.has_copies kinds_data.dimensions_of kinds_data.data_of kinds_data.part_data kinds_data.part_under kinds_data.data_at_part kinds_data.component_of kinds_data.component_data kinds_data.data_at kinds_data.is_event_type kinds_data.is_structure_type kinds_subscripts.subscript_count kinds_subscripts.is_many kinds_subscripts.are_many kinds_subscripts.parts_chosen kinds_subscripts.choice_of kinds_subscripts.is_structure_class constants_constants.operation_of_sign constants_constants.signed constants_constants.operation_of_conversion constants_constants.raised_to constants_constants.raised constants_constants.is_none constants_constants.factor_at constants_constants.constant_of constants_constants.folded constants_constants.summed constants_constants.computed constants_constants.computed_second constants_constants.multiplied constants_constants.referred constants_constants.subscripted constants_constants.component_of constants_constants.component_by constants_constants.place_of constants_known.size_of_integer constants_known.size_of_value constants_known.size_of constants_known.bits_kind constants_known.text_kind constants_known.kind_of constants_known.kind_of_type constants_known.gives_none constants_known.give_none constants_known.only_of constants_known.only_with constants_known.kept constants_known.fitted constants_known.only_in constants_known.declared_value constants_known.round constants_known.is_file constants_known.is_pooled constants_known.rounds constants_naming.constant_known constants_naming.constant_at constants_naming.literal_constant constants_naming.operation_of constants_operands.takes_one constants_operands.takes_two constants_operands.is_storable constants_operands.has_components constants_results.worth constants_results.worse constants_results.apply_one constants_results.apply_two constants_results.component_at constants_results.component_to constants_results.component_from constants_results.picked_one constants_results.picked_to constants_results.picked_from states_ofkinds.is_of
all_say = (refl, refl, refl, refl, refl, refl, refl, refl)
