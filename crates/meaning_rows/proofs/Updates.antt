-- Rows of updates.txt, written by tools/meaning_rows.
use Rattle.std.specs.Prelude.{◌≡◌, ℕ, List, [], ◌∷◌, Option, Some, None, true, false, codes}
use Rattle.std.specs.Fmt.{digits}
use Rattle.std.proofs.Common.{refl, inl, inr}
use Rattle.hal_grammar.specs.Leaves.{Plus, Minus, Equal, Less, Greater, AtMost, AtLeast, NotEqual, NotLess, NotGreater, ToInteger, ToBits, ToText, Integer, Text, Bits, True, False, On, Off}
use Rattle.hal_grammar.specs.Expressions.{Or, And, Compare, Cat, Sum, Product, Power, Not, Literal, Decimal, Referred, Called, Convert, Parenthesis, Refers, Unsubscripted, ByName, ByInteger, ByParts, Every, One, Range, Portion, FromBeginning, FromEnd}
use Rattle.hal_grammar.specs.Declarations.{Single, Double, Latched, Static, Automatic, Dense, Aligned, IntegerKind, BooleanKind, EventKind, BitKind, CharacterKind, StructureKind, Value, LiteralTimes, NameTimes, ListTimes, Dimensions, Typed, Marked, LockGroup, LockAny, InitialValues, ConstantValues, declared_of, part_of, Declare, Structure}
use Rattle.hal_grammar.specs.Statements.{While, Until, Stepped, Listed, EveryError, GroupErrors, OneError, Signal, Set, Reset, eventful, System, Ignore, StartAt, StartIn, StartOn, Cyclic, CyclicEvery, CyclicAfter, scheduling, Labelled, Null, Assignment, If, Do, DoCase, DoLoop, DoFor, Exit, Repeat, Return, Call, Read, Write, Update, Scheduled, Cancel, Terminate, Wait, WaitUntil, WaitForDependent, WaitFor, Event, UpdatePriority, OnErrorStatement, OnErrorResponse, OffError, SendError, NoAlternative, Otherwise, Groups}
use Rattle.hal_grammar.specs.Units.{Reentrant, Exclusive, SinglePrecision, DoublePrecision, NoKind, HasKind, Program, Compool, Task, Procedure, Function, BlockOf, template_of, Include, Templates, File, file_of}
use Rattle.exec_model.specs.declared.script.ScriptLine.TheVariants as line
use Rattle.meaning_rows.specs.Trees.{o, nm, es, ts, ss, is, st, el}
use Rattle.meaning_rows.specs.Playing.{reported}
use Rattle.hal_words.specs.Reserved as words_reserved
use Rattle.hal_phrases.specs.GatheredDeclarations as phrases_gathereddeclarations
use Rattle.hal_phrases.specs.GatheredExpressions as phrases_gatheredexpressions
use Rattle.hal_phrases.specs.GatheredStatements as phrases_gatheredstatements
use Rattle.hal_phrases.specs.GatheredUnits as phrases_gatheredunits
use Rattle.hal_phrases.specs.Members as phrases_members
use Rattle.hal_names.specs.Declarations as names_declarations
use Rattle.hal_names.specs.Keys as names_keys
use Rattle.hal_names.specs.Means as names_means
use Rattle.hal_names.specs.Tasks as names_tasks
use Rattle.hal_scope.specs.Builtins as scope_builtins
use Rattle.hal_scope.specs.Components as scope_components
use Rattle.hal_scope.specs.Labels as scope_labels
use Rattle.hal_scope.specs.Repeated as scope_repeated
use Rattle.hal_scope.specs.Rules as scope_rules
use Rattle.hal_scope.specs.Sorts as scope_sorts
use Rattle.hal_scope.specs.Uses as scope_uses
use Rattle.hal_kinds.specs.Attributes as kinds_attributes
use Rattle.hal_kinds.specs.Classes as kinds_classes
use Rattle.hal_kinds.specs.Data as kinds_data
use Rattle.hal_kinds.specs.Subscripts as kinds_subscripts
use Rattle.hal_constants.specs.Constants as constants_constants
use Rattle.hal_constants.specs.Known as constants_known
use Rattle.hal_constants.specs.Naming as constants_naming
use Rattle.hal_constants.specs.Operands as constants_operands
use Rattle.hal_constants.specs.Results as constants_results
use Rattle.hal_states.specs.OfKinds as states_ofkinds

-- updates 3: ON ERROR IGNORE AND SET, n#(..), n#value, text component all
abbrev row1 : List File
row1 = ((file_of ([]) (BlockOf (nm (codes "P")) (Program o) ((Declare o ([]) ((declared_of (nm (codes "B")) ((Typed (CharacterKind o (Literal o (Integer 6)))) ∷ (InitialValues o (is ((Value (Literal o (Text (codes "LONGER TEXT")))) ∷ []))) ∷ [])) ∷ [])) ∷ (Declare o ([]) ((declared_of (nm (codes "R")) ((Typed (IntegerKind o)) ∷ (Marked o Single) ∷ [])) ∷ [])) ∷ (Declare o ([]) ((declared_of (nm (codes "R2")) ((Typed (BitKind o (Literal o (Integer 4)))) ∷ [])) ∷ [])) ∷ (Declare o ([]) ((declared_of (nm (codes "E")) ((Typed (EventKind o)) ∷ (Marked o Latched) ∷ [])) ∷ [])) ∷ (Declare o ([]) ((declared_of (nm (codes "I")) ((Typed (IntegerKind o)) ∷ [])) ∷ [])) ∷ (Declare o ([]) ((declared_of (nm (codes "I2")) ((Typed (IntegerKind o)) ∷ [])) ∷ [])) ∷ []) (el ((inr (Labelled ([]) (Scheduled o (scheduling (nm (codes "T")) None (Some (Literal o (Integer 40))) false (Some (CyclicEvery o (Literal o (Integer 1)))) None)))) ∷ (inr (Labelled ([]) (Scheduled o (scheduling (nm (codes "T2")) None (Some (Literal o (Integer 60))) true None None)))) ∷ (inr (Labelled ([]) (OnErrorResponse o (GroupErrors o o 1) Ignore (Some (eventful o Set (nm (codes "E"))))))) ∷ (inr (Labelled ([]) (Write o (Literal o (Integer 0)) (es ((Or o (Referred (Refers o (codes "R2") ([]) Unsubscripted)) (es ((Referred (Refers o (codes "T") ([]) Unsubscripted)) ∷ []))) ∷ (Referred (Refers o (codes "B") ([]) Unsubscripted)) ∷ (Referred (Refers o (codes "I") ([]) Unsubscripted)) ∷ (Referred (Refers o (codes "B") ([]) Unsubscripted)) ∷ []))))) ∷ (inr (Labelled ([]) (Write o (Literal o (Integer 0)) (es ((Convert o ToInteger (Referred (Refers o (codes "R2") ([]) Unsubscripted))) ∷ (Convert o ToText (And o (Referred (Refers o (codes "R2") ([]) Unsubscripted)) (es ((Literal o (Bits 6 15)) ∷ [])))) ∷ (Sum o None (Referred (Refers o (codes "I") ([]) Unsubscripted)) (ts ((Plus, (Literal o (Integer 1000))) ∷ (Plus, (Literal o (Integer 4))) ∷ []))) ∷ []))))) ∷ (inl (BlockOf (nm (codes "Q")) (Procedure o ((nm (codes "A")) ∷ []) ((nm (codes "B2")) ∷ []) (Some (Reentrant o))) ((Declare o ([]) ((declared_of (nm (codes "A")) ((Typed (IntegerKind o)) ∷ (Marked o Single) ∷ [])) ∷ [])) ∷ (Declare o ([]) ((declared_of (nm (codes "B2")) ((Typed (CharacterKind o (Literal o (Integer 6)))) ∷ [])) ∷ [])) ∷ (Declare o ([]) ((declared_of (nm (codes "V")) ((Typed (CharacterKind o (Literal o (Integer 3)))) ∷ (InitialValues o (is ((Value (Called o (codes "LJUST") (es ((Literal o (Text (codes "-7"))) ∷ (Literal o (Integer 4)) ∷ [])))) ∷ []))) ∷ [])) ∷ (declared_of (nm (codes "V2")) ((Dimensions o (es ((Literal o (Integer 2)) ∷ (Literal o (Integer 3)) ∷ []))) ∷ (Typed (BitKind o (Literal o (Integer 8)))) ∷ (Marked o Automatic) ∷ (InitialValues o (is ((ListTimes o 2 (is ((LiteralTimes o 2 None o (Bits 6 15)) ∷ (Value (Literal o (Bits 5 19))) ∷ []))) ∷ []))) ∷ [])) ∷ [])) ∷ []) (el ((inr (Labelled ([]) (Assignment o ((Refers o (codes "V") ([]) (ByParts o (ss ([])) (ss ([])) (ss ((Range (FromBeginning (Literal o (Integer 2))) (FromEnd o (ts ([])))) ∷ [])))) ∷ (Refers o (codes "B") ([]) Unsubscripted) ∷ []) (Cat o (Parenthesis o (Referred (Refers o (codes "V") ([]) Unsubscripted))) (es ((Parenthesis o (Cat o (Literal o (Integer 1000)) (es ((Referred (Refers o (codes "B") ([]) (ByParts o (ss ([])) (ss ([])) (ss ((One (FromEnd o (ts ((Minus, (Literal o (Integer 1))) ∷ [])))) ∷ []))))) ∷ [])))) ∷ (Literal o (Text (codes "A"))) ∷ [])))))) ∷ (inr (Labelled ([]) (Assignment o ((Refers o (codes "R2") ([]) Unsubscripted) ∷ (Refers o (codes "V2") ([]) (ByParts o (ss ([])) (ss ([])) (ss ((One (FromBeginning (Literal o (Integer 2)))) ∷ (One (FromEnd o (ts ((Minus, (Literal o (Integer 1))) ∷ [])))) ∷ [])))) ∷ (Refers o (codes "V2") ([]) (ByParts o (ss ([])) (ss ((One (FromEnd o (ts ([])))) ∷ (One (FromBeginning (Literal o (Integer 1)))) ∷ [])) (ss ((Range (FromBeginning (Literal o (Integer 6))) (FromBeginning (Literal o (Integer 6)))) ∷ [])))) ∷ []) (Called o (codes "XOR") (es ((Or o (Called o (codes "XOR") (es ((Referred (Refers o (codes "R2") ([]) Unsubscripted)) ∷ (Referred (Refers o (codes "R2") ([]) Unsubscripted)) ∷ []))) (es ((And o (Referred (Refers o (codes "V2") ([]) (ByParts o (ss ([])) (ss ((One (FromBeginning (Literal o (Integer 1)))) ∷ (One (FromBeginning (Literal o (Integer 2)))) ∷ [])) (ss ((Range (FromBeginning (Literal o (Integer 8))) (FromBeginning (Literal o (Integer 8)))) ∷ []))))) (es ((Referred (Refers o (codes "V2") ([]) (ByParts o (ss ([])) (ss ([])) (ss ((One (FromBeginning (Literal o (Integer 2)))) ∷ (One (FromBeginning (Literal o (Integer 2)))) ∷ []))))) ∷ []))) ∷ []))) ∷ (Literal o On) ∷ [])))))) ∷ (inr (Labelled ([]) (DoCase o (Literal o (Integer 5)) (Otherwise (Labelled ([]) (Assignment o ((Refers o (codes "B2") ([]) (ByParts o (ss ([])) (ss ([])) (ss ((Every o) ∷ [])))) ∷ []) (Literal o (Text (codes "IT'S")))))) (Groups (st ((Labelled ([]) (Null o)) ∷ (Labelled ([]) (Null o)) ∷ (Labelled ([]) (Assignment o ((Refers o (codes "R") ([]) Unsubscripted) ∷ []) (Called o (codes "SIZE") (es ((Referred (Refers o (codes "V2") ([]) Unsubscripted)) ∷ []))))) ∷ (Labelled ([]) (Assignment o ((Refers o (codes "R") ([]) Unsubscripted) ∷ []) (Product o (Literal o (Integer 7)) (es ((Parenthesis o (Sum o (Some Minus) (Literal o (Integer 5)) (ts ([])))) ∷ []))))) ∷ [])) None)))) ∷ [])) (Some (nm (codes "Q"))))) ∷ (inl (BlockOf (nm (codes "F")) (Function o ([]) (HasKind (CharacterKind o (Literal o (Integer 5))) None) (Some (Reentrant o))) ((Declare o ([]) ((declared_of (nm (codes "J2")) ((Typed (IntegerKind o)) ∷ (Marked o Automatic) ∷ [])) ∷ [])) ∷ []) (el ((inr (Labelled ([]) (If o (Or o (Compare o (Referred (Refers o (codes "R") ([]) Unsubscripted)) AtMost (Referred (Refers o (codes "I") ([]) Unsubscripted))) (es ((Compare o (Referred (Refers o (codes "I2") ([]) Unsubscripted)) Equal (Literal o (Integer 0))) ∷ []))) (Labelled ([]) (Return o (Some (Cat o (Convert o ToInteger (Convert o ToText (Referred (Refers o (codes "I2") ([]) Unsubscripted)))) (es ((Referred (Refers o (codes "B") ([]) Unsubscripted)) ∷ [])))))) NoAlternative))) ∷ (inr (Labelled ([]) (Return o (Some (Referred (Refers o (codes "B") ([]) Unsubscripted)))))) ∷ [])) (Some (nm (codes "F"))))) ∷ (inl (BlockOf (nm (codes "T")) (Task o) ([]) (el ((inr (Labelled ([]) (OnErrorResponse o (OneError o o 1 o 3) Ignore (Some (eventful o Set (nm (codes "E"))))))) ∷ (inr (Labelled ([]) (Update o (st ((Labelled ([]) (Assignment o ((Refers o (codes "B") ([]) (ByParts o (ss ([])) (ss ([])) (ss ((Range (FromBeginning (Literal o (Integer 2))) (FromBeginning (Literal o (Integer 1)))) ∷ [])))) ∷ (Refers o (codes "B") ([]) Unsubscripted) ∷ []) (Literal o (Text (codes "12"))))) ∷ (Labelled ([]) (Assignment o ((Refers o (codes "B") ([]) Unsubscripted) ∷ []) (Referred (Refers o (codes "B") ([]) Unsubscripted)))) ∷ [])) None))) ∷ (inr (Labelled ([]) (Assignment o ((Refers o (codes "R2") ([]) Unsubscripted) ∷ []) (Convert o ToBits (Sum o (Some Minus) (Called o (codes "ABS") (es ((Literal o (Integer 2)) ∷ []))) (ts ([]))))))) ∷ (inr (Labelled ([]) (Write o (Literal o (Integer 6)) (es ((Literal o (Text (codes "T"))) ∷ (Referred (Refers o (codes "RUNTIME") ([]) Unsubscripted)) ∷ []))))) ∷ [])) (Some (nm (codes "T"))))) ∷ (inl (BlockOf (nm (codes "T2")) (Task o) ([]) (el ((inr (Labelled ((nm (codes "M2")) ∷ []) (If o (Compare o (Product o (Literal o (Integer 1000)) (es ((Literal o (Integer 1000)) ∷ []))) Equal (Literal o (Integer 7))) (Labelled ([]) (Do o (Groups (st ((Labelled ([]) (If o (Compare o (Referred (Refers o (codes "I2") ([]) Unsubscripted)) NotEqual (Called o (codes "LENGTH") (es ((Referred (Refers o (codes "B") ([]) Unsubscripted)) ∷ [])))) (Labelled ([]) (Return o None)) NoAlternative)) ∷ [])) None))) (Otherwise (Labelled ((nm (codes "M")) ∷ []) (UpdatePriority o None (Literal o (Integer 30)))))))) ∷ (inr (Labelled ([]) (Assignment o ((Refers o (codes "B") ([]) (ByParts o (ss ([])) (ss ([])) (ss ((One (FromBeginning (Literal o (Integer 1)))) ∷ [])))) ∷ []) (Referred (Refers o (codes "F") ([]) Unsubscripted))))) ∷ (inr (Labelled ([]) (Write o (Literal o (Integer 6)) (es ((Literal o (Text (codes "T2"))) ∷ []))))) ∷ [])) (Some (nm (codes "T2"))))) ∷ [])) (Some (nm (codes "P"))))) ∷ [])

abbrev Says1 : Type 0
Says1 = reported 400 row1 ((line.Run 12) ∷ (line.Tick 10) ∷ (line.Run 80) ∷ []) ≡ codes "0: 0001 LONGER 0 LONGER\n0: 0 000000 1004\n6: T 0\n6: T2\nend P.T2 10 closed 1\nend P 10 closed 1\nlive P.T\nP.B = '02'\nP.R = 0\nP.R2 = 1110\nP.E = 0\nP.I = 0\nP.I2 = 0\nP.Q.V = '-7 '\n"

-- updates 4: error 1:3 SYSTEM, error 2:1 IGNORE, DO UNTIL, error 2:4 SYSTEM
abbrev row2 : List File
row2 = ((file_of ([]) (BlockOf (nm (codes "P")) (Program o) ((Declare o ([]) ((declared_of (nm (codes "K")) ((Dimensions o (es ((Literal o (Integer 4)) ∷ []))) ∷ (Typed (BitKind o (Literal o (Integer 8)))) ∷ (ConstantValues o (is ((Value (Called o (codes "ODD") (es ((Literal o (Integer 7)) ∷ [])))) ∷ []))) ∷ [])) ∷ [])) ∷ (Structure o (nm (codes "S")) ((part_of o 1 (nm (codes "G")) ([])) ∷ (part_of o 2 (nm (codes "C")) ((Typed (IntegerKind o)) ∷ (Marked o Double) ∷ [])) ∷ (part_of o 1 (nm (codes "C2")) ((Dimensions o (es ((Literal o (Integer 3)) ∷ []))) ∷ (Typed (IntegerKind o)) ∷ (Marked o Double) ∷ [])) ∷ (part_of o 1 (nm (codes "C3")) ((Dimensions o (es ((Literal o (Integer 3)) ∷ []))) ∷ (Typed (IntegerKind o)) ∷ [])) ∷ [])) ∷ (Declare o ([]) ((declared_of (nm (codes "Z")) ((Typed (StructureKind o (codes "S") None)) ∷ (InitialValues o (is ((Value (Literal o (Integer 5))) ∷ (Value (Literal o (Integer 1000))) ∷ (Value (Literal o (Integer 10))) ∷ (Value (Power o (Literal o (Integer 2)) (Literal o (Integer 3)))) ∷ (Value (Literal o (Integer 1000))) ∷ (Value (Sum o None (Product o (Literal o (Integer 3)) (es ((Literal o (Integer 2)) ∷ []))) (ts ((Minus, (Literal o (Integer 3))) ∷ [])))) ∷ (Value (Called o (codes "ABS") (es ((Sum o (Some Minus) (Literal o (Integer 1000)) (ts ([]))) ∷ [])))) ∷ []))) ∷ [])) ∷ [])) ∷ (Declare o ([]) ((declared_of (nm (codes "R")) ((Typed (BitKind o (Literal o (Integer 4)))) ∷ (InitialValues o (is ((Value (Called o (codes "ODD") (es ((Literal o (Integer 7)) ∷ [])))) ∷ []))) ∷ [])) ∷ [])) ∷ (Declare o ([]) ((declared_of (nm (codes "R2")) ((Typed (CharacterKind o (Literal o (Integer 6)))) ∷ (InitialValues o (is ((Value (Literal o (Text (codes " PAD ")))) ∷ []))) ∷ [])) ∷ [])) ∷ (Declare o ([]) ((declared_of (nm (codes "E2")) ((Typed (EventKind o)) ∷ [])) ∷ [])) ∷ (Declare o ([]) ((declared_of (nm (codes "I")) ((Typed (IntegerKind o)) ∷ [])) ∷ [])) ∷ (Declare o ([]) ((declared_of (nm (codes "I2")) ((Typed (IntegerKind o)) ∷ [])) ∷ [])) ∷ []) (el ((inl (BlockOf (nm (codes "T3")) (Task o) ((Declare o ([]) ((declared_of (nm (codes "J4")) ((Typed (IntegerKind o)) ∷ [])) ∷ [])) ∷ []) (el ((inr (Labelled ([]) (OnErrorResponse o (GroupErrors o o 7) Ignore None))) ∷ (inr (Labelled ([]) (Assignment o ((Refers o (codes "Z") ((nm (codes "C3")) ∷ []) (ByParts o (ss ([])) (ss ([])) (ss ((One (FromBeginning (Sum o None (Called o (codes "MOD") (es ((Sum o None (Literal o (Integer 0)) (ts ((Plus, (Literal o (Integer 10))) ∷ []))) ∷ (Literal o (Integer 3)) ∷ []))) (ts ((Plus, (Literal o (Integer 1))) ∷ []))))) ∷ [])))) ∷ []) (Literal o (Integer 12))))) ∷ (inr (Labelled ([]) (UpdatePriority o None (Literal o (Integer 256))))) ∷ (inr (Labelled ([]) (Assignment o ((Refers o (codes "J4") ([]) Unsubscripted) ∷ []) (Literal o (Integer 0))))) ∷ (inr (Labelled ((nm (codes "L")) ∷ []) (DoLoop o (While o (Compare o (Referred (Refers o (codes "J4") ([]) Unsubscripted)) Less (Literal o (Integer 2)))) (Groups (st ((Labelled ([]) (Assignment o ((Refers o (codes "J4") ([]) Unsubscripted) ∷ []) (Sum o None (Referred (Refers o (codes "J4") ([]) Unsubscripted)) (ts ((Plus, (Literal o (Integer 1))) ∷ []))))) ∷ (Labelled ((nm (codes "M2")) ∷ []) (Scheduled o (scheduling (nm (codes "T")) None None true None None))) ∷ [])) (Some (nm (codes "L"))))))) ∷ (inr (Labelled ([]) (Write o (Literal o (Integer 6)) (es ((Literal o (Text (codes "T3"))) ∷ []))))) ∷ [])) (Some (nm (codes "T3"))))) ∷ (inr (Labelled ([]) (Scheduled o (scheduling (nm (codes "T")) None (Some (Literal o (Integer 40))) true None None)))) ∷ (inr (Labelled ([]) (Scheduled o (scheduling (nm (codes "T2")) None (Some (Literal o (Integer 30))) false (Some (CyclicEvery o (Literal o (Integer 1)))) None)))) ∷ (inr (Labelled ([]) (Scheduled o (scheduling (nm (codes "T3")) None (Some (Literal o (Integer 60))) false (Some (CyclicEvery o (Literal o (Integer 1)))) None)))) ∷ (inr (Labelled ([]) (OnErrorResponse o (GroupErrors o o 7) Ignore None))) ∷ (inr (Labelled ([]) (Write o (Literal o (Integer 6)) (es ((Referred (Refers o (codes "I") ([]) Unsubscripted)) ∷ (Referred (Refers o (codes "Z") ((nm (codes "C3")) ∷ []) (ByInteger o o 3))) ∷ (Referred (Refers o (codes "Z") ((nm (codes "G")) ∷ (nm (codes "C")) ∷ []) Unsubscripted)) ∷ []))))) ∷ (inr (Labelled ([]) (Write o (Literal o (Integer 6)) (es ((Referred (Refers o (codes "R2") ([]) Unsubscripted)) ∷ []))))) ∷ (inl (BlockOf (nm (codes "Q")) (Procedure o ((nm (codes "A")) ∷ []) ((nm (codes "B2")) ∷ []) None) ((Declare o ([]) ((declared_of (nm (codes "A")) ((Dimensions o (es ((Literal o (Integer 2)) ∷ []))) ∷ (Typed (BooleanKind o)) ∷ [])) ∷ [])) ∷ (Declare o ([]) ((declared_of (nm (codes "B2")) ((Typed (BitKind o (Literal o (Integer 4)))) ∷ (LockAny o) ∷ [])) ∷ [])) ∷ (Declare o ([]) ((declared_of (nm (codes "J")) ((Typed (IntegerKind o)) ∷ [])) ∷ [])) ∷ []) (el ((inr (Labelled ([]) (If o (Compare o (Sum o (Some Plus) (Literal o (Integer 1)) (ts ((Minus, (Called o (codes "SIGNUM") (es ((Referred (Refers o (codes "J") ([]) Unsubscripted)) ∷ [])))) ∷ []))) Less (Literal o (Integer 100))) (Labelled ([]) (Do o (Groups (st ((Labelled ([]) (If o (And o (Referred (Refers o (codes "R") ([]) Unsubscripted)) (es ((Referred (Refers o (codes "K") ([]) (ByParts o (ss ([])) (ss ([])) (ss ((One (FromBeginning (Literal o (Integer 3)))) ∷ []))))) ∷ []))) (Labelled ([]) (Return o None)) NoAlternative)) ∷ [])) None))) (Otherwise (Labelled ([]) (Do o (Groups (st ((Labelled ([]) (Assignment o ((Refers o (codes "J") ([]) Unsubscripted) ∷ []) (Literal o (Integer 0)))) ∷ (Labelled ([]) (DoLoop o (Until o (Or o (Compare o (Referred (Refers o (codes "J") ([]) Unsubscripted)) AtLeast (Literal o (Integer 3))) (es ((Compare o (Called o (codes "LJUST") (es ((Referred (Refers o (codes "R2") ([]) Unsubscripted)) ∷ (Literal o (Integer 8)) ∷ []))) Greater (Called o (codes "RJUST") (es ((Literal o (Text (codes "A"))) ∷ (Literal o (Integer 255)) ∷ [])))) ∷ [])))) (Groups (st ((Labelled ([]) (Assignment o ((Refers o (codes "J") ([]) Unsubscripted) ∷ []) (Sum o None (Referred (Refers o (codes "J") ([]) Unsubscripted)) (ts ((Plus, (Literal o (Integer 1))) ∷ []))))) ∷ (Labelled ([]) (Assignment o ((Refers o (codes "R2") ([]) Unsubscripted) ∷ []) (Convert o ToText (Cat o (Parenthesis o (Literal o (Text (codes "+05")))) (es ((Called o (codes "RJUST") (es ((Referred (Refers o (codes "R2") ([]) Unsubscripted)) ∷ (Literal o (Integer 8)) ∷ []))) ∷ [])))))) ∷ [])) None))) ∷ [])) None))))))) ∷ [])) (Some (nm (codes "Q"))))) ∷ (inl (BlockOf (nm (codes "T")) (Task o) ([]) (el ((inr (Labelled ((nm (codes "M")) ∷ []) (Event (eventful o Signal (nm (codes "E2")))))) ∷ (inr (Labelled ([]) (Write o (Literal o (Integer 6)) (es ((Cat o (Not o (Referred (Refers o (codes "K") ([]) (ByParts o (ss ([])) (ss ((One (FromBeginning (Literal o (Integer 5)))) ∷ [])) (ss ((Range (FromBeginning (Literal o (Integer 6))) (FromEnd o (ts ([])))) ∷ [])))))) (es ((Referred (Refers o (codes "R") ([]) Unsubscripted)) ∷ []))) ∷ (Convert o ToInteger (Literal o Off)) ∷ (Convert o ToText (Called o (codes "LJUST") (es ((Referred (Refers o (codes "R2") ([]) (ByParts o (ss ([])) (ss ([])) (ss ((Portion (Literal o (Integer 1)) (FromEnd o (ts ([])))) ∷ []))))) ∷ (Literal o (Integer 8)) ∷ [])))) ∷ []))))) ∷ (inr (Labelled ([]) (Assignment o ((Refers o (codes "R2") ([]) (ByParts o (ss ([])) (ss ([])) (ss ((One (FromEnd o (ts ((Minus, (Literal o (Integer 1))) ∷ [])))) ∷ [])))) ∷ []) (Called o (codes "LJUST") (es ((Convert o ToText (Or o (Referred (Refers o (codes "R") ([]) Unsubscripted)) (es ((Literal o True) ∷ [])))) ∷ (Literal o (Integer 8)) ∷ [])))))) ∷ [])) (Some (nm (codes "T"))))) ∷ (inl (BlockOf (nm (codes "T2")) (Task o) ((Declare o ([]) ((declared_of (nm (codes "V2")) ((Dimensions o (es ((Literal o (Integer 3)) ∷ []))) ∷ (Typed (IntegerKind o)) ∷ [])) ∷ [])) ∷ []) (el ((inr (Labelled ([]) (OnErrorResponse o EveryError Ignore None))) ∷ (inr (Labelled ([]) (Scheduled o (scheduling (nm (codes "T2")) None None false None None)))) ∷ (inr (Labelled ([]) (Write o (Literal o (Integer 6)) (es ((Referred (Refers o (codes "R") ([]) Unsubscripted)) ∷ (Referred (Refers o (codes "V2") ([]) (ByInteger o o 1))) ∷ (Referred (Refers o (codes "I2") ([]) Unsubscripted)) ∷ []))))) ∷ (inr (Labelled ([]) (Assignment o ((Refers o (codes "R") ([]) Unsubscripted) ∷ (Refers o (codes "R") ([]) Unsubscripted) ∷ []) (Cat o (Parenthesis o (Or o (And o (Referred (Refers o (codes "K") ([]) (ByParts o (ss ([])) (ss ((One (FromBeginning (Literal o (Integer 2)))) ∷ [])) (ss ((One (FromBeginning (Literal o (Integer 5)))) ∷ []))))) (es ((Literal o (Bits 3 5)) ∷ []))) (es ((Not o (Literal o False)) ∷ [])))) (es ((Convert o ToBits (Referred (Refers o (codes "Z") ((nm (codes "C2")) ∷ []) (ByInteger o o 1)))) ∷ [])))))) ∷ (inr (Labelled ([]) (If o (Compare o (Convert o ToText (Literal o (Integer 100))) AtLeast (Referred (Refers o (codes "R2") ([]) (ByParts o (ss ([])) (ss ([])) (ss ((One (FromEnd o (ts ([])))) ∷ [])))))) (Labelled ([]) (Return o None)) NoAlternative))) ∷ [])) (Some (nm (codes "T2"))))) ∷ [])) (Some (nm (codes "P"))))) ∷ [])

abbrev Says2 : Type 0
Says2 = reported 400 row2 ((line.Run 25) ∷ (line.Tick 300) ∷ (line.Run 60) ∷ (line.Tick 1000) ∷ (line.Run 60) ∷ (line.Run 80) ∷ []) ≡ codes "6: 0 1000 5\n6:  PAD \n6: 0001 0 0\n6: 1000 0 0\nend P.T3 0 error 2:4 0\nend P.T 0 error 1:3 0\nend P 0 closed 1\nlive P.T2\nP.Z.G.C = 5\nP.Z.C2$(1) = 1000\nP.Z.C2$(2) = 10\nP.Z.C2$(3) = 8\nP.Z.C3$(1) = 1000\nP.Z.C3$(2) = 12\nP.Z.C3$(3) = 1000\nP.R = 1000\nP.R2 = ' PAD '\nP.I = 0\nP.I2 = 0\nP.T3.J4 = 0\nP.Q.J = 0\nP.T2.V2$(1) = 0\nP.T2.V2$(2) = 0\nP.T2.V2$(3) = 0\n"

-- updates 9: error of SEND ERROR IGNORE, copy subscript one, type STRUCTURE copies, FUNCTION
abbrev row3 : List File
row3 = ((file_of ([]) (BlockOf (nm (codes "P")) (Program o) ((Structure o (nm (codes "S")) ((part_of o 1 (nm (codes "C")) ((Typed (BitKind o (Literal o (Integer 3)))) ∷ [])) ∷ (part_of o 1 (nm (codes "C2")) ((Typed (IntegerKind o)) ∷ (Marked o Double) ∷ [])) ∷ [])) ∷ (Declare o ([]) ((declared_of (nm (codes "T")) ((Typed (IntegerKind o)) ∷ (Marked o Single) ∷ (LockGroup o (Literal o (Integer 15))) ∷ (InitialValues o (is ((Value (Sum o None (Literal o (Integer 5)) (ts ((Plus, (Literal o (Integer 1))) ∷ [])))) ∷ []))) ∷ [])) ∷ [])) ∷ (Declare o ([]) ((declared_of (nm (codes "N")) ((Typed (IntegerKind o)) ∷ (Marked o Double) ∷ [])) ∷ [])) ∷ (Declare o ([]) ((declared_of (nm (codes "Z")) ((Typed (StructureKind o (codes "S") (Some (Literal o (Integer 2))))) ∷ [])) ∷ [])) ∷ (Declare o ([]) ((declared_of (nm (codes "R")) ((Typed (CharacterKind o (Literal o (Integer 6)))) ∷ (InitialValues o (is ((Value (Literal o (Text (codes "-7")))) ∷ []))) ∷ [])) ∷ (declared_of (nm (codes "B")) ((Typed (IntegerKind o)) ∷ (Marked o Single) ∷ (InitialValues o (is ((Value (Sum o None (Literal o (Integer 1)) (ts ((Plus, (Literal o (Integer 1))) ∷ [])))) ∷ []))) ∷ [])) ∷ [])) ∷ (Declare o ([]) ((declared_of (nm (codes "I2")) ((Typed (IntegerKind o)) ∷ [])) ∷ [])) ∷ []) (el ((inl (BlockOf (nm (codes "F")) (Function o ((nm (codes "A")) ∷ (nm (codes "A2")) ∷ []) (HasKind (IntegerKind o) (Some (DoublePrecision o))) None) ((Declare o ([]) ((declared_of (nm (codes "A")) ((Typed (BitKind o (Literal o (Integer 3)))) ∷ [])) ∷ [])) ∷ (Declare o ([]) ((declared_of (nm (codes "A2")) ((Typed (IntegerKind o)) ∷ [])) ∷ [])) ∷ []) (el ((inr (Labelled ([]) (Write o (Product o (Literal o (Integer 2)) (es ((Literal o (Integer 3)) ∷ []))) (es ((Sum o None (Referred (Refers o (codes "A2") ([]) Unsubscripted)) (ts ((Plus, (Literal o (Integer 1))) ∷ []))) ∷ (Cat o (Parenthesis o (Or o (Referred (Refers o (codes "Z") ((nm (codes "C")) ∷ []) (ByParts o (ss ((One (FromBeginning (Literal o (Integer 1)))) ∷ [])) (ss ([])) (ss ([]))))) (es ((Referred (Refers o (codes "Z") ((nm (codes "C")) ∷ []) (ByParts o (ss ((One (FromBeginning (Literal o (Integer 1)))) ∷ [])) (ss ([])) (ss ([]))))) ∷ [])))) (es ((Parenthesis o (And o (Literal o (Bits 3 5)) (es ((Referred (Refers o (codes "A") ([]) Unsubscripted)) ∷ [])))) ∷ []))) ∷ []))))) ∷ (inr (Labelled ([]) (Assignment o ((Refers o (codes "N") ([]) Unsubscripted) ∷ []) (Sum o None (Literal o (Integer 255)) (ts ((Plus, (Called o (codes "REMAINDER") (es ((Literal o (Integer 255)) ∷ (Referred (Refers o (codes "B") ([]) Unsubscripted)) ∷ [])))) ∷ (Plus, (Called o (codes "A2") (es ((Sum o None (Literal o (Integer 2)) (ts ((Minus, (Literal o (Integer 4))) ∷ []))) ∷ [])))) ∷ [])))))) ∷ (inr (Labelled ([]) (SendError o o 7 o 5))) ∷ (inr (Labelled ([]) (Return o (Some (Called o (codes "SHL") (es ((Called o (codes "DIV") (es ((Referred (Refers o (codes "I2") ([]) Unsubscripted)) ∷ (Literal o (Integer 2)) ∷ []))) ∷ (Literal o (Integer 31)) ∷ []))))))) ∷ [])) (Some (nm (codes "F"))))) ∷ (inl (BlockOf (nm (codes "F2")) (Function o ((nm (codes "A3")) ∷ []) (HasKind (IntegerKind o) (Some (DoublePrecision o))) None) ((Declare o ([]) ((declared_of (nm (codes "A3")) ((Typed (IntegerKind o)) ∷ (Marked o Single) ∷ [])) ∷ [])) ∷ (Declare o ([]) ((declared_of (nm (codes "J2")) ((Typed (IntegerKind o)) ∷ [])) ∷ [])) ∷ []) (el ((inr (Labelled ([]) (OnErrorResponse o (GroupErrors o o 7) Ignore None))) ∷ (inr (Labelled ([]) (SendError o o 7 o 2))) ∷ (inr (Labelled ([]) (Return o (Some (Sum o None (Literal o (Integer 12)) (ts ((Minus, (Referred (Refers o (codes "J2") ([]) Unsubscripted))) ∷ (Plus, (Literal o (Integer 100))) ∷ []))))))) ∷ [])) (Some (nm (codes "F2"))))) ∷ (inr (Labelled ([]) (Assignment o ((Refers o (codes "N") ([]) Unsubscripted) ∷ []) (Sum o None (Literal o (Integer 3)) (ts ((Minus, (Referred (Refers o (codes "Z") ((nm (codes "C2")) ∷ []) (ByParts o (ss ((One (FromBeginning (Sum o None (Called o (codes "MOD") (es ((Called o (codes "INDEX") (es ((Literal o (Text (codes "XYZ"))) ∷ (Referred (Refers o (codes "R") ([]) Unsubscripted)) ∷ []))) ∷ (Literal o (Integer 2)) ∷ []))) (ts ((Plus, (Literal o (Integer 1))) ∷ []))))) ∷ [])) (ss ([])) (ss ([])))))) ∷ [])))))) ∷ (inr (Labelled ([]) (Write o (Product o (Literal o (Integer 2)) (es ((Literal o (Integer 3)) ∷ []))) (es ((Called o (codes "F2") (es ((Sum o None (Referred (Refers o (codes "I2") ([]) Unsubscripted)) (ts ((Plus, (Literal o (Integer 5))) ∷ []))) ∷ []))) ∷ (Power o (Literal o (Integer 1)) (Literal o (Integer 2))) ∷ (Literal o (Text (codes "-7"))) ∷ []))))) ∷ (inr (Labelled ([]) (Update o (st ((Labelled ([]) (Assignment o ((Refers o (codes "R") ([]) (ByInteger o o 1)) ∷ (Refers o (codes "R") ([]) Unsubscripted) ∷ (Refers o (codes "R") ([]) Unsubscripted) ∷ []) (Called o (codes "F2") (es ((Sum o None (Referred (Refers o (codes "I2") ([]) Unsubscripted)) (ts ((Plus, (Referred (Refers o (codes "T") ([]) Unsubscripted))) ∷ []))) ∷ []))))) ∷ [])) None))) ∷ (inr (Labelled ([]) (Write o (Product o (Literal o (Integer 2)) (es ((Literal o (Integer 3)) ∷ []))) (es ((Not o (Parenthesis o (And o (Literal o (Bits 4 6)) (es ((Literal o Off) ∷ []))))) ∷ []))))) ∷ [])) (Some (nm (codes "P"))))) ∷ [])

abbrev Says3 : Type 0
Says3 = reported 400 row3 ((line.Run 3) ∷ (line.Tick 250) ∷ (line.Run 12) ∷ (line.Preempt (codes "P")) ∷ (line.Tick 300) ∷ (line.Run 80) ∷ []) ≡ codes "6: 112 1 -7\n6: 1111\nend P 250 closed 1\nP.T = 6\nP.N = 3\nP.Z.C$(1;) = 000\nP.Z.C2$(1;) = 0\nP.Z.C$(2;) = 000\nP.Z.C2$(2;) = 0\nP.R = '112'\nP.B = 2\nP.I2 = 0\nP.F2.J2 = 0\n"

-- updates 31: SCHEDULE ON, error 2:2 caught, SCHEDULE guard WHILE, CANCEL of a process
abbrev row4 : List File
row4 = ((file_of ([]) (BlockOf (nm (codes "P")) (Program o) ((Declare o ([]) ((declared_of (nm (codes "R2")) ((Typed (BitKind o (Literal o (Integer 4)))) ∷ (InitialValues o (is ((Value (Convert o ToBits (Literal o (Integer 255)))) ∷ []))) ∷ [])) ∷ [])) ∷ (Declare o ([]) ((declared_of (nm (codes "B")) ((Typed (IntegerKind o)) ∷ (LockGroup o (Literal o (Integer 3))) ∷ [])) ∷ (declared_of (nm (codes "N")) ((Typed (IntegerKind o)) ∷ (Marked o Single) ∷ (LockGroup o (Literal o (Integer 2))) ∷ [])) ∷ [])) ∷ (Declare o ([]) ((declared_of (nm (codes "R3")) ((Typed (CharacterKind o (Literal o (Integer 6)))) ∷ (InitialValues o (is ((Value (Literal o (Text (codes "lower")))) ∷ []))) ∷ [])) ∷ (declared_of (nm (codes "R")) ((Typed (IntegerKind o)) ∷ (InitialValues o (is ((Value (Literal o (Integer 12))) ∷ []))) ∷ [])) ∷ [])) ∷ (Declare o ([]) ((declared_of (nm (codes "E")) ((Typed (EventKind o)) ∷ (Marked o Latched) ∷ (InitialValues o (is ((Value (Literal o True)) ∷ []))) ∷ [])) ∷ [])) ∷ (Declare o ([]) ((declared_of (nm (codes "I")) ((Typed (IntegerKind o)) ∷ [])) ∷ [])) ∷ (Declare o ([]) ((declared_of (nm (codes "I2")) ((Typed (IntegerKind o)) ∷ [])) ∷ [])) ∷ []) (el ((inl (BlockOf (nm (codes "T")) (Task o) ((Declare o ([]) ((declared_of (nm (codes "V")) ((Dimensions o (es ((Literal o (Integer 4)) ∷ []))) ∷ (Typed (IntegerKind o)) ∷ (Marked o Double) ∷ (InitialValues o (is ((Value (Called o (codes "LENGTH") (es ((Literal o (Text (codes "+05"))) ∷ [])))) ∷ []))) ∷ [])) ∷ [])) ∷ (Declare o ([]) ((declared_of (nm (codes "J")) ((Typed (IntegerKind o)) ∷ [])) ∷ [])) ∷ []) (el ((inr (Labelled ([]) (Assignment o ((Refers o (codes "R") ([]) Unsubscripted) ∷ []) (Literal o (Integer 31))))) ∷ (inr (Labelled ([]) (Write o (Literal o (Integer 0)) (es ((Called o (codes "ODD") (es ((Called o (codes "INDEX") (es ((Literal o (Text (codes "-7"))) ∷ (Literal o (Text (codes ""))) ∷ []))) ∷ []))) ∷ (Product o (Called o (codes "SIZE") (es ((Referred (Refers o (codes "V") ([]) Unsubscripted)) ∷ []))) (es ((Literal o (Integer 4)) ∷ []))) ∷ []))))) ∷ (inr (Labelled ([]) (Assignment o ((Refers o (codes "J") ([]) Unsubscripted) ∷ []) (Literal o (Integer 0))))) ∷ (inr (Labelled ([]) (OnErrorStatement o (OneError o o 2 o 2) (Labelled ([]) (Do o (Groups (st ((Labelled ([]) (Assignment o ((Refers o (codes "J") ([]) Unsubscripted) ∷ []) (Sum o None (Referred (Refers o (codes "J") ([]) Unsubscripted)) (ts ((Plus, (Literal o (Integer 1))) ∷ []))))) ∷ (Labelled ([]) (Write o (Literal o (Integer 6)) (es ((Literal o (Text (codes "ERROR"))) ∷ (Referred (Refers o (codes "ERRGRP") ([]) Unsubscripted)) ∷ (Referred (Refers o (codes "ERRNUM") ([]) Unsubscripted)) ∷ (Referred (Refers o (codes "J") ([]) Unsubscripted)) ∷ [])))) ∷ [])) None)))))) ∷ (inr (Labelled ([]) (If o (Compare o (Referred (Refers o (codes "J") ([]) Unsubscripted)) Less (Literal o (Integer 2))) (Labelled ([]) (Do o (Groups (st ((Labelled ([]) (Cancel o ((nm (codes "P")) ∷ []))) ∷ [])) None))) NoAlternative))) ∷ [])) (Some (nm (codes "T"))))) ∷ (inr (Labelled ([]) (Scheduled o (scheduling (nm (codes "T")) None (Some (Literal o (Integer 40))) false (Some (CyclicAfter o (Decimal o 500))) None)))) ∷ (inr (Labelled ([]) (OnErrorResponse o (OneError o o 1 o 4) Ignore None))) ∷ (inr (Labelled ([]) (Scheduled o (scheduling (nm (codes "T")) (Some (StartOn o (Not o (Parenthesis o (And o (Not o (Referred (Refers o (codes "E") ([]) Unsubscripted))) (es ((Referred (Refers o (codes "P") ([]) Unsubscripted)) ∷ []))))))) (Some (Literal o (Integer 4))) false (Some (CyclicEvery o (Literal o (Integer 2)))) (Some (While o (Referred (Refers o (codes "P") ([]) Unsubscripted)))))))) ∷ (inr (Labelled ([]) (Assignment o ((Refers o (codes "R") ([]) Unsubscripted) ∷ []) (Sum o None (Called o (codes "I") (es ((Called o (codes "R") (es ((Referred (Refers o (codes "R") ([]) Unsubscripted)) ∷ []))) ∷ []))) (ts ((Plus, (Literal o (Integer 7))) ∷ [])))))) ∷ (inr (Labelled ([]) (Assignment o ((Refers o (codes "R3") ([]) Unsubscripted) ∷ (Refers o (codes "R3") ([]) Unsubscripted) ∷ (Refers o (codes "R3") ([]) Unsubscripted) ∷ []) (Parenthesis o (Cat o (Product o (Literal o (Integer 4)) (es ((Literal o (Integer 32767)) ∷ []))) (es ((Parenthesis o (Cat o (Literal o (Text (codes "A"))) (es ((Referred (Refers o (codes "R") ([]) Unsubscripted)) ∷ [])))) ∷ []))))))) ∷ (inr (Labelled ([]) (Update o (st ((Labelled ([]) (If o (Compare o (Convert o ToText (Parenthesis o (Referred (Refers o (codes "R") ([]) Unsubscripted)))) NotGreater (Literal o (Text (codes "-7")))) (Labelled ([]) (SendError o o 2 o 1)) NoAlternative)) ∷ (Labelled ([]) (DoCase o (Literal o (Integer 7)) (Otherwise (Labelled ([]) (Assignment o ((Refers o (codes "R") ([]) Unsubscripted) ∷ []) (Sum o None (Called o (codes "B") (es ((Sum o None (Literal o (Integer 3)) (ts ((Plus, (Literal o (Integer 100))) ∷ []))) ∷ []))) (ts ((Minus, (Called o (codes "MOD") (es ((Product o (Referred (Refers o (codes "R") ([]) Unsubscripted)) (es ((Literal o (Integer 100)) ∷ []))) ∷ (Literal o (Integer 1000000)) ∷ [])))) ∷ [])))))) (Groups (st ((Labelled ([]) (Assignment o ((Refers o (codes "I2") ([]) Unsubscripted) ∷ []) (Literal o (Integer 0)))) ∷ (Labelled ((nm (codes "L")) ∷ []) (DoLoop o (While o (Compare o (Referred (Refers o (codes "I2") ([]) Unsubscripted)) Less (Literal o (Integer 1)))) (Groups (st ((Labelled ([]) (Assignment o ((Refers o (codes "I2") ([]) Unsubscripted) ∷ []) (Sum o None (Referred (Refers o (codes "I2") ([]) Unsubscripted)) (ts ((Plus, (Literal o (Integer 1))) ∷ []))))) ∷ (Labelled ([]) (Assignment o ((Refers o (codes "B") ([]) Unsubscripted) ∷ []) (Sum o None (Referred (Refers o (codes "N") ([]) Unsubscripted)) (ts ((Plus, (Called o (codes "INDEX") (es ((Referred (Refers o (codes "R3") ([]) Unsubscripted)) ∷ (Cat o (Referred (Refers o (codes "R3") ([]) (ByParts o (ss ([])) (ss ([])) (ss ((Range (FromBeginning (Literal o (Integer 1))) (FromEnd o (ts ([])))) ∷ []))))) (es ((Referred (Refers o (codes "I") ([]) Unsubscripted)) ∷ []))) ∷ [])))) ∷ []))))) ∷ [])) (Some (nm (codes "L")))))) ∷ (Labelled ([]) (Assignment o ((Refers o (codes "R3") ([]) Unsubscripted) ∷ []) (Parenthesis o (Called o (codes "TRIM") (es ((Parenthesis o (Referred (Refers o (codes "R3") ([]) (ByParts o (ss ([])) (ss ([])) (ss ((Portion (Literal o (Integer 2)) (FromBeginning (Literal o (Integer 1)))) ∷ [])))))) ∷ [])))))) ∷ [])) None))) ∷ [])) None))) ∷ (inr (Labelled ([]) (Write o (Literal o (Integer 0)) (es ((Or o (Referred (Refers o (codes "R2") ([]) Unsubscripted)) (es ((And o (Literal o True) (es ((Referred (Refers o (codes "R2") ([]) (ByParts o (ss ([])) (ss ([])) (ss ((One (FromBeginning (Literal o (Integer 2)))) ∷ []))))) ∷ []))) ∷ []))) ∷ (Sum o None (Product o (Literal o (Integer 5)) (es ((Referred (Refers o (codes "I") ([]) Unsubscripted)) ∷ []))) (ts ((Plus, (Literal o (Integer 3))) ∷ []))) ∷ (Called o (codes "TRIM") (es ((Cat o (Referred (Refers o (codes "R3") ([]) Unsubscripted)) (es ((Referred (Refers o (codes "R3") ([]) Unsubscripted)) ∷ []))) ∷ []))) ∷ []))))) ∷ (inr (Labelled ([]) (Write o (Literal o (Integer 6)) (es ((Referred (Refers o (codes "R2") ([]) Unsubscripted)) ∷ []))))) ∷ [])) (Some (nm (codes "P"))))) ∷ [])

abbrev Says4 : Type 0
Says4 = reported 400 row4 ((line.Run 60) ∷ (line.Run 80) ∷ []) ≡ codes "0: 0 16\n6: ERROR 2 2 1\n6: ERROR 2 2 2\nend P 0 error 2:1 0\nlive P.T\nP.R2 = 1111\nP.B = 0\nP.N = 0\nP.R3 = 'lower'\nP.R = 31\nP.E = 1\nP.I = 0\nP.I2 = 0\nP.T.V$(1) = 3\nP.T.V$(2) = 3\nP.T.V$(3) = 3\nP.T.V$(4) = 3\nP.T.J = 2\n"

-- updates 61: SCHEDULE guard WHILE, WAIT, UPDATE PRIORITY, text component at
abbrev row5 : List File
row5 = ((file_of ([]) (BlockOf (nm (codes "P")) (Program o) ((Declare o ([]) ((declared_of (nm (codes "R")) ((Typed (IntegerKind o)) ∷ (Marked o Single) ∷ [])) ∷ (declared_of (nm (codes "N")) ((Typed (BitKind o (Literal o (Integer 8)))) ∷ [])) ∷ [])) ∷ (Declare o ([]) ((declared_of (nm (codes "R2")) ((Typed (CharacterKind o (Literal o (Integer 6)))) ∷ (InitialValues o (is ((Value (Called o (codes "LJUST") (es ((Literal o (Text (codes "12"))) ∷ (Literal o (Integer 4)) ∷ [])))) ∷ []))) ∷ [])) ∷ [])) ∷ (Declare o ([]) ((declared_of (nm (codes "E")) ((Typed (EventKind o)) ∷ (Marked o Latched) ∷ [])) ∷ [])) ∷ (Declare o ([]) ((declared_of (nm (codes "I")) ((Typed (IntegerKind o)) ∷ [])) ∷ [])) ∷ (Declare o ([]) ((declared_of (nm (codes "I2")) ((Typed (IntegerKind o)) ∷ [])) ∷ [])) ∷ []) (el ((inr (Labelled ([]) (Write o (Literal o (Integer 0)) (es ((Called o (codes "ABS") (es ((Referred (Refers o (codes "R") ([]) Unsubscripted)) ∷ []))) ∷ (Referred (Refers o (codes "N") ([]) (ByParts o (ss ([])) (ss ([])) (ss ((Range (FromBeginning (Literal o (Integer 3))) (FromBeginning (Literal o (Integer 4)))) ∷ []))))) ∷ []))))) ∷ (inr (Labelled ([]) (Assignment o ((Refers o (codes "R2") ([]) Unsubscripted) ∷ []) (Literal o (Text (codes "LONGER TEXT")))))) ∷ (inr (Labelled ([]) (Assignment o ((Refers o (codes "R2") ([]) Unsubscripted) ∷ (Refers o (codes "R2") ([]) Unsubscripted) ∷ []) (Parenthesis o (Cat o (Referred (Refers o (codes "R") ([]) Unsubscripted)) (es ((Parenthesis o (Cat o (Referred (Refers o (codes "R2") ([]) Unsubscripted)) (es ((Referred (Refers o (codes "R") ([]) Unsubscripted)) ∷ [])))) ∷ []))))))) ∷ (inr (Labelled ([]) (Write o (Literal o (Integer 6)) (es ((Referred (Refers o (codes "ERRGRP") ([]) Unsubscripted)) ∷ (Referred (Refers o (codes "ERRNUM") ([]) Unsubscripted)) ∷ []))))) ∷ (inr (Labelled ([]) (UpdatePriority o None (Sum o None (Referred (Refers o (codes "R") ([]) Unsubscripted)) (ts ((Plus, (Referred (Refers o (codes "R") ([]) Unsubscripted))) ∷ [])))))) ∷ (inr (Labelled ([]) (Assignment o ((Refers o (codes "R2") ([]) (ByInteger o o 2)) ∷ []) (Called o (codes "TRIM") (es ((Convert o ToText (Convert o ToBits (Referred (Refers o (codes "R") ([]) Unsubscripted)))) ∷ [])))))) ∷ (inr (Labelled ([]) (Write o (Product o (Literal o (Integer 2)) (es ((Literal o (Integer 3)) ∷ []))) (es ((Referred (Refers o (codes "I") ([]) Unsubscripted)) ∷ (Referred (Refers o (codes "RUNTIME") ([]) Unsubscripted)) ∷ (Sum o None (Called o (codes "ABS") (es ((Referred (Refers o (codes "I") ([]) Unsubscripted)) ∷ []))) (ts ((Plus, (Literal o (Integer 0))) ∷ []))) ∷ []))))) ∷ (inr (Labelled ([]) (Assignment o ((Refers o (codes "R") ([]) Unsubscripted) ∷ []) (Called o (codes "REMAINDER") (es ((Power o (Literal o (Integer 100)) (Literal o (Integer 3))) ∷ (Convert o ToInteger (Literal o (Text (codes "12")))) ∷ [])))))) ∷ (inr (Labelled ([]) (Wait o (Decimal o 500)))) ∷ (inr (Labelled ([]) (Assignment o ((Refers o (codes "N") ([]) Unsubscripted) ∷ []) (Referred (Refers o (codes "P") ([]) Unsubscripted))))) ∷ (inr (Labelled ([]) (Write o (Literal o (Integer 6)) (es ((Referred (Refers o (codes "R") ([]) Unsubscripted)) ∷ (Product o (Power o (Literal o (Integer 2)) (Literal o (Integer 2))) (es ((Parenthesis o (Sum o None (Referred (Refers o (codes "I2") ([]) Unsubscripted)) (ts ((Minus, (Literal o (Integer 2))) ∷ [])))) ∷ []))) ∷ (Product o (Parenthesis o (Sum o None (Referred (Refers o (codes "I") ([]) Unsubscripted)) (ts ((Minus, (Literal o (Integer 1))) ∷ [])))) (es ((Literal o (Integer 2)) ∷ []))) ∷ (Referred (Refers o (codes "R2") ([]) (ByParts o (ss ([])) (ss ([])) (ss ((Portion (Literal o (Integer 2)) (FromBeginning (Literal o (Integer 1)))) ∷ []))))) ∷ []))))) ∷ (inr (Labelled ([]) (Scheduled o (scheduling (nm (codes "T")) None (Some (Literal o (Integer 40))) false None (Some (While o (Not o (Parenthesis o (Or o (Referred (Refers o (codes "E") ([]) Unsubscripted)) (es ((Referred (Refers o (codes "E") ([]) Unsubscripted)) ∷ []))))))))))) ∷ (inl (BlockOf (nm (codes "T")) (Task o) ([]) (el ((inr (Labelled ([]) (OnErrorResponse o (OneError o o 2 o 5) Ignore None))) ∷ (inr (Labelled ([]) (Assignment o ((Refers o (codes "R2") ([]) Unsubscripted) ∷ []) (Product o (Parenthesis o (Sum o None (Literal o (Integer 100)) (ts ((Plus, (Referred (Refers o (codes "I") ([]) Unsubscripted))) ∷ [])))) (es ((Literal o (Integer 4)) ∷ [])))))) ∷ (inr (Labelled ([]) (Assignment o ((Refers o (codes "R2") ([]) Unsubscripted) ∷ (Refers o (codes "R2") ([]) Unsubscripted) ∷ []) (Cat o (Parenthesis o (Cat o (Referred (Refers o (codes "I") ([]) Unsubscripted)) (es ((Referred (Refers o (codes "R2") ([]) Unsubscripted)) ∷ [])))) (es ((Called o (codes "LJUST") (es ((Convert o ToText (Literal o (Text (codes "-7")))) ∷ (Referred (Refers o (codes "I2") ([]) Unsubscripted)) ∷ []))) ∷ [])))))) ∷ (inr (Labelled ([]) (Write o (Literal o (Integer 6)) (es ((Literal o (Text (codes "T"))) ∷ []))))) ∷ [])) (Some (nm (codes "T"))))) ∷ [])) (Some (nm (codes "P"))))) ∷ [])

abbrev Says5 : Type 0
Says5 = reported 400 row5 ((line.Run 3) ∷ (line.Tick 250) ∷ (line.Run 25) ∷ (line.Preempt (codes "P.T")) ∷ (line.Tick 1000) ∷ (line.Run 80) ∷ []) ≡ codes "0: 0 00\n6: 0 0\n6: 0 0 0\n6: 4 -8 -2 00\n6: T\nend P.T 1250 closed 1\nend P 1250 closed 1\nP.R = 4\nP.N = 00000001\nP.R2 = '0400'\nP.E = 0\nP.I = 0\nP.I2 = 0\n"

-- updates 91: error 1:7 SYSTEM, end terminated, DO FOR list, FUNCTION
abbrev row6 : List File
row6 = ((file_of ([]) (BlockOf (nm (codes "P")) (Program o) ((Declare o ([]) ((declared_of (nm (codes "K")) ((Typed (IntegerKind o)) ∷ (ConstantValues o (is ((Value (Sum o None (Product o (Literal o (Integer 0)) (es ((Literal o (Integer 2)) ∷ []))) (ts ((Minus, (Literal o (Integer 3))) ∷ [])))) ∷ []))) ∷ [])) ∷ [])) ∷ (Declare o ([]) ((declared_of (nm (codes "N")) ((Typed (CharacterKind o (Literal o (Integer 1)))) ∷ (InitialValues o (is ((Value (Literal o (Text (codes "XYZ")))) ∷ []))) ∷ [])) ∷ (declared_of (nm (codes "R")) ((Typed (IntegerKind o)) ∷ (InitialValues o (is ((Value (Sum o (Some Minus) (Literal o (Integer 7)) (ts ([])))) ∷ []))) ∷ [])) ∷ [])) ∷ (Declare o ([]) ((declared_of (nm (codes "E")) ((Typed (EventKind o)) ∷ [])) ∷ [])) ∷ (Declare o ([]) ((declared_of (nm (codes "I")) ((Typed (IntegerKind o)) ∷ [])) ∷ [])) ∷ (Declare o ([]) ((declared_of (nm (codes "I2")) ((Typed (IntegerKind o)) ∷ [])) ∷ [])) ∷ []) (el ((inr (Labelled ([]) (Scheduled o (scheduling (nm (codes "T")) None (Some (Literal o (Integer 50))) false None None)))) ∷ (inr (Labelled ([]) (Scheduled o (scheduling (nm (codes "T2")) None (Some (Literal o (Integer 70))) false None None)))) ∷ (inr (Labelled ([]) (OnErrorResponse o (OneError o o 1 o 3) Ignore None))) ∷ (inr (Labelled ([]) (Write o (Literal o (Integer 6)) (es ((Referred (Refers o (codes "K") ([]) Unsubscripted)) ∷ (Referred (Refers o (codes "N") ([]) Unsubscripted)) ∷ []))))) ∷ (inr (Labelled ([]) (Write o (Literal o (Integer 6)) (es ((Referred (Refers o (codes "I2") ([]) Unsubscripted)) ∷ (Referred (Refers o (codes "I") ([]) Unsubscripted)) ∷ []))))) ∷ (inl (BlockOf (nm (codes "F")) (Function o ([]) (HasKind (BooleanKind o) None) None) ([]) (el ((inr (Labelled ([]) (Assignment o ((Refers o (codes "R") ([]) Unsubscripted) ∷ (Refers o (codes "R") ([]) Unsubscripted) ∷ []) (Literal o (Integer 31))))) ∷ (inr (Labelled ([]) (Assignment o ((Refers o (codes "N") ([]) Unsubscripted) ∷ []) (Convert o ToText (Called o (codes "SHL") (es ((Called o (codes "DIV") (es ((Literal o (Integer 1)) ∷ (Literal o (Integer 3)) ∷ []))) ∷ (Literal o (Integer 4)) ∷ []))))))) ∷ [])) (Some (nm (codes "F"))))) ∷ (inl (BlockOf (nm (codes "T")) (Task o) ((Declare o ([]) ((declared_of (nm (codes "J2")) ((Typed (IntegerKind o)) ∷ [])) ∷ [])) ∷ []) (el ((inr (Labelled ([]) (Scheduled o (scheduling (nm (codes "T2")) None None true (Some (CyclicAfter o (Literal o (Integer 1)))) None)))) ∷ (inr (Labelled ([]) (DoFor o false (nm (codes "R")) (Listed (es ((Sum o None (Referred (Refers o (codes "I") ([]) Unsubscripted)) (ts ((Minus, (Literal o (Integer 10))) ∷ []))) ∷ (Called o (codes "SHR") (es ((Referred (Refers o (codes "I") ([]) Unsubscripted)) ∷ (Literal o (Integer 1)) ∷ []))) ∷ []))) None (Groups (st ((Labelled ((nm (codes "M")) ∷ []) (OnErrorResponse o (OneError o o 2 o 2) Ignore (Some (eventful o Signal (nm (codes "E")))))) ∷ (Labelled ([]) (If o (Compare o (Convert o ToBits (Called o (codes "LENGTH") (es ((Referred (Refers o (codes "N") ([]) Unsubscripted)) ∷ [])))) Equal (Referred (Refers o (codes "F") ([]) Unsubscripted))) (Labelled ([]) (Assignment o ((Refers o (codes "N") ([]) Unsubscripted) ∷ []) (Referred (Refers o (codes "N") ([]) Unsubscripted)))) NoAlternative)) ∷ [])) None)))) ∷ (inr (Labelled ([]) (Write o (Literal o (Integer 6)) (es ((Literal o (Text (codes "T"))) ∷ (Referred (Refers o (codes "RUNTIME") ([]) Unsubscripted)) ∷ []))))) ∷ [])) (Some (nm (codes "T"))))) ∷ (inl (BlockOf (nm (codes "T2")) (Task o) ([]) (el ((inr (Labelled ([]) (OnErrorResponse o (OneError o o 7 o 1) Ignore None))) ∷ (inr (Labelled ([]) (Write o (Literal o (Integer 6)) (es ((Referred (Refers o (codes "K") ([]) Unsubscripted)) ∷ (Convert o ToInteger (Convert o ToText (Literal o (Integer 7)))) ∷ []))))) ∷ [])) (Some (nm (codes "T2"))))) ∷ (inl (BlockOf (nm (codes "T3")) (Task o) ([]) (el ((inr (Labelled ([]) (OnErrorResponse o (OneError o o 2 o 5) Ignore None))) ∷ (inr (Labelled ([]) (OnErrorResponse o (OneError o o 1 o 7) Ignore None))) ∷ (inr (Labelled ([]) (Write o (Literal o (Integer 6)) (es ((Literal o (Text (codes "T3"))) ∷ []))))) ∷ [])) (Some (nm (codes "T3"))))) ∷ [])) (Some (nm (codes "P"))))) ∷ [])

abbrev Says6 : Type 0
Says6 = reported 400 row6 ((line.Run 12) ∷ (line.Tick 2500) ∷ (line.Run 12) ∷ (line.Tick 2500) ∷ (line.Run 3) ∷ (line.Run 3) ∷ (line.Tick 1000) ∷ (line.Run 80) ∷ []) ≡ codes "6: -3 7\n6: -3 X\n6: 0 0\nend P.T2 0 closed 1\nend P 0 closed 1\nend P.T2 2500 terminated 0\nend P.T 2500 error 1:7 0\nP.N = '0'\nP.R = 31\nP.I = 0\nP.I2 = 0\nP.T.J2 = 0\n"

-- updates 121: error of SEND ERROR SYSTEM, ON ERROR of all, UPDATE PRIORITY, error 1:4 SYSTEM
abbrev row7 : List File
row7 = ((file_of ([]) (BlockOf (nm (codes "P")) (Program o) ((Declare o ([]) ((declared_of (nm (codes "K")) ((Typed (CharacterKind o (Literal o (Integer 6)))) ∷ (ConstantValues o (is ((Value (Sum o (Some Minus) (Literal o (Integer 40)) (ts ([])))) ∷ []))) ∷ [])) ∷ [])) ∷ (Structure o (nm (codes "S")) ((part_of o 1 (nm (codes "C")) ((Dimensions o (es ((Literal o (Integer 2)) ∷ []))) ∷ (Typed (BitKind o (Literal o (Integer 3)))) ∷ (Marked o Dense) ∷ [])) ∷ (part_of o 1 (nm (codes "C2")) ((Typed (IntegerKind o)) ∷ (Marked o Double) ∷ [])) ∷ [])) ∷ (Declare o ([]) ((declared_of (nm (codes "R")) ((Typed (IntegerKind o)) ∷ (Marked o Single) ∷ (InitialValues o (is ((Value (Called o (codes "LENGTH") (es ((Literal o (Text (codes "+05"))) ∷ [])))) ∷ []))) ∷ [])) ∷ (declared_of (nm (codes "Z")) ((Typed (StructureKind o (codes "S") (Some (Literal o (Integer 2))))) ∷ (LockGroup o (Literal o (Integer 3))) ∷ [])) ∷ [])) ∷ (Declare o ([]) ((declared_of (nm (codes "N")) ((Typed (BooleanKind o)) ∷ [])) ∷ [])) ∷ (Declare o ([]) ((declared_of (nm (codes "R2")) ((Typed (CharacterKind o (Literal o (Integer 6)))) ∷ [])) ∷ [])) ∷ (Declare o ([]) ((declared_of (nm (codes "I")) ((Typed (IntegerKind o)) ∷ [])) ∷ [])) ∷ (Declare o ([]) ((declared_of (nm (codes "I2")) ((Typed (IntegerKind o)) ∷ [])) ∷ [])) ∷ []) (el ((inr (Labelled ([]) (Scheduled o (scheduling (nm (codes "T")) None (Some (Literal o (Integer 50))) false (Some (CyclicAfter o (Decimal o 500))) None)))) ∷ (inr (Labelled ([]) (OnErrorResponse o (OneError o o 3 o 3) Ignore None))) ∷ (inr (Labelled ([]) (Write o (Literal o (Integer 6)) (es ((Called o (codes "LENGTH") (es ((Called o (codes "RJUST") (es ((Literal o (Text (codes "AB"))) ∷ (Literal o (Integer 5)) ∷ []))) ∷ []))) ∷ (Called o (codes "REMAINDER") (es ((Parenthesis o (Product o (Literal o (Integer 2)) (es ((Referred (Refers o (codes "R") ([]) Unsubscripted)) ∷ [])))) ∷ (Literal o (Integer 12)) ∷ []))) ∷ []))))) ∷ (inr (Labelled ([]) (Write o (Literal o (Integer 6)) (es ((Called o (codes "RJUST") (es ((Cat o (Referred (Refers o (codes "R2") ([]) Unsubscripted)) (es ((Referred (Refers o (codes "I") ([]) Unsubscripted)) ∷ []))) ∷ (Literal o (Integer 100)) ∷ []))) ∷ (Convert o ToInteger (Cat o (Referred (Refers o (codes "N") ([]) (ByParts o (ss ([])) (ss ([])) (ss ((Range (FromBeginning (Literal o (Integer 1))) (FromBeginning (Literal o (Integer 1)))) ∷ []))))) (es ((Referred (Refers o (codes "N") ([]) Unsubscripted)) ∷ [])))) ∷ (Cat o (Referred (Refers o (codes "N") ([]) (ByParts o (ss ([])) (ss ([])) (ss ((Range (FromBeginning (Literal o (Integer 1))) (FromBeginning (Literal o (Integer 1)))) ∷ []))))) (es ((Referred (Refers o (codes "N") ([]) Unsubscripted)) ∷ (Parenthesis o (Cat o (Literal o (Bits 4 15)) (es ((Referred (Refers o (codes "N") ([]) (ByParts o (ss ([])) (ss ([])) (ss ((Every o) ∷ []))))) ∷ [])))) ∷ []))) ∷ []))))) ∷ (inr (Labelled ([]) (SendError o o 255 o 255))) ∷ (inr (Labelled ([]) (Write o (Literal o (Integer 6)) (es ((Referred (Refers o (codes "R2") ([]) Unsubscripted)) ∷ (Referred (Refers o (codes "R") ([]) Unsubscripted)) ∷ (Referred (Refers o (codes "K") ([]) Unsubscripted)) ∷ []))))) ∷ (inl (BlockOf (nm (codes "Q")) (Procedure o ((nm (codes "A")) ∷ []) ((nm (codes "B2")) ∷ (nm (codes "B3")) ∷ []) (Some (Reentrant o))) ((Declare o ([]) ((declared_of (nm (codes "A")) ((Typed (BitKind o (Literal o (Integer 3)))) ∷ [])) ∷ (declared_of (nm (codes "B2")) ((Typed (CharacterKind o (Literal o (Integer 6)))) ∷ [])) ∷ [])) ∷ (Declare o ([]) ((declared_of (nm (codes "B3")) ((Typed (BitKind o (Literal o (Integer 3)))) ∷ [])) ∷ [])) ∷ []) (el ((inr (Labelled ((nm (codes "U")) ∷ []) (Update o (st ((Labelled ([]) (Assignment o ((Refers o (codes "R") ([]) Unsubscripted) ∷ (Refers o (codes "Z") ((nm (codes "C2")) ∷ []) (ByParts o (ss ((One (FromBeginning (Literal o (Integer 2)))) ∷ [])) (ss ([])) (ss ([])))) ∷ []) (Referred (Refers o (codes "Z") ((nm (codes "C2")) ∷ []) (ByParts o (ss ((One (FromBeginning (Literal o (Integer 2)))) ∷ [])) (ss ([])) (ss ([]))))))) ∷ [])) (Some (nm (codes "U")))))) ∷ (inr (Labelled ([]) (UpdatePriority o None (Sum o (Some Minus) (Literal o (Integer 1)) (ts ([])))))) ∷ (inr (Labelled ([]) (Assignment o ((Refers o (codes "N") ([]) Unsubscripted) ∷ (Refers o (codes "B3") ([]) Unsubscripted) ∷ (Refers o (codes "B3") ([]) Unsubscripted) ∷ []) (Literal o (Bits 5 19))))) ∷ [])) (Some (nm (codes "Q"))))) ∷ (inl (BlockOf (nm (codes "Q2")) (Procedure o ((nm (codes "A2")) ∷ []) ((nm (codes "B4")) ∷ []) (Some (Reentrant o))) ((Declare o ([]) ((declared_of (nm (codes "A2")) ((Dimensions o (es ((Literal o (Integer 2)) ∷ []))) ∷ (Typed (BitKind o (Literal o (Integer 3)))) ∷ [])) ∷ [])) ∷ (Declare o ([]) ((declared_of (nm (codes "B4")) ((Dimensions o (es ((Literal o (Integer 2)) ∷ []))) ∷ (Typed (BitKind o (Literal o (Integer 3)))) ∷ [])) ∷ [])) ∷ (Declare o ([]) ((declared_of (nm (codes "J2")) ((Typed (IntegerKind o)) ∷ [])) ∷ [])) ∷ []) (el ((inr (Labelled ([]) (Assignment o ((Refers o (codes "J2") ([]) Unsubscripted) ∷ []) (Literal o (Integer 0))))) ∷ (inr (Labelled ([]) (OnErrorStatement o EveryError (Labelled ([]) (Do o (Groups (st ((Labelled ([]) (Assignment o ((Refers o (codes "J2") ([]) Unsubscripted) ∷ []) (Sum o None (Referred (Refers o (codes "J2") ([]) Unsubscripted)) (ts ((Plus, (Literal o (Integer 1))) ∷ []))))) ∷ (Labelled ([]) (Write o (Literal o (Integer 6)) (es ((Literal o (Text (codes "ERROR"))) ∷ (Referred (Refers o (codes "ERRGRP") ([]) Unsubscripted)) ∷ (Referred (Refers o (codes "ERRNUM") ([]) Unsubscripted)) ∷ (Referred (Refers o (codes "J2") ([]) Unsubscripted)) ∷ [])))) ∷ [])) None)))))) ∷ (inr (Labelled ([]) (If o (Compare o (Referred (Refers o (codes "J2") ([]) Unsubscripted)) Less (Literal o (Integer 2))) (Labelled ([]) (Do o (Groups (st ((Labelled ([]) (Scheduled o (scheduling (nm (codes "T")) None (Some (Sum o (Some Minus) (Literal o (Integer 1)) (ts ([])))) false None None))) ∷ [])) None))) NoAlternative))) ∷ [])) (Some (nm (codes "Q2"))))) ∷ (inl (BlockOf (nm (codes "T")) (Task o) ((Declare o ([]) ((declared_of (nm (codes "J3")) ((Typed (IntegerKind o)) ∷ [])) ∷ [])) ∷ []) (el ((inr (Labelled ([]) (OnErrorResponse o (OneError o o 1 o 5) Ignore None))) ∷ (inr (Labelled ([]) (Assignment o ((Refers o (codes "N") ([]) Unsubscripted) ∷ (Refers o (codes "N") ([]) (ByParts o (ss ([])) (ss ([])) (ss ((Portion (Literal o (Integer 1)) (FromBeginning (Literal o (Integer 1)))) ∷ [])))) ∷ []) (Not o (Not o (Referred (Refers o (codes "N") ([]) (ByParts o (ss ([])) (ss ([])) (ss ((Portion (Literal o (Integer 1)) (FromBeginning (Literal o (Integer 1)))) ∷ [])))))))))) ∷ (inr (Labelled ([]) (If o (Compare o (Literal o (Text (codes "AB"))) AtLeast (Referred (Refers o (codes "K") ([]) Unsubscripted))) (Labelled ([]) (Assignment o ((Refers o (codes "R2") ([]) Unsubscripted) ∷ (Refers o (codes "R2") ([]) Unsubscripted) ∷ []) (Parenthesis o (Cat o (Referred (Refers o (codes "I2") ([]) Unsubscripted)) (es ((Convert o ToText (Referred (Refers o (codes "N") ([]) Unsubscripted))) ∷ [])))))) (Otherwise (Labelled ([]) (Assignment o ((Refers o (codes "R") ([]) Unsubscripted) ∷ []) (Sum o None (Called o (codes "SIGNUM") (es ((Convert o ToInteger (Literal o (Text (codes "-007")))) ∷ []))) (ts ((Plus, (Literal o (Integer 255))) ∷ []))))))))) ∷ (inr (Labelled ([]) (Write o (Literal o (Integer 6)) (es ((And o (Literal o Off) (es ((Called o (codes "ODD") (es ((Referred (Refers o (codes "J3") ([]) Unsubscripted)) ∷ []))) ∷ []))) ∷ (Cat o (Parenthesis o (And o (Referred (Refers o (codes "N") ([]) (ByParts o (ss ([])) (ss ([])) (ss ((One (FromBeginning (Literal o (Integer 2)))) ∷ []))))) (es ((Referred (Refers o (codes "N") ([]) Unsubscripted)) ∷ [])))) (es ((Parenthesis o (Cat o (Referred (Refers o (codes "N") ([]) Unsubscripted)) (es ((Referred (Refers o (codes "N") ([]) Unsubscripted)) ∷ [])))) ∷ []))) ∷ []))))) ∷ [])) (Some (nm (codes "T"))))) ∷ [])) (Some (nm (codes "P"))))) ∷ [])

abbrev Says7 : Type 0
Says7 = reported 400 row7 ((line.Run 7) ∷ (line.Preempt (codes "P")) ∷ (line.Tick 1000) ∷ (line.Run 60) ∷ (line.Tick 2500) ∷ (line.Run 80) ∷ []) ≡ codes "6: 5 6\n6:                                                                                                    0 0 0011110\nend P.T 1000 error 1:4 0\nend P 1000 error 255:255 0\nP.R = 3\nP.Z.C$(1;1) = 000\nP.Z.C$(1;2) = 000\nP.Z.C2$(1;) = 0\nP.Z.C$(2;1) = 000\nP.Z.C$(2;2) = 000\nP.Z.C2$(2;) = 0\nP.N = 0\nP.R2 = '00'\nP.I = 0\nP.I2 = 0\nP.Q2.J2 = 0\nP.T.J3 = 0\n"

pub all_say : Says1 × Says2 × Says3 × Says4 × Says5 × Says6 × Says7
unfolding digits words_reserved.reserved_words words_reserved.left_out_words phrases_gathereddeclarations.gathered_kind phrases_gathereddeclarations.gathered_initial phrases_gathereddeclarations.gathered_initials phrases_gathereddeclarations.gathered_attribute phrases_gathereddeclarations.gathered_item phrases_gathereddeclarations.still_open phrases_gathereddeclarations.innermost phrases_gathereddeclarations.is_bottom phrases_gathereddeclarations.gathered_part phrases_gathereddeclarations.gathered_parts phrases_gathereddeclarations.gathered_declaration phrases_gatheredexpressions.gathered phrases_gatheredexpressions.gathered_all phrases_gatheredexpressions.gathered_terms phrases_gatheredexpressions.gathered_reference phrases_gatheredexpressions.gathered_subscript phrases_gatheredexpressions.gathered_subs phrases_gatheredexpressions.gathered_sub phrases_gatheredexpressions.gathered_position phrases_gatheredstatements.gathered_guard phrases_gatheredstatements.gathered_span phrases_gatheredstatements.gathered_start phrases_gatheredstatements.gathered_cycle phrases_gatheredstatements.gathered_limit phrases_gatheredstatements.gathered_schedule phrases_gatheredstatements.begun_for phrases_gatheredstatements.around_for phrases_gatheredstatements.gathered_statement phrases_gatheredstatements.gathered_basic phrases_gatheredstatements.gathered_alternative phrases_gatheredstatements.gathered_group phrases_gatheredstatements.gathered_statements phrases_gatheredunits.gathered_returns phrases_gatheredunits.gathered_head phrases_gatheredunits.gathered_block phrases_gatheredunits.gathered_elements phrases_gatheredunits.around_template phrases_gatheredunits.gathered_template phrases_gatheredunits.gathered_preface phrases_gatheredunits.gathered_prefaces phrases_gatheredunits.name_of_block phrases_gatheredunits.gathered_file phrases_gatheredunits.phrases_of phrases_members.gathered_member phrases_members.gathered_members names_declarations.is_declaring names_declarations.with_places names_declarations.with_all_chosen names_keys.declared_at names_keys.same_space names_keys.same_key names_keys.own names_means.is_compool_unit names_means.unit_named names_means.given_by names_means.shown names_means.shown_by names_means.included names_means.included_before names_means.prefaces_of names_means.nearest names_tasks.with_homes scope_builtins.builtins scope_components.has_path scope_components.is_structure scope_components.type_has scope_components.has_component scope_components.lacks_in scope_components.lacks scope_labels.is_label_of scope_labels.misclosed scope_labels.is_loop scope_labels.group_around scope_labels.misled scope_labels.astray scope_repeated.given scope_repeated.is_of_block scope_repeated.twice scope_repeated.declares_one_there scope_repeated.declarations_of scope_repeated.included_twice scope_repeated.is_item scope_repeated.undeclared scope_rules.fault scope_rules.first_fault scope_sorts.type_in scope_sorts.type_among scope_sorts.sort_of_type scope_sorts.sort_of_head scope_sorts.sort_of scope_sorts.usage_of scope_sorts.use_of_reference scope_sorts.used scope_uses.unknown scope_uses.is_eventful scope_uses.is_nil scope_uses.refers_to_event scope_uses.holds_event scope_uses.hold_event scope_uses.limit_of scope_uses.limit_around scope_uses.misused kinds_attributes.count_of kinds_attributes.no_more kinds_attributes.sizes_in kinds_attributes.sizes_among kinds_attributes.initial_in kinds_attributes.initial_among kinds_attributes.constant_in kinds_attributes.constant_among kinds_attributes.same_mark kinds_attributes.is_mark kinds_classes.class_of_result kinds_classes.class_of_returns kinds_classes.class_of_head kinds_classes.class_of_form kinds_classes.class_of_builtin kinds_classes.class_at kinds_classes.class_of_reference kinds_classes.class_of_function kinds_classes.class_of_called_head kinds_classes.class_of_called kinds_classes.class_of_literal kinds_classes.class_of_conversion kinds_classes.beside kinds_classes.joined kinds_classes.enclosed kinds_classes.class_of kinds_classes.class_beside kinds_classes.class_joined kinds_data.class_of_type kinds_data.has_copies kinds_data.dimensions_of kinds_data.data_of kinds_data.part_data kinds_data.part_under kinds_data.data_at_part kinds_data.component_of kinds_data.component_data kinds_data.data_at kinds_data.is_event_type kinds_data.is_structure_type kinds_subscripts.subscript_count kinds_subscripts.is_many kinds_subscripts.are_many kinds_subscripts.parts_chosen kinds_subscripts.choice_of kinds_subscripts.is_structure_class constants_constants.operation_of_sign constants_constants.signed constants_constants.operation_of_conversion constants_constants.raised_to constants_constants.raised constants_constants.is_none constants_constants.factor_at constants_constants.constant_of constants_constants.folded constants_constants.summed constants_constants.computed constants_constants.computed_second constants_constants.multiplied constants_constants.referred constants_constants.subscripted constants_constants.component_of constants_constants.component_by constants_constants.place_of constants_known.size_of_integer constants_known.size_of_value constants_known.size_of constants_known.bits_kind constants_known.text_kind constants_known.kind_of constants_known.kind_of_type constants_known.gives_none constants_known.give_none constants_known.only_of constants_known.only_with constants_known.kept constants_known.fitted constants_known.only_in constants_known.declared_value constants_known.round constants_known.is_file constants_known.is_pooled constants_known.rounds constants_naming.constant_known constants_naming.constant_at constants_naming.literal_constant constants_naming.operation_of constants_operands.takes_one constants_operands.takes_two constants_operands.is_storable constants_operands.has_components constants_results.worth constants_results.worse constants_results.apply_one constants_results.apply_two constants_results.component_at constants_results.component_to constants_results.component_from constants_results.picked_one constants_results.picked_to constants_results.picked_from states_ofkinds.is_of
all_say = (refl, refl, refl, refl, refl, refl, refl)
