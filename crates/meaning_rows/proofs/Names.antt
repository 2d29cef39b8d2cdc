-- Rows of names.txt, written by tools/meaning_rows.
use Rattle.std.specs.Prelude.{◌≡◌, ℕ, List, [], ◌∷◌, Option, Some, None, true, false, codes}
use Rattle.std.specs.Fmt.{digits}
use Rattle.std.proofs.Common.{refl, inl, inr}
use Rattle.hal_grammar.specs.Leaves.{Plus, Minus, Equal, Less, Greater, AtMost, AtLeast, NotEqual, NotLess, NotGreater, ToInteger, ToBits, ToText, Integer, Text, Bits, True, False, On, Off}
use Rattle.hal_grammar.specs.Expressions.{Or, And, Compare, Cat, Sum, Product, Power, Not, Literal, Decimal, Referred, Called, Convert, Parenthesis, Refers, Unsubscripted, ByName, ByInteger, ByParts, Every, One, Range, Portion, FromBeginning, FromEnd}
use Rattle.hal_grammar.specs.Declarations.{Single, Double, Latched, Static, Automatic, Dense, Aligned, IntegerKind, BooleanKind, EventKind, BitKind, CharacterKind, StructureKind, Value, LiteralTimes, NameTimes, ListTimes, Dimensions, Typed, Marked, LockGroup, LockAny, InitialValues, ConstantValues, declared_of, part_of, Declare, Structure}
use Rattle.hal_grammar.specs.Statements.{While, Until, Stepped, Listed, EveryError, GroupErrors, OneError, Signal, Set, Reset, eventful, System, Ignore, StartAt, StartIn, StartOn, Cyclic, CyclicEvery, CyclicAfter, scheduling, Labelled, Null, Assignment, If, Do, DoCase, DoLoop, DoFor, Exit, Repeat, Return, Call, Read, Write, Update, Scheduled, Cancel, Terminate, Wait, WaitUntil, WaitForDependent, WaitFor, Event, UpdatePriority, OnErrorStatement, OnErrorResponse, OffError, SendError, NoAlternative, Otherwise, Groups}
use Rattle.hal_grammar.specs.Units.{Reentrant, Exclusive, SinglePrecision, DoublePrecision, NoKind, HasKind, Program, Compool, Task, Procedure, Function, BlockOf, template_of, Include, Templates, File, file_of}
use Rattle.exec_model.specs.declared.script.ScriptLine.TheVariants as line
use Rattle.meaning_rows.specs.Trees.{o, nm, es, ts, ss, is, st, el}
use Rattle.meaning_rows.specs.Playing.{reported}
use Rattle.meaning_rows.specs.Listing.{storage, names, names_by_phrases}
use Rattle.hal_words.specs.Reserved as words_reserved
use Rattle.hal_phrases.specs.GatheredDeclarations as phrases_gathereddeclarations
use Rattle.hal_phrases.specs.GatheredExpressions as phrases_gatheredexpressions
use Rattle.hal_phrases.specs.GatheredStatements as phrases_gatheredstatements
use Rattle.hal_phrases.specs.GatheredUnits as phrases_gatheredunits
use Rattle.hal_phrases.specs.Members as phrases_members
use Rattle.hal_names.specs.Declarations as names_declarations
use Rattle.hal_names.specs.Keys as names_keys
use Rattle.hal_names.specs.Means as names_means
use Rattle.hal_names.specs.Tasks as names_tasks
use Rattle.hal_scope.specs.Builtins as scope_builtins
use Rattle.hal_scope.specs.Components as scope_components
use Rattle.hal_scope.specs.Labels as scope_labels
use Rattle.hal_scope.specs.Repeated as scope_repeated
use Rattle.hal_scope.specs.Rules as scope_rules
use Rattle.hal_scope.specs.Sorts as scope_sorts
use Rattle.hal_scope.specs.Uses as scope_uses
use Rattle.hal_kinds.specs.Attributes as kinds_attributes
use Rattle.hal_kinds.specs.Classes as kinds_classes
use Rattle.hal_kinds.specs.Data as kinds_data
use Rattle.hal_kinds.specs.Subscripts as kinds_subscripts
use Rattle.hal_constants.specs.Constants as constants_constants
use Rattle.hal_constants.specs.Known as constants_known
use Rattle.hal_constants.specs.Naming as constants_naming
use Rattle.hal_constants.specs.Operands as constants_operands
use Rattle.hal_constants.specs.Results as constants_results
use Rattle.hal_states.specs.OfKinds as states_ofkinds

-- a TEMPORARY variable is known in its group alone
abbrev row1 : List File
row1 = ((file_of ([]) (BlockOf (nm (codes "P")) (Program o) ((Declare o ([]) ((declared_of (nm (codes "K")) ((Typed (IntegerKind o)) ∷ [])) ∷ (declared_of (nm (codes "N")) ((Typed (IntegerKind o)) ∷ [])) ∷ [])) ∷ []) (el ((inr (Labelled ([]) (DoFor o true (nm (codes "K")) (Stepped (Literal o (Integer 1)) (Literal o (Integer 3)) None) None (Groups (st ((Labelled ([]) (Assignment o ((Refers o (codes "N") ([]) Unsubscripted) ∷ []) (Sum o None (Referred (Refers o (codes "N") ([]) Unsubscripted)) (ts ((Plus, (Referred (Refers o (codes "K") ([]) Unsubscripted))) ∷ []))))) ∷ [])) None)))) ∷ (inr (Labelled ([]) (Assignment o ((Refers o (codes "K") ([]) Unsubscripted) ∷ []) (Referred (Refers o (codes "N") ([]) Unsubscripted))))) ∷ [])) (Some (nm (codes "P"))))) ∷ [])

abbrev Says1 : Type 0
Says1 = (names row1 ≡ codes "unit P\nN = P.N\nN = P.N\nK = P.K temporary\nK = P.K\nN = P.N\n") × (names_by_phrases row1 ≡ codes "unit P\nN = P.N\nN = P.N\nK = P.K temporary\nK = P.K\nN = P.N\n")

-- groups with TEMPORARY variables in each other, with a guard
abbrev row2 : List File
row2 = ((file_of ([]) (BlockOf (nm (codes "P")) (Program o) ((Declare o ([]) ((declared_of (nm (codes "N")) ((Typed (IntegerKind o)) ∷ [])) ∷ [])) ∷ []) (el ((inr (Labelled ([]) (DoFor o true (nm (codes "I")) (Stepped (Literal o (Integer 1)) (Literal o (Integer 3)) None) (Some (While o (Compare o (Referred (Refers o (codes "I") ([]) Unsubscripted)) Less (Referred (Refers o (codes "N") ([]) Unsubscripted))))) (Groups (st ((Labelled ([]) (DoFor o true (nm (codes "J")) (Stepped (Referred (Refers o (codes "I") ([]) Unsubscripted)) (Literal o (Integer 4)) None) None (Groups (st ((Labelled ([]) (Assignment o ((Refers o (codes "N") ([]) Unsubscripted) ∷ []) (Product o (Referred (Refers o (codes "I") ([]) Unsubscripted)) (es ((Referred (Refers o (codes "J") ([]) Unsubscripted)) ∷ []))))) ∷ [])) None))) ∷ (Labelled ([]) (Do o (Groups (st ((Labelled ([]) (Assignment o ((Refers o (codes "N") ([]) Unsubscripted) ∷ []) (Referred (Refers o (codes "I") ([]) Unsubscripted)))) ∷ [])) None))) ∷ [])) None)))) ∷ [])) (Some (nm (codes "P"))))) ∷ [])

abbrev Says2 : Type 0
Says2 = (names row2 ≡ codes "unit P\nI = P.I temporary\nN = P.N\nI = P.I temporary\nN = P.N\nI = P.I temporary\nJ = P.J temporary\nN = P.N\nI = P.I temporary\n") × (names_by_phrases row2 ≡ codes "unit P\nI = P.I temporary\nN = P.N\nI = P.I temporary\nN = P.N\nI = P.I temporary\nJ = P.J temporary\nN = P.N\nI = P.I temporary\n")

-- groups before it don't shift the number of a group
abbrev row3 : List File
row3 = ((file_of ([]) (BlockOf (nm (codes "P")) (Program o) ((Declare o ([]) ((declared_of (nm (codes "K")) ((Typed (IntegerKind o)) ∷ [])) ∷ (declared_of (nm (codes "N")) ((Typed (IntegerKind o)) ∷ [])) ∷ [])) ∷ []) (el ((inr (Labelled ([]) (If o (Compare o (Referred (Refers o (codes "N") ([]) Unsubscripted)) Equal (Literal o (Integer 0))) (Labelled ([]) (Do o (Groups (st ((Labelled ([]) (DoLoop o (While o (Compare o (Referred (Refers o (codes "N") ([]) Unsubscripted)) Less (Literal o (Integer 2)))) (Groups (st ((Labelled ([]) (Assignment o ((Refers o (codes "N") ([]) Unsubscripted) ∷ []) (Sum o None (Referred (Refers o (codes "N") ([]) Unsubscripted)) (ts ((Plus, (Literal o (Integer 1))) ∷ []))))) ∷ [])) None))) ∷ [])) None))) (Otherwise (Labelled ([]) (DoFor o false (nm (codes "K")) (Listed (es ((Literal o (Integer 1)) ∷ (Literal o (Integer 2)) ∷ []))) None (Groups (st ((Labelled ([]) (Assignment o ((Refers o (codes "N") ([]) Unsubscripted) ∷ []) (Referred (Refers o (codes "K") ([]) Unsubscripted)))) ∷ [])) None))))))) ∷ (inr (Labelled ([]) (DoFor o true (nm (codes "K")) (Stepped (Literal o (Integer 1)) (Literal o (Integer 2)) None) None (Groups (st ((Labelled ([]) (Assignment o ((Refers o (codes "N") ([]) Unsubscripted) ∷ []) (Referred (Refers o (codes "K") ([]) Unsubscripted)))) ∷ [])) None)))) ∷ [])) (Some (nm (codes "P"))))) ∷ [])

abbrev Says3 : Type 0
Says3 = (names row3 ≡ codes "unit P\nN = P.N\nN = P.N\nN = P.N\nN = P.N\nK = P.K\nN = P.N\nK = P.K\nN = P.N\nK = P.K temporary\n") × (names_by_phrases row3 ≡ codes "unit P\nN = P.N\nN = P.N\nN = P.N\nN = P.N\nK = P.K\nN = P.N\nK = P.K\nN = P.N\nK = P.K temporary\n")

-- statements of ON ERROR, UPDATE blocks and real-time statements don't shift it either
abbrev row4 : List File
row4 = ((file_of ([]) (BlockOf (nm (codes "P")) (Program o) ((Declare o ([]) ((declared_of (nm (codes "N")) ((Typed (IntegerKind o)) ∷ [])) ∷ (declared_of (nm (codes "E")) ((Typed (EventKind o)) ∷ [])) ∷ (declared_of (nm (codes "M")) ((Typed (IntegerKind o)) ∷ (LockGroup o (Literal o (Integer 1))) ∷ [])) ∷ [])) ∷ []) (el ((inr (Labelled ([]) (OnErrorStatement o (OneError o o 1 o 1) (Labelled ([]) (Do o (Groups (st ((Labelled ([]) (Assignment o ((Refers o (codes "N") ([]) Unsubscripted) ∷ []) (Literal o (Integer 1)))) ∷ [])) None)))))) ∷ (inr (Labelled ([]) (Scheduled o (scheduling (nm (codes "T")) (Some (StartOn o (Referred (Refers o (codes "E") ([]) Unsubscripted)))) (Some (Referred (Refers o (codes "N") ([]) Unsubscripted))) false None None)))) ∷ (inr (Labelled ([]) (WaitFor o (Referred (Refers o (codes "E") ([]) Unsubscripted))))) ∷ (inr (Labelled ([]) (Wait o (Referred (Refers o (codes "N") ([]) Unsubscripted))))) ∷ (inr (Labelled ((nm (codes "U")) ∷ []) (Update o (st ((Labelled ([]) (DoFor o true (nm (codes "N")) (Stepped (Literal o (Integer 1)) (Literal o (Integer 2)) None) None (Groups (st ((Labelled ([]) (Assignment o ((Refers o (codes "M") ([]) Unsubscripted) ∷ []) (Referred (Refers o (codes "N") ([]) Unsubscripted)))) ∷ [])) None))) ∷ [])) (Some (nm (codes "U")))))) ∷ (inr (Labelled ([]) (DoFor o true (nm (codes "M")) (Stepped (Literal o (Integer 1)) (Literal o (Integer 2)) None) None (Groups (st ((Labelled ([]) (Assignment o ((Refers o (codes "N") ([]) Unsubscripted) ∷ []) (Referred (Refers o (codes "M") ([]) Unsubscripted)))) ∷ [])) None)))) ∷ (inr (Labelled ([]) (Cancel o ((nm (codes "T")) ∷ [])))) ∷ (inr (Labelled ([]) (Event (eventful o Signal (nm (codes "E")))))) ∷ (inl (BlockOf (nm (codes "T")) (Task o) ([]) (el ([])) (Some (nm (codes "T"))))) ∷ [])) (Some (nm (codes "P"))))) ∷ [])

abbrev Says4 : Type 0
Says4 = (names row4 ≡ codes "unit P\nN = P.N\nT = P.T\nE = P.E\nN = P.N\nE = P.E\nN = P.N\nM = P.M\nN = P.N temporary\nN = P.N\nM = P.M temporary\nT = P.T\nE = P.E\nunit P.T\n") × (names_by_phrases row4 ≡ codes "unit P\nN = P.N\nT = P.T\nE = P.E\nN = P.N\nE = P.E\nN = P.N\nM = P.M\nN = P.N temporary\nN = P.N\nM = P.M temporary\nT = P.T\nE = P.E\nunit P.T\n")

-- names of the units around, and of parameters
abbrev row5 : List File
row5 = ((file_of ([]) (BlockOf (nm (codes "P")) (Program o) ((Declare o ([]) ((declared_of (nm (codes "N")) ((Typed (IntegerKind o)) ∷ [])) ∷ (declared_of (nm (codes "A")) ((Typed (IntegerKind o)) ∷ [])) ∷ [])) ∷ []) (el ((inr (Labelled ([]) (Call o (nm (codes "Q")) (es ((Referred (Refers o (codes "N") ([]) Unsubscripted)) ∷ [])) ((Refers o (codes "A") ([]) Unsubscripted) ∷ [])))) ∷ (inl (BlockOf (nm (codes "Q")) (Procedure o ((nm (codes "X")) ∷ []) ((nm (codes "Y")) ∷ []) None) ((Declare o ([]) ((declared_of (nm (codes "X")) ((Typed (IntegerKind o)) ∷ [])) ∷ (declared_of (nm (codes "Y")) ((Typed (IntegerKind o)) ∷ [])) ∷ (declared_of (nm (codes "N")) ((Typed (IntegerKind o)) ∷ [])) ∷ [])) ∷ []) (el ((inr (Labelled ([]) (DoFor o true (nm (codes "A")) (Stepped (Literal o (Integer 1)) (Literal o (Integer 2)) None) None (Groups (st ((Labelled ([]) (Assignment o ((Refers o (codes "Y") ([]) Unsubscripted) ∷ []) (Sum o None (Referred (Refers o (codes "X") ([]) Unsubscripted)) (ts ((Plus, (Referred (Refers o (codes "N") ([]) Unsubscripted))) ∷ (Plus, (Referred (Refers o (codes "A") ([]) Unsubscripted))) ∷ []))))) ∷ [])) None)))) ∷ (inr (Labelled ([]) (Assignment o ((Refers o (codes "A") ([]) Unsubscripted) ∷ []) (Called o (codes "F") (es ((Referred (Refers o (codes "A") ([]) Unsubscripted)) ∷ [])))))) ∷ (inl (BlockOf (nm (codes "F")) (Function o ((nm (codes "N")) ∷ []) (HasKind (IntegerKind o) None) None) ((Declare o ([]) ((declared_of (nm (codes "N")) ((Typed (IntegerKind o)) ∷ [])) ∷ [])) ∷ []) (el ((inr (Labelled ([]) (Return o (Some (Sum o None (Referred (Refers o (codes "N") ([]) Unsubscripted)) (ts ((Plus, (Referred (Refers o (codes "A") ([]) Unsubscripted))) ∷ []))))))) ∷ [])) (Some (nm (codes "F"))))) ∷ [])) (Some (nm (codes "Q"))))) ∷ [])) (Some (nm (codes "P"))))) ∷ [])

abbrev Says5 : Type 0
Says5 = (names row5 ≡ codes "unit P\nQ = P.Q\nN = P.N\nA = P.A\nunit P.Q\nY = P.Q.Y\nX = P.Q.X\nN = P.Q.N\nA = P.Q.A temporary\nA = P.A\nF = P.Q.F\nA = P.A\nunit P.Q.F\nN = P.Q.F.N\nA = P.A\n") × (names_by_phrases row5 ≡ codes "unit P\nQ = P.Q\nN = P.N\nA = P.A\nunit P.Q\nY = P.Q.Y\nX = P.Q.X\nN = P.Q.N\nA = P.Q.A temporary\nA = P.A\nF = P.Q.F\nA = P.A\nunit P.Q.F\nN = P.Q.F.N\nA = P.A\n")

-- names in subscripts, lists and operands of each kind
abbrev row6 : List File
row6 = ((file_of ([]) (BlockOf (nm (codes "P")) (Program o) ((Structure o (nm (codes "S")) ((part_of o 1 (nm (codes "C")) ((Dimensions o (es ((Literal o (Integer 3)) ∷ []))) ∷ (Typed (IntegerKind o)) ∷ [])) ∷ [])) ∷ (Declare o ([]) ((declared_of (nm (codes "A")) ((Dimensions o (es ((Literal o (Integer 3)) ∷ []))) ∷ (Typed (IntegerKind o)) ∷ [])) ∷ (declared_of (nm (codes "B")) ((Typed (BitKind o (Literal o (Integer 8)))) ∷ [])) ∷ (declared_of (nm (codes "T")) ((Typed (CharacterKind o (Literal o (Integer 9)))) ∷ [])) ∷ (declared_of (nm (codes "Z")) ((Typed (StructureKind o (codes "S") (Some (Literal o (Integer 2))))) ∷ [])) ∷ (declared_of (nm (codes "I")) ((Typed (IntegerKind o)) ∷ [])) ∷ (declared_of (nm (codes "J")) ((Typed (IntegerKind o)) ∷ [])) ∷ [])) ∷ []) (el ((inr (Labelled ([]) (Assignment o ((Refers o (codes "A") ([]) (ByName o (nm (codes "I")))) ∷ []) (Sum o None (Referred (Refers o (codes "A") ([]) (ByParts o (ss ([])) (ss ([])) (ss ((One (FromBeginning (Referred (Refers o (codes "I") ([]) Unsubscripted)))) ∷ []))))) (ts ((Plus, (Product o (Referred (Refers o (codes "A") ([]) (ByParts o (ss ([])) (ss ([])) (ss ((One (FromBeginning (Sum o None (Referred (Refers o (codes "J") ([]) Unsubscripted)) (ts ((Plus, (Referred (Refers o (codes "I") ([]) Unsubscripted))) ∷ []))))) ∷ []))))) (es ((Parenthesis o (Literal o (Integer 2))) ∷ [])))) ∷ [])))))) ∷ (inr (Labelled ([]) (Assignment o ((Refers o (codes "Z") ((nm (codes "C")) ∷ []) (ByParts o (ss ((One (FromBeginning (Referred (Refers o (codes "I") ([]) Unsubscripted)))) ∷ [])) (ss ([])) (ss ((One (FromBeginning (Referred (Refers o (codes "J") ([]) Unsubscripted)))) ∷ [])))) ∷ []) (Sum o (Some Minus) (Product o (Called o (codes "ABS") (es ((Referred (Refers o (codes "I") ([]) Unsubscripted)) ∷ []))) (es ((Power o (Referred (Refers o (codes "J") ([]) Unsubscripted)) (Literal o (Integer 2))) ∷ []))) (ts ([])))))) ∷ (inr (Labelled ([]) (Assignment o ((Refers o (codes "B") ([]) (ByParts o (ss ([])) (ss ([])) (ss ((Range (FromBeginning (Referred (Refers o (codes "I") ([]) Unsubscripted))) (FromBeginning (Referred (Refers o (codes "J") ([]) Unsubscripted)))) ∷ [])))) ∷ []) (Or o (Not o (Referred (Refers o (codes "B") ([]) (ByParts o (ss ([])) (ss ([])) (ss ((Portion (Literal o (Integer 2)) (FromBeginning (Referred (Refers o (codes "J") ([]) Unsubscripted)))) ∷ [])))))) (es ((Referred (Refers o (codes "B") ([]) Unsubscripted)) ∷ [])))))) ∷ (inr (Labelled ([]) (Assignment o ((Refers o (codes "T") ([]) Unsubscripted) ∷ []) (Cat o (Referred (Refers o (codes "T") ([]) (ByParts o (ss ([])) (ss ([])) (ss ((Range (FromBeginning (Literal o (Integer 1))) (FromEnd o (ts ((Minus, (Referred (Refers o (codes "J") ([]) Unsubscripted))) ∷ [])))) ∷ []))))) (es ((Convert o ToText (Referred (Refers o (codes "I") ([]) Unsubscripted))) ∷ [])))))) ∷ (inr (Labelled ([]) (If o (And o (Compare o (Referred (Refers o (codes "I") ([]) Unsubscripted)) Equal (Referred (Refers o (codes "J") ([]) Unsubscripted))) (es ((Parenthesis o (Or o (Referred (Refers o (codes "B") ([]) Unsubscripted)) (es ((Referred (Refers o (codes "B") ([]) Unsubscripted)) ∷ [])))) ∷ []))) (Labelled ([]) (Read o (Literal o (Integer 5)) ((Refers o (codes "I") ([]) Unsubscripted) ∷ (Refers o (codes "A") ([]) (ByParts o (ss ([])) (ss ([])) (ss ((One (FromBeginning (Referred (Refers o (codes "J") ([]) Unsubscripted)))) ∷ [])))) ∷ []))) (Otherwise (Labelled ([]) (Write o (Literal o (Integer 6)) (es ((Referred (Refers o (codes "T") ([]) Unsubscripted)) ∷ (Convert o ToInteger (Referred (Refers o (codes "B") ([]) Unsubscripted))) ∷ (Referred (Refers o (codes "RUNTIME") ([]) Unsubscripted)) ∷ [])))))))) ∷ [])) (Some (nm (codes "P"))))) ∷ [])

abbrev Says6 : Type 0
Says6 = (names row6 ≡ codes "unit P\nA = P.A\nI = P.I\nA = P.A\nI = P.I\nA = P.A\nJ = P.J\nI = P.I\nZ = P.Z\nI = P.I\nJ = P.J\nABS = built in\nI = P.I\nJ = P.J\nB = P.B\nI = P.I\nJ = P.J\nB = P.B\nJ = P.J\nB = P.B\nT = P.T\nT = P.T\nJ = P.J\nI = P.I\nI = P.I\nJ = P.J\nB = P.B\nB = P.B\nI = P.I\nA = P.A\nJ = P.J\nT = P.T\nB = P.B\nRUNTIME = built in\n") × (names_by_phrases row6 ≡ codes "unit P\nA = P.A\nI = P.I\nA = P.A\nI = P.I\nA = P.A\nJ = P.J\nI = P.I\nZ = P.Z\nI = P.I\nJ = P.J\nABS = built in\nI = P.I\nJ = P.J\nB = P.B\nI = P.I\nJ = P.J\nB = P.B\nJ = P.J\nB = P.B\nT = P.T\nT = P.T\nJ = P.J\nI = P.I\nI = P.I\nJ = P.J\nB = P.B\nB = P.B\nI = P.I\nA = P.A\nJ = P.J\nT = P.T\nB = P.B\nRUNTIME = built in\n")

-- names of a COMPOOL; those of declarations come before
abbrev row7 : List File
row7 = ((file_of ([]) (BlockOf (nm (codes "POOL")) (Compool o) ((Declare o ([]) ((declared_of (nm (codes "N")) ((Typed (IntegerKind o)) ∷ (ConstantValues o (is ((Value (Literal o (Integer 3))) ∷ []))) ∷ [])) ∷ (declared_of (nm (codes "X")) ((Typed (IntegerKind o)) ∷ [])) ∷ [])) ∷ []) (el ([])) (Some (nm (codes "POOL"))))) ∷ (file_of ((Include o (nm (codes "POOL"))) ∷ []) (BlockOf (nm (codes "P")) (Program o) ((Declare o ([]) ((declared_of (nm (codes "A")) ((Dimensions o (es ((Referred (Refers o (codes "N") ([]) Unsubscripted)) ∷ []))) ∷ (Typed (IntegerKind o)) ∷ (InitialValues o (is ((Value (Referred (Refers o (codes "N") ([]) Unsubscripted))) ∷ []))) ∷ [])) ∷ (declared_of (nm (codes "M")) ((Typed (IntegerKind o)) ∷ [])) ∷ [])) ∷ []) (el ((inr (Labelled ([]) (Assignment o ((Refers o (codes "A") ([]) (ByParts o (ss ([])) (ss ([])) (ss ((One (FromBeginning (Literal o (Integer 1)))) ∷ [])))) ∷ []) (Sum o None (Referred (Refers o (codes "X") ([]) Unsubscripted)) (ts ((Plus, (Referred (Refers o (codes "N") ([]) Unsubscripted))) ∷ [])))))) ∷ (inr (Labelled ([]) (DoFor o true (nm (codes "X")) (Stepped (Referred (Refers o (codes "N") ([]) Unsubscripted)) (Referred (Refers o (codes "M") ([]) Unsubscripted)) None) None (Groups (st ((Labelled ([]) (Assignment o ((Refers o (codes "M") ([]) Unsubscripted) ∷ []) (Referred (Refers o (codes "X") ([]) Unsubscripted)))) ∷ [])) None)))) ∷ [])) (Some (nm (codes "P"))))) ∷ [])

abbrev Says7 : Type 0
Says7 = (names row7 ≡ codes "unit POOL\nunit P\nA = P.A\nX = POOL.X\nN = POOL.N\nN = POOL.N\nM = P.M\nM = P.M\nX = P.X temporary\n") × (names_by_phrases row7 ≡ codes "unit POOL\nunit P\nA = P.A\nX = POOL.X\nN = POOL.N\nN = POOL.N\nM = P.M\nM = P.M\nX = P.X temporary\n")

-- cases, and a group within a case
abbrev row8 : List File
row8 = ((file_of ([]) (BlockOf (nm (codes "P")) (Program o) ((Declare o ([]) ((declared_of (nm (codes "N")) ((Typed (IntegerKind o)) ∷ [])) ∷ (declared_of (nm (codes "K")) ((Typed (IntegerKind o)) ∷ [])) ∷ [])) ∷ []) (el ((inr (Labelled ([]) (DoCase o (Referred (Refers o (codes "N") ([]) Unsubscripted)) (Otherwise (Labelled ([]) (DoFor o true (nm (codes "K")) (Stepped (Literal o (Integer 1)) (Literal o (Integer 2)) None) None (Groups (st ((Labelled ([]) (Assignment o ((Refers o (codes "N") ([]) Unsubscripted) ∷ []) (Referred (Refers o (codes "K") ([]) Unsubscripted)))) ∷ [])) None)))) (Groups (st ((Labelled ([]) (Assignment o ((Refers o (codes "K") ([]) Unsubscripted) ∷ []) (Literal o (Integer 1)))) ∷ (Labelled ([]) (DoFor o true (nm (codes "N")) (Stepped (Referred (Refers o (codes "K") ([]) Unsubscripted)) (Literal o (Integer 2)) None) None (Groups (st ((Labelled ([]) (Assignment o ((Refers o (codes "K") ([]) Unsubscripted) ∷ []) (Referred (Refers o (codes "N") ([]) Unsubscripted)))) ∷ [])) None))) ∷ [])) None)))) ∷ (inr (Labelled ([]) (DoFor o true (nm (codes "K")) (Stepped (Referred (Refers o (codes "N") ([]) Unsubscripted)) (Literal o (Integer 2)) None) None (Groups (st ((Labelled ([]) (Assignment o ((Refers o (codes "N") ([]) Unsubscripted) ∷ []) (Referred (Refers o (codes "K") ([]) Unsubscripted)))) ∷ [])) None)))) ∷ [])) (Some (nm (codes "P"))))) ∷ [])

abbrev Says8 : Type 0
Says8 = (names row8 ≡ codes "unit P\nN = P.N\nN = P.N\nK = P.K temporary\nK = P.K\nK = P.K\nK = P.K\nN = P.N temporary\nN = P.N\nN = P.N\nK = P.K temporary\n") × (names_by_phrases row8 ≡ codes "unit P\nN = P.N\nN = P.N\nK = P.K temporary\nK = P.K\nK = P.K\nK = P.K\nN = P.N temporary\nN = P.N\nN = P.N\nK = P.K temporary\n")

-- events, processes and priorities
abbrev row9 : List File
row9 = ((file_of ([]) (BlockOf (nm (codes "P")) (Program o) ((Declare o ([]) ((declared_of (nm (codes "E")) ((Typed (EventKind o)) ∷ (Marked o Latched) ∷ [])) ∷ (declared_of (nm (codes "N")) ((Typed (IntegerKind o)) ∷ [])) ∷ [])) ∷ []) (el ((inr (Labelled ([]) (Scheduled o (scheduling (nm (codes "T")) (Some (StartAt o (Referred (Refers o (codes "N") ([]) Unsubscripted)))) (Some (Sum o None (Referred (Refers o (codes "N") ([]) Unsubscripted)) (ts ((Plus, (Literal o (Integer 1))) ∷ [])))) false (Some (CyclicEvery o (Referred (Refers o (codes "N") ([]) Unsubscripted)))) (Some (Until o (And o (Referred (Refers o (codes "E") ([]) Unsubscripted)) (es ((Not o (Referred (Refers o (codes "T") ([]) Unsubscripted))) ∷ []))))))))) ∷ (inr (Labelled ([]) (OnErrorResponse o (OneError o o 1 o 1) Ignore (Some (eventful o Set (nm (codes "E"))))))) ∷ (inr (Labelled ([]) (UpdatePriority o (Some (nm (codes "T"))) (Referred (Refers o (codes "N") ([]) Unsubscripted))))) ∷ (inr (Labelled ([]) (Terminate o ((nm (codes "T")) ∷ [])))) ∷ (inr (Labelled ([]) (WaitUntil o (Referred (Refers o (codes "N") ([]) Unsubscripted))))) ∷ (inr (Labelled ([]) (Event (eventful o Reset (nm (codes "E")))))) ∷ (inr (Labelled ([]) (If o (Referred (Refers o (codes "E") ([]) Unsubscripted)) (Labelled ([]) (Assignment o ((Refers o (codes "N") ([]) Unsubscripted) ∷ []) (Literal o (Integer 1)))) NoAlternative))) ∷ (inr (Labelled ([]) (OffError o (OneError o o 1 o 1)))) ∷ (inr (Labelled ([]) (SendError o o 7 o 7))) ∷ (inl (BlockOf (nm (codes "T")) (Task o) ([]) (el ((inr (Labelled ([]) (DoFor o true (nm (codes "E")) (Stepped (Literal o (Integer 1)) (Literal o (Integer 2)) None) None (Groups (st ((Labelled ([]) (Assignment o ((Refers o (codes "N") ([]) Unsubscripted) ∷ []) (Referred (Refers o (codes "E") ([]) Unsubscripted)))) ∷ [])) None)))) ∷ (inr (Labelled ([]) (Terminate o ([])))) ∷ [])) (Some (nm (codes "T"))))) ∷ [])) (Some (nm (codes "P"))))) ∷ [])

abbrev Says9 : Type 0
Says9 = (names row9 ≡ codes "unit P\nT = P.T\nN = P.N\nN = P.N\nN = P.N\nE = P.E\nT = P.T\nE = P.E\nT = P.T\nN = P.N\nT = P.T\nN = P.N\nE = P.E\nE = P.E\nN = P.N\nunit P.T\nN = P.N\nE = P.T.E temporary\n") × (names_by_phrases row9 ≡ codes "unit P\nT = P.T\nN = P.N\nN = P.N\nN = P.N\nE = P.E\nT = P.T\nE = P.E\nT = P.T\nN = P.N\nT = P.T\nN = P.N\nE = P.E\nE = P.E\nN = P.N\nunit P.T\nN = P.N\nE = P.T.E temporary\n")

-- the units of a set each look up their own
abbrev row10 : List File
row10 = ((file_of ([]) (BlockOf (nm (codes "F")) (Function o ((nm (codes "N")) ∷ []) (HasKind (IntegerKind o) None) None) ((Declare o ([]) ((declared_of (nm (codes "N")) ((Typed (IntegerKind o)) ∷ [])) ∷ [])) ∷ []) (el ((inr (Labelled ((nm (codes "L")) ∷ []) (DoFor o true (nm (codes "K")) (Stepped (Referred (Refers o (codes "N") ([]) Unsubscripted)) (Literal o (Integer 9)) None) None (Groups (st ((Labelled ([]) (If o (Compare o (Referred (Refers o (codes "K") ([]) Unsubscripted)) Greater (Referred (Refers o (codes "N") ([]) Unsubscripted))) (Labelled ([]) (Exit o (Some (nm (codes "L"))))) (Otherwise (Labelled ([]) (Repeat o None))))) ∷ [])) (Some (nm (codes "L"))))))) ∷ (inr (Labelled ([]) (Return o (Some (Referred (Refers o (codes "N") ([]) Unsubscripted)))))) ∷ [])) (Some (nm (codes "F"))))) ∷ (file_of ((Include o (nm (codes "F"))) ∷ []) (BlockOf (nm (codes "P")) (Program o) ((Declare o ([]) ((declared_of (nm (codes "N")) ((Typed (IntegerKind o)) ∷ [])) ∷ (declared_of (nm (codes "K")) ((Typed (IntegerKind o)) ∷ [])) ∷ [])) ∷ []) (el ((inr (Labelled ([]) (DoLoop o (Until o (Compare o (Referred (Refers o (codes "N") ([]) Unsubscripted)) Greater (Referred (Refers o (codes "K") ([]) Unsubscripted)))) (Groups (st ((Labelled ([]) (Assignment o ((Refers o (codes "N") ([]) Unsubscripted) ∷ []) (Called o (codes "F") (es ((Referred (Refers o (codes "K") ([]) Unsubscripted)) ∷ []))))) ∷ [])) None)))) ∷ [])) (Some (nm (codes "P"))))) ∷ [])

abbrev Says10 : Type 0
Says10 = (names row10 ≡ codes "unit F\nN = F.N\nK = F.K temporary\nN = F.N\nN = F.N\nunit P\nN = P.N\nK = P.K\nN = P.N\nF = F\nK = P.K\n") × (names_by_phrases row10 ≡ codes "unit F\nN = F.N\nK = F.K temporary\nN = F.N\nN = F.N\nunit P\nN = P.N\nK = P.K\nN = P.N\nF = F\nK = P.K\n")

pub all_say : Says1 × Says2 × Says3 × Says4 × Says5 × Says6 × Says7 × Says8 × Says9 × Says10
unfolding digits words_reserved.reserved_words words_reserved.left_out_words phrases_gathereddeclarations.gathered_kind phrases_gathereddeclarations.gathered_initial phrases_gathereddeclarations.gathered_initials phrases_gathereddeclarations.gathered_attribute phrases_gathereddeclarations.gathered_item phrases_gathereddeclarations.still_open phrases_gathereddeclarations.innermost phrases_gathereddeclarations.is_bottom phrases_gathereddeclarations.gathered_part phrases_gathereddeclarations.gathered_parts phrases_gathereddeclarations.gathered_declaration phrases_gatheredexpressions.gathered phrases_gatheredexpressions.gathered_all phrases_gatheredexpressions.gathered_terms phrases_gatheredexpressions.gathered_reference phrases_gatheredexpressions.gathered_subscript phrases_gatheredexpressions.gathered_subs phrases_gatheredexpressions.gathered_sub phrases_gatheredexpressions.gathered_position phrases_gatheredstatements.gathered_guard phrases_gatheredstatements.gathered_span phrases_gatheredstatements.gathered_start phrases_gatheredstatements.gathered_cycle phrases_gatheredstatements.gathered_limit phrases_gatheredstatements.gathered_schedule phrases_gatheredstatements.begun_for phrases_gatheredstatements.around_for phrases_gatheredstatements.gathered_statement phrases_gatheredstatements.gathered_basic phrases_gatheredstatements.gathered_alternative phrases_gatheredstatements.gathered_group phrases_gatheredstatements.gathered_statements phrases_gatheredunits.gathered_returns phrases_gatheredunits.gathered_head phrases_gatheredunits.gathered_block phrases_gatheredunits.gathered_elements phrases_gatheredunits.around_template phrases_gatheredunits.gathered_template phrases_gatheredunits.gathered_preface phrases_gatheredunits.gathered_prefaces phrases_gatheredunits.name_of_block phrases_gatheredunits.gathered_file phrases_gatheredunits.phrases_of phrases_members.gathered_member phrases_members.gathered_members names_declarations.is_declaring names_declarations.with_places names_declarations.with_all_chosen names_keys.declared_at names_keys.same_space names_keys.same_key names_keys.own names_means.is_compool_unit names_means.unit_named names_means.given_by names_means.shown names_means.shown_by names_means.included names_means.included_before names_means.prefaces_of names_means.nearest names_tasks.with_homes scope_builtins.builtins scope_components.has_path scope_components.is_structure scope_components.type_has scope_components.has_component scope_components.lacks_in scope_components.lacks scope_labels.is_label_of scope_labels.misclosed scope_labels.is_loop scope_labels.group_around scope_labels.misled scope_labels.astray scope_repeated.given scope_repeated.is_of_block scope_repeated.twice scope_repeated.declares_one_there scope_repeated.declarations_of scope_repeated.included_twice scope_repeated.is_item scope_repeated.undeclared scope_rules.fault scope_rules.first_fault scope_sorts.type_in scope_sorts.type_among scope_sorts.sort_of_type scope_sorts.sort_of_head scope_sorts.sort_of scope_sorts.usage_of scope_sorts.use_of_reference scope_sorts.used scope_uses.unknown scope_uses.is_eventful scope_uses.is_nil scope_uses.refers_to_event scope_uses.holds_event scope_uses.hold_event scope_uses.limit_of scope_uses.limit_around scope_uses.misused kinds_attributes.count_of kinds_attributes.no_more kinds_attributes.sizes_in kinds_attributes.sizes_among kinds_attributes.initial_in kinds_attributes.initial_among kinds_attributes.constant_in kinds_attributes.constant_among kinds_attributes.same_mark kinds_attributes.is_mark kinds_classes.class_of_result kinds_classes.class_of_returns kinds_classes.class_of_head kinds_classes.class_of_form kinds_classes.class_of_builtin kinds_classes.class_at kinds_classes.class_of_reference kinds_classes.class_of_function kinds_classes.class_of_called_head kinds_classes.class_of_called kinds_classes.class_of_literal kinds_classes.class_of_conversion kinds_classes.beside kinds_classes.joined kinds_classes.enclosed kinds_classes.class_of kinds_classes.class_beside kinds_classes.class_joined kinds_data.class_of_type kinds_data.has_copies kinds_data.dimensions_of kinds_data.data_of kinds_data.part_data kinds_data.part_under kinds_data.data_at_part kinds_data.component_of kinds_data.component_data kinds_data.data_at kinds_data.is_event_type kinds_data.is_structure_type kinds_subscripts.subscript_count kinds_subscripts.is_many kinds_subscripts.are_many kinds_subscripts.parts_chosen kinds_subscripts.choice_of kinds_subscripts.is_structure_class constants_constants.operation_of_sign constants_constants.signed constants_constants.operation_of_conversion constants_constants.raised_to constants_constants.raised constants_constants.is_none constants_constants.factor_at constants_constants.constant_of constants_constants.folded constants_constants.summed constants_constants.computed constants_constants.computed_second constants_constants.multiplied constants_constants.referred constants_constants.subscripted constants_constants.component_of constants_constants.component_by constants_constants.place_of constants_known.size_of_integer constants_known.size_of_value constants_known.size_of constants_known.bits_kind constants_known.text_kind constants_known.kind_of constants_known.kind_of_type constants_known.gives_none constants_known.give_none constants_known.only_of constants_known.only_with constants_known.kept constants_known.fitted constants_known.only_in constants_known.declared_value constants_known.round constants_known.is_file constants_known.is_pooled constants_known.rounds constants_naming.constant_known constants_naming.constant_at constants_naming.literal_constant constants_naming.operation_of constants_operands.takes_one constants_operands.takes_two constants_operands.is_storable constants_operands.has_components constants_results.worth constants_results.worse constants_results.apply_one constants_results.apply_two constants_results.component_at constants_results.component_to constants_results.component_from constants_results.picked_one constants_results.picked_to constants_results.picked_from states_ofkinds.is_of
all_say = ((refl, refl), (refl, refl), (refl, refl), (refl, refl), (refl, refl), (refl, refl), (refl, refl), (refl, refl), (refl, refl), (refl, refl))
