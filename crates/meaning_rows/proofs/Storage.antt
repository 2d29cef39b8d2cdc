-- Rows of storage.txt, written by tools/meaning_rows.
use Rattle.std.specs.Prelude.{◌≡◌, ℕ, List, [], ◌∷◌, Option, Some, None, true, false, codes}
use Rattle.std.specs.Fmt.{digits}
use Rattle.std.proofs.Common.{refl, inl, inr}
use Rattle.hal_grammar.specs.Leaves.{Plus, Minus, Equal, Less, Greater, AtMost, AtLeast, NotEqual, NotLess, NotGreater, ToInteger, ToBits, ToText, Integer, Text, Bits, True, False, On, Off}
use Rattle.hal_grammar.specs.Expressions.{Or, And, Compare, Cat, Sum, Product, Power, Not, Literal, Decimal, Referred, Called, Convert, Parenthesis, Refers, Unsubscripted, ByName, ByInteger, ByParts, Every, One, Range, Portion, FromBeginning, FromEnd}
use Rattle.hal_grammar.specs.Declarations.{Single, Double, Latched, Static, Automatic, Dense, Aligned, IntegerKind, BooleanKind, EventKind, BitKind, CharacterKind, StructureKind, Value, LiteralTimes, NameTimes, ListTimes, Dimensions, Typed, Marked, LockGroup, LockAny, InitialValues, ConstantValues, declared_of, part_of, Declare, Structure}
use Rattle.hal_grammar.specs.Statements.{While, Until, Stepped, Listed, EveryError, GroupErrors, OneError, Signal, Set, Reset, eventful, System, Ignore, StartAt, StartIn, StartOn, Cyclic, CyclicEvery, CyclicAfter, scheduling, Labelled, Null, Assignment, If, Do, DoCase, DoLoop, DoFor, Exit, Repeat, Return, Call, Read, Write, Update, Scheduled, Cancel, Terminate, Wait, WaitUntil, WaitForDependent, WaitFor, Event, UpdatePriority, OnErrorStatement, OnErrorResponse, OffError, SendError, NoAlternative, Otherwise, Groups}
use Rattle.hal_grammar.specs.Units.{Reentrant, Exclusive, SinglePrecision, DoublePrecision, NoKind, HasKind, Program, Compool, Task, Procedure, Function, BlockOf, template_of, Include, Templates, File, file_of}
use Rattle.exec_model.specs.declared.script.ScriptLine.TheVariants as line
use Rattle.meaning_rows.specs.Trees.{o, nm, es, ts, ss, is, st, el}
use Rattle.meaning_rows.specs.Playing.{reported}
use Rattle.meaning_rows.specs.Listing.{storage, names, names_by_phrases}
use Rattle.hal_words.specs.Reserved as words_reserved
use Rattle.hal_phrases.specs.GatheredDeclarations as phrases_gathereddeclarations
use Rattle.hal_phrases.specs.GatheredExpressions as phrases_gatheredexpressions
use Rattle.hal_phrases.specs.GatheredStatements as phrases_gatheredstatements
use Rattle.hal_phrases.specs.GatheredUnits as phrases_gatheredunits
use Rattle.hal_phrases.specs.Members as phrases_members
use Rattle.hal_names.specs.Declarations as names_declarations
use Rattle.hal_names.specs.Keys as names_keys
use Rattle.hal_names.specs.Means as names_means
use Rattle.hal_names.specs.Tasks as names_tasks
use Rattle.hal_scope.specs.Builtins as scope_builtins
use Rattle.hal_scope.specs.Components as scope_components
use Rattle.hal_scope.specs.Labels as scope_labels
use Rattle.hal_scope.specs.Repeated as scope_repeated
use Rattle.hal_scope.specs.Rules as scope_rules
use Rattle.hal_scope.specs.Sorts as scope_sorts
use Rattle.hal_scope.specs.Uses as scope_uses
use Rattle.hal_kinds.specs.Attributes as kinds_attributes
use Rattle.hal_kinds.specs.Classes as kinds_classes
use Rattle.hal_kinds.specs.Data as kinds_data
use Rattle.hal_kinds.specs.Subscripts as kinds_subscripts
use Rattle.hal_constants.specs.Constants as constants_constants
use Rattle.hal_constants.specs.Known as constants_known
use Rattle.hal_constants.specs.Naming as constants_naming
use Rattle.hal_constants.specs.Operands as constants_operands
use Rattle.hal_constants.specs.Results as constants_results
use Rattle.hal_states.specs.OfKinds as states_ofkinds

-- places of a process, and views of an array and of a structure's copies
abbrev row1 : List File
row1 = ((file_of ([]) (BlockOf (nm (codes "P")) (Program o) ((Structure o (nm (codes "S")) ((part_of o 1 (nm (codes "A")) ((Typed (IntegerKind o)) ∷ [])) ∷ (part_of o 1 (nm (codes "B")) ((Dimensions o (es ((Literal o (Integer 3)) ∷ []))) ∷ (Typed (BitKind o (Literal o (Integer 4)))) ∷ [])) ∷ [])) ∷ (Declare o ([]) ((declared_of (nm (codes "N")) ((Typed (IntegerKind o)) ∷ [])) ∷ (declared_of (nm (codes "M")) ((Dimensions o (es ((Literal o (Integer 4)) ∷ []))) ∷ (Typed (IntegerKind o)) ∷ [])) ∷ (declared_of (nm (codes "Z")) ((Typed (StructureKind o (codes "S") (Some (Literal o (Integer 2))))) ∷ [])) ∷ [])) ∷ []) (el ((inr (Labelled ([]) (Assignment o ((Refers o (codes "N") ([]) Unsubscripted) ∷ []) (Sum o None (Referred (Refers o (codes "M") ([]) (ByParts o (ss ([])) (ss ([])) (ss ((One (FromBeginning (Referred (Refers o (codes "N") ([]) Unsubscripted)))) ∷ []))))) (ts ((Plus, (Referred (Refers o (codes "M") ([]) (ByName o (nm (codes "N")))))) ∷ [])))))) ∷ (inr (Labelled ([]) (Assignment o ((Refers o (codes "M") ([]) (ByParts o (ss ([])) (ss ([])) (ss ((One (FromBeginning (Literal o (Integer 2)))) ∷ [])))) ∷ []) (Referred (Refers o (codes "Z") ((nm (codes "A")) ∷ []) (ByParts o (ss ((One (FromBeginning (Referred (Refers o (codes "N") ([]) Unsubscripted)))) ∷ [])) (ss ([])) (ss ([])))))))) ∷ (inr (Labelled ([]) (Assignment o ((Refers o (codes "Z") ((nm (codes "B")) ∷ []) (ByParts o (ss ((One (FromBeginning (Literal o (Integer 1)))) ∷ [])) (ss ([])) (ss ((One (FromBeginning (Referred (Refers o (codes "N") ([]) Unsubscripted)))) ∷ [])))) ∷ []) (Literal o (Bits 1 1))))) ∷ [])) (Some (nm (codes "P"))))) ∷ [])

abbrev Says1 : Type 0
Says1 = storage row1 ≡ codes "unit P: P\nP.N own 0\nP.M own 1\nP.Z own 5\ncells 13\nview P.N$() 1\nview P.M$(1) 4\nview P.Z.A$(1;) 2\nview P.Z.B$(1;1) 6\ncells of views 13\n"

-- constant ranges are views of their own
abbrev row2 : List File
row2 = ((file_of ([]) (BlockOf (nm (codes "P")) (Program o) ((Declare o ([]) ((declared_of (nm (codes "A")) ((Dimensions o (es ((Literal o (Integer 6)) ∷ []))) ∷ (Typed (IntegerKind o)) ∷ [])) ∷ (declared_of (nm (codes "B")) ((Dimensions o (es ((Literal o (Integer 2)) ∷ (Literal o (Integer 3)) ∷ []))) ∷ (Typed (IntegerKind o)) ∷ [])) ∷ [])) ∷ []) (el ((inr (Labelled ([]) (Call o (nm (codes "Q")) (es ((Referred (Refers o (codes "A") ([]) (ByParts o (ss ([])) (ss ([])) (ss ((Range (FromBeginning (Literal o (Integer 2))) (FromBeginning (Literal o (Integer 4)))) ∷ []))))) ∷ [])) ([])))) ∷ (inr (Labelled ([]) (Call o (nm (codes "Q")) (es ((Referred (Refers o (codes "A") ([]) (ByParts o (ss ([])) (ss ([])) (ss ((Portion (Literal o (Integer 3)) (FromEnd o (ts ((Minus, (Literal o (Integer 3))) ∷ [])))) ∷ []))))) ∷ [])) ([])))) ∷ (inr (Labelled ([]) (Call o (nm (codes "Q")) (es ((Referred (Refers o (codes "B") ([]) (ByParts o (ss ([])) (ss ([])) (ss ((One (FromBeginning (Literal o (Integer 1)))) ∷ (Every o) ∷ []))))) ∷ [])) ([])))) ∷ (inl (BlockOf (nm (codes "Q")) (Procedure o ((nm (codes "X")) ∷ []) ([]) None) ((Declare o ([]) ((declared_of (nm (codes "X")) ((Dimensions o (es ((Literal o (Integer 3)) ∷ []))) ∷ (Typed (IntegerKind o)) ∷ [])) ∷ [])) ∷ []) (el ((inr (Labelled ([]) (Assignment o ((Refers o (codes "X") ([]) (ByParts o (ss ([])) (ss ([])) (ss ((One (FromBeginning (Literal o (Integer 1)))) ∷ [])))) ∷ []) (Referred (Refers o (codes "X") ([]) (ByParts o (ss ([])) (ss ([])) (ss ((One (FromEnd o (ts ([])))) ∷ [])))))))) ∷ [])) (Some (nm (codes "Q"))))) ∷ [])) (Some (nm (codes "P"))))) ∷ [])

abbrev Says2 : Type 0
Says2 = storage row2 ≡ codes "unit P: P\nP.A own 0\nP.B own 6\nunit P.Q: P\nP.Q.X own 12\ncells 15\nview P.A$(2 TO 4) 3\nview P.A$(3 TO 5) 3\nview P.B$(1,*) 6\nview P.Q.X$(1) 3\ncells of views 15\n"

-- a range of all places is the view of the whole
abbrev row3 : List File
row3 = ((file_of ([]) (BlockOf (nm (codes "P")) (Program o) ((Declare o ([]) ((declared_of (nm (codes "A")) ((Dimensions o (es ((Literal o (Integer 3)) ∷ []))) ∷ (Typed (IntegerKind o)) ∷ [])) ∷ [])) ∷ []) (el ((inr (Labelled ([]) (Call o (nm (codes "Q")) (es ((Referred (Refers o (codes "A") ([]) Unsubscripted)) ∷ [])) ([])))) ∷ (inr (Labelled ([]) (Call o (nm (codes "Q")) (es ((Referred (Refers o (codes "A") ([]) (ByParts o (ss ([])) (ss ([])) (ss ((Every o) ∷ []))))) ∷ [])) ([])))) ∷ (inr (Labelled ([]) (Call o (nm (codes "Q")) (es ((Referred (Refers o (codes "A") ([]) (ByParts o (ss ([])) (ss ([])) (ss ((Range (FromBeginning (Literal o (Integer 1))) (FromEnd o (ts ([])))) ∷ []))))) ∷ [])) ([])))) ∷ (inr (Labelled ([]) (Call o (nm (codes "Q")) (es ((Referred (Refers o (codes "A") ([]) (ByParts o (ss ([])) (ss ([])) (ss ((Portion (Literal o (Integer 3)) (FromBeginning (Literal o (Integer 1)))) ∷ []))))) ∷ [])) ([])))) ∷ (inr (Labelled ([]) (Call o (nm (codes "R")) (es ((Referred (Refers o (codes "A") ([]) (ByParts o (ss ([])) (ss ([])) (ss ((Range (FromBeginning (Literal o (Integer 2))) (FromBeginning (Literal o (Integer 2)))) ∷ []))))) ∷ [])) ([])))) ∷ (inr (Labelled ([]) (Call o (nm (codes "R")) (es ((Referred (Refers o (codes "A") ([]) (ByParts o (ss ([])) (ss ([])) (ss ((Portion (Literal o (Integer 1)) (FromBeginning (Literal o (Integer 2)))) ∷ []))))) ∷ [])) ([])))) ∷ (inl (BlockOf (nm (codes "Q")) (Procedure o ((nm (codes "X")) ∷ []) ([]) None) ((Declare o ([]) ((declared_of (nm (codes "X")) ((Dimensions o (es ((Literal o (Integer 3)) ∷ []))) ∷ (Typed (IntegerKind o)) ∷ [])) ∷ [])) ∷ []) (el ([])) (Some (nm (codes "Q"))))) ∷ (inl (BlockOf (nm (codes "R")) (Procedure o ((nm (codes "Y")) ∷ []) ([]) None) ((Declare o ([]) ((declared_of (nm (codes "Y")) ((Dimensions o (es ((Literal o (Integer 1)) ∷ []))) ∷ (Typed (IntegerKind o)) ∷ [])) ∷ [])) ∷ []) (el ([])) (Some (nm (codes "R"))))) ∷ [])) (Some (nm (codes "P"))))) ∷ [])

abbrev Says3 : Type 0
Says3 = storage row3 ≡ codes "unit P: P\nP.A own 0\nunit P.Q: P\nP.Q.X own 3\nunit P.R: P\nP.R.Y own 6\ncells 7\nview P.A$(*) 3\nview P.A$(2 TO 2) 1\ncells of views 4\n"

-- shared data of a COMPOOL and of a PROGRAM with a TASK, in lock groups; a CONSTANT that is its value has no cell
abbrev row4 : List File
row4 = ((file_of ([]) (BlockOf (nm (codes "POOL")) (Compool o) ((Declare o ([]) ((declared_of (nm (codes "X")) ((Typed (IntegerKind o)) ∷ [])) ∷ (declared_of (nm (codes "Y")) ((Dimensions o (es ((Literal o (Integer 2)) ∷ []))) ∷ (Typed (IntegerKind o)) ∷ (LockGroup o (Literal o (Integer 3))) ∷ [])) ∷ [])) ∷ []) (el ([])) (Some (nm (codes "POOL"))))) ∷ (file_of ((Include o (nm (codes "POOL"))) ∷ []) (BlockOf (nm (codes "P")) (Program o) ((Declare o ([]) ((declared_of (nm (codes "N")) ((Typed (IntegerKind o)) ∷ [])) ∷ (declared_of (nm (codes "C")) ((Typed (IntegerKind o)) ∷ (ConstantValues o (is ((Value (Literal o (Integer 4))) ∷ []))) ∷ [])) ∷ (declared_of (nm (codes "K")) ((Dimensions o (es ((Literal o (Integer 2)) ∷ []))) ∷ (Typed (IntegerKind o)) ∷ (ConstantValues o (is ((Value (Literal o (Integer 1))) ∷ (Value (Literal o (Integer 2))) ∷ []))) ∷ [])) ∷ [])) ∷ []) (el ((inr (Labelled ([]) (Scheduled o (scheduling (nm (codes "T")) None None false None None)))) ∷ (inr (Labelled ([]) (Assignment o ((Refers o (codes "N") ([]) Unsubscripted) ∷ []) (Sum o None (Referred (Refers o (codes "X") ([]) Unsubscripted)) (ts ((Plus, (Referred (Refers o (codes "C") ([]) Unsubscripted))) ∷ [])))))) ∷ (inr (Labelled ([]) (Assignment o ((Refers o (codes "X") ([]) Unsubscripted) ∷ []) (Referred (Refers o (codes "K") ([]) (ByParts o (ss ([])) (ss ([])) (ss ((One (FromBeginning (Referred (Refers o (codes "N") ([]) Unsubscripted)))) ∷ [])))))))) ∷ (inr (Labelled ((nm (codes "U")) ∷ []) (Update o (st ((Labelled ([]) (Assignment o ((Refers o (codes "Y") ([]) (ByParts o (ss ([])) (ss ([])) (ss ((One (FromBeginning (Literal o (Integer 1)))) ∷ [])))) ∷ []) (Referred (Refers o (codes "N") ([]) Unsubscripted)))) ∷ [])) (Some (nm (codes "U")))))) ∷ (inl (BlockOf (nm (codes "T")) (Task o) ((Declare o ([]) ((declared_of (nm (codes "L")) ((Typed (IntegerKind o)) ∷ [])) ∷ [])) ∷ []) (el ((inr (Labelled ([]) (Assignment o ((Refers o (codes "L") ([]) Unsubscripted) ∷ []) (Referred (Refers o (codes "X") ([]) Unsubscripted))))) ∷ [])) (Some (nm (codes "T"))))) ∷ [])) (Some (nm (codes "P"))))) ∷ [])

abbrev Says4 : Type 0
Says4 = storage row4 ≡ codes "unit POOL:\nPOOL.X shared 0 group 0\nPOOL.Y shared 1 group 3\nunit P: P\nP.N shared 3 group 0\nP.K shared 4 group 0\nunit P.T: P.T\nP.T.L own 0\ncells 7\nview P.N$() 1\nview POOL.X$() 1\nview P.K$(1) 2\nview POOL.Y$(1) 2\nview P.T.L$() 1\ncells of views 7\n"

-- two tasks reach a REENTRANT block: its places come first and count for each process, its STATIC data are shared
abbrev row5 : List File
row5 = ((file_of ([]) (BlockOf (nm (codes "P")) (Program o) ((Declare o ([]) ((declared_of (nm (codes "N")) ((Typed (IntegerKind o)) ∷ [])) ∷ [])) ∷ []) (el ((inr (Labelled ([]) (Scheduled o (scheduling (nm (codes "A")) None None false None None)))) ∷ (inr (Labelled ([]) (Scheduled o (scheduling (nm (codes "B")) None None false None None)))) ∷ (inl (BlockOf (nm (codes "A")) (Task o) ((Declare o ([]) ((declared_of (nm (codes "I")) ((Typed (IntegerKind o)) ∷ [])) ∷ [])) ∷ []) (el ((inr (Labelled ([]) (Call o (nm (codes "R")) (es ((Literal o (Integer 1)) ∷ [])) ((Refers o (codes "I") ([]) Unsubscripted) ∷ [])))) ∷ [])) (Some (nm (codes "A"))))) ∷ (inl (BlockOf (nm (codes "B")) (Task o) ((Declare o ([]) ((declared_of (nm (codes "J")) ((Typed (IntegerKind o)) ∷ [])) ∷ [])) ∷ []) (el ((inr (Labelled ([]) (Call o (nm (codes "R")) (es ((Literal o (Integer 2)) ∷ [])) ((Refers o (codes "J") ([]) Unsubscripted) ∷ [])))) ∷ [])) (Some (nm (codes "B"))))) ∷ (inl (BlockOf (nm (codes "R")) (Procedure o ((nm (codes "X")) ∷ []) ((nm (codes "Y")) ∷ []) (Some (Reentrant o))) ((Declare o ([]) ((declared_of (nm (codes "X")) ((Typed (IntegerKind o)) ∷ [])) ∷ (declared_of (nm (codes "Y")) ((Typed (IntegerKind o)) ∷ [])) ∷ [])) ∷ (Declare o ([]) ((declared_of (nm (codes "V")) ((Typed (IntegerKind o)) ∷ (Marked o Automatic) ∷ [])) ∷ (declared_of (nm (codes "W")) ((Typed (IntegerKind o)) ∷ [])) ∷ [])) ∷ []) (el ((inr (Labelled ([]) (Assignment o ((Refers o (codes "V") ([]) Unsubscripted) ∷ []) (Referred (Refers o (codes "X") ([]) Unsubscripted))))) ∷ (inr (Labelled ([]) (Assignment o ((Refers o (codes "W") ([]) Unsubscripted) ∷ []) (Sum o None (Referred (Refers o (codes "W") ([]) Unsubscripted)) (ts ((Plus, (Referred (Refers o (codes "V") ([]) Unsubscripted))) ∷ [])))))) ∷ (inr (Labelled ([]) (Assignment o ((Refers o (codes "Y") ([]) Unsubscripted) ∷ []) (Referred (Refers o (codes "W") ([]) Unsubscripted))))) ∷ [])) (Some (nm (codes "R"))))) ∷ [])) (Some (nm (codes "P"))))) ∷ [])

abbrev Says5 : Type 0
Says5 = storage row5 ≡ codes "unit P: P\nP.N shared 0 group 0\nunit P.A: P.A\nP.A.I own 3\nunit P.B: P.B\nP.B.J own 3\nunit P.R: P.A P.B\nP.R.X own 0\nP.R.Y reference 1\nP.R.V own 2\nP.R.W shared 1 group 0\ncells 13\nview P.A.I$() 1\nview P.B.J$() 1\nview P.R.V$() 1\nview P.R.X$() 1\nview P.R.W$() 1\nview P.R.Y$() 1\ncells of views 6\n"

-- places of groups: DO FOR and DO CASE have four, a TEMPORARY variable stands before them
abbrev row6 : List File
row6 = ((file_of ([]) (BlockOf (nm (codes "P")) (Program o) ((Declare o ([]) ((declared_of (nm (codes "I")) ((Typed (IntegerKind o)) ∷ [])) ∷ (declared_of (nm (codes "A")) ((Dimensions o (es ((Literal o (Integer 3)) ∷ []))) ∷ (Typed (IntegerKind o)) ∷ [])) ∷ [])) ∷ []) (el ((inr (Labelled ([]) (DoFor o false (nm (codes "I")) (Stepped (Literal o (Integer 1)) (Literal o (Integer 3)) None) None (Groups (st ((Labelled ([]) (Assignment o ((Refers o (codes "A") ([]) (ByParts o (ss ([])) (ss ([])) (ss ((One (FromBeginning (Referred (Refers o (codes "I") ([]) Unsubscripted)))) ∷ [])))) ∷ []) (Referred (Refers o (codes "I") ([]) Unsubscripted)))) ∷ [])) None)))) ∷ (inr (Labelled ([]) (DoFor o true (nm (codes "K")) (Stepped (Literal o (Integer 1)) (Literal o (Integer 2)) None) None (Groups (st ((Labelled ([]) (Assignment o ((Refers o (codes "A") ([]) (ByName o (nm (codes "K")))) ∷ []) (Referred (Refers o (codes "K") ([]) Unsubscripted)))) ∷ [])) None)))) ∷ (inr (Labelled ([]) (DoCase o (Referred (Refers o (codes "I") ([]) Unsubscripted)) NoAlternative (Groups (st ((Labelled ([]) (Assignment o ((Refers o (codes "A") ([]) (ByParts o (ss ([])) (ss ([])) (ss ((One (FromBeginning (Literal o (Integer 1)))) ∷ [])))) ∷ []) (Literal o (Integer 0)))) ∷ [])) None)))) ∷ (inr (Labelled ([]) (DoLoop o (While o (Compare o (Referred (Refers o (codes "I") ([]) Unsubscripted)) Less (Literal o (Integer 3)))) (Groups (st ((Labelled ([]) (Assignment o ((Refers o (codes "I") ([]) Unsubscripted) ∷ []) (Sum o None (Referred (Refers o (codes "I") ([]) Unsubscripted)) (ts ((Plus, (Literal o (Integer 1))) ∷ []))))) ∷ [])) None)))) ∷ [])) (Some (nm (codes "P"))))) ∷ [])

abbrev Says6 : Type 0
Says6 = storage row6 ≡ codes "unit P: P\nP.I own 0\nP.A own 1\nP group own 4\nP.K temporary own 8\nP group own 13\ncells 17\nview P.I$() 1\nview P.A$(1) 3\nview P.K temporary$() 1\ncells of views 5\n"

-- structures as arguments: all copies, one copy, and no copies; a reference has one place
abbrev row7 : List File
row7 = ((file_of ([]) (BlockOf (nm (codes "P")) (Program o) ((Structure o (nm (codes "S")) ((part_of o 1 (nm (codes "A")) ((Typed (IntegerKind o)) ∷ [])) ∷ (part_of o 1 (nm (codes "G")) ([])) ∷ (part_of o 2 (nm (codes "B")) ((Typed (IntegerKind o)) ∷ [])) ∷ (part_of o 2 (nm (codes "C")) ((Dimensions o (es ((Literal o (Integer 2)) ∷ []))) ∷ (Typed (IntegerKind o)) ∷ [])) ∷ [])) ∷ (Declare o ([]) ((declared_of (nm (codes "Z")) ((Typed (StructureKind o (codes "S") (Some (Literal o (Integer 3))))) ∷ [])) ∷ (declared_of (nm (codes "Y")) ((Typed (StructureKind o (codes "S") None)) ∷ [])) ∷ [])) ∷ []) (el ((inr (Labelled ([]) (Call o (nm (codes "Q")) (es ((Referred (Refers o (codes "Z") ([]) (ByParts o (ss ((One (FromBeginning (Literal o (Integer 2)))) ∷ [])) (ss ([])) (ss ([]))))) ∷ (Referred (Refers o (codes "Y") ([]) Unsubscripted)) ∷ [])) ([])))) ∷ (inr (Labelled ([]) (Call o (nm (codes "R")) (es ([])) ((Refers o (codes "Z") ([]) Unsubscripted) ∷ [])))) ∷ (inl (BlockOf (nm (codes "Q")) (Procedure o ((nm (codes "X")) ∷ (nm (codes "V")) ∷ []) ([]) None) ((Declare o ([]) ((declared_of (nm (codes "X")) ((Typed (StructureKind o (codes "S") None)) ∷ [])) ∷ (declared_of (nm (codes "V")) ((Typed (StructureKind o (codes "S") None)) ∷ [])) ∷ [])) ∷ []) (el ((inr (Labelled ([]) (Assignment o ((Refers o (codes "X") ((nm (codes "A")) ∷ []) Unsubscripted) ∷ []) (Referred (Refers o (codes "V") ((nm (codes "G")) ∷ (nm (codes "C")) ∷ []) (ByParts o (ss ([])) (ss ([])) (ss ((One (FromBeginning (Literal o (Integer 1)))) ∷ [])))))))) ∷ [])) (Some (nm (codes "Q"))))) ∷ (inl (BlockOf (nm (codes "R")) (Procedure o ([]) ((nm (codes "W")) ∷ []) None) ((Declare o ([]) ((declared_of (nm (codes "W")) ((Typed (StructureKind o (codes "S") (Some (Literal o (Integer 3))))) ∷ [])) ∷ [])) ∷ []) (el ((inr (Labelled ([]) (Assignment o ((Refers o (codes "W") ((nm (codes "G")) ∷ (nm (codes "B")) ∷ []) (ByParts o (ss ((One (FromBeginning (Literal o (Integer 1)))) ∷ [])) (ss ([])) (ss ([])))) ∷ []) (Referred (Refers o (codes "W") ((nm (codes "A")) ∷ []) (ByParts o (ss ((One (FromBeginning (Literal o (Integer 3)))) ∷ [])) (ss ([])) (ss ([])))))))) ∷ [])) (Some (nm (codes "R"))))) ∷ [])) (Some (nm (codes "P"))))) ∷ [])

abbrev Says7 : Type 0
Says7 = storage row7 ≡ codes "unit P: P\nP.Z own 0\nP.Y own 12\nunit P.Q: P\nP.Q.X own 16\nP.Q.V own 20\nunit P.R: P\nP.R.W reference 24\ncells 25\nview P.Z$(1;) 12\nview P.Y$() 4\nview P.Z$(*;) 12\nview P.Q.X.A$() 1\nview P.Q.V.G.C$(1) 2\nview P.R.W.G.B$(1;) 3\nview P.R.W.A$(1;) 3\ncells of views 37\n"

-- a name before a list is a view; a block that no process reaches counts as the first one's
abbrev row8 : List File
row8 = ((file_of ([]) (BlockOf (nm (codes "P")) (Program o) ((Declare o ([]) ((declared_of (nm (codes "A")) ((Typed (IntegerKind o)) ∷ [])) ∷ (declared_of (nm (codes "B")) ((Dimensions o (es ((Literal o (Integer 5)) ∷ []))) ∷ (Typed (IntegerKind o)) ∷ [])) ∷ [])) ∷ []) (el ((inr (Labelled ([]) (Assignment o ((Refers o (codes "A") ([]) Unsubscripted) ∷ []) (Sum o None (Called o (codes "A") (es ((Literal o (Integer 3)) ∷ []))) (ts ((Plus, (Called o (codes "F") (es ((Literal o (Integer 2)) ∷ [])))) ∷ (Plus, (Called o (codes "SIZE") (es ((Referred (Refers o (codes "B") ([]) Unsubscripted)) ∷ [])))) ∷ [])))))) ∷ (inl (BlockOf (nm (codes "F")) (Function o ((nm (codes "X")) ∷ []) (HasKind (IntegerKind o) None) None) ((Declare o ([]) ((declared_of (nm (codes "X")) ((Typed (IntegerKind o)) ∷ [])) ∷ [])) ∷ []) (el ((inr (Labelled ([]) (Return o (Some (Referred (Refers o (codes "X") ([]) Unsubscripted)))))) ∷ [])) (Some (nm (codes "F"))))) ∷ (inl (BlockOf (nm (codes "G")) (Procedure o ([]) ([]) None) ((Declare o ([]) ((declared_of (nm (codes "N")) ((Typed (IntegerKind o)) ∷ [])) ∷ [])) ∷ []) (el ((inr (Labelled ([]) (Assignment o ((Refers o (codes "N") ([]) Unsubscripted) ∷ []) (Literal o (Integer 1))))) ∷ [])) (Some (nm (codes "G"))))) ∷ [])) (Some (nm (codes "P"))))) ∷ [])

abbrev Says8 : Type 0
Says8 = storage row8 ≡ codes "unit P: P\nP.A own 0\nP.B own 1\nunit P.F: P\nP.F.X own 6\nunit P.G:\nP.G.N own 7\ncells 8\nview P.A$() 1\nview P.B$(*) 5\nview P.F.X$() 1\nview P.G.N$() 1\ncells of views 8\n"

-- events have no cells
abbrev row9 : List File
row9 = ((file_of ([]) (BlockOf (nm (codes "P")) (Program o) ((Declare o ([]) ((declared_of (nm (codes "E")) ((Typed (EventKind o)) ∷ (Marked o Latched) ∷ [])) ∷ (declared_of (nm (codes "F")) ((Typed (EventKind o)) ∷ [])) ∷ (declared_of (nm (codes "N")) ((Typed (IntegerKind o)) ∷ [])) ∷ [])) ∷ []) (el ((inr (Labelled ([]) (Event (eventful o Set (nm (codes "E")))))) ∷ (inr (Labelled ([]) (Assignment o ((Refers o (codes "N") ([]) Unsubscripted) ∷ []) (Literal o (Integer 0))))) ∷ (inr (Labelled ([]) (If o (Referred (Refers o (codes "E") ([]) Unsubscripted)) (Labelled ([]) (Event (eventful o Signal (nm (codes "F"))))) NoAlternative))) ∷ (inl (BlockOf (nm (codes "T")) (Task o) ([]) (el ([])) (Some (nm (codes "T"))))) ∷ [])) (Some (nm (codes "P"))))) ∷ [])

abbrev Says9 : Type 0
Says9 = storage row9 ≡ codes "unit P: P\nP.N shared 0 group 0\nunit P.T: P.T\ncells 1\nview P.N$() 1\ncells of views 1\n"

-- two PROGRAMs have places of their own
abbrev row10 : List File
row10 = ((file_of ((Include o (nm (codes "B"))) ∷ []) (BlockOf (nm (codes "A")) (Program o) ((Declare o ([]) ((declared_of (nm (codes "N")) ((Typed (IntegerKind o)) ∷ [])) ∷ [])) ∷ []) (el ((inr (Labelled ([]) (Scheduled o (scheduling (nm (codes "B")) None None false None None)))) ∷ (inr (Labelled ([]) (Assignment o ((Refers o (codes "N") ([]) Unsubscripted) ∷ []) (Literal o (Integer 1))))) ∷ [])) (Some (nm (codes "A"))))) ∷ (file_of ([]) (BlockOf (nm (codes "B")) (Program o) ((Declare o ([]) ((declared_of (nm (codes "M")) ((Typed (IntegerKind o)) ∷ [])) ∷ (declared_of (nm (codes "L")) ((Typed (IntegerKind o)) ∷ [])) ∷ [])) ∷ []) (el ((inr (Labelled ([]) (Assignment o ((Refers o (codes "M") ([]) Unsubscripted) ∷ []) (Referred (Refers o (codes "L") ([]) Unsubscripted))))) ∷ [])) (Some (nm (codes "B"))))) ∷ [])

abbrev Says10 : Type 0
Says10 = storage row10 ≡ codes "unit A: A\nA.N own 0\nunit B: B\nB.M own 0\nB.L own 1\ncells 3\nview A.N$() 1\nview B.M$() 1\nview B.L$() 1\ncells of views 3\n"

pub all_say : Says1 × Says2 × Says3 × Says4 × Says5 × Says6 × Says7 × Says8 × Says9 × Says10
unfolding digits words_reserved.reserved_words words_reserved.left_out_words phrases_gathereddeclarations.gathered_kind phrases_gathereddeclarations.gathered_initial phrases_gathereddeclarations.gathered_initials phrases_gathereddeclarations.gathered_attribute phrases_gathereddeclarations.gathered_item phrases_gathereddeclarations.still_open phrases_gathereddeclarations.innermost phrases_gathereddeclarations.is_bottom phrases_gathereddeclarations.gathered_part phrases_gathereddeclarations.gathered_parts phrases_gathereddeclarations.gathered_declaration phrases_gatheredexpressions.gathered phrases_gatheredexpressions.gathered_all phrases_gatheredexpressions.gathered_terms phrases_gatheredexpressions.gathered_reference phrases_gatheredexpressions.gathered_subscript phrases_gatheredexpressions.gathered_subs phrases_gatheredexpressions.gathered_sub phrases_gatheredexpressions.gathered_position phrases_gatheredstatements.gathered_guard phrases_gatheredstatements.gathered_span phrases_gatheredstatements.gathered_start phrases_gatheredstatements.gathered_cycle phrases_gatheredstatements.gathered_limit phrases_gatheredstatements.gathered_schedule phrases_gatheredstatements.begun_for phrases_gatheredstatements.around_for phrases_gatheredstatements.gathered_statement phrases_gatheredstatements.gathered_basic phrases_gatheredstatements.gathered_alternative phrases_gatheredstatements.gathered_group phrases_gatheredstatements.gathered_statements phrases_gatheredunits.gathered_returns phrases_gatheredunits.gathered_head phrases_gatheredunits.gathered_block phrases_gatheredunits.gathered_elements phrases_gatheredunits.around_template phrases_gatheredunits.gathered_template phrases_gatheredunits.gathered_preface phrases_gatheredunits.gathered_prefaces phrases_gatheredunits.name_of_block phrases_gatheredunits.gathered_file phrases_gatheredunits.phrases_of phrases_members.gathered_member phrases_members.gathered_members names_declarations.is_declaring names_declarations.with_places names_declarations.with_all_chosen names_keys.declared_at names_keys.same_space names_keys.same_key names_keys.own names_means.is_compool_unit names_means.unit_named names_means.given_by names_means.shown names_means.shown_by names_means.included names_means.included_before names_means.prefaces_of names_means.nearest names_tasks.with_homes scope_builtins.builtins scope_components.has_path scope_components.is_structure scope_components.type_has scope_components.has_component scope_components.lacks_in scope_components.lacks scope_labels.is_label_of scope_labels.misclosed scope_labels.is_loop scope_labels.group_around scope_labels.misled scope_labels.astray scope_repeated.given scope_repeated.is_of_block scope_repeated.twice scope_repeated.declares_one_there scope_repeated.declarations_of scope_repeated.included_twice scope_repeated.is_item scope_repeated.undeclared scope_rules.fault scope_rules.first_fault scope_sorts.type_in scope_sorts.type_among scope_sorts.sort_of_type scope_sorts.sort_of_head scope_sorts.sort_of scope_sorts.usage_of scope_sorts.use_of_reference scope_sorts.used scope_uses.unknown scope_uses.is_eventful scope_uses.is_nil scope_uses.refers_to_event scope_uses.holds_event scope_uses.hold_event scope_uses.limit_of scope_uses.limit_around scope_uses.misused kinds_attributes.count_of kinds_attributes.no_more kinds_attributes.sizes_in kinds_attributes.sizes_among kinds_attributes.initial_in kinds_attributes.initial_among kinds_attributes.constant_in kinds_attributes.constant_among kinds_attributes.same_mark kinds_attributes.is_mark kinds_classes.class_of_result kinds_classes.class_of_returns kinds_classes.class_of_head kinds_classes.class_of_form kinds_classes.class_of_builtin kinds_classes.class_at kinds_classes.class_of_reference kinds_classes.class_of_function kinds_classes.class_of_called_head kinds_classes.class_of_called kinds_classes.class_of_literal kinds_classes.class_of_conversion kinds_classes.beside kinds_classes.joined kinds_classes.enclosed kinds_classes.class_of kinds_classes.class_beside kinds_classes.class_joined kinds_data.class_of_type kinds_data.has_copies kinds_data.dimensions_of kinds_data.data_of kinds_data.part_data kinds_data.part_under kinds_data.data_at_part kinds_data.component_of kinds_data.component_data kinds_data.data_at kinds_data.is_event_type kinds_data.is_structure_type kinds_subscripts.subscript_count kinds_subscripts.is_many kinds_subscripts.are_many kinds_subscripts.parts_chosen kinds_subscripts.choice_of kinds_subscripts.is_structure_class constants_constants.operation_of_sign constants_constants.signed constants_constants.operation_of_conversion constants_constants.raised_to constants_constants.raised constants_constants.is_none constants_constants.factor_at constants_constants.constant_of constants_constants.folded constants_constants.summed constants_constants.computed constants_constants.computed_second constants_constants.multiplied constants_constants.referred constants_constants.subscripted constants_constants.component_of constants_constants.component_by constants_constants.place_of constants_known.size_of_integer constants_known.size_of_value constants_known.size_of constants_known.bits_kind constants_known.text_kind constants_known.kind_of constants_known.kind_of_type constants_known.gives_none constants_known.give_none constants_known.only_of constants_known.only_with constants_known.kept constants_known.fitted constants_known.only_in constants_known.declared_value constants_known.round constants_known.is_file constants_known.is_pooled constants_known.rounds constants_naming.constant_known constants_naming.constant_at constants_naming.literal_constant constants_naming.operation_of constants_operands.takes_one constants_operands.takes_two constants_operands.is_storable constants_operands.has_components constants_results.worth constants_results.worse constants_results.apply_one constants_results.apply_two constants_results.component_at constants_results.component_to constants_results.component_from constants_results.picked_one constants_results.picked_to constants_results.picked_from states_ofkinds.is_of
all_say = (refl, refl, refl, refl, refl, refl, refl, refl, refl, refl)
