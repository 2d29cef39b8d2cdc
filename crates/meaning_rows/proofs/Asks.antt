-- Rows of asks.txt, written by tools/meaning_rows.
use Rattle.std.specs.Prelude.{◌≡◌, ℕ, List, [], ◌∷◌, Option, Some, None, true, false, codes}
use Rattle.std.specs.Fmt.{digits}
use Rattle.std.proofs.Common.{refl, inl, inr}
use Rattle.hal_grammar.specs.Leaves.{Plus, Minus, Equal, Less, Greater, AtMost, AtLeast, NotEqual, NotLess, NotGreater, ToInteger, ToBits, ToText, Integer, Text, Bits, True, False, On, Off}
use Rattle.hal_grammar.specs.Expressions.{Or, And, Compare, Cat, Sum, Product, Power, Not, Literal, Decimal, Referred, Called, Convert, Parenthesis, Refers, Unsubscripted, ByName, ByInteger, ByParts, Every, One, Range, Portion, FromBeginning, FromEnd}
use Rattle.hal_grammar.specs.Declarations.{Single, Double, Latched, Static, Automatic, Dense, Aligned, IntegerKind, BooleanKind, EventKind, BitKind, CharacterKind, StructureKind, Value, LiteralTimes, NameTimes, ListTimes, Dimensions, Typed, Marked, LockGroup, LockAny, InitialValues, ConstantValues, declared_of, part_of, Declare, Structure}
use Rattle.hal_grammar.specs.Statements.{While, Until, Stepped, Listed, EveryError, GroupErrors, OneError, Signal, Set, Reset, eventful, System, Ignore, StartAt, StartIn, StartOn, Cyclic, CyclicEvery, CyclicAfter, scheduling, Labelled, Null, Assignment, If, Do, DoCase, DoLoop, DoFor, Exit, Repeat, Return, Call, Read, Write, Update, Scheduled, Cancel, Terminate, Wait, WaitUntil, WaitForDependent, WaitFor, Event, UpdatePriority, OnErrorStatement, OnErrorResponse, OffError, SendError, NoAlternative, Otherwise, Groups}
use Rattle.hal_grammar.specs.Units.{Reentrant, Exclusive, SinglePrecision, DoublePrecision, NoKind, HasKind, Program, Compool, Task, Procedure, Function, BlockOf, template_of, Include, Templates, File, file_of}
use Rattle.exec_model.specs.declared.script.ScriptLine.TheVariants as line
use Rattle.meaning_rows.specs.Trees.{o, nm, es, ts, ss, is, st, el}
use Rattle.meaning_rows.specs.Playing.{reported}
use Rattle.std.specs.Prelude.{pos, negsuc}
use Rattle.hal_values.specs.Answers as answered
use Rattle.hal_values.specs.declared.value.Value.TheVariants as value
use Rattle.meaning_rows.specs.Asking.{asks}
use Rattle.hal_words.specs.Reserved as words_reserved
use Rattle.hal_phrases.specs.GatheredDeclarations as phrases_gathereddeclarations
use Rattle.hal_phrases.specs.GatheredExpressions as phrases_gatheredexpressions
use Rattle.hal_phrases.specs.GatheredStatements as phrases_gatheredstatements
use Rattle.hal_phrases.specs.GatheredUnits as phrases_gatheredunits
use Rattle.hal_phrases.specs.Members as phrases_members
use Rattle.hal_names.specs.Declarations as names_declarations
use Rattle.hal_names.specs.Keys as names_keys
use Rattle.hal_names.specs.Means as names_means
use Rattle.hal_names.specs.Tasks as names_tasks
use Rattle.hal_scope.specs.Builtins as scope_builtins
use Rattle.hal_scope.specs.Components as scope_components
use Rattle.hal_scope.specs.Labels as scope_labels
use Rattle.hal_scope.specs.Repeated as scope_repeated
use Rattle.hal_scope.specs.Rules as scope_rules
use Rattle.hal_scope.specs.Sorts as scope_sorts
use Rattle.hal_scope.specs.Uses as scope_uses
use Rattle.hal_kinds.specs.Attributes as kinds_attributes
use Rattle.hal_kinds.specs.Classes as kinds_classes
use Rattle.hal_kinds.specs.Data as kinds_data
use Rattle.hal_kinds.specs.Subscripts as kinds_subscripts
use Rattle.hal_constants.specs.Constants as constants_constants
use Rattle.hal_constants.specs.Known as constants_known
use Rattle.hal_constants.specs.Naming as constants_naming
use Rattle.hal_constants.specs.Operands as constants_operands
use Rattle.hal_constants.specs.Results as constants_results
use Rattle.hal_states.specs.OfKinds as states_ofkinds

-- a sum and a line; what is STATIC is kept over the cycles
abbrev row1 : List File
row1 = ((file_of ([]) (BlockOf (nm (codes "P")) (Program o) ((Declare o ([]) ((declared_of (nm (codes "N")) ((Typed (IntegerKind o)) ∷ (InitialValues o (is ((Value (Literal o (Integer 40))) ∷ []))) ∷ [])) ∷ [])) ∷ []) (el ((inr (Labelled ([]) (Assignment o ((Refers o (codes "N") ([]) Unsubscripted) ∷ []) (Sum o None (Referred (Refers o (codes "N") ([]) Unsubscripted)) (ts ((Plus, (Literal o (Integer 2))) ∷ [])))))) ∷ (inr (Labelled ([]) (Write o (Literal o (Integer 6)) (es ((Referred (Refers o (codes "N") ([]) Unsubscripted)) ∷ []))))) ∷ [])) (Some (nm (codes "P"))))) ∷ [])

abbrev Says1 : Type 0
Says1 = asks 400 row1 0 (answered.Begun ∷ answered.Done ∷ answered.Done ∷ answered.Begun ∷ answered.Killed ∷ []) ≡ codes "Begin | 40\nPrint 6: 42 | 42\nFinish | 42\nBegin | 42\nPrint 6: 44 | 44\nBegin | 44\n"

-- shared data are read and written, turns ask Pass, and Killed begins anew
abbrev row2 : List File
row2 = ((file_of ([]) (BlockOf (nm (codes "P")) (Program o) ((Declare o ([]) ((declared_of (nm (codes "X")) ((Typed (IntegerKind o)) ∷ [])) ∷ (declared_of (nm (codes "T2")) ((Typed (IntegerKind o)) ∷ [])) ∷ [])) ∷ []) (el ((inr (Labelled ([]) (DoLoop o (While o (Compare o (Referred (Refers o (codes "X") ([]) Unsubscripted)) Less (Literal o (Integer 2)))) (Groups (st ((Labelled ([]) (Assignment o ((Refers o (codes "X") ([]) Unsubscripted) ∷ []) (Sum o None (Referred (Refers o (codes "X") ([]) Unsubscripted)) (ts ((Plus, (Literal o (Integer 1))) ∷ []))))) ∷ [])) None)))) ∷ (inl (BlockOf (nm (codes "T")) (Task o) ((Declare o ([]) ((declared_of (nm (codes "L")) ((Typed (IntegerKind o)) ∷ [])) ∷ [])) ∷ []) (el ((inr (Labelled ([]) (Assignment o ((Refers o (codes "L") ([]) Unsubscripted) ∷ []) (Referred (Refers o (codes "X") ([]) Unsubscripted))))) ∷ [])) (Some (nm (codes "T"))))) ∷ [])) (Some (nm (codes "P"))))) ∷ [])

abbrev Says2 : Type 0
Says2 = (asks 400 row2 0 (answered.Begun ∷ (answered.Told (value.Int (pos 1))) ∷ answered.Done ∷ (answered.Told (value.Int (pos 5))) ∷ answered.Done ∷ (answered.Told (value.Int (pos 2))) ∷ answered.Done ∷ []) ≡ codes "Begin |\nRead cell 0 |\nPass |\nRead cell 0 |\nWrite cell 0 6 |\nRead cell 0 |\nFinish |\nBegin |\n") × (asks 400 row2 1 (answered.Begun ∷ (answered.Told (value.Int (pos 7))) ∷ answered.Killed ∷ []) ≡ codes "Begin | 0\nRead cell 0 | 0\nFinish | 7\nBegin | 7\n")

-- an error that meets nothing asks Stop until it is answered Killed
abbrev row3 : List File
row3 = ((file_of ([]) (BlockOf (nm (codes "P")) (Program o) ((Declare o ([]) ((declared_of (nm (codes "N")) ((Typed (IntegerKind o)) ∷ (InitialValues o (is ((Value (Literal o (Integer 32767))) ∷ []))) ∷ [])) ∷ [])) ∷ []) (el ((inr (Labelled ([]) (Assignment o ((Refers o (codes "N") ([]) Unsubscripted) ∷ []) (Sum o None (Referred (Refers o (codes "N") ([]) Unsubscripted)) (ts ((Plus, (Literal o (Integer 1))) ∷ [])))))) ∷ [])) (Some (nm (codes "P"))))) ∷ [])

abbrev Says3 : Type 0
Says3 = asks 400 row3 0 (answered.Begun ∷ answered.Done ∷ answered.Killed ∷ []) ≡ codes "Begin | 32767\nStop 1:1 | 32767\nStop 1:1 | 32767\nBegin | 32767\n"

-- what an UPDATE block writes, and after how many turns
abbrev row4 : List File
row4 = ((file_of ([]) (BlockOf (nm (codes "P")) (Program o) ((Declare o ([]) ((declared_of (nm (codes "A")) ((Typed (IntegerKind o)) ∷ (LockGroup o (Literal o (Integer 2))) ∷ [])) ∷ (declared_of (nm (codes "B")) ((Typed (IntegerKind o)) ∷ (LockGroup o (Literal o (Integer 2))) ∷ [])) ∷ (declared_of (nm (codes "N")) ((Typed (IntegerKind o)) ∷ [])) ∷ [])) ∷ []) (el ((inr (Labelled ([]) (Assignment o ((Refers o (codes "N") ([]) Unsubscripted) ∷ []) (Literal o (Integer 1))))) ∷ (inr (Labelled ((nm (codes "U")) ∷ []) (Update o (st ((Labelled ([]) (DoLoop o (While o (Compare o (Referred (Refers o (codes "A") ([]) Unsubscripted)) Less (Literal o (Integer 4)))) (Groups (st ((Labelled ([]) (Assignment o ((Refers o (codes "A") ([]) Unsubscripted) ∷ []) (Sum o None (Referred (Refers o (codes "A") ([]) Unsubscripted)) (ts ((Plus, (Literal o (Integer 1))) ∷ []))))) ∷ (Labelled ([]) (Assignment o ((Refers o (codes "N") ([]) Unsubscripted) ∷ []) (Sum o None (Referred (Refers o (codes "N") ([]) Unsubscripted)) (ts ((Plus, (Literal o (Integer 1))) ∷ []))))) ∷ [])) None))) ∷ (Labelled ([]) (Assignment o ((Refers o (codes "B") ([]) Unsubscripted) ∷ []) (Referred (Refers o (codes "A") ([]) Unsubscripted)))) ∷ [])) (Some (nm (codes "U")))))) ∷ (inr (Labelled ([]) (Write o (Literal o (Integer 6)) (es ((Referred (Refers o (codes "N") ([]) Unsubscripted)) ∷ []))))) ∷ [])) (Some (nm (codes "P"))))) ∷ [])

abbrev Says4 : Type 0
Says4 = (asks 400 row4 0 (answered.Begun ∷ (answered.Block ((value.Int (pos 2)) ∷ (value.Int (pos 0)) ∷ []) 2) ∷ []) ≡ codes "Begin | 0\nUpdate 4 | 1\nwrites 0=3 0=4 1=4\nPrint 6: 3 | 3\n") × (asks 400 row4 0 (answered.Begun ∷ (answered.Block ((value.Int (pos 9)) ∷ (value.Int (pos 0)) ∷ []) 0) ∷ []) ≡ codes "Begin | 0\nUpdate 4 | 1\nwrites 1=9\nPrint 6: 1 | 1\n") × (asks 400 row4 0 (answered.Begun ∷ (answered.Block ((value.Int (pos 3)) ∷ (value.Int (pos 0)) ∷ []) 0) ∷ []) ≡ codes "Begin | 0\nUpdate 4 | 1\nno end\nPrint 6: 2 | 2\n")

-- an UPDATE block whose turns are used up is left by 1:8
abbrev row5 : List File
row5 = ((file_of ([]) (BlockOf (nm (codes "P")) (Program o) ((Declare o ([]) ((declared_of (nm (codes "A")) ((Typed (IntegerKind o)) ∷ (LockGroup o (Literal o (Integer 1))) ∷ [])) ∷ [])) ∷ []) (el ((inr (Labelled ([]) (OnErrorStatement o (OneError o o 1 o 8) (Labelled ([]) (Write o (Literal o (Integer 6)) (es ((Literal o (Text (codes "SPENT"))) ∷ []))))))) ∷ (inr (Labelled ((nm (codes "U")) ∷ []) (Update o (st ((Labelled ([]) (DoLoop o (While o (Compare o (Referred (Refers o (codes "A") ([]) Unsubscripted)) Less (Literal o (Integer 9)))) (Groups (st ((Labelled ([]) (Assignment o ((Refers o (codes "A") ([]) Unsubscripted) ∷ []) (Sum o None (Referred (Refers o (codes "A") ([]) Unsubscripted)) (ts ((Plus, (Literal o (Integer 1))) ∷ []))))) ∷ [])) None))) ∷ [])) (Some (nm (codes "U")))))) ∷ [])) (Some (nm (codes "P"))))) ∷ [])

abbrev Says5 : Type 0
Says5 = asks 2 row5 0 (answered.Begun ∷ (answered.Block ((value.Int (pos 5)) ∷ []) 2) ∷ answered.Done ∷ answered.Done ∷ []) ≡ codes "Begin |\nUpdate 2 |\nwrites 0=6 0=7\nPass |\nPrint 6: SPENT |\nUpdate 2 |\n"

-- a statement of ON ERROR across a call
abbrev row6 : List File
row6 = ((file_of ([]) (BlockOf (nm (codes "P")) (Program o) ((Declare o ([]) ((declared_of (nm (codes "K")) ((Typed (IntegerKind o)) ∷ [])) ∷ [])) ∷ []) (el ((inr (Labelled ([]) (OnErrorStatement o (OneError o o 1 o 2) (Labelled ([]) (Write o (Literal o (Integer 6)) (es ((Literal o (Text (codes "CAUGHT"))) ∷ (Referred (Refers o (codes "ERRNUM") ([]) Unsubscripted)) ∷ []))))))) ∷ (inr (Labelled ([]) (Assignment o ((Refers o (codes "K") ([]) Unsubscripted) ∷ []) (Sum o None (Referred (Refers o (codes "K") ([]) Unsubscripted)) (ts ((Plus, (Literal o (Integer 1))) ∷ [])))))) ∷ (inr (Labelled ([]) (If o (Compare o (Referred (Refers o (codes "K") ([]) Unsubscripted)) Equal (Literal o (Integer 1))) (Labelled ([]) (Call o (nm (codes "Q")) (es ([])) ([]))) NoAlternative))) ∷ (inl (BlockOf (nm (codes "Q")) (Procedure o ([]) ([]) None) ((Declare o ([]) ((declared_of (nm (codes "Z")) ((Typed (IntegerKind o)) ∷ [])) ∷ [])) ∷ []) (el ((inr (Labelled ([]) (Assignment o ((Refers o (codes "Z") ([]) Unsubscripted) ∷ []) (Called o (codes "DIV") (es ((Literal o (Integer 7)) ∷ (Referred (Refers o (codes "Z") ([]) Unsubscripted)) ∷ [])))))) ∷ [])) (Some (nm (codes "Q"))))) ∷ [])) (Some (nm (codes "P"))))) ∷ [])

abbrev Says6 : Type 0
Says6 = asks 400 row6 0 (answered.Begun ∷ answered.Done ∷ answered.Done ∷ answered.Done ∷ []) ≡ codes "Begin | 0 0\nPass | 1 0\nPass | 1 0\nPrint 6: CAUGHT 2 | 1 0\nFinish | 2 0\n"

-- SCHEDULE, its answers, and what is asked with times, events and priorities
abbrev row7 : List File
row7 = ((file_of ([]) (BlockOf (nm (codes "P")) (Program o) ((Declare o ([]) ((declared_of (nm (codes "E")) ((Typed (EventKind o)) ∷ (Marked o Latched) ∷ [])) ∷ [])) ∷ []) (el ((inr (Labelled ([]) (OnErrorResponse o (OneError o o 2 o 1) Ignore None))) ∷ (inr (Labelled ([]) (Scheduled o (scheduling (nm (codes "T")) (Some (StartIn o (Decimal o 1500))) (Some (Literal o (Integer 60))) true (Some (CyclicEvery o (Literal o (Integer 2)))) (Some (While o (Referred (Refers o (codes "E") ([]) Unsubscripted)))))))) ∷ (inr (Labelled ([]) (Scheduled o (scheduling (nm (codes "T")) None None false None None)))) ∷ (inr (Labelled ([]) (UpdatePriority o (Some (nm (codes "T"))) (Literal o (Integer 70))))) ∷ (inr (Labelled ([]) (Event (eventful o Set (nm (codes "E")))))) ∷ (inr (Labelled ([]) (WaitFor o (Not o (Referred (Refers o (codes "E") ([]) Unsubscripted)))))) ∷ (inr (Labelled ([]) (Wait o (Literal o (Integer 3))))) ∷ (inr (Labelled ([]) (WaitForDependent o))) ∷ (inr (Labelled ([]) (Cancel o ((nm (codes "T")) ∷ [])))) ∷ (inr (Labelled ([]) (Terminate o ([])))) ∷ (inl (BlockOf (nm (codes "T")) (Task o) ([]) (el ([])) (Some (nm (codes "T"))))) ∷ [])) (Some (nm (codes "P"))))) ∷ [])

abbrev Says7 : Type 0
Says7 = asks 400 row7 0 (answered.Begun ∷ answered.Done ∷ (answered.Wrong (answered.error 2 1)) ∷ answered.Done ∷ answered.Done ∷ answered.Done ∷ answered.Done ∷ answered.Done ∷ (answered.Wrong (answered.error 2 2)) ∷ []) ≡ codes "Begin |\nSchedule 1 after 1500 priority 60 dependent every 2000 while 0 |\nSchedule 1 now priority 50 once |\nPriority 1 70 |\nSet 2 |\nWait on 1 |\nWait for 3000 |\nWait for dependents |\nCancel 1 |\nStop 2:2 |\n"

-- READ asks before the subscripts of its receiver are evaluated, and skips it after an ignored error
abbrev row8 : List File
row8 = ((file_of ([]) (BlockOf (nm (codes "P")) (Program o) ((Declare o ([]) ((declared_of (nm (codes "A")) ((Dimensions o (es ((Literal o (Integer 2)) ∷ []))) ∷ (Typed (IntegerKind o)) ∷ [])) ∷ (declared_of (nm (codes "I")) ((Typed (IntegerKind o)) ∷ [])) ∷ [])) ∷ []) (el ((inr (Labelled ([]) (OnErrorResponse o (GroupErrors o o 3) Ignore None))) ∷ (inr (Labelled ([]) (Read o (Literal o (Integer 5)) ((Refers o (codes "I") ([]) Unsubscripted) ∷ (Refers o (codes "A") ([]) (ByParts o (ss ([])) (ss ([])) (ss ((One (FromBeginning (Referred (Refers o (codes "I") ([]) Unsubscripted)))) ∷ [])))) ∷ (Refers o (codes "A") ([]) (ByParts o (ss ([])) (ss ([])) (ss ((One (FromBeginning (Referred (Refers o (codes "I") ([]) Unsubscripted)))) ∷ [])))) ∷ [])))) ∷ (inr (Labelled ([]) (Write o (Literal o (Integer 6)) (es ((Referred (Refers o (codes "A") ([]) (ByParts o (ss ([])) (ss ([])) (ss ((One (FromBeginning (Literal o (Integer 2)))) ∷ []))))) ∷ (Referred (Refers o (codes "RUNTIME") ([]) Unsubscripted)) ∷ []))))) ∷ [])) (Some (nm (codes "P"))))) ∷ [])

abbrev Says8 : Type 0
Says8 = asks 400 row8 0 (answered.Begun ∷ (answered.Told (value.Int (pos 2))) ∷ (answered.Told (value.Int (pos 8))) ∷ (answered.Wrong (answered.error 3 1)) ∷ (answered.Told (value.Int (pos 4))) ∷ []) ≡ codes "Begin | 0 0 0\nInput 5 | 0 0 0\nInput 5 | 0 0 2\nInput 5 | 0 8 2\nNow | 0 8 2\nPrint 6: 8 4 | 0 8 2\n"

-- a FUNCTION in a subscript: its turn is asked where it is called
abbrev row9 : List File
row9 = ((file_of ([]) (BlockOf (nm (codes "P")) (Program o) ((Declare o ([]) ((declared_of (nm (codes "A")) ((Dimensions o (es ((Literal o (Integer 3)) ∷ []))) ∷ (Typed (IntegerKind o)) ∷ [])) ∷ (declared_of (nm (codes "N")) ((Typed (IntegerKind o)) ∷ [])) ∷ [])) ∷ []) (el ((inr (Labelled ([]) (Assignment o ((Refers o (codes "A") ([]) (ByParts o (ss ([])) (ss ([])) (ss ((One (FromBeginning (Called o (codes "F") (es ((Referred (Refers o (codes "N") ([]) Unsubscripted)) ∷ []))))) ∷ [])))) ∷ []) (Called o (codes "F") (es ((Referred (Refers o (codes "A") ([]) (ByParts o (ss ([])) (ss ([])) (ss ((One (FromBeginning (Called o (codes "F") (es ((Literal o (Integer 2)) ∷ []))))) ∷ []))))) ∷ [])))))) ∷ (inl (BlockOf (nm (codes "F")) (Function o ((nm (codes "X")) ∷ []) (HasKind (IntegerKind o) None) None) ((Declare o ([]) ((declared_of (nm (codes "X")) ((Typed (IntegerKind o)) ∷ [])) ∷ [])) ∷ []) (el ((inr (Labelled ([]) (Assignment o ((Refers o (codes "N") ([]) Unsubscripted) ∷ []) (Sum o None (Referred (Refers o (codes "N") ([]) Unsubscripted)) (ts ((Plus, (Literal o (Integer 1))) ∷ [])))))) ∷ (inr (Labelled ([]) (Return o (Some (Referred (Refers o (codes "N") ([]) Unsubscripted)))))) ∷ [])) (Some (nm (codes "F"))))) ∷ [])) (Some (nm (codes "P"))))) ∷ [])

abbrev Says9 : Type 0
Says9 = asks 400 row9 0 (answered.Begun ∷ answered.Done ∷ answered.Done ∷ answered.Done ∷ []) ≡ codes "Begin | 0 0 0 0\nPass | 0 0 0 0\nPass | 0 0 0 1\nPass | 0 0 0 2\nFinish | 0 0 2 3\n"

pub all_say : Says1 × Says2 × Says3 × Says4 × Says5 × Says6 × Says7 × Says8 × Says9
unfolding digits words_reserved.reserved_words words_reserved.left_out_words phrases_gathereddeclarations.gathered_kind phrases_gathereddeclarations.gathered_initial phrases_gathereddeclarations.gathered_initials phrases_gathereddeclarations.gathered_attribute phrases_gathereddeclarations.gathered_item phrases_gathereddeclarations.still_open phrases_gathereddeclarations.innermost phrases_gathereddeclarations.is_bottom phrases_gathereddeclarations.gathered_part phrases_gathereddeclarations.gathered_parts phrases_gathereddeclarations.gathered_declaration phrases_gatheredexpressions.gathered phrases_gatheredexpressions.gathered_all phrases_gatheredexpressions.gathered_terms phrases_gatheredexpressions.gathered_reference phrases_gatheredexpressions.gathered_subscript phrases_gatheredexpressions.gathered_subs phrases_gatheredexpressions.gathered_sub phrases_gatheredexpressions.gathered_position phrases_gatheredstatements.gathered_guard phrases_gatheredstatements.gathered_span phrases_gatheredstatements.gathered_start phrases_gatheredstatements.gathered_cycle phrases_gatheredstatements.gathered_limit phrases_gatheredstatements.gathered_schedule phrases_gatheredstatements.begun_for phrases_gatheredstatements.around_for phrases_gatheredstatements.gathered_statement phrases_gatheredstatements.gathered_basic phrases_gatheredstatements.gathered_alternative phrases_gatheredstatements.gathered_group phrases_gatheredstatements.gathered_statements phrases_gatheredunits.gathered_returns phrases_gatheredunits.gathered_head phrases_gatheredunits.gathered_block phrases_gatheredunits.gathered_elements phrases_gatheredunits.around_template phrases_gatheredunits.gathered_template phrases_gatheredunits.gathered_preface phrases_gatheredunits.gathered_prefaces phrases_gatheredunits.name_of_block phrases_gatheredunits.gathered_file phrases_gatheredunits.phrases_of phrases_members.gathered_member phrases_members.gathered_members names_declarations.is_declaring names_declarations.with_places names_declarations.with_all_chosen names_keys.declared_at names_keys.same_space names_keys.same_key names_keys.own names_means.is_compool_unit names_means.unit_named names_means.given_by names_means.shown names_means.shown_by names_means.included names_means.included_before names_means.prefaces_of names_means.nearest names_tasks.with_homes scope_builtins.builtins scope_components.has_path scope_components.is_structure scope_components.type_has scope_components.has_component scope_components.lacks_in scope_components.lacks scope_labels.is_label_of scope_labels.misclosed scope_labels.is_loop scope_labels.group_around scope_labels.misled scope_labels.astray scope_repeated.given scope_repeated.is_of_block scope_repeated.twice scope_repeated.declares_one_there scope_repeated.declarations_of scope_repeated.included_twice scope_repeated.is_item scope_repeated.undeclared scope_rules.fault scope_rules.first_fault scope_sorts.type_in scope_sorts.type_among scope_sorts.sort_of_type scope_sorts.sort_of_head scope_sorts.sort_of scope_sorts.usage_of scope_sorts.use_of_reference scope_sorts.used scope_uses.unknown scope_uses.is_eventful scope_uses.is_nil scope_uses.refers_to_event scope_uses.holds_event scope_uses.hold_event scope_uses.limit_of scope_uses.limit_around scope_uses.misused kinds_attributes.count_of kinds_attributes.no_more kinds_attributes.sizes_in kinds_attributes.sizes_among kinds_attributes.initial_in kinds_attributes.initial_among kinds_attributes.constant_in kinds_attributes.constant_among kinds_attributes.same_mark kinds_attributes.is_mark kinds_classes.class_of_result kinds_classes.class_of_returns kinds_classes.class_of_head kinds_classes.class_of_form kinds_classes.class_of_builtin kinds_classes.class_at kinds_classes.class_of_reference kinds_classes.class_of_function kinds_classes.class_of_called_head kinds_classes.class_of_called kinds_classes.class_of_literal kinds_classes.class_of_conversion kinds_classes.beside kinds_classes.joined kinds_classes.enclosed kinds_classes.class_of kinds_classes.class_beside kinds_classes.class_joined kinds_data.class_of_type kinds_data.has_copies kinds_data.dimensions_of kinds_data.data_of kinds_data.part_data kinds_data.part_under kinds_data.data_at_part kinds_data.component_of kinds_data.component_data kinds_data.data_at kinds_data.is_event_type kinds_data.is_structure_type kinds_subscripts.subscript_count kinds_subscripts.is_many kinds_subscripts.are_many kinds_subscripts.parts_chosen kinds_subscripts.choice_of kinds_subscripts.is_structure_class constants_constants.operation_of_sign constants_constants.signed constants_constants.operation_of_conversion constants_constants.raised_to constants_constants.raised constants_constants.is_none constants_constants.factor_at constants_constants.constant_of constants_constants.folded constants_constants.summed constants_constants.computed constants_constants.computed_second constants_constants.multiplied constants_constants.referred constants_constants.subscripted constants_constants.component_of constants_constants.component_by constants_constants.place_of constants_known.size_of_integer constants_known.size_of_value constants_known.size_of constants_known.bits_kind constants_known.text_kind constants_known.kind_of constants_known.kind_of_type constants_known.gives_none constants_known.give_none constants_known.only_of constants_known.only_with constants_known.kept constants_known.fitted constants_known.only_in constants_known.declared_value constants_known.round constants_known.is_file constants_known.is_pooled constants_known.rounds constants_naming.constant_known constants_naming.constant_at constants_naming.literal_constant constants_naming.operation_of constants_operands.takes_one constants_operands.takes_two constants_operands.is_storable constants_operands.has_components constants_results.worth constants_results.worse constants_results.apply_one constants_results.apply_two constants_results.component_at constants_results.component_to constants_results.component_from constants_results.picked_one constants_results.picked_to constants_results.picked_from states_ofkinds.is_of
all_say = (refl, (refl, refl), refl, (refl, refl, refl), refl, refl, refl, refl, refl)
