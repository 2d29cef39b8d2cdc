-- Rows of the rules from 900 on, written by tools/rule_rows.
use Rattle.std.specs.Prelude.{List, [], ◌∷◌, Some, None, codes}
use Rattle.std.specs.Fmt.{digits}
use Rattle.std.proofs.Common.{refl, inl, inr}
use Rattle.hal_grammar.specs.Leaves.{Integer}
use Rattle.hal_grammar.specs.Expressions.{Literal, Referred, Refers, ByName}
use Rattle.hal_grammar.specs.Declarations.{IntegerKind, Dimensions, Typed, declared_of, Declare}
use Rattle.hal_grammar.specs.Statements.{GroupErrors, Ignore, Labelled, Null, Do, Return, Call, Update, OnErrorStatement, OnErrorResponse, Groups}
use Rattle.hal_grammar.specs.Units.{Reentrant, HasKind, Program, Task, Procedure, Function, BlockOf, template_of, Templates, File, file_of}
use Rattle.hal_phrases.specs.GatheredUnits.{phrases_of}
use Rattle.hal_scope.specs.Rules.{rows}
use Rattle.hal_scope.proofs.Broken.{broken, sound}
use Rattle.hal_types.proofs.Tables.{sound_with}
use Rattle.hal_locks.specs.Rules.{lock_rows}
use Rattle.hal_calls.specs.Rules.{call_rows}
use Rattle.rule_rows.specs.Trees.{at, nm, es, st, el}
use Rattle.rule_rows.specs.Told.{BreaksCalls, KeepsCalls}
use Rattle.hal_words.specs.Reserved as words_reserved
use Rattle.hal_phrases.specs.GatheredDeclarations as phrases_gathereddeclarations
use Rattle.hal_phrases.specs.GatheredExpressions as phrases_gatheredexpressions
use Rattle.hal_phrases.specs.GatheredStatements as phrases_gatheredstatements
use Rattle.hal_phrases.specs.GatheredUnits as phrases_gatheredunits
use Rattle.hal_phrases.specs.Members as phrases_members
use Rattle.hal_names.specs.Declarations as names_declarations
use Rattle.hal_names.specs.Keys as names_keys
use Rattle.hal_names.specs.Means as names_means
use Rattle.hal_names.specs.Tasks as names_tasks
use Rattle.hal_scope.specs.Builtins as scope_builtins
use Rattle.hal_scope.specs.Components as scope_components
use Rattle.hal_scope.specs.Labels as scope_labels
use Rattle.hal_scope.specs.Repeated as scope_repeated
use Rattle.hal_scope.specs.Rules as scope_rules
use Rattle.hal_scope.specs.Sorts as scope_sorts
use Rattle.hal_scope.specs.Uses as scope_uses
use Rattle.hal_kinds.specs.Attributes as kinds_attributes
use Rattle.hal_kinds.specs.Classes as kinds_classes
use Rattle.hal_kinds.specs.Data as kinds_data
use Rattle.hal_kinds.specs.Subscripts as kinds_subscripts
use Rattle.hal_constants.specs.Constants as constants_constants
use Rattle.hal_constants.specs.Known as constants_known
use Rattle.hal_constants.specs.Naming as constants_naming
use Rattle.hal_constants.specs.Operands as constants_operands
use Rattle.hal_constants.specs.Results as constants_results
use Rattle.hal_sizes.specs.Cells as sizes_cells
use Rattle.hal_sizes.specs.Constancy as sizes_constancy
use Rattle.hal_sizes.specs.Parts as sizes_parts
use Rattle.hal_sizes.specs.Sizes as sizes_sizes
use Rattle.hal_attributes.specs.Clashes as attributes_clashes
use Rattle.hal_attributes.specs.Features as attributes_features
use Rattle.hal_attributes.specs.Levels as attributes_levels
use Rattle.hal_attributes.specs.Storage as attributes_storage
use Rattle.hal_attributes.specs.Typed as attributes_typed
use Rattle.hal_operands.specs.Pairs as operands_pairs
use Rattle.hal_operands.specs.Taken as operands_taken
use Rattle.hal_operands.specs.Times as operands_times
use Rattle.hal_operands.specs.Wants as operands_wants
use Rattle.hal_initials.specs.Falling as initials_falling
use Rattle.hal_initials.specs.Initials as initials_initials
use Rattle.hal_initials.specs.Repetition as initials_repetition
use Rattle.hal_initials.specs.Suiting as initials_suiting
use Rattle.hal_shapes.specs.Arguments as shapes_arguments
use Rattle.hal_shapes.specs.Paths as shapes_paths
use Rattle.hal_shapes.specs.Ranges as shapes_ranges
use Rattle.hal_shapes.specs.Reaches as shapes_reaches
use Rattle.hal_shapes.specs.Selections as shapes_selections
use Rattle.hal_shapes.specs.Shapes as shapes_shapes
use Rattle.hal_shapes.specs.Spans as shapes_spans
use Rattle.hal_uses.specs.Calls as uses_calls
use Rattle.hal_uses.specs.Forms as uses_forms
use Rattle.hal_uses.specs.Real as uses_real
use Rattle.hal_uses.specs.Receivers as uses_receivers
use Rattle.hal_uses.specs.Subscripts as uses_subscripts
use Rattle.hal_types.specs.Rules as types_rules
use Rattle.hal_locks.specs.Barred as locks_barred
use Rattle.hal_locks.specs.Callees as locks_callees
use Rattle.hal_locks.specs.Locked as locks_locked
use Rattle.hal_locks.specs.Passed as locks_passed
use Rattle.hal_locks.specs.Placed as locks_placed
use Rattle.hal_locks.specs.Rules as locks_rules
use Rattle.hal_locks.specs.Updates as locks_updates
use Rattle.hal_reach.specs.Calls as reach_calls
use Rattle.hal_reach.specs.Marks as reach_marks
use Rattle.hal_reach.specs.Places as reach_places
use Rattle.hal_calls.specs.Blocks as calls_blocks
use Rattle.hal_calls.specs.Placed as calls_placed
use Rattle.hal_calls.specs.Rules as calls_rules

-- P: PROGRAM; CALL Q; Q: PROCEDURE; CALL R; CLOSE Q; R: PROCEDURE; CALL Q; CLOSE R; CLOSE P; => rule 901 0 1:22
abbrev row1 : List File
row1 = ((file_of ([]) (BlockOf (nm (at 0 1 2) (codes "P")) (Program (at 0 1 5)) ([]) (el ((inr (Labelled ([]) (Call (at 0 1 14) (nm (at 0 1 19) (codes "Q")) (es ([])) ([])))) ∷ (inl (BlockOf (nm (at 0 1 22) (codes "Q")) (Procedure (at 0 1 25) ([]) ([]) None) ([]) (el ((inr (Labelled ([]) (Call (at 0 1 36) (nm (at 0 1 41) (codes "R")) (es ([])) ([])))) ∷ [])) (Some (nm (at 0 1 50) (codes "Q"))))) ∷ (inl (BlockOf (nm (at 0 1 53) (codes "R")) (Procedure (at 0 1 56) ([]) ([]) None) ([]) (el ((inr (Labelled ([]) (Call (at 0 1 67) (nm (at 0 1 72) (codes "Q")) (es ([])) ([])))) ∷ [])) (Some (nm (at 0 1 81) (codes "R"))))) ∷ [])) (Some (nm (at 0 1 90) (codes "P"))))) ∷ [])

-- P: PROGRAM; CALL Q; Q: PROCEDURE; CALL R; CLOSE Q; R: PROCEDURE; RETURN; CLOSE R; CLOSE P; => right
abbrev row2 : List File
row2 = ((file_of ([]) (BlockOf (nm (at 0 1 2) (codes "P")) (Program (at 0 1 5)) ([]) (el ((inr (Labelled ([]) (Call (at 0 1 14) (nm (at 0 1 19) (codes "Q")) (es ([])) ([])))) ∷ (inl (BlockOf (nm (at 0 1 22) (codes "Q")) (Procedure (at 0 1 25) ([]) ([]) None) ([]) (el ((inr (Labelled ([]) (Call (at 0 1 36) (nm (at 0 1 41) (codes "R")) (es ([])) ([])))) ∷ [])) (Some (nm (at 0 1 50) (codes "Q"))))) ∷ (inl (BlockOf (nm (at 0 1 53) (codes "R")) (Procedure (at 0 1 56) ([]) ([]) None) ([]) (el ((inr (Labelled ([]) (Return (at 0 1 67) None))) ∷ [])) (Some (nm (at 0 1 81) (codes "R"))))) ∷ [])) (Some (nm (at 0 1 90) (codes "P"))))) ∷ [])

-- P: PROGRAM; DECLARE A ARRAY(3) INTEGER; F: FUNCTION INTEGER; RETURN A$F; CLOSE F; CLOSE P; => rule 901 0 1:42
abbrev row3 : List File
row3 = ((file_of ([]) (BlockOf (nm (at 0 1 2) (codes "P")) (Program (at 0 1 5)) ((Declare (at 0 1 14) ([]) ((declared_of (nm (at 0 1 22) (codes "A")) ((Dimensions (at 0 1 24) (es ((Literal (at 0 1 30) (Integer 3)) ∷ []))) ∷ (Typed (IntegerKind (at 0 1 33))) ∷ [])) ∷ [])) ∷ []) (el ((inl (BlockOf (nm (at 0 1 42) (codes "F")) (Function (at 0 1 45) ([]) (HasKind (IntegerKind (at 0 1 54)) None) None) ([]) (el ((inr (Labelled ([]) (Return (at 0 1 63) (Some (Referred (Refers (at 0 1 70) (codes "A") ([]) (ByName (at 0 1 71) (nm (at 0 1 72) (codes "F"))))))))) ∷ [])) (Some (nm (at 0 1 81) (codes "F"))))) ∷ [])) (Some (nm (at 0 1 90) (codes "P"))))) ∷ [])

-- P: PROGRAM; DECLARE A ARRAY(3) INTEGER, N INTEGER; F: FUNCTION INTEGER; RETURN A$N; CLOSE F; CLOSE P; => right
abbrev row4 : List File
row4 = ((file_of ([]) (BlockOf (nm (at 0 1 2) (codes "P")) (Program (at 0 1 5)) ((Declare (at 0 1 14) ([]) ((declared_of (nm (at 0 1 22) (codes "A")) ((Dimensions (at 0 1 24) (es ((Literal (at 0 1 30) (Integer 3)) ∷ []))) ∷ (Typed (IntegerKind (at 0 1 33))) ∷ [])) ∷ (declared_of (nm (at 0 1 42) (codes "N")) ((Typed (IntegerKind (at 0 1 44))) ∷ [])) ∷ [])) ∷ []) (el ((inl (BlockOf (nm (at 0 1 53) (codes "F")) (Function (at 0 1 56) ([]) (HasKind (IntegerKind (at 0 1 65)) None) None) ([]) (el ((inr (Labelled ([]) (Return (at 0 1 74) (Some (Referred (Refers (at 0 1 81) (codes "A") ([]) (ByName (at 0 1 82) (nm (at 0 1 83) (codes "N"))))))))) ∷ [])) (Some (nm (at 0 1 92) (codes "F"))))) ∷ [])) (Some (nm (at 0 1 101) (codes "P"))))) ∷ [])

-- P: PROGRAM; CALL Q; T: TASK; CALL Q; CLOSE T; Q: PROCEDURE; CLOSE Q; CLOSE P; => rule 902 0 1:48
abbrev row5 : List File
row5 = ((file_of ([]) (BlockOf (nm (at 0 1 2) (codes "P")) (Program (at 0 1 5)) ([]) (el ((inr (Labelled ([]) (Call (at 0 1 14) (nm (at 0 1 19) (codes "Q")) (es ([])) ([])))) ∷ (inl (BlockOf (nm (at 0 1 22) (codes "T")) (Task (at 0 1 25)) ([]) (el ((inr (Labelled ([]) (Call (at 0 1 31) (nm (at 0 1 36) (codes "Q")) (es ([])) ([])))) ∷ [])) (Some (nm (at 0 1 45) (codes "T"))))) ∷ (inl (BlockOf (nm (at 0 1 48) (codes "Q")) (Procedure (at 0 1 51) ([]) ([]) None) ([]) (el ([])) (Some (nm (at 0 1 68) (codes "Q"))))) ∷ [])) (Some (nm (at 0 1 77) (codes "P"))))) ∷ [])

-- P: PROGRAM; CALL Q; T: TASK; CALL Q; CLOSE T; Q: PROCEDURE REENTRANT; CLOSE Q; CLOSE P; => right
abbrev row6 : List File
row6 = ((file_of ([]) (BlockOf (nm (at 0 1 2) (codes "P")) (Program (at 0 1 5)) ([]) (el ((inr (Labelled ([]) (Call (at 0 1 14) (nm (at 0 1 19) (codes "Q")) (es ([])) ([])))) ∷ (inl (BlockOf (nm (at 0 1 22) (codes "T")) (Task (at 0 1 25)) ([]) (el ((inr (Labelled ([]) (Call (at 0 1 31) (nm (at 0 1 36) (codes "Q")) (es ([])) ([])))) ∷ [])) (Some (nm (at 0 1 45) (codes "T"))))) ∷ (inl (BlockOf (nm (at 0 1 48) (codes "Q")) (Procedure (at 0 1 51) ([]) ([]) (Some (Reentrant (at 0 1 61)))) ([]) (el ([])) (Some (nm (at 0 1 78) (codes "Q"))))) ∷ [])) (Some (nm (at 0 1 87) (codes "P"))))) ∷ [])

-- P: PROGRAM; CALL Q; T: TASK; CALL R; CLOSE T; Q: PROCEDURE; CALL R; CLOSE Q; R: PROCEDURE; CLOSE R; CLOSE P; => rule 902 0 1:79
abbrev row7 : List File
row7 = ((file_of ([]) (BlockOf (nm (at 0 1 2) (codes "P")) (Program (at 0 1 5)) ([]) (el ((inr (Labelled ([]) (Call (at 0 1 14) (nm (at 0 1 19) (codes "Q")) (es ([])) ([])))) ∷ (inl (BlockOf (nm (at 0 1 22) (codes "T")) (Task (at 0 1 25)) ([]) (el ((inr (Labelled ([]) (Call (at 0 1 31) (nm (at 0 1 36) (codes "R")) (es ([])) ([])))) ∷ [])) (Some (nm (at 0 1 45) (codes "T"))))) ∷ (inl (BlockOf (nm (at 0 1 48) (codes "Q")) (Procedure (at 0 1 51) ([]) ([]) None) ([]) (el ((inr (Labelled ([]) (Call (at 0 1 62) (nm (at 0 1 67) (codes "R")) (es ([])) ([])))) ∷ [])) (Some (nm (at 0 1 76) (codes "Q"))))) ∷ (inl (BlockOf (nm (at 0 1 79) (codes "R")) (Procedure (at 0 1 82) ([]) ([]) None) ([]) (el ([])) (Some (nm (at 0 1 99) (codes "R"))))) ∷ [])) (Some (nm (at 0 1 108) (codes "P"))))) ∷ [])

-- P: PROGRAM; CALL Q; CALL R; T: TASK; CLOSE T; Q: PROCEDURE; CALL R; CLOSE Q; R: PROCEDURE; CLOSE R; CLOSE P; => right
abbrev row8 : List File
row8 = ((file_of ([]) (BlockOf (nm (at 0 1 2) (codes "P")) (Program (at 0 1 5)) ([]) (el ((inr (Labelled ([]) (Call (at 0 1 14) (nm (at 0 1 19) (codes "Q")) (es ([])) ([])))) ∷ (inr (Labelled ([]) (Call (at 0 1 22) (nm (at 0 1 27) (codes "R")) (es ([])) ([])))) ∷ (inl (BlockOf (nm (at 0 1 30) (codes "T")) (Task (at 0 1 33)) ([]) (el ([])) (Some (nm (at 0 1 45) (codes "T"))))) ∷ (inl (BlockOf (nm (at 0 1 48) (codes "Q")) (Procedure (at 0 1 51) ([]) ([]) None) ([]) (el ((inr (Labelled ([]) (Call (at 0 1 62) (nm (at 0 1 67) (codes "R")) (es ([])) ([])))) ∷ [])) (Some (nm (at 0 1 76) (codes "Q"))))) ∷ (inl (BlockOf (nm (at 0 1 79) (codes "R")) (Procedure (at 0 1 82) ([]) ([]) None) ([]) (el ([])) (Some (nm (at 0 1 99) (codes "R"))))) ∷ [])) (Some (nm (at 0 1 108) (codes "P"))))) ∷ [])

-- P: PROGRAM; DO; ON ERROR$1 RETURN; END; CLOSE P; => rule 903 0 1:18
abbrev row9 : List File
row9 = ((file_of ([]) (BlockOf (nm (at 0 1 2) (codes "P")) (Program (at 0 1 5)) ([]) (el ((inr (Labelled ([]) (Do (at 0 1 14) (Groups (st ((Labelled ([]) (OnErrorStatement (at 0 1 18) (GroupErrors (at 0 1 26) (at 0 1 27) 1) (Labelled ([]) (Return (at 0 1 29) None)))) ∷ [])) None)))) ∷ [])) (Some (nm (at 0 1 48) (codes "P"))))) ∷ [])

-- P: PROGRAM; ON ERROR$1 RETURN; DO; ON ERROR$2 IGNORE; END; CLOSE P; => right
abbrev row10 : List File
row10 = ((file_of ([]) (BlockOf (nm (at 0 1 2) (codes "P")) (Program (at 0 1 5)) ([]) (el ((inr (Labelled ([]) (OnErrorStatement (at 0 1 14) (GroupErrors (at 0 1 22) (at 0 1 23) 1) (Labelled ([]) (Return (at 0 1 25) None))))) ∷ (inr (Labelled ([]) (Do (at 0 1 33) (Groups (st ((Labelled ([]) (OnErrorResponse (at 0 1 37) (GroupErrors (at 0 1 45) (at 0 1 46) 2) Ignore None)) ∷ [])) None)))) ∷ [])) (Some (nm (at 0 1 67) (codes "P"))))) ∷ [])

-- P: PROGRAM; UPDATE; DO; ON ERROR$1 ; END; CLOSE; CLOSE P; => rule 903 0 1:26
abbrev row11 : List File
row11 = ((file_of ([]) (BlockOf (nm (at 0 1 2) (codes "P")) (Program (at 0 1 5)) ([]) (el ((inr (Labelled ([]) (Update (at 0 1 14) (st ((Labelled ([]) (Do (at 0 1 22) (Groups (st ((Labelled ([]) (OnErrorStatement (at 0 1 26) (GroupErrors (at 0 1 34) (at 0 1 35) 1) (Labelled ([]) (Null (at 0 1 37))))) ∷ [])) None))) ∷ [])) None))) ∷ [])) (Some (nm (at 0 1 57) (codes "P"))))) ∷ [])

-- P: PROGRAM; UPDATE; ON ERROR$1 ; CLOSE; CLOSE P; => right
abbrev row12 : List File
row12 = ((file_of ([]) (BlockOf (nm (at 0 1 2) (codes "P")) (Program (at 0 1 5)) ([]) (el ((inr (Labelled ([]) (Update (at 0 1 14) (st ((Labelled ([]) (OnErrorStatement (at 0 1 22) (GroupErrors (at 0 1 30) (at 0 1 31) 1) (Labelled ([]) (Null (at 0 1 33))))) ∷ [])) None))) ∷ [])) (Some (nm (at 0 1 48) (codes "P"))))) ∷ [])

-- P: PROGRAM; Q: PROCEDURE; T: TASK; CLOSE T; CLOSE Q; CLOSE P; => rule 904 0 1:31
abbrev row13 : List File
row13 = ((file_of ([]) (BlockOf (nm (at 0 1 2) (codes "P")) (Program (at 0 1 5)) ([]) (el ((inl (BlockOf (nm (at 0 1 14) (codes "Q")) (Procedure (at 0 1 17) ([]) ([]) None) ([]) (el ((inl (BlockOf (nm (at 0 1 28) (codes "T")) (Task (at 0 1 31)) ([]) (el ([])) (Some (nm (at 0 1 43) (codes "T"))))) ∷ [])) (Some (nm (at 0 1 52) (codes "Q"))))) ∷ [])) (Some (nm (at 0 1 61) (codes "P"))))) ∷ [])

-- P: PROGRAM; Q: PROCEDURE; CLOSE Q; T: TASK; CLOSE T; CLOSE P; => right
abbrev row14 : List File
row14 = ((file_of ([]) (BlockOf (nm (at 0 1 2) (codes "P")) (Program (at 0 1 5)) ([]) (el ((inl (BlockOf (nm (at 0 1 14) (codes "Q")) (Procedure (at 0 1 17) ([]) ([]) None) ([]) (el ([])) (Some (nm (at 0 1 34) (codes "Q"))))) ∷ (inl (BlockOf (nm (at 0 1 37) (codes "T")) (Task (at 0 1 40)) ([]) (el ([])) (Some (nm (at 0 1 52) (codes "T"))))) ∷ [])) (Some (nm (at 0 1 61) (codes "P"))))) ∷ [])

-- T: EXTERNAL TASK; CLOSE T;\n P: PROGRAM; CLOSE P; => rule 904 0 1:14
abbrev row15 : List File
row15 = ((file_of ((Templates (template_of (nm (at 0 1 2) (codes "T")) (Task (at 0 1 14)) ([]) (Some (nm (at 0 1 26) (codes "T"))))) ∷ []) (BlockOf (nm (at 0 2 2) (codes "P")) (Program (at 0 2 5)) ([]) (el ([])) (Some (nm (at 0 2 20) (codes "P"))))) ∷ [])

-- T: EXTERNAL PROGRAM; CLOSE T;\n P: PROGRAM; CLOSE P; => right
abbrev row16 : List File
row16 = ((file_of ((Templates (template_of (nm (at 0 1 2) (codes "T")) (Program (at 0 1 14)) ([]) (Some (nm (at 0 1 29) (codes "T"))))) ∷ []) (BlockOf (nm (at 0 2 2) (codes "P")) (Program (at 0 2 5)) ([]) (el ([])) (Some (nm (at 0 2 20) (codes "P"))))) ∷ [])

-- Q: PROCEDURE; CLOSE Q; => rule 905 0 1:1
abbrev row17 : List File
row17 = ((file_of ([]) (BlockOf (nm (at 0 1 2) (codes "Q")) (Procedure (at 0 1 5) ([]) ([]) None) ([]) (el ([])) (Some (nm (at 0 1 22) (codes "Q"))))) ∷ [])

-- Q: PROCEDURE; CLOSE Q; ~~  P: PROGRAM; CLOSE P; => right
abbrev row18 : List File
row18 = ((file_of ([]) (BlockOf (nm (at 0 1 2) (codes "Q")) (Procedure (at 0 1 5) ([]) ([]) None) ([]) (el ([])) (Some (nm (at 0 1 22) (codes "Q"))))) ∷ (file_of ([]) (BlockOf (nm (at 1 1 2) (codes "P")) (Program (at 1 1 5)) ([]) (el ([])) (Some (nm (at 1 1 20) (codes "P"))))) ∷ [])

pub all_say : BreaksCalls row1 901 (at 0 1 22) × KeepsCalls row2 × BreaksCalls row3 901 (at 0 1 42) × KeepsCalls row4 × BreaksCalls row5 902 (at 0 1 48) × KeepsCalls row6 × BreaksCalls row7 902 (at 0 1 79) × KeepsCalls row8 × BreaksCalls row9 903 (at 0 1 18) × KeepsCalls row10 × BreaksCalls row11 903 (at 0 1 26) × KeepsCalls row12 × BreaksCalls row13 904 (at 0 1 31) × KeepsCalls row14 × BreaksCalls row15 904 (at 0 1 14) × KeepsCalls row16 × BreaksCalls row17 905 (at 0 1 1) × KeepsCalls row18
unfolding digits words_reserved.reserved_words words_reserved.left_out_words phrases_gathereddeclarations.gathered_kind phrases_gathereddeclarations.gathered_initial phrases_gathereddeclarations.gathered_initials phrases_gathereddeclarations.gathered_attribute phrases_gathereddeclarations.gathered_item phrases_gathereddeclarations.still_open phrases_gathereddeclarations.innermost phrases_gathereddeclarations.is_bottom phrases_gathereddeclarations.gathered_part phrases_gathereddeclarations.gathered_parts phrases_gathereddeclarations.gathered_declaration phrases_gatheredexpressions.gathered phrases_gatheredexpressions.gathered_all phrases_gatheredexpressions.gathered_terms phrases_gatheredexpressions.gathered_reference phrases_gatheredexpressions.gathered_subscript phrases_gatheredexpressions.gathered_subs phrases_gatheredexpressions.gathered_sub phrases_gatheredexpressions.gathered_position phrases_gatheredstatements.gathered_guard phrases_gatheredstatements.gathered_span phrases_gatheredstatements.gathered_start phrases_gatheredstatements.gathered_cycle phrases_gatheredstatements.gathered_limit phrases_gatheredstatements.gathered_schedule phrases_gatheredstatements.begun_for phrases_gatheredstatements.around_for phrases_gatheredstatements.gathered_statement phrases_gatheredstatements.gathered_basic phrases_gatheredstatements.gathered_alternative phrases_gatheredstatements.gathered_group phrases_gatheredstatements.gathered_statements phrases_gatheredunits.gathered_returns phrases_gatheredunits.gathered_head phrases_gatheredunits.gathered_block phrases_gatheredunits.gathered_elements phrases_gatheredunits.around_template phrases_gatheredunits.gathered_template phrases_gatheredunits.gathered_preface phrases_gatheredunits.gathered_prefaces phrases_gatheredunits.name_of_block phrases_gatheredunits.gathered_file phrases_gatheredunits.phrases_of phrases_members.gathered_member phrases_members.gathered_members names_declarations.is_declaring names_declarations.with_places names_declarations.with_all_chosen names_keys.declared_at names_keys.same_space names_keys.same_key names_keys.own names_means.is_compool_unit names_means.unit_named names_means.given_by names_means.shown names_means.shown_by names_means.included names_means.included_before names_means.prefaces_of names_means.nearest names_tasks.with_homes scope_builtins.builtins scope_components.has_path scope_components.is_structure scope_components.type_has scope_components.has_component scope_components.lacks_in scope_components.lacks scope_labels.is_label_of scope_labels.misclosed scope_labels.is_loop scope_labels.group_around scope_labels.misled scope_labels.astray scope_repeated.given scope_repeated.is_of_block scope_repeated.twice scope_repeated.declares_one_there scope_repeated.declarations_of scope_repeated.included_twice scope_repeated.is_item scope_repeated.undeclared scope_rules.fault scope_rules.first_fault scope_sorts.type_in scope_sorts.type_among scope_sorts.sort_of_type scope_sorts.sort_of_head scope_sorts.sort_of scope_sorts.usage_of scope_sorts.use_of_reference scope_sorts.used scope_uses.unknown scope_uses.is_eventful scope_uses.is_nil scope_uses.refers_to_event scope_uses.holds_event scope_uses.hold_event scope_uses.limit_of scope_uses.limit_around scope_uses.misused kinds_attributes.count_of kinds_attributes.no_more kinds_attributes.sizes_in kinds_attributes.sizes_among kinds_attributes.initial_in kinds_attributes.initial_among kinds_attributes.constant_in kinds_attributes.constant_among kinds_attributes.same_mark kinds_attributes.is_mark kinds_classes.class_of_result kinds_classes.class_of_returns kinds_classes.class_of_head kinds_classes.class_of_form kinds_classes.class_of_builtin kinds_classes.class_at kinds_classes.class_of_reference kinds_classes.class_of_function kinds_classes.class_of_called_head kinds_classes.class_of_called kinds_classes.class_of_literal kinds_classes.class_of_conversion kinds_classes.beside kinds_classes.joined kinds_classes.enclosed kinds_classes.class_of kinds_classes.class_beside kinds_classes.class_joined kinds_data.class_of_type kinds_data.has_copies kinds_data.dimensions_of kinds_data.data_of kinds_data.part_data kinds_data.part_under kinds_data.data_at_part kinds_data.component_of kinds_data.component_data kinds_data.data_at kinds_data.is_event_type kinds_data.is_structure_type kinds_subscripts.subscript_count kinds_subscripts.is_many kinds_subscripts.are_many kinds_subscripts.parts_chosen kinds_subscripts.choice_of kinds_subscripts.is_structure_class constants_constants.operation_of_sign constants_constants.signed constants_constants.operation_of_conversion constants_constants.raised_to constants_constants.raised constants_constants.is_none constants_constants.factor_at constants_constants.constant_of constants_constants.folded constants_constants.summed constants_constants.computed constants_constants.computed_second constants_constants.multiplied constants_constants.referred constants_constants.subscripted constants_constants.component_of constants_constants.component_by constants_constants.place_of constants_known.size_of_integer constants_known.size_of_value constants_known.size_of constants_known.bits_kind constants_known.text_kind constants_known.kind_of constants_known.kind_of_type constants_known.gives_none constants_known.give_none constants_known.only_of constants_known.only_with constants_known.kept constants_known.fitted constants_known.only_in constants_known.declared_value constants_known.round constants_known.is_file constants_known.is_pooled constants_known.rounds constants_naming.constant_known constants_naming.constant_at constants_naming.literal_constant constants_naming.operation_of constants_operands.takes_one constants_operands.takes_two constants_operands.is_storable constants_operands.has_components constants_results.worth constants_results.worse constants_results.apply_one constants_results.apply_two constants_results.component_at constants_results.component_to constants_results.component_from constants_results.picked_one constants_results.picked_to constants_results.picked_from sizes_cells.cells_with sizes_cells.cells_of_copies sizes_cells.cells_of_kind sizes_constancy.unsettled sizes_constancy.missized_value sizes_constancy.missized sizes_constancy.is_channel sizes_constancy.mischannelled_value sizes_constancy.mischannelled sizes_constancy.inconstant_as sizes_constancy.inconstant_initial sizes_constancy.inconstant sizes_constancy.misdimensioned_by sizes_constancy.misdimensioned_among sizes_constancy.misdimensioned sizes_parts.parts_of sizes_parts.bottoms sizes_sizes.first_size sizes_sizes.behind sizes_sizes.known_extent sizes_sizes.extent_of sizes_sizes.copies_by sizes_sizes.copies_in sizes_sizes.copies_of attributes_clashes.clash_behind attributes_clashes.clash_among attributes_clashes.place_of_precision attributes_clashes.clash_of_precision attributes_clashes.clash_of_returns attributes_clashes.clash_of_head attributes_clashes.clashing attributes_features.place_of_kind attributes_features.place_of_attribute attributes_features.feature_of_kind attributes_features.feature_of_mark attributes_features.feature_of attributes_features.sort_of attributes_features.excludes attributes_levels.may_follow attributes_levels.level_fault attributes_levels.misleveled attributes_levels.is_of_bottom attributes_levels.first_of_bottom attributes_levels.is_parent attributes_levels.parent_fault attributes_levels.overtyped attributes_storage.is_entered_head attributes_storage.is_entered attributes_storage.misstored attributes_typed.is_untyped attributes_typed.untyped_head attributes_typed.untyped attributes_typed.is_template attributes_typed.named_as_template attributes_typed.nested attributes_typed.misplaced_event attributes_typed.is_no_result attributes_typed.gives_no_value attributes_typed.no_result_head attributes_typed.no_result operands_pairs.is_equality operands_pairs.compared_fault operands_pairs.is_value operands_pairs.joined_fault operands_pairs.is_comparison operands_pairs.is_bits operands_pairs.mixed_behind operands_pairs.mixed_before operands_pairs.pair_fault operands_pairs.is_eventual operands_pairs.mismatched operands_taken.takes operands_taken.all_take operands_taken.assigned_taken operands_taken.head_takes operands_taken.returned_taken operands_taken.is_taken operands_taken.untaken operands_times.is_whole_time operands_times.is_timely operands_times.untimely operands_times.misfit_of_time operands_times.is_unsubscripted operands_times.is_plain operands_times.is_event_operand operands_times.is_event_part operands_times.wanted_within operands_times.timed operands_times.mistimed operands_wants.wanted operands_wants.misfit_of_value operands_wants.misfit_of_condition operands_wants.misfit_of_whole operands_wants.misfit operands_wants.misfit_of_receiver operands_wants.receiver_misfit operands_wants.unfit initials_falling.repeated initials_falling.known_places initials_falling.laid initials_falling.class_of_kind initials_falling.fault_from initials_falling.again initials_falling.fallen initials_falling.fallen_all initials_falling.filled initials_initials.miscounted initials_initials.spread initials_initials.misvalued initials_initials.misinitialed initials_initials.missigned initials_repetition.count_of initials_repetition.count_with initials_suiting.fails initials_suiting.overflows initials_suiting.single_fault initials_suiting.initial_fault initials_suiting.initials_fault initials_suiting.missigned_class initials_suiting.missigned_initial shapes_arguments.input_fits shapes_arguments.kind_of_reference shapes_arguments.output_fits shapes_arguments.parameter_of shapes_arguments.inputs_fit shapes_arguments.outputs_fit shapes_arguments.form_fits shapes_arguments.call_fits shapes_arguments.head_of shapes_arguments.misshaped shapes_paths.found shapes_paths.reached shapes_ranges.is_outside shapes_ranges.first_range shapes_ranges.reference_ranges shapes_ranges.misranged shapes_reaches.unreached shapes_reaches.between_places shapes_reaches.between_values shapes_reaches.reach_to shapes_reaches.starting_places shapes_reaches.starting_values shapes_reaches.reach_from shapes_reaches.position_in shapes_reaches.reach_of shapes_reaches.place_of_position shapes_reaches.place_of_sub shapes_selections.declared_for shapes_selections.structure_in shapes_selections.kind_at shapes_selections.extent_at shapes_selections.copies_at shapes_selections.copy_subs shapes_selections.copies_by shapes_selections.copies_left shapes_selections.reference_in shapes_shapes.same_kind shapes_shapes.may_equal shapes_shapes.may_match shapes_shapes.same_parts shapes_shapes.may_count shapes_shapes.is_lone shapes_shapes.chooses shapes_shapes.fits_array shapes_shapes.same_structures shapes_shapes.is_one_copy shapes_shapes.matches_any shapes_shapes.structure_at shapes_shapes.fits_structure shapes_shapes.fits_single shapes_shapes.is_excused shapes_shapes.is_whole_array shapes_shapes.is_whole_structure shapes_shapes.array_argument shapes_shapes.structure_argument shapes_spans.span_by shapes_spans.first_span shapes_spans.later_subs shapes_spans.leave shapes_spans.array_subs uses_calls.signature_of uses_calls.second_fault uses_calls.listed_fault uses_calls.has_copies_of uses_calls.is_copied uses_calls.misfit_of_size uses_calls.sized uses_calls.size_fault uses_calls.formed_fault uses_calls.is_condition uses_calls.condition_fault uses_calls.head_fault uses_calls.product_fault uses_calls.is_base uses_calls.declared_fault uses_calls.called_head_fault uses_calls.called_fault uses_calls.lacks_arguments_head uses_calls.lacks_arguments uses_calls.is_operand_role uses_calls.alone_fault uses_calls.miscalled uses_forms.is_integer_value uses_forms.is_integer_literal uses_forms.is_exponent uses_forms.no_exponent uses_forms.is_function_head uses_forms.is_function uses_forms.misreturned uses_forms.selector_fault uses_forms.no_error uses_real.is_unlatched uses_real.is_kept uses_real.unlatched uses_real.is_process uses_real.no_process uses_receivers.is_input uses_receivers.may_receive uses_receivers.is_component uses_receivers.put_fault uses_receivers.put uses_receivers.is_integer uses_receivers.counted_fault uses_receivers.variable_fault uses_receivers.reference_receives uses_receivers.misreceived uses_subscripts.is_string uses_subscripts.is_eventful_head uses_subscripts.head_fault uses_subscripts.is_event_name uses_subscripts.data_fault uses_subscripts.fault_at uses_subscripts.reference_fault uses_subscripts.missubscripted types_rules.attribute_rows types_rules.operand_rows types_rules.use_rows types_rules.size_rows types_rules.type_rows types_rules.first_with locks_barred.is_read locks_barred.is_reading locks_barred.is_runtime locks_barred.barred locks_callees.with_homes locks_callees.barred_units locks_locked.is_numbered locks_locked.is_starred locks_locked.is_grouped locks_locked.declares_grouped locks_locked.is_locked locks_passed.is_open locks_passed.passed locks_passed.first_passed locks_passed.passed_by_head locks_passed.passed_to locks_passed.mispassed locks_placed.is_shared_head locks_placed.is_shared locks_placed.lockable_as locks_placed.takes_number locks_placed.takes_star locks_placed.is_no_group_value locks_placed.is_no_group locks_placed.is_misplaced locks_placed.misplaced locks_rules.lock_rows locks_rules.first_with locks_updates.updating locks_updates.returning reach_calls.units_of reach_calls.reaching reach_calls.callers_of reach_calls.reached_of reach_calls.recursive reach_marks.rounds reach_marks.numbers_marked reach_marks.processes_marked reach_marks.rows reach_marks.counts reach_marks.calls_itself reach_marks.recursive_among reach_marks.recursive reach_places.place_among calls_blocks.name_at calls_blocks.contended calls_blocks.contended_among calls_placed.handling calls_placed.task_head calls_placed.task_at calls_rules.call_rows calls_rules.first_with
all_say = ((((sound rows (phrases_of row1) refl, sound_with (phrases_of row1) refl), sound lock_rows (phrases_of row1) refl), inl (broken call_rows (phrases_of row1) 901 (at 0 1 22) refl)), (((sound rows (phrases_of row2) refl, sound_with (phrases_of row2) refl), sound lock_rows (phrases_of row2) refl), refl, sound call_rows (phrases_of row2) refl), (((sound rows (phrases_of row3) refl, sound_with (phrases_of row3) refl), sound lock_rows (phrases_of row3) refl), inl (broken call_rows (phrases_of row3) 901 (at 0 1 42) refl)), (((sound rows (phrases_of row4) refl, sound_with (phrases_of row4) refl), sound lock_rows (phrases_of row4) refl), refl, sound call_rows (phrases_of row4) refl), (((sound rows (phrases_of row5) refl, sound_with (phrases_of row5) refl), sound lock_rows (phrases_of row5) refl), inl (broken call_rows (phrases_of row5) 902 (at 0 1 48) refl)), (((sound rows (phrases_of row6) refl, sound_with (phrases_of row6) refl), sound lock_rows (phrases_of row6) refl), refl, sound call_rows (phrases_of row6) refl), (((sound rows (phrases_of row7) refl, sound_with (phrases_of row7) refl), sound lock_rows (phrases_of row7) refl), inl (broken call_rows (phrases_of row7) 902 (at 0 1 79) refl)), (((sound rows (phrases_of row8) refl, sound_with (phrases_of row8) refl), sound lock_rows (phrases_of row8) refl), refl, sound call_rows (phrases_of row8) refl), (((sound rows (phrases_of row9) refl, sound_with (phrases_of row9) refl), sound lock_rows (phrases_of row9) refl), inl (broken call_rows (phrases_of row9) 903 (at 0 1 18) refl)), (((sound rows (phrases_of row10) refl, sound_with (phrases_of row10) refl), sound lock_rows (phrases_of row10) refl), refl, sound call_rows (phrases_of row10) refl), (((sound rows (phrases_of row11) refl, sound_with (phrases_of row11) refl), sound lock_rows (phrases_of row11) refl), inl (broken call_rows (phrases_of row11) 903 (at 0 1 26) refl)), (((sound rows (phrases_of row12) refl, sound_with (phrases_of row12) refl), sound lock_rows (phrases_of row12) refl), refl, sound call_rows (phrases_of row12) refl), (((sound rows (phrases_of row13) refl, sound_with (phrases_of row13) refl), sound lock_rows (phrases_of row13) refl), inl (broken call_rows (phrases_of row13) 904 (at 0 1 31) refl)), (((sound rows (phrases_of row14) refl, sound_with (phrases_of row14) refl), sound lock_rows (phrases_of row14) refl), refl, sound call_rows (phrases_of row14) refl), (((sound rows (phrases_of row15) refl, sound_with (phrases_of row15) refl), sound lock_rows (phrases_of row15) refl), inl (broken call_rows (phrases_of row15) 904 (at 0 1 14) refl)), (((sound rows (phrases_of row16) refl, sound_with (phrases_of row16) refl), sound lock_rows (phrases_of row16) refl), refl, sound call_rows (phrases_of row16) refl), (((sound rows (phrases_of row17) refl, sound_with (phrases_of row17) refl), sound lock_rows (phrases_of row17) refl), inr (record { lacks = refl; rule_is = refl; at = refl })), (((sound rows (phrases_of row18) refl, sound_with (phrases_of row18) refl), sound lock_rows (phrases_of row18) refl), refl, sound call_rows (phrases_of row18) refl))
