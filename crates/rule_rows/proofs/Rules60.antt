-- Rows of the rules from 600 on, written by tools/rule_rows.
use Rattle.std.specs.Prelude.{List, [], ◌∷◌, Some, None, codes}
use Rattle.std.specs.Fmt.{digits}
use Rattle.std.proofs.Common.{refl, inl, inr}
use Rattle.hal_grammar.specs.Leaves.{Integer, True}
use Rattle.hal_grammar.specs.Expressions.{Literal, Refers, Unsubscripted}
use Rattle.hal_grammar.specs.Declarations.{IntegerKind, StructureKind, Typed, declared_of, part_of, Declare, Structure}
use Rattle.hal_grammar.specs.Statements.{While, Labelled, Null, Assignment, Do, DoLoop, Exit, Repeat, Call, Groups}
use Rattle.hal_grammar.specs.Units.{Program, Procedure, BlockOf, File, file_of}
use Rattle.hal_phrases.specs.GatheredUnits.{phrases_of}
use Rattle.hal_scope.specs.Rules.{rows}
use Rattle.hal_scope.proofs.Broken.{broken, sound}
use Rattle.rule_rows.specs.Trees.{at, nm, es, st, el}
use Rattle.rule_rows.specs.Told.{BreaksNames, IsNamed}
use Rattle.hal_words.specs.Reserved as words_reserved
use Rattle.hal_phrases.specs.GatheredDeclarations as phrases_gathereddeclarations
use Rattle.hal_phrases.specs.GatheredExpressions as phrases_gatheredexpressions
use Rattle.hal_phrases.specs.GatheredStatements as phrases_gatheredstatements
use Rattle.hal_phrases.specs.GatheredUnits as phrases_gatheredunits
use Rattle.hal_phrases.specs.Members as phrases_members
use Rattle.hal_names.specs.Declarations as names_declarations
use Rattle.hal_names.specs.Keys as names_keys
use Rattle.hal_names.specs.Means as names_means
use Rattle.hal_names.specs.Tasks as names_tasks
use Rattle.hal_scope.specs.Builtins as scope_builtins
use Rattle.hal_scope.specs.Components as scope_components
use Rattle.hal_scope.specs.Labels as scope_labels
use Rattle.hal_scope.specs.Repeated as scope_repeated
use Rattle.hal_scope.specs.Rules as scope_rules
use Rattle.hal_scope.specs.Sorts as scope_sorts
use Rattle.hal_scope.specs.Uses as scope_uses

-- P: PROGRAM; N = 1; CLOSE P; => rule 601 0 1:14
abbrev row1 : List File
row1 = ((file_of ([]) (BlockOf (nm (at 0 1 2) (codes "P")) (Program (at 0 1 5)) ([]) (el ((inr (Labelled ([]) (Assignment (at 0 1 14) ((Refers (at 0 1 14) (codes "N") ([]) Unsubscripted) ∷ []) (Literal (at 0 1 18) (Integer 1))))) ∷ [])) (Some (nm (at 0 1 27) (codes "P"))))) ∷ [])

-- P: PROGRAM; DECLARE N INTEGER; N = 1; CLOSE P; => right
abbrev row2 : List File
row2 = ((file_of ([]) (BlockOf (nm (at 0 1 2) (codes "P")) (Program (at 0 1 5)) ((Declare (at 0 1 14) ([]) ((declared_of (nm (at 0 1 22) (codes "N")) ((Typed (IntegerKind (at 0 1 24))) ∷ [])) ∷ [])) ∷ []) (el ((inr (Labelled ([]) (Assignment (at 0 1 33) ((Refers (at 0 1 33) (codes "N") ([]) Unsubscripted) ∷ []) (Literal (at 0 1 37) (Integer 1))))) ∷ [])) (Some (nm (at 0 1 46) (codes "P"))))) ∷ [])

-- P: PROGRAM; DECLARE N INTEGER; N: ; CLOSE P; => rule 602 0 1:33
abbrev row3 : List File
row3 = ((file_of ([]) (BlockOf (nm (at 0 1 2) (codes "P")) (Program (at 0 1 5)) ((Declare (at 0 1 14) ([]) ((declared_of (nm (at 0 1 22) (codes "N")) ((Typed (IntegerKind (at 0 1 24))) ∷ [])) ∷ [])) ∷ []) (el ((inr (Labelled ((nm (at 0 1 33) (codes "N")) ∷ []) (Null (at 0 1 36)))) ∷ [])) (Some (nm (at 0 1 44) (codes "P"))))) ∷ [])

-- P: PROGRAM; DECLARE N INTEGER; Q: PROCEDURE; N: ; CLOSE Q; CLOSE P; => right
abbrev row4 : List File
row4 = ((file_of ([]) (BlockOf (nm (at 0 1 2) (codes "P")) (Program (at 0 1 5)) ((Declare (at 0 1 14) ([]) ((declared_of (nm (at 0 1 22) (codes "N")) ((Typed (IntegerKind (at 0 1 24))) ∷ [])) ∷ [])) ∷ []) (el ((inl (BlockOf (nm (at 0 1 33) (codes "Q")) (Procedure (at 0 1 36) ([]) ([]) None) ([]) (el ((inr (Labelled ((nm (at 0 1 47) (codes "N")) ∷ []) (Null (at 0 1 50)))) ∷ [])) (Some (nm (at 0 1 58) (codes "Q"))))) ∷ [])) (Some (nm (at 0 1 67) (codes "P"))))) ∷ [])

-- P: PROGRAM; DECLARE N INTEGER; CALL N; CLOSE P; => rule 603 0 1:38
abbrev row5 : List File
row5 = ((file_of ([]) (BlockOf (nm (at 0 1 2) (codes "P")) (Program (at 0 1 5)) ((Declare (at 0 1 14) ([]) ((declared_of (nm (at 0 1 22) (codes "N")) ((Typed (IntegerKind (at 0 1 24))) ∷ [])) ∷ [])) ∷ []) (el ((inr (Labelled ([]) (Call (at 0 1 33) (nm (at 0 1 38) (codes "N")) (es ([])) ([])))) ∷ [])) (Some (nm (at 0 1 47) (codes "P"))))) ∷ [])

-- P: PROGRAM; CALL N; N: PROCEDURE; CLOSE N; CLOSE P; => right
abbrev row6 : List File
row6 = ((file_of ([]) (BlockOf (nm (at 0 1 2) (codes "P")) (Program (at 0 1 5)) ([]) (el ((inr (Labelled ([]) (Call (at 0 1 14) (nm (at 0 1 19) (codes "N")) (es ([])) ([])))) ∷ (inl (BlockOf (nm (at 0 1 22) (codes "N")) (Procedure (at 0 1 25) ([]) ([]) None) ([]) (el ([])) (Some (nm (at 0 1 42) (codes "N"))))) ∷ [])) (Some (nm (at 0 1 51) (codes "P"))))) ∷ [])

-- P: PROGRAM; L: DO; END P; CLOSE P; => rule 604 0 1:25
abbrev row7 : List File
row7 = ((file_of ([]) (BlockOf (nm (at 0 1 2) (codes "P")) (Program (at 0 1 5)) ([]) (el ((inr (Labelled ((nm (at 0 1 14) (codes "L")) ∷ []) (Do (at 0 1 17) (Groups (st ([])) (Some (nm (at 0 1 25) (codes "P"))))))) ∷ [])) (Some (nm (at 0 1 34) (codes "P"))))) ∷ [])

-- P: PROGRAM; L: DO; END L; CLOSE P; => right
abbrev row8 : List File
row8 = ((file_of ([]) (BlockOf (nm (at 0 1 2) (codes "P")) (Program (at 0 1 5)) ([]) (el ((inr (Labelled ((nm (at 0 1 14) (codes "L")) ∷ []) (Do (at 0 1 17) (Groups (st ([])) (Some (nm (at 0 1 25) (codes "L"))))))) ∷ [])) (Some (nm (at 0 1 34) (codes "P"))))) ∷ [])

-- P: PROGRAM; L: ; DO; EXIT L; END; CLOSE P; => rule 605 0 1:23
abbrev row9 : List File
row9 = ((file_of ([]) (BlockOf (nm (at 0 1 2) (codes "P")) (Program (at 0 1 5)) ([]) (el ((inr (Labelled ((nm (at 0 1 14) (codes "L")) ∷ []) (Null (at 0 1 17)))) ∷ (inr (Labelled ([]) (Do (at 0 1 19) (Groups (st ((Labelled ([]) (Exit (at 0 1 23) (Some (nm (at 0 1 28) (codes "L"))))) ∷ [])) None)))) ∷ [])) (Some (nm (at 0 1 42) (codes "P"))))) ∷ [])

-- P: PROGRAM; L: DO; DO; EXIT L; END; END; CLOSE P; => right
abbrev row10 : List File
row10 = ((file_of ([]) (BlockOf (nm (at 0 1 2) (codes "P")) (Program (at 0 1 5)) ([]) (el ((inr (Labelled ((nm (at 0 1 14) (codes "L")) ∷ []) (Do (at 0 1 17) (Groups (st ((Labelled ([]) (Do (at 0 1 21) (Groups (st ((Labelled ([]) (Exit (at 0 1 25) (Some (nm (at 0 1 30) (codes "L"))))) ∷ [])) None))) ∷ [])) None)))) ∷ [])) (Some (nm (at 0 1 49) (codes "P"))))) ∷ [])

-- P: PROGRAM; Q: PROCEDURE(X); CLOSE Q; CLOSE P; => rule 606 0 1:27
abbrev row11 : List File
row11 = ((file_of ([]) (BlockOf (nm (at 0 1 2) (codes "P")) (Program (at 0 1 5)) ([]) (el ((inl (BlockOf (nm (at 0 1 14) (codes "Q")) (Procedure (at 0 1 17) ((nm (at 0 1 27) (codes "X")) ∷ []) ([]) None) ([]) (el ([])) (Some (nm (at 0 1 37) (codes "Q"))))) ∷ [])) (Some (nm (at 0 1 46) (codes "P"))))) ∷ [])

-- P: PROGRAM; Q: PROCEDURE(X); DECLARE X INTEGER; CLOSE Q; CLOSE P; => right
abbrev row12 : List File
row12 = ((file_of ([]) (BlockOf (nm (at 0 1 2) (codes "P")) (Program (at 0 1 5)) ([]) (el ((inl (BlockOf (nm (at 0 1 14) (codes "Q")) (Procedure (at 0 1 17) ((nm (at 0 1 27) (codes "X")) ∷ []) ([]) None) ((Declare (at 0 1 31) ([]) ((declared_of (nm (at 0 1 39) (codes "X")) ((Typed (IntegerKind (at 0 1 41))) ∷ [])) ∷ [])) ∷ []) (el ([])) (Some (nm (at 0 1 56) (codes "Q"))))) ∷ [])) (Some (nm (at 0 1 65) (codes "P"))))) ∷ [])

-- P: PROGRAM; DO; REPEAT; END; CLOSE P; => rule 607 0 1:18
abbrev row13 : List File
row13 = ((file_of ([]) (BlockOf (nm (at 0 1 2) (codes "P")) (Program (at 0 1 5)) ([]) (el ((inr (Labelled ([]) (Do (at 0 1 14) (Groups (st ((Labelled ([]) (Repeat (at 0 1 18) None)) ∷ [])) None)))) ∷ [])) (Some (nm (at 0 1 37) (codes "P"))))) ∷ [])

-- P: PROGRAM; DO WHILE TRUE; REPEAT; END; CLOSE P; => right
abbrev row14 : List File
row14 = ((file_of ([]) (BlockOf (nm (at 0 1 2) (codes "P")) (Program (at 0 1 5)) ([]) (el ((inr (Labelled ([]) (DoLoop (at 0 1 14) (While (at 0 1 17) (Literal (at 0 1 23) True)) (Groups (st ((Labelled ([]) (Repeat (at 0 1 29) None)) ∷ [])) None)))) ∷ [])) (Some (nm (at 0 1 48) (codes "P"))))) ∷ [])

-- P: PROGRAM; STRUCTURE S: 1 A INTEGER; DECLARE Z S-STRUCTURE; Z.B = 1; CLOSE P; => rule 608 0 1:63
abbrev row15 : List File
row15 = ((file_of ([]) (BlockOf (nm (at 0 1 2) (codes "P")) (Program (at 0 1 5)) ((Structure (at 0 1 14) (nm (at 0 1 24) (codes "S")) ((part_of (at 0 1 27) 1 (nm (at 0 1 29) (codes "A")) ((Typed (IntegerKind (at 0 1 31))) ∷ [])) ∷ [])) ∷ (Declare (at 0 1 40) ([]) ((declared_of (nm (at 0 1 48) (codes "Z")) ((Typed (StructureKind (at 0 1 50) (codes "S") None)) ∷ [])) ∷ [])) ∷ []) (el ((inr (Labelled ([]) (Assignment (at 0 1 63) ((Refers (at 0 1 63) (codes "Z") ((nm (at 0 1 65) (codes "B")) ∷ []) Unsubscripted) ∷ []) (Literal (at 0 1 69) (Integer 1))))) ∷ [])) (Some (nm (at 0 1 78) (codes "P"))))) ∷ [])

-- P: PROGRAM; STRUCTURE S: 1 A INTEGER; DECLARE Z S-STRUCTURE; Z.A = 1; CLOSE P; => right
abbrev row16 : List File
row16 = ((file_of ([]) (BlockOf (nm (at 0 1 2) (codes "P")) (Program (at 0 1 5)) ((Structure (at 0 1 14) (nm (at 0 1 24) (codes "S")) ((part_of (at 0 1 27) 1 (nm (at 0 1 29) (codes "A")) ((Typed (IntegerKind (at 0 1 31))) ∷ [])) ∷ [])) ∷ (Declare (at 0 1 40) ([]) ((declared_of (nm (at 0 1 48) (codes "Z")) ((Typed (StructureKind (at 0 1 50) (codes "S") None)) ∷ [])) ∷ [])) ∷ []) (el ((inr (Labelled ([]) (Assignment (at 0 1 63) ((Refers (at 0 1 63) (codes "Z") ((nm (at 0 1 65) (codes "A")) ∷ []) Unsubscripted) ∷ []) (Literal (at 0 1 69) (Integer 1))))) ∷ [])) (Some (nm (at 0 1 78) (codes "P"))))) ∷ [])

pub all_say : BreaksNames row1 601 (at 0 1 14) × IsNamed row2 × BreaksNames row3 602 (at 0 1 33) × IsNamed row4 × BreaksNames row5 603 (at 0 1 38) × IsNamed row6 × BreaksNames row7 604 (at 0 1 25) × IsNamed row8 × BreaksNames row9 605 (at 0 1 23) × IsNamed row10 × BreaksNames row11 606 (at 0 1 27) × IsNamed row12 × BreaksNames row13 607 (at 0 1 18) × IsNamed row14 × BreaksNames row15 608 (at 0 1 63) × IsNamed row16
unfolding digits words_reserved.reserved_words words_reserved.left_out_words phrases_gathereddeclarations.gathered_kind phrases_gathereddeclarations.gathered_initial phrases_gathereddeclarations.gathered_initials phrases_gathereddeclarations.gathered_attribute phrases_gathereddeclarations.gathered_item phrases_gathereddeclarations.still_open phrases_gathereddeclarations.innermost phrases_gathereddeclarations.is_bottom phrases_gathereddeclarations.gathered_part phrases_gathereddeclarations.gathered_parts phrases_gathereddeclarations.gathered_declaration phrases_gatheredexpressions.gathered phrases_gatheredexpressions.gathered_all phrases_gatheredexpressions.gathered_terms phrases_gatheredexpressions.gathered_reference phrases_gatheredexpressions.gathered_subscript phrases_gatheredexpressions.gathered_subs phrases_gatheredexpressions.gathered_sub phrases_gatheredexpressions.gathered_position phrases_gatheredstatements.gathered_guard phrases_gatheredstatements.gathered_span phrases_gatheredstatements.gathered_start phrases_gatheredstatements.gathered_cycle phrases_gatheredstatements.gathered_limit phrases_gatheredstatements.gathered_schedule phrases_gatheredstatements.begun_for phrases_gatheredstatements.around_for phrases_gatheredstatements.gathered_statement phrases_gatheredstatements.gathered_basic phrases_gatheredstatements.gathered_alternative phrases_gatheredstatements.gathered_group phrases_gatheredstatements.gathered_statements phrases_gatheredunits.gathered_returns phrases_gatheredunits.gathered_head phrases_gatheredunits.gathered_block phrases_gatheredunits.gathered_elements phrases_gatheredunits.around_template phrases_gatheredunits.gathered_template phrases_gatheredunits.gathered_preface phrases_gatheredunits.gathered_prefaces phrases_gatheredunits.name_of_block phrases_gatheredunits.gathered_file phrases_gatheredunits.phrases_of phrases_members.gathered_member phrases_members.gathered_members names_declarations.is_declaring names_declarations.with_places names_declarations.with_all_chosen names_keys.declared_at names_keys.same_space names_keys.same_key names_keys.own names_means.is_compool_unit names_means.unit_named names_means.given_by names_means.shown names_means.shown_by names_means.included names_means.included_before names_means.prefaces_of names_means.nearest names_tasks.with_homes scope_builtins.builtins scope_components.has_path scope_components.is_structure scope_components.type_has scope_components.has_component scope_components.lacks_in scope_components.lacks scope_labels.is_label_of scope_labels.misclosed scope_labels.is_loop scope_labels.group_around scope_labels.misled scope_labels.astray scope_repeated.given scope_repeated.is_of_block scope_repeated.twice scope_repeated.declares_one_there scope_repeated.declarations_of scope_repeated.included_twice scope_repeated.is_item scope_repeated.undeclared scope_rules.fault scope_rules.first_fault scope_sorts.type_in scope_sorts.type_among scope_sorts.sort_of_type scope_sorts.sort_of_head scope_sorts.sort_of scope_sorts.usage_of scope_sorts.use_of_reference scope_sorts.used scope_uses.unknown scope_uses.is_eventful scope_uses.is_nil scope_uses.refers_to_event scope_uses.holds_event scope_uses.hold_event scope_uses.limit_of scope_uses.limit_around scope_uses.misused
all_say = (broken rows (phrases_of row1) 601 (at 0 1 14) refl, sound rows (phrases_of row2) refl, broken rows (phrases_of row3) 602 (at 0 1 33) refl, sound rows (phrases_of row4) refl, broken rows (phrases_of row5) 603 (at 0 1 38) refl, sound rows (phrases_of row6) refl, broken rows (phrases_of row7) 604 (at 0 1 25) refl, sound rows (phrases_of row8) refl, broken rows (phrases_of row9) 605 (at 0 1 23) refl, sound rows (phrases_of row10) refl, broken rows (phrases_of row11) 606 (at 0 1 27) refl, sound rows (phrases_of row12) refl, broken rows (phrases_of row13) 607 (at 0 1 18) refl, sound rows (phrases_of row14) refl, broken rows (phrases_of row15) 608 (at 0 1 63) refl, sound rows (phrases_of row16) refl)
