-- Rows of the rules from 500 on, written by tools/rule_rows.
use Rattle.std.specs.Prelude.{List, [], ◌∷◌, Some, None, codes}
use Rattle.std.specs.Fmt.{digits}
use Rattle.std.proofs.Common.{refl}
use Rattle.hal_grammar.specs.Leaves.{Plus, Integer}
use Rattle.hal_grammar.specs.Expressions.{Sum, Literal}
use Rattle.hal_grammar.specs.Declarations.{Single, Double, Static, IntegerKind, StructureKind, Value, LiteralTimes, Dimensions, Typed, Marked, InitialValues, ConstantValues, declared_of, part_of, Declare, Structure}
use Rattle.hal_grammar.specs.Units.{Program, Compool, Procedure, BlockOf, template_of, Include, Templates, File, file_of}
use Rattle.hal_phrases.specs.GatheredUnits.{phrases_of}
use Rattle.hal_scope.proofs.Broken.{broken, sound}
use Rattle.hal_templates.specs.Rules.{template_rows}
use Rattle.rule_rows.specs.Trees.{at, nm, es, ts, is, el}
use Rattle.rule_rows.specs.Told.{BreaksTemplates, KeepsTemplates}
use Rattle.hal_words.specs.Reserved as words_reserved
use Rattle.hal_phrases.specs.GatheredDeclarations as phrases_gathereddeclarations
use Rattle.hal_phrases.specs.GatheredExpressions as phrases_gatheredexpressions
use Rattle.hal_phrases.specs.GatheredStatements as phrases_gatheredstatements
use Rattle.hal_phrases.specs.GatheredUnits as phrases_gatheredunits
use Rattle.hal_phrases.specs.Members as phrases_members
use Rattle.hal_names.specs.Declarations as names_declarations
use Rattle.hal_names.specs.Keys as names_keys
use Rattle.hal_names.specs.Means as names_means
use Rattle.hal_names.specs.Tasks as names_tasks
use Rattle.hal_scope.specs.Builtins as scope_builtins
use Rattle.hal_scope.specs.Components as scope_components
use Rattle.hal_scope.specs.Labels as scope_labels
use Rattle.hal_scope.specs.Repeated as scope_repeated
use Rattle.hal_scope.specs.Rules as scope_rules
use Rattle.hal_scope.specs.Sorts as scope_sorts
use Rattle.hal_scope.specs.Uses as scope_uses
use Rattle.hal_kinds.specs.Attributes as kinds_attributes
use Rattle.hal_kinds.specs.Classes as kinds_classes
use Rattle.hal_kinds.specs.Data as kinds_data
use Rattle.hal_kinds.specs.Subscripts as kinds_subscripts
use Rattle.hal_constants.specs.Constants as constants_constants
use Rattle.hal_constants.specs.Known as constants_known
use Rattle.hal_constants.specs.Naming as constants_naming
use Rattle.hal_constants.specs.Operands as constants_operands
use Rattle.hal_constants.specs.Results as constants_results
use Rattle.hal_templates.specs.Alike as templates_alike
use Rattle.hal_templates.specs.Entries as templates_entries
use Rattle.hal_templates.specs.Heads as templates_heads
use Rattle.hal_templates.specs.Items as templates_items
use Rattle.hal_templates.specs.Kinds as templates_kinds
use Rattle.hal_templates.specs.Leaves as templates_leaves
use Rattle.hal_templates.specs.Own as templates_own
use Rattle.hal_templates.specs.Rules as templates_rules
use Rattle.hal_templates.specs.Sizes as templates_sizes
use Rattle.hal_templates.specs.Structures as templates_structures
use Rattle.hal_templates.specs.Templates as templates_templates
use Rattle.hal_templates.specs.Traits as templates_traits
use Rattle.hal_templates.specs.Values as templates_values

-- POOL: COMPOOL; DECLARE G INTEGER; CLOSE POOL; ~~  POOL: EXTERNAL COMPOOL; DECLARE G INTEGER DOUBLE; CLOSE POOL;\n P: PROGRAM; CLOSE P; => rule 501 1 1:2
abbrev row1 : List File
row1 = ((file_of ([]) (BlockOf (nm (at 0 1 2) (codes "POOL")) (Compool (at 0 1 8)) ((Declare (at 0 1 17) ([]) ((declared_of (nm (at 0 1 25) (codes "G")) ((Typed (IntegerKind (at 0 1 27))) ∷ [])) ∷ [])) ∷ []) (el ([])) (Some (nm (at 0 1 42) (codes "POOL"))))) ∷ (file_of ((Templates (template_of (nm (at 1 1 2) (codes "POOL")) (Compool (at 1 1 17)) ((Declare (at 1 1 26) ([]) ((declared_of (nm (at 1 1 34) (codes "G")) ((Typed (IntegerKind (at 1 1 36))) ∷ (Marked (at 1 1 44) Double) ∷ [])) ∷ [])) ∷ []) (Some (nm (at 1 1 58) (codes "POOL"))))) ∷ []) (BlockOf (nm (at 1 2 2) (codes "P")) (Program (at 1 2 5)) ([]) (el ([])) (Some (nm (at 1 2 20) (codes "P"))))) ∷ [])

-- POOL: COMPOOL; DECLARE G INTEGER INITIAL(4); CLOSE POOL; ~~  POOL: EXTERNAL COMPOOL; DECLARE G SINGLE INTEGER STATIC; CLOSE POOL;\n P: PROGRAM; CLOSE P; => right
abbrev row2 : List File
row2 = ((file_of ([]) (BlockOf (nm (at 0 1 2) (codes "POOL")) (Compool (at 0 1 8)) ((Declare (at 0 1 17) ([]) ((declared_of (nm (at 0 1 25) (codes "G")) ((Typed (IntegerKind (at 0 1 27))) ∷ (InitialValues (at 0 1 35) (is ((Value (Literal (at 0 1 43) (Integer 4))) ∷ []))) ∷ [])) ∷ [])) ∷ []) (el ([])) (Some (nm (at 0 1 53) (codes "POOL"))))) ∷ (file_of ((Templates (template_of (nm (at 1 1 2) (codes "POOL")) (Compool (at 1 1 17)) ((Declare (at 1 1 26) ([]) ((declared_of (nm (at 1 1 34) (codes "G")) ((Marked (at 1 1 36) Single) ∷ (Typed (IntegerKind (at 1 1 43))) ∷ (Marked (at 1 1 51) Static) ∷ [])) ∷ [])) ∷ []) (Some (nm (at 1 1 65) (codes "POOL"))))) ∷ []) (BlockOf (nm (at 1 2 2) (codes "P")) (Program (at 1 2 5)) ([]) (el ([])) (Some (nm (at 1 2 20) (codes "P"))))) ∷ [])

-- POOL: COMPOOL; DECLARE G INTEGER, H INTEGER; CLOSE POOL; ~~  POOL: EXTERNAL COMPOOL; DECLARE H INTEGER, G INTEGER; CLOSE POOL;\n P: PROGRAM; CLOSE P; => rule 501 1 1:2
abbrev row3 : List File
row3 = ((file_of ([]) (BlockOf (nm (at 0 1 2) (codes "POOL")) (Compool (at 0 1 8)) ((Declare (at 0 1 17) ([]) ((declared_of (nm (at 0 1 25) (codes "G")) ((Typed (IntegerKind (at 0 1 27))) ∷ [])) ∷ (declared_of (nm (at 0 1 36) (codes "H")) ((Typed (IntegerKind (at 0 1 38))) ∷ [])) ∷ [])) ∷ []) (el ([])) (Some (nm (at 0 1 53) (codes "POOL"))))) ∷ (file_of ((Templates (template_of (nm (at 1 1 2) (codes "POOL")) (Compool (at 1 1 17)) ((Declare (at 1 1 26) ([]) ((declared_of (nm (at 1 1 34) (codes "H")) ((Typed (IntegerKind (at 1 1 36))) ∷ [])) ∷ (declared_of (nm (at 1 1 45) (codes "G")) ((Typed (IntegerKind (at 1 1 47))) ∷ [])) ∷ [])) ∷ []) (Some (nm (at 1 1 62) (codes "POOL"))))) ∷ []) (BlockOf (nm (at 1 2 2) (codes "P")) (Program (at 1 2 5)) ([]) (el ([])) (Some (nm (at 1 2 20) (codes "P"))))) ∷ [])

-- POOL: COMPOOL; DECLARE G INTEGER, H INTEGER; CLOSE POOL; ~~  POOL: EXTERNAL COMPOOL; DECLARE INTEGER, G; DECLARE H INTEGER; CLOSE POOL;\n P: PROGRAM; CLOSE P; => right
abbrev row4 : List File
row4 = ((file_of ([]) (BlockOf (nm (at 0 1 2) (codes "POOL")) (Compool (at 0 1 8)) ((Declare (at 0 1 17) ([]) ((declared_of (nm (at 0 1 25) (codes "G")) ((Typed (IntegerKind (at 0 1 27))) ∷ [])) ∷ (declared_of (nm (at 0 1 36) (codes "H")) ((Typed (IntegerKind (at 0 1 38))) ∷ [])) ∷ [])) ∷ []) (el ([])) (Some (nm (at 0 1 53) (codes "POOL"))))) ∷ (file_of ((Templates (template_of (nm (at 1 1 2) (codes "POOL")) (Compool (at 1 1 17)) ((Declare (at 1 1 26) ((Typed (IntegerKind (at 1 1 34))) ∷ []) ((declared_of (nm (at 1 1 43) (codes "G")) ([])) ∷ [])) ∷ (Declare (at 1 1 46) ([]) ((declared_of (nm (at 1 1 54) (codes "H")) ((Typed (IntegerKind (at 1 1 56))) ∷ [])) ∷ [])) ∷ []) (Some (nm (at 1 1 71) (codes "POOL"))))) ∷ []) (BlockOf (nm (at 1 2 2) (codes "P")) (Program (at 1 2 5)) ([]) (el ([])) (Some (nm (at 1 2 20) (codes "P"))))) ∷ [])

-- POOL: COMPOOL; DECLARE K INTEGER CONSTANT(3); CLOSE POOL; ~~  POOL: EXTERNAL COMPOOL; DECLARE K INTEGER CONSTANT(2 + 2); CLOSE POOL;\n P: PROGRAM; CLOSE P; => rule 501 1 1:2
abbrev row5 : List File
row5 = ((file_of ([]) (BlockOf (nm (at 0 1 2) (codes "POOL")) (Compool (at 0 1 8)) ((Declare (at 0 1 17) ([]) ((declared_of (nm (at 0 1 25) (codes "K")) ((Typed (IntegerKind (at 0 1 27))) ∷ (ConstantValues (at 0 1 35) (is ((Value (Literal (at 0 1 44) (Integer 3))) ∷ []))) ∷ [])) ∷ [])) ∷ []) (el ([])) (Some (nm (at 0 1 54) (codes "POOL"))))) ∷ (file_of ((Templates (template_of (nm (at 1 1 2) (codes "POOL")) (Compool (at 1 1 17)) ((Declare (at 1 1 26) ([]) ((declared_of (nm (at 1 1 34) (codes "K")) ((Typed (IntegerKind (at 1 1 36))) ∷ (ConstantValues (at 1 1 44) (is ((Value (Sum (at 1 1 53) None (Literal (at 1 1 53) (Integer 2)) (ts (((at 1 1 55), Plus, (Literal (at 1 1 57) (Integer 2))) ∷ [])))) ∷ []))) ∷ [])) ∷ [])) ∷ []) (Some (nm (at 1 1 67) (codes "POOL"))))) ∷ []) (BlockOf (nm (at 1 2 2) (codes "P")) (Program (at 1 2 5)) ([]) (el ([])) (Some (nm (at 1 2 20) (codes "P"))))) ∷ [])

-- POOL: COMPOOL; DECLARE K INTEGER CONSTANT(3); CLOSE POOL; ~~  POOL: EXTERNAL COMPOOL; DECLARE K INTEGER CONSTANT(2 + 1); CLOSE POOL;\n P: PROGRAM; CLOSE P; => right
abbrev row6 : List File
row6 = ((file_of ([]) (BlockOf (nm (at 0 1 2) (codes "POOL")) (Compool (at 0 1 8)) ((Declare (at 0 1 17) ([]) ((declared_of (nm (at 0 1 25) (codes "K")) ((Typed (IntegerKind (at 0 1 27))) ∷ (ConstantValues (at 0 1 35) (is ((Value (Literal (at 0 1 44) (Integer 3))) ∷ []))) ∷ [])) ∷ [])) ∷ []) (el ([])) (Some (nm (at 0 1 54) (codes "POOL"))))) ∷ (file_of ((Templates (template_of (nm (at 1 1 2) (codes "POOL")) (Compool (at 1 1 17)) ((Declare (at 1 1 26) ([]) ((declared_of (nm (at 1 1 34) (codes "K")) ((Typed (IntegerKind (at 1 1 36))) ∷ (ConstantValues (at 1 1 44) (is ((Value (Sum (at 1 1 53) None (Literal (at 1 1 53) (Integer 2)) (ts (((at 1 1 55), Plus, (Literal (at 1 1 57) (Integer 1))) ∷ [])))) ∷ []))) ∷ [])) ∷ [])) ∷ []) (Some (nm (at 1 1 67) (codes "POOL"))))) ∷ []) (BlockOf (nm (at 1 2 2) (codes "P")) (Program (at 1 2 5)) ([]) (el ([])) (Some (nm (at 1 2 20) (codes "P"))))) ∷ [])

-- POOL: COMPOOL; DECLARE A ARRAY(3) INTEGER CONSTANT(2#1, 2); CLOSE POOL; ~~  POOL: EXTERNAL COMPOOL; DECLARE A ARRAY(3) INTEGER CONSTANT(1, 2, 2); CLOSE POOL;\n P: PROGRAM; CLOSE P; => rule 501 1 1:2
abbrev row7 : List File
row7 = ((file_of ([]) (BlockOf (nm (at 0 1 2) (codes "POOL")) (Compool (at 0 1 8)) ((Declare (at 0 1 17) ([]) ((declared_of (nm (at 0 1 25) (codes "A")) ((Dimensions (at 0 1 27) (es ((Literal (at 0 1 33) (Integer 3)) ∷ []))) ∷ (Typed (IntegerKind (at 0 1 36))) ∷ (ConstantValues (at 0 1 44) (is ((LiteralTimes (at 0 1 53) 2 None (at 0 1 55) (Integer 1)) ∷ (Value (Literal (at 0 1 58) (Integer 2))) ∷ []))) ∷ [])) ∷ [])) ∷ []) (el ([])) (Some (nm (at 0 1 68) (codes "POOL"))))) ∷ (file_of ((Templates (template_of (nm (at 1 1 2) (codes "POOL")) (Compool (at 1 1 17)) ((Declare (at 1 1 26) ([]) ((declared_of (nm (at 1 1 34) (codes "A")) ((Dimensions (at 1 1 36) (es ((Literal (at 1 1 42) (Integer 3)) ∷ []))) ∷ (Typed (IntegerKind (at 1 1 45))) ∷ (ConstantValues (at 1 1 53) (is ((Value (Literal (at 1 1 62) (Integer 1))) ∷ (Value (Literal (at 1 1 65) (Integer 2))) ∷ (Value (Literal (at 1 1 68) (Integer 2))) ∷ []))) ∷ [])) ∷ [])) ∷ []) (Some (nm (at 1 1 78) (codes "POOL"))))) ∷ []) (BlockOf (nm (at 1 2 2) (codes "P")) (Program (at 1 2 5)) ([]) (el ([])) (Some (nm (at 1 2 20) (codes "P"))))) ∷ [])

-- POOL: COMPOOL; DECLARE A ARRAY(3) INTEGER CONSTANT(2#1, 2); CLOSE POOL; ~~  POOL: EXTERNAL COMPOOL; DECLARE A ARRAY(3) INTEGER CONSTANT(1, 1, 2); CLOSE POOL;\n P: PROGRAM; CLOSE P; => right
abbrev row8 : List File
row8 = ((file_of ([]) (BlockOf (nm (at 0 1 2) (codes "POOL")) (Compool (at 0 1 8)) ((Declare (at 0 1 17) ([]) ((declared_of (nm (at 0 1 25) (codes "A")) ((Dimensions (at 0 1 27) (es ((Literal (at 0 1 33) (Integer 3)) ∷ []))) ∷ (Typed (IntegerKind (at 0 1 36))) ∷ (ConstantValues (at 0 1 44) (is ((LiteralTimes (at 0 1 53) 2 None (at 0 1 55) (Integer 1)) ∷ (Value (Literal (at 0 1 58) (Integer 2))) ∷ []))) ∷ [])) ∷ [])) ∷ []) (el ([])) (Some (nm (at 0 1 68) (codes "POOL"))))) ∷ (file_of ((Templates (template_of (nm (at 1 1 2) (codes "POOL")) (Compool (at 1 1 17)) ((Declare (at 1 1 26) ([]) ((declared_of (nm (at 1 1 34) (codes "A")) ((Dimensions (at 1 1 36) (es ((Literal (at 1 1 42) (Integer 3)) ∷ []))) ∷ (Typed (IntegerKind (at 1 1 45))) ∷ (ConstantValues (at 1 1 53) (is ((Value (Literal (at 1 1 62) (Integer 1))) ∷ (Value (Literal (at 1 1 65) (Integer 1))) ∷ (Value (Literal (at 1 1 68) (Integer 2))) ∷ []))) ∷ [])) ∷ [])) ∷ []) (Some (nm (at 1 1 78) (codes "POOL"))))) ∷ []) (BlockOf (nm (at 1 2 2) (codes "P")) (Program (at 1 2 5)) ([]) (el ([])) (Some (nm (at 1 2 20) (codes "P"))))) ∷ [])

-- POOL: COMPOOL; STRUCTURE S: 1 A INTEGER; DECLARE Z S-STRUCTURE; CLOSE POOL; ~~  POOL: EXTERNAL COMPOOL; STRUCTURE S: 1 B INTEGER; DECLARE Z S-STRUCTURE; CLOSE POOL;\n P: PROGRAM; CLOSE P; => rule 501 1 1:2
abbrev row9 : List File
row9 = ((file_of ([]) (BlockOf (nm (at 0 1 2) (codes "POOL")) (Compool (at 0 1 8)) ((Structure (at 0 1 17) (nm (at 0 1 27) (codes "S")) ((part_of (at 0 1 30) 1 (nm (at 0 1 32) (codes "A")) ((Typed (IntegerKind (at 0 1 34))) ∷ [])) ∷ [])) ∷ (Declare (at 0 1 43) ([]) ((declared_of (nm (at 0 1 51) (codes "Z")) ((Typed (StructureKind (at 0 1 53) (codes "S") None)) ∷ [])) ∷ [])) ∷ []) (el ([])) (Some (nm (at 0 1 72) (codes "POOL"))))) ∷ (file_of ((Templates (template_of (nm (at 1 1 2) (codes "POOL")) (Compool (at 1 1 17)) ((Structure (at 1 1 26) (nm (at 1 1 36) (codes "S")) ((part_of (at 1 1 39) 1 (nm (at 1 1 41) (codes "B")) ((Typed (IntegerKind (at 1 1 43))) ∷ [])) ∷ [])) ∷ (Declare (at 1 1 52) ([]) ((declared_of (nm (at 1 1 60) (codes "Z")) ((Typed (StructureKind (at 1 1 62) (codes "S") None)) ∷ [])) ∷ [])) ∷ []) (Some (nm (at 1 1 81) (codes "POOL"))))) ∷ []) (BlockOf (nm (at 1 2 2) (codes "P")) (Program (at 1 2 5)) ([]) (el ([])) (Some (nm (at 1 2 20) (codes "P"))))) ∷ [])

-- POOL: COMPOOL; STRUCTURE S: 1 A INTEGER; DECLARE Z S-STRUCTURE; CLOSE POOL; ~~  POOL: EXTERNAL COMPOOL; STRUCTURE S: 1 A SINGLE INTEGER; DECLARE Z S-STRUCTURE; CLOSE POOL;\n P: PROGRAM; CLOSE P; => right
abbrev row10 : List File
row10 = ((file_of ([]) (BlockOf (nm (at 0 1 2) (codes "POOL")) (Compool (at 0 1 8)) ((Structure (at 0 1 17) (nm (at 0 1 27) (codes "S")) ((part_of (at 0 1 30) 1 (nm (at 0 1 32) (codes "A")) ((Typed (IntegerKind (at 0 1 34))) ∷ [])) ∷ [])) ∷ (Declare (at 0 1 43) ([]) ((declared_of (nm (at 0 1 51) (codes "Z")) ((Typed (StructureKind (at 0 1 53) (codes "S") None)) ∷ [])) ∷ [])) ∷ []) (el ([])) (Some (nm (at 0 1 72) (codes "POOL"))))) ∷ (file_of ((Templates (template_of (nm (at 1 1 2) (codes "POOL")) (Compool (at 1 1 17)) ((Structure (at 1 1 26) (nm (at 1 1 36) (codes "S")) ((part_of (at 1 1 39) 1 (nm (at 1 1 41) (codes "A")) ((Marked (at 1 1 43) Single) ∷ (Typed (IntegerKind (at 1 1 50))) ∷ [])) ∷ [])) ∷ (Declare (at 1 1 59) ([]) ((declared_of (nm (at 1 1 67) (codes "Z")) ((Typed (StructureKind (at 1 1 69) (codes "S") None)) ∷ [])) ∷ [])) ∷ []) (Some (nm (at 1 1 88) (codes "POOL"))))) ∷ []) (BlockOf (nm (at 1 2 2) (codes "P")) (Program (at 1 2 5)) ([]) (el ([])) (Some (nm (at 1 2 20) (codes "P"))))) ∷ [])

-- Q: PROCEDURE(X); DECLARE X INTEGER, N INTEGER; CLOSE Q; ~~  Q: EXTERNAL PROCEDURE(X); DECLARE X INTEGER, N INTEGER; CLOSE Q;\n P: PROGRAM; CLOSE P; => rule 501 1 1:2
abbrev row11 : List File
row11 = ((file_of ([]) (BlockOf (nm (at 0 1 2) (codes "Q")) (Procedure (at 0 1 5) ((nm (at 0 1 15) (codes "X")) ∷ []) ([]) None) ((Declare (at 0 1 19) ([]) ((declared_of (nm (at 0 1 27) (codes "X")) ((Typed (IntegerKind (at 0 1 29))) ∷ [])) ∷ (declared_of (nm (at 0 1 38) (codes "N")) ((Typed (IntegerKind (at 0 1 40))) ∷ [])) ∷ [])) ∷ []) (el ([])) (Some (nm (at 0 1 55) (codes "Q"))))) ∷ (file_of ((Templates (template_of (nm (at 1 1 2) (codes "Q")) (Procedure (at 1 1 14) ((nm (at 1 1 24) (codes "X")) ∷ []) ([]) None) ((Declare (at 1 1 28) ([]) ((declared_of (nm (at 1 1 36) (codes "X")) ((Typed (IntegerKind (at 1 1 38))) ∷ [])) ∷ (declared_of (nm (at 1 1 47) (codes "N")) ((Typed (IntegerKind (at 1 1 49))) ∷ [])) ∷ [])) ∷ []) (Some (nm (at 1 1 64) (codes "Q"))))) ∷ []) (BlockOf (nm (at 1 2 2) (codes "P")) (Program (at 1 2 5)) ([]) (el ([])) (Some (nm (at 1 2 20) (codes "P"))))) ∷ [])

-- Q: PROCEDURE(X); DECLARE X INTEGER, N INTEGER; CLOSE Q; ~~  Q: EXTERNAL PROCEDURE(X); DECLARE X INTEGER; CLOSE Q;\n P: PROGRAM; CLOSE P; => right
abbrev row12 : List File
row12 = ((file_of ([]) (BlockOf (nm (at 0 1 2) (codes "Q")) (Procedure (at 0 1 5) ((nm (at 0 1 15) (codes "X")) ∷ []) ([]) None) ((Declare (at 0 1 19) ([]) ((declared_of (nm (at 0 1 27) (codes "X")) ((Typed (IntegerKind (at 0 1 29))) ∷ [])) ∷ (declared_of (nm (at 0 1 38) (codes "N")) ((Typed (IntegerKind (at 0 1 40))) ∷ [])) ∷ [])) ∷ []) (el ([])) (Some (nm (at 0 1 55) (codes "Q"))))) ∷ (file_of ((Templates (template_of (nm (at 1 1 2) (codes "Q")) (Procedure (at 1 1 14) ((nm (at 1 1 24) (codes "X")) ∷ []) ([]) None) ((Declare (at 1 1 28) ([]) ((declared_of (nm (at 1 1 36) (codes "X")) ((Typed (IntegerKind (at 1 1 38))) ∷ [])) ∷ [])) ∷ []) (Some (nm (at 1 1 53) (codes "Q"))))) ∷ []) (BlockOf (nm (at 1 2 2) (codes "P")) (Program (at 1 2 5)) ([]) (el ([])) (Some (nm (at 1 2 20) (codes "P"))))) ∷ [])

-- Q: PROCEDURE; CLOSE Q; ~~  Q: EXTERNAL PROGRAM; CLOSE Q;\n P: PROGRAM; CLOSE P; => rule 501 1 1:2
abbrev row13 : List File
row13 = ((file_of ([]) (BlockOf (nm (at 0 1 2) (codes "Q")) (Procedure (at 0 1 5) ([]) ([]) None) ([]) (el ([])) (Some (nm (at 0 1 22) (codes "Q"))))) ∷ (file_of ((Templates (template_of (nm (at 1 1 2) (codes "Q")) (Program (at 1 1 14)) ([]) (Some (nm (at 1 1 29) (codes "Q"))))) ∷ []) (BlockOf (nm (at 1 2 2) (codes "P")) (Program (at 1 2 5)) ([]) (el ([])) (Some (nm (at 1 2 20) (codes "P"))))) ∷ [])

-- R: PROGRAM; DECLARE N INTEGER; CLOSE R; ~~  R: EXTERNAL PROGRAM; CLOSE R;\n P: PROGRAM; CLOSE P; => right
abbrev row14 : List File
row14 = ((file_of ([]) (BlockOf (nm (at 0 1 2) (codes "R")) (Program (at 0 1 5)) ((Declare (at 0 1 14) ([]) ((declared_of (nm (at 0 1 22) (codes "N")) ((Typed (IntegerKind (at 0 1 24))) ∷ [])) ∷ [])) ∷ []) (el ([])) (Some (nm (at 0 1 39) (codes "R"))))) ∷ (file_of ((Templates (template_of (nm (at 1 1 2) (codes "R")) (Program (at 1 1 14)) ([]) (Some (nm (at 1 1 29) (codes "R"))))) ∷ []) (BlockOf (nm (at 1 2 2) (codes "P")) (Program (at 1 2 5)) ([]) (el ([])) (Some (nm (at 1 2 20) (codes "P"))))) ∷ [])

--D INCLUDE TEMPLATE POOL\n P: PROGRAM; CLOSE P; => rule 502 0 1:20
abbrev row15 : List File
row15 = ((file_of ((Include (at 0 1 3) (nm (at 0 1 20) (codes "POOL"))) ∷ []) (BlockOf (nm (at 0 2 2) (codes "P")) (Program (at 0 2 5)) ([]) (el ([])) (Some (nm (at 0 2 20) (codes "P"))))) ∷ [])

--D INCLUDE TEMPLATE POOL\n P: PROGRAM; CLOSE P; ~~  POOL: COMPOOL; CLOSE POOL; => right
abbrev row16 : List File
row16 = ((file_of ((Include (at 0 1 3) (nm (at 0 1 20) (codes "POOL"))) ∷ []) (BlockOf (nm (at 0 2 2) (codes "P")) (Program (at 0 2 5)) ([]) (el ([])) (Some (nm (at 0 2 20) (codes "P"))))) ∷ (file_of ([]) (BlockOf (nm (at 1 1 2) (codes "POOL")) (Compool (at 1 1 8)) ([]) (el ([])) (Some (nm (at 1 1 23) (codes "POOL"))))) ∷ [])

-- Q: EXTERNAL PROCEDURE; CLOSE Q;\n P: PROGRAM; CLOSE P; => rule 502 0 1:2
abbrev row17 : List File
row17 = ((file_of ((Templates (template_of (nm (at 0 1 2) (codes "Q")) (Procedure (at 0 1 14) ([]) ([]) None) ([]) (Some (nm (at 0 1 31) (codes "Q"))))) ∷ []) (BlockOf (nm (at 0 2 2) (codes "P")) (Program (at 0 2 5)) ([]) (el ([])) (Some (nm (at 0 2 20) (codes "P"))))) ∷ [])

-- Q: EXTERNAL PROCEDURE; CLOSE Q;\n P: PROGRAM; CLOSE P; ~~  Q: PROCEDURE; CLOSE Q; => right
abbrev row18 : List File
row18 = ((file_of ((Templates (template_of (nm (at 0 1 2) (codes "Q")) (Procedure (at 0 1 14) ([]) ([]) None) ([]) (Some (nm (at 0 1 31) (codes "Q"))))) ∷ []) (BlockOf (nm (at 0 2 2) (codes "P")) (Program (at 0 2 5)) ([]) (el ([])) (Some (nm (at 0 2 20) (codes "P"))))) ∷ (file_of ([]) (BlockOf (nm (at 1 1 2) (codes "Q")) (Procedure (at 1 1 5) ([]) ([]) None) ([]) (el ([])) (Some (nm (at 1 1 22) (codes "Q"))))) ∷ [])

-- P: PROGRAM; CLOSE P; ~~  P: COMPOOL; CLOSE P; => rule 503 1 1:2
abbrev row19 : List File
row19 = ((file_of ([]) (BlockOf (nm (at 0 1 2) (codes "P")) (Program (at 0 1 5)) ([]) (el ([])) (Some (nm (at 0 1 20) (codes "P"))))) ∷ (file_of ([]) (BlockOf (nm (at 1 1 2) (codes "P")) (Compool (at 1 1 5)) ([]) (el ([])) (Some (nm (at 1 1 20) (codes "P"))))) ∷ [])

-- P: PROGRAM; CLOSE P; ~~  Q: COMPOOL; CLOSE Q; => right
abbrev row20 : List File
row20 = ((file_of ([]) (BlockOf (nm (at 0 1 2) (codes "P")) (Program (at 0 1 5)) ([]) (el ([])) (Some (nm (at 0 1 20) (codes "P"))))) ∷ (file_of ([]) (BlockOf (nm (at 1 1 2) (codes "Q")) (Compool (at 1 1 5)) ([]) (el ([])) (Some (nm (at 1 1 20) (codes "Q"))))) ∷ [])

pub all_say : BreaksTemplates row1 501 (at 1 1 2) × KeepsTemplates row2 × BreaksTemplates row3 501 (at 1 1 2) × KeepsTemplates row4 × BreaksTemplates row5 501 (at 1 1 2) × KeepsTemplates row6 × BreaksTemplates row7 501 (at 1 1 2) × KeepsTemplates row8 × BreaksTemplates row9 501 (at 1 1 2) × KeepsTemplates row10 × BreaksTemplates row11 501 (at 1 1 2) × KeepsTemplates row12 × BreaksTemplates row13 501 (at 1 1 2) × KeepsTemplates row14 × BreaksTemplates row15 502 (at 0 1 20) × KeepsTemplates row16 × BreaksTemplates row17 502 (at 0 1 2) × KeepsTemplates row18 × BreaksTemplates row19 503 (at 1 1 2) × KeepsTemplates row20
unfolding digits words_reserved.reserved_words words_reserved.left_out_words phrases_gathereddeclarations.gathered_kind phrases_gathereddeclarations.gathered_initial phrases_gathereddeclarations.gathered_initials phrases_gathereddeclarations.gathered_attribute phrases_gathereddeclarations.gathered_item phrases_gathereddeclarations.still_open phrases_gathereddeclarations.innermost phrases_gathereddeclarations.is_bottom phrases_gathereddeclarations.gathered_part phrases_gathereddeclarations.gathered_parts phrases_gathereddeclarations.gathered_declaration phrases_gatheredexpressions.gathered phrases_gatheredexpressions.gathered_all phrases_gatheredexpressions.gathered_terms phrases_gatheredexpressions.gathered_reference phrases_gatheredexpressions.gathered_subscript phrases_gatheredexpressions.gathered_subs phrases_gatheredexpressions.gathered_sub phrases_gatheredexpressions.gathered_position phrases_gatheredstatements.gathered_guard phrases_gatheredstatements.gathered_span phrases_gatheredstatements.gathered_start phrases_gatheredstatements.gathered_cycle phrases_gatheredstatements.gathered_limit phrases_gatheredstatements.gathered_schedule phrases_gatheredstatements.begun_for phrases_gatheredstatements.around_for phrases_gatheredstatements.gathered_statement phrases_gatheredstatements.gathered_basic phrases_gatheredstatements.gathered_alternative phrases_gatheredstatements.gathered_group phrases_gatheredstatements.gathered_statements phrases_gatheredunits.gathered_returns phrases_gatheredunits.gathered_head phrases_gatheredunits.gathered_block phrases_gatheredunits.gathered_elements phrases_gatheredunits.around_template phrases_gatheredunits.gathered_template phrases_gatheredunits.gathered_preface phrases_gatheredunits.gathered_prefaces phrases_gatheredunits.name_of_block phrases_gatheredunits.gathered_file phrases_gatheredunits.phrases_of phrases_members.gathered_member phrases_members.gathered_members names_declarations.is_declaring names_declarations.with_places names_declarations.with_all_chosen names_keys.declared_at names_keys.same_space names_keys.same_key names_keys.own names_means.is_compool_unit names_means.unit_named names_means.given_by names_means.shown names_means.shown_by names_means.included names_means.included_before names_means.prefaces_of names_means.nearest names_tasks.with_homes scope_builtins.builtins scope_components.has_path scope_components.is_structure scope_components.type_has scope_components.has_component scope_components.lacks_in scope_components.lacks scope_labels.is_label_of scope_labels.misclosed scope_labels.is_loop scope_labels.group_around scope_labels.misled scope_labels.astray scope_repeated.given scope_repeated.is_of_block scope_repeated.twice scope_repeated.declares_one_there scope_repeated.declarations_of scope_repeated.included_twice scope_repeated.is_item scope_repeated.undeclared scope_rules.fault scope_rules.first_fault scope_sorts.type_in scope_sorts.type_among scope_sorts.sort_of_type scope_sorts.sort_of_head scope_sorts.sort_of scope_sorts.usage_of scope_sorts.use_of_reference scope_sorts.used scope_uses.unknown scope_uses.is_eventful scope_uses.is_nil scope_uses.refers_to_event scope_uses.holds_event scope_uses.hold_event scope_uses.limit_of scope_uses.limit_around scope_uses.misused kinds_attributes.count_of kinds_attributes.no_more kinds_attributes.sizes_in kinds_attributes.sizes_among kinds_attributes.initial_in kinds_attributes.initial_among kinds_attributes.constant_in kinds_attributes.constant_among kinds_attributes.same_mark kinds_attributes.is_mark kinds_classes.class_of_result kinds_classes.class_of_returns kinds_classes.class_of_head kinds_classes.class_of_form kinds_classes.class_of_builtin kinds_classes.class_at kinds_classes.class_of_reference kinds_classes.class_of_function kinds_classes.class_of_called_head kinds_classes.class_of_called kinds_classes.class_of_literal kinds_classes.class_of_conversion kinds_classes.beside kinds_classes.joined kinds_classes.enclosed kinds_classes.class_of kinds_classes.class_beside kinds_classes.class_joined kinds_data.class_of_type kinds_data.has_copies kinds_data.dimensions_of kinds_data.data_of kinds_data.part_data kinds_data.part_under kinds_data.data_at_part kinds_data.component_of kinds_data.component_data kinds_data.data_at kinds_data.is_event_type kinds_data.is_structure_type kinds_subscripts.subscript_count kinds_subscripts.is_many kinds_subscripts.are_many kinds_subscripts.parts_chosen kinds_subscripts.choice_of kinds_subscripts.is_structure_class constants_constants.operation_of_sign constants_constants.signed constants_constants.operation_of_conversion constants_constants.raised_to constants_constants.raised constants_constants.is_none constants_constants.factor_at constants_constants.constant_of constants_constants.folded constants_constants.summed constants_constants.computed constants_constants.computed_second constants_constants.multiplied constants_constants.referred constants_constants.subscripted constants_constants.component_of constants_constants.component_by constants_constants.place_of constants_known.size_of_integer constants_known.size_of_value constants_known.size_of constants_known.bits_kind constants_known.text_kind constants_known.kind_of constants_known.kind_of_type constants_known.gives_none constants_known.give_none constants_known.only_of constants_known.only_with constants_known.kept constants_known.fitted constants_known.only_in constants_known.declared_value constants_known.round constants_known.is_file constants_known.is_pooled constants_known.rounds constants_naming.constant_known constants_naming.constant_at constants_naming.literal_constant constants_naming.operation_of constants_operands.takes_one constants_operands.takes_two constants_operands.is_storable constants_operands.has_components constants_results.worth constants_results.worse constants_results.apply_one constants_results.apply_two constants_results.component_at constants_results.component_to constants_results.component_from constants_results.picked_one constants_results.picked_to constants_results.picked_from templates_alike.same_kind templates_alike.may_be_kind templates_alike.may_be_number templates_alike.same_template templates_entries.entries_of templates_entries.entries templates_entries.with_items templates_entries.with_declaration templates_entries.with_declarations templates_heads.same_names templates_heads.same_mode templates_heads.is_double templates_heads.is_untyped templates_heads.result_like templates_heads.same_returns templates_heads.is_program templates_heads.is_compool templates_heads.is_task templates_heads.is_procedure templates_heads.is_function templates_heads.same_head templates_items.same_data templates_items.same_structures templates_items.same_as_data templates_items.same_as_structure templates_items.same_entry templates_items.same_entries templates_items.same_from templates_kinds.places_with templates_kinds.places_in templates_kinds.laid templates_kinds.kinds_of_list templates_kinds.kinds_of_structure templates_kinds.kinds_by templates_leaves.count_of templates_leaves.count_with templates_leaves.leaf_value templates_own.template_of templates_own.is_name templates_own.needs templates_own.is_shown templates_own.own_entries templates_own.shown_among templates_rules.template_rows templates_rules.first_with templates_sizes.same_sizes templates_sizes.same_dimensions templates_sizes.copies_in templates_sizes.same_copies templates_structures.parts_of templates_structures.same_parts templates_structures.same_lists templates_structures.means_same templates_structures.names_same templates_templates.equals_unit templates_templates.differing templates_templates.template_name templates_templates.unit_name templates_traits.group_in templates_traits.group_among templates_traits.is_starred templates_traits.group_of templates_values.same_value templates_values.may_be_value templates_values.same_below templates_values.same_in templates_values.same_given
all_say = (broken template_rows (phrases_of row1) 501 (at 1 1 2) refl, sound template_rows (phrases_of row2) refl, broken template_rows (phrases_of row3) 501 (at 1 1 2) refl, sound template_rows (phrases_of row4) refl, broken template_rows (phrases_of row5) 501 (at 1 1 2) refl, sound template_rows (phrases_of row6) refl, broken template_rows (phrases_of row7) 501 (at 1 1 2) refl, sound template_rows (phrases_of row8) refl, broken template_rows (phrases_of row9) 501 (at 1 1 2) refl, sound template_rows (phrases_of row10) refl, broken template_rows (phrases_of row11) 501 (at 1 1 2) refl, sound template_rows (phrases_of row12) refl, broken template_rows (phrases_of row13) 501 (at 1 1 2) refl, sound template_rows (phrases_of row14) refl, broken template_rows (phrases_of row15) 502 (at 0 1 20) refl, sound template_rows (phrases_of row16) refl, broken template_rows (phrases_of row17) 502 (at 0 1 2) refl, sound template_rows (phrases_of row18) refl, broken template_rows (phrases_of row19) 503 (at 1 1 2) refl, sound template_rows (phrases_of row20) refl)
