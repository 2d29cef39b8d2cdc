-- Rows of subscripts.txt, written by tools/agreement_rows.
use Rattle.std.specs.Prelude.{◌≡◌, ℕ, List, [], ◌∷◌, Option, Some, None, true, false, zero, suc, codes}
use Rattle.std.specs.Fmt.{digits}
use Rattle.std.proofs.Common.{refl, inl, inr}
use Rattle.hal_grammar.specs.Leaves.{Plus, Minus, Equal, Less, Greater, AtMost, AtLeast, NotEqual, NotLess, NotGreater, ToInteger, ToBits, ToText, Integer, Text, Bits, True, False, On, Off}
use Rattle.hal_grammar.specs.Expressions.{Or, And, Compare, Cat, Sum, Product, Power, Not, Literal, Decimal, Referred, Called, Convert, Parenthesis, Refers, Unsubscripted, ByName, ByInteger, ByParts, Every, One, Range, Portion, FromBeginning, FromEnd}
use Rattle.hal_grammar.specs.Declarations.{Single, Double, Latched, Static, Automatic, Dense, Aligned, IntegerKind, BooleanKind, EventKind, BitKind, CharacterKind, StructureKind, Value, LiteralTimes, NameTimes, ListTimes, Dimensions, Typed, Marked, LockGroup, LockAny, InitialValues, ConstantValues, declared_of, part_of, Declare, Structure}
use Rattle.hal_grammar.specs.Statements.{While, Until, Stepped, Listed, EveryError, GroupErrors, OneError, Signal, Set, Reset, eventful, System, Ignore, StartAt, StartIn, StartOn, Cyclic, CyclicEvery, CyclicAfter, scheduling, Labelled, Null, Assignment, If, Do, DoCase, DoLoop, DoFor, Exit, Repeat, Return, Call, Read, Write, Update, Scheduled, Cancel, Terminate, Wait, WaitUntil, WaitForDependent, WaitFor, Event, UpdatePriority, OnErrorStatement, OnErrorResponse, OffError, SendError, NoAlternative, Otherwise, Groups}
use Rattle.hal_grammar.specs.Units.{Reentrant, Exclusive, SinglePrecision, DoublePrecision, NoKind, HasKind, Program, Compool, Task, Procedure, Function, BlockOf, template_of, Include, Templates, File, file_of}
use Rattle.std.specs.Prelude.{◌<◌, slice_get, pos, negsuc}
use Rattle.std.proofs.Common.{arith}
use Rattle.hal_values.specs.Tables.{process_count}
use Rattle.hal_meaning.specs.Places.{unit_numbers}
use Rattle.hal_meaning.specs.Runs.{places_of_process}
use Rattle.hal_meaning.specs.Sets as sets
use Rattle.hal_meaning.specs.Sets.{set_of}
use Rattle.hal_agreement.proofs.Linking.{only, one_unit, begun_plain}
use Rattle.hal_code.proofs.Forwards.{right_is_forward}
use Rattle.hal_agreement.specs.Placed.{IsPlacedProcess, IsPlaced}
use Rattle.meaning_rows.specs.Trees.{o, nm, es, ts, ss, is, st, el}
use Rattle.std.proofs.Common.{refl}
use Rattle.hal_values.specs.declared.value.Kind.TheVariants as kind
use Rattle.hal_values.specs.declared.value.Value.TheVariants as value
use Rattle.hal_values.specs.declared.tables.EventStart.TheVariants as begins
use Rattle.hal_values.specs.declared.tables.Item.TheVariants as item
use Rattle.hal_values.specs.declared.tables.ReportBase.TheVariants as named
use Rattle.hal_operations.specs.declared.operation.Op1.TheVariants as op1
use Rattle.hal_operations.specs.declared.operation.Op2.TheVariants as op2
use Rattle.hal_code.specs.declared.choice.Choice.TheVariants as choice
use Rattle.hal_code.specs.declared.image.ImageParts.{ImageParts}
use Rattle.hal_code.specs.declared.instr.Instr.TheVariants as instr
use Rattle.hal_code.specs.declared.operand.Time.TheVariants as time
use Rattle.hal_code.specs.declared.operand.Start.TheVariants as start
use Rattle.hal_code.specs.declared.operand.Round.TheVariants as round
use Rattle.hal_code.specs.declared.operand.Limit.TheVariants as limit
use Rattle.hal_code.specs.declared.operand.Delay.TheVariants as delay
use Rattle.hal_code.specs.declared.operand.Places.TheVariants as places
use Rattle.hal_code.specs.declared.operand.Response.TheVariants as response
use Rattle.hal_code.specs.declared.operand.EventChange.TheVariants as change
use Rattle.hal_code.specs.declared.row.Base.TheVariants as base
use Rattle.hal_code.specs.declared.row.OwnPlace.TheVariants as place
use Rattle.hal_code.specs.declared.row.ResultKind.TheVariants as result
use Rattle.hal_code.specs.declared.row.Target.TheVariants as target
use Rattle.hal_words.specs.Reserved as words_reserved
use Rattle.hal_phrases.specs.GatheredDeclarations as phrases_gathereddeclarations
use Rattle.hal_phrases.specs.GatheredExpressions as phrases_gatheredexpressions
use Rattle.hal_phrases.specs.GatheredStatements as phrases_gatheredstatements
use Rattle.hal_phrases.specs.GatheredUnits as phrases_gatheredunits
use Rattle.hal_phrases.specs.Members as phrases_members
use Rattle.hal_names.specs.Declarations as names_declarations
use Rattle.hal_names.specs.Keys as names_keys
use Rattle.hal_names.specs.Means as names_means
use Rattle.hal_names.specs.Tasks as names_tasks
use Rattle.hal_scope.specs.Builtins as scope_builtins
use Rattle.hal_scope.specs.Components as scope_components
use Rattle.hal_scope.specs.Labels as scope_labels
use Rattle.hal_scope.specs.Repeated as scope_repeated
use Rattle.hal_scope.specs.Rules as scope_rules
use Rattle.hal_scope.specs.Sorts as scope_sorts
use Rattle.hal_scope.specs.Uses as scope_uses
use Rattle.hal_kinds.specs.Attributes as kinds_attributes
use Rattle.hal_kinds.specs.Classes as kinds_classes
use Rattle.hal_kinds.specs.Data as kinds_data
use Rattle.hal_kinds.specs.Subscripts as kinds_subscripts
use Rattle.hal_constants.specs.Constants as constants_constants
use Rattle.hal_constants.specs.Known as constants_known
use Rattle.hal_constants.specs.Naming as constants_naming
use Rattle.hal_constants.specs.Operands as constants_operands
use Rattle.hal_constants.specs.Results as constants_results
use Rattle.hal_states.specs.OfKinds as states_ofkinds

-- subscripts of an array, of a text and of bits
abbrev row1 : List File
row1 = ((file_of ([]) (BlockOf (nm (codes "P")) (Program o) ((Declare o ([]) ((declared_of (nm (codes "A")) ((Dimensions o (es ((Literal o (Integer 3)) ∷ []))) ∷ (Typed (IntegerKind o)) ∷ [])) ∷ (declared_of (nm (codes "T")) ((Typed (CharacterKind o (Literal o (Integer 5)))) ∷ (InitialValues o (is ((Value (Literal o (Text (codes "ABCDE")))) ∷ []))) ∷ [])) ∷ (declared_of (nm (codes "I")) ((Typed (IntegerKind o)) ∷ (InitialValues o (is ((Value (Literal o (Integer 1))) ∷ []))) ∷ [])) ∷ (declared_of (nm (codes "B")) ((Typed (BitKind o (Literal o (Integer 8)))) ∷ [])) ∷ [])) ∷ []) (el ((inr (Labelled ([]) (Assignment o ((Refers o (codes "A") ([]) (ByParts o (ss ([])) (ss ([])) (ss ((One (FromBeginning (Literal o (Integer 2)))) ∷ [])))) ∷ []) (Literal o (Integer 7))))) ∷ (inr (Labelled ([]) (Assignment o ((Refers o (codes "A") ([]) (ByName o (nm (codes "I")))) ∷ []) (Sum o None (Referred (Refers o (codes "A") ([]) (ByParts o (ss ([])) (ss ([])) (ss ((One (FromEnd o (ts ((Minus, (Literal o (Integer 1))) ∷ [])))) ∷ []))))) (ts ((Plus, (Literal o (Integer 1))) ∷ [])))))) ∷ (inr (Labelled ([]) (Assignment o ((Refers o (codes "A") ([]) (ByInteger o o 1)) ∷ []) (Referred (Refers o (codes "A") ([]) (ByParts o (ss ([])) (ss ([])) (ss ((One (FromBeginning (Sum o None (Referred (Refers o (codes "I") ([]) Unsubscripted)) (ts ((Plus, (Literal o (Integer 1))) ∷ []))))) ∷ [])))))))) ∷ (inr (Labelled ([]) (Write o (Literal o (Integer 6)) (es ((Referred (Refers o (codes "T") ([]) (ByParts o (ss ([])) (ss ([])) (ss ((Range (FromBeginning (Literal o (Integer 2))) (FromBeginning (Literal o (Integer 3)))) ∷ []))))) ∷ (Referred (Refers o (codes "T") ([]) (ByInteger o o 1))) ∷ (Referred (Refers o (codes "T") ([]) (ByName o (nm (codes "I"))))) ∷ (Referred (Refers o (codes "T") ([]) (ByParts o (ss ([])) (ss ([])) (ss ((Every o) ∷ []))))) ∷ (Referred (Refers o (codes "T") ([]) (ByParts o (ss ([])) (ss ([])) (ss ((Portion (Literal o (Integer 2)) (FromBeginning (Referred (Refers o (codes "I") ([]) Unsubscripted)))) ∷ []))))) ∷ (Referred (Refers o (codes "A") ([]) (ByInteger o o 1))) ∷ (Referred (Refers o (codes "B") ([]) (ByInteger o o 3))) ∷ []))))) ∷ [])) (Some (nm (codes "P"))))) ∷ [])

abbrev image1 : ImageParts
image1 = record { cells = []; events = []; common = []; processes = ((record { name = codes "P"; block = 0; places = ((record { repeat = 3; row = (place.Data kind.Single (value.Int (pos 0))) }) ∷ (record { repeat = 1; row = (place.Data (kind.Text 5) (value.Text (codes "ABCDE"))) }) ∷ (record { repeat = 1; row = (place.Data kind.Single (value.Int (pos 1))) }) ∷ (record { repeat = 1; row = (place.Data (kind.Bits 8) (value.Bits 8 0)) }) ∷ []) }) ∷ []); shapes = []; views = ((record { base = (base.Own 0); dimensions = ((record { size = 3; stride = 1 }) ∷ []); target = (target.Cell kind.Single) }) ∷ (record { base = (base.Own 3); dimensions = []; target = (target.Cell (kind.Text 5)) }) ∷ (record { base = (base.Own 4); dimensions = []; target = (target.Cell kind.Single) }) ∷ (record { base = (base.Own 5); dimensions = []; target = (target.Cell (kind.Bits 8)) }) ∷ []); expressions = []; blocks = ((record { process = 0; first = 0; end = 66; result = (choice.Known result.Nothing) }) ∷ []); names = ((record { name = codes "P.A"; base = named.Own 0; first = 0; copies = 0; stride = 3; dimensions = (3 ∷ []) }) ∷ (record { name = codes "P.T"; base = named.Own 0; first = 3; copies = 0; stride = 1; dimensions = [] }) ∷ (record { name = codes "P.I"; base = named.Own 0; first = 4; copies = 0; stride = 1; dimensions = [] }) ∷ (record { name = codes "P.B"; base = named.Own 0; first = 5; copies = 0; stride = 1; dimensions = [] }) ∷ []); code = ((instr.Begin) ∷ (instr.Int (pos 7)) ∷ (instr.Int (pos 2)) ∷ (instr.Cell 0) ∷ (instr.Keep) ∷ (instr.Int (pos 3)) ∷ (instr.Int (pos 1)) ∷ (instr.Op2 (choice.Known op2.Minus)) ∷ (instr.Cell 0) ∷ (instr.Fetch) ∷ (instr.Int (pos 1)) ∷ (instr.Op2 (choice.Known op2.Plus)) ∷ (instr.Cell 2) ∷ (instr.Fetch) ∷ (instr.Cell 0) ∷ (instr.Keep) ∷ (instr.Cell 2) ∷ (instr.Fetch) ∷ (instr.Int (pos 1)) ∷ (instr.Op2 (choice.Known op2.Plus)) ∷ (instr.Cell 0) ∷ (instr.Fetch) ∷ (instr.Int (pos 1)) ∷ (instr.Cell 0) ∷ (instr.Keep) ∷ (instr.Cell 1) ∷ (instr.Fetch) ∷ (instr.Int (pos 2)) ∷ (instr.Int (pos 3)) ∷ (instr.Pick (choice.Known places.To)) ∷ (instr.Item) ∷ (instr.Cell 1) ∷ (instr.Fetch) ∷ (instr.Int (pos 1)) ∷ (instr.Pick (choice.Known places.One)) ∷ (instr.Item) ∷ (instr.Cell 1) ∷ (instr.Fetch) ∷ (instr.Cell 2) ∷ (instr.Fetch) ∷ (instr.Pick (choice.Known places.One)) ∷ (instr.Item) ∷ (instr.Cell 1) ∷ (instr.Fetch) ∷ (instr.Int (pos 1)) ∷ (instr.Len 1) ∷ (instr.Pick (choice.Known places.To)) ∷ (instr.Item) ∷ (instr.Cell 1) ∷ (instr.Fetch) ∷ (instr.Int (pos 2)) ∷ (instr.Cell 2) ∷ (instr.Fetch) ∷ (instr.Pick (choice.Known places.At)) ∷ (instr.Item) ∷ (instr.Int (pos 1)) ∷ (instr.Cell 0) ∷ (instr.Fetch) ∷ (instr.Item) ∷ (instr.Cell 3) ∷ (instr.Fetch) ∷ (instr.Int (pos 3)) ∷ (instr.Pick (choice.Known places.One)) ∷ (instr.Item) ∷ (instr.Print 6) ∷ (instr.Finish) ∷ []); first = 0 }

abbrev set1 : sets.Set
set1 = set_of 400 row1

-- the number of the unit that is called, if there is one
abbrev called1 : ℕ
called1 = elim (slice_get (unit_numbers set1.phrases) 1) [ None ↦ 0 | Some k ↦ k ]

abbrev Says1 : Type 0
Says1 = IsPlaced (set_of 400 row1) image1

none_more1 : (p : ℕ) → suc p < 1 → ⊥
none_more1 p more = omega (arith, more)

process1 : (p : ℕ) → p < process_count (set_of 400 row1).tables → IsPlacedProcess (set_of 400 row1) image1 p
unfolding digits words_reserved.reserved_words words_reserved.left_out_words phrases_gathereddeclarations.gathered_kind phrases_gathereddeclarations.gathered_initial phrases_gathereddeclarations.gathered_initials phrases_gathereddeclarations.gathered_attribute phrases_gathereddeclarations.gathered_item phrases_gathereddeclarations.still_open phrases_gathereddeclarations.innermost phrases_gathereddeclarations.is_bottom phrases_gathereddeclarations.gathered_part phrases_gathereddeclarations.gathered_parts phrases_gathereddeclarations.gathered_declaration phrases_gatheredexpressions.gathered phrases_gatheredexpressions.gathered_all phrases_gatheredexpressions.gathered_terms phrases_gatheredexpressions.gathered_reference phrases_gatheredexpressions.gathered_subscript phrases_gatheredexpressions.gathered_subs phrases_gatheredexpressions.gathered_sub phrases_gatheredexpressions.gathered_position phrases_gatheredstatements.gathered_guard phrases_gatheredstatements.gathered_span phrases_gatheredstatements.gathered_start phrases_gatheredstatements.gathered_cycle phrases_gatheredstatements.gathered_limit phrases_gatheredstatements.gathered_schedule phrases_gatheredstatements.begun_for phrases_gatheredstatements.around_for phrases_gatheredstatements.gathered_statement phrases_gatheredstatements.gathered_basic phrases_gatheredstatements.gathered_alternative phrases_gatheredstatements.gathered_group phrases_gatheredstatements.gathered_statements phrases_gatheredunits.gathered_returns phrases_gatheredunits.gathered_head phrases_gatheredunits.gathered_block phrases_gatheredunits.gathered_elements phrases_gatheredunits.around_template phrases_gatheredunits.gathered_template phrases_gatheredunits.gathered_preface phrases_gatheredunits.gathered_prefaces phrases_gatheredunits.name_of_block phrases_gatheredunits.gathered_file phrases_gatheredunits.phrases_of phrases_members.gathered_member phrases_members.gathered_members names_declarations.is_declaring names_declarations.with_places names_declarations.with_all_chosen names_keys.declared_at names_keys.same_space names_keys.same_key names_keys.own names_means.is_compool_unit names_means.unit_named names_means.given_by names_means.shown names_means.shown_by names_means.included names_means.included_before names_means.prefaces_of names_means.nearest names_tasks.with_homes scope_builtins.builtins scope_components.has_path scope_components.is_structure scope_components.type_has scope_components.has_component scope_components.lacks_in scope_components.lacks scope_labels.is_label_of scope_labels.misclosed scope_labels.is_loop scope_labels.group_around scope_labels.misled scope_labels.astray scope_repeated.given scope_repeated.is_of_block scope_repeated.twice scope_repeated.declares_one_there scope_repeated.declarations_of scope_repeated.included_twice scope_repeated.is_item scope_repeated.undeclared scope_rules.fault scope_rules.first_fault scope_sorts.type_in scope_sorts.type_among scope_sorts.sort_of_type scope_sorts.sort_of_head scope_sorts.sort_of scope_sorts.usage_of scope_sorts.use_of_reference scope_sorts.used scope_uses.unknown scope_uses.is_eventful scope_uses.is_nil scope_uses.refers_to_event scope_uses.holds_event scope_uses.hold_event scope_uses.limit_of scope_uses.limit_around scope_uses.misused kinds_attributes.count_of kinds_attributes.no_more kinds_attributes.sizes_in kinds_attributes.sizes_among kinds_attributes.initial_in kinds_attributes.initial_among kinds_attributes.constant_in kinds_attributes.constant_among kinds_attributes.same_mark kinds_attributes.is_mark kinds_classes.class_of_result kinds_classes.class_of_returns kinds_classes.class_of_head kinds_classes.class_of_form kinds_classes.class_of_builtin kinds_classes.class_at kinds_classes.class_of_reference kinds_classes.class_of_function kinds_classes.class_of_called_head kinds_classes.class_of_called kinds_classes.class_of_literal kinds_classes.class_of_conversion kinds_classes.beside kinds_classes.joined kinds_classes.enclosed kinds_classes.class_of kinds_classes.class_beside kinds_classes.class_joined kinds_data.class_of_type kinds_data.has_copies kinds_data.dimensions_of kinds_data.data_of kinds_data.part_data kinds_data.part_under kinds_data.data_at_part kinds_data.component_of kinds_data.component_data kinds_data.data_at kinds_data.is_event_type kinds_data.is_structure_type kinds_subscripts.subscript_count kinds_subscripts.is_many kinds_subscripts.are_many kinds_subscripts.parts_chosen kinds_subscripts.choice_of kinds_subscripts.is_structure_class constants_constants.operation_of_sign constants_constants.signed constants_constants.operation_of_conversion constants_constants.raised_to constants_constants.raised constants_constants.is_none constants_constants.factor_at constants_constants.constant_of constants_constants.folded constants_constants.summed constants_constants.computed constants_constants.computed_second constants_constants.multiplied constants_constants.referred constants_constants.subscripted constants_constants.component_of constants_constants.component_by constants_constants.place_of constants_known.size_of_integer constants_known.size_of_value constants_known.size_of constants_known.bits_kind constants_known.text_kind constants_known.kind_of constants_known.kind_of_type constants_known.gives_none constants_known.give_none constants_known.only_of constants_known.only_with constants_known.kept constants_known.fitted constants_known.only_in constants_known.declared_value constants_known.round constants_known.is_file constants_known.is_pooled constants_known.rounds constants_naming.constant_known constants_naming.constant_at constants_naming.literal_constant constants_naming.operation_of constants_operands.takes_one constants_operands.takes_two constants_operands.is_storable constants_operands.has_components constants_results.worth constants_results.worse constants_results.apply_one constants_results.apply_two constants_results.component_at constants_results.component_to constants_results.component_from constants_results.picked_one constants_results.picked_to constants_results.picked_from states_ofkinds.is_of
process1 zero exists = record {
  body = _;
  found = refl;
  plain = refl;
  places = refl;
  block = λ unit. None;
  units = λ unit number b one named found block. absurd (cc);
  spot = λ place. 65;
  code = record { finish = 65; statements = (5, (2, (refl, refl), (λ held. (4, (2, 3, 0, 0, (refl, refl), (3, (refl, refl), (refl, refl)), (record { number = 0; view = _; address = refl; row = refl; viewed = λ later. record { dimensions = refl; target = refl; base = refl } }), refl), (refl, refl)))), (16, (12, (10, 10, (λ held. (9, (5, 8, 0, 0, (refl, refl), (8, (refl, (7, (refl, refl), refl, refl)), (refl, refl)), (record { number = 0; view = _; address = refl; row = refl; viewed = λ later. record { dimensions = refl; target = refl; base = refl } }), refl), refl, refl)), refl, (11, (refl, refl), refl, refl)), (λ held. (15, (14, (λ held. (record { number = 2; view = _; cell = refl; row = refl; plain = record { dimensions = refl; target = refl; base = refl } }, (refl, refl))), refl, (record { number = 0; view = _; address = refl; row = refl; viewed = λ later. record { dimensions = refl; target = refl; base = refl } }), refl), (refl, refl)))), (25, (22, (λ held. (21, (16, 20, 0, 0, (refl, refl), (20, (18, 18, (λ held. (record { number = 2; view = _; cell = refl; row = refl; plain = record { dimensions = refl; target = refl; base = refl } }, (refl, refl))), refl, (19, (refl, refl), refl, refl)), (refl, refl)), (record { number = 0; view = _; address = refl; row = refl; viewed = λ later. record { dimensions = refl; target = refl; base = refl } }), refl), refl, refl)), (λ held. (24, (23, (refl, refl), refl, (record { number = 0; view = _; address = refl; row = refl; viewed = λ later. record { dimensions = refl; target = refl; base = refl } }), refl), (refl, refl)))), (65, (6, 64, (λ rec h st same. refl), (30, (λ held. (26, (25, 25, 0, 0, (refl, refl), (refl, refl), (record { number = 1; view = _; address = refl; row = refl; viewed = λ later. record { dimensions = refl; target = refl; base = refl } }), refl), refl, (29, (28, (refl, refl), (refl, refl)), (refl, refl)))), refl, (35, (λ held. (32, ((record { number = 1; view = _; address = refl; row = refl; viewed = λ later. record { dimensions = refl; target = refl; base = refl } }), refl), refl, (refl, (refl, refl)))), refl, (41, (λ held. (37, ((record { number = 1; view = _; address = refl; row = refl; viewed = λ later. record { dimensions = refl; target = refl; base = refl } }), refl), refl, (40, (λ held. (record { number = 2; view = _; cell = refl; row = refl; plain = record { dimensions = refl; target = refl; base = refl } }, (refl, refl))), (refl, refl)))), refl, (47, (λ held. (43, (42, 42, 0, 0, (refl, refl), (refl, refl), (record { number = 1; view = _; address = refl; row = refl; viewed = λ later. record { dimensions = refl; target = refl; base = refl } }), refl), refl, (46, (refl, (refl, refl)), (refl, refl)))), refl, (54, (λ held. (49, (48, 48, 0, 0, (refl, refl), (refl, refl), (record { number = 1; view = _; address = refl; row = refl; viewed = λ later. record { dimensions = refl; target = refl; base = refl } }), refl), refl, (53, (51, (refl, refl), (λ held. (record { number = 2; view = _; cell = refl; row = refl; plain = record { dimensions = refl; target = refl; base = refl } }, (refl, refl)))), (refl, refl)))), refl, (58, (λ held. (57, (56, (refl, refl), refl, (record { number = 0; view = _; address = refl; row = refl; viewed = λ later. record { dimensions = refl; target = refl; base = refl } }), refl), refl, refl)), refl, (63, (λ held. (60, ((record { number = 3; view = _; address = refl; row = refl; viewed = λ later. record { dimensions = refl; target = refl; base = refl } }), refl), refl, (refl, (refl, refl)))), refl, refl))))))), (refl, refl)), refl)))); leads_out = λ place none. refl; last = refl };
}
process1 (suc p) exists = absurd (none_more1 p exists)

-- components of receivers: of a text, of bits, and of an element of an array
abbrev row2 : List File
row2 = ((file_of ([]) (BlockOf (nm (codes "P")) (Program o) ((Declare o ([]) ((declared_of (nm (codes "T")) ((Typed (CharacterKind o (Literal o (Integer 5)))) ∷ (InitialValues o (is ((Value (Literal o (Text (codes "ABCDE")))) ∷ []))) ∷ [])) ∷ (declared_of (nm (codes "I")) ((Typed (IntegerKind o)) ∷ (InitialValues o (is ((Value (Literal o (Integer 1))) ∷ []))) ∷ [])) ∷ (declared_of (nm (codes "B")) ((Typed (BitKind o (Literal o (Integer 8)))) ∷ [])) ∷ (declared_of (nm (codes "W")) ((Dimensions o (es ((Literal o (Integer 2)) ∷ []))) ∷ (Typed (CharacterKind o (Literal o (Integer 3)))) ∷ [])) ∷ [])) ∷ []) (el ((inr (Labelled ([]) (Assignment o ((Refers o (codes "T") ([]) (ByInteger o o 2)) ∷ []) (Literal o (Text (codes "X")))))) ∷ (inr (Labelled ([]) (Assignment o ((Refers o (codes "T") ([]) (ByName o (nm (codes "I")))) ∷ []) (Literal o (Text (codes "Y")))))) ∷ (inr (Labelled ([]) (Assignment o ((Refers o (codes "T") ([]) (ByParts o (ss ([])) (ss ([])) (ss ((Range (FromBeginning (Literal o (Integer 2))) (FromEnd o (ts ([])))) ∷ [])))) ∷ []) (Literal o (Text (codes "ZZ")))))) ∷ (inr (Labelled ([]) (Assignment o ((Refers o (codes "T") ([]) (ByParts o (ss ([])) (ss ([])) (ss ((Every o) ∷ [])))) ∷ []) (Literal o (Text (codes "AB")))))) ∷ (inr (Labelled ([]) (Assignment o ((Refers o (codes "T") ([]) (ByParts o (ss ([])) (ss ([])) (ss ((Portion (Literal o (Integer 2)) (FromBeginning (Referred (Refers o (codes "I") ([]) Unsubscripted)))) ∷ [])))) ∷ []) (Literal o (Text (codes "CC")))))) ∷ (inr (Labelled ([]) (Assignment o ((Refers o (codes "B") ([]) (ByParts o (ss ([])) (ss ([])) (ss ((Range (FromBeginning (Literal o (Integer 1))) (FromBeginning (Literal o (Integer 3)))) ∷ [])))) ∷ []) (Literal o (Bits 3 5))))) ∷ (inr (Labelled ([]) (Assignment o ((Refers o (codes "W") ([]) (ByParts o (ss ([])) (ss ((One (FromBeginning (Referred (Refers o (codes "I") ([]) Unsubscripted)))) ∷ [])) (ss ((One (FromBeginning (Literal o (Integer 2)))) ∷ [])))) ∷ []) (Literal o (Text (codes "Q")))))) ∷ [])) (Some (nm (codes "P"))))) ∷ [])

abbrev image2 : ImageParts
image2 = record { cells = []; events = []; common = []; processes = ((record { name = codes "P"; block = 0; places = ((record { repeat = 1; row = (place.Data (kind.Text 5) (value.Text (codes "ABCDE"))) }) ∷ (record { repeat = 1; row = (place.Data kind.Single (value.Int (pos 1))) }) ∷ (record { repeat = 1; row = (place.Data (kind.Bits 8) (value.Bits 8 0)) }) ∷ (record { repeat = 2; row = (place.Data (kind.Text 3) (value.Text (codes ""))) }) ∷ []) }) ∷ []); shapes = []; views = ((record { base = (base.Own 0); dimensions = []; target = (target.Cell (kind.Text 5)) }) ∷ (record { base = (base.Own 1); dimensions = []; target = (target.Cell kind.Single) }) ∷ (record { base = (base.Own 2); dimensions = []; target = (target.Cell (kind.Bits 8)) }) ∷ (record { base = (base.Own 3); dimensions = ((record { size = 2; stride = 1 }) ∷ []); target = (target.Cell (kind.Text 3)) }) ∷ []); expressions = []; blocks = ((record { process = 0; first = 0; end = 52; result = (choice.Known result.Nothing) }) ∷ []); names = ((record { name = codes "P.T"; base = named.Own 0; first = 0; copies = 0; stride = 1; dimensions = [] }) ∷ (record { name = codes "P.I"; base = named.Own 0; first = 1; copies = 0; stride = 1; dimensions = [] }) ∷ (record { name = codes "P.B"; base = named.Own 0; first = 2; copies = 0; stride = 1; dimensions = [] }) ∷ (record { name = codes "P.W"; base = named.Own 0; first = 3; copies = 0; stride = 2; dimensions = (2 ∷ []) }) ∷ []); code = ((instr.Begin) ∷ (instr.Text (codes "X")) ∷ (instr.Cell 0) ∷ (instr.Peek) ∷ (instr.Int (pos 2)) ∷ (instr.Patch (choice.Known places.One)) ∷ (instr.Keep) ∷ (instr.Text (codes "Y")) ∷ (instr.Cell 0) ∷ (instr.Peek) ∷ (instr.Cell 1) ∷ (instr.Fetch) ∷ (instr.Patch (choice.Known places.One)) ∷ (instr.Keep) ∷ (instr.Text (codes "ZZ")) ∷ (instr.Cell 0) ∷ (instr.Peek) ∷ (instr.Int (pos 2)) ∷ (instr.Len 1) ∷ (instr.Patch (choice.Known places.To)) ∷ (instr.Keep) ∷ (instr.Text (codes "AB")) ∷ (instr.Cell 0) ∷ (instr.Peek) ∷ (instr.Int (pos 1)) ∷ (instr.Len 1) ∷ (instr.Patch (choice.Known places.To)) ∷ (instr.Keep) ∷ (instr.Text (codes "CC")) ∷ (instr.Cell 0) ∷ (instr.Peek) ∷ (instr.Int (pos 2)) ∷ (instr.Cell 1) ∷ (instr.Fetch) ∷ (instr.Patch (choice.Known places.At)) ∷ (instr.Keep) ∷ (instr.Bits 3 5) ∷ (instr.Cell 2) ∷ (instr.Peek) ∷ (instr.Int (pos 1)) ∷ (instr.Int (pos 3)) ∷ (instr.Patch (choice.Known places.To)) ∷ (instr.Keep) ∷ (instr.Text (codes "Q")) ∷ (instr.Cell 1) ∷ (instr.Fetch) ∷ (instr.Cell 3) ∷ (instr.Peek) ∷ (instr.Int (pos 2)) ∷ (instr.Patch (choice.Known places.One)) ∷ (instr.Keep) ∷ (instr.Finish) ∷ []); first = 0 }

abbrev set2 : sets.Set
set2 = set_of 400 row2

-- the number of the unit that is called, if there is one
abbrev called2 : ℕ
called2 = elim (slice_get (unit_numbers set2.phrases) 1) [ None ↦ 0 | Some k ↦ k ]

abbrev Says2 : Type 0
Says2 = IsPlaced (set_of 400 row2) image2

none_more2 : (p : ℕ) → suc p < 1 → ⊥
none_more2 p more = omega (arith, more)

process2 : (p : ℕ) → p < process_count (set_of 400 row2).tables → IsPlacedProcess (set_of 400 row2) image2 p
unfolding digits words_reserved.reserved_words words_reserved.left_out_words phrases_gathereddeclarations.gathered_kind phrases_gathereddeclarations.gathered_initial phrases_gathereddeclarations.gathered_initials phrases_gathereddeclarations.gathered_attribute phrases_gathereddeclarations.gathered_item phrases_gathereddeclarations.still_open phrases_gathereddeclarations.innermost phrases_gathereddeclarations.is_bottom phrases_gathereddeclarations.gathered_part phrases_gathereddeclarations.gathered_parts phrases_gathereddeclarations.gathered_declaration phrases_gatheredexpressions.gathered phrases_gatheredexpressions.gathered_all phrases_gatheredexpressions.gathered_terms phrases_gatheredexpressions.gathered_reference phrases_gatheredexpressions.gathered_subscript phrases_gatheredexpressions.gathered_subs phrases_gatheredexpressions.gathered_sub phrases_gatheredexpressions.gathered_position phrases_gatheredstatements.gathered_guard phrases_gatheredstatements.gathered_span phrases_gatheredstatements.gathered_start phrases_gatheredstatements.gathered_cycle phrases_gatheredstatements.gathered_limit phrases_gatheredstatements.gathered_schedule phrases_gatheredstatements.begun_for phrases_gatheredstatements.around_for phrases_gatheredstatements.gathered_statement phrases_gatheredstatements.gathered_basic phrases_gatheredstatements.gathered_alternative phrases_gatheredstatements.gathered_group phrases_gatheredstatements.gathered_statements phrases_gatheredunits.gathered_returns phrases_gatheredunits.gathered_head phrases_gatheredunits.gathered_block phrases_gatheredunits.gathered_elements phrases_gatheredunits.around_template phrases_gatheredunits.gathered_template phrases_gatheredunits.gathered_preface phrases_gatheredunits.gathered_prefaces phrases_gatheredunits.name_of_block phrases_gatheredunits.gathered_file phrases_gatheredunits.phrases_of phrases_members.gathered_member phrases_members.gathered_members names_declarations.is_declaring names_declarations.with_places names_declarations.with_all_chosen names_keys.declared_at names_keys.same_space names_keys.same_key names_keys.own names_means.is_compool_unit names_means.unit_named names_means.given_by names_means.shown names_means.shown_by names_means.included names_means.included_before names_means.prefaces_of names_means.nearest names_tasks.with_homes scope_builtins.builtins scope_components.has_path scope_components.is_structure scope_components.type_has scope_components.has_component scope_components.lacks_in scope_components.lacks scope_labels.is_label_of scope_labels.misclosed scope_labels.is_loop scope_labels.group_around scope_labels.misled scope_labels.astray scope_repeated.given scope_repeated.is_of_block scope_repeated.twice scope_repeated.declares_one_there scope_repeated.declarations_of scope_repeated.included_twice scope_repeated.is_item scope_repeated.undeclared scope_rules.fault scope_rules.first_fault scope_sorts.type_in scope_sorts.type_among scope_sorts.sort_of_type scope_sorts.sort_of_head scope_sorts.sort_of scope_sorts.usage_of scope_sorts.use_of_reference scope_sorts.used scope_uses.unknown scope_uses.is_eventful scope_uses.is_nil scope_uses.refers_to_event scope_uses.holds_event scope_uses.hold_event scope_uses.limit_of scope_uses.limit_around scope_uses.misused kinds_attributes.count_of kinds_attributes.no_more kinds_attributes.sizes_in kinds_attributes.sizes_among kinds_attributes.initial_in kinds_attributes.initial_among kinds_attributes.constant_in kinds_attributes.constant_among kinds_attributes.same_mark kinds_attributes.is_mark kinds_classes.class_of_result kinds_classes.class_of_returns kinds_classes.class_of_head kinds_classes.class_of_form kinds_classes.class_of_builtin kinds_classes.class_at kinds_classes.class_of_reference kinds_classes.class_of_function kinds_classes.class_of_called_head kinds_classes.class_of_called kinds_classes.class_of_literal kinds_classes.class_of_conversion kinds_classes.beside kinds_classes.joined kinds_classes.enclosed kinds_classes.class_of kinds_classes.class_beside kinds_classes.class_joined kinds_data.class_of_type kinds_data.has_copies kinds_data.dimensions_of kinds_data.data_of kinds_data.part_data kinds_data.part_under kinds_data.data_at_part kinds_data.component_of kinds_data.component_data kinds_data.data_at kinds_data.is_event_type kinds_data.is_structure_type kinds_subscripts.subscript_count kinds_subscripts.is_many kinds_subscripts.are_many kinds_subscripts.parts_chosen kinds_subscripts.choice_of kinds_subscripts.is_structure_class constants_constants.operation_of_sign constants_constants.signed constants_constants.operation_of_conversion constants_constants.raised_to constants_constants.raised constants_constants.is_none constants_constants.factor_at constants_constants.constant_of constants_constants.folded constants_constants.summed constants_constants.computed constants_constants.computed_second constants_constants.multiplied constants_constants.referred constants_constants.subscripted constants_constants.component_of constants_constants.component_by constants_constants.place_of constants_known.size_of_integer constants_known.size_of_value constants_known.size_of constants_known.bits_kind constants_known.text_kind constants_known.kind_of constants_known.kind_of_type constants_known.gives_none constants_known.give_none constants_known.only_of constants_known.only_with constants_known.kept constants_known.fitted constants_known.only_in constants_known.declared_value constants_known.round constants_known.is_file constants_known.is_pooled constants_known.rounds constants_naming.constant_known constants_naming.constant_at constants_naming.literal_constant constants_naming.operation_of constants_operands.takes_one constants_operands.takes_two constants_operands.is_storable constants_operands.has_components constants_results.worth constants_results.worse constants_results.apply_one constants_results.apply_two constants_results.component_at constants_results.component_to constants_results.component_from constants_results.picked_one constants_results.picked_to constants_results.picked_from states_ofkinds.is_of
process2 zero exists = record {
  body = _;
  found = refl;
  plain = refl;
  places = refl;
  block = λ unit. None;
  units = λ unit number b one named found block. absurd (cc);
  spot = λ place. 51;
  code = record { finish = 51; statements = (7, (2, (refl, refl), (λ held. (3, ((record { number = 0; view = _; address = refl; row = refl; viewed = λ later. record { dimensions = refl; target = refl; base = refl } }), refl), (refl, refl, refl, (refl, refl))))), (14, (8, (refl, refl), (λ held. (9, ((record { number = 0; view = _; address = refl; row = refl; viewed = λ later. record { dimensions = refl; target = refl; base = refl } }), refl), (12, refl, (λ held. (record { number = 1; view = _; cell = refl; row = refl; plain = record { dimensions = refl; target = refl; base = refl } }, (refl, refl))), refl, (refl, refl))))), (21, (15, (refl, refl), (λ held. (16, (15, 15, 0, 0, (refl, refl), (refl, refl), (record { number = 0; view = _; address = refl; row = refl; viewed = λ later. record { dimensions = refl; target = refl; base = refl } }), refl), (19, refl, (18, (refl, refl), (refl, refl)), refl, (refl, refl))))), (28, (22, (refl, refl), (λ held. (23, (22, 22, 0, 0, (refl, refl), (refl, refl), (record { number = 0; view = _; address = refl; row = refl; viewed = λ later. record { dimensions = refl; target = refl; base = refl } }), refl), (26, refl, (refl, (refl, refl)), refl, (refl, refl))))), (36, (29, (refl, refl), (λ held. (30, (29, 29, 0, 0, (refl, refl), (refl, refl), (record { number = 0; view = _; address = refl; row = refl; viewed = λ later. record { dimensions = refl; target = refl; base = refl } }), refl), (34, refl, (32, (refl, refl), (λ held. (record { number = 1; view = _; cell = refl; row = refl; plain = record { dimensions = refl; target = refl; base = refl } }, (refl, refl)))), refl, (refl, refl))))), (43, (37, (refl, refl), (λ held. (38, (37, 37, 0, 0, (refl, refl), (refl, refl), (record { number = 2; view = _; address = refl; row = refl; viewed = λ later. record { dimensions = refl; target = refl; base = refl } }), refl), (41, refl, (40, (refl, refl), (refl, refl)), refl, (refl, refl))))), (51, (44, (refl, refl), (λ held. (47, (44, 46, 0, 0, (refl, refl), (46, (λ held. (record { number = 1; view = _; cell = refl; row = refl; plain = record { dimensions = refl; target = refl; base = refl } }, (refl, refl))), (refl, refl)), (record { number = 3; view = _; address = refl; row = refl; viewed = λ later. record { dimensions = refl; target = refl; base = refl } }), refl), (49, refl, (refl, refl), refl, (refl, refl))))), refl))))))); leads_out = λ place none. refl; last = refl };
}
process2 (suc p) exists = absurd (none_more2 p exists)

pub all_say : Says1 × Says2
unfolding digits words_reserved.reserved_words words_reserved.left_out_words phrases_gathereddeclarations.gathered_kind phrases_gathereddeclarations.gathered_initial phrases_gathereddeclarations.gathered_initials phrases_gathereddeclarations.gathered_attribute phrases_gathereddeclarations.gathered_item phrases_gathereddeclarations.still_open phrases_gathereddeclarations.innermost phrases_gathereddeclarations.is_bottom phrases_gathereddeclarations.gathered_part phrases_gathereddeclarations.gathered_parts phrases_gathereddeclarations.gathered_declaration phrases_gatheredexpressions.gathered phrases_gatheredexpressions.gathered_all phrases_gatheredexpressions.gathered_terms phrases_gatheredexpressions.gathered_reference phrases_gatheredexpressions.gathered_subscript phrases_gatheredexpressions.gathered_subs phrases_gatheredexpressions.gathered_sub phrases_gatheredexpressions.gathered_position phrases_gatheredstatements.gathered_guard phrases_gatheredstatements.gathered_span phrases_gatheredstatements.gathered_start phrases_gatheredstatements.gathered_cycle phrases_gatheredstatements.gathered_limit phrases_gatheredstatements.gathered_schedule phrases_gatheredstatements.begun_for phrases_gatheredstatements.around_for phrases_gatheredstatements.gathered_statement phrases_gatheredstatements.gathered_basic phrases_gatheredstatements.gathered_alternative phrases_gatheredstatements.gathered_group phrases_gatheredstatements.gathered_statements phrases_gatheredunits.gathered_returns phrases_gatheredunits.gathered_head phrases_gatheredunits.gathered_block phrases_gatheredunits.gathered_elements phrases_gatheredunits.around_template phrases_gatheredunits.gathered_template phrases_gatheredunits.gathered_preface phrases_gatheredunits.gathered_prefaces phrases_gatheredunits.name_of_block phrases_gatheredunits.gathered_file phrases_gatheredunits.phrases_of phrases_members.gathered_member phrases_members.gathered_members names_declarations.is_declaring names_declarations.with_places names_declarations.with_all_chosen names_keys.declared_at names_keys.same_space names_keys.same_key names_keys.own names_means.is_compool_unit names_means.unit_named names_means.given_by names_means.shown names_means.shown_by names_means.included names_means.included_before names_means.prefaces_of names_means.nearest names_tasks.with_homes scope_builtins.builtins scope_components.has_path scope_components.is_structure scope_components.type_has scope_components.has_component scope_components.lacks_in scope_components.lacks scope_labels.is_label_of scope_labels.misclosed scope_labels.is_loop scope_labels.group_around scope_labels.misled scope_labels.astray scope_repeated.given scope_repeated.is_of_block scope_repeated.twice scope_repeated.declares_one_there scope_repeated.declarations_of scope_repeated.included_twice scope_repeated.is_item scope_repeated.undeclared scope_rules.fault scope_rules.first_fault scope_sorts.type_in scope_sorts.type_among scope_sorts.sort_of_type scope_sorts.sort_of_head scope_sorts.sort_of scope_sorts.usage_of scope_sorts.use_of_reference scope_sorts.used scope_uses.unknown scope_uses.is_eventful scope_uses.is_nil scope_uses.refers_to_event scope_uses.holds_event scope_uses.hold_event scope_uses.limit_of scope_uses.limit_around scope_uses.misused kinds_attributes.count_of kinds_attributes.no_more kinds_attributes.sizes_in kinds_attributes.sizes_among kinds_attributes.initial_in kinds_attributes.initial_among kinds_attributes.constant_in kinds_attributes.constant_among kinds_attributes.same_mark kinds_attributes.is_mark kinds_classes.class_of_result kinds_classes.class_of_returns kinds_classes.class_of_head kinds_classes.class_of_form kinds_classes.class_of_builtin kinds_classes.class_at kinds_classes.class_of_reference kinds_classes.class_of_function kinds_classes.class_of_called_head kinds_classes.class_of_called kinds_classes.class_of_literal kinds_classes.class_of_conversion kinds_classes.beside kinds_classes.joined kinds_classes.enclosed kinds_classes.class_of kinds_classes.class_beside kinds_classes.class_joined kinds_data.class_of_type kinds_data.has_copies kinds_data.dimensions_of kinds_data.data_of kinds_data.part_data kinds_data.part_under kinds_data.data_at_part kinds_data.component_of kinds_data.component_data kinds_data.data_at kinds_data.is_event_type kinds_data.is_structure_type kinds_subscripts.subscript_count kinds_subscripts.is_many kinds_subscripts.are_many kinds_subscripts.parts_chosen kinds_subscripts.choice_of kinds_subscripts.is_structure_class constants_constants.operation_of_sign constants_constants.signed constants_constants.operation_of_conversion constants_constants.raised_to constants_constants.raised constants_constants.is_none constants_constants.factor_at constants_constants.constant_of constants_constants.folded constants_constants.summed constants_constants.computed constants_constants.computed_second constants_constants.multiplied constants_constants.referred constants_constants.subscripted constants_constants.component_of constants_constants.component_by constants_constants.place_of constants_known.size_of_integer constants_known.size_of_value constants_known.size_of constants_known.bits_kind constants_known.text_kind constants_known.kind_of constants_known.kind_of_type constants_known.gives_none constants_known.give_none constants_known.only_of constants_known.only_with constants_known.kept constants_known.fitted constants_known.only_in constants_known.declared_value constants_known.round constants_known.is_file constants_known.is_pooled constants_known.rounds constants_naming.constant_known constants_naming.constant_at constants_naming.literal_constant constants_naming.operation_of constants_operands.takes_one constants_operands.takes_two constants_operands.is_storable constants_operands.has_components constants_results.worth constants_results.worse constants_results.apply_one constants_results.apply_two constants_results.component_at constants_results.component_to constants_results.component_from constants_results.picked_one constants_results.picked_to constants_results.picked_from states_ofkinds.is_of
all_say = ((record { tables = refl; forward = right_is_forward image1 refl; processes = process1 }), (record { tables = refl; forward = right_is_forward image2 refl; processes = process2 }))
