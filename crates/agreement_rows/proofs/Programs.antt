-- Rows of programs.txt, written by tools/agreement_rows.
use Rattle.std.specs.Prelude.{◌≡◌, ℕ, List, [], ◌∷◌, Option, Some, None, true, false, zero, suc, codes}
use Rattle.std.specs.Fmt.{digits}
use Rattle.std.proofs.Common.{refl, inl, inr}
use Rattle.hal_grammar.specs.Leaves.{Plus, Minus, Equal, Less, Greater, AtMost, AtLeast, NotEqual, NotLess, NotGreater, ToInteger, ToBits, ToText, Integer, Text, Bits, True, False, On, Off}
use Rattle.hal_grammar.specs.Expressions.{Or, And, Compare, Cat, Sum, Product, Power, Not, Literal, Decimal, Referred, Called, Convert, Parenthesis, Refers, Unsubscripted, ByName, ByInteger, ByParts, Every, One, Range, Portion, FromBeginning, FromEnd}
use Rattle.hal_grammar.specs.Declarations.{Single, Double, Latched, Static, Automatic, Dense, Aligned, IntegerKind, BooleanKind, EventKind, BitKind, CharacterKind, StructureKind, Value, LiteralTimes, NameTimes, ListTimes, Dimensions, Typed, Marked, LockGroup, LockAny, InitialValues, ConstantValues, declared_of, part_of, Declare, Structure}
use Rattle.hal_grammar.specs.Statements.{While, Until, Stepped, Listed, EveryError, GroupErrors, OneError, Signal, Set, Reset, eventful, System, Ignore, StartAt, StartIn, StartOn, Cyclic, CyclicEvery, CyclicAfter, scheduling, Labelled, Null, Assignment, If, Do, DoCase, DoLoop, DoFor, Exit, Repeat, Return, Call, Read, Write, Update, Scheduled, Cancel, Terminate, Wait, WaitUntil, WaitForDependent, WaitFor, Event, UpdatePriority, OnErrorStatement, OnErrorResponse, OffError, SendError, NoAlternative, Otherwise, Groups}
use Rattle.hal_grammar.specs.Units.{Reentrant, Exclusive, SinglePrecision, DoublePrecision, NoKind, HasKind, Program, Compool, Task, Procedure, Function, BlockOf, template_of, Include, Templates, File, file_of}
use Rattle.std.specs.Prelude.{◌<◌, slice_get, pos, negsuc}
use Rattle.std.proofs.Common.{arith}
use Rattle.hal_values.specs.Tables.{process_count}
use Rattle.hal_meaning.specs.Places.{unit_numbers}
use Rattle.hal_meaning.specs.Runs.{places_of_process}
use Rattle.hal_meaning.specs.Sets as sets
use Rattle.hal_meaning.specs.Sets.{set_of}
use Rattle.hal_agreement.proofs.Linking.{only, one_unit, begun_plain}
use Rattle.hal_code.proofs.Forwards.{right_is_forward}
use Rattle.hal_agreement.specs.Placed.{IsPlacedProcess, IsPlaced}
use Rattle.meaning_rows.specs.Trees.{o, nm, es, ts, ss, is, st, el}
use Rattle.std.proofs.Common.{refl}
use Rattle.hal_values.specs.declared.value.Kind.TheVariants as kind
use Rattle.hal_values.specs.declared.value.Value.TheVariants as value
use Rattle.hal_values.specs.declared.tables.EventStart.TheVariants as begins
use Rattle.hal_values.specs.declared.tables.Item.TheVariants as item
use Rattle.hal_values.specs.declared.tables.ReportBase.TheVariants as named
use Rattle.hal_operations.specs.declared.operation.Op1.TheVariants as op1
use Rattle.hal_operations.specs.declared.operation.Op2.TheVariants as op2
use Rattle.hal_code.specs.declared.choice.Choice.TheVariants as choice
use Rattle.hal_code.specs.declared.image.ImageParts.{ImageParts}
use Rattle.hal_code.specs.declared.instr.Instr.TheVariants as instr
use Rattle.hal_code.specs.declared.operand.Time.TheVariants as time
use Rattle.hal_code.specs.declared.operand.Start.TheVariants as start
use Rattle.hal_code.specs.declared.operand.Round.TheVariants as round
use Rattle.hal_code.specs.declared.operand.Limit.TheVariants as limit
use Rattle.hal_code.specs.declared.operand.Delay.TheVariants as delay
use Rattle.hal_code.specs.declared.operand.Places.TheVariants as places
use Rattle.hal_code.specs.declared.operand.Response.TheVariants as response
use Rattle.hal_code.specs.declared.operand.EventChange.TheVariants as change
use Rattle.hal_code.specs.declared.row.Base.TheVariants as base
use Rattle.hal_code.specs.declared.row.OwnPlace.TheVariants as place
use Rattle.hal_code.specs.declared.row.ResultKind.TheVariants as result
use Rattle.hal_code.specs.declared.row.Target.TheVariants as target
use Rattle.hal_words.specs.Reserved as words_reserved
use Rattle.hal_phrases.specs.GatheredDeclarations as phrases_gathereddeclarations
use Rattle.hal_phrases.specs.GatheredExpressions as phrases_gatheredexpressions
use Rattle.hal_phrases.specs.GatheredStatements as phrases_gatheredstatements
use Rattle.hal_phrases.specs.GatheredUnits as phrases_gatheredunits
use Rattle.hal_phrases.specs.Members as phrases_members
use Rattle.hal_names.specs.Declarations as names_declarations
use Rattle.hal_names.specs.Keys as names_keys
use Rattle.hal_names.specs.Means as names_means
use Rattle.hal_names.specs.Tasks as names_tasks
use Rattle.hal_scope.specs.Builtins as scope_builtins
use Rattle.hal_scope.specs.Components as scope_components
use Rattle.hal_scope.specs.Labels as scope_labels
use Rattle.hal_scope.specs.Repeated as scope_repeated
use Rattle.hal_scope.specs.Rules as scope_rules
use Rattle.hal_scope.specs.Sorts as scope_sorts
use Rattle.hal_scope.specs.Uses as scope_uses
use Rattle.hal_kinds.specs.Attributes as kinds_attributes
use Rattle.hal_kinds.specs.Classes as kinds_classes
use Rattle.hal_kinds.specs.Data as kinds_data
use Rattle.hal_kinds.specs.Subscripts as kinds_subscripts
use Rattle.hal_constants.specs.Constants as constants_constants
use Rattle.hal_constants.specs.Known as constants_known
use Rattle.hal_constants.specs.Naming as constants_naming
use Rattle.hal_constants.specs.Operands as constants_operands
use Rattle.hal_constants.specs.Results as constants_results
use Rattle.hal_states.specs.OfKinds as states_ofkinds

-- the example of docs/IMAGE.md: a loop whose test stands twice
abbrev row1 : List File
row1 = ((file_of ([]) (BlockOf (nm (codes "P")) (Program o) ((Declare o ([]) ((declared_of (nm (codes "I")) ((Typed (IntegerKind o)) ∷ (InitialValues o (is ((Value (Literal o (Integer 1))) ∷ []))) ∷ [])) ∷ [])) ∷ []) (el ((inr (Labelled ([]) (DoLoop o (While o (Compare o (Referred (Refers o (codes "I") ([]) Unsubscripted)) Less (Literal o (Integer 6)))) (Groups (st ((Labelled ([]) (Write o (Literal o (Integer 6)) (es ((Referred (Refers o (codes "I") ([]) Unsubscripted)) ∷ [])))) ∷ (Labelled ([]) (Assignment o ((Refers o (codes "I") ([]) Unsubscripted) ∷ []) (Sum o None (Referred (Refers o (codes "I") ([]) Unsubscripted)) (ts ((Plus, (Literal o (Integer 2))) ∷ []))))) ∷ [])) None)))) ∷ [])) (Some (nm (codes "P"))))) ∷ [])

abbrev image1 : ImageParts
image1 = record { cells = []; events = []; common = []; processes = ((record { name = codes "P"; block = 0; places = ((record { repeat = 1; row = (place.Data kind.Single (value.Int (pos 1))) }) ∷ []) }) ∷ []); shapes = []; views = ((record { base = (base.Own 0); dimensions = []; target = (target.Cell kind.Single) }) ∷ []); expressions = []; blocks = ((record { process = 0; first = 0; end = 24; result = (choice.Known result.Nothing) }) ∷ []); names = ((record { name = codes "P.I"; base = named.Own 0; first = 0; copies = 0; stride = 1; dimensions = [] }) ∷ []); code = ((instr.Begin) ∷ (instr.Cell 0) ∷ (instr.Fetch) ∷ (instr.Int (pos 6)) ∷ (instr.Op2 (choice.Known op2.Less)) ∷ (instr.JumpNot 23) ∷ (instr.Turn 23) ∷ (instr.Cell 0) ∷ (instr.Fetch) ∷ (instr.Item) ∷ (instr.Print 6) ∷ (instr.Cell 0) ∷ (instr.Fetch) ∷ (instr.Int (pos 2)) ∷ (instr.Op2 (choice.Known op2.Plus)) ∷ (instr.Cell 0) ∷ (instr.Keep) ∷ (instr.Cell 0) ∷ (instr.Fetch) ∷ (instr.Int (pos 6)) ∷ (instr.Op2 (choice.Known op2.Less)) ∷ (instr.JumpNot 23) ∷ (instr.Jump 6) ∷ (instr.Finish) ∷ []); first = 0 }

abbrev set1 : sets.Set
set1 = set_of 400 row1

-- the number of the unit that is called, if there is one
abbrev called1 : ℕ
called1 = elim (slice_get (unit_numbers set1.phrases) 1) [ None ↦ 0 | Some k ↦ k ]

abbrev Says1 : Type 0
Says1 = IsPlaced (set_of 400 row1) image1

none_more1 : (p : ℕ) → suc p < 1 → ⊥
none_more1 p more = omega (arith, more)

process1 : (p : ℕ) → p < process_count (set_of 400 row1).tables → IsPlacedProcess (set_of 400 row1) image1 p
unfolding digits words_reserved.reserved_words words_reserved.left_out_words phrases_gathereddeclarations.gathered_kind phrases_gathereddeclarations.gathered_initial phrases_gathereddeclarations.gathered_initials phrases_gathereddeclarations.gathered_attribute phrases_gathereddeclarations.gathered_item phrases_gathereddeclarations.still_open phrases_gathereddeclarations.innermost phrases_gathereddeclarations.is_bottom phrases_gathereddeclarations.gathered_part phrases_gathereddeclarations.gathered_parts phrases_gathereddeclarations.gathered_declaration phrases_gatheredexpressions.gathered phrases_gatheredexpressions.gathered_all phrases_gatheredexpressions.gathered_terms phrases_gatheredexpressions.gathered_reference phrases_gatheredexpressions.gathered_subscript phrases_gatheredexpressions.gathered_subs phrases_gatheredexpressions.gathered_sub phrases_gatheredexpressions.gathered_position phrases_gatheredstatements.gathered_guard phrases_gatheredstatements.gathered_span phrases_gatheredstatements.gathered_start phrases_gatheredstatements.gathered_cycle phrases_gatheredstatements.gathered_limit phrases_gatheredstatements.gathered_schedule phrases_gatheredstatements.begun_for phrases_gatheredstatements.around_for phrases_gatheredstatements.gathered_statement phrases_gatheredstatements.gathered_basic phrases_gatheredstatements.gathered_alternative phrases_gatheredstatements.gathered_group phrases_gatheredstatements.gathered_statements phrases_gatheredunits.gathered_returns phrases_gatheredunits.gathered_head phrases_gatheredunits.gathered_block phrases_gatheredunits.gathered_elements phrases_gatheredunits.around_template phrases_gatheredunits.gathered_template phrases_gatheredunits.gathered_preface phrases_gatheredunits.gathered_prefaces phrases_gatheredunits.name_of_block phrases_gatheredunits.gathered_file phrases_gatheredunits.phrases_of phrases_members.gathered_member phrases_members.gathered_members names_declarations.is_declaring names_declarations.with_places names_declarations.with_all_chosen names_keys.declared_at names_keys.same_space names_keys.same_key names_keys.own names_means.is_compool_unit names_means.unit_named names_means.given_by names_means.shown names_means.shown_by names_means.included names_means.included_before names_means.prefaces_of names_means.nearest names_tasks.with_homes scope_builtins.builtins scope_components.has_path scope_components.is_structure scope_components.type_has scope_components.has_component scope_components.lacks_in scope_components.lacks scope_labels.is_label_of scope_labels.misclosed scope_labels.is_loop scope_labels.group_around scope_labels.misled scope_labels.astray scope_repeated.given scope_repeated.is_of_block scope_repeated.twice scope_repeated.declares_one_there scope_repeated.declarations_of scope_repeated.included_twice scope_repeated.is_item scope_repeated.undeclared scope_rules.fault scope_rules.first_fault scope_sorts.type_in scope_sorts.type_among scope_sorts.sort_of_type scope_sorts.sort_of_head scope_sorts.sort_of scope_sorts.usage_of scope_sorts.use_of_reference scope_sorts.used scope_uses.unknown scope_uses.is_eventful scope_uses.is_nil scope_uses.refers_to_event scope_uses.holds_event scope_uses.hold_event scope_uses.limit_of scope_uses.limit_around scope_uses.misused kinds_attributes.count_of kinds_attributes.no_more kinds_attributes.sizes_in kinds_attributes.sizes_among kinds_attributes.initial_in kinds_attributes.initial_among kinds_attributes.constant_in kinds_attributes.constant_among kinds_attributes.same_mark kinds_attributes.is_mark kinds_classes.class_of_result kinds_classes.class_of_returns kinds_classes.class_of_head kinds_classes.class_of_form kinds_classes.class_of_builtin kinds_classes.class_at kinds_classes.class_of_reference kinds_classes.class_of_function kinds_classes.class_of_called_head kinds_classes.class_of_called kinds_classes.class_of_literal kinds_classes.class_of_conversion kinds_classes.beside kinds_classes.joined kinds_classes.enclosed kinds_classes.class_of kinds_classes.class_beside kinds_classes.class_joined kinds_data.class_of_type kinds_data.has_copies kinds_data.dimensions_of kinds_data.data_of kinds_data.part_data kinds_data.part_under kinds_data.data_at_part kinds_data.component_of kinds_data.component_data kinds_data.data_at kinds_data.is_event_type kinds_data.is_structure_type kinds_subscripts.subscript_count kinds_subscripts.is_many kinds_subscripts.are_many kinds_subscripts.parts_chosen kinds_subscripts.choice_of kinds_subscripts.is_structure_class constants_constants.operation_of_sign constants_constants.signed constants_constants.operation_of_conversion constants_constants.raised_to constants_constants.raised constants_constants.is_none constants_constants.factor_at constants_constants.constant_of constants_constants.folded constants_constants.summed constants_constants.computed constants_constants.computed_second constants_constants.multiplied constants_constants.referred constants_constants.subscripted constants_constants.component_of constants_constants.component_by constants_constants.place_of constants_known.size_of_integer constants_known.size_of_value constants_known.size_of constants_known.bits_kind constants_known.text_kind constants_known.kind_of constants_known.kind_of_type constants_known.gives_none constants_known.give_none constants_known.only_of constants_known.only_with constants_known.kept constants_known.fitted constants_known.only_in constants_known.declared_value constants_known.round constants_known.is_file constants_known.is_pooled constants_known.rounds constants_naming.constant_known constants_naming.constant_at constants_naming.literal_constant constants_naming.operation_of constants_operands.takes_one constants_operands.takes_two constants_operands.is_storable constants_operands.has_components constants_results.worth constants_results.worse constants_results.apply_one constants_results.apply_two constants_results.component_at constants_results.component_to constants_results.component_from constants_results.picked_one constants_results.picked_to constants_results.picked_from states_ofkinds.is_of
process1 zero exists = record {
  body = _;
  found = refl;
  plain = refl;
  places = refl;
  block = λ unit. None;
  units = λ unit number b one named found block. absurd (cc);
  spot = λ place. 23;
  code = record { finish = 23; statements = (23, (6, 17, (5, (3, 4, (λ held. (record { number = 0; view = _; cell = refl; row = refl; plain = record { dimensions = refl; target = refl; base = refl } }, (refl, refl))), (refl, refl), (refl, refl)), (refl, refl)), refl, (11, (6, 10, (λ rec h st same. refl), (9, (λ held. (record { number = 0; view = _; cell = refl; row = refl; plain = record { dimensions = refl; target = refl; base = refl } }, (refl, refl))), refl, refl), (refl, refl)), (17, (15, (13, 13, (λ held. (record { number = 0; view = _; cell = refl; row = refl; plain = record { dimensions = refl; target = refl; base = refl } }, (refl, refl))), refl, (14, (refl, refl), refl, refl)), (λ held. (record { number = 0; view = _; cell = refl; row = refl; plain = record { dimensions = refl; target = refl; base = refl } }, (refl, refl)))), refl)), (21, (19, 20, (λ held. (record { number = 0; view = _; cell = refl; row = refl; plain = record { dimensions = refl; target = refl; base = refl } }, (refl, refl))), (refl, refl), (refl, refl)), refl, (refl, refl))), refl); leads_out = λ place none. refl; last = refl };
}
process1 (suc p) exists = absurd (none_more1 p exists)

-- IF with ELSE, a group that EXIT leaves, DO UNTIL, AND, a line of two items
abbrev row2 : List File
row2 = ((file_of ([]) (BlockOf (nm (codes "P")) (Program o) ((Declare o ([]) ((declared_of (nm (codes "N")) ((Typed (IntegerKind o)) ∷ [])) ∷ (declared_of (nm (codes "M")) ((Typed (IntegerKind o)) ∷ (Marked o Double) ∷ [])) ∷ [])) ∷ []) (el ((inr (Labelled ([]) (DoLoop o (Until o (And o (Compare o (Referred (Refers o (codes "N") ([]) Unsubscripted)) Greater (Literal o (Integer 3))) (es ((Compare o (Referred (Refers o (codes "M") ([]) Unsubscripted)) Greater (Literal o (Integer 2))) ∷ [])))) (Groups (st ((Labelled ([]) (Assignment o ((Refers o (codes "N") ([]) Unsubscripted) ∷ []) (Sum o None (Referred (Refers o (codes "N") ([]) Unsubscripted)) (ts ((Plus, (Literal o (Integer 1))) ∷ []))))) ∷ (Labelled ([]) (If o (Compare o (Referred (Refers o (codes "N") ([]) Unsubscripted)) Equal (Literal o (Integer 2))) (Labelled ([]) (Assignment o ((Refers o (codes "M") ([]) Unsubscripted) ∷ []) (Referred (Refers o (codes "N") ([]) Unsubscripted)))) (Otherwise (Labelled ([]) (Do o (Groups (st ((Labelled ([]) (Assignment o ((Refers o (codes "M") ([]) Unsubscripted) ∷ []) (Sum o None (Referred (Refers o (codes "M") ([]) Unsubscripted)) (ts ((Plus, (Parenthesis o (Sum o None (Referred (Refers o (codes "N") ([]) Unsubscripted)) (ts ((Minus, (Literal o (Integer 1))) ∷ []))))) ∷ []))))) ∷ (Labelled ([]) (Exit o None)) ∷ [])) None)))))) ∷ [])) None)))) ∷ (inr (Labelled ([]) (Write o (Literal o (Integer 6)) (es ((Referred (Refers o (codes "N") ([]) Unsubscripted)) ∷ (Referred (Refers o (codes "M") ([]) Unsubscripted)) ∷ []))))) ∷ [])) (Some (nm (codes "P"))))) ∷ [])

abbrev image2 : ImageParts
image2 = record { cells = []; events = []; common = []; processes = ((record { name = codes "P"; block = 0; places = ((record { repeat = 1; row = (place.Data kind.Single (value.Int (pos 0))) }) ∷ (record { repeat = 1; row = (place.Data kind.Double (value.Int (pos 0))) }) ∷ []) }) ∷ []); shapes = []; views = ((record { base = (base.Own 0); dimensions = []; target = (target.Cell kind.Single) }) ∷ (record { base = (base.Own 1); dimensions = []; target = (target.Cell kind.Double) }) ∷ []); expressions = []; blocks = ((record { process = 0; first = 0; end = 46; result = (choice.Known result.Nothing) }) ∷ []); names = ((record { name = codes "P.N"; base = named.Own 0; first = 0; copies = 0; stride = 1; dimensions = [] }) ∷ (record { name = codes "P.M"; base = named.Own 0; first = 1; copies = 0; stride = 1; dimensions = [] }) ∷ []); code = ((instr.Begin) ∷ (instr.Turn 38) ∷ (instr.Cell 0) ∷ (instr.Fetch) ∷ (instr.Int (pos 1)) ∷ (instr.Op2 (choice.Known op2.Plus)) ∷ (instr.Cell 0) ∷ (instr.Keep) ∷ (instr.Cell 0) ∷ (instr.Fetch) ∷ (instr.Int (pos 2)) ∷ (instr.Op2 (choice.Known op2.Equal)) ∷ (instr.JumpNot 18) ∷ (instr.Cell 0) ∷ (instr.Fetch) ∷ (instr.Cell 1) ∷ (instr.Keep) ∷ (instr.Jump 28) ∷ (instr.Cell 1) ∷ (instr.Fetch) ∷ (instr.Cell 0) ∷ (instr.Fetch) ∷ (instr.Int (pos 1)) ∷ (instr.Op2 (choice.Known op2.Minus)) ∷ (instr.Op2 (choice.Known op2.Plus)) ∷ (instr.Cell 1) ∷ (instr.Keep) ∷ (instr.Jump 28) ∷ (instr.Cell 0) ∷ (instr.Fetch) ∷ (instr.Int (pos 3)) ∷ (instr.Op2 (choice.Known op2.Greater)) ∷ (instr.Cell 1) ∷ (instr.Fetch) ∷ (instr.Int (pos 2)) ∷ (instr.Op2 (choice.Known op2.Greater)) ∷ (instr.Op2 (choice.Known op2.And)) ∷ (instr.JumpNot 1) ∷ (instr.Cell 0) ∷ (instr.Fetch) ∷ (instr.Item) ∷ (instr.Cell 1) ∷ (instr.Fetch) ∷ (instr.Item) ∷ (instr.Print 6) ∷ (instr.Finish) ∷ []); first = 0 }

abbrev set2 : sets.Set
set2 = set_of 400 row2

-- the number of the unit that is called, if there is one
abbrev called2 : ℕ
called2 = elim (slice_get (unit_numbers set2.phrases) 1) [ None ↦ 0 | Some k ↦ k ]

abbrev Says2 : Type 0
Says2 = IsPlaced (set_of 400 row2) image2

none_more2 : (p : ℕ) → suc p < 1 → ⊥
none_more2 p more = omega (arith, more)

process2 : (p : ℕ) → p < process_count (set_of 400 row2).tables → IsPlacedProcess (set_of 400 row2) image2 p
unfolding digits words_reserved.reserved_words words_reserved.left_out_words phrases_gathereddeclarations.gathered_kind phrases_gathereddeclarations.gathered_initial phrases_gathereddeclarations.gathered_initials phrases_gathereddeclarations.gathered_attribute phrases_gathereddeclarations.gathered_item phrases_gathereddeclarations.still_open phrases_gathereddeclarations.innermost phrases_gathereddeclarations.is_bottom phrases_gathereddeclarations.gathered_part phrases_gathereddeclarations.gathered_parts phrases_gathereddeclarations.gathered_declaration phrases_gatheredexpressions.gathered phrases_gatheredexpressions.gathered_all phrases_gatheredexpressions.gathered_terms phrases_gatheredexpressions.gathered_reference phrases_gatheredexpressions.gathered_subscript phrases_gatheredexpressions.gathered_subs phrases_gatheredexpressions.gathered_sub phrases_gatheredexpressions.gathered_position phrases_gatheredstatements.gathered_guard phrases_gatheredstatements.gathered_span phrases_gatheredstatements.gathered_start phrases_gatheredstatements.gathered_cycle phrases_gatheredstatements.gathered_limit phrases_gatheredstatements.gathered_schedule phrases_gatheredstatements.begun_for phrases_gatheredstatements.around_for phrases_gatheredstatements.gathered_statement phrases_gatheredstatements.gathered_basic phrases_gatheredstatements.gathered_alternative phrases_gatheredstatements.gathered_group phrases_gatheredstatements.gathered_statements phrases_gatheredunits.gathered_returns phrases_gatheredunits.gathered_head phrases_gatheredunits.gathered_block phrases_gatheredunits.gathered_elements phrases_gatheredunits.around_template phrases_gatheredunits.gathered_template phrases_gatheredunits.gathered_preface phrases_gatheredunits.gathered_prefaces phrases_gatheredunits.name_of_block phrases_gatheredunits.gathered_file phrases_gatheredunits.phrases_of phrases_members.gathered_member phrases_members.gathered_members names_declarations.is_declaring names_declarations.with_places names_declarations.with_all_chosen names_keys.declared_at names_keys.same_space names_keys.same_key names_keys.own names_means.is_compool_unit names_means.unit_named names_means.given_by names_means.shown names_means.shown_by names_means.included names_means.included_before names_means.prefaces_of names_means.nearest names_tasks.with_homes scope_builtins.builtins scope_components.has_path scope_components.is_structure scope_components.type_has scope_components.has_component scope_components.lacks_in scope_components.lacks scope_labels.is_label_of scope_labels.misclosed scope_labels.is_loop scope_labels.group_around scope_labels.misled scope_labels.astray scope_repeated.given scope_repeated.is_of_block scope_repeated.twice scope_repeated.declares_one_there scope_repeated.declarations_of scope_repeated.included_twice scope_repeated.is_item scope_repeated.undeclared scope_rules.fault scope_rules.first_fault scope_sorts.type_in scope_sorts.type_among scope_sorts.sort_of_type scope_sorts.sort_of_head scope_sorts.sort_of scope_sorts.usage_of scope_sorts.use_of_reference scope_sorts.used scope_uses.unknown scope_uses.is_eventful scope_uses.is_nil scope_uses.refers_to_event scope_uses.holds_event scope_uses.hold_event scope_uses.limit_of scope_uses.limit_around scope_uses.misused kinds_attributes.count_of kinds_attributes.no_more kinds_attributes.sizes_in kinds_attributes.sizes_among kinds_attributes.initial_in kinds_attributes.initial_among kinds_attributes.constant_in kinds_attributes.constant_among kinds_attributes.same_mark kinds_attributes.is_mark kinds_classes.class_of_result kinds_classes.class_of_returns kinds_classes.class_of_head kinds_classes.class_of_form kinds_classes.class_of_builtin kinds_classes.class_at kinds_classes.class_of_reference kinds_classes.class_of_function kinds_classes.class_of_called_head kinds_classes.class_of_called kinds_classes.class_of_literal kinds_classes.class_of_conversion kinds_classes.beside kinds_classes.joined kinds_classes.enclosed kinds_classes.class_of kinds_classes.class_beside kinds_classes.class_joined kinds_data.class_of_type kinds_data.has_copies kinds_data.dimensions_of kinds_data.data_of kinds_data.part_data kinds_data.part_under kinds_data.data_at_part kinds_data.component_of kinds_data.component_data kinds_data.data_at kinds_data.is_event_type kinds_data.is_structure_type kinds_subscripts.subscript_count kinds_subscripts.is_many kinds_subscripts.are_many kinds_subscripts.parts_chosen kinds_subscripts.choice_of kinds_subscripts.is_structure_class constants_constants.operation_of_sign constants_constants.signed constants_constants.operation_of_conversion constants_constants.raised_to constants_constants.raised constants_constants.is_none constants_constants.factor_at constants_constants.constant_of constants_constants.folded constants_constants.summed constants_constants.computed constants_constants.computed_second constants_constants.multiplied constants_constants.referred constants_constants.subscripted constants_constants.component_of constants_constants.component_by constants_constants.place_of constants_known.size_of_integer constants_known.size_of_value constants_known.size_of constants_known.bits_kind constants_known.text_kind constants_known.kind_of constants_known.kind_of_type constants_known.gives_none constants_known.give_none constants_known.only_of constants_known.only_with constants_known.kept constants_known.fitted constants_known.only_in constants_known.declared_value constants_known.round constants_known.is_file constants_known.is_pooled constants_known.rounds constants_naming.constant_known constants_naming.constant_at constants_naming.literal_constant constants_naming.operation_of constants_operands.takes_one constants_operands.takes_two constants_operands.is_storable constants_operands.has_components constants_results.worth constants_results.worse constants_results.apply_one constants_results.apply_two constants_results.component_at constants_results.component_to constants_results.component_from constants_results.picked_one constants_results.picked_to constants_results.picked_from states_ofkinds.is_of
process2 zero exists = record {
  body = _;
  found = refl;
  plain = refl;
  places = refl;
  block = λ unit. None;
  units = λ unit number b one named found block. absurd (cc);
  spot = λ place. 45;
  code = record { finish = 45; statements = (38, (1, 28, refl, refl, (8, (6, (4, 4, (λ held. (record { number = 0; view = _; cell = refl; row = refl; plain = record { dimensions = refl; target = refl; base = refl } }, (refl, refl))), refl, (5, (refl, refl), refl, refl)), (λ held. (record { number = 0; view = _; cell = refl; row = refl; plain = record { dimensions = refl; target = refl; base = refl } }, (refl, refl)))), (28, (18, 13, 17, (12, (10, 11, (λ held. (record { number = 0; view = _; cell = refl; row = refl; plain = record { dimensions = refl; target = refl; base = refl } }, (refl, refl))), (refl, refl), (refl, refl)), (refl, refl)), (15, (λ held. (record { number = 0; view = _; cell = refl; row = refl; plain = record { dimensions = refl; target = refl; base = refl } }, (refl, refl))), (λ held. (record { number = 1; view = _; cell = refl; row = refl; plain = record { dimensions = refl; target = refl; base = refl } }, (refl, refl)))), (refl, refl, (27, (25, (20, 20, (λ held. (record { number = 1; view = _; cell = refl; row = refl; plain = record { dimensions = refl; target = refl; base = refl } }, (refl, refl))), refl, (24, (22, 22, (λ held. (record { number = 0; view = _; cell = refl; row = refl; plain = record { dimensions = refl; target = refl; base = refl } }, (refl, refl))), refl, (23, (refl, refl), refl, refl)), refl, refl)), (λ held. (record { number = 1; view = _; cell = refl; row = refl; plain = record { dimensions = refl; target = refl; base = refl } }, (refl, refl)))), (28, (28, refl, (refl, refl)), refl)))), refl)), (37, (32, (30, 31, (λ held. (record { number = 0; view = _; cell = refl; row = refl; plain = record { dimensions = refl; target = refl; base = refl } }, (refl, refl))), (refl, refl), (refl, refl)), (32, 36, 36, refl, (34, 35, (λ held. (record { number = 1; view = _; cell = refl; row = refl; plain = record { dimensions = refl; target = refl; base = refl } }, (refl, refl))), (refl, refl), (refl, refl)), refl, refl, refl)), (refl, refl))), (45, (6, 44, (λ rec h st same. refl), (40, (λ held. (record { number = 0; view = _; cell = refl; row = refl; plain = record { dimensions = refl; target = refl; base = refl } }, (refl, refl))), refl, (43, (λ held. (record { number = 1; view = _; cell = refl; row = refl; plain = record { dimensions = refl; target = refl; base = refl } }, (refl, refl))), refl, refl)), (refl, refl)), refl)); leads_out = λ place none. refl; last = refl };
}
process2 (suc p) exists = absurd (none_more2 p exists)

-- a FUNCTION with two parameters, called with a sum, and RETURN behind an IF
abbrev row3 : List File
row3 = ((file_of ([]) (BlockOf (nm (codes "P")) (Program o) ((Declare o ([]) ((declared_of (nm (codes "N")) ((Typed (IntegerKind o)) ∷ [])) ∷ [])) ∷ []) (el ((inr (Labelled ([]) (Assignment o ((Refers o (codes "N") ([]) Unsubscripted) ∷ []) (Called o (codes "F") (es ((Sum o None (Referred (Refers o (codes "N") ([]) Unsubscripted)) (ts ((Plus, (Literal o (Integer 1))) ∷ []))) ∷ (Literal o (Integer 2)) ∷ [])))))) ∷ (inl (BlockOf (nm (codes "F")) (Function o ((nm (codes "X")) ∷ (nm (codes "Y")) ∷ []) (HasKind (IntegerKind o) None) None) ((Declare o ([]) ((declared_of (nm (codes "X")) ((Typed (IntegerKind o)) ∷ [])) ∷ (declared_of (nm (codes "Y")) ((Typed (IntegerKind o)) ∷ [])) ∷ [])) ∷ []) (el ((inr (Labelled ([]) (If o (Compare o (Referred (Refers o (codes "X") ([]) Unsubscripted)) Greater (Referred (Refers o (codes "Y") ([]) Unsubscripted))) (Labelled ([]) (Return o (Some (Referred (Refers o (codes "X") ([]) Unsubscripted))))) NoAlternative))) ∷ (inr (Labelled ([]) (Return o (Some (Referred (Refers o (codes "Y") ([]) Unsubscripted)))))) ∷ [])) (Some (nm (codes "F"))))) ∷ [])) (Some (nm (codes "P"))))) ∷ [])

abbrev image3 : ImageParts
image3 = record { cells = []; events = []; common = []; processes = ((record { name = codes "P"; block = 1; places = ((record { repeat = 1; row = (place.Data kind.Single (value.Int (pos 0))) }) ∷ (record { repeat = 1; row = (place.Data kind.Single (value.Int (pos 0))) }) ∷ (record { repeat = 1; row = (place.Data kind.Single (value.Int (pos 0))) }) ∷ []) }) ∷ []); shapes = []; views = ((record { base = (base.Own 0); dimensions = []; target = (target.Cell kind.Single) }) ∷ (record { base = (base.Own 1); dimensions = []; target = (target.Cell kind.Single) }) ∷ (record { base = (base.Own 2); dimensions = []; target = (target.Cell kind.Single) }) ∷ []); expressions = []; blocks = ((record { process = 0; first = 0; end = 15; result = (choice.Known result.Integer) }) ∷ (record { process = 0; first = 15; end = 29; result = (choice.Known result.Nothing) }) ∷ []); names = ((record { name = codes "P.N"; base = named.Own 0; first = 0; copies = 0; stride = 1; dimensions = [] }) ∷ []); code = ((instr.Cell 1) ∷ (instr.Fetch) ∷ (instr.Cell 2) ∷ (instr.Fetch) ∷ (instr.Op2 (choice.Known op2.Greater)) ∷ (instr.JumpNot 9) ∷ (instr.Cell 1) ∷ (instr.Fetch) ∷ (instr.Return) ∷ (instr.Cell 2) ∷ (instr.Fetch) ∷ (instr.Return) ∷ (instr.Raise 1 7) ∷ (instr.Int (pos 0)) ∷ (instr.Return) ∷ (instr.Begin) ∷ (instr.Cell 0) ∷ (instr.Fetch) ∷ (instr.Int (pos 1)) ∷ (instr.Op2 (choice.Known op2.Plus)) ∷ (instr.Int (pos 2)) ∷ (instr.Cell 2) ∷ (instr.Keep) ∷ (instr.Cell 1) ∷ (instr.Keep) ∷ (instr.Call 0) ∷ (instr.Cell 0) ∷ (instr.Keep) ∷ (instr.Finish) ∷ []); first = 0 }

abbrev set3 : sets.Set
set3 = set_of 400 row3

-- the number of the unit that is called, if there is one
abbrev called3 : ℕ
called3 = elim (slice_get (unit_numbers set3.phrases) 1) [ None ↦ 0 | Some k ↦ k ]

abbrev Says3 : Type 0
Says3 = IsPlaced (set_of 400 row3) image3

none_more3 : (p : ℕ) → suc p < 1 → ⊥
none_more3 p more = omega (arith, more)

process3 : (p : ℕ) → p < process_count (set_of 400 row3).tables → IsPlacedProcess (set_of 400 row3) image3 p
unfolding digits words_reserved.reserved_words words_reserved.left_out_words phrases_gathereddeclarations.gathered_kind phrases_gathereddeclarations.gathered_initial phrases_gathereddeclarations.gathered_initials phrases_gathereddeclarations.gathered_attribute phrases_gathereddeclarations.gathered_item phrases_gathereddeclarations.still_open phrases_gathereddeclarations.innermost phrases_gathereddeclarations.is_bottom phrases_gathereddeclarations.gathered_part phrases_gathereddeclarations.gathered_parts phrases_gathereddeclarations.gathered_declaration phrases_gatheredexpressions.gathered phrases_gatheredexpressions.gathered_all phrases_gatheredexpressions.gathered_terms phrases_gatheredexpressions.gathered_reference phrases_gatheredexpressions.gathered_subscript phrases_gatheredexpressions.gathered_subs phrases_gatheredexpressions.gathered_sub phrases_gatheredexpressions.gathered_position phrases_gatheredstatements.gathered_guard phrases_gatheredstatements.gathered_span phrases_gatheredstatements.gathered_start phrases_gatheredstatements.gathered_cycle phrases_gatheredstatements.gathered_limit phrases_gatheredstatements.gathered_schedule phrases_gatheredstatements.begun_for phrases_gatheredstatements.around_for phrases_gatheredstatements.gathered_statement phrases_gatheredstatements.gathered_basic phrases_gatheredstatements.gathered_alternative phrases_gatheredstatements.gathered_group phrases_gatheredstatements.gathered_statements phrases_gatheredunits.gathered_returns phrases_gatheredunits.gathered_head phrases_gatheredunits.gathered_block phrases_gatheredunits.gathered_elements phrases_gatheredunits.around_template phrases_gatheredunits.gathered_template phrases_gatheredunits.gathered_preface phrases_gatheredunits.gathered_prefaces phrases_gatheredunits.name_of_block phrases_gatheredunits.gathered_file phrases_gatheredunits.phrases_of phrases_members.gathered_member phrases_members.gathered_members names_declarations.is_declaring names_declarations.with_places names_declarations.with_all_chosen names_keys.declared_at names_keys.same_space names_keys.same_key names_keys.own names_means.is_compool_unit names_means.unit_named names_means.given_by names_means.shown names_means.shown_by names_means.included names_means.included_before names_means.prefaces_of names_means.nearest names_tasks.with_homes scope_builtins.builtins scope_components.has_path scope_components.is_structure scope_components.type_has scope_components.has_component scope_components.lacks_in scope_components.lacks scope_labels.is_label_of scope_labels.misclosed scope_labels.is_loop scope_labels.group_around scope_labels.misled scope_labels.astray scope_repeated.given scope_repeated.is_of_block scope_repeated.twice scope_repeated.declares_one_there scope_repeated.declarations_of scope_repeated.included_twice scope_repeated.is_item scope_repeated.undeclared scope_rules.fault scope_rules.first_fault scope_sorts.type_in scope_sorts.type_among scope_sorts.sort_of_type scope_sorts.sort_of_head scope_sorts.sort_of scope_sorts.usage_of scope_sorts.use_of_reference scope_sorts.used scope_uses.unknown scope_uses.is_eventful scope_uses.is_nil scope_uses.refers_to_event scope_uses.holds_event scope_uses.hold_event scope_uses.limit_of scope_uses.limit_around scope_uses.misused kinds_attributes.count_of kinds_attributes.no_more kinds_attributes.sizes_in kinds_attributes.sizes_among kinds_attributes.initial_in kinds_attributes.initial_among kinds_attributes.constant_in kinds_attributes.constant_among kinds_attributes.same_mark kinds_attributes.is_mark kinds_classes.class_of_result kinds_classes.class_of_returns kinds_classes.class_of_head kinds_classes.class_of_form kinds_classes.class_of_builtin kinds_classes.class_at kinds_classes.class_of_reference kinds_classes.class_of_function kinds_classes.class_of_called_head kinds_classes.class_of_called kinds_classes.class_of_literal kinds_classes.class_of_conversion kinds_classes.beside kinds_classes.joined kinds_classes.enclosed kinds_classes.class_of kinds_classes.class_beside kinds_classes.class_joined kinds_data.class_of_type kinds_data.has_copies kinds_data.dimensions_of kinds_data.data_of kinds_data.part_data kinds_data.part_under kinds_data.data_at_part kinds_data.component_of kinds_data.component_data kinds_data.data_at kinds_data.is_event_type kinds_data.is_structure_type kinds_subscripts.subscript_count kinds_subscripts.is_many kinds_subscripts.are_many kinds_subscripts.parts_chosen kinds_subscripts.choice_of kinds_subscripts.is_structure_class constants_constants.operation_of_sign constants_constants.signed constants_constants.operation_of_conversion constants_constants.raised_to constants_constants.raised constants_constants.is_none constants_constants.factor_at constants_constants.constant_of constants_constants.folded constants_constants.summed constants_constants.computed constants_constants.computed_second constants_constants.multiplied constants_constants.referred constants_constants.subscripted constants_constants.component_of constants_constants.component_by constants_constants.place_of constants_known.size_of_integer constants_known.size_of_value constants_known.size_of constants_known.bits_kind constants_known.text_kind constants_known.kind_of constants_known.kind_of_type constants_known.gives_none constants_known.give_none constants_known.only_of constants_known.only_with constants_known.kept constants_known.fitted constants_known.only_in constants_known.declared_value constants_known.round constants_known.is_file constants_known.is_pooled constants_known.rounds constants_naming.constant_known constants_naming.constant_at constants_naming.literal_constant constants_naming.operation_of constants_operands.takes_one constants_operands.takes_two constants_operands.is_storable constants_operands.has_components constants_results.worth constants_results.worse constants_results.apply_one constants_results.apply_two constants_results.component_at constants_results.component_to constants_results.component_from constants_results.picked_one constants_results.picked_to constants_results.picked_from states_ofkinds.is_of
process3 zero exists = record {
  body = _;
  found = refl;
  plain = refl;
  places = refl;
  block = only called3 0;
  units = one_unit image3 set3 (places_of_process set3 0) called3 0 _ _ refl refl (record { found = refl; clears = []; start = 0; begins = refl; cleared = λ held. begun_plain set3 called3 (places_of_process set3 0) held refl; handler = λ place. 12; finish = 12; statements = (9, (9, 6, 9, (5, (2, 4, (λ held. (record { number = 1; view = _; cell = refl; row = refl; plain = record { dimensions = refl; target = refl; base = refl } }, (refl, refl))), (λ held. (record { number = 2; view = _; cell = refl; row = refl; plain = record { dimensions = refl; target = refl; base = refl } }, (refl, refl))), (refl, refl)), (refl, refl)), (8, 8, (λ held. (record { number = 1; view = _; cell = refl; row = refl; plain = record { dimensions = refl; target = refl; base = refl } }, (refl, refl))), refl, refl, (refl, refl)), (refl, refl)), (12, (11, 11, (λ held. (record { number = 2; view = _; cell = refl; row = refl; plain = record { dimensions = refl; target = refl; base = refl } }, (refl, refl))), refl, refl, (refl, refl)), refl)); leads_out = λ place none. refl; ends = (refl, refl, refl, refl) });
  spot = λ place. 28;
  code = record { finish = 28; statements = (28, (26, (λ held. (21, (20, (18, 18, (λ held. (record { number = 0; view = _; cell = refl; row = refl; plain = record { dimensions = refl; target = refl; base = refl } }, (refl, refl))), refl, (19, (refl, refl), refl, refl)), (21, (refl, refl), refl)), (record { number = 0; body = _; row = _; named = refl; found = refl; block = refl; gives = refl; bound = 21; middle = 25; references = refl; parameters = (23, (21, refl, ((λ held. record { number = 2; view = _; cell = refl; row = refl; plain = record { dimensions = refl; target = refl; base = refl } }), (refl, refl))), ((λ held. record { number = 1; view = _; cell = refl; row = refl; plain = record { dimensions = refl; target = refl; base = refl } }), (refl, refl))); call = (refl, refl) }))), (λ held. (record { number = 0; view = _; cell = refl; row = refl; plain = record { dimensions = refl; target = refl; base = refl } }, (refl, refl)))), refl); leads_out = λ place none. refl; last = refl };
}
process3 (suc p) exists = absurd (none_more3 p exists)

-- READ, an UPDATE block, SET, WAIT and TERMINATE
abbrev row4 : List File
row4 = ((file_of ([]) (BlockOf (nm (codes "P")) (Program o) ((Declare o ([]) ((declared_of (nm (codes "K")) ((Typed (IntegerKind o)) ∷ (LockGroup o (Literal o (Integer 1))) ∷ [])) ∷ (declared_of (nm (codes "N")) ((Typed (IntegerKind o)) ∷ [])) ∷ [])) ∷ (Declare o ([]) ((declared_of (nm (codes "E")) ((Typed (EventKind o)) ∷ (Marked o Latched) ∷ [])) ∷ [])) ∷ []) (el ((inr (Labelled ([]) (Read o (Literal o (Integer 5)) ((Refers o (codes "N") ([]) Unsubscripted) ∷ [])))) ∷ (inr (Labelled ((nm (codes "U")) ∷ []) (Update o (st ((Labelled ([]) (Assignment o ((Refers o (codes "K") ([]) Unsubscripted) ∷ []) (Sum o None (Referred (Refers o (codes "K") ([]) Unsubscripted)) (ts ((Plus, (Literal o (Integer 1))) ∷ []))))) ∷ (Labelled ([]) (Assignment o ((Refers o (codes "N") ([]) Unsubscripted) ∷ []) (Referred (Refers o (codes "K") ([]) Unsubscripted)))) ∷ [])) (Some (nm (codes "U")))))) ∷ (inr (Labelled ([]) (Event (eventful o Set (nm (codes "E")))))) ∷ (inr (Labelled ([]) (Wait o (Decimal o 500)))) ∷ (inr (Labelled ([]) (Terminate o ([])))) ∷ [])) (Some (nm (codes "P"))))) ∷ [])

abbrev image4 : ImageParts
image4 = record { cells = ((record { repeat = 1; row = (record { kind = kind.Single; group = 1; initial = (value.Int (pos 0)) }) }) ∷ []); events = ((choice.Known (begins.Latched false)) ∷ []); common = []; processes = ((record { name = codes "P"; block = 0; places = ((record { repeat = 1; row = (place.Data kind.Single (value.Int (pos 0))) }) ∷ []) }) ∷ []); shapes = []; views = ((record { base = (base.Own 0); dimensions = []; target = (target.Cell kind.Single) }) ∷ (record { base = (base.Shared 0); dimensions = []; target = (target.Cell kind.Single) }) ∷ []); expressions = []; blocks = ((record { process = 0; first = 0; end = 20; result = (choice.Known result.Nothing) }) ∷ []); names = ((record { name = codes "P.K"; base = named.Shared; first = 0; copies = 0; stride = 1; dimensions = [] }) ∷ (record { name = codes "P.N"; base = named.Own 0; first = 0; copies = 0; stride = 1; dimensions = [] }) ∷ (record { name = codes "P.E"; base = named.Event; first = 1; copies = 0; stride = 0; dimensions = [] }) ∷ []); code = ((instr.Begin) ∷ (instr.Input 5 kind.Single 4) ∷ (instr.Cell 0) ∷ (instr.Keep) ∷ (instr.Open 2) ∷ (instr.Cell 1) ∷ (instr.Fetch) ∷ (instr.Int (pos 1)) ∷ (instr.Op2 (choice.Known op2.Plus)) ∷ (instr.Cell 1) ∷ (instr.Keep) ∷ (instr.Cell 1) ∷ (instr.Fetch) ∷ (instr.Cell 0) ∷ (instr.Keep) ∷ (instr.Close) ∷ (instr.Set 1) ∷ (instr.Wait (delay.For (time.Milliseconds 500))) ∷ (instr.Terminate 255) ∷ (instr.Finish) ∷ []); first = 0 }

abbrev set4 : sets.Set
set4 = set_of 400 row4

-- the number of the unit that is called, if there is one
abbrev called4 : ℕ
called4 = elim (slice_get (unit_numbers set4.phrases) 1) [ None ↦ 0 | Some k ↦ k ]

abbrev Says4 : Type 0
Says4 = IsPlaced (set_of 400 row4) image4

none_more4 : (p : ℕ) → suc p < 1 → ⊥
none_more4 p more = omega (arith, more)

process4 : (p : ℕ) → p < process_count (set_of 400 row4).tables → IsPlacedProcess (set_of 400 row4) image4 p
unfolding digits words_reserved.reserved_words words_reserved.left_out_words phrases_gathereddeclarations.gathered_kind phrases_gathereddeclarations.gathered_initial phrases_gathereddeclarations.gathered_initials phrases_gathereddeclarations.gathered_attribute phrases_gathereddeclarations.gathered_item phrases_gathereddeclarations.still_open phrases_gathereddeclarations.innermost phrases_gathereddeclarations.is_bottom phrases_gathereddeclarations.gathered_part phrases_gathereddeclarations.gathered_parts phrases_gathereddeclarations.gathered_declaration phrases_gatheredexpressions.gathered phrases_gatheredexpressions.gathered_all phrases_gatheredexpressions.gathered_terms phrases_gatheredexpressions.gathered_reference phrases_gatheredexpressions.gathered_subscript phrases_gatheredexpressions.gathered_subs phrases_gatheredexpressions.gathered_sub phrases_gatheredexpressions.gathered_position phrases_gatheredstatements.gathered_guard phrases_gatheredstatements.gathered_span phrases_gatheredstatements.gathered_start phrases_gatheredstatements.gathered_cycle phrases_gatheredstatements.gathered_limit phrases_gatheredstatements.gathered_schedule phrases_gatheredstatements.begun_for phrases_gatheredstatements.around_for phrases_gatheredstatements.gathered_statement phrases_gatheredstatements.gathered_basic phrases_gatheredstatements.gathered_alternative phrases_gatheredstatements.gathered_group phrases_gatheredstatements.gathered_statements phrases_gatheredunits.gathered_returns phrases_gatheredunits.gathered_head phrases_gatheredunits.gathered_block phrases_gatheredunits.gathered_elements phrases_gatheredunits.around_template phrases_gatheredunits.gathered_template phrases_gatheredunits.gathered_preface phrases_gatheredunits.gathered_prefaces phrases_gatheredunits.name_of_block phrases_gatheredunits.gathered_file phrases_gatheredunits.phrases_of phrases_members.gathered_member phrases_members.gathered_members names_declarations.is_declaring names_declarations.with_places names_declarations.with_all_chosen names_keys.declared_at names_keys.same_space names_keys.same_key names_keys.own names_means.is_compool_unit names_means.unit_named names_means.given_by names_means.shown names_means.shown_by names_means.included names_means.included_before names_means.prefaces_of names_means.nearest names_tasks.with_homes scope_builtins.builtins scope_components.has_path scope_components.is_structure scope_components.type_has scope_components.has_component scope_components.lacks_in scope_components.lacks scope_labels.is_label_of scope_labels.misclosed scope_labels.is_loop scope_labels.group_around scope_labels.misled scope_labels.astray scope_repeated.given scope_repeated.is_of_block scope_repeated.twice scope_repeated.declares_one_there scope_repeated.declarations_of scope_repeated.included_twice scope_repeated.is_item scope_repeated.undeclared scope_rules.fault scope_rules.first_fault scope_sorts.type_in scope_sorts.type_among scope_sorts.sort_of_type scope_sorts.sort_of_head scope_sorts.sort_of scope_sorts.usage_of scope_sorts.use_of_reference scope_sorts.used scope_uses.unknown scope_uses.is_eventful scope_uses.is_nil scope_uses.refers_to_event scope_uses.holds_event scope_uses.hold_event scope_uses.limit_of scope_uses.limit_around scope_uses.misused kinds_attributes.count_of kinds_attributes.no_more kinds_attributes.sizes_in kinds_attributes.sizes_among kinds_attributes.initial_in kinds_attributes.initial_among kinds_attributes.constant_in kinds_attributes.constant_among kinds_attributes.same_mark kinds_attributes.is_mark kinds_classes.class_of_result kinds_classes.class_of_returns kinds_classes.class_of_head kinds_classes.class_of_form kinds_classes.class_of_builtin kinds_classes.class_at kinds_classes.class_of_reference kinds_classes.class_of_function kinds_classes.class_of_called_head kinds_classes.class_of_called kinds_classes.class_of_literal kinds_classes.class_of_conversion kinds_classes.beside kinds_classes.joined kinds_classes.enclosed kinds_classes.class_of kinds_classes.class_beside kinds_classes.class_joined kinds_data.class_of_type kinds_data.has_copies kinds_data.dimensions_of kinds_data.data_of kinds_data.part_data kinds_data.part_under kinds_data.data_at_part kinds_data.component_of kinds_data.component_data kinds_data.data_at kinds_data.is_event_type kinds_data.is_structure_type kinds_subscripts.subscript_count kinds_subscripts.is_many kinds_subscripts.are_many kinds_subscripts.parts_chosen kinds_subscripts.choice_of kinds_subscripts.is_structure_class constants_constants.operation_of_sign constants_constants.signed constants_constants.operation_of_conversion constants_constants.raised_to constants_constants.raised constants_constants.is_none constants_constants.factor_at constants_constants.constant_of constants_constants.folded constants_constants.summed constants_constants.computed constants_constants.computed_second constants_constants.multiplied constants_constants.referred constants_constants.subscripted constants_constants.component_of constants_constants.component_by constants_constants.place_of constants_known.size_of_integer constants_known.size_of_value constants_known.size_of constants_known.bits_kind constants_known.text_kind constants_known.kind_of constants_known.kind_of_type constants_known.gives_none constants_known.give_none constants_known.only_of constants_known.only_with constants_known.kept constants_known.fitted constants_known.only_in constants_known.declared_value constants_known.round constants_known.is_file constants_known.is_pooled constants_known.rounds constants_naming.constant_known constants_naming.constant_at constants_naming.literal_constant constants_naming.operation_of constants_operands.takes_one constants_operands.takes_two constants_operands.is_storable constants_operands.has_components constants_results.worth constants_results.worse constants_results.apply_one constants_results.apply_two constants_results.component_at constants_results.component_to constants_results.component_from constants_results.picked_one constants_results.picked_to constants_results.picked_from states_ofkinds.is_of
process4 zero exists = record {
  body = _;
  found = refl;
  plain = refl;
  places = refl;
  block = λ unit. None;
  units = λ unit number b one named found block. absurd (cc);
  spot = λ place. 19;
  code = record { finish = 19; statements = (4, (5, (λ rec h st same. refl), (_, 4, (λ held. refl), refl, (λ held. (record { number = 0; view = _; cell = refl; row = refl; plain = record { dimensions = refl; target = refl; base = refl } }, (refl, refl))), refl)), (16, ((λ place. 15), 15, refl, (11, (9, (7, 7, (λ held. (record { number = 1; view = _; cell = refl; row = refl; plain = record { dimensions = refl; target = refl; base = refl } }, (refl, refl))), refl, (8, (refl, refl), refl, refl)), (λ held. (record { number = 1; view = _; cell = refl; row = refl; plain = record { dimensions = refl; target = refl; base = refl } }, (refl, refl)))), (15, (13, (λ held. (record { number = 1; view = _; cell = refl; row = refl; plain = record { dimensions = refl; target = refl; base = refl } }, (refl, refl))), (λ held. (record { number = 0; view = _; cell = refl; row = refl; plain = record { dimensions = refl; target = refl; base = refl } }, (refl, refl)))), refl)), (λ place none. refl), (refl, refl)), (17, (refl, refl), (18, (_, 17, (refl, refl), (refl, refl)), (19, (refl, refl), refl))))); leads_out = λ place none. refl; last = refl };
}
process4 (suc p) exists = absurd (none_more4 p exists)

pub all_say : Says1 × Says2 × Says3 × Says4
unfolding digits words_reserved.reserved_words words_reserved.left_out_words phrases_gathereddeclarations.gathered_kind phrases_gathereddeclarations.gathered_initial phrases_gathereddeclarations.gathered_initials phrases_gathereddeclarations.gathered_attribute phrases_gathereddeclarations.gathered_item phrases_gathereddeclarations.still_open phrases_gathereddeclarations.innermost phrases_gathereddeclarations.is_bottom phrases_gathereddeclarations.gathered_part phrases_gathereddeclarations.gathered_parts phrases_gathereddeclarations.gathered_declaration phrases_gatheredexpressions.gathered phrases_gatheredexpressions.gathered_all phrases_gatheredexpressions.gathered_terms phrases_gatheredexpressions.gathered_reference phrases_gatheredexpressions.gathered_subscript phrases_gatheredexpressions.gathered_subs phrases_gatheredexpressions.gathered_sub phrases_gatheredexpressions.gathered_position phrases_gatheredstatements.gathered_guard phrases_gatheredstatements.gathered_span phrases_gatheredstatements.gathered_start phrases_gatheredstatements.gathered_cycle phrases_gatheredstatements.gathered_limit phrases_gatheredstatements.gathered_schedule phrases_gatheredstatements.begun_for phrases_gatheredstatements.around_for phrases_gatheredstatements.gathered_statement phrases_gatheredstatements.gathered_basic phrases_gatheredstatements.gathered_alternative phrases_gatheredstatements.gathered_group phrases_gatheredstatements.gathered_statements phrases_gatheredunits.gathered_returns phrases_gatheredunits.gathered_head phrases_gatheredunits.gathered_block phrases_gatheredunits.gathered_elements phrases_gatheredunits.around_template phrases_gatheredunits.gathered_template phrases_gatheredunits.gathered_preface phrases_gatheredunits.gathered_prefaces phrases_gatheredunits.name_of_block phrases_gatheredunits.gathered_file phrases_gatheredunits.phrases_of phrases_members.gathered_member phrases_members.gathered_members names_declarations.is_declaring names_declarations.with_places names_declarations.with_all_chosen names_keys.declared_at names_keys.same_space names_keys.same_key names_keys.own names_means.is_compool_unit names_means.unit_named names_means.given_by names_means.shown names_means.shown_by names_means.included names_means.included_before names_means.prefaces_of names_means.nearest names_tasks.with_homes scope_builtins.builtins scope_components.has_path scope_components.is_structure scope_components.type_has scope_components.has_component scope_components.lacks_in scope_components.lacks scope_labels.is_label_of scope_labels.misclosed scope_labels.is_loop scope_labels.group_around scope_labels.misled scope_labels.astray scope_repeated.given scope_repeated.is_of_block scope_repeated.twice scope_repeated.declares_one_there scope_repeated.declarations_of scope_repeated.included_twice scope_repeated.is_item scope_repeated.undeclared scope_rules.fault scope_rules.first_fault scope_sorts.type_in scope_sorts.type_among scope_sorts.sort_of_type scope_sorts.sort_of_head scope_sorts.sort_of scope_sorts.usage_of scope_sorts.use_of_reference scope_sorts.used scope_uses.unknown scope_uses.is_eventful scope_uses.is_nil scope_uses.refers_to_event scope_uses.holds_event scope_uses.hold_event scope_uses.limit_of scope_uses.limit_around scope_uses.misused kinds_attributes.count_of kinds_attributes.no_more kinds_attributes.sizes_in kinds_attributes.sizes_among kinds_attributes.initial_in kinds_attributes.initial_among kinds_attributes.constant_in kinds_attributes.constant_among kinds_attributes.same_mark kinds_attributes.is_mark kinds_classes.class_of_result kinds_classes.class_of_returns kinds_classes.class_of_head kinds_classes.class_of_form kinds_classes.class_of_builtin kinds_classes.class_at kinds_classes.class_of_reference kinds_classes.class_of_function kinds_classes.class_of_called_head kinds_classes.class_of_called kinds_classes.class_of_literal kinds_classes.class_of_conversion kinds_classes.beside kinds_classes.joined kinds_classes.enclosed kinds_classes.class_of kinds_classes.class_beside kinds_classes.class_joined kinds_data.class_of_type kinds_data.has_copies kinds_data.dimensions_of kinds_data.data_of kinds_data.part_data kinds_data.part_under kinds_data.data_at_part kinds_data.component_of kinds_data.component_data kinds_data.data_at kinds_data.is_event_type kinds_data.is_structure_type kinds_subscripts.subscript_count kinds_subscripts.is_many kinds_subscripts.are_many kinds_subscripts.parts_chosen kinds_subscripts.choice_of kinds_subscripts.is_structure_class constants_constants.operation_of_sign constants_constants.signed constants_constants.operation_of_conversion constants_constants.raised_to constants_constants.raised constants_constants.is_none constants_constants.factor_at constants_constants.constant_of constants_constants.folded constants_constants.summed constants_constants.computed constants_constants.computed_second constants_constants.multiplied constants_constants.referred constants_constants.subscripted constants_constants.component_of constants_constants.component_by constants_constants.place_of constants_known.size_of_integer constants_known.size_of_value constants_known.size_of constants_known.bits_kind constants_known.text_kind constants_known.kind_of constants_known.kind_of_type constants_known.gives_none constants_known.give_none constants_known.only_of constants_known.only_with constants_known.kept constants_known.fitted constants_known.only_in constants_known.declared_value constants_known.round constants_known.is_file constants_known.is_pooled constants_known.rounds constants_naming.constant_known constants_naming.constant_at constants_naming.literal_constant constants_naming.operation_of constants_operands.takes_one constants_operands.takes_two constants_operands.is_storable constants_operands.has_components constants_results.worth constants_results.worse constants_results.apply_one constants_results.apply_two constants_results.component_at constants_results.component_to constants_results.component_from constants_results.picked_one constants_results.picked_to constants_results.picked_from states_ofkinds.is_of
all_say = ((record { tables = refl; forward = right_is_forward image1 refl; processes = process1 }), (record { tables = refl; forward = right_is_forward image2 refl; processes = process2 }), (record { tables = refl; forward = right_is_forward image3 refl; processes = process3 }), (record { tables = refl; forward = right_is_forward image4 refl; processes = process4 }))
