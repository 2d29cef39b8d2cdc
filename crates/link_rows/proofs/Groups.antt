-- Rows of groups.txt, written by tools/link_rows.
use Rattle.std.specs.Prelude.{◌≡◌, ℕ, List, [], ◌∷◌, Option, Some, None, true, false, codes}
use Rattle.std.specs.Fmt.{digits}
use Rattle.std.proofs.Common.{refl, inl, inr}
use Rattle.hal_grammar.specs.Leaves.{Plus, Minus, Equal, Less, Greater, AtMost, AtLeast, NotEqual, NotLess, NotGreater, ToInteger, ToBits, ToText, Integer, Text, Bits, True, False, On, Off}
use Rattle.hal_grammar.specs.Expressions.{Or, And, Compare, Cat, Sum, Product, Power, Not, Literal, Decimal, Referred, Called, Convert, Parenthesis, Refers, Unsubscripted, ByName, ByInteger, ByParts, Every, One, Range, Portion, FromBeginning, FromEnd}
use Rattle.hal_grammar.specs.Declarations.{Single, Double, Latched, Static, Automatic, Dense, Aligned, IntegerKind, BooleanKind, EventKind, BitKind, CharacterKind, StructureKind, Value, LiteralTimes, NameTimes, ListTimes, Dimensions, Typed, Marked, LockGroup, LockAny, InitialValues, ConstantValues, declared_of, part_of, Declare, Structure}
use Rattle.hal_grammar.specs.Statements.{While, Until, Stepped, Listed, EveryError, GroupErrors, OneError, Signal, Set, Reset, eventful, System, Ignore, StartAt, StartIn, StartOn, Cyclic, CyclicEvery, CyclicAfter, scheduling, Labelled, Null, Assignment, If, Do, DoCase, DoLoop, DoFor, Exit, Repeat, Return, Call, Read, Write, Update, Scheduled, Cancel, Terminate, Wait, WaitUntil, WaitForDependent, WaitFor, Event, UpdatePriority, OnErrorStatement, OnErrorResponse, OffError, SendError, NoAlternative, Otherwise, Groups}
use Rattle.hal_grammar.specs.Units.{Reentrant, Exclusive, SinglePrecision, DoublePrecision, NoKind, HasKind, Program, Compool, Task, Procedure, Function, BlockOf, template_of, Include, Templates, File, file_of}
use Rattle.std.specs.Prelude.{pos, negsuc, Result, Ok}
use Rattle.hal_base.specs.declared.refusal.Place as bases
use Rattle.hal_meaning.specs.Sets.{set_of}
use Rattle.hal_link.specs.Linking.{image_of}
use Rattle.meaning_rows.specs.Trees.{o, nm, es, ts, ss, is, st, el}
use Rattle.std.proofs.Common.{refl}
use Rattle.hal_values.specs.declared.value.Kind.TheVariants as kind
use Rattle.hal_values.specs.declared.value.Value.TheVariants as value
use Rattle.hal_values.specs.declared.tables.EventStart.TheVariants as begins
use Rattle.hal_values.specs.declared.tables.Item.TheVariants as item
use Rattle.hal_values.specs.declared.tables.ReportBase.TheVariants as named
use Rattle.hal_operations.specs.declared.operation.Op1.TheVariants as op1
use Rattle.hal_operations.specs.declared.operation.Op2.TheVariants as op2
use Rattle.hal_code.specs.declared.choice.Choice.TheVariants as choice
use Rattle.hal_code.specs.declared.image.ImageParts.{ImageParts}
use Rattle.hal_code.specs.declared.instr.Instr.TheVariants as instr
use Rattle.hal_code.specs.declared.operand.Time.TheVariants as time
use Rattle.hal_code.specs.declared.operand.Start.TheVariants as start
use Rattle.hal_code.specs.declared.operand.Round.TheVariants as round
use Rattle.hal_code.specs.declared.operand.Limit.TheVariants as limit
use Rattle.hal_code.specs.declared.operand.Delay.TheVariants as delay
use Rattle.hal_code.specs.declared.operand.Places.TheVariants as places
use Rattle.hal_code.specs.declared.operand.Response.TheVariants as response
use Rattle.hal_code.specs.declared.operand.EventChange.TheVariants as change
use Rattle.hal_code.specs.declared.row.Base.TheVariants as base
use Rattle.hal_code.specs.declared.row.OwnPlace.TheVariants as place
use Rattle.hal_code.specs.declared.row.ResultKind.TheVariants as result
use Rattle.hal_code.specs.declared.row.Target.TheVariants as target
use Rattle.hal_words.specs.Reserved as words_reserved
use Rattle.hal_phrases.specs.GatheredDeclarations as phrases_gathereddeclarations
use Rattle.hal_phrases.specs.GatheredExpressions as phrases_gatheredexpressions
use Rattle.hal_phrases.specs.GatheredStatements as phrases_gatheredstatements
use Rattle.hal_phrases.specs.GatheredUnits as phrases_gatheredunits
use Rattle.hal_phrases.specs.Members as phrases_members
use Rattle.hal_names.specs.Declarations as names_declarations
use Rattle.hal_names.specs.Keys as names_keys
use Rattle.hal_names.specs.Means as names_means
use Rattle.hal_names.specs.Tasks as names_tasks
use Rattle.hal_scope.specs.Builtins as scope_builtins
use Rattle.hal_scope.specs.Components as scope_components
use Rattle.hal_scope.specs.Labels as scope_labels
use Rattle.hal_scope.specs.Repeated as scope_repeated
use Rattle.hal_scope.specs.Rules as scope_rules
use Rattle.hal_scope.specs.Sorts as scope_sorts
use Rattle.hal_scope.specs.Uses as scope_uses
use Rattle.hal_kinds.specs.Attributes as kinds_attributes
use Rattle.hal_kinds.specs.Classes as kinds_classes
use Rattle.hal_kinds.specs.Data as kinds_data
use Rattle.hal_kinds.specs.Subscripts as kinds_subscripts
use Rattle.hal_constants.specs.Constants as constants_constants
use Rattle.hal_constants.specs.Known as constants_known
use Rattle.hal_constants.specs.Naming as constants_naming
use Rattle.hal_constants.specs.Operands as constants_operands
use Rattle.hal_constants.specs.Results as constants_results
use Rattle.hal_states.specs.OfKinds as states_ofkinds
use Rattle.hal_reach.specs.Calls as reach_calls
use Rattle.hal_reach.specs.Marks as reach_marks
use Rattle.hal_reach.specs.Places as reach_places
use Rattle.hal_runs.specs.Joined as runs_joined
use Rattle.hal_link.specs.CalledViews as link_calledviews
use Rattle.hal_link.specs.Linking as link_linking
use Rattle.hal_link.specs.Members as link_members
use Rattle.hal_link.specs.Outlines as link_outlines
use Rattle.hal_link.specs.SeenLinking as link_seenlinking
use Rattle.hal_link.specs.SeenOutlines as link_seenoutlines
use Rattle.hal_link.specs.Shapes as link_shapes
use Rattle.hal_link.specs.UnitCode as link_unitcode
use Rattle.hal_link.specs.Views as link_views

-- DO CASE with ELSE: the group's first place keeps the number
abbrev row1 : List File
row1 = ((file_of ([]) (BlockOf (nm (codes "P")) (Program o) ((Declare o ([]) ((declared_of (nm (codes "N")) ((Typed (IntegerKind o)) ∷ (InitialValues o (is ((Value (Literal o (Integer 2))) ∷ []))) ∷ [])) ∷ [])) ∷ []) (el ((inr (Labelled ([]) (DoCase o (Referred (Refers o (codes "N") ([]) Unsubscripted)) (Otherwise (Labelled ([]) (Assignment o ((Refers o (codes "N") ([]) Unsubscripted) ∷ []) (Literal o (Integer 5))))) (Groups (st ((Labelled ([]) (Write o (Literal o (Integer 6)) (es ((Literal o (Integer 1)) ∷ [])))) ∷ (Labelled ([]) (Assignment o ((Refers o (codes "N") ([]) Unsubscripted) ∷ []) (Literal o (Integer 3)))) ∷ [])) None)))) ∷ [])) (Some (nm (codes "P"))))) ∷ [])

abbrev image1 : ImageParts
image1 = record { cells = []; events = []; common = []; processes = ((record { name = codes "P"; block = 0; places = ((record { repeat = 1; row = (place.Data kind.Single (value.Int (pos 2))) }) ∷ (record { repeat = 4; row = (place.Data kind.Double (value.Int (pos 0))) }) ∷ []) }) ∷ []); shapes = []; views = ((record { base = (base.Own 1); dimensions = []; target = (target.Cell kind.Double) }) ∷ (record { base = (base.Own 0); dimensions = []; target = (target.Cell kind.Single) }) ∷ []); expressions = []; blocks = ((record { process = 0; first = 0; end = 27; result = (choice.Known result.Nothing) }) ∷ []); names = ((record { name = codes "P.N"; base = named.Own 0; first = 0; copies = 0; stride = 1; dimensions = [] }) ∷ []); code = ((instr.Begin) ∷ (instr.Cell 1) ∷ (instr.Fetch) ∷ (instr.Cell 0) ∷ (instr.Keep) ∷ (instr.Cell 0) ∷ (instr.Fetch) ∷ (instr.Int (pos 1)) ∷ (instr.Op2 (choice.Known op2.Equal)) ∷ (instr.JumpNot 14) ∷ (instr.Int (pos 1)) ∷ (instr.Item) ∷ (instr.Print 6) ∷ (instr.Jump 26) ∷ (instr.Cell 0) ∷ (instr.Fetch) ∷ (instr.Int (pos 2)) ∷ (instr.Op2 (choice.Known op2.Equal)) ∷ (instr.JumpNot 23) ∷ (instr.Int (pos 3)) ∷ (instr.Cell 1) ∷ (instr.Keep) ∷ (instr.Jump 26) ∷ (instr.Int (pos 5)) ∷ (instr.Cell 1) ∷ (instr.Keep) ∷ (instr.Finish) ∷ []); first = 0 }

abbrev Says1 : Type 0
Says1 = image_of (set_of 400 row1) image1.views ≡ Ok image1

-- DO FOR with TO and BY: its end, step and value are kept, and a value past the end by the sign of the step ends it
abbrev row2 : List File
row2 = ((file_of ([]) (BlockOf (nm (codes "P")) (Program o) ((Declare o ([]) ((declared_of (nm (codes "N")) ((Typed (IntegerKind o)) ∷ [])) ∷ [])) ∷ []) (el ((inr (Labelled ([]) (DoFor o false (nm (codes "N")) (Stepped (Literal o (Integer 5)) (Literal o (Integer 1)) (Some (Sum o (Some Minus) (Literal o (Integer 2)) (ts ([]))))) None (Groups (st ((Labelled ([]) (Write o (Literal o (Integer 6)) (es ((Referred (Refers o (codes "N") ([]) Unsubscripted)) ∷ [])))) ∷ [])) None)))) ∷ [])) (Some (nm (codes "P"))))) ∷ [])

abbrev image2 : ImageParts
image2 = record { cells = []; events = []; common = []; processes = ((record { name = codes "P"; block = 0; places = ((record { repeat = 1; row = (place.Data kind.Single (value.Int (pos 0))) }) ∷ (record { repeat = 4; row = (place.Data kind.Double (value.Int (pos 0))) }) ∷ []) }) ∷ []); shapes = []; views = ((record { base = (base.Own 0); dimensions = []; target = (target.Cell kind.Single) }) ∷ (record { base = (base.Own 1); dimensions = []; target = (target.Cell kind.Double) }) ∷ (record { base = (base.Own 2); dimensions = []; target = (target.Cell kind.Double) }) ∷ (record { base = (base.Own 3); dimensions = []; target = (target.Cell kind.Double) }) ∷ (record { base = (base.Own 4); dimensions = []; target = (target.Cell kind.Double) }) ∷ []); expressions = []; blocks = ((record { process = 0; first = 0; end = 62; result = (choice.Known result.Nothing) }) ∷ []); names = ((record { name = codes "P.N"; base = named.Own 0; first = 0; copies = 0; stride = 1; dimensions = [] }) ∷ []); code = ((instr.Begin) ∷ (instr.Int (pos 5)) ∷ (instr.Int (pos 1)) ∷ (instr.Int (pos 2)) ∷ (instr.Op1 (choice.Known op1.Minus)) ∷ (instr.Cell 2) ∷ (instr.Keep) ∷ (instr.Cell 1) ∷ (instr.Keep) ∷ (instr.Cell 3) ∷ (instr.Keep) ∷ (instr.Cell 3) ∷ (instr.Fetch) ∷ (instr.Cell 0) ∷ (instr.Keep) ∷ (instr.Cell 2) ∷ (instr.Fetch) ∷ (instr.Int (pos 0)) ∷ (instr.Op2 (choice.Known op2.Less)) ∷ (instr.JumpNot 27) ∷ (instr.Cell 3) ∷ (instr.Fetch) ∷ (instr.Cell 1) ∷ (instr.Fetch) ∷ (instr.Op2 (choice.Known op2.Less)) ∷ (instr.JumpNot 34) ∷ (instr.Jump 61) ∷ (instr.Cell 1) ∷ (instr.Fetch) ∷ (instr.Cell 3) ∷ (instr.Fetch) ∷ (instr.Op2 (choice.Known op2.Less)) ∷ (instr.JumpNot 34) ∷ (instr.Jump 61) ∷ (instr.Turn 61) ∷ (instr.Cell 0) ∷ (instr.Fetch) ∷ (instr.Item) ∷ (instr.Print 6) ∷ (instr.Cell 0) ∷ (instr.Fetch) ∷ (instr.Cell 2) ∷ (instr.Fetch) ∷ (instr.Cell 1) ∷ (instr.Fetch) ∷ (instr.Next) ∷ (instr.Op1 (choice.Known op1.Integer)) ∷ (instr.Cell 4) ∷ (instr.Keep) ∷ (instr.Cell 3) ∷ (instr.Keep) ∷ (instr.Cell 4) ∷ (instr.Fetch) ∷ (instr.Int (pos 1)) ∷ (instr.Op2 (choice.Known op2.Equal)) ∷ (instr.JumpNot 61) ∷ (instr.Cell 3) ∷ (instr.Fetch) ∷ (instr.Cell 0) ∷ (instr.Keep) ∷ (instr.Jump 34) ∷ (instr.Finish) ∷ []); first = 0 }

abbrev Says2 : Type 0
Says2 = image_of (set_of 400 row2) image2.views ≡ Ok image2

-- DO FOR with a list and WHILE: a place counts the values that were stored
abbrev row3 : List File
row3 = ((file_of ([]) (BlockOf (nm (codes "P")) (Program o) ((Declare o ([]) ((declared_of (nm (codes "N")) ((Typed (IntegerKind o)) ∷ [])) ∷ [])) ∷ []) (el ((inr (Labelled ([]) (DoFor o false (nm (codes "N")) (Listed (es ((Literal o (Integer 4)) ∷ (Literal o (Integer 7)) ∷ []))) (Some (While o (Compare o (Referred (Refers o (codes "N") ([]) Unsubscripted)) Less (Literal o (Integer 6))))) (Groups (st ((Labelled ([]) (Write o (Literal o (Integer 6)) (es ((Referred (Refers o (codes "N") ([]) Unsubscripted)) ∷ [])))) ∷ [])) None)))) ∷ [])) (Some (nm (codes "P"))))) ∷ [])

abbrev image3 : ImageParts
image3 = record { cells = []; events = []; common = []; processes = ((record { name = codes "P"; block = 0; places = ((record { repeat = 1; row = (place.Data kind.Single (value.Int (pos 0))) }) ∷ (record { repeat = 4; row = (place.Data kind.Double (value.Int (pos 0))) }) ∷ []) }) ∷ []); shapes = []; views = ((record { base = (base.Own 0); dimensions = []; target = (target.Cell kind.Single) }) ∷ (record { base = (base.Own 1); dimensions = []; target = (target.Cell kind.Double) }) ∷ (record { base = (base.Own 2); dimensions = []; target = (target.Cell kind.Double) }) ∷ (record { base = (base.Own 3); dimensions = []; target = (target.Cell kind.Double) }) ∷ (record { base = (base.Own 4); dimensions = []; target = (target.Cell kind.Double) }) ∷ []); expressions = []; blocks = ((record { process = 0; first = 0; end = 37; result = (choice.Known result.Nothing) }) ∷ []); names = ((record { name = codes "P.N"; base = named.Own 0; first = 0; copies = 0; stride = 1; dimensions = [] }) ∷ []); code = ((instr.Begin) ∷ (instr.Int (pos 4)) ∷ (instr.Cell 0) ∷ (instr.Keep) ∷ (instr.Int (pos 1)) ∷ (instr.Cell 1) ∷ (instr.Keep) ∷ (instr.Cell 0) ∷ (instr.Fetch) ∷ (instr.Int (pos 6)) ∷ (instr.Op2 (choice.Known op2.Less)) ∷ (instr.JumpNot 36) ∷ (instr.Turn 36) ∷ (instr.Cell 0) ∷ (instr.Fetch) ∷ (instr.Item) ∷ (instr.Print 6) ∷ (instr.Cell 1) ∷ (instr.Fetch) ∷ (instr.Int (pos 1)) ∷ (instr.Op2 (choice.Known op2.Equal)) ∷ (instr.JumpNot 29) ∷ (instr.Int (pos 7)) ∷ (instr.Cell 0) ∷ (instr.Keep) ∷ (instr.Int (pos 2)) ∷ (instr.Cell 1) ∷ (instr.Keep) ∷ (instr.Jump 30) ∷ (instr.Jump 36) ∷ (instr.Cell 0) ∷ (instr.Fetch) ∷ (instr.Int (pos 6)) ∷ (instr.Op2 (choice.Known op2.Less)) ∷ (instr.JumpNot 36) ∷ (instr.Jump 12) ∷ (instr.Finish) ∷ []); first = 0 }

abbrev Says3 : Type 0
Says3 = image_of (set_of 400 row3) image3.views ≡ Ok image3

pub all_say : Says1 × Says2 × Says3
unfolding digits words_reserved.reserved_words words_reserved.left_out_words phrases_gathereddeclarations.gathered_kind phrases_gathereddeclarations.gathered_initial phrases_gathereddeclarations.gathered_initials phrases_gathereddeclarations.gathered_attribute phrases_gathereddeclarations.gathered_item phrases_gathereddeclarations.still_open phrases_gathereddeclarations.innermost phrases_gathereddeclarations.is_bottom phrases_gathereddeclarations.gathered_part phrases_gathereddeclarations.gathered_parts phrases_gathereddeclarations.gathered_declaration phrases_gatheredexpressions.gathered phrases_gatheredexpressions.gathered_all phrases_gatheredexpressions.gathered_terms phrases_gatheredexpressions.gathered_reference phrases_gatheredexpressions.gathered_subscript phrases_gatheredexpressions.gathered_subs phrases_gatheredexpressions.gathered_sub phrases_gatheredexpressions.gathered_position phrases_gatheredstatements.gathered_guard phrases_gatheredstatements.gathered_span phrases_gatheredstatements.gathered_start phrases_gatheredstatements.gathered_cycle phrases_gatheredstatements.gathered_limit phrases_gatheredstatements.gathered_schedule phrases_gatheredstatements.begun_for phrases_gatheredstatements.around_for phrases_gatheredstatements.gathered_statement phrases_gatheredstatements.gathered_basic phrases_gatheredstatements.gathered_alternative phrases_gatheredstatements.gathered_group phrases_gatheredstatements.gathered_statements phrases_gatheredunits.gathered_returns phrases_gatheredunits.gathered_head phrases_gatheredunits.gathered_block phrases_gatheredunits.gathered_elements phrases_gatheredunits.around_template phrases_gatheredunits.gathered_template phrases_gatheredunits.gathered_preface phrases_gatheredunits.gathered_prefaces phrases_gatheredunits.name_of_block phrases_gatheredunits.gathered_file phrases_gatheredunits.phrases_of phrases_members.gathered_member phrases_members.gathered_members names_declarations.is_declaring names_declarations.with_places names_declarations.with_all_chosen names_keys.declared_at names_keys.same_space names_keys.same_key names_keys.own names_means.is_compool_unit names_means.unit_named names_means.given_by names_means.shown names_means.shown_by names_means.included names_means.included_before names_means.prefaces_of names_means.nearest names_tasks.with_homes scope_builtins.builtins scope_components.has_path scope_components.is_structure scope_components.type_has scope_components.has_component scope_components.lacks_in scope_components.lacks scope_labels.is_label_of scope_labels.misclosed scope_labels.is_loop scope_labels.group_around scope_labels.misled scope_labels.astray scope_repeated.given scope_repeated.is_of_block scope_repeated.twice scope_repeated.declares_one_there scope_repeated.declarations_of scope_repeated.included_twice scope_repeated.is_item scope_repeated.undeclared scope_rules.fault scope_rules.first_fault scope_sorts.type_in scope_sorts.type_among scope_sorts.sort_of_type scope_sorts.sort_of_head scope_sorts.sort_of scope_sorts.usage_of scope_sorts.use_of_reference scope_sorts.used scope_uses.unknown scope_uses.is_eventful scope_uses.is_nil scope_uses.refers_to_event scope_uses.holds_event scope_uses.hold_event scope_uses.limit_of scope_uses.limit_around scope_uses.misused kinds_attributes.count_of kinds_attributes.no_more kinds_attributes.sizes_in kinds_attributes.sizes_among kinds_attributes.initial_in kinds_attributes.initial_among kinds_attributes.constant_in kinds_attributes.constant_among kinds_attributes.same_mark kinds_attributes.is_mark kinds_classes.class_of_result kinds_classes.class_of_returns kinds_classes.class_of_head kinds_classes.class_of_form kinds_classes.class_of_builtin kinds_classes.class_at kinds_classes.class_of_reference kinds_classes.class_of_function kinds_classes.class_of_called_head kinds_classes.class_of_called kinds_classes.class_of_literal kinds_classes.class_of_conversion kinds_classes.beside kinds_classes.joined kinds_classes.enclosed kinds_classes.class_of kinds_classes.class_beside kinds_classes.class_joined kinds_data.class_of_type kinds_data.has_copies kinds_data.dimensions_of kinds_data.data_of kinds_data.part_data kinds_data.part_under kinds_data.data_at_part kinds_data.component_of kinds_data.component_data kinds_data.data_at kinds_data.is_event_type kinds_data.is_structure_type kinds_subscripts.subscript_count kinds_subscripts.is_many kinds_subscripts.are_many kinds_subscripts.parts_chosen kinds_subscripts.choice_of kinds_subscripts.is_structure_class constants_constants.operation_of_sign constants_constants.signed constants_constants.operation_of_conversion constants_constants.raised_to constants_constants.raised constants_constants.is_none constants_constants.factor_at constants_constants.constant_of constants_constants.folded constants_constants.summed constants_constants.computed constants_constants.computed_second constants_constants.multiplied constants_constants.referred constants_constants.subscripted constants_constants.component_of constants_constants.component_by constants_constants.place_of constants_known.size_of_integer constants_known.size_of_value constants_known.size_of constants_known.bits_kind constants_known.text_kind constants_known.kind_of constants_known.kind_of_type constants_known.gives_none constants_known.give_none constants_known.only_of constants_known.only_with constants_known.kept constants_known.fitted constants_known.only_in constants_known.declared_value constants_known.round constants_known.is_file constants_known.is_pooled constants_known.rounds constants_naming.constant_known constants_naming.constant_at constants_naming.literal_constant constants_naming.operation_of constants_operands.takes_one constants_operands.takes_two constants_operands.is_storable constants_operands.has_components constants_results.worth constants_results.worse constants_results.apply_one constants_results.apply_two constants_results.component_at constants_results.component_to constants_results.component_from constants_results.picked_one constants_results.picked_to constants_results.picked_from states_ofkinds.is_of reach_calls.units_of reach_calls.reaching reach_calls.callers_of reach_calls.reached_of reach_calls.recursive reach_marks.rounds reach_marks.numbers_marked reach_marks.processes_marked reach_marks.rows reach_marks.counts reach_marks.calls_itself reach_marks.recursive_among reach_marks.recursive reach_places.place_among runs_joined.with_some runs_joined.with_runs runs_joined.with_rows link_calledviews.with_parameters link_calledviews.with_all_called link_calledviews.with_outlines link_linking.with_units link_linking.with_outlines link_members.members_code link_members.with_members link_outlines.called_from link_outlines.outlines_from link_seenlinking.rows_from link_seenlinking.rows_if link_seenoutlines.ranks_with link_shapes.with_outputs link_shapes.with_inputs link_shapes.with_bodies link_unitcode.clears_behind link_views.with_arguments link_views.with_spots link_views.with_phrases link_views.with_processes
all_say = (refl, refl, refl)
