-- The files of the worked units break no rule of types: computed phrase by phrase.
use Rattle.std.proofs.Common.{◌≡◌, ◌∷◌, [], None, refl}
use Rattle.hal_phrases.specs.GatheredDeclarations.{gathered_kind, gathered_initial, gathered_initials, gathered_attribute, gathered_item, gathered_declaration}
use Rattle.hal_phrases.specs.GatheredExpressions.{gathered, gathered_all, gathered_terms, gathered_reference, gathered_subscript}
use Rattle.hal_phrases.specs.GatheredStatements.{gathered_guard, gathered_statement, gathered_basic, gathered_alternative, gathered_group, gathered_statements}
use Rattle.hal_phrases.specs.GatheredUnits.{gathered_head, gathered_block, gathered_elements, gathered_prefaces, name_of_block, gathered_file, phrases_of}
use Rattle.hal_names.specs.Keys.{declared_at, same_space, same_key, own}
use Rattle.hal_names.specs.Means.{is_compool_unit, unit_named, given_by, shown, shown_by, included, included_before, prefaces_of, nearest}
use Rattle.hal_scope.specs.Builtins.{builtins}
use Rattle.hal_scope.specs.Sorts.{type_in, type_among, sort_of_type, sort_of_head}
use Rattle.hal_scope.specs.Uses.{is_eventful, is_nil, refers_to_event, holds_event, hold_event, limit_of, limit_around}
use Rattle.hal_scope.specs.Rules.{IsSound, fault, first_fault}
use Rattle.hal_scope.proofs.Broken.{sound}
use Rattle.hal_kinds.specs.Attributes.{count_of, no_more, sizes_in, sizes_among, initial_in, initial_among, constant_in, constant_among, same_mark, is_mark}
use Rattle.hal_kinds.specs.Data.{class_of_type, has_copies, dimensions_of, data_of, part_data, part_under, data_at_part, component_of, component_data, data_at, is_event_type, is_structure_type}
use Rattle.hal_kinds.specs.Subscripts.{subscript_count, is_many, are_many, parts_chosen, choice_of, is_structure_class}
use Rattle.hal_kinds.specs.Classes.{class_of_result, class_of_returns, class_of_head, class_of_form, class_of_builtin, class_at, class_of_reference, class_of_function, class_of_called_head, class_of_called, class_of_literal, class_of_conversion, beside, joined, enclosed, class_of, class_beside, class_joined}
use Rattle.hal_attributes.specs.Features.{place_of_kind, place_of_attribute, feature_of_kind, feature_of_mark, feature_of, sort_of, excludes}
use Rattle.hal_attributes.specs.Clashes.{clash_behind, clash_among, place_of_precision, clash_of_precision, clash_of_returns, clash_of_head, clashing}
use Rattle.hal_attributes.specs.Levels.{may_follow, level_fault, misleveled, is_of_bottom, first_of_bottom, is_parent, parent_fault, overtyped}
use Rattle.hal_attributes.specs.Typed.{is_untyped, untyped_head, untyped, is_template, named_as_template, nested, misplaced_event, is_no_result, gives_no_value, no_result_head, no_result}
use Rattle.hal_attributes.specs.Storage.{is_entered_head, is_entered, misstored}
use Rattle.hal_operands.specs.Wants.{wanted, misfit_of_value, misfit_of_condition, misfit_of_whole, misfit, misfit_of_receiver, receiver_misfit, unfit}
use Rattle.hal_operands.specs.Pairs.{is_equality, compared_fault, is_value, joined_fault, is_comparison, is_bits, mixed_behind, mixed_before, pair_fault, is_eventual, mismatched}
use Rattle.hal_operands.specs.Taken.{takes, all_take, assigned_taken, head_takes, returned_taken, is_taken, untaken}
use Rattle.hal_operands.specs.Times.{is_whole_time, is_timely, untimely, misfit_of_time, is_unsubscripted, is_plain, is_event_operand, is_event_part, timed, mistimed}
use Rattle.hal_uses.specs.Forms.{is_integer_value, is_integer_literal, is_exponent, no_exponent, is_function_head, is_function, misreturned, selector_fault, no_error}
use Rattle.hal_uses.specs.Real.{is_unlatched, is_kept, unlatched, is_process, no_process}
use Rattle.hal_uses.specs.Receivers.{is_input, may_receive, is_component, put_fault, put, is_integer, counted_fault, variable_fault, reference_receives, misreceived}
use Rattle.hal_uses.specs.Subscripts.{is_string, is_eventful_head, head_fault, is_event_name, data_fault, fault_at, reference_fault, missubscripted}
use Rattle.hal_uses.specs.Calls.{signature_of, second_fault, listed_fault, has_copies_of, is_copied, misfit_of_size, sized, size_fault, formed_fault, is_condition, condition_fault, product_fault, is_base, declared_fault, called_head_fault, called_fault, lacks_arguments_head, lacks_arguments, is_operand_role, alone_fault, miscalled}
use Rattle.hal_constants.specs.Operands.{takes_one, takes_two, is_storable, has_components}
use Rattle.hal_constants.specs.Results.{worth, worse, apply_one, apply_two, component_at, component_to, component_from, picked_one, picked_to, picked_from}
use Rattle.hal_constants.specs.Naming.{constant_known, constant_at, literal_constant, operation_of}
use Rattle.hal_constants.specs.Constants.{operation_of_sign, signed, operation_of_conversion, raised_to, raised, is_none, factor_at, constant_of, folded, summed, computed, computed_second, multiplied, referred, subscripted, component_of as component_of_in_constants, component_by, place_of}
use Rattle.hal_constants.specs.Known.{size_of_integer, size_of_value, size_of, bits_kind, text_kind, kind_of, kind_of_type, gives_none, give_none, only_of, only_with, kept, fitted, only_in, declared_value, round, is_pooled, is_file, rounds}
use Rattle.hal_sizes.specs.Constancy.{unsettled, missized_value, missized, is_channel, mischannelled_value, mischannelled, inconstant_as, inconstant_initial, inconstant, misdimensioned_by, misdimensioned_among, misdimensioned}
use Rattle.hal_sizes.specs.Sizes.{first_size, behind, known_extent, extent_of, copies_by, copies_in, copies_of}
use Rattle.hal_sizes.specs.Parts.{parts_of, bottoms}
use Rattle.hal_sizes.specs.Cells.{cells_with, cells_of_copies, cells_of_kind}
use Rattle.hal_initials.specs.Repetition.{count_of as count_of_in_repetition, count_with}
use Rattle.hal_initials.specs.Suiting.{fails, overflows, single_fault, initial_fault, initials_fault, missigned_class, missigned_initial}
use Rattle.hal_initials.specs.Falling.{repeated, known_places, laid, class_of_kind, fault_from, again, fallen, fallen_all, filled}
use Rattle.hal_initials.specs.Initials.{miscounted, spread, misvalued, misinitialed, missigned}
use Rattle.hal_shapes.specs.Reaches.{unreached, between_places, between_values, reach_to, starting_places, starting_values, reach_from, position_in, reach_of, place_of_position, place_of_sub}
use Rattle.hal_shapes.specs.Spans.{span_by, first_span, later_subs, leave, array_subs}
use Rattle.hal_shapes.specs.Paths.{found, reached}
use Rattle.hal_shapes.specs.Selections.{declared_for, structure_in, kind_at, extent_at, copies_at, copy_subs, copies_by as copies_by_in_selections, copies_left, reference_in}
use Rattle.hal_shapes.specs.Ranges.{is_outside, first_range, reference_ranges, misranged}
use Rattle.hal_shapes.specs.Shapes.{same_kind, may_equal, may_match, same_parts, may_count, is_lone, chooses, fits_array, same_structures, is_one_copy, matches_any, structure_at, fits_structure, fits_single, is_excused, is_whole_array, is_whole_structure, array_argument, structure_argument}
use Rattle.hal_shapes.specs.Arguments.{input_fits, kind_of_reference, output_fits, parameter_of, inputs_fit, outputs_fit, form_fits, call_fits, head_of, misshaped}
use Rattle.hal_types.specs.Rules.{attribute_rows, operand_rows, use_rows, size_rows, type_rows}
use Rattle.worked_rows.specs.Files.{hello_file, count_file}

untyped_none-hello : first_fault type_rows (phrases_of (hello_file ∷ [])) (phrases_of (hello_file ∷ [])) ≡ None
unfolding gathered_kind gathered_initial gathered_initials gathered_attribute gathered_item gathered_declaration gathered gathered_all gathered_terms gathered_reference gathered_subscript gathered_guard gathered_statement gathered_basic gathered_alternative gathered_group gathered_statements gathered_head gathered_block gathered_elements gathered_prefaces name_of_block gathered_file phrases_of declared_at same_space same_key own is_compool_unit unit_named given_by shown shown_by included included_before prefaces_of nearest builtins type_in type_among sort_of_type sort_of_head is_eventful is_nil refers_to_event holds_event hold_event limit_of limit_around fault first_fault count_of no_more sizes_in sizes_among initial_in initial_among constant_in constant_among same_mark is_mark class_of_type has_copies dimensions_of data_of part_data part_under data_at_part component_of component_data data_at is_event_type subscript_count is_many are_many parts_chosen choice_of is_structure_class class_of_result class_of_returns class_of_head class_of_form class_of_builtin class_at class_of_reference class_of_function class_of_called_head class_of_called class_of_literal class_of_conversion beside joined enclosed class_of class_beside class_joined place_of_kind place_of_attribute feature_of_kind feature_of_mark feature_of sort_of excludes clash_behind clash_among place_of_precision clash_of_precision clash_of_returns clash_of_head clashing may_follow level_fault misleveled is_of_bottom first_of_bottom is_parent parent_fault overtyped is_untyped untyped_head untyped is_template named_as_template is_structure_type nested misplaced_event is_no_result gives_no_value no_result_head no_result is_entered_head is_entered misstored wanted misfit_of_value misfit_of_condition misfit_of_whole misfit misfit_of_receiver receiver_misfit unfit is_equality compared_fault is_value joined_fault is_comparison is_bits mixed_behind mixed_before pair_fault is_eventual mismatched takes all_take assigned_taken head_takes returned_taken is_taken untaken is_whole_time is_timely untimely misfit_of_time is_unsubscripted is_plain is_event_operand is_event_part timed mistimed is_integer_value is_integer_literal is_exponent no_exponent is_function_head is_function misreturned selector_fault no_error is_unlatched is_kept unlatched is_process no_process is_input may_receive is_component put_fault put is_integer counted_fault variable_fault reference_receives misreceived is_string is_eventful_head head_fault is_event_name data_fault fault_at reference_fault missubscripted signature_of second_fault listed_fault has_copies_of is_copied misfit_of_size sized size_fault formed_fault is_condition condition_fault product_fault is_base declared_fault called_head_fault called_fault lacks_arguments_head lacks_arguments is_operand_role alone_fault miscalled takes_one takes_two is_storable has_components worth worse apply_one apply_two component_at component_to component_from picked_one picked_to picked_from constant_known constant_at literal_constant operation_of operation_of_sign signed operation_of_conversion raised_to raised is_none factor_at constant_of folded summed computed computed_second multiplied referred subscripted component_of_in_constants component_by place_of size_of_integer size_of_value size_of bits_kind text_kind kind_of kind_of_type gives_none give_none only_of only_with kept fitted only_in declared_value round is_pooled is_file rounds unsettled missized_value missized is_channel mischannelled_value mischannelled inconstant_as inconstant_initial inconstant misdimensioned_by misdimensioned_among misdimensioned first_size behind known_extent extent_of copies_by copies_in copies_of parts_of bottoms cells_with cells_of_copies cells_of_kind count_of_in_repetition count_with fails overflows single_fault initial_fault initials_fault missigned_class missigned_initial repeated known_places laid class_of_kind fault_from again fallen fallen_all filled miscounted spread misvalued misinitialed missigned unreached between_places between_values reach_to starting_places starting_values reach_from position_in reach_of place_of_position place_of_sub span_by first_span later_subs leave array_subs found reached declared_for structure_in kind_at extent_at copies_at copy_subs copies_by_in_selections copies_left reference_in is_outside first_range reference_ranges misranged same_kind may_equal may_match same_parts may_count is_lone chooses fits_array same_structures is_one_copy matches_any structure_at fits_structure fits_single is_excused is_whole_array is_whole_structure array_argument structure_argument input_fits kind_of_reference output_fits parameter_of inputs_fit outputs_fit form_fits call_fits head_of misshaped attribute_rows operand_rows use_rows size_rows type_rows
untyped_none-hello = refl

pub typed-hello : IsSound type_rows (phrases_of (hello_file ∷ []))
typed-hello = sound type_rows (phrases_of (hello_file ∷ [])) untyped_none-hello

untyped_none-count : first_fault type_rows (phrases_of (count_file ∷ [])) (phrases_of (count_file ∷ [])) ≡ None
unfolding gathered_kind gathered_initial gathered_initials gathered_attribute gathered_item gathered_declaration gathered gathered_all gathered_terms gathered_reference gathered_subscript gathered_guard gathered_statement gathered_basic gathered_alternative gathered_group gathered_statements gathered_head gathered_block gathered_elements gathered_prefaces name_of_block gathered_file phrases_of declared_at same_space same_key own is_compool_unit unit_named given_by shown shown_by included included_before prefaces_of nearest builtins type_in type_among sort_of_type sort_of_head is_eventful is_nil refers_to_event holds_event hold_event limit_of limit_around fault first_fault count_of no_more sizes_in sizes_among initial_in initial_among constant_in constant_among same_mark is_mark class_of_type has_copies dimensions_of data_of part_data part_under data_at_part component_of component_data data_at is_event_type subscript_count is_many are_many parts_chosen choice_of is_structure_class class_of_result class_of_returns class_of_head class_of_form class_of_builtin class_at class_of_reference class_of_function class_of_called_head class_of_called class_of_literal class_of_conversion beside joined enclosed class_of class_beside class_joined place_of_kind place_of_attribute feature_of_kind feature_of_mark feature_of sort_of excludes clash_behind clash_among place_of_precision clash_of_precision clash_of_returns clash_of_head clashing may_follow level_fault misleveled is_of_bottom first_of_bottom is_parent parent_fault overtyped is_untyped untyped_head untyped is_template named_as_template is_structure_type nested misplaced_event is_no_result gives_no_value no_result_head no_result is_entered_head is_entered misstored wanted misfit_of_value misfit_of_condition misfit_of_whole misfit misfit_of_receiver receiver_misfit unfit is_equality compared_fault is_value joined_fault is_comparison is_bits mixed_behind mixed_before pair_fault is_eventual mismatched takes all_take assigned_taken head_takes returned_taken is_taken untaken is_whole_time is_timely untimely misfit_of_time is_unsubscripted is_plain is_event_operand is_event_part timed mistimed is_integer_value is_integer_literal is_exponent no_exponent is_function_head is_function misreturned selector_fault no_error is_unlatched is_kept unlatched is_process no_process is_input may_receive is_component put_fault put is_integer counted_fault variable_fault reference_receives misreceived is_string is_eventful_head head_fault is_event_name data_fault fault_at reference_fault missubscripted signature_of second_fault listed_fault has_copies_of is_copied misfit_of_size sized size_fault formed_fault is_condition condition_fault product_fault is_base declared_fault called_head_fault called_fault lacks_arguments_head lacks_arguments is_operand_role alone_fault miscalled takes_one takes_two is_storable has_components worth worse apply_one apply_two component_at component_to component_from picked_one picked_to picked_from constant_known constant_at literal_constant operation_of operation_of_sign signed operation_of_conversion raised_to raised is_none factor_at constant_of folded summed computed computed_second multiplied referred subscripted component_of_in_constants component_by place_of size_of_integer size_of_value size_of bits_kind text_kind kind_of kind_of_type gives_none give_none only_of only_with kept fitted only_in declared_value round is_pooled is_file rounds unsettled missized_value missized is_channel mischannelled_value mischannelled inconstant_as inconstant_initial inconstant misdimensioned_by misdimensioned_among misdimensioned first_size behind known_extent extent_of copies_by copies_in copies_of parts_of bottoms cells_with cells_of_copies cells_of_kind count_of_in_repetition count_with fails overflows single_fault initial_fault initials_fault missigned_class missigned_initial repeated known_places laid class_of_kind fault_from again fallen fallen_all filled miscounted spread misvalued misinitialed missigned unreached between_places between_values reach_to starting_places starting_values reach_from position_in reach_of place_of_position place_of_sub span_by first_span later_subs leave array_subs found reached declared_for structure_in kind_at extent_at copies_at copy_subs copies_by_in_selections copies_left reference_in is_outside first_range reference_ranges misranged same_kind may_equal may_match same_parts may_count is_lone chooses fits_array same_structures is_one_copy matches_any structure_at fits_structure fits_single is_excused is_whole_array is_whole_structure array_argument structure_argument input_fits kind_of_reference output_fits parameter_of inputs_fit outputs_fit form_fits call_fits head_of misshaped attribute_rows operand_rows use_rows size_rows type_rows
untyped_none-count = refl

pub typed-count : IsSound type_rows (phrases_of (count_file ∷ []))
typed-count = sound type_rows (phrases_of (count_file ∷ [])) untyped_none-count
