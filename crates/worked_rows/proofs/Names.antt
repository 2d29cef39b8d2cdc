-- The files of the worked units break no rule of names: computed phrase by phrase.
use Rattle.std.proofs.Common.{◌≡◌, ◌∷◌, [], None, refl}
use Rattle.hal_phrases.specs.GatheredDeclarations.{gathered_kind, gathered_initial, gathered_initials, gathered_attribute, gathered_item, gathered_declaration}
use Rattle.hal_phrases.specs.GatheredExpressions.{gathered, gathered_all, gathered_terms, gathered_reference, gathered_subscript}
use Rattle.hal_phrases.specs.GatheredStatements.{gathered_guard, gathered_statement, gathered_basic, gathered_alternative, gathered_group, gathered_statements}
use Rattle.hal_phrases.specs.GatheredUnits.{gathered_head, gathered_block, gathered_elements, gathered_prefaces, name_of_block, gathered_file, phrases_of}
use Rattle.hal_names.specs.Keys.{declared_at, same_space, same_key, own}
use Rattle.hal_names.specs.Means.{is_compool_unit, unit_named, given_by, shown, shown_by, included, included_before, prefaces_of, nearest}
use Rattle.hal_scope.specs.Builtins.{builtins}
use Rattle.hal_scope.specs.Components.{has_path, is_structure, type_has, has_component, lacks_in, lacks}
use Rattle.hal_scope.specs.Labels.{is_label_of, misclosed, is_loop, group_around, misled, astray}
use Rattle.hal_scope.specs.Repeated.{given, is_of_block, twice, declares_one_there, declarations_of, included_twice, is_item, undeclared}
use Rattle.hal_scope.specs.Sorts.{type_in, type_among, sort_of_type, sort_of_head, sort_of, usage_of, use_of_reference, used}
use Rattle.hal_scope.specs.Uses.{unknown, is_eventful, is_nil, refers_to_event, holds_event, hold_event, limit_of, limit_around, misused}
use Rattle.hal_scope.specs.Rules.{IsSound, rows, fault, first_fault}
use Rattle.hal_scope.proofs.Broken.{sound}
use Rattle.worked_rows.specs.Files.{hello_file, count_file}

no_fault-hello : first_fault rows (phrases_of (hello_file ∷ [])) (phrases_of (hello_file ∷ [])) ≡ None
unfolding gathered_kind gathered_initial gathered_initials gathered_attribute gathered_item gathered_declaration gathered gathered_all gathered_terms gathered_reference gathered_subscript gathered_guard gathered_statement gathered_basic gathered_alternative gathered_group gathered_statements gathered_head gathered_block gathered_elements gathered_prefaces name_of_block gathered_file phrases_of declared_at same_space same_key own is_compool_unit unit_named given_by shown shown_by included included_before prefaces_of nearest builtins has_path is_structure type_has has_component lacks_in lacks is_label_of misclosed is_loop group_around misled astray given is_of_block twice declares_one_there declarations_of included_twice is_item undeclared fault first_fault type_in type_among sort_of_type sort_of_head sort_of usage_of use_of_reference used unknown is_eventful is_nil refers_to_event holds_event hold_event limit_of limit_around misused
no_fault-hello = refl

-- HELLO
pub named-hello : IsSound rows (phrases_of (hello_file ∷ []))
named-hello = sound rows (phrases_of (hello_file ∷ [])) no_fault-hello

no_fault-count : first_fault rows (phrases_of (count_file ∷ [])) (phrases_of (count_file ∷ [])) ≡ None
unfolding gathered_kind gathered_initial gathered_initials gathered_attribute gathered_item gathered_declaration gathered gathered_all gathered_terms gathered_reference gathered_subscript gathered_guard gathered_statement gathered_basic gathered_alternative gathered_group gathered_statements gathered_head gathered_block gathered_elements gathered_prefaces name_of_block gathered_file phrases_of declared_at same_space same_key own is_compool_unit unit_named given_by shown shown_by included included_before prefaces_of nearest builtins has_path is_structure type_has has_component lacks_in lacks is_label_of misclosed is_loop group_around misled astray given is_of_block twice declares_one_there declarations_of included_twice is_item undeclared fault first_fault type_in type_among sort_of_type sort_of_head sort_of usage_of use_of_reference used unknown is_eventful is_nil refers_to_event holds_event hold_event limit_of limit_around misused
no_fault-count = refl

-- the unit with a group
pub named-count : IsSound rows (phrases_of (count_file ∷ []))
named-count = sound rows (phrases_of (count_file ∷ [])) no_fault-count
