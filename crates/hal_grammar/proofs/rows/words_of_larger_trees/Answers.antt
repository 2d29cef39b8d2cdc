use Rattle.std.proofs.Common.{refl, arith}
use Rattle.hal_grammar.specs.SpellsExpressions.{minus, text, literal, thousandths, last_expression, more_expressions}
use Rattle.hal_grammar.specs.SpellsDeclarations.{last, last_name, declares_all, declared, attributes_more, attributes_comma, attributes_semicolon, typed, integer_kind, dimensions, initial_values, more_initials, last_initial, list_times, valued, name_times, opening, no_declarations, no_name_end, name_end}
use Rattle.hal_grammar.specs.SpellsStatements.{labelled, no_labels, scheduled, scheduled_so, start_on, no_priority, not_dependent, comma, cyclic_every, as_long, handles, group_star, outputs}
use Rattle.hal_grammar.specs.SpellsFiles.{preface_first, block_alone, includes, templates, template, function_head, input_names, has_kind, double_precision, no_mode_end, block, compool_head, closed}
use Rattle.hal_grammar.proofs.Derived.{symbol_not_reserved, reserved_no_label, sum_of, expression_of, number, named}
use Rattle.hal_grammar.proofs.rows.words_of_larger_trees.Goals as goal

pub returns-clause-declaration : goal.returns-clause-declaration
returns-clause-declaration z a b c d e f g h i j k l m n o p q r s t u v =
    declares_all (attributes_more (typed integer_kind) attributes_comma) (last (declared (attributes_more (dimensions (last_expression (expression_of (sum_of number))))
    (attributes_more (initial_values (more_initials (list_times (last_initial (valued (expression_of (sum_of number))))) (last_initial (name_times (opening minus)))))
    attributes_semicolon))))

pub returns-clause-schedule : goal.returns-clause-schedule
returns-clause-schedule z a b c d e f g h i j k =
    labelled (no_labels reserved_no_label) (scheduled (scheduled_so (start_on (expression_of (sum_of (named (omega arith))))) (no_priority symbol_not_reserved)
    (not_dependent symbol_not_reserved) (cyclic_every comma (expression_of (sum_of thousandths))) (as_long (expression_of (sum_of (named (omega arith)))))))

pub returns-clause-handler : goal.returns-clause-handler
returns-clause-handler z a b c d e f g h i j k l m n o p =
    labelled (no_labels reserved_no_label) (handles group_star (labelled (no_labels reserved_no_label) (outputs (expression_of (sum_of number))
    (more_expressions (expression_of (sum_of (literal text))) (last_expression (expression_of (sum_of (named (omega arith)))))))))

pub returns-clause-file : goal.returns-clause-file
returns-clause-file z a b c d e f g h i j k l m n o p q r s t u =
    preface_first includes (preface_first
    (templates (template (function_head (input_names last_name) (has_kind integer_kind (double_precision no_mode_end)))
    (no_declarations (λ h. elim h [ ]) (λ h. elim h [ ])) no_name_end))
    (block_alone (block compool_head (no_declarations (λ h. elim h [ ]) (λ h. elim h [ ])) (closed name_end) (λ h. absurd (h refl)))))
