use Rattle.std.proofs.Common.{refl, arith}
use Rattle.hal_grammar.specs.SpellsExpressions.{plus, minus, equal, both, comparison, compared, term, factor, multiplied, more_factors, no_factors, primary, powered, summed, signed, more_terms, no_terms, negated, referred, enclosed, refers, no_further, by_parts, no_copies, no_arrays, components_then, last_subscript, one_place, from_end, unsubscripted, sum}
use Rattle.hal_grammar.specs.SpellsDeclarations.{last, declares, declared, attributes_more, attributes_semicolon, typed, integer_kind, more_declarations, no_declarations, name_end}
use Rattle.hal_grammar.specs.SpellsStatements.{labelled, no_labels, chosen, empty, assigned, no_alternative, otherwise}
use Rattle.hal_grammar.specs.SpellsFiles.{block_alone, block, program_head, statement_first, closed}
use Rattle.hal_grammar.proofs.Derived.{name_not_reserved, integer_not_reserved, symbol_not_reserved, not_right, equals_no_label, reserved_no_label, symbol_no_label, sum_of, expression_of, number, named, open_call, first_is}
use Rattle.hal_grammar.proofs.rows.words_of_trees.Goals as goal

pub returns-clause-product : goal.returns-clause-product
returns-clause-product c a b d e f g h =
    expression_of (term (multiplied refl (primary number) (more_factors symbol_not_reserved
    (primary (enclosed (expression_of (summed refl (factor (primary number)) (more_terms plus (factor (primary number)) no_terms)))))
    (more_factors integer_not_reserved (primary number) no_factors))))

pub returns-clause-power : goal.returns-clause-power
returns-clause-power c a b d e = expression_of (signed minus (factor (powered refl number number)) no_terms)

pub returns-clause-from_end : goal.returns-clause-from_end
returns-clause-from_end c a b d e f g h =
    expression_of (sum_of (referred (refers no_further (by_parts not_right (no_copies (no_arrays (components_then (last_subscript (one_place
    (from_end (more_terms minus (factor (primary number)) no_terms))))))))) (λ alone. elim alone [ ])))

pub returns-clause-comparison : goal.returns-clause-comparison
returns-clause-comparison c a b d e = both (comparison (compared refl (sum (sum_of (negated (named (omega arith))))) equal (sum (sum_of (named (omega arith))))))

pub returns-clause-nearest : goal.returns-clause-nearest
returns-clause-nearest c a b d e f g h i j =
    labelled (no_labels reserved_no_label) (chosen (expression_of (sum_of (named (omega arith))))
    (labelled (no_labels reserved_no_label) (chosen (expression_of (sum_of (named (omega arith)))) (labelled (no_labels symbol_no_label) empty)
    (otherwise (labelled (no_labels symbol_no_label) empty))))
    (no_alternative (λ h. first_is h)))

pub returns-clause-program : goal.returns-clause-program
returns-clause-program c a b d e f g h i j k l m n o p =
    block_alone (block program_head
    (more_declarations (declares (last (declared (attributes_more (typed integer_kind) attributes_semicolon)))) (no_declarations name_not_reserved name_not_reserved))
    (statement_first (labelled (no_labels equals_no_label) (assigned (last (refers no_further unsubscripted)) (expression_of (sum_of number)))) (closed name_end))
    (λ h. refl))

pub returns-clause-open : goal.returns-clause-open
returns-clause-open c a b d t after h = open_call h
