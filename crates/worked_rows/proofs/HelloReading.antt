-- The text of HELLO has the words of its file.
use Rattle.std.proofs.Common.{[], arith, lit≤, refl, ◌∷◌, ◌≡◌}
use Rattle.hal_words.specs.Reserved.{reserved_words, left_out_words}
use Rattle.hal_words.specs.Words.{IsCut}
use Rattle.hal_grammar.specs.SpellsExpressions.{plus, factor, primary, summed, more_terms, no_terms, no_further, unsubscripted, refers, last_expression}
use Rattle.hal_grammar.specs.SpellsDeclarations.{last, declares, declared, attributes_more, attributes_semicolon, typed, integer_kind, initial_values, last_initial, valued, more_declarations, no_declarations, name_end}
use Rattle.hal_grammar.specs.SpellsStatements.{labelled, no_labels, assigned, outputs}
use Rattle.hal_grammar.specs.SpellsFiles.{SpellsFile, block_alone, block, program_head, statement_first, closed}
use Rattle.hal_grammar.proofs.Derived.{name_not_reserved, equals_no_label, reserved_no_label, sum_of, expression_of, number, named}
use Rattle.hal_checked.specs.Reading.{AreRead}
use Rattle.worked_rows.specs.Files.{hello_file}
use Rattle.worked_rows.specs.HelloWords.{hello_text, hello_tokens}

-- the words of its text
pub IsCut-hello : IsCut 0 hello_text hello_tokens
unfolding reserved_words left_out_words
IsCut-hello = record { words = refl; few = lit≤ tt; temporaries = refl }

-- they are those of its file
pub SpellsFile-hello : SpellsFile hello_file hello_tokens []
SpellsFile-hello =
    block_alone (block program_head
    (more_declarations
    (declares (last (declared (attributes_more (typed integer_kind) (attributes_more (initial_values (last_initial (valued (expression_of (sum_of number))))) attributes_semicolon)))))
    (no_declarations name_not_reserved name_not_reserved))
    (statement_first
    (labelled (no_labels equals_no_label)
    (assigned (last (refers no_further unsubscripted)) (expression_of (summed refl (factor (primary (named (omega arith)))) (more_terms plus (factor (primary number)) no_terms)))))
    (statement_first (labelled (no_labels reserved_no_label) (outputs (expression_of (sum_of number)) (last_expression (expression_of (sum_of (named (omega arith)))))))
    (closed name_end)))
    (λ h. refl))

-- so the text is that of the file
pub read-hello : AreRead 0 (hello_text ∷ []) (hello_file ∷ [])
read-hello = (record { tokens = hello_tokens; cut = IsCut-hello; parsed = record { spelled = SpellsFile-hello; shallow = lit≤ tt } }, tt)
