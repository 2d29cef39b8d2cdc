-- The text of the unit with a group has the words of its file.
use Rattle.std.proofs.Common.{[], arith, lit≤, refl, ◌∷◌, ◌≡◌}
use Rattle.hal_base.specs.declared.refusal.Place.{Place}
use Rattle.hal_words.specs.declared.reserved.Reserved.TheVariants as reserved
use Rattle.hal_words.specs.declared.word.Word.TheVariants as word
use Rattle.hal_words.specs.Reserved.{reserved_words, left_out_words}
use Rattle.hal_words.specs.Words.{IsCut}
use Rattle.hal_grammar.specs.Words.{Words, reserved_then, BeginsReserved}
use Rattle.hal_grammar.specs.SpellsExpressions.{plus, less, equal, both, comparison, compared, sum, factor, primary, summed, more_terms, no_terms, no_further, unsubscripted, refers, last_expression}
use Rattle.hal_grammar.specs.SpellsDeclarations.{last, declares, declared, attributes_more, attributes_semicolon, typed, integer_kind, more_declarations, no_declarations, no_name_end, name_end}
use Rattle.hal_grammar.specs.SpellsStatements.{labelled, no_labels, assigned, outputs, chosen, looped_while, no_alternative, groups, statements_end, statements_more}
use Rattle.hal_grammar.specs.SpellsFiles.{SpellsFile, block_alone, block, program_head, statement_first, closed}
use Rattle.hal_grammar.proofs.Derived.{first_is, equals_no_label, reserved_no_label, sum_of, expression_of, number, named}
use Rattle.hal_checked.specs.Reading.{AreRead}
use Rattle.worked_rows.specs.Files.{count_file}
use Rattle.worked_rows.specs.CountWords.{count_text, count_tokens}

-- the words of its text
pub IsCut-count : IsCut 0 count_text count_tokens
unfolding reserved_words left_out_words
IsCut-count = record { words = refl; few = lit≤ tt; temporaries = refl }

do_not_declare : {p : Place} {words : Words} → ¬ BeginsReserved reserved.Declare (reserved_then reserved.Do p words)
do_not_declare h = let e : word.Reserved reserved.Do ≡ word.Reserved reserved.Declare = first_is h in cc

do_not_structure : {p : Place} {words : Words} → ¬ BeginsReserved reserved.Structure (reserved_then reserved.Do p words)
do_not_structure h = let e : word.Reserved reserved.Do ≡ word.Reserved reserved.Structure = first_is h in cc

end_not_else : {p : Place} {words : Words} → ¬ BeginsReserved reserved.Else (reserved_then reserved.End p words)
end_not_else h = let e : word.Reserved reserved.End ≡ word.Reserved reserved.Else = first_is h in cc

-- they are those of its file
pub SpellsFile-count : SpellsFile count_file count_tokens []
SpellsFile-count =
    block_alone (block program_head
    (more_declarations (declares (last (declared (attributes_more (typed integer_kind) attributes_semicolon)))) (no_declarations do_not_declare do_not_structure))
    (statement_first
    (labelled (no_labels reserved_no_label)
    (looped_while (both (comparison (compared refl (sum (sum_of (named (omega arith)))) less (sum (sum_of number)))))
    (groups
    (statements_more
    (labelled (no_labels equals_no_label)
    (assigned (last (refers no_further unsubscripted)) (expression_of (summed refl (factor (primary (named (omega arith)))) (more_terms plus (factor (primary number)) no_terms)))))
    (statements_more
    (labelled (no_labels reserved_no_label)
    (chosen (both (comparison (compared refl (sum (sum_of (named (omega arith)))) equal (sum (sum_of number)))))
    (labelled (no_labels reserved_no_label) (outputs (expression_of (sum_of number)) (last_expression (expression_of (sum_of (named (omega arith)))))))
    (no_alternative end_not_else)))
    statements_end))
    no_name_end)))
    (closed name_end))
    (λ h. refl))

-- so the text is that of the file
pub read-count : AreRead 0 (count_text ∷ []) (count_file ∷ [])
read-count = (record { tokens = count_tokens; cut = IsCut-count; parsed = record { spelled = SpellsFile-count; shallow = lit≤ tt } }, tt)
