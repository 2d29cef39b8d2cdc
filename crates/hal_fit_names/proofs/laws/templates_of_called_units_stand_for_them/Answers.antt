use Rattle.std.proofs.Common.{List, sym, subst}
use Rattle.hal_phrases.specs.Phrases.{Phrase}
use Rattle.hal_phrases.specs.GatheredUnits.{phrases_of}
use Rattle.hal_names.specs.Laws.{IsCounted}
use Rattle.hal_scope.specs.Rules.{IsAmong, IsSound, rows}
use Rattle.hal_types.specs.Rules.{type_rows}
use Rattle.hal_fit_names.specs.Suited.{AreDeclared, HasFitLiterals}
use Rattle.hal_fit_names.proofs.CalledTemplates.{called_stands}
use Rattle.hal_fit_names.proofs.Placing.{NodePlaced, at_among, items_are_placed}
use Rattle.hal_fit_names.proofs.laws.templates_of_called_units_stand_for_them.Goals as goal

pub returns : goal.returns
returns c files site k p template head declarations whole has given named sound literals sizes there is called =
    let counted = c.phrases_are_counted.ensures files in
    called_stands site (subst (IsSound rows) (sym whole) named) (subst (IsSound type_rows) (sym whole) sound) (subst IsCounted (sym whole) counted) (subst AreDeclared (sym whole) (c.what_is_meant_declares_the_name.ensures files))
    (subst HasFitLiterals (sym whole) literals) has (subst (λ (ps : List Phrase). (q : Phrase) → IsAmong q ps → NodePlaced ps q q.node) (sym whole) (items_are_placed files counted)) files whole named sound counted sizes
    (c.a_key_is_found_at_its_first_declaration.ensures.found files) (c.a_key_is_found_at_its_first_declaration.ensures.lacking files)
    (λ j q name other ds found declares. c.input_parameters_are_declared.ensures files j q name other ds named sound sizes found declares) k p template head declarations there is called
    (c.a_written_template_gives_what_its_unit_shows.ensures files given named p template head declarations (at_among (phrases_of files) k p there) is)
