use Rattle.std.proofs.Common.{List, sym, subst}
use Rattle.hal_phrases.specs.Phrases.{Phrase}
use Rattle.hal_names.specs.Laws.{IsCounted}
use Rattle.hal_scope.specs.Rules.{IsAmong, IsSound, rows}
use Rattle.hal_types.specs.Rules.{type_rows}
use Rattle.hal_fit_names.specs.Suited.{AreDeclared, HasFitLiterals}
use Rattle.hal_fit_names.proofs.MeantValues.{value_agrees, subscript_agrees}
use Rattle.hal_fit_names.proofs.Placing.{NodePlaced, items_are_placed}
use Rattle.hal_fit_names.proofs.laws.names_of_values_agree.Goals as goal

pub returns-clause-reference : goal.returns-clause-reference
returns-clause-reference c u files site q role place name subscript whole has left may functions named sound literals within is wanted here =
    let counted = c.phrases_are_counted.ensures files in
    value_agrees u site (subst (IsSound rows) (sym whole) named) (subst (IsSound type_rows) (sym whole) sound) (subst IsCounted (sym whole) counted)
    (subst AreDeclared (sym whole) (c.what_is_meant_declares_the_name.ensures files)) (subst HasFitLiterals (sym whole) literals) has
    (subst (λ (ps : List Phrase). (p : Phrase) → IsAmong p ps → NodePlaced ps p p.node) (sym whole) (items_are_placed files counted)) q role place name subscript left may functions (subst (λ (ps : List Phrase). IsAmong q ps) (sym whole) within) is wanted here

pub returns-clause-subscript : goal.returns-clause-subscript
returns-clause-subscript c u files site q name whole has left may functions named sound literals within is here =
    let counted = c.phrases_are_counted.ensures files in
    subscript_agrees u site (subst (IsSound rows) (sym whole) named) (subst (IsSound type_rows) (sym whole) sound) (subst IsCounted (sym whole) counted)
    (subst AreDeclared (sym whole) (c.what_is_meant_declares_the_name.ensures files)) (subst HasFitLiterals (sym whole) literals) has
    (subst (λ (ps : List Phrase). (p : Phrase) → IsAmong p ps → NodePlaced ps p p.node) (sym whole) (items_are_placed files counted)) q name left may functions (subst (λ (ps : List Phrase). IsAmong q ps) (sym whole) within) is here
