use Rattle.std.proofs.Common.{false, List, sym, subst}
use Rattle.hal_phrases.specs.Phrases.{Phrase}
use Rattle.hal_names.specs.Laws.{IsCounted}
use Rattle.hal_scope.specs.Rules.{IsAmong, IsSound, rows}
use Rattle.hal_types.specs.Rules.{type_rows}
use Rattle.hal_fit_names.specs.Suited.{AreDeclared, HasFitLiterals}
use Rattle.hal_fit_names.proofs.MeantCells.{receiver_agrees, output_agrees, variable_agrees}
use Rattle.hal_fit_names.proofs.Placing.{NodePlaced, items_are_placed}
use Rattle.hal_fit_names.proofs.laws.names_of_receivers_agree.Goals as goal

pub returns-clause-receiver : goal.returns-clause-receiver
returns-clause-receiver c files site q place name subscript whole has left named sound literals within is here =
    let counted = c.phrases_are_counted.ensures files in
    receiver_agrees (record { calls = λ k. false; asks = false; events = 0 }) site (subst (IsSound rows) (sym whole) named) (subst (IsSound type_rows) (sym whole) sound) (subst IsCounted (sym whole) counted)
    (subst AreDeclared (sym whole) (c.what_is_meant_declares_the_name.ensures files)) (subst HasFitLiterals (sym whole) literals) has
    (subst (λ (ps : List Phrase). (p : Phrase) → IsAmong p ps → NodePlaced ps p p.node) (sym whole) (items_are_placed files counted)) q place name subscript left (subst (λ (ps : List Phrase). IsAmong q ps) (sym whole) within) is here

pub returns-clause-output : goal.returns-clause-output
returns-clause-output c files site q place name subscript whole has left named sound literals within is here =
    let counted = c.phrases_are_counted.ensures files in
    output_agrees (record { calls = λ k. false; asks = false; events = 0 }) site (subst (IsSound rows) (sym whole) named) (subst (IsSound type_rows) (sym whole) sound) (subst IsCounted (sym whole) counted)
    (subst AreDeclared (sym whole) (c.what_is_meant_declares_the_name.ensures files)) (subst HasFitLiterals (sym whole) literals) has
    (subst (λ (ps : List Phrase). (p : Phrase) → IsAmong p ps → NodePlaced ps p p.node) (sym whole) (items_are_placed files counted)) q place name subscript left (subst (λ (ps : List Phrase). IsAmong q ps) (sym whole) within) is here

pub returns-clause-variable : goal.returns-clause-variable
returns-clause-variable c files site q name whole has left named sound literals within is here =
    let counted = c.phrases_are_counted.ensures files in
    variable_agrees (record { calls = λ k. false; asks = false; events = 0 }) site (subst (IsSound rows) (sym whole) named) (subst (IsSound type_rows) (sym whole) sound) (subst IsCounted (sym whole) counted)
    (subst AreDeclared (sym whole) (c.what_is_meant_declares_the_name.ensures files)) (subst HasFitLiterals (sym whole) literals) has
    (subst (λ (ps : List Phrase). (p : Phrase) → IsAmong p ps → NodePlaced ps p p.node) (sym whole) (items_are_placed files counted)) q name left (subst (λ (ps : List Phrase). IsAmong q ps) (sym whole) within) is here
