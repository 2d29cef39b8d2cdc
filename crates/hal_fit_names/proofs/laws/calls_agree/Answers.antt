use Rattle.std.proofs.Common.{List, sym, subst}
use Rattle.hal_phrases.specs.Phrases.{Phrase}
use Rattle.hal_names.specs.Laws.{IsCounted}
use Rattle.hal_scope.specs.Rules.{IsAmong, IsSound, rows}
use Rattle.hal_types.specs.Rules.{type_rows}
use Rattle.hal_fit_names.specs.Suited.{AreDeclared, HasFitLiterals}
use Rattle.hal_fit_names.proofs.MeantCalls.{call_agrees}
use Rattle.hal_fit_names.proofs.Placing.{NodePlaced, items_are_placed}
use Rattle.hal_fit_names.proofs.laws.calls_agree.Goals as goal

pub returns : goal.returns
returns c u files site q name arguments receivers whole has left procedures named sound literals within is here =
    let counted = c.phrases_are_counted.ensures files in
    call_agrees u site (subst (IsSound rows) (sym whole) named) (subst (IsSound type_rows) (sym whole) sound) (subst IsCounted (sym whole) counted)
    (subst AreDeclared (sym whole) (c.what_is_meant_declares_the_name.ensures files)) (subst HasFitLiterals (sym whole) literals) has
    (subst (λ (ps : List Phrase). (p : Phrase) → IsAmong p ps → NodePlaced ps p p.node) (sym whole) (items_are_placed files counted)) q name arguments receivers left procedures (subst (λ (ps : List Phrase). IsAmong q ps) (sym whole) within) is here
