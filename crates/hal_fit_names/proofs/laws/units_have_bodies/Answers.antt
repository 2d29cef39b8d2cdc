use Rattle.std.proofs.Common.{sym, subst}
use Rattle.hal_names.specs.Laws.{IsCounted}
use Rattle.hal_fit_names.proofs.Bodied.{unit_has_body}
use Rattle.hal_fit_names.proofs.UnitPhrases.{body_has_phrase}
use Rattle.hal_fit_names.proofs.laws.units_have_bodies.Goals as goal

pub returns-clause-body : goal.returns-clause-body
returns-clause-body c files s k p name head declarations whole bodies found is =
    unit_has_body files s k p name head declarations (subst IsCounted (sym whole) (c.phrases_are_counted.ensures files)) whole bodies found is

pub returns-clause-unit : goal.returns-clause-unit
returns-clause-unit c files s k b whole bodies found = body_has_phrase files s k b (subst IsCounted (sym whole) (c.phrases_are_counted.ensures files)) whole bodies found
