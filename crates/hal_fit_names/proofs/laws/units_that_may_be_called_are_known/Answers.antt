use Rattle.std.proofs.Common.{sym, subst}
use Rattle.hal_grammar.specs.Units.{Procedure, Function}
use Rattle.hal_names.specs.Laws.{IsCounted}
use Rattle.hal_scope.specs.Rules.{IsSound}
use Rattle.hal_types.specs.Rules.{type_rows}
use Rattle.hal_fit_names.proofs.Bodied.{unit_has_body}
use Rattle.hal_fit_names.proofs.Callable.{function_known, procedure_known}
use Rattle.hal_fit_names.proofs.laws.units_that_may_be_called_are_known.Goals as goal

pub returns-clause-function : goal.returns-clause-function
returns-clause-function c u files site k p name place inputs returns mode declarations whole bodies sound found is calls =
    let counted = subst IsCounted (sym whole) (c.phrases_are_counted.ensures files) in
    function_known u site (subst (IsSound type_rows) (sym whole) sound) counted k p found name place inputs returns mode declarations is
    (unit_has_body files site.set k p name (Function place inputs returns mode) declarations counted whole bodies found is) calls

pub returns-clause-procedure : goal.returns-clause-procedure
returns-clause-procedure c u files site k p name place inputs outputs mode declarations whole bodies sound found is calls parameters =
    let counted = subst IsCounted (sym whole) (c.phrases_are_counted.ensures files) in
    procedure_known u site (subst (IsSound type_rows) (sym whole) sound) counted k p found name place inputs outputs mode declarations is
    (unit_has_body files site.set k p name (Procedure place inputs outputs mode) declarations counted whole bodies found is) calls parameters
