use Rattle.std.proofs.Common.{refl}
use Rattle.hal_operands.specs.Wants.{wanted}
use Rattle.hal_fit_rules.proofs.Unbroken.{value_eventless}
use Rattle.hal_fit_rules.proofs.Kinding.{kinded, wanted_of}
use Rattle.hal_fit_rules.proofs.laws.an_expression_that_breaks_no_rule_is_what_is_wanted.Goals as goal

pub returns-clause-kinded : goal.returns-clause-kinded
returns-clause-kinded c u site ps before around role tree sound begun value leaves = kinded u site ps sound before around role tree (value_eventless role value) begun leaves

pub returns-clause-wanted : goal.returns-clause-wanted
returns-clause-wanted c u site ps before around role tree sound begun value leaves =
    wanted_of u site ps sound before around role (wanted role) tree value refl begun leaves (kinded u site ps sound before around role tree (value_eventless role value) begun leaves)
