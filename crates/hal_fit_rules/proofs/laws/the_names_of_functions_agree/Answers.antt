use Rattle.hal_fit_rules.proofs.Declaring.{builtin_agrees, function_agrees}
use Rattle.hal_fit_rules.proofs.laws.the_names_of_functions_agree.Goals as goal

pub returns-clause-built_in : goal.returns-clause-built_in
returns-clause-built_in c u site name is = builtin_agrees u site name is

pub returns-clause-declared : goal.returns-clause-declared
returns-clause-declared c u site name own is = function_agrees u site name own is
