use Rattle.hal_fit_rules.proofs.Constants.{constant_agrees, constant_formed}
use Rattle.hal_fit_rules.proofs.laws.the_names_of_constants_agree.Goals as goal

pub returns-clause-name : goal.returns-clause-name
returns-clause-name c u site name own counted has is = constant_agrees u site counted has name own is

pub returns-clause-form : goal.returns-clause-form
returns-clause-form c u site name own counted has is = constant_formed u site counted has name own is
