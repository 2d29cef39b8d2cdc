use Rattle.hal_fit_rules.proofs.UsingUnits.{unit_fits, unit_inside}
use Rattle.hal_fit_rules.proofs.laws.the_statements_of_each_known_unit_fit.Goals as goal

pub returns-clause-fit : goal.returns-clause-fit
returns-clause-fit c image g u s files places unit b whole bodies sound locks found known = unit_fits image g s sound locks u files unit b whole bodies found places known

pub returns-clause-inside : goal.returns-clause-inside
returns-clause-inside c image g v s files places unit b whole bodies sound locks found known harmless = unit_inside image g s sound locks v files unit b whole bodies found places known harmless
