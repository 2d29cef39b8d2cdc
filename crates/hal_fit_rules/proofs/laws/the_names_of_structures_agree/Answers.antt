use Rattle.hal_fit_rules.proofs.Structuring.{structure_agrees, structure_cells}
use Rattle.hal_fit_rules.proofs.laws.the_names_of_structures_agree.Goals as goal

pub returns-clause-name : goal.returns-clause-name
returns-clause-name c u site name path own is = structure_agrees u site name path own is

pub returns-clause-received : goal.returns-clause-received
returns-clause-received c u site name path own is = structure_cells u site name path own is
