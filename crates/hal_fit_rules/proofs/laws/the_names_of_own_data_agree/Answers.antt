use Rattle.hal_fit_rules.proofs.Declaring.{plain_data_agree, temporary_agrees, plain_cells_agree, temporary_cells_agree}
use Rattle.hal_fit_rules.proofs.Ranging.{plain_ranged}
use Rattle.hal_fit_rules.proofs.laws.the_names_of_own_data_agree.Goals as goal

pub returns-clause-declared : goal.returns-clause-declared
returns-clause-declared c u site name own is = plain_data_agree u site name own is

pub returns-clause-temporary : goal.returns-clause-temporary
returns-clause-temporary c u site name own is = temporary_agrees u site name own is

pub returns-clause-received : goal.returns-clause-received
returns-clause-received c u site name own is = plain_cells_agree u site name own is

pub returns-clause-counted : goal.returns-clause-counted
returns-clause-counted c u site name own is = temporary_cells_agree u site name own is

pub returns-clause-ranged : goal.returns-clause-ranged
returns-clause-ranged c u site name own is = plain_ranged u site name own is
