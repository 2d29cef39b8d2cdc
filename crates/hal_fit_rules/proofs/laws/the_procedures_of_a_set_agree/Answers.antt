use Rattle.hal_fit_rules.proofs.Calling.{procedure_agrees}
use Rattle.hal_fit_rules.proofs.laws.the_procedures_of_a_set_agree.Goals as goal

pub returns : goal.returns
returns c u site name own counted is = procedure_agrees u site name own counted is
