use Rattle.hal_right_images.proofs.rows.Calling.{acyclic, reentrant}
use Rattle.hal_right_images.proofs.rows.laws.a_set_that_breaks_no_rule_of_calls_has_no_cycles.Goals as goal

pub returns-clause-acyclic : goal.returns-clause-acyclic
returns-clause-acyclic c = acyclic

pub returns-clause-reentrant : goal.returns-clause-reentrant
returns-clause-reentrant c = reentrant
