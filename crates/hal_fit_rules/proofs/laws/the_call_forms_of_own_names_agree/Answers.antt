use Rattle.hal_fit_rules.proofs.Calling.{data_formed, temporary_formed, event_formed, function_formed, builtin_formed}
use Rattle.hal_fit_rules.proofs.laws.the_call_forms_of_own_names_agree.Goals as goal

pub returns-clause-data : goal.returns-clause-data
returns-clause-data c u site name own is = data_formed u site name own is

pub returns-clause-temporary : goal.returns-clause-temporary
returns-clause-temporary c u site name own is = temporary_formed u site name own is

pub returns-clause-event : goal.returns-clause-event
returns-clause-event c u site name own counted is = event_formed u site name own counted is

pub returns-clause-function : goal.returns-clause-function
returns-clause-function c u site name own counted is are = function_formed u site name own counted is are

pub returns-clause-built_in : goal.returns-clause-built_in
returns-clause-built_in c u site name b undeclared named = builtin_formed u site name b undeclared named
