use Rattle.hal_fit_rules.proofs.Happening.{event_agrees, process_agrees, written_process_agrees}
use Rattle.hal_fit_rules.proofs.laws.the_names_of_events_agree.Goals as goal

pub returns-clause-event : goal.returns-clause-event
returns-clause-event c u site name own asks counted is = event_agrees u site asks counted name own is

pub returns-clause-process : goal.returns-clause-process
returns-clause-process c u site name own asks counted is = process_agrees u site asks counted name own is

pub returns-clause-written : goal.returns-clause-written
returns-clause-written c u site name asks counted is = written_process_agrees u site asks counted name is
