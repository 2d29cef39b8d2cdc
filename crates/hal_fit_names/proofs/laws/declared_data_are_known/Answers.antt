use Rattle.hal_phrases.specs.GatheredUnits.{phrases_of}
use Rattle.hal_fit_names.proofs.Declaring.{plain_data, parameter_known}
use Rattle.hal_fit_names.proofs.Placing.{items_are_placed}
use Rattle.hal_fit_names.proofs.laws.declared_data_are_known.Goals as goal

pub returns-clause-data : goal.returns-clause-data
returns-clause-data c files site p common item kind whole has named sound literals within is typed eventless plain stored =
    let counted = c.phrases_are_counted.ensures files in
    plain_data (phrases_of files) named sound counted (c.what_is_meant_declares_the_name.ensures files) literals site whole has p (items_are_placed files counted p within) common item kind is typed stored eventless plain

pub returns-clause-parameter : goal.returns-clause-parameter
returns-clause-parameter c files site unit name p common item kind whole has named sound literals found within is typed dimensioned stored =
    let counted = c.phrases_are_counted.ensures files in
    parameter_known (phrases_of files) named sound counted (c.what_is_meant_declares_the_name.ensures files) literals site whole has p (items_are_placed files counted p within) common item kind is typed stored unit name found dimensioned
