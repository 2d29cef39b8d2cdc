use Rattle.hal_phrases.specs.GatheredUnits.{phrases_of}
use Rattle.hal_fit_names.proofs.Homing.{homes_are_holders}
use Rattle.hal_fit_names.proofs.Temporary.{means_variable}
use Rattle.hal_fit_names.proofs.laws.temporary_variables_mean_themselves.Goals as goal

pub returns : goal.returns
returns c files k p labels variable there is =
    means_variable (phrases_of files) (c.phrases_are_counted.ensures files) (homes_are_holders files) (c.a_key_is_found_at_its_first_declaration.ensures.found files)
    (c.a_key_is_found_at_its_first_declaration.ensures.lacking files) k p labels variable there is
