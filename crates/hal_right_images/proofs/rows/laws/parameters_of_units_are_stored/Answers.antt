use Rattle.hal_phrases.specs.GatheredUnits.{phrases_of}
use Rattle.hal_right_images.proofs.rows.LookingUp.{LooksUp}
use Rattle.hal_right_images.proofs.rows.Stored.{inputs_stored, outputs_stored}
use Rattle.hal_right_images.proofs.rows.laws.parameters_of_units_are_stored.Goals as goal

pub returns-clause-inputs : goal.returns-clause-inputs
returns-clause-inputs c turns files sound parts unit =
    let looks : LooksUp (phrases_of files) = record {
      counted = c.phrases_are_counted.ensures files;
      found = c.a_key_is_found_at_its_first_declaration.ensures.found files;
      lacking = c.a_key_is_found_at_its_first_declaration.ensures.lacking files;
      meant = c.what_is_meant_declares_the_name.ensures files;
    } in
    inputs_stored files looks sound parts turns unit

pub returns-clause-outputs : goal.returns-clause-outputs
returns-clause-outputs c turns files sound parts unit =
    let looks : LooksUp (phrases_of files) = record {
      counted = c.phrases_are_counted.ensures files;
      found = c.a_key_is_found_at_its_first_declaration.ensures.found files;
      lacking = c.a_key_is_found_at_its_first_declaration.ensures.lacking files;
      meant = c.what_is_meant_declares_the_name.ensures files;
    } in
    outputs_stored files looks sound parts turns unit
