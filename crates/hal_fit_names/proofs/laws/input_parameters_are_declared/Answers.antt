use Rattle.hal_phrases.specs.GatheredUnits.{phrases_of}
use Rattle.hal_meaning.specs.Calls.{inputs_of}
use Rattle.hal_fit_names.proofs.Bodied.{unit_has_inputs}
use Rattle.hal_fit_names.proofs.Parametered.{inputs_declared}
use Rattle.hal_fit_names.proofs.laws.input_parameters_are_declared.Goals as goal

pub returns : goal.returns
returns c files k p name head declarations named sound sizes found is =
    inputs_declared (phrases_of files) named sound sizes (c.a_key_is_found_at_its_first_declaration.ensures.found files) (c.a_key_is_found_at_its_first_declaration.ensures.lacking files) k (inputs_of head)
    (unit_has_inputs files k p name head declarations (c.phrases_are_counted.ensures files) found is)
