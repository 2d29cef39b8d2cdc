use Rattle.hal_phrases.specs.GatheredUnits.{phrases_of}
use Rattle.hal_right_images.proofs.rows.LookingUp.{LooksUp}
use Rattle.hal_right_images.proofs.rows.Numbered.{references_numbered}
use Rattle.hal_right_images.proofs.rows.laws.references_of_processes_are_to_shapes.Goals as goal

pub returns : goal.returns
returns c turns files sound parts process =
    let looks : LooksUp (phrases_of files) = record {
      counted = c.phrases_are_counted.ensures files;
      found = c.a_key_is_found_at_its_first_declaration.ensures.found files;
      lacking = c.a_key_is_found_at_its_first_declaration.ensures.lacking files;
      meant = c.what_is_meant_declares_the_name.ensures files;
    } in
    references_numbered files looks sound parts turns process
