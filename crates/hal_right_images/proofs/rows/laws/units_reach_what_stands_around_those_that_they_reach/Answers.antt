use Rattle.hal_phrases.specs.GatheredUnits.{phrases_of}
use Rattle.hal_right_images.proofs.rows.HomingFiles.{all_home}
use Rattle.hal_right_images.proofs.rows.LookingUp.{LooksUp}
use Rattle.hal_right_images.proofs.rows.Visible.{reaches_around}
use Rattle.hal_right_images.proofs.rows.laws.units_reach_what_stands_around_those_that_they_reach.Goals as goal

pub returns : goal.returns
returns c files items =
    let looks : LooksUp (phrases_of files) = record {
      counted = c.phrases_are_counted.ensures files;
      found = c.a_key_is_found_at_its_first_declaration.ensures.found files;
      lacking = c.a_key_is_found_at_its_first_declaration.ensures.lacking files;
      meant = c.what_is_meant_declares_the_name.ensures files;
    } in
    reaches_around (phrases_of files) looks (all_home files) items
