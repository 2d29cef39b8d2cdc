use Rattle.hal_phrases.specs.GatheredUnits.{phrases_of}
use Rattle.hal_fit_parts.proofs.Choosing.{choose_bottom, choose_some}
use Rattle.hal_fit_parts.proofs.Leading.{last_part}
use Rattle.hal_fit_parts.proofs.Standing.{parts_stand}
use Rattle.hal_fit_parts.proofs.laws.a_path_to_a_bottom_part_chooses_its_component.Goals as goal

pub returns-clause-bottom : goal.returns-clause-bottom
returns-clause-bottom c files vs k j p q name parts path part sound there is leading at so =
    choose_bottom (phrases_of files) (c.phrases_are_counted.ensures files) (c.a_key_is_found_at_its_first_declaration.ensures.found files) (c.a_key_is_found_at_its_first_declaration.ensures.lacking files) sound
    (parts_stand files) vs k j p q name parts path part there is leading at so

pub returns-clause-others : goal.returns-clause-others
returns-clause-others c files vs k j p q name parts path part sound there is leading at so =
    choose_some (phrases_of files) (c.phrases_are_counted.ensures files) (c.a_key_is_found_at_its_first_declaration.ensures.found files) (c.a_key_is_found_at_its_first_declaration.ensures.lacking files) sound
    (parts_stand files) vs k j p q name parts path part there is leading at so

pub returns-clause-parts : goal.returns-clause-parts
returns-clause-parts c files k j n path is = last_part (phrases_of files) (c.a_key_is_found_at_its_first_declaration.ensures.found files) k j n path is
