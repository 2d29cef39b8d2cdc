use Rattle.hal_phrases.specs.GatheredUnits.{phrases_of}
use Rattle.hal_fit_parts.proofs.Standing.{parts_stand}
use Rattle.hal_right_images.proofs.paths.Kinded.{part_known}
use Rattle.hal_right_images.proofs.paths.laws.kinds_of_parts_are_known.Goals as goal

pub returns : goal.returns
returns c files k j p q name parts path part named sound literals there is leading at so =
    part_known (phrases_of files) named sound (c.phrases_are_counted.ensures files) (c.what_is_meant_declares_the_name.ensures files) literals (c.a_key_is_found_at_its_first_declaration.ensures.found files)
    (c.a_key_is_found_at_its_first_declaration.ensures.lacking files) (parts_stand files) k j p q name parts path part there is leading at so
