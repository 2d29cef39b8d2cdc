use Rattle.std.specs.Prelude.{◌≤◌}
use Rattle.std.proofs.Common.{arith}
use Rattle.hal_values.specs.Loads.{turn_limit}
use Rattle.hal_checked.specs.Checking.{linked_in, set_in}
use Rattle.hal_right_images.proofs.images.texts.an_image_of_checked_texts_is_whole.Goals as goal

pub returns : goal.returns
unfolding set_in linked_in
returns c texts files read checked image linked few = record {
  right = c.a_linked_image_is_right.ensures turn_limit files image linked (c.files_of_checked_texts_are_accepted.ensures texts files image read checked few) (omega (arith));
  cells = c.each_view_of_an_image_has_a_cell.ensures turn_limit files image linked;
}
