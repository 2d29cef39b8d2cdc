use Rattle.hal_right_images.proofs.images.Righting.{right_linked}
use Rattle.hal_right_images.proofs.images.laws.an_image_of_blocks_that_fit_is_right.Goals as goal

pub returns : goal.returns
returns c turns files views image is all rows =
    right_linked turns files views image is (c.each_block_of_a_linked_image_is_of_a_process_or_a_unit.ensures.rows turns files views image is) all rows
