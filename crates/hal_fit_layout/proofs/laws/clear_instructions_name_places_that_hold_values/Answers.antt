use Rattle.hal_link.specs.Linking.{image_with}
use Rattle.hal_link.specs.Shapes.{shapes_of}
use Rattle.hal_fit_layout.proofs.Clears.{clears_fit}
use Rattle.hal_fit_layout.proofs.Laid.{block_rows}
use Rattle.hal_fit_layout.proofs.laws.clear_instructions_name_places_that_hold_values.Goals as goal

pub returns : goal.returns
returns c s views one row unit low few = clears_fit s (shapes_of s) (image_with s views one) row unit (block_rows s views one row low few)
