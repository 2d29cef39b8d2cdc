use Rattle.hal_code.specs.Courses.{setting_of}
use Rattle.hal_sound_code.proofs.Rights.{whole}
use Rattle.hal_right_values.proofs.Fitting.{of_cell_fits, of_shape_fits}
use Rattle.hal_right_values.proofs.laws.the_views_of_a_right_image_lead_to_small_numbers.Goals as goal

pub returns-clause-cells : goal.returns-clause-cells
returns-clause-cells c = λ turns image p one v view right exists typed e there. of_cell_fits (setting_of turns image p) (whole image right) exists one typed v view e there

pub returns-clause-areas : goal.returns-clause-areas
returns-clause-areas c = λ turns image p one v view right exists typed e there some. of_shape_fits (setting_of turns image p) (whole image right) exists one typed v view e there some
