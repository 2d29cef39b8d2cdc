use Rattle.hal_right_ways.proofs.Ways.{answered_way}
use Rattle.hal_right_ways.proofs.laws.the_way_of_a_right_image_fits.Goals as goal

pub returns : goal.returns
returns c = λ turns image p answers a right have ranged exists fit fits. answered_way turns image p right ranged exists answers fit have a fits
