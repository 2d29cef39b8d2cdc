use Rattle.hal_fit.proofs.Units.{unit_right}
use Rattle.hal_fit.proofs.laws.the_code_of_a_unit_is_right.Goals as goal

pub returns : goal.returns
returns c code g u s places b at behind there called clears supports fits n = unit_right code g u s places b at supports called there clears fits behind n
