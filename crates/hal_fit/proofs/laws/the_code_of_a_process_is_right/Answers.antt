use Rattle.hal_fit.proofs.Processes.{process_right}
use Rattle.hal_fit.proofs.laws.the_code_of_a_process_is_right.Goals as goal

pub returns : goal.returns
returns c code g u site m body spot at ends begins own supports fits n = process_right code g u site m body spot at ends begins own supports fits n
