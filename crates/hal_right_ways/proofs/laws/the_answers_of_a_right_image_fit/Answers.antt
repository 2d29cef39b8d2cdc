use Rattle.hal_right_ways.proofs.Ways.{answer_fits, shapes_fit}
use Rattle.hal_right_ways.proofs.laws.the_answers_of_a_right_image_fit.Goals as goal

pub returns-clause-answers : goal.returns-clause-answers
returns-clause-answers c = λ turns image p answers right ranged exists fit. answer_fits turns image p right ranged exists answers fit

pub returns-clause-shapes : goal.returns-clause-shapes
returns-clause-shapes c = λ image right. shapes_fit image right
