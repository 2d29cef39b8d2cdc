use Rattle.hal_values.specs.Fitting.{FitAll-agree}
use Rattle.hal_values.proofs.load.loads_that_agree_take_the_same_answers.Goals as goal

pub returns : goal.returns
returns g c = λ agree p answers exists fit. FitAll-agree _ _ p answers agree exists fit
