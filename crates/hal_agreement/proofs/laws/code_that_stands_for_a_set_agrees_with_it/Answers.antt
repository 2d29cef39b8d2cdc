use Rattle.hal_agreement.proofs.Agreeing.{files_agree}
use Rattle.hal_agreement.proofs.laws.code_that_stands_for_a_set_agrees_with_it.Goals as goal

pub returns : goal.returns
returns c = files_agree
