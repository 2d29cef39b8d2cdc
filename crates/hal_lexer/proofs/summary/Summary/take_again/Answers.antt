use Rattle.std.proofs.lemmas.Result.{IfOk-weaker}
use Rattle.hal_lexer.proofs.summary.Summary.take_again.Goals as goal

pub returns-clause-sound : goal.returns-clause-sound
returns-clause-sound c =
    IfOk-weaker c.take_late.result _ _ (λ _ next definitions sound. next definitions (c.in_ok-sum_up.ensures.sound definitions sound)) c.take_late.ensures.sound
