use Rattle.std.proofs.lemmas.Result.{IfOk-weaker}
use Rattle.hal_lexer.proofs.summary.Summary.raise.Goals as goal

pub returns-clause-sound : goal.returns-clause-sound
returns-clause-sound c =
    IfOk-weaker c.raise_rest.result _ _ (λ _ next definitions sound. next definitions (c.in_ok-raise_again.ensures.sound definitions (c.in_ok-look_again.ensures.sound definitions sound))) c.raise_rest.ensures.sound
