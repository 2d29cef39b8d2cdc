use Rattle.hal_pieces.proofs.LineCells.{Reads-two, IfOk-with}
use Rattle.hal_pieces.proofs.directives.push_include.Goals as goal

pub returns-clause-read : goal.returns-clause-read
returns-clause-read c =
    IfOk-with c.push_given-2.result (λ pushed. λ comment. Reads-two _ _ comment _ _ _ tt tt c.in_ok-push_given.ensures.pushed pushed) c.push_given-2.ensures.pushed
