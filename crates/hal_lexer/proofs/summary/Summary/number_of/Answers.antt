use Rattle.std.proofs.Common.{◌∙◌, Some, sym, ap}
use Rattle.std.proofs.lemmas.Result.{IfOk-weaker}
use Rattle.hal_words.specs.declared.word.Word.{Word}
use Rattle.hal_lexer.proofs.summary.Summary.number_of.Goals as goal

pub returns-in-Name-clause-has : goal.returns-in-Name-clause-has
returns-in-Name-clause-has c =
    IfOk-weaker c.number.result _ _ (λ n named definitions sound. named definitions sound ∙ ap (λ (w : Word). Some w) (sym c.in-Name.is)) c.number.ensures.named
