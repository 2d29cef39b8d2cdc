use Rattle.std.proofs.Common.{◌∷◌, [], length, Some, ap}
use Rattle.std.proofs.lemmas.Result.{IfOk-weaker}
use Rattle.hal_lexer.specs.declared.comes.Comes.{Comes}
use Rattle.hal_lexer.specs.Summary.{given_of}
use Rattle.hal_lexer.proofs.Summing.{nothing_stands, one_stands}
use Rattle.hal_lexer.proofs.summary.Summary.sum_up_words.Goals as goal

pub returns-in-Nothing-clause-sound : goal.returns-in-Nothing-clause-sound
returns-in-Nothing-clause-sound c =
    let amount = c.few.ensures [] (ap (λ (k : Comes). given_of (Some k)) c.in-Nothing.is) in
    IfOk-weaker c.keep.result _ _ (λ _ kept definitions sound unknown. kept definitions sound unknown amount (nothing_stands (length c.args.self.now.done))) c.keep.ensures.sound

pub returns-in-One-clause-sound : goal.returns-in-One-clause-sound
returns-in-One-clause-sound c =
    let one = c.in-One.one in
    let amount = c.few.ensures (one ∷ []) (ap (λ (k : Comes). given_of (Some k)) c.in-One.is) in
    IfOk-weaker c.keep-in-One.result _ _ (λ _ kept definitions sound unknown. kept definitions sound unknown amount (one_stands (length c.args.self.now.done) one)) c.keep-in-One.ensures.sound
