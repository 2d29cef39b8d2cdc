use Rattle.std.proofs.Common.{◌≡◌, slice_get, None, Some, rules}
use Rattle.std.proofs.lemmas.Result.{IfOk-weaker}
use Rattle.hal_lexer.specs.declared.summary.Cut.TheVariants as cut
use Rattle.hal_lexer.specs.Summary.{given_of}
use Rattle.hal_lexer.proofs.Places.{none_known}
use Rattle.hal_lexer.proofs.summary.Summary.sum_up.Goals as goal

pub returns-in-Some-clause-sound : goal.returns-in-Some-clause-sound
returns-in-Some-clause-sound c =
    let self = c.args.self.now in
    let unknown : given_of (slice_get self.comes.items c.args.number) ≡ None = none_known _ (search rules) in
    let at : slice_get self.cuts.items c.args.number ≡ Some (cut.Word c.in-Some.one) = search rules in
    IfOk-weaker c.follow.result _ _ (λ _ next definitions sound. next definitions sound unknown at) c.follow.ensures.sound

pub returns-clause-sound : goal.returns-clause-sound
returns-clause-sound c =
    let unknown : given_of (slice_get c.args.self.now.comes.items c.args.number) ≡ None = none_known _ (search rules) in
    IfOk-weaker c.sum_up_words.result _ _ (λ _ summed definitions sound. summed definitions sound unknown) c.sum_up_words.ensures.sound
