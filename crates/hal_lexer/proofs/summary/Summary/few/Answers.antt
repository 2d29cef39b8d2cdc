use Rattle.std.proofs.Common.{◌≡◌, ◌<◌, length, get_or, rules}
use Rattle.hal_lexer.specs.Summary.{Amounts}
use Rattle.hal_lexer.proofs.Places.{get_known}
use Rattle.hal_lexer.proofs.summary.Summary.few.Goals as goal

pub returns-in-Some : goal.returns-in-Some
returns-in-Some c = λ all is.
    let self = c.args.self.now in
    let number = c.args.number in
    let one = c.in-Some.cut.now in
    let there : number < length self.cuts.items = search rules in
    let got : one ≡ get_or self.cuts.items number one = search rules in
    let same : c.as_slice.result.now ≡ self.comes.items = search rules in
    let amounts : Amounts self.comes.items one number all = rw same at (c.few_at.ensures all is) in
    (one, get_known self.cuts.items number one there got, amounts)
