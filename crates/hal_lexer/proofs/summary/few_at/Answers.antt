use Rattle.std.proofs.Common.{◌≡◌, rules}
use Rattle.hal_lexer.specs.Summary.{Gathers}
use Rattle.hal_lexer.proofs.summary.few_at.Goals as goal

pub returns-in-Words : goal.returns-in-Words
returns-in-Words c = λ all is.
    let same : c.as_slice.result.now ≡ c.in-Words.numbers.items = search rules in
    let there : Gathers c.args.comes.now c.in-Words.numbers.items all = rw same at (c.few_of.ensures all is) in
    rw c.in-Words.is there
